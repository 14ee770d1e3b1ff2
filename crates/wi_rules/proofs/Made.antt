-- What the rules push at the start is a valid header that the first automaton accepts; then the packet sets out.
use Rattle.std.proofs.Common.{◌≡◌, ℕ, zero, suc, ◌+◌, ◌<◌, true, false, not, List, [], ◌∷◌, ◌++◌, length, map, refl, arith, ap, sym, ◌∙◌, subst, append_assoc, append-nil, zero-add}
use Rattle.std.specs.List.{Contains, flat_map, filter, range_with_len}
use Rattle.std.proofs.lemmas.Bool.{and_parts, not-true, not_from_false}
use Rattle.wi_labels.specs.declared.label.Class.{Class}
use Rattle.wi_labels.specs.Header.{Entry, is_valid_header}
use Rattle.wi_net.specs.declared.parts.LinkId.{LinkId}
use Rattle.wi_net.specs.LinkSet.{has}
use Rattle.wi_net.specs.Net.{is_link, links_where, label_known, labels_known}
use Rattle.wi_net.proofs.SetLemmas.{has_where, where_has}
use Rattle.wi_weight.specs.Weights.{plus}
use Rattle.wi_weight.specs.lemmas.Sums.{zero_plus}
use Rattle.wi_pds.specs.declared.rule.Word2.TheVariants.{One}
use Rattle.wi_pds.specs.Runs.{symbols}
use Rattle.wi_rules.specs.declared.spot.Origin.{Origin}
use Rattle.wi_rules.specs.declared.spot.Origin.TheVariants.{Pushed, SetOut}
use Rattle.wi_rules.specs.declared.spot.Spot.TheVariants.{Start, Done, Build, OnLink}
use Rattle.wi_rules.specs.Rules.{Automaton, Encoding, SpotRule, plain, pushing, may_build, build_rules, set_out_rules, is_label, rules_of, IsAutomaton, Walks, Accepts, IsEncoding}
use Rattle.wi_rules.specs.Goals.{main_origin}
use Rattle.wi_rules.proofs.Lists.{In, contains_in, in_contains, in_map, map_in, in_flat, flat_in, in_filter, filter_in, in_range, if_in, get_below, has_in, in_has}
use Rattle.wi_rules.proofs.Ends.{Ends, stack, plain_step, plain_on, pushing_on}
use Rattle.wi_rules.proofs.Ops.{class_known}
use Rattle.wi_rules.proofs.HopRun.{top_label}
use Rattle.wi_rules.proofs.Header.{labels_of, is_part, part_below, may_push, Pushed as Pushed_on, pushed}

pub labels_append : (a b : List Entry) → labels_of (a ++ b) ≡ labels_of a ++ labels_of b
labels_append [] b = refl
labels_append (l ∷ a) b = ap (λ (x : List ℕ). l.0.0 ∷ x) (labels_append a b)

pub walks_push : (a : Automaton) (xs : List ℕ) (q m x r : ℕ) → Walks a q xs m → Contains (a.next m x) r → Walks a q (xs ++ x ∷ []) r
walks_push a [] q m x r w c = (r, (let c2 : Contains (a.next q x) r = rw w c in c2), refl)
walks_push a (y ∷ xs) q m x r w c = (w.0, w.1, walks_push a xs w.0 m x r w.2 c)

-- a state that a word leads to is one of the automaton's
walks_below : (a : Automaton) → IsAutomaton a → (x : ℕ) (xs : List ℕ) (q r : ℕ) → Walks a q (x ∷ xs) r → r < a.states
walks_below a k x [] q r w = k.below q r x (rw w.2 at w.1)
walks_below a k x (y ∷ xs) q r w = walks_below a k y xs w.0 r w.2

-- what the rules that push a front stand for, before the rest
abbrev pub pushes : List Entry → List Origin → List Origin
pushes [] os = os
pushes (l ∷ front) os = pushes front (Pushed l.0 ∷ os)

pushes_end : (front : List Entry) (e : Entry) (os : List Origin) → pushes (front ++ e ∷ []) os ≡ Pushed e.0 ∷ pushes front os
pushes_end [] e os = refl
pushes_end (l ∷ front) e os = pushes_end front e (Pushed l.0 ∷ os)

module _ (s : Encoding) (k : IsEncoding s) where
  -- the rule that pushes one more label
  in_build : (l : Entry) (g q m : ℕ) → label_known s.net.classes l ≡ true → may_build s.net l.0.0 g ≡ true → Contains (s.first.next q l.0.0) (suc m) → In (rules_of s (Build (suc m)) g) (pushing s l.0.0 g q)
  in_build l g q m known may c =
      let there : l.0.0 < length s.net.classes = get_below s.net.classes l.0.0 l.1 (class_known s.net.classes l known) in
      in_flat (build_rules s (suc m) g) (range_with_len 0 (length s.net.classes)) l.0.0 (pushing s l.0.0 g q) (in_range 0 (length s.net.classes) l.0.0 (omega arith) (omega (arith, there)))
      (rw may (in_map (λ (r : ℕ). pushing s l.0.0 g r) (s.first_before (suc m) l.0.0) q (contains_in (s.first_before (suc m) l.0.0) q (k.first_turned.turned q (suc m) l.0.0 c))))

  push_step : (l : Entry) (h : List Entry) (q m : ℕ) (t : List ℕ) (os : List Origin) (n : ℕ) → is_part (l ∷ h) ≡ true → labels_known s.net (l ∷ h) ≡ true → Contains (s.first.next q l.0.0) m → Ends s (Build q) (stack (l ∷ h)) t os n → length t ≡ s.terms → Ends s (Build m) (stack h) t (Pushed l.0 ∷ os) (suc n)
  push_step l h q zero t os n p known c ends len = absurd (k.first_turned.start q l.0.0 c)
  push_step l [] q (suc m) t os n p known c ends len =
      (pushing s l.0.0 0 q, t, os, in_build l 0 q m ((and_parts (label_known s.net.classes l) (labels_known s.net []) known).0) (may_push s.net l [] p known) c, ends, len, sym (zero_plus s.terms t len), refl)
  push_step l (x ∷ h) q (suc m) t os n p known c ends len =
      (pushing s l.0.0 (suc x.0.0) q, t, os, in_build l (suc x.0.0) q m ((and_parts (label_known s.net.classes l) (labels_known s.net (x ∷ h)) known).0) (may_push s.net l (x ∷ h) p known) c, ends, len, sym (zero_plus s.terms t len), refl)

  -- The labels over a part of a header are pushed, where the first automaton comes to the state by them.
  pub build_forward : (front : List Entry) (h : List Entry) (q m : ℕ) (t : List ℕ) (os : List Origin) (n : ℕ) → is_part (front ++ h) ≡ true → labels_known s.net (front ++ h) ≡ true → Walks s.first q (labels_of front) m
      → Ends s (Build q) (stack (front ++ h)) t os n → length t ≡ s.terms → Ends s (Build m) (stack h) t (pushes front os) (length front + n)
  build_forward [] h q m t os n p known w ends len = rw (zero-add n) (subst (λ (x : ℕ). Ends s (Build x) (stack h) t os n) w ends)
  build_forward (l ∷ front) h q m t os n p known w ends len =
      let later : Ends s (Build w.0) (stack (front ++ h)) t (Pushed l.0 ∷ os) (suc n) = push_step l (front ++ h) q w.0 t os n p known w.1 ends len in
      let all : Ends s (Build m) (stack h) t (pushes front (Pushed l.0 ∷ os)) (length front + suc n) = build_forward front h w.0 m t (Pushed l.0 ∷ os) (suc n) (part_below l (front ++ h) p) ((and_parts (label_known s.net.classes l) (labels_known s.net (front ++ h)) known).1) w.2 later len in
      let more : length (l ∷ front) + n ≡ length front + suc n = omega arith in
      rw more all

  -- what a run has pushed over a part of a header
  pub record Made (q : ℕ) (h : List Entry) (t : List ℕ) (os : List Origin) (n : ℕ) : Type 0 where
    pub front : List Entry
    pub told : List Origin
    pub count : ℕ
    pub walks : Walks s.first 0 (labels_of front) q
    pub part : is_part (front ++ h) ≡ true
    pub known : labels_known s.net (front ++ h) ≡ true
    pub ends : Ends s (Build 0) (stack (front ++ h)) t told count
    pub tells : os ≡ pushes front told
    pub number : n ≡ length front + count

  -- one label more, under those that are pushed later
  made_more : (l : ℕ) (class : Class) (h : List Entry) (q m : ℕ) (t : List ℕ) (os : List Origin) (n : ℕ) → Contains (s.first.next q l) m → Made q ((record { 0 = l }, class) ∷ h) t os n → Made m h t (Pushed (record { 0 = l }) ∷ os) (suc n)
  made_more l class h q m t os n c r =
      let e : Entry = (record { 0 = l }, class) in
      let same : (r.front ++ (e ∷ [])) ++ h ≡ r.front ++ (e ∷ h) = append_assoc r.front (e ∷ []) h in
      record {
        front = r.front ++ (e ∷ []);
        told = r.told;
        count = r.count;
        walks = subst (λ (x : List ℕ). Walks s.first 0 x m) (sym (labels_append r.front (e ∷ []))) (walks_push s.first (labels_of r.front) 0 q l m r.walks c);
        part = rw same r.part;
        known = rw same r.known;
        ends = rw same r.ends;
        tells = ap (λ (x : List Origin). Pushed (record { 0 = l }) ∷ x) r.tells ∙ sym (pushes_end r.front e r.told);
        number = (let x : n ≡ length r.front + r.count = r.number in let y : length (r.front ++ (e ∷ [])) ≡ length r.front + 1 = length_push r.front e in omega (arith, x, y));
      }
    where
      length_push : (xs : List Entry) (x : Entry) → length (xs ++ (x ∷ [])) ≡ length xs + 1
      length_push [] x = refl
      length_push (y ∷ xs) x = let p : length (xs ++ (x ∷ [])) ≡ length xs + 1 = length_push xs x in omega (arith, p)

  pub build_backward : (n : ℕ) (q : ℕ) (h : List Entry) (t : List ℕ) (os : List Origin) → is_part h ≡ true → labels_known s.net h ≡ true → Ends s (Build q) (stack h) t os n → Made q h t os n
  build_backward n zero h t os p known ends = record { front = []; told = os; count = n; walks = refl; part = p; known = known; ends = ends; tells = refl; number = sym (zero-add n) }
  build_backward zero (suc m) h t os p known ends = let no : Build (suc m) ≡ Done = ends.0 in cc
  build_backward (suc n) (suc m) h t os p known ends = go h p known ends (build_backward n)
    where
      go : (h : List Entry) → is_part h ≡ true → labels_known s.net h ≡ true → Ends s (Build (suc m)) (stack h) t os (suc n)
          → ((q : ℕ) (h : List Entry) (t : List ℕ) (os : List Origin) → is_part h ≡ true → labels_known s.net h ≡ true → Ends s (Build q) (stack h) t os n → Made q h t os n) → Made (suc m) h t os (suc n)
      go [] p known ends ih =
          let a = flat_in (build_rules s (suc m) 0) (range_with_len 0 (length s.net.classes)) ends.0 ends.3 in
          let b = if_in (may_build s.net a.0 0) (map (λ (r : ℕ). pushing s a.0 0 r) (s.first_before (suc m) a.0)) ends.0 a.2 in
          let c = map_in (λ (r : ℕ). pushing s a.0 0 r) (s.first_before (suc m) a.0) ends.0 b.1 in
          let w : Pushed_on s.net a.0 [] = pushed s.net a.0 [] p known b.0 in
          let on : Ends s (Build c.0) (suc a.0 ∷ 0 ∷ []) t ends.2 n × (os ≡ Pushed (record { 0 = a.0 }) ∷ ends.2) = pushing_on s ends.0 a.0 0 c.0 [] t ends.1 os ends.2 n c.2 ends.4 ends.5 ends.6 ends.7 in
          subst (λ (x : List Origin). Made (suc m) [] t x (suc n)) (sym on.1)
          (made_more a.0 w.class [] c.0 (suc m) t ends.2 n (k.first_turned.returned c.0 (suc m) a.0 (in_contains (s.first_before (suc m) a.0) c.0 c.1)) (ih c.0 ((record { 0 = a.0 }, w.class) ∷ []) t ends.2 w.part w.known on.0))
      go (x ∷ h) p known ends ih =
          let a = flat_in (build_rules s (suc m) (suc x.0.0)) (range_with_len 0 (length s.net.classes)) ends.0 ends.3 in
          let b = if_in (may_build s.net a.0 (suc x.0.0)) (map (λ (r : ℕ). pushing s a.0 (suc x.0.0) r) (s.first_before (suc m) a.0)) ends.0 a.2 in
          let c = map_in (λ (r : ℕ). pushing s a.0 (suc x.0.0) r) (s.first_before (suc m) a.0) ends.0 b.1 in
          let w : Pushed_on s.net a.0 (x ∷ h) = pushed s.net a.0 (x ∷ h) p known b.0 in
          let on : Ends s (Build c.0) (suc a.0 ∷ suc x.0.0 ∷ stack h) t ends.2 n × (os ≡ Pushed (record { 0 = a.0 }) ∷ ends.2) = pushing_on s ends.0 a.0 (suc x.0.0) c.0 (stack h) t ends.1 os ends.2 n c.2 ends.4 ends.5 ends.6 ends.7 in
          subst (λ (y : List Origin). Made (suc m) (x ∷ h) t y (suc n)) (sym on.1)
          (made_more a.0 w.class (x ∷ h) c.0 (suc m) t ends.2 n (k.first_turned.returned c.0 (suc m) a.0 (in_contains (s.first_before (suc m) a.0) c.0 c.1)) (ih c.0 ((record { 0 = a.0 }, w.class) ∷ x ∷ h) t ends.2 w.part w.known on.0))

  -- A valid header that the first automaton accepts is made from the bottom alone.
  pub start_forward : (l : Entry) (h : List Entry) (t : List ℕ) (os : List Origin) (n : ℕ) → is_valid_header (l ∷ h) ≡ true → labels_known s.net (l ∷ h) ≡ true → Accepts s.first (labels_of (l ∷ h)) → Ends s (Build 0) (stack (l ∷ h)) t os n → length t ≡ s.terms
      → Ends s Start (0 ∷ []) t (pushes (l ∷ h) os) (suc (length (l ∷ h) + n))
  start_forward l h t os n v known a ends len =
      let same : (l ∷ h) ++ [] ≡ l ∷ h = append-nil (l ∷ h) in
      let below : a.0 < s.first.states = walks_below s.first k.first l.0.0 (labels_of h) 0 a.0 a.1 in
      let made : Ends s (Build a.0) (stack []) t (pushes (l ∷ h) os) (length (l ∷ h) + n) =
      build_forward (l ∷ h) [] 0 a.0 t os n (subst (λ (x : List Entry). is_part x ≡ true) (sym same) v) (subst (λ (x : List Entry). labels_known s.net x ≡ true) (sym same) known) a.1 (subst (λ (x : List Entry). Ends s (Build 0) (stack x) t os n) (sym same) ends) len in
      plain_step s Start (Build a.0) (One 0) 0 [] t (pushes (l ∷ h) os) (length (l ∷ h) + n)
      (in_map (λ (q : ℕ). plain s (Build q) (One 0)) (filter (λ (q : ℕ). s.first.accepts q) (range_with_len 0 s.first.states)) a.0
      (in_filter (λ (q : ℕ). s.first.accepts q) (range_with_len 0 s.first.states) a.0 (in_range 0 s.first.states a.0 (omega arith) (omega (arith, below))) a.2))
      made len

  -- the header that a run has made
  pub record Begun (t : List ℕ) (os : List Origin) (n : ℕ) : Type 0 where
    pub header : List Entry
    pub told : List Origin
    pub count : ℕ
    pub accepted : Accepts s.first (labels_of header)
    pub part : is_part header ≡ true
    pub known : labels_known s.net header ≡ true
    pub ends : Ends s (Build 0) (stack header) t told count
    pub tells : os ≡ pushes header told
    pub number : n ≡ suc (length header + count)

  pub start_backward : (t : List ℕ) (os : List Origin) (n : ℕ) → Ends s Start (0 ∷ []) t os n → Begun t os n
  start_backward t os zero ends = let no : Start ≡ Done = ends.0 in cc
  start_backward t os (suc n) ends =
      let a = map_in (λ (q : ℕ). plain s (Build q) (One 0)) (filter (λ (q : ℕ). s.first.accepts q) (range_with_len 0 s.first.states)) ends.0 ends.3 in
      let b = filter_in (λ (q : ℕ). s.first.accepts q) (range_with_len 0 s.first.states) a.0 a.1 in
      let on : Ends s (Build a.0) (stack []) t os n = plain_on s ends.0 (Build a.0) (One 0) [] t ends.1 os ends.2 n a.2 ends.4 ends.5 ends.6 ends.7 in
      let m : Made a.0 [] t os n = build_backward n a.0 [] t os refl refl on in
      let all : m.front ++ [] ≡ m.front = append-nil m.front in
      record {
        header = m.front;
        told = m.told;
        count = m.count;
        accepted = (a.0, m.walks, b.1);
        part = subst (λ (x : List Entry). is_part x ≡ true) all m.part;
        known = subst (λ (x : List Entry). labels_known s.net x ≡ true) all m.known;
        ends = subst (λ (x : List Entry). Ends s (Build 0) (stack x) t m.told m.count) all m.ends;
        tells = m.tells;
        number = ap suc m.number;
      }

  -- The packet sets out on a link that isn't known to be down.
  pub out_forward : (l : Entry) (h : List Entry) (e : LinkId) (q : ℕ) (t : List ℕ) (os : List Origin) (n : ℕ) → labels_known s.net (l ∷ h) ≡ true → is_link s.net e ≡ true → has s.bounds.down e ≡ false → Contains (s.path.next 0 e.0) q → Ends s (OnLink e q) (stack (l ∷ h)) t os n → length t ≡ s.terms
      → Ends s (Build 0) (stack (l ∷ h)) (plus (s.first_share e) t) (SetOut e ∷ os) (suc n)
  out_forward l h e q t os n known link up c ends len =
      let rule : SpotRule = record { to = OnLink e q; word = One (suc l.0.0); share = s.first_share e; origin = SetOut e } in
      let there : In (links_where s.net (λ e. not (has s.bounds.down e))) e =
      has_in (links_where s.net (λ e. not (has s.bounds.down e))) e (has_where s.net (λ e. not (has s.bounds.down e)) e link (not_from_false (has s.bounds.down e) up)) in (
        rule,
        t,
        os,
        rw (top_label s l h known) (in_flat (set_out_rules s l.0.0) (links_where s.net (λ e. not (has s.bounds.down e))) e rule there
            (in_map (λ (q : ℕ). record { to = OnLink e q; word = One (suc l.0.0); share = s.first_share e; origin = SetOut e }) (s.path.next 0 e.0) q (contains_in (s.path.next 0 e.0) q c))),
        ends,
        len,
        refl,
        refl,
      )

  -- the link that a run sets out on
  pub record SetsOut (h : List Entry) (t : List ℕ) (os : List Origin) (n : ℕ) : Type 0 where
    pub link : LinkId
    pub state : ℕ
    pub rest : List ℕ
    pub told : List Origin
    pub count : ℕ
    pub valid : is_valid_header h ≡ true
    pub is_there : is_link s.net link ≡ true
    pub is_up : has s.bounds.down link ≡ false
    pub path : Contains (s.path.next 0 link.0) state
    pub ends : Ends s (OnLink link state) (stack h) rest told count
    pub long : length rest ≡ s.terms
    pub share : t ≡ plus (s.first_share link) rest
    pub tells : os ≡ SetOut link ∷ told
    pub number : n ≡ suc count

  pub out_backward : (h : List Entry) (t : List ℕ) (os : List Origin) (n : ℕ) → is_part h ≡ true → Ends s (Build 0) (stack h) t os n → SetsOut h t os n
  out_backward h t os zero p ends = let no : Build 0 ≡ Done = ends.0 in cc
  out_backward [] t os (suc n) p ends = absurd ends.3
  out_backward (l ∷ h) t os (suc n) p ends =
      let a = flat_in (set_out_rules s l.0.0) (links_where s.net (λ e. not (has s.bounds.down e))) ends.0 (if_in (is_label s.net l.0.0) (flat_map (set_out_rules s l.0.0) (links_where s.net (λ e. not (has s.bounds.down e)))) ends.0 ends.3).1 in
      let b = where_has s.net (λ e. not (has s.bounds.down e)) a.0 (in_has (links_where s.net (λ e. not (has s.bounds.down e))) a.0 a.1) in
      let to_rule : ℕ → SpotRule = λ q. record { to = OnLink a.0 q; word = One (suc l.0.0); share = s.first_share a.0; origin = SetOut a.0 } in
      let c = map_in to_rule (s.path.next 0 a.0.0) ends.0 a.2 in
      record {
        link = a.0;
        state = c.0;
        rest = ends.1;
        told = ends.2;
        count = n;
        valid = p;
        is_there = b.0;
        is_up = not-true (has s.bounds.down a.0) b.1;
        path = in_contains (s.path.next 0 a.0.0) c.0 c.1;
        ends = subst (λ (x : SpotRule). Ends s x.to (symbols x.word ++ stack h) ends.1 ends.2 n) (sym c.2) ends.4;
        long = ends.5;
        share = ends.6 ∙ ap (λ (x : SpotRule). plus x.share ends.1) (sym c.2);
        tells = ends.7 ∙ ap (λ (x : SpotRule). main_origin x.origin ++ ends.2) (sym c.2);
        number = refl;
      }
