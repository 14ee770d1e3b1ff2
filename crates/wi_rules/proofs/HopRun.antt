-- What the rules of one hop do is the hop, in both directions: from one link to the next.
use Rattle.std.proofs.Common.{◌≡◌, ℕ, zero, suc, ◌+◌, ◌≤◌, max, true, not, ◌&&◌, nat_le, List, [], ◌∷◌, ◌++◌, length, map, drop, slice_get, Option, Some, None, ◌⊎◌, inl, inr, refl, arith, ap, sym, ◌∙◌, subst}
use Rattle.std.specs.Prelude.{if◌then◌else◌}
use Rattle.std.specs.Option.{option_map, option_map_or}
use Rattle.std.proofs.lemmas.Bool.{and_parts, and_from, lt-ltb, not_from_false}
use Rattle.wi_labels.specs.declared.label.Label.{Label}
use Rattle.wi_labels.specs.declared.ops.Op.{Op}
use Rattle.wi_labels.specs.Header.{Entry, after_ops}
use Rattle.wi_net.specs.declared.parts.LinkId.{LinkId}
use Rattle.wi_net.specs.declared.parts.Member.{Member}
use Rattle.wi_net.specs.LinkSet.{has, is_apart, outside}
use Rattle.wi_net.specs.Tables.{all_members}
use Rattle.wi_net.specs.Net.{entry, before, risk_count, label_known, labels_known}
use Rattle.wi_weight.specs.Weights.{plus}
use Rattle.wi_pds.specs.declared.rule.Word2.{Word2}
use Rattle.wi_pds.specs.declared.rule.Word2.TheVariants.{One}
use Rattle.wi_pds.specs.Runs.{symbols}
use Rattle.wi_world.specs.declared.run.Step.{Step}
use Rattle.wi_world.specs.Moves.{Location, moved, needed, by_link, is_possible}
use Rattle.wi_world.specs.Runs.{work}
use Rattle.wi_world.proofs.Allowed.{Names, member_named, names_by_link, Possible, possible_parts}
use Rattle.wi_rules.specs.declared.spot.Origin.{Origin}
use Rattle.wi_rules.specs.declared.spot.Origin.TheVariants.{Hop}
use Rattle.wi_rules.specs.declared.spot.Spot.{Spot}
use Rattle.wi_rules.specs.declared.spot.Spot.TheVariants.{Done, OnLink}
use Rattle.wi_rules.specs.Rules.{Encoding, SpotRule, word_over, first_word_over, member_number, on_way, may_use, hop_rules, entry_rules, end_rules, on_link_rules, is_label, rules_of, IsEncoding}
use Rattle.wi_rules.specs.Goals.{main_origin, share_at}
use Rattle.wi_rules.proofs.Lists.{In, in_left, in_right, in_either, in_map, map_in, if_in, option_in, get_below}
use Rattle.wi_rules.proofs.Ends.{Ends, stack}
use Rattle.wi_rules.proofs.Ops.{class_known, Wrote, wrote, Did, did, After, after_from, after_to}
use Rattle.wi_rules.proofs.Members.{member_numbered, in_each_member, ForMember, each_member_in}
use Rattle.wi_rules.proofs.Hop.{gone, op_of, mid_forward, Worked, mid_backward}

-- the rule for a member of an entry
abbrev pub hop_rule : Encoding → LinkId → ℕ → Label → Step → Member → Word2 → ℕ → SpotRule
hop_rule s e q l step member word r = record { to = on_way member (member_number s.net e l step) 1 r; word = word; share = s.step_share e l step; origin = Hop step }

-- the top of a known header is a label of the network
pub top_label : (s : Encoding) (top : Entry) (below : List Entry) → labels_known s.net (top ∷ below) ≡ true → is_label s.net top.0.0 ≡ true
top_label s top below known =
    lt-ltb top.0.0 (length s.net.classes) (get_below s.net.classes top.0.0 top.1 (class_known s.net.classes top (and_parts (label_known s.net.classes top) (labels_known s.net below) known).0))

module _ (s : Encoding) (k : IsEncoding s) where
  -- a member of an entry
  pub record Listed (e : LinkId) (l : Label) (step : Step) : Type 0 where
    pub group : List Member
    pub member : Member
    pub group_is : slice_get (entry s.net e l) step.group ≡ Some group
    pub member_is : slice_get group step.member ≡ Some member

  pub numbered : (e : LinkId) (l : Label) (step : Step) (n : Listed e l step) → slice_get (all_members s.net.rows) (member_number s.net e l step) ≡ Some n.member
  numbered e l step n = member_numbered s.net.rows e l step.group step.member n.group n.member n.group_is n.member_is

  in_hop_rules : (e : LinkId) (q : ℕ) (l : Label) (step : Step) (member : Member) (word : Word2) (r : ℕ) → may_use s.net s.bounds (entry s.net e l) step.group member.link ≡ true
      → first_word_over s.net member.ops l.0 ≡ Some word → In (s.path.next q member.link.0) r → In (hop_rules s e q l step member) (hop_rule s e q l step member word r)
  in_hop_rules e q l step member word r u w i = rw u (rw w (in_map (hop_rule s e q l step member word) (s.path.next q member.link.0) r i))

  in_at : (e : LinkId) (q : ℕ) (l : Label) (step : Step) (n : Listed e l step) (word : Word2) (r : ℕ) → is_label s.net l.0 ≡ true → may_use s.net s.bounds (entry s.net e l) step.group n.member.link ≡ true
      → first_word_over s.net n.member.ops l.0 ≡ Some word → In (s.path.next q n.member.link.0) r → In (rules_of s (OnLink e q) (suc l.0)) (hop_rule s e q l step n.member word r)
  in_at e q l step n word r there u w i =
      rw there (in_left (entry_rules s e q l) _ (hop_rule s e q l step n.member word r)
      (in_each_member (hop_rules s e q l) (entry s.net e l) step n.group n.member (hop_rule s e q l step n.member word r) n.group_is n.member_is
      (in_hop_rules e q l step n.member word r u w i)))

  -- what a rule of an entry is made of
  pub record Hops (e : LinkId) (q : ℕ) (l : Label) (rule : SpotRule) : Type 0 where
    pub step : Step
    pub names : Listed e l step
    pub word : Word2
    pub to : ℕ
    pub usable : may_use s.net s.bounds (entry s.net e l) step.group names.member.link ≡ true
    pub word_is : first_word_over s.net names.member.ops l.0 ≡ Some word
    pub next : In (s.path.next q names.member.link.0) to
    pub is : hop_rule s e q l step names.member word to ≡ rule

  pub entry_in : (e : LinkId) (q : ℕ) (l : Label) (rule : SpotRule) → In (entry_rules s e q l) rule → Hops e q l rule
  entry_in e q l rule h =
      let a : ForMember (hop_rules s e q l) (entry s.net e l) rule = each_member_in (hop_rules s e q l) (entry s.net e l) rule h in
      let c = if_in (may_use s.net s.bounds (entry s.net e l) a.step.group a.member.link) (option_map_or (λ (word : Word2). map (hop_rule s e q l a.step a.member word) (s.path.next q a.member.link.0)) (first_word_over s.net a.member.ops l.0) []) rule a.there in
      let d = option_in (λ (word : Word2). map (hop_rule s e q l a.step a.member word) (s.path.next q a.member.link.0)) (first_word_over s.net a.member.ops l.0) rule c.1 in
      let f = map_in (hop_rule s e q l a.step a.member d.0) (s.path.next q a.member.link.0) rule d.2 in
      record {
        step = a.step;
        names = record { group = a.group; member = a.member; group_is = a.group_is; member_is = a.member_is };
        word = d.0;
        to = f.0;
        usable = c.0;
        word_is = d.1;
        next = f.1;
        is = f.2;
      }

  -- a possible hop through a member is one that the rules allow
  pub possible_use : (e : LinkId) (top : Entry) (below : List Entry) (step : Step) (p : Possible s.net s.bounds (e, top ∷ below) step) → may_use s.net s.bounds (entry s.net e top.0) step.group p.named.member.link ≡ true
  possible_use e top below step p =
      let b = before s.net (entry s.net e top.0) step.group in
      and_from (nat_le (risk_count s.net (outside (before s.net (entry s.net e top.0) step.group) s.bounds.down)) s.bounds.k && is_apart (before s.net (entry s.net e top.0) step.group) s.bounds.up)
      (not (has (before s.net (entry s.net e top.0) step.group) p.named.member.link) && not (has s.bounds.down p.named.member.link))
      (and_from (nat_le (risk_count s.net (outside (before s.net (entry s.net e top.0) step.group) s.bounds.down)) s.bounds.k) (is_apart (before s.net (entry s.net e top.0) step.group) s.bounds.up) p.few p.up)
      (and_from (not (has (before s.net (entry s.net e top.0) step.group) p.named.member.link)) (not (has s.bounds.down p.named.member.link)) (not_from_false (has (before s.net (entry s.net e top.0) step.group) p.named.member.link) p.spared) (not_from_false (has s.bounds.down p.named.member.link) p.alive))

  pub use_possible : (e : LinkId) (top : Entry) (below : List Entry) (step : Step) (n : Names s.net (e, top ∷ below) step) → may_use s.net s.bounds (entry s.net e top.0) step.group n.member.link ≡ true → is_possible s.net s.bounds (e, top ∷ below) step ≡ true
  use_possible e top below step n u =
      let few = nat_le (risk_count s.net (outside (needed s.net (e, top ∷ below) step) s.bounds.down)) s.bounds.k in
      let parts = and_parts (nat_le (risk_count s.net (outside (needed s.net (e, top ∷ below) step) s.bounds.down)) s.bounds.k && is_apart (needed s.net (e, top ∷ below) step) s.bounds.up) (not (has (needed s.net (e, top ∷ below) step) n.member.link) && not (has s.bounds.down n.member.link)) u in
      and_from (nat_le (risk_count s.net (outside (needed s.net (e, top ∷ below) step) s.bounds.down)) s.bounds.k && is_apart (needed s.net (e, top ∷ below) step) s.bounds.up)
      (by_link s.net (e, top ∷ below) step (λ d. not (has (needed s.net (e, top ∷ below) step) d) && not (has s.bounds.down d)))
      parts.0
      (names_by_link s.net (e, top ∷ below) step (λ d. not (has (needed s.net (e, top ∷ below) step) d) && not (has s.bounds.down d)) n parts.1)

  -- where a named member leads
  pub led : (at : Location) (step : Step) (n : Names s.net at step) (next : Location) → moved s.net at step ≡ Some next → (after_ops n.member.ops at.1 ≡ Some next.1) × (next.0 ≡ n.member.link)
  led at step n next m = go (after_ops n.member.ops at.1) refl
    where
      m1 : option_map (λ (h : List Entry). (n.member.link, h)) (after_ops n.member.ops at.1) ≡ Some next
      m1 = rw (member_named s.net at step n) at m

      go : (o : Option (List Entry)) → after_ops n.member.ops at.1 ≡ o → (after_ops n.member.ops at.1 ≡ Some next.1) × (next.0 ≡ n.member.link)
      go None e = let none : ◌≡◌ {A = Option Location} None (Some next) = rw e at m1 in cc
      go (Some h) e =
          let some : ◌≡◌ {A = Option Location} (Some (n.member.link, h)) (Some next) = rw e at m1 in
          let same : (n.member.link, h) ≡ next = cc in
          (e ∙ ap (λ (x : Location). Some x.1) same, sym (ap (λ (x : Location). x.0) same))

  lead : (at : Location) (step : Step) (n : Names s.net at step) (h : List Entry) → after_ops n.member.ops at.1 ≡ Some h → moved s.net at step ≡ Some (n.member.link, h)
  lead at step n h e = rw (member_named s.net at step n) (rw e refl)

  -- a member's work is by its operations
  pub work_named : (at : Location) (step : Step) (n : Names s.net at step) (next : Location) → work s.net at step next ≡ max 1 (length n.member.ops)
  work_named at step n next = rw (member_named s.net at step n) refl

  -- all operations of a member, of which the hop's rule does the first
  pub member_forward : (e : LinkId) (q r : ℕ) (top : Entry) (below h2 : List Entry) (step : Step) (n : Listed e top.0 step) (t : List ℕ) (os : List Origin) (c : ℕ) → may_use s.net s.bounds (entry s.net e top.0) step.group n.member.link ≡ true
      → In (s.path.next q n.member.link.0) r → labels_known s.net (top ∷ below) ≡ true → Ends s (OnLink n.member.link r) (stack h2) t os c → length t ≡ s.terms
      → (ops : List Op) → n.member.ops ≡ ops → After ops (top ∷ below) h2 → Ends s (OnLink e q) (stack (top ∷ below)) (plus (s.step_share e top.0 step) t) (Hop step ∷ os) (max 1 (length ops) + c)
  member_forward e q r top below h2 step n t os c u i known ends l [] is a =
      let word_is : first_word_over s.net n.member.ops top.0.0 ≡ Some (One (suc top.0.0)) = rw is refl in
      let none : length n.member.ops ≤ 1 = rw is (omega arith) in
      let rest : Ends s (on_way n.member (member_number s.net e top.0 step) 1 r) (stack (top ∷ below)) t os c = rw (gone s k n.member (member_number s.net e top.0 step) 1 r none) (subst (λ (x : List Entry). Ends s (OnLink n.member.link r) (stack x) t os c) (sym a) ends) in
      let one : max 1 (length {A = Op} []) + c ≡ suc c = omega arith in
      rw one (hop_rule s e q top.0 step n.member (One (suc top.0.0)) r, t, os, in_at e q top.0 step n (One (suc top.0.0)) r (top_label s top below known) u word_is i, rest, l, refl, refl)
  member_forward e q r top below h2 step n t os c u i known ends l (op ∷ ops) is a =
      let w : Wrote s.net op top below a.0 = wrote s.net op top below a.0 known a.1 in
      let word_is : first_word_over s.net n.member.ops top.0.0 ≡ Some w.word = rw is w.word_is in
      let first : slice_get n.member.ops 0 ≡ Some op = rw is refl in
      let others : drop 1 n.member.ops ≡ ops = rw is refl in
      let rest : Ends s (on_way n.member (member_number s.net e top.0 step) 1 r) (stack a.0) t os (length ops + c) =
      mid_forward s k n.member (member_number s.net e top.0 step) r h2 t os c (numbered e top.0 step n) ends l ops 0 a.0 others (w.known (op_of s k n.member (member_number s.net e top.0 step) 0 op (numbered e top.0 step n) first)) a.2 in
      let more : max 1 (length (op ∷ ops)) + c ≡ suc (length ops + c) = omega arith in
      rw more (hop_rule s e q top.0 step n.member w.word r, t, os, in_at e q top.0 step n w.word r (top_label s top below known) u word_is i, rw w.stack_is rest, l, refl, refl)

  -- A possible hop is made by rules: as many as it has operations, or one if it has none, of the step's weight.
  pub hop_forward : (e : LinkId) (q r : ℕ) (top : Entry) (below : List Entry) (step : Step) (next : Location) (t : List ℕ) (os : List Origin) (c : ℕ) → is_possible s.net s.bounds (e, top ∷ below) step ≡ true → moved s.net (e, top ∷ below) step ≡ Some next
      → In (s.path.next q next.0.0) r → labels_known s.net (top ∷ below) ≡ true → Ends s (OnLink next.0 r) (stack next.1) t os c → length t ≡ s.terms
      → Ends s (OnLink e q) (stack (top ∷ below)) (plus (share_at s (e, top ∷ below) step) t) (Hop step ∷ os) (work s.net (e, top ∷ below) step next + c)
  hop_forward e q r top below step next t os c h m i known ends l =
      let p : Possible s.net s.bounds (e, top ∷ below) step = possible_parts s.net s.bounds (e, top ∷ below) step h in
      let way : (after_ops p.named.member.ops (top ∷ below) ≡ Some next.1) × (next.0 ≡ p.named.member.link) = led (e, top ∷ below) step p.named next m in
      let n : Listed e top.0 step = record { group = p.named.group; member = p.named.member; group_is = p.named.group_is; member_is = p.named.member_is } in
      let there : Ends s (OnLink p.named.member.link r) (stack next.1) t os c = subst (λ (x : LinkId). Ends s (OnLink x r) (stack next.1) t os c) way.1 ends in
      let to : In (s.path.next q p.named.member.link.0) r = subst (λ (x : LinkId). In (s.path.next q x.0) r) way.1 i in
      let run : Ends s (OnLink e q) (stack (top ∷ below)) (plus (s.step_share e top.0 step) t) (Hop step ∷ os) (max 1 (length p.named.member.ops) + c) =
      member_forward e q r top below next.1 step n t os c (possible_use e top below step p) to known there l p.named.member.ops refl (after_from p.named.member.ops (top ∷ below) next.1 way.0) in
      rw (work_named (e, top ∷ below) step p.named next) run

  -- a run goes on after a hop
  pub record Hopped (at : Location) (q : ℕ) (t : List ℕ) (os : List Origin) (c : ℕ) : Type 0 where
    pub step : Step
    pub next : Location
    pub to : ℕ
    pub rest : List ℕ
    pub told : List Origin
    pub count : ℕ
    pub possible : is_possible s.net s.bounds at step ≡ true
    pub moves : moved s.net at step ≡ Some next
    pub path : In (s.path.next q next.0.0) to
    pub ends : Ends s (OnLink next.0 to) (stack next.1) rest told count
    pub long : length rest ≡ s.terms
    pub share : t ≡ plus (share_at s at step) rest
    pub tells : os ≡ Hop step ∷ told
    pub number : c ≡ work s.net at step next + count
    pub known : labels_known s.net next.1 ≡ true

  -- all operations of a member are done, after the first by the hop's rule
  record Led (member : Member) (to : ℕ) (ops : List Op) (h : List Entry) (u : List ℕ) (v : List Origin) (c : ℕ) : Type 0 where
    header : List Entry
    count : ℕ
    after : After ops h header
    ends : Ends s (OnLink member.link to) (stack header) u v count
    number : suc c ≡ max 1 (length ops) + count
    known : labels_known s.net header ≡ true

  member_backward : (e : LinkId) (q : ℕ) (top : Entry) (below : List Entry) (rule : SpotRule) (u : List ℕ) (v : List Origin) (c : ℕ) (h : Hops e q top.0 rule) → labels_known s.net (top ∷ below) ≡ true
      → Ends s rule.to (symbols rule.word ++ stack below) u v c → (ops : List Op) → h.names.member.ops ≡ ops → Led h.names.member h.to ops (top ∷ below) u v c
  member_backward e q top below rule u v c h known ends [] is =
      let wrote_is : ◌≡◌ {A = Option Word2} (Some (One (suc top.0.0))) (Some h.word) = rw is at h.word_is in
      let same : One (suc top.0.0) ≡ h.word = cc in
      let none : length h.names.member.ops ≤ 1 = rw is (omega arith) in
      let on1 : Ends s (on_way h.names.member (member_number s.net e top.0 h.step) 1 h.to) (symbols h.word ++ stack below) u v c = subst (λ (x : SpotRule). Ends s x.to (symbols x.word ++ stack below) u v c) (sym h.is) ends in
      let on2 : Ends s (on_way h.names.member (member_number s.net e top.0 h.step) 1 h.to) (stack (top ∷ below)) u v c = subst (λ (x : Word2). Ends s (on_way h.names.member (member_number s.net e top.0 h.step) 1 h.to) (symbols x ++ stack below) u v c) (sym same) on1 in
      record {
        header = top ∷ below;
        count = c;
        after = refl;
        ends = subst (λ (x : Spot). Ends s x (stack (top ∷ below)) u v c) (gone s k h.names.member (member_number s.net e top.0 h.step) 1 h.to none) on2;
        number = omega arith;
        known = known;
      }
  member_backward e q top below rule u v c h known ends (op ∷ ops) is =
      let word_is : word_over s.net op top.0.0 ≡ Some h.word = rw is at h.word_is in
      let w : Did s.net op top below h.word = did s.net op top below h.word known word_is in
      let first : slice_get h.names.member.ops 0 ≡ Some op = rw is refl in
      let others : drop 1 h.names.member.ops ≡ ops = rw is refl in
      let on1 : Ends s (on_way h.names.member (member_number s.net e top.0 h.step) 1 h.to) (symbols h.word ++ stack below) u v c = subst (λ (x : SpotRule). Ends s x.to (symbols x.word ++ stack below) u v c) (sym h.is) ends in
      let on2 : Ends s (on_way h.names.member (member_number s.net e top.0 h.step) 1 h.to) (stack w.next) u v c = subst (λ (x : List ℕ). Ends s (on_way h.names.member (member_number s.net e top.0 h.step) 1 h.to) x u v c) w.stack_is on1 in
      let r : Worked s k h.names.member h.to ops w.next u v c =
      mid_backward s k h.names.member (member_number s.net e top.0 h.step) h.to (numbered e top.0 h.step h.names) ops 0 w.next u v c others (w.known (op_of s k h.names.member (member_number s.net e top.0 h.step) 0 op (numbered e top.0 h.step h.names) first)) on2 in
      record {
        header = r.header;
        count = r.count;
        after = (w.next, w.next_is, r.after);
        ends = r.ends;
        number = (let x : c ≡ length ops + r.count = r.number in omega (arith, x));
        known = r.known;
      }

  -- the packet's journey is over, by a rule that ends a run
  pub record Over (e : LinkId) (q : ℕ) (h : List Entry) (t : List ℕ) (os : List Origin) (c : ℕ) : Type 0 where
    pub accepts : s.path.accepts q ≡ true
    pub top : Entry
    pub below : List Entry
    pub header_is : h ≡ top ∷ below
    pub rule : SpotRule
    pub there : In (end_rules s e top.0) rule
    pub rest : List ℕ
    pub told : List Origin
    pub count : ℕ
    pub ends : Ends s rule.to (symbols rule.word ++ stack below) rest told count
    pub share : t ≡ plus rule.share rest
    pub tells : os ≡ main_origin rule.origin ++ told
    pub number : c ≡ suc count

  -- From a link a run goes on by a possible hop, of the step's weight and number of rules, or the journey is over.
  pub hop_backward : (e : LinkId) (q : ℕ) (h : List Entry) (t : List ℕ) (os : List Origin) (c : ℕ) → labels_known s.net h ≡ true → Ends s (OnLink e q) (stack h) t os c → Hopped (e, h) q t os c ⊎ Over e q h t os c
  hop_backward e q h t os zero known ends = let no : OnLink e q ≡ Done = ends.0 in cc
  hop_backward e q [] t os (suc c) known ends = absurd ends.3
  hop_backward e q (top ∷ below) t os (suc c) known ends =
      elim (in_either (entry_rules s e q top.0) (if s.path.accepts q then end_rules s e top.0 else []) ends.0 (if_in (is_label s.net top.0.0) (on_link_rules s e q top.0) ends.0 ends.3).1) [
        | inl i ↦ inl (hopped (entry_in e q top.0 ends.0 i))
        | inr i ↦ inr (over i)
      ]
    where
      hopped : Hops e q top.0 ends.0 → Hopped (e, top ∷ below) q t os (suc c)
      hopped h =
          let l : Led h.names.member h.to h.names.member.ops (top ∷ below) ends.1 ends.2 c = member_backward e q top below ends.0 ends.1 ends.2 c h known ends.4 h.names.member.ops refl in
          let n : Names s.net (e, top ∷ below) h.step = record { group = h.names.group; member = h.names.member; group_is = h.names.group_is; member_is = h.names.member_is } in
          let next : Location = (h.names.member.link, l.header) in
          record {
            step = h.step;
            next = next;
            to = h.to;
            rest = ends.1;
            told = ends.2;
            count = l.count;
            possible = use_possible e top below h.step n h.usable;
            moves = lead (e, top ∷ below) h.step n l.header (after_to h.names.member.ops (top ∷ below) l.header l.after);
            path = h.next;
            ends = l.ends;
            long = ends.5;
            share = ends.6 ∙ ap (λ (x : SpotRule). plus x.share ends.1) (sym h.is);
            tells = ends.7 ∙ ap (λ (x : SpotRule). main_origin x.origin ++ ends.2) (sym h.is);
            number = l.number ∙ rw (work_named (e, top ∷ below) h.step n next) refl;
            known = l.known;
          }

      over : In (if s.path.accepts q then end_rules s e top.0 else []) ends.0 → Over e q (top ∷ below) t os (suc c)
      over i =
          let r = if_in (s.path.accepts q) (end_rules s e top.0) ends.0 i in
          record {
            accepts = r.0;
            top = top;
            below = below;
            header_is = refl;
            rule = ends.0;
            there = r.1;
            rest = ends.1;
            told = ends.2;
            count = c;
            ends = ends.4;
            share = ends.6;
            tells = ends.7;
            number = refl;
          }

  -- a rule that ends a run is one of the link's where the path's automaton accepts
  pub in_end : (e : LinkId) (q : ℕ) (top : Entry) (below : List Entry) (rule : SpotRule) → labels_known s.net (top ∷ below) ≡ true → s.path.accepts q ≡ true → In (end_rules s e top.0) rule → In (rules_of s (OnLink e q) (suc top.0.0)) rule
  in_end e q top below rule known a i = rw (top_label s top below known) (in_right (entry_rules s e q top.0) _ rule (rw a i))
