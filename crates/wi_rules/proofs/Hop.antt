-- What the rules of one hop do is the hop, in both directions.
use Rattle.std.proofs.Common.{◌≡◌, ℕ, zero, suc, ◌+◌, ◌<◌, ◌≤◌, true, List, [], ◌∷◌, ◌++◌, length, drop, slice_get, Option, Some, None, inl, refl, arith, sym, subst, zero-add}
use Rattle.std.specs.List.{list_all}
use Rattle.std.specs.Option.{option_map_or}
use Rattle.std.proofs.lemmas.Bool.{lt-ltb, le-ltb}
use Rattle.wi_labels.specs.declared.ops.Op.{Op}
use Rattle.wi_labels.specs.Header.{Entry}
use Rattle.wi_net.specs.declared.parts.Member.{Member}
use Rattle.wi_net.specs.Tables.{all_members}
use Rattle.wi_net.specs.Net.{labels_known}
use Rattle.wi_net.specs.Network.{op_known}
use Rattle.wi_pds.specs.declared.rule.Word2.{Word2}
use Rattle.wi_pds.specs.Runs.{symbols}
use Rattle.wi_rules.specs.declared.spot.Origin.{Origin}
use Rattle.wi_rules.specs.declared.spot.Spot.TheVariants.{Done, OnLink, Mid}
use Rattle.wi_rules.specs.Rules.{Encoding, SpotRule, working, word_over, on_way, rules_of, IsEncoding}
use Rattle.wi_rules.proofs.Lists.{In, option_in, one_in, get_in, all_in, drop_get, drop_end}
use Rattle.wi_rules.proofs.Members.{kept}
use Rattle.wi_rules.proofs.Ends.{Ends, stack, working_step, working_on}
use Rattle.wi_rules.proofs.Ops.{Wrote, wrote, Did, did, After}

module _ (s : Encoding) (k : IsEncoding s) where
  -- where a member's operations lead, if they aren't done, and if they are
  pub going : (member : Member) (m i q : ℕ) → i < length member.ops → on_way member m i q ≡ Mid m i q
  going member m i q h = rw (lt-ltb i (length member.ops) h) refl

  pub gone : (member : Member) (m i q : ℕ) → length member.ops ≤ i → on_way member m i q ≡ OnLink member.link q
  gone member m i q h = rw (le-ltb i (length member.ops) h) refl

  pub ops_of : (member : Member) (m : ℕ) → slice_get (all_members s.net.rows) m ≡ Some member → list_all (λ (op : Op). op_known s.net op) member.ops ≡ true
  ops_of member m e = (kept s.net k.net m member e).ops

  pub op_of : (member : Member) (m i : ℕ) (op : Op) → slice_get (all_members s.net.rows) m ≡ Some member → slice_get member.ops i ≡ Some op → op_known s.net op ≡ true
  op_of member m i op e f = all_in (λ (x : Op). op_known s.net x) member.ops op (ops_of member m e) (get_in member.ops i op f)

  in_mid : (member : Member) (m i q n : ℕ) (op : Op) (word : Word2) → slice_get (all_members s.net.rows) m ≡ Some member → slice_get member.ops (suc i) ≡ Some op → word_over s.net op n ≡ Some word
      → In (rules_of s (Mid m (suc i) q) (suc n)) (working s m (suc i) (on_way member m (suc (suc i)) q) word)
  in_mid member m i q n op word e f g = rw e (rw f (rw g (inl refl)))

  mid_in : (member : Member) (m i q n : ℕ) (op : Op) (r : SpotRule) → slice_get (all_members s.net.rows) m ≡ Some member → slice_get member.ops (suc i) ≡ Some op
      → In (rules_of s (Mid m (suc i) q) (suc n)) r → (word : Word2) × (word_over s.net op n ≡ Some word) × (working s m (suc i) (on_way member m (suc (suc i)) q) word ≡ r)
  mid_in member m i q n op r e f h =
      let h1 : In (option_map_or (λ (o : Op). option_map_or (λ (word : Word2). working s m (suc i) (on_way member m (suc (suc i)) q) word ∷ []) (word_over s.net o n) []) (slice_get member.ops (suc i)) []) r = rw e at h in
      let h2 : In (option_map_or (λ (word : Word2). working s m (suc i) (on_way member m (suc (suc i)) q) word ∷ []) (word_over s.net op n) []) r = rw f at h1 in
      let o = option_in (λ (word : Word2). working s m (suc i) (on_way member m (suc (suc i)) q) word ∷ []) (word_over s.net op n) r h2 in
      (o.0, o.1, one_in (working s m (suc i) (on_way member m (suc (suc i)) q) o.0) r o.2)

  -- the rest of a member's operations can be done on the stack where they can be done on the header
  pub mid_forward : (member : Member) (m q : ℕ) (h2 : List Entry) (t : List ℕ) (os : List Origin) (n : ℕ) → slice_get (all_members s.net.rows) m ≡ Some member → Ends s (OnLink member.link q) (stack h2) t os n → length t ≡ s.terms
      → (rest : List Op) (i : ℕ) (h : List Entry) → drop (suc i) member.ops ≡ rest → labels_known s.net h ≡ true → After rest h h2 → Ends s (on_way member m (suc i) q) (stack h) t os (length rest + n)
  mid_forward member m q h2 t os n e ends l [] i h d known a =
      rw (gone member m (suc i) q (drop_end member.ops (suc i) d), zero-add n) (rw a ends)
  mid_forward member m q h2 t os n e ends l (op ∷ rest) i [] d known a = let none : ◌≡◌ {A = Option (List Entry)} None (Some a.0) = a.1 in cc
  mid_forward member m q h2 t os n e ends l (op ∷ rest) i (top ∷ below) d known a =
      let at = drop_get member.ops (suc i) op rest d in
      let w : Wrote s.net op top below a.0 = wrote s.net op top below a.0 known a.1 in
      let later : Ends s (on_way member m (suc (suc i)) q) (stack a.0) t os (length rest + n) =
      mid_forward member m q h2 t os n e ends l rest (suc i) a.0 at.1 (w.known (op_of member m (suc i) op e at.0)) a.2 in
      let here : Ends s (Mid m (suc i) q) (stack (top ∷ below)) t os (suc (length rest + n)) =
      working_step s m (suc i) (Mid m (suc i) q) (on_way member m (suc (suc i)) q) w.word (suc top.0.0) (stack below) t os (length rest + n) (in_mid member m i q top.0.0 op w.word e at.0 w.word_is) (rw w.stack_is later) l in
      let more : length (op ∷ rest) + n ≡ suc (length rest + n) = omega arith in
      rw (going member m (suc i) q at.2, more) here

  -- the rest of a member's operations are done, and a run goes on
  pub record Worked (member : Member) (q : ℕ) (rest : List Op) (h : List Entry) (t : List ℕ) (os : List Origin) (n : ℕ) : Type 0 where
    pub header : List Entry
    pub count : ℕ
    pub after : After rest h header
    pub ends : Ends s (OnLink member.link q) (stack header) t os count
    pub number : n ≡ length rest + count
    pub known : labels_known s.net header ≡ true

  pub mid_backward : (member : Member) (m q : ℕ) → slice_get (all_members s.net.rows) m ≡ Some member
      → (rest : List Op) (i : ℕ) (h : List Entry) (t : List ℕ) (os : List Origin) (n : ℕ) → drop (suc i) member.ops ≡ rest → labels_known s.net h ≡ true → Ends s (on_way member m (suc i) q) (stack h) t os n → Worked member q rest h t os n
  mid_backward member m q e [] i h t os n d known ends = record {
    header = h;
    count = n;
    after = refl;
    ends = rw (gone member m (suc i) q (drop_end member.ops (suc i) d)) at ends;
    number = sym (zero-add n);
    known = known;
  }
  mid_backward member m q e (op ∷ rest) i h t os n d known ends =
      go h n known (rw (going member m (suc i) q at.2) at ends) (mid_backward member m q e rest (suc i))
    where
      at : (slice_get member.ops (suc i) ≡ Some op) × (drop (suc (suc i)) member.ops ≡ rest) × (suc i < length member.ops)
      at = drop_get member.ops (suc i) op rest d

      go : (h : List Entry) (n : ℕ) → labels_known s.net h ≡ true → Ends s (Mid m (suc i) q) (stack h) t os n
          → ((h : List Entry) (t : List ℕ) (os : List Origin) (n : ℕ) → drop (suc (suc i)) member.ops ≡ rest → labels_known s.net h ≡ true → Ends s (on_way member m (suc (suc i)) q) (stack h) t os n → Worked member q rest h t os n)
          → Worked member q (op ∷ rest) h t os n
      go h zero known ends ih = let no : Mid m (suc i) q ≡ Done = ends.0 in cc
      go [] (suc n) known ends ih = absurd ends.3
      go (top ∷ below) (suc n) known ends ih =
          let r : (word : Word2) × (word_over s.net op top.0.0 ≡ Some word) × (working s m (suc i) (on_way member m (suc (suc i)) q) word ≡ ends.0) = mid_in member m i q top.0.0 op ends.0 e at.0 ends.3 in
          let w : Did s.net op top below r.0 = did s.net op top below r.0 known r.1 in
          let on1 : Ends s (on_way member m (suc (suc i)) q) (symbols r.0 ++ stack below) t os n = working_on s m (suc i) ends.0 (on_way member m (suc (suc i)) q) r.0 (stack below) t ends.1 os ends.2 n r.2 ends.4 ends.5 ends.6 ends.7 in
          let on : Ends s (on_way member m (suc (suc i)) q) (stack w.next) t os n = subst (λ (x : List ℕ). Ends s (on_way member m (suc (suc i)) q) x t os n) w.stack_is on1 in
          let rest_is : Worked member q rest w.next t os n = ih w.next t os n at.1 (w.known (op_of member m (suc i) op e at.0)) on in
          record {
            header = rest_is.header;
            count = rest_is.count;
            after = (w.next, w.next_is, rest_is.after);
            ends = rest_is.ends;
            number = (let x : n ≡ length rest + rest_is.count = rest_is.number in omega (arith, x));
            known = rest_is.known;
          }
