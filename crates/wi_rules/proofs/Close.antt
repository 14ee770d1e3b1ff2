-- What the rules pop at the end is the last header, read by the last automaton.
use Rattle.std.proofs.Common.{◌≡◌, ℕ, zero, suc, true, List, [], ◌∷◌, length, map, inl, refl, ap}
use Rattle.std.proofs.lemmas.Bool.{and_parts}
use Rattle.wi_labels.specs.Header.{Entry}
use Rattle.wi_net.specs.Net.{label_known, labels_known}
use Rattle.wi_pds.specs.declared.rule.Word2.TheVariants.{Empty}
use Rattle.wi_rules.specs.declared.spot.Origin.{Origin}
use Rattle.wi_rules.specs.declared.spot.Spot.TheVariants.{Done, Close}
use Rattle.wi_rules.specs.Rules.{Encoding, zeros, plain, is_label, Walks}
use Rattle.wi_rules.proofs.Lists.{In, contains_in, in_contains, in_map, map_in, if_in, one_in, length_zeros}
use Rattle.wi_rules.proofs.Header.{labels_of}
use Rattle.wi_rules.proofs.HopRun.{top_label}
use Rattle.wi_rules.proofs.Ends.{Ends, stack, plain_step, plain_on}

module _ (s : Encoding) where
  -- A header that the last automaton accepts from a state is popped, one rule a label, and one more for the bottom.
  pub close_forward : (h : List Entry) (q r : ℕ) → labels_known s.net h ≡ true → Walks s.last q (labels_of h) r → s.last.accepts r ≡ true → Ends s (Close q) (stack h) (zeros s) [] (suc (length h))
  close_forward [] q r known w a =
      let there : s.last.accepts q ≡ true = rw w a in
      plain_step s (Close q) Done Empty 0 [] (zeros s) [] 0 (rw there (inl refl)) (refl, refl, refl, refl) (length_zeros s)
  close_forward (l ∷ h) q r known w a =
      plain_step s (Close q) (Close w.0) Empty (suc l.0.0) (stack h) (zeros s) [] (suc (length h))
      (rw (top_label s l h known) (in_map (λ (x : ℕ). plain s (Close x) Empty) (s.last.next q l.0.0) w.0 (contains_in (s.last.next q l.0.0) w.0 w.1)))
      (close_forward h w.0 r ((and_parts (label_known s.net.classes l) (labels_known s.net h) known).1) w.2 a) (length_zeros s)

  -- what a run has read, and that it adds nothing
  pub record Read (q : ℕ) (h : List Entry) (t : List ℕ) (os : List Origin) (n : ℕ) : Type 0 where
    pub state : ℕ
    pub walks : Walks s.last q (labels_of h) state
    pub accepts : s.last.accepts state ≡ true
    pub share : t ≡ zeros s
    pub tells : os ≡ []
    pub number : n ≡ suc (length h)

  pub close_backward : (h : List Entry) (q : ℕ) (t : List ℕ) (os : List Origin) (n : ℕ) → Ends s (Close q) (stack h) t os n → Read q h t os n
  close_backward h q t os zero ends = let no : Close q ≡ Done = ends.0 in cc
  close_backward [] q t os (suc n) ends = last n (plain_on s ends.0 Done Empty [] t ends.1 os ends.2 n (one_in (plain s Done Empty) ends.0 c.1) ends.4 ends.5 ends.6 ends.7)
    where
      c : (s.last.accepts q ≡ true) × In (plain s Done Empty ∷ []) ends.0
      c = if_in (s.last.accepts q) (plain s Done Empty ∷ []) ends.0 ends.3

      last : (n : ℕ) → Ends s Done [] t os n → Read q [] t os (suc n)
      last zero e = record { state = q; walks = refl; accepts = c.0; share = e.2; tells = e.3; number = refl }
      last (suc n) e = absurd e
  close_backward (l ∷ h) q t os (suc n) ends =
      let m = map_in (λ (x : ℕ). plain s (Close x) Empty) (s.last.next q l.0.0) ends.0 (if_in (is_label s.net l.0.0) (map (λ (x : ℕ). plain s (Close x) Empty) (s.last.next q l.0.0)) ends.0 ends.3).1 in
      let on : Ends s (Close m.0) (stack h) t os n = plain_on s ends.0 (Close m.0) Empty (stack h) t ends.1 os ends.2 n m.2 ends.4 ends.5 ends.6 ends.7 in
      let r : Read m.0 h t os n = close_backward h m.0 t os n on in
      record {
        state = r.state;
        walks = (m.0, in_contains (s.last.next q l.0.0) m.0 m.1, r.walks);
        accepts = r.accepts;
        share = r.share;
        tells = r.tells;
        number = ap suc r.number;
      }
