-- The lines that show an answer, and what is shown.
use Rattle.std.specs.Prelude.{◌≡◌, ℕ, ◌+◌, ◌-◌, ◌^◌, ◌<◌, ◌≤◌, Bool, true, false, ◌&&◌, ◌==◌, if◌then◌else◌, List, [], ◌∷◌, ◌++◌, Option, Some, None, length, map, refl, codes, nat_lt, nat_le, option_and_then, option_map, MatchBool}
use Rattle.std.proofs.Common.{sym, ap, ◌∙◌, subst, arith, append-nil}
use Rattle.std.proofs.lemmas.List.Elements.{All-weaker}
use Rattle.std.proofs.lemmas.Bool.Decides.{nat_tests}
use Rattle.wi_weight.specs.Weights.{EachBelow}
use Rattle.wi_cert.specs.declared.shown.Dropped.{Dropped}
use Rattle.wi_cert.specs.declared.shown.Shown.{Shown}
use Rattle.wi_cert.specs.declared.shown.ShownPlace.{ShownPlace}
use Rattle.wi_cert.specs.declared.shown.ShownPlace.TheVariants.{Terms, Answer, Weight, First, StepCount, Step, Dropped as DroppedAt}
use Rattle.wi_cert.specs.Numbers.{numbers_in, count_after, count_line}
use Rattle.wi_cert.specs.Shown.{is_no, answer_line, weight_line, first_line, pair_line, dropped_lines, title_line, shown_lines, MayBeDropped, IsShown, HasDroppedRanges, HasShownRanges, step_of, claim_of, weight_of, first_of, steps_left, dropped_of, asked_shown}
use Rattle.wi_cert.proofs.Cases.{by_test, bind_some, map_some, if_some, unless_some}
use Rattle.wi_cert.proofs.FormLemmas.{AnyStep, IsStep, count_spells, step_adds, claim_is, weight_is, first_is, dropped_is}
use Rattle.wi_cert.proofs.BlockLemmas.{IsGood, block, empty_good, good_more, starts, grows, ends, good_ends, behind}

-- by how many items are to come
by_steps_left : (dropped : Option Dropped) (n : ℕ) (P : Option ShownPlace → Type 0) → (n ≡ 0 → dropped ≡ None → P None) → (n ≡ 0 → (d : Dropped) → dropped ≡ Some d → P (Some DroppedAt)) → (0 < n → P (Some (Step n))) → P (steps_left dropped n)
by_steps_left dropped n P none last some = by_test (n == 0)
    (λ (e : (n == 0) ≡ true). let z : n ≡ 0 = grind (arith, nat_tests, e) in subst P (sym (left_none e)) (by_version z dropped refl))
    (λ (e : (n == 0) ≡ false). let z : 0 < n = grind (arith, nat_tests, e) in subst P (sym (left_some e)) (some z))
  where
    by_version : n ≡ 0 → (o : Option Dropped) → dropped ≡ o → P (option_map (λ d. DroppedAt) o)
    by_version z None e = none z e
    by_version z (Some d) e = last z d e

    left_none : (n == 0) ≡ true → steps_left dropped n ≡ option_map (λ d. DroppedAt) dropped
    left_none e = rw e refl

    left_some : (n == 0) ≡ false → steps_left dropped n ≡ Some (Step n)
    left_some e = rw e refl

-- the five lines before `steps`
abbrev pub five : List ℕ → Shown → List (List ℕ)
five front s = title_line front s.dropped ∷ count_line (codes "terms ") s.terms ∷ answer_line s.claim ∷ weight_line s ∷ first_line s ∷ []

-- the first line, and the lines so far of those that show the answer
abbrev pub written_shown : List ℕ → ShownPlace → Shown → List (List ℕ)
written_shown front Terms s = title_line front s.dropped ∷ []
written_shown front Answer s = title_line front s.dropped ∷ count_line (codes "terms ") s.terms ∷ []
written_shown front Weight s = title_line front s.dropped ∷ count_line (codes "terms ") s.terms ∷ answer_line s.claim ∷ []
written_shown front First s = title_line front s.dropped ∷ count_line (codes "terms ") s.terms ∷ answer_line s.claim ∷ weight_line s ∷ []
written_shown front StepCount s = five front s
written_shown front (Step n) s = five front s ++ block (codes "steps ") pair_line (length s.steps + n) s.steps
written_shown front DroppedAt s = five front s ++ block (codes "steps ") pair_line (length s.steps) s.steps

abbrev pub WeightIs : Shown → Type 0
WeightIs s = (length s.weight ≡ (if is_no s.claim then 0 else s.terms + 1)) × EachBelow (2 ^ 64) s.weight

abbrev pub FirstIs : Shown → Type 0
FirstIs s = MatchBool (is_no s.claim) (s.first ≡ []) (1 < length s.first) × EachBelow (2 ^ 32) s.first

pub record IsGoodStep (n : ℕ) (s : Shown) : Type 0 where
  terms : s.terms ≤ 5
  weight : WeightIs s
  first : FirstIs s
  answers : is_no s.claim ≡ false
  left : 0 < n
  steps : IsGood AnyStep IsStep s.steps n

pub record IsGoodEnd (s : Shown) : Type 0 where
  terms : s.terms ≤ 5
  weight : WeightIs s
  first : FirstIs s
  no_steps : is_no s.claim ≡ true → s.steps ≡ []
  steps : IsGood AnyStep IsStep s.steps 0
  dropped : Dropped
  begun : s.dropped ≡ Some dropped

abbrev pub IsGoodShown : ShownPlace → Shown → Type 0
IsGoodShown Terms s = s.steps ≡ []
IsGoodShown Answer s = (s.terms ≤ 5) × (s.steps ≡ [])
IsGoodShown Weight s = (s.terms ≤ 5) × (s.steps ≡ [])
IsGoodShown First s = (s.terms ≤ 5) × (s.steps ≡ []) × WeightIs s
IsGoodShown StepCount s = (s.terms ≤ 5) × (s.steps ≡ []) × WeightIs s × FirstIs s
IsGoodShown (Step n) s = IsGoodStep n s
IsGoodShown DroppedAt s = IsGoodEnd s

pub record IsWholeShown (s : Shown) : Type 0 where
  pub shown : IsShown s
  pub ranges : HasShownRanges s

abbrev pub StandsShown : List ℕ → List (List ℕ) → Shown → Option ShownPlace → Type 0
StandsShown front lines s (Some p) = (lines ≡ written_shown front p s) × IsGoodShown p s
StandsShown front lines s None = (lines ≡ title_line front s.dropped ∷ shown_lines s) × IsWholeShown s

whole_shown : (s : Shown) → s.terms ≤ 5 → WeightIs s → FirstIs s → (is_no s.claim ≡ true → s.steps ≡ []) → IsGood AnyStep IsStep s.steps 0 → MayBeDropped s.claim s.dropped → HasDroppedRanges s.dropped → IsWholeShown s
whole_shown s t w f none g may range = record {
  shown = record { terms = t; weight = w.0; first = f.0; no_steps = none; steps = All-weaker IsStep (λ x. (0 < x.0) × (0 < x.1)) (λ x h. (h.0, h.1)) s.steps g.ranges; dropped = may };
  ranges = record { weight = w.1; first = f.1; steps = All-weaker IsStep (λ x. (x.0 < 2 ^ 32) × (x.1 < 2 ^ 32)) (λ x h. (h.2, h.3)) s.steps g.ranges; count = small (length s.steps) g.count; dropped = range };
}
  where
    small : (n : ℕ) → n + 0 < 2 ^ 64 → n < 2 ^ 64
    small n h = omega arith

not_both : (a b : Bool) → (a && b) ≡ false → b ≡ true → a ≡ false
not_both true b h k = cc
not_both false b h k = refl

-- the lines before, and what is shown, at each place
module _ (front : List ℕ) (lines : List (List ℕ)) (s : Shown) (line : List ℕ) where
  -- in version 1 nothing more is to come
  no_more : (t : Shown) → t.dropped ≡ None → five front t ++ block (codes "steps ") pair_line (length t.steps) t.steps ≡ title_line front t.dropped ∷ shown_lines t
  no_more t none = ap (λ x. five front t ++ count_line (codes "steps ") (length t.steps) ∷ x) (sym (append-nil (map pair_line t.steps)) ∙ ap (λ o. map pair_line t.steps ++ dropped_lines o) (sym none))

  at_steps : (t : Shown) (m : ℕ) → (lines : List (List ℕ)) → lines ≡ five front t ++ block (codes "steps ") pair_line (length t.steps + m) t.steps → t.terms ≤ 5 → WeightIs t → FirstIs t → (is_no t.claim ≡ true → t.steps ≡ []) → (0 < m → is_no t.claim ≡ false) → IsGood AnyStep IsStep t.steps m
      → StandsShown front lines t (steps_left t.dropped m)
  at_steps t m lines e terms w f none answers g = by_steps_left t.dropped m (StandsShown front lines t)
      (λ z one. (e ∙ ap (λ x. five front t ++ x) (ends AnyStep IsStep (codes "steps ") pair_line t.steps m z) ∙ no_more t one, whole_shown t terms w f none (good_ends AnyStep IsStep (codes "steps ") pair_line t.steps m z g) (subst (MayBeDropped t.claim) (sym one) tt) (subst HasDroppedRanges (sym one) tt)))
      (λ z d two. (e ∙ ap (λ x. five front t ++ x) (ends AnyStep IsStep (codes "steps ") pair_line t.steps m z), record { terms = terms; weight = w; first = f; no_steps = none; steps = good_ends AnyStep IsStep (codes "steps ") pair_line t.steps m z g; dropped = d; begun = two }))
      (λ z. (e, record { terms = terms; weight = w; first = f; answers = answers z; left = z; steps = g }))

  pub shown_step : (p : ShownPlace) → lines ≡ written_shown front p s → IsGoodShown p s → (x : Option ShownPlace × Shown) → asked_shown p s line ≡ Some x → StandsShown front (lines ++ line ∷ []) x.1 x.0
  shown_step Terms e g x h =
      let r = bind_some (λ n. if nat_le n 5 then Some (Some Answer, record s { terms = n }) else None) (count_after (codes "terms ") line) x h in
      let k = if_some (nat_le r.0 5) (Some Answer, record s { terms = r.0 }) x r.2 in
      let c = count_spells (codes "terms ") line r.0 r.1 in
      let few : r.0 ≤ 5 = grind (arith, nat_tests, k.0) in
      subst (λ (y : Option ShownPlace × Shown). StandsShown front (lines ++ line ∷ []) y.1 y.0) k.1 (ap (λ x. x ++ line ∷ []) e ∙ ap (λ l. title_line front s.dropped ∷ l ∷ []) c.0, (few, g))
  shown_step Answer e g x h =
      let r = map_some (λ claim. (Some Weight, record s { claim = claim })) (claim_of line) x h in
      subst (λ (y : Option ShownPlace × Shown). StandsShown front (lines ++ line ∷ []) y.1 y.0) r.2 (ap (λ x. x ++ line ∷ []) e ∙ ap (λ l. title_line front s.dropped ∷ count_line (codes "terms ") s.terms ∷ l ∷ []) (claim_is line r.0 r.1), g)
  shown_step Weight e g x h =
      let r = map_some (λ w. (Some First, record s { weight = w })) (weight_of s.claim s.terms line) x h in
      let k = weight_is (is_no s.claim) s.terms line r.0 r.1 in
      subst (λ (y : Option ShownPlace × Shown). StandsShown front (lines ++ line ∷ []) y.1 y.0) r.2 (
        ap (λ x. x ++ line ∷ []) e ∙ ap (λ l. title_line front s.dropped ∷ count_line (codes "terms ") s.terms ∷ answer_line s.claim ∷ l ∷ []) k.0,
        (g.0, g.1, (k.1, k.2)),
      )
  shown_step First e g x h =
      let r = map_some (λ ns. (Some StepCount, record s { first = ns })) (first_of s.claim line) x h in
      let k = first_is (is_no s.claim) line r.0 r.1 in
      subst (λ (y : Option ShownPlace × Shown). StandsShown front (lines ++ line ∷ []) y.1 y.0) r.2 (
        ap (λ x. x ++ line ∷ []) e ∙ ap (λ l. title_line front s.dropped ∷ count_line (codes "terms ") s.terms ∷ answer_line s.claim ∷ weight_line s ∷ l ∷ []) k.0,
        (g.0, g.1, g.2, (k.1, k.2)),
      )
  shown_step StepCount e g x h =
      let r = bind_some (λ n. if is_no s.claim && nat_lt 0 n then None else Some (steps_left s.dropped n, s)) (count_after (codes "steps ") line) x h in
      let k = unless_some (is_no s.claim && nat_lt 0 r.0) (steps_left s.dropped r.0, s) x r.2 in
      let c = count_spells (codes "steps ") line r.0 r.1 in
      subst (λ (y : Option ShownPlace × Shown). StandsShown front (lines ++ line ∷ []) y.1 y.0) k.1
      (at_steps s r.0 (lines ++ line ∷ [])
      (ap (λ x. x ++ line ∷ []) e ∙ ap (λ x. five front s ++ x) (starts AnyStep IsStep (codes "steps ") pair_line s.steps r.0 line g.1 c.0))
      g.0 g.2 g.3 (λ no. g.1) (λ pos. not_both (is_no s.claim) (nat_lt 0 r.0) k.0 (test r.0 pos)) (empty_good AnyStep IsStep s.steps r.0 g.1 c.1))
    where
      test : (n : ℕ) → 0 < n → nat_lt 0 n ≡ true
      test n h = grind (arith, nat_tests)
  shown_step (Step n) e g x h =
      let r = map_some (λ y. (steps_left s.dropped (n - 1), record s { steps = s.steps ++ y ∷ [] })) (option_and_then step_of (numbers_in line)) x h in
      let adds = step_adds s.steps line r.0 r.1 in
      subst (λ (y : Option ShownPlace × Shown). StandsShown front (lines ++ line ∷ []) y.1 y.0) r.2
      (at_steps (record s { steps = s.steps ++ r.0 ∷ [] }) (n - 1) (lines ++ line ∷ [])
      (behind lines (five front s) (block (codes "steps ") pair_line (length s.steps + n) s.steps) (line ∷ []) (block (codes "steps ") pair_line (length (s.steps ++ r.0 ∷ []) + (n - 1)) (s.steps ++ r.0 ∷ [])) e
      (grows AnyStep IsStep (codes "steps ") pair_line s.steps (s.steps ++ r.0 ∷ []) n line g.left adds))
      g.terms g.weight g.first (λ no. clash (is_no s.claim) g.answers no) (λ pos. g.answers) (good_more AnyStep IsStep (codes "steps ") pair_line s.steps (s.steps ++ r.0 ∷ []) n line g.left adds g.steps))
    where
      clash : {G : Type 0} (b : Bool) → b ≡ false → b ≡ true → G
      clash b h k = cc
  shown_step DroppedAt e g x h =
      let r = map_some (λ d. (None, record s { dropped = Some d })) (dropped_of s.claim line) x h in
      let k = dropped_is s.claim line r.0 r.1 in
      subst (λ (y : Option ShownPlace × Shown). StandsShown front (lines ++ line ∷ []) y.1 y.0) r.2 (
        ap (λ x. x ++ line ∷ []) e ∙ ap (λ o. (five front (record s { dropped = o }) ++ block (codes "steps ") pair_line (length s.steps) s.steps) ++ line ∷ []) g.begun
            ∙ ap (λ l. (five front (record s { dropped = Some r.0 }) ++ block (codes "steps ") pair_line (length s.steps) s.steps) ++ l ∷ []) k.0,
        whole_shown (record s { dropped = Some r.0 }) g.terms g.weight g.first g.no_steps g.steps k.1 k.2,
      )
