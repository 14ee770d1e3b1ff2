-- The runs of the system are the ways around its link, and weigh their lengths.
use Rattle.std.proofs.Common.{◌≡◌, ℕ, zero, suc, ◌+◌, ◌==◌, ◌⊎◌, ◌||◌, Bool, true, false, if◌then◌else◌, List, [], ◌∷◌, ◌++◌, length, map, slice_get, Option, Some, None, refl, arith, ap, sym, ◌∙◌, subst, inl, inr}
use Rattle.std.specs.List.{Contains}
use Rattle.std.specs.Option.{option_to_list}
use Rattle.std.proofs.lemmas.Bool.{eqb-true, eq-eqb, or_cases, or_left}
use Rattle.std.proofs.lemmas.List.Elements.{Contains-append_right}
use Rattle.wi_net.specs.declared.parts.LinkId.{LinkId}
use Rattle.wi_net.specs.LinkSet.{has}
use Rattle.wi_net.specs.Net.{Net}
use Rattle.wi_net.proofs.SetLemmas.{same_link}
use Rattle.wi_weight.specs.declared.kinds.Pair.{Pair}
use Rattle.wi_weight.specs.declared.kinds.Effort.{Effort}
use Rattle.wi_pds.specs.declared.rule.Word2.{Word2}
use Rattle.wi_pds.specs.declared.rule.Word2.TheVariants.{Empty, One, Two}
use Rattle.wi_pds.specs.declared.rule.Rule.{Rule}
use Rattle.wi_pds.specs.declared.rule.RuleId.{RuleId}
use Rattle.wi_pds.specs.Runs.{symbols, Run, PopRun, run_weight}
use Rattle.wi_saturate.proofs.Elements.{contains_from_get, get_from_contains, same_some}
use Rattle.wi_witness.specs.GoalRuns.{Names}
use Rattle.wi_detour.specs.Detours.{distance_of, length_of}
use Rattle.wi_detour.specs.private.Around.{Around, state_of, target_of, links_on, along, ending, endings, rules_around, spelled}
use Rattle.wi_detour.specs.private.Tables.{scale, components}
use Rattle.wi_detour.proofs.WayLemmas.{Leads}

-- the link that a rule goes along
abbrev link_in : Word2 → ℕ → Option LinkId
link_in Empty tag = None
link_in (One u) tag = Some (record { 0 = tag })
link_in (Two u v) tag = None

-- the links that rules go along
abbrev pub links_of : List (Rule (Pair Effort Effort)) → List LinkId
links_of [] = []
links_of (r ∷ rs) = option_to_list (link_in r.word r.tag) ++ links_of rs

-- how long links are, and how many
abbrev pub weight_of : Net → List LinkId → List ℕ
weight_of net via = length_of net via ∷ length via ∷ []

-- an element of a list that is mapped, with others behind it
pub mapped_cases : {X : Type 0} (h : LinkId → X) (xs : List LinkId) (ys : List X) (i : ℕ) (y : X) → slice_get (map h xs ++ ys) i ≡ Some y
    → ((f : LinkId) × (slice_get xs i ≡ Some f) × (h f ≡ y)) ⊎ ((j : ℕ) × (slice_get xs i ≡ None) × (slice_get ys j ≡ Some y))
mapped_cases h [] ys i y e = inr (i, refl, e)
mapped_cases h (x ∷ xs) ys zero y e = inl (x, refl, same_some e)
mapped_cases h (x ∷ xs) ys (suc i) y e = mapped_cases h xs ys i y e

mapped_there : {X : Type 0} (h : LinkId → X) (xs : List LinkId) (ys : List X) (f : LinkId) → has xs f ≡ true → (i : ℕ) × (slice_get (map h xs ++ ys) i ≡ Some (h f))
mapped_there h [] ys f e = cc
mapped_there h (x ∷ xs) ys f e = elim (or_cases (x.0 == f.0) (has xs f) e) [
  | inl here ↦ (zero, ap (λ z. Some (h z)) (same_link x f here))
  | inr more ↦ let rest = mapped_there h xs ys f more in (suc rest.0, rest.1)
]

pub has_at : (xs : List LinkId) (i : ℕ) (f : LinkId) → slice_get xs i ≡ Some f → has xs f ≡ true
has_at [] i f e = cc
has_at (x ∷ xs) zero f e = or_left (x.0 == f.0) (has xs f) (eq-eqb x.0 f.0 (ap (λ (z : LinkId). z.0) (same_some e)))
has_at (x ∷ xs) (suc i) f e = rest (x.0 == f.0) (has_at xs i f e)
  where
    rest : (b : Bool) → has xs f ≡ true → (b || has xs f) ≡ true
    rest true h = refl
    rest false h = h

pub one_if : {X : Type 0} (b : Bool) (x y : X) (j : ℕ) → slice_get (if b then x ∷ [] else []) j ≡ Some y → (b ≡ true) × (x ≡ y)
one_if true x y zero e = (refl, same_some e)
one_if true x y (suc j) e = cc
one_if false x y j e = cc

nonempty : (g : ℕ) (s : List ℕ) → g ∷ s ≡ [] → ⊥
nonempty g s h = cc

same_weight : (x m n : ℕ) → m ≡ n → ◌≡◌ {A = List ℕ} (x ∷ m ∷ []) (x ∷ n ∷ [])
same_weight x m n e = ap (λ k. x ∷ k ∷ []) e

module _ (a : Around) where
  -- what a run shows of itself
  abbrev pub Shows : ℕ → ℕ → ℕ → List (Rule (Pair Effort Effort)) → Type 0
  Shows p g q rs = (g ≡ 0) × (q ≡ 1) × Leads a p (links_of rs) × (run_weight scale components rs ≡ weight_of a.net (links_of rs))

  -- nothing follows the end
  ended : (rs : List (Rule (Pair Effort Effort))) (q : ℕ) → Run (rules_around a) 1 [] rs q [] → (rs ≡ []) × (q ≡ 1)
  ended [] q h = (refl, sym h.0)
  ended (r ∷ rs) q h = absurd h

  shows_ending : (p q : ℕ) (rs : List (Rule (Pair Effort Effort))) → p ≡ state_of a.ends.to.0 → Run (rules_around a) 1 [] rs q [] → Shows p 0 q (ending p ∷ rs)
  shows_ending p q rs is h =
      let e = ended rs q h in
      subst (λ x. Shows p 0 q (ending p ∷ x)) (sym e.0) (refl, e.1, is, refl)

  shows_along : (p q : ℕ) (f : LinkId) (rs : List (Rule (Pair Effort Effort))) → has (links_on a p) f ≡ true → Shows (state_of (target_of a.net f)) 0 q rs → Shows p 0 q (along a.net p f ∷ rs)
  shows_along p q f rs there h =
      let more : 1 + length (links_of rs) ≡ suc (length (links_of rs)) = omega arith in
      (refl, h.1, (there, h.2), rw h.3 (same_weight (distance_of a.net f + length_of a.net (links_of rs)) _ _ more))

  -- a run is a way
  pub run_shows : (rs : List (Rule (Pair Effort Effort))) (p g q : ℕ) → PopRun (rules_around a) p g q rs → Shows p g q rs
  run_shows [] p g q h = absurd (nonempty g [] h.1)
  run_shows (r ∷ rs) p (suc g) q h = absurd (none h.0)
    where
      none : Contains {X = Rule (Pair Effort Effort)} [] r → ⊥
      none k = omega (arith, k.1)
  run_shows (r ∷ rs) p zero q h =
      let at = get_from_contains (rules_around a p 0) r h.0 in
      elim (mapped_cases (along a.net p) (links_on a p) (endings a p) at.0 r at.1) [
        | inl k ↦
            (let tail : PopRun (rules_around a) (state_of (target_of a.net k.0)) 0 q rs = subst (λ (x : Rule (Pair Effort Effort)). Run (rules_around a) x.to (symbols x.word ++ []) rs q []) (sym k.2) h.1 in
            subst (λ x. Shows p 0 q (x ∷ rs)) k.2 (shows_along p q k.0 rs (has_at (links_on a p) at.0 k.0 k.1) (run_shows rs (state_of (target_of a.net k.0)) 0 q tail)))
        | inr k ↦
            (let end = one_if (p == state_of a.ends.to.0) (ending p) r k.0 k.2 in
            let tail : Run (rules_around a) 1 [] rs q [] = subst (λ (x : Rule (Pair Effort Effort)). Run (rules_around a) x.to (symbols x.word ++ []) rs q []) (sym end.1) h.1 in
            subst (λ x. Shows p 0 q (x ∷ rs)) end.1 (shows_ending p q rs (eqb-true p (state_of a.ends.to.0) end.0) tail))
      ]

  -- a way is a run
  pub way_run : (via : List LinkId) (p : ℕ) → Leads a p via → (rs : List (Rule (Pair Effort Effort))) × PopRun (rules_around a) p 0 1 rs × (run_weight scale components rs ≡ weight_of a.net via)
  way_run [] p h =
      let only : endings a p ≡ ending p ∷ [] = rw (eq-eqb p (state_of a.ends.to.0) h) refl in
      let there : Contains (endings a p) (ending p) = contains_from_get (endings a p) 0 (ending p) (ap (λ rs. slice_get rs 0) only) in
      (ending p ∷ [], (Contains-append_right (map (along a.net p) (links_on a p)) (endings a p) (ending p) there, (refl, refl)), refl)
  way_run (f ∷ via) p h =
      let rest = way_run via (state_of (target_of a.net f)) h.1 in
      let at = mapped_there (along a.net p) (links_on a p) (endings a p) f h.0 in
      let more : 1 + length via ≡ suc (length via) = omega arith in
      (along a.net p f ∷ rest.0, (contains_from_get (rules_around a p 0) at.0 (along a.net p f) at.1, rest.1), rw rest.2 (same_weight (distance_of a.net f + length_of a.net via) _ _ more))

  rule_spelled : (p : ℕ) (i : ℕ) (r : Rule (Pair Effort Effort)) → slice_get (rules_around a p 0) i ≡ Some r → slice_get (links_on a p) i ≡ link_in r.word r.tag
  rule_spelled p i r at = elim (mapped_cases (along a.net p) (links_on a p) (endings a p) i r at) [
    | inl k ↦ subst (λ (x : Rule (Pair Effort Effort)). slice_get (links_on a p) i ≡ link_in x.word x.tag) k.2 k.1
    | inr k ↦ subst (λ (x : Rule (Pair Effort Effort)). slice_get (links_on a p) i ≡ link_in x.word x.tag) ((one_if (p == state_of a.ends.to.0) (ending p) r k.0 k.2).1) k.1
  ]

  -- ids that name a run spell its links
  pub names_spell : (ids : List RuleId) (rs : List (Rule (Pair Effort Effort))) (p : ℕ) (s : List ℕ) → Names (rules_around a) p s ids rs → spelled a ids ≡ links_of rs
  names_spell [] [] p s h = refl
  names_spell [] (r ∷ rs) p [] h = absurd h
  names_spell [] (r ∷ rs) p (g ∷ s) h = absurd h
  names_spell (id ∷ ids) [] p [] h = absurd h
  names_spell (id ∷ ids) [] p (g ∷ s) h = absurd h
  names_spell (id ∷ ids) (r ∷ rs) p [] h = absurd h
  names_spell (id ∷ ids) (r ∷ rs) p (suc g ∷ s) h = cc (h.2)
  names_spell (id ∷ ids) (r ∷ rs) p (zero ∷ s) h =
      let here : slice_get (links_on a id.p) id.at ≡ link_in r.word r.tag = ap (λ x. slice_get (links_on a x) id.at) h.0 ∙ rule_spelled p id.at r h.2 in
      rw here (ap (λ t. option_to_list (link_in r.word r.tag) ++ t) (names_spell ids rs r.to (symbols r.word ++ s) h.3))
