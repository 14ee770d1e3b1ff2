-- What was found of policies is gone through, one after the other.
use Rattle.std.proofs.Common.{◌≡◌, ◌∙◌, ℕ, ◌+◌, ◌≤◌, Bool, ◌||◌, if◌then◌else◌, List, [], ◌∷◌, ◌++◌, length, append_assoc, append-nil, drop, slice_get, Option, Some, refl, ap, sym}
use Rattle.std.specs.List.{list_any}
use Rattle.std.proofs.lemmas.List.{drop_all}
use Rattle.wi_labels.proofs.HeaderLemmas.{drop_at}
use Rattle.wi_policy.specs.declared.policy.Policy.{Policy}
use Rattle.wi_settle.specs.declared.found.Found.{Found}
use Rattle.wi_audit.specs.declared.outcome.Fulfilment.{Fulfilment}
use Rattle.wi_audit.specs.declared.outcome.Fulfilment.TheVariants.{AsExpected, Unexpected, Undecided}
use Rattle.wi_audit.specs.Outcomes.{is_undecided, is_unexpected, worst}
use Rattle.wi_audit.specs.Outages.{complaint_of, complaints, fulfilment_in, fulfilments}

-- ---- the worst of them
worst_first : (w f : Fulfilment) (fs : List Fulfilment) → worst (worst (w ∷ f ∷ []) ∷ fs) ≡ worst (w ∷ f ∷ fs)
worst_first w f fs = by_cases w f (list_any is_unexpected fs) (list_any is_undecided fs)
  where
    worst_by : Bool → Bool → Fulfilment
    worst_by u v = if u then Unexpected else if v then Undecided else AsExpected

    by_cases : (w f : Fulfilment) (u v : Bool)
        → worst_by (is_unexpected (worst (w ∷ f ∷ [])) || u) (is_undecided (worst (w ∷ f ∷ [])) || v) ≡ worst_by (is_unexpected w || (is_unexpected f || u)) (is_undecided w || (is_undecided f || v))
    by_cases AsExpected AsExpected u v = refl
    by_cases AsExpected Unexpected u v = refl
    by_cases AsExpected Undecided u v = refl
    by_cases Unexpected AsExpected u v = refl
    by_cases Unexpected Unexpected u v = refl
    by_cases Unexpected Undecided u v = refl
    by_cases Undecided AsExpected u v = refl
    by_cases Undecided Unexpected u v = refl
    by_cases Undecided Undecided u v = refl

worst_alone : (w : Fulfilment) → worst (w ∷ []) ≡ w
worst_alone AsExpected = refl
worst_alone Unexpected = refl
worst_alone Undecided = refl

pub worst_next : (policies : List Policy) (tried : List (Option Found)) (i : ℕ) (policy : Policy) (found : Option Found) (w next : Fulfilment) (total : Fulfilment) → slice_get policies i ≡ Some policy → slice_get tried i ≡ Some found
    → worst (w ∷ fulfilments (drop i policies) (drop i tried)) ≡ total → next ≡ worst (w ∷ fulfilment_in policy.word found ∷ []) → worst (next ∷ fulfilments (drop (i + 1) policies) (drop (i + 1) tried)) ≡ total
worst_next policies tried i policy found w next total at_policy at_found before is =
    ap (λ f. worst (f ∷ fulfilments (drop (i + 1) policies) (drop (i + 1) tried))) is ∙ worst_first w (fulfilment_in policy.word found) (fulfilments (drop (i + 1) policies) (drop (i + 1) tried)) ∙ (rw (drop_at policies i policy at_policy, drop_at tried i found at_found) at before)

pub worst_all : (policies : List Policy) (tried : List (Option Found)) (i : ℕ) (w total : Fulfilment) → length policies ≤ i → worst (w ∷ fulfilments (drop i policies) (drop i tried)) ≡ total → w ≡ total
worst_all policies tried i w total past before = sym (worst_alone w) ∙ (rw (drop_all i policies past) at before)

-- ---- what is said of them
pub complaints_next : (policies : List Policy) (tried : List (Option Found)) (i : ℕ) (policy : Policy) (found : Option Found) (to new whole : List ℕ) → slice_get policies i ≡ Some policy → slice_get tried i ≡ Some found
    → to ++ complaints (drop i policies) (drop i tried) ≡ whole → new ≡ to ++ complaint_of policy found → new ++ complaints (drop (i + 1) policies) (drop (i + 1) tried) ≡ whole
complaints_next policies tried i policy found to new whole at_policy at_found before is =
    ap (λ t. t ++ complaints (drop (i + 1) policies) (drop (i + 1) tried)) is ∙ append_assoc to (complaint_of policy found) (complaints (drop (i + 1) policies) (drop (i + 1) tried)) ∙ (rw (drop_at policies i policy at_policy, drop_at tried i found at_found) at before)

pub complaints_all : (policies : List Policy) (tried : List (Option Found)) (i : ℕ) (to whole : List ℕ) → length policies ≤ i → to ++ complaints (drop i policies) (drop i tried) ≡ whole → to ≡ whole
complaints_all policies tried i to whole past before = sym (append-nil to) ∙ (rw (drop_all i policies past) at before)
