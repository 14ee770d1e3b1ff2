-- The lines that show an answer: terms, answer, weight, first and steps, and where packets are dropped how.
use Rattle.std.specs.Prelude.{◌≡◌, ℕ, ◌+◌, ◌-◌, ◌^◌, ◌<◌, ◌≤◌, Bool, true, false, ◌&&◌, ◌==◌, if◌then◌else◌, List, [], ◌∷◌, ◌++◌, Option, Some, None, length, map, codes, nat_lt, nat_le, option_and_then, option_map, MatchBool}
use Rattle.std.specs.List.{list_all, All}
use Rattle.std.specs.Str.{bytes_eq}
use Rattle.wi_weight.specs.Weights.{EachBelow}
use Rattle.wi_cert.specs.declared.shown.Claim.{Claim}
use Rattle.wi_cert.specs.declared.shown.Claim.TheVariants.{Yes, No, Inconclusive}
use Rattle.wi_cert.specs.declared.shown.Dropped.{Dropped}
use Rattle.wi_cert.specs.declared.shown.Dropped.TheVariants.{Nowhere, Inactive, Undefined}
use Rattle.wi_cert.specs.declared.shown.Shown.{Shown}
use Rattle.wi_cert.specs.declared.shown.ShownPlace.{ShownPlace}
use Rattle.wi_cert.specs.declared.shown.ShownPlace.TheVariants as places
use Rattle.wi_cert.specs.Numbers.{printed, numbers_in, numbers_after, count_after, count_line}

abbrev pub is_no : Claim → Bool
is_no Yes = false
is_no No = true
is_no Inconclusive = false

abbrev pub answer_line : Claim → List ℕ
answer_line Yes = codes "answer yes"
answer_line No = codes "answer no"
answer_line Inconclusive = codes "answer inconclusive"

abbrev pub weight_line : Shown → List ℕ
weight_line s = if is_no s.claim then codes "weight none" else codes "weight " ++ printed s.weight

abbrev pub first_line : Shown → List ℕ
first_line s = if is_no s.claim then codes "first none" else codes "first " ++ printed s.first

abbrev pub pair_line : ℕ × ℕ → List ℕ
pair_line x = printed (x.0 ∷ x.1 ∷ [])

abbrev pub dropped_line : Dropped → List ℕ
dropped_line Nowhere = codes "drop none"
dropped_line Inactive = codes "drop inactive"
dropped_line (Undefined j m) = codes "drop " ++ printed (j ∷ m ∷ [])

-- how the packet is dropped is said in version 2 alone
abbrev pub dropped_lines : Option Dropped → List (List ℕ)
dropped_lines None = []
dropped_lines (Some dropped) = dropped_line dropped ∷ []

-- what the first line begins with, of a certificate and of a tree
abbrev pub certificate_front : List ℕ
certificate_front = codes "mpls-whatif-certificate "

abbrev pub tree_front : List ℕ
tree_front = codes "mpls-whatif-tree "

-- the first line, which ends with the version
abbrev pub title_line : List ℕ → Option Dropped → List ℕ
title_line front None = front ++ codes "1"
title_line front (Some dropped) = front ++ codes "2"

abbrev pub shown_lines : Shown → List (List ℕ)
shown_lines s = count_line (codes "terms ") s.terms
    ∷ answer_line s.claim
    ∷ weight_line s
    ∷ first_line s
    ∷ count_line (codes "steps ") (length s.steps)
    ∷ (map pair_line s.steps ++ dropped_lines s.dropped)

-- of a no, and of no other answer, none is shown that is dropped; a member counts from 1
abbrev pub MayBeDropped : Claim → Option Dropped → Type 0
MayBeDropped claim None = Unit {0}
MayBeDropped claim (Some Nowhere) = is_no claim ≡ true
MayBeDropped claim (Some Inactive) = is_no claim ≡ false
MayBeDropped claim (Some (Undefined j m)) = (is_no claim ≡ false) × (0 < j) × (0 < m)

-- what makes these lines: as many numbers in the weight as there are terms, and the effort; a link and a label or more; steps
-- from 1. A no has no weight, no first link and no step.
pub record IsShown (s : Shown) : Type 0 where
  pub terms : s.terms ≤ 5
  pub weight : length s.weight ≡ (if is_no s.claim then 0 else s.terms + 1)
  pub first : MatchBool (is_no s.claim) (s.first ≡ []) (1 < length s.first)
  pub no_steps : is_no s.claim ≡ true → s.steps ≡ []
  pub steps : All (λ x. (0 < x.0) × (0 < x.1)) s.steps
  pub dropped : MayBeDropped s.claim s.dropped

abbrev pub HasDroppedRanges : Option Dropped → Type 0
HasDroppedRanges (Some (Undefined j m)) = (j < 2 ^ 32) × (m < 2 ^ 32)
HasDroppedRanges dropped = Unit {0}

-- the ranges that the numbers have by their types
pub record HasShownRanges (s : Shown) : Type 0 where
  pub weight : EachBelow (2 ^ 64) s.weight
  pub first : EachBelow (2 ^ 32) s.first
  pub steps : All (λ x. (x.0 < 2 ^ 32) × (x.1 < 2 ^ 32)) s.steps
  pub count : length s.steps < 2 ^ 64
  pub dropped : HasDroppedRanges s.dropped

abbrev pub claim_of : List ℕ → Option Claim
claim_of line =
    if bytes_eq line (codes "answer yes") then Some Yes
    else if bytes_eq line (codes "answer no") then Some No
    else if bytes_eq line (codes "answer inconclusive") then Some Inconclusive
    else None

-- `none` after the front, for a no
abbrev pub none_after : List ℕ → List ℕ → Option (List ℕ)
none_after front line = if bytes_eq line (front ++ codes "none") then Some [] else None

abbrev pub weight_of : Claim → ℕ → List ℕ → Option (List ℕ)
weight_of claim terms line =
    if is_no claim then none_after (codes "weight ") line
    else option_and_then (λ ns. if length ns == terms + 1 then Some ns else None) (numbers_after (codes "weight ") line)

abbrev pub first_of : Claim → List ℕ → Option (List ℕ)
first_of claim line =
    if is_no claim then none_after (codes "first ") line
    else option_and_then (λ ns. if nat_lt 1 (length ns) && list_all (λ n. nat_lt n (2 ^ 32)) ns then Some ns else None) (numbers_after (codes "first ") line)

abbrev pub step_of : List ℕ → Option (ℕ × ℕ)
step_of (j ∷ m ∷ []) = if nat_lt 0 j && nat_lt j (2 ^ 32) && nat_lt 0 m && nat_lt m (2 ^ 32) then Some (j, m) else None
step_of ns = None

-- where steps are read: so many are to come, and after the last nothing more is asked in version 1
abbrev pub steps_left : Option Dropped → ℕ → Option ShownPlace
steps_left dropped n = if n == 0 then option_map (λ d. places.Dropped) dropped else Some (places.Step n)

abbrev pub dropped_of : Claim → List ℕ → Option Dropped
dropped_of claim line =
    if is_no claim then if bytes_eq line (codes "drop none") then Some Nowhere else None
    else if bytes_eq line (codes "drop inactive") then Some Inactive
    else option_map (λ x. Undefined x.0 x.1) (option_and_then step_of (numbers_after (codes "drop ") line))

-- what the first line leaves: in version 2 it is said later how the packet is dropped
abbrev pub titled : List ℕ → List ℕ → Option (Option Dropped)
titled front line =
    if bytes_eq line (front ++ codes "1") then Some None
    else if bytes_eq line (front ++ codes "2") then Some (Some Nowhere)
    else None

-- What a line of the form asked in its place leaves: the next place, if there is one more, and what is shown so far. None:
-- the line isn't of that form.
abbrev pub asked_shown : ShownPlace → Shown → List ℕ → Option (Option ShownPlace × Shown)
asked_shown places.Terms s line = option_and_then (λ n. if nat_le n 5 then Some (Some places.Answer, record s { terms = n }) else None) (count_after (codes "terms ") line)
asked_shown places.Answer s line = option_map (λ claim. (Some places.Weight, record s { claim = claim })) (claim_of line)
asked_shown places.Weight s line = option_map (λ w. (Some places.First, record s { weight = w })) (weight_of s.claim s.terms line)
asked_shown places.First s line = option_map (λ ns. (Some places.StepCount, record s { first = ns })) (first_of s.claim line)
asked_shown places.StepCount s line = option_and_then (λ n. if is_no s.claim && nat_lt 0 n then None else Some (steps_left s.dropped n, s)) (count_after (codes "steps ") line)
asked_shown (places.Step n) s line = option_map (λ x. (steps_left s.dropped (n - 1), record s { steps = s.steps ++ x ∷ [] })) (option_and_then step_of (numbers_in line))
asked_shown places.Dropped s line = option_map (λ d. (None, record s { dropped = Some d })) (dropped_of s.claim line)

-- nothing is shown yet
abbrev pub blank_shown : Shown
blank_shown = record { terms = 0; claim = No; weight = []; first = []; steps = []; dropped = None }
