-- How long the lines before `heads` can be.
use Rattle.std.specs.Prelude.{◌≡◌, ℕ, suc, ◌+◌, ◌*◌, ◌<◌, ◌≤◌, ◌^◌, Bool, true, false, if◌then◌else◌, List, [], ◌∷◌, ◌++◌, Option, Some, None, length, map, codes, refl}
use Rattle.std.specs.List.{All, flat_map}
use Rattle.std.specs.Fmt.{decimal}
use Rattle.std.proofs.Common.{sym, ap, subst, arith, length-append}
use Rattle.std.proofs.lemmas.Grind.{flat_map-append}
use Rattle.std.proofs.lemmas.Fmt.{length-decimal-le}
use Rattle.wi_weight.specs.Weights.{EachBelow}
use Rattle.wi_cert.specs.declared.certificate.Certificate.{Certificate}
use Rattle.wi_cert.specs.declared.shown.Dropped.{Dropped}
use Rattle.wi_cert.specs.declared.shown.Dropped.TheVariants.{Nowhere, Inactive, Undefined}
use Rattle.wi_cert.specs.declared.shown.Shown.{Shown}
use Rattle.wi_cert.specs.declared.shown.Claim.{Claim}
use Rattle.wi_cert.specs.declared.shown.Claim.TheVariants.{Yes, No, Inconclusive}
use Rattle.wi_cert.specs.Numbers.{spaced, printed, count_line}
use Rattle.wi_cert.specs.Shown.{answer_line, weight_line, first_line, pair_line, dropped_line, dropped_lines, certificate_front, title_line, is_no, IsShown, HasDroppedRanges, HasShownRanges}
use Rattle.wi_cert.specs.Text.{ended}
use Rattle.wi_cert.specs.private.Fronts.{front_text}

short_digits : (n : ℕ) → n < 2 ^ 32 → length (decimal n) ≤ 10
short_digits n h = length-decimal-le 10 n (omega arith) (omega (arith, h)) (omega (arith, h))

long_digits : (n : ℕ) → n < 2 ^ 64 → length (decimal n) ≤ 20
long_digits n h = length-decimal-le 20 n (omega arith) (omega (arith, h)) h

-- numbers with a space before each
spaced_short : (ns : List ℕ) → EachBelow (2 ^ 32) ns → length (spaced ns) ≤ 11 * length ns
spaced_short [] h = omega arith
spaced_short (n ∷ ns) h =
    let word = short_digits n h.0 in
    let rest = spaced_short ns h.1 in
    let both = length-append (decimal n) (spaced ns) in
    omega (arith, word, rest, both)

spaced_long : (ns : List ℕ) → EachBelow (2 ^ 64) ns → length (spaced ns) ≤ 21 * length ns
spaced_long [] h = omega arith
spaced_long (n ∷ ns) h =
    let word = long_digits n h.0 in
    let rest = spaced_long ns h.1 in
    let both = length-append (decimal n) (spaced ns) in
    omega (arith, word, rest, both)

printed_within : (ns : List ℕ) (most : ℕ) → length (spaced ns) ≤ most → length (printed ns) ≤ most
printed_within [] most h = omega arith
printed_within (n ∷ ns) most h = omega (arith, h)

ended_length : (line : List ℕ) → length (ended line) ≡ length line + 1
ended_length line = length-append line (10 ∷ [])

-- the lines of the steps
steps_length : (xs : List (ℕ × ℕ)) → All (λ x. (x.0 < 2 ^ 32) × (x.1 < 2 ^ 32)) xs → length (flat_map ended (map pair_line xs)) ≤ 23 * length xs
steps_length [] h = omega arith
steps_length (x ∷ xs) h =
    let rest = steps_length xs (λ k d lt. h (suc k) d (omega (arith, lt))) in
    let first = h 0 x (omega arith) in
    let line = printed_within (x.0 ∷ x.1 ∷ []) 22 (spaced_short (x.0 ∷ x.1 ∷ []) (first.0, (first.1, tt))) in
    let end = ended_length (pair_line x) in
    let both = length-append (ended (pair_line x)) (flat_map ended (map pair_line xs)) in
    omega (arith, rest, line, end, both)

answer_length : (claim : Claim) → length (answer_line claim) ≤ 19
answer_length Yes = omega arith
answer_length No = omega arith
answer_length Inconclusive = omega arith

weight_length : (s : Shown) (no : Bool) → length s.weight ≡ (if no then 0 else s.terms + 1) → s.terms ≤ 5 → EachBelow (2 ^ 64) s.weight → length (if no then codes "weight none" else codes "weight " ++ printed s.weight) ≤ 133
weight_length s true h few below = omega arith
weight_length s false h few below =
    let numbers = printed_within s.weight (21 * length s.weight) (spaced_long s.weight below) in
    let both = length-append (codes "weight ") (printed s.weight) in
    omega (arith, h, few, numbers, both)

first_length : (s : Shown) (no : Bool) → EachBelow (2 ^ 32) s.first → length (if no then codes "first none" else codes "first " ++ printed s.first) ≤ 10 + 11 * length s.first
first_length s true below = omega arith
first_length s false below =
    let numbers = printed_within s.first (11 * length s.first) (spaced_short s.first below) in
    let both = length-append (codes "first ") (printed s.first) in
    omega (arith, numbers, both)

count_length : (front : List ℕ) (n : ℕ) → n < 2 ^ 64 → length (count_line front n) ≤ length front + 20
count_length front n h =
    let word = long_digits n h in
    let both = length-append front (decimal n) in
    omega (arith, word, both)

title_length : (dropped : Option Dropped) → length (title_line certificate_front dropped) ≡ 25
title_length None = refl
title_length (Some d) = refl

dropped_length : (dropped : Option Dropped) → HasDroppedRanges dropped → length (flat_map ended (dropped_lines dropped)) ≤ 28
dropped_length None h = omega arith
dropped_length (Some Nowhere) h = omega arith
dropped_length (Some Inactive) h = omega arith
dropped_length (Some (Undefined j m)) h =
    let numbers = printed_within (j ∷ m ∷ []) 22 (spaced_short (j ∷ m ∷ []) (h.0, (h.1, tt))) in
    let line = length-append (codes "drop ") (printed (j ∷ m ∷ [])) in
    let end = ended_length (dropped_line (Undefined j m)) in
    let all = length-append (ended (dropped_line (Undefined j m))) [] in
    omega (arith, numbers, line, end, all)

-- what is known of the lines' lengths, added up
together : (title a b c d e : List ℕ) (rest last : List ℕ) (first steps : ℕ) → length title ≡ 25 → length a ≤ 26 → length b ≤ 19 → length c ≤ 133 → length d ≤ 10 + 11 * first → length e ≤ 26 → length rest ≤ 23 * steps → length last ≤ 28
    → length (ended title ++ (ended a ++ (ended b ++ (ended c ++ (ended d ++ (ended e ++ (rest ++ last))))))) ≤ 300 + (11 * first + 23 * steps)
together title a b c d e rest last first steps ht ha hb hc hd he hr hl =
    let l1 = length-append (ended title) (ended a ++ (ended b ++ (ended c ++ (ended d ++ (ended e ++ (rest ++ last)))))) in
    let l2 = length-append (ended a) (ended b ++ (ended c ++ (ended d ++ (ended e ++ (rest ++ last))))) in
    let l3 = length-append (ended b) (ended c ++ (ended d ++ (ended e ++ (rest ++ last)))) in
    let l4 = length-append (ended c) (ended d ++ (ended e ++ (rest ++ last))) in
    let l5 = length-append (ended d) (ended e ++ (rest ++ last)) in
    let l6 = length-append (ended e) (rest ++ last) in
    let l7 = length-append rest last in
    omega (arith, ht, l1, l2, l3, l4, l5, l6, l7, ended_length title, ended_length a, ended_length b, ended_length c, ended_length d, ended_length e, ha, hb, hc, hd, he, hr, hl)

front_parts : (c : Certificate) → front_text c ≡ ended (title_line certificate_front c.shown.dropped) ++ (ended (count_line (codes "terms ") c.shown.terms) ++ (ended (answer_line c.shown.claim) ++ (ended (weight_line c.shown) ++ (ended (first_line c.shown) ++ (ended (count_line (codes "steps ") (length c.shown.steps)) ++ (flat_map ended (map pair_line c.shown.steps) ++ flat_map ended (dropped_lines c.shown.dropped)))))))
front_parts c = ap (λ x. ended (title_line certificate_front c.shown.dropped) ++ (ended (count_line (codes "terms ") c.shown.terms) ++ (ended (answer_line c.shown.claim) ++ (ended (weight_line c.shown) ++ (ended (first_line c.shown) ++ (ended (count_line (codes "steps ") (length c.shown.steps)) ++ x)))))) (flat_map-append ended (map pair_line c.shown.steps) (dropped_lines c.shown.dropped))

-- the lines before `heads` have at most so many bytes
pub front_length : (c : Certificate) → IsShown c.shown → HasShownRanges c.shown → length (front_text c) ≤ 300 + (11 * length c.shown.first + 23 * length c.shown.steps)
front_length c is ranges = subst (λ x. length x ≤ 300 + (11 * length c.shown.first + 23 * length c.shown.steps)) (sym (front_parts c)) (together
    (title_line certificate_front c.shown.dropped) (count_line (codes "terms ") c.shown.terms) (answer_line c.shown.claim) (weight_line c.shown) (first_line c.shown) (count_line (codes "steps ") (length c.shown.steps))
    (flat_map ended (map pair_line c.shown.steps)) (flat_map ended (dropped_lines c.shown.dropped)) (length c.shown.first) (length c.shown.steps)
    (title_length c.shown.dropped)
    (count_length (codes "terms ") c.shown.terms (omega (arith, is.terms)))
    (answer_length c.shown.claim)
    (weight_length c.shown (is_no c.shown.claim) is.weight is.terms ranges.weight)
    (first_length c.shown (is_no c.shown.claim) ranges.first)
    (count_length (codes "steps ") (length c.shown.steps) ranges.count)
    (steps_length c.shown.steps ranges.steps)
    (dropped_length c.shown.dropped ranges.dropped))
