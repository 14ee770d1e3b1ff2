-- What a text begins with: a front, what stands before a byte, and characters of a kind.
use Rattle.std.proofs.Common.{◌≡◌, ◌≢◌, ℕ, zero, suc, ◌+◌, ◌<◌, ◌≤◌, Bool, true, false, not, cond, nat_eq, List, [], ◌∷◌, ◌++◌, Option, Some, None, length, take, get_or, refl, sym, ap, subst, ◌∙◌, arith, Bor, add-one}
use Rattle.std.specs.Prelude.{option_map}
use Rattle.std.specs.List.{list_all, prefix_len}
use Rattle.std.specs.Option.{MatchOption}
use Rattle.std.specs.Str.{IsUtf8, IsCharBoundary}
use Rattle.std.specs.Str.Pattern.{FindsTextPrefix, StripsPrefix, FindsChar, SplitsAroundMatch}
use Rattle.std.proofs.lemmas.Bool.{and_parts, and_from, eqb-true, eq-eqb, ne_eqb}
use Rattle.std.proofs.lemmas.Bool.Decides.{nat_tests}
use Rattle.std.proofs.lemmas.List.Sums.{prefix_len-le-length, prefix_len_passes}
use Rattle.std.proofs.lemmas.Option.{none-some, same_Some}
use Rattle.std.proofs.lemmas.Str.{IsCharBoundary-start, IsCharBoundary-after_ascii}
use Rattle.std.proofs.lemmas.Str.Pattern.{split_parts}
use Rattle.wi_text.specs.Characters.{is_plain, begins_with}
use Rattle.wi_script.specs.private.Reading.{past, until}

-- ---- a front

pub past_on : (front rest : List ℕ) → past front (front ++ rest) ≡ Some rest
unfolding past
past_on [] rest = refl
past_on (w ∷ front) rest = rw (eq-eqb w w refl) (past_on front rest)

pub past_some : (front text rest : List ℕ) → past front text ≡ Some rest → text ≡ front ++ rest
unfolding past
past_some [] text rest e = same_Some text rest e
past_some (w ∷ front) [] rest e = absurd (none-some rest e)
past_some (w ∷ front) (b ∷ text) rest e = by (nat_eq b w) refl e (past_some front text rest)
  where
    by : (t : Bool) → nat_eq b w ≡ t → cond t (past front text) None ≡ Some rest → (past front text ≡ Some rest → text ≡ front ++ rest) → b ∷ text ≡ w ∷ (front ++ rest)
    by true same e below = let first : b ≡ w = eqb-true b w same in let more : text ≡ front ++ rest = below e in cc
    by false same e below = absurd (none-some rest e)

pub past_none : (front text : List ℕ) → ((rest : List ℕ) → text ≢ front ++ rest) → past front text ≡ None
past_none front text lacks = by (past front text) refl
  where
    by : (o : Option (List ℕ)) → past front text ≡ o → past front text ≡ None
    by None e = e
    by (Some rest) e = absurd (lacks rest (past_some front text rest e))

pub past_is : (front text : List ℕ) (r : Option (Bor (List ℕ))) → MatchOption r (FindsTextPrefix front text None) (λ x. StripsPrefix (FindsTextPrefix front) text x.now) → option_map (λ x. x.now) r ≡ past front text
past_is front text None lacks = sym (past_none front text lacks)
past_is front text (Some x) strips =
    let is : text ≡ front ++ x.now = strips.1.1 ∙ ap (λ s. front ++ s) (sym strips.2) in
    sym (ap (past front) is ∙ past_on front x.now)

-- ---- what stands before a byte

pub until_on : (c : ℕ) (before rest : List ℕ) → ((i : ℕ) → i < length before → get_or before i 0 ≢ c) → until c (before ++ c ∷ rest) ≡ Some (before, rest)
unfolding until
until_on c [] rest other = rw (eq-eqb c c refl) refl
until_on c (b ∷ before) rest other =
    let first : b ≢ c = other 0 (omega arith) in
    let below : (i : ℕ) → i < length before → get_or before i 0 ≢ c = λ i h. other (suc i) (omega arith) in
    rw (ne_eqb b c first, until_on c before rest below) refl

pub until_none : (c : ℕ) (text : List ℕ) → ((i : ℕ) → i < length text → get_or text i 0 ≢ c) → until c text ≡ None
unfolding until
until_none c [] other = refl
until_none c (b ∷ text) other =
    let first : b ≢ c = other 0 (omega arith) in
    let below : (i : ℕ) → i < length text → get_or text i 0 ≢ c = λ i h. other (suc i) (omega arith) in
    rw (ne_eqb b c first, until_none c text below) refl

pub until_some : (c : ℕ) (text : List ℕ) (r : List ℕ × List ℕ) → until c text ≡ Some r → text ≡ r.0 ++ c ∷ r.1
unfolding until
until_some c [] r e = absurd (none-some r e)
until_some c (b ∷ text) r e = by (nat_eq b c) refl (until c text) (until_some c text) e
  where
    by : (t : Bool) → nat_eq b c ≡ t → (o : Option (List ℕ × List ℕ)) → ((q : List ℕ × List ℕ) → o ≡ Some q → text ≡ q.0 ++ c ∷ q.1) → cond t (Some ([], text)) (option_map (λ q. (b ∷ q.0, q.1)) o) ≡ Some r → b ∷ text ≡ r.0 ++ c ∷ r.1
    by true same o below e =
        let first : b ≡ c = eqb-true b c same in
        let at : ([], text) ≡ r = same_Some ([], text) r e in
        subst (λ (q : List ℕ × List ℕ). b ∷ text ≡ q.0 ++ c ∷ q.1) at (ap (λ x. x ∷ text) first)
    by false same None below e = absurd (none-some r e)
    by false same (Some q) below e =
        let at : (b ∷ q.0, q.1) ≡ r = same_Some (b ∷ q.0, q.1) r e in
        subst (λ (q : List ℕ × List ℕ). b ∷ text ≡ q.0 ++ c ∷ q.1) at (ap (λ x. b ∷ x) (below q refl))

pub until_is : (c : ℕ) (text : List ℕ) (r : Option (Bor (List ℕ) × Bor (List ℕ))) → MatchOption r (FindsChar c text None) (λ x. SplitsAroundMatch (FindsChar c) text x.0.now x.1.now) → c < 128
    → option_map {U = List ℕ × List ℕ} (λ q. (q.0.now, q.1.now)) r ≡ until c text
until_is c text r splits small = by r (split_parts c text r splits small)
  where
    by : (r : Option (Bor (List ℕ) × Bor (List ℕ))) → MatchOption r ((i : ℕ) → i < length text → get_or text i 0 ≢ c) (λ x. (text ≡ x.0.now ++ (c ∷ x.1.now)) × ((i : ℕ) → i < length x.0.now → get_or x.0.now i 0 ≢ c))
        → option_map {U = List ℕ × List ℕ} (λ q. (q.0.now, q.1.now)) r ≡ until c text
    by None other = sym (until_none c text other)
    by (Some x) parts = sym (ap (until c) parts.0 ∙ until_on c x.0.now x.1.now parts.1)

-- a byte that isn't of a kind is in no text of the kind
pub all_other : (p : ℕ → Bool) (c : ℕ) (s : List ℕ) → list_all p s ≡ true → p c ≡ false → (i : ℕ) → i < length s → get_or s i 0 ≢ c
all_other p c [] all not i h = absurd (omega arith)
all_other p c (b ∷ s) all not zero h = λ same. let here : p b ≡ true = (and_parts (p b) (list_all p s) all).0 in let there : p b ≡ false = ap p same ∙ not in cc
all_other p c (b ∷ s) all not (suc i) h = all_other p c s (and_parts (p b) (list_all p s) all).1 not i (omega arith)

-- ---- characters of a kind

pub prefix_on : (p : ℕ → Bool) (s rest : List ℕ) → list_all p s ≡ true → begins_with p rest ≡ false → prefix_len p (s ++ rest) ≡ length s
prefix_on p [] [] all stops = refl
prefix_on p [] (b ∷ rest) all stops = rw stops refl
prefix_on p (b ∷ s) rest all stops =
    let parts : (p b ≡ true) × (list_all p s ≡ true) = and_parts (p b) (list_all p s) all in
    rw (parts.0, prefix_on p s rest parts.1 stops) (omega arith)

pub prefix_all : (p : ℕ → Bool) (s : List ℕ) → list_all p (take (prefix_len p s) s) ≡ true
prefix_all p [] = refl
prefix_all p (b ∷ s) = by (p b) refl (prefix_all p s)
  where
    one_more : (n : ℕ) → 1 + n ≡ suc n
    one_more n = omega arith

    by : (t : Bool) → p b ≡ t → list_all p (take (prefix_len p s) s) ≡ true → list_all p (take (cond t (1 + prefix_len p s) 0) (b ∷ s)) ≡ true
    by true here below = rw (one_more (prefix_len p s)) (and_from (p b) (list_all p (take (prefix_len p s) s)) here below)
    by false here below = refl

plain_ascii : (b : ℕ) → is_plain b ≡ true → b < 128
plain_ascii b plain = grind (arith, nat_tests)

pub plain_boundary : (text : List ℕ) → IsUtf8 text → IsCharBoundary text (prefix_len is_plain text)
plain_boundary text utf8 = by (prefix_len is_plain text) refl
  where
    by : (n : ℕ) → prefix_len is_plain text ≡ n → IsCharBoundary text n
    by zero is = IsCharBoundary-start text utf8
    by (suc n) is =
        let within : prefix_len is_plain text ≤ length text = prefix_len-le-length is_plain text in
        let plain : is_plain (get_or text n 0) ≡ true = prefix_len_passes is_plain text n 0 (omega arith) in
        rw (← add-one n) (IsCharBoundary-after_ascii text n utf8 (omega arith) (plain_ascii (get_or text n 0) plain))

pub boundary : (text bytes : List ℕ) (n : ℕ) → n ≡ prefix_len is_plain bytes → bytes ≡ text → IsCharBoundary text (prefix_len is_plain text) → IsCharBoundary text n
boundary text bytes n e f is = rw (e, f) is
