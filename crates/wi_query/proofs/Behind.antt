-- Where a text stops being one of a language, behind a front that is one.
use Rattle.std.proofs.Common.{◌≡◌, ℕ, zero, suc, ◌+◌, ◌<◌, ◌≤◌, ⊎_elim, List, [], ◌∷◌, ◌++◌, length, take, get_or, refl, sym, ap, ◌∙◌, subst, arith}
use Rattle.std.specs.Str.{IsCharBoundary}
use Rattle.std.proofs.lemmas.Bool.{cases_lt}
use Rattle.std.proofs.lemmas.List.{append-nil, append_assoc, length-append}
use Rattle.wi_text.specs.Prefixes.{IsFaultAt}

take_front : (front text : List ℕ) (k at : ℕ) → k ≡ length front + at → take k (front ++ text) ≡ front ++ take at text
take_front [] text k at e = ap (λ z. take z text) (let same : k ≡ at = omega arith in same)
take_front (b ∷ front) text zero at e = absurd (omega arith)
take_front (b ∷ front) text (suc k) at e = ap (λ z. b ∷ z) (take_front front text k at (omega arith))

get_behind : (front text : List ℕ) (k at : ℕ) → k ≡ length front + at → get_or (front ++ text) k 0 ≡ get_or text at 0
get_behind [] text k at e = ap (λ z. get_or text z 0) (let same : k ≡ at = omega arith in same)
get_behind (b ∷ front) text zero at e = absurd (omega arith)
get_behind (b ∷ front) text (suc k) at e = get_behind front text k at (omega arith)

boundary_behind : (front text : List ℕ) (k at : ℕ) → k ≡ length front + at → IsCharBoundary (front ++ text) k → IsCharBoundary text at
boundary_behind front text k at e h =
    let long : length (front ++ text) ≡ length front + length text = length-append front text in
    let low = h.0 in
    let byte : get_or (front ++ text) k 0 ≡ get_or text at 0 = get_behind front text k at e in
    let P : ℕ → Type 0 = λ b. k < length (front ++ text) → 128 ≤ b → 192 ≤ b in
    (omega arith, λ within. subst P byte h.1 (omega arith))

-- the front begins a text of the language, so a text behind it doesn't stop in it
pub not_in_front : (L : List ℕ → Type 0) (front text : List ℕ) (k : ℕ) → L front → IsFaultAt L (front ++ text) k → length front ≤ k
not_in_front L front text k is h =
    ⊎_elim
    (λ low. absurd (h.longest (length front) low (let long : length (front ++ text) ≡ length front + length text = length-append front text in omega arith)
    ([], subst L (sym (append-nil (take (length front) (front ++ text)) ∙ take_front front text (length front) 0 (omega arith) ∙ append-nil front)) is)))
    (λ high. high)
    (cases_lt k (length front))

pub fault_behind : (L : List ℕ → Type 0) (front text : List ℕ) (k at : ℕ) → k ≡ length front + at → IsFaultAt L (front ++ text) k → IsFaultAt (λ t. L (front ++ t)) text at
fault_behind L front text k at e h = record {
  outside = h.outside;
  within = (boundary_behind front text k at e h.whole).0;
  whole = boundary_behind front text k at e h.whole;
  begins = (h.begins.0, subst L (both k at (h.begins.0) e) h.begins.1);
  longest = λ j lt le b.
      (let long : length (front ++ text) ≡ length front + length text = length-append front text in
      h.longest (length front + j) (omega arith) (omega arith) (b.0, subst L (sym (both (length front + j) j b.0 refl)) b.1));
}
  where
    both : (k at : ℕ) (rest : List ℕ) → k ≡ length front + at → take k (front ++ text) ++ rest ≡ front ++ (take at text ++ rest)
    both k at rest e = ap (λ z. z ++ rest) (take_front front text k at e) ∙ append_assoc front (take at text) rest
