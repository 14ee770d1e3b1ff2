-- Lemmas on headers whose upper part is being rewritten.
use Rattle.std.proofs.Common.{◌≡◌, ℕ, ◌+◌, List, [], ◌∷◌, ◌++◌, length, take, drop, reverse, refl, sym, ap, ◌∙◌, arith, length-drop}
use Rattle.std.proofs.Math.Seq.{drop-append_seam}
use Rattle.std.proofs.lemmas.List.{reverse-append, length-reverse, take-append-drop, drop-drop}
use Rattle.wi_labels.specs.Header.{Entry}
use Rattle.wi_labels.specs.private.Rewrite.{rewritten}

-- the first labels of a stack that is listed from the bottom are the last ones from the top
reverse-take : (xs : List Entry) (kept gone : ℕ) → kept + gone ≡ length xs → reverse (take kept xs) ≡ drop gone (reverse xs)
reverse-take xs kept gone e =
    let count : gone ≡ length (reverse (drop kept xs)) = sym (length-reverse (drop kept xs) ∙ length-drop kept xs ∙ omega (arith, e)) in
    let parts : reverse xs ≡ reverse (drop kept xs) ++ reverse (take kept xs) = ap reverse (sym (take-append-drop kept xs)) ∙ reverse-append (take kept xs) (drop kept xs) in
    sym (rw (count, parts) (drop-append_seam (reverse (drop kept xs)) (reverse (take kept xs))))

-- the upper labels are replaced
pub replaced : (xs above : List Entry) (kept gone : ℕ) → kept + gone ≡ length xs → reverse (take kept xs ++ above) ≡ reverse above ++ drop gone (reverse xs)
replaced xs above kept gone e = reverse-append (take kept xs) above ∙ ap (λ t. reverse above ++ t) (reverse-take xs kept gone e)

-- the top is one of those that stand above
pub without_above : (header above left : List Entry) (gone : ℕ) (top : Entry) → above ≡ left ++ top ∷ [] → rewritten header gone left ≡ drop 1 (rewritten header gone above)
without_above header above left gone top e = rw (e, reverse-append left (top ∷ [])) refl

-- the top is one of the header's own
pub without_own : (header above left : List Entry) (gone : ℕ) → length above ≡ 0 → above ≡ left ++ [] → rewritten header (gone + 1) left ≡ drop 1 (rewritten header gone above)
without_own header [] [] gone none same = sym (drop-drop 1 gone header)
without_own header [] (y ∷ left) gone none same = cc
without_own header (x ∷ above) left gone none same = absurd (omega (arith, none))
