-- What a writer has taken of a piece, part by part.
use Rattle.std.specs.Prelude.{◌≡◌, ℕ, List, ◌++◌, take, drop, Option, Some, None}
use Rattle.std.specs.Io.KnownBytes.{Appends}
use Rattle.std.proofs.Common.{sym, ap, ◌∙◌, append_assoc, take-append-drop}

-- of a piece all but the rest was taken
pub record IsTaken (before now : Option (List ℕ)) (piece rest : List ℕ) : Type 0 where
  pub done : List ℕ
  pub split : piece ≡ done ++ rest
  pub grown : Appends before now done

appends_more : (before now after : Option (List ℕ)) (xs ys : List ℕ) → Appends before now xs → Appends now after ys → Appends before after (xs ++ ys)
appends_more None now after xs ys h k = tt
appends_more (Some b) None after xs ys h k = absurd h
appends_more (Some b) (Some n) None xs ys h k = absurd k
appends_more (Some b) (Some n) (Some a) xs ys h k = k ∙ ap (λ t. t ++ ys) h ∙ append_assoc b xs ys

pub taken_more : (before now after : Option (List ℕ)) (piece rest next : List ℕ) (n : ℕ) → IsTaken before now piece rest → Appends now after (take n rest) → next ≡ drop n rest → IsTaken before after piece next
taken_more before now after piece rest next n h k e = record {
  done = h.done ++ take n rest;
  split = h.split ∙ ap (λ t. h.done ++ t) (sym (take-append-drop n rest)) ∙ sym (append_assoc h.done (take n rest) (drop n rest)) ∙ ap (λ t. (h.done ++ take n rest) ++ t) (sym e);
  grown = appends_more before now after h.done (take n rest) h.grown k;
}
