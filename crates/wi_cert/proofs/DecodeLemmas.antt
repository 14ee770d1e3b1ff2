-- What decoding answers, whatever the form.
use Rattle.std.specs.Prelude.{◌≡◌, ℕ, List, Result, Ok, Err, IfOk}
use Rattle.std.proofs.Common.{sym, ap, ◌∙◌, subst}
use Rattle.wi_cert.specs.declared.decode_refused.DecodeRefused.{DecodeRefused}
use Rattle.wi_cert.specs.declared.decode_refused.DecodeRefused.TheVariants.{BadLine, Memory}
use Rattle.wi_cert.specs.Reading.{Form, Fed, unread, fed, finished, decoded, Feeds, Finishes}
use Rattle.wi_cert.specs.Text.{IsBadLine}
use Rattle.wi_cert.proofs.TellingLemmas.{bad_line}

module _ {S C : Type 0} (form : Form S C) where
  -- the reading at the end, where all was fed at once
  pub whole_fed : (start after : Fed S) (bytes : List ℕ) → start ≡ unread form → after ≡ fed form start bytes → finished form after ≡ decoded form bytes
  whole_fed start after bytes e h = ap (finished form) (h ∙ ap (λ r. fed form r bytes) e)

  pub found_text : (IsText : C → List ℕ → Type 0) → ((c : C) (bytes : List ℕ) → decoded form bytes ≡ Ok c → IsText c bytes) → (bytes : List ℕ) (after : Fed S) (r : Result C DecodeRefused) → finished form after ≡ decoded form bytes → Finishes form after r → IfOk r (λ c. IsText c bytes)
  found_text IsText is_text bytes after (Ok c) e h = is_text c bytes (sym e ∙ h)
  found_text IsText is_text bytes after (Err why) e h = tt

  pub told_bad : (bytes : List ℕ) (after : Fed S) (r : Result C DecodeRefused) (n : ℕ) → finished form after ≡ decoded form bytes → Finishes form after r → r ≡ Err (BadLine n) → IsBadLine form bytes n
  told_bad bytes after r n e h k = bad_line form bytes n (sym e ∙ subst (Finishes form after) k h)

  -- a bad line that feeding tells
  pub fed_bad : (bytes : List ℕ) (start after : Fed S) (why : DecodeRefused) (n : ℕ) (answer : Result C DecodeRefused) → start ≡ unread form → Feeds form start bytes after (Err why) → answer ≡ Err why → answer ≡ Err (BadLine n) → IsBadLine form bytes n
  fed_bad bytes start after (BadLine m) n answer e h k i =
      let same : m ≡ n = cc in
      bad_line form bytes n (sym (whole_fed start after bytes e h.0) ∙ ap (finished form) h.1 ∙ ap Err same)
  fed_bad bytes start after Memory n answer e h k i = cc
