-- Bytes and their text in hexadecimal, and the stack with which bytes begin.
use Rattle.std.proofs.Common.{◌≡◌, ◌⊎◌, inl, inr, ℕ, ◌-◌, Bool, true, false, List, length, length-drop, drop, Result, Ok, Err, sym, ap, subst, ◌∙◌}
use Rattle.std.specs.Prelude.{IfErr, IfOk}
use Rattle.std.specs.Str.{bytes_eq}
use Rattle.std.proofs.lemmas.Slice.Eq.{bytes_eq-Decides}
use Rattle.hex.specs.Hex.{decode_of, encode_lower}
use Rattle.hex.specs.declared.error.FromHexError.{FromHexError}
use Rattle.hex.specs.declared.error.FromHexError.TheVariants.{OutOfMemory}
use Rattle.hex.proofs.HexLemmas.{decode_of-encode_lower, decode_of-ok, decode_of-same}
use Rattle.wi_wire.specs.declared.entry.Entry.{Entry}
use Rattle.wi_wire.specs.Stacks.{IsStack}
use Rattle.wi_report.specs.Stacks.{stack_shown}
use Rattle.wi_outcome.specs.declared.printed.Printed.{Printed}
use Rattle.wi_outcome.specs.declared.refusal.Refusal.{Refusal}
use Rattle.wi_outcome.specs.declared.refusal.Refusal.TheVariants.{BadStack, Memory}
use Rattle.wi_make.specs.OnWire.{FromHex, IsHex, IsNoHex, IsShownHex, IsShownStack}
use Rattle.wi_make.specs.private.Stages.{FromStack}

-- a text that is bytes is decoded to these
decoded : (text bytes : List ℕ) → IsHex text bytes → decode_of text ≡ Ok bytes
decoded text bytes is = rw is.hex_is (decode_of-encode_lower bytes is.are_bytes)

-- one that can't be decoded is none
pub not_decoded : (text : List ℕ) (e : FromHexError) → (e ≡ OutOfMemory → ⊥) → (e ≡ OutOfMemory) ⊎ (decode_of text ≡ Err e) → IsNoHex text
not_decoded text e other (inl memory) bytes is = absurd (other memory)
not_decoded text e other (inr wrong) bytes is = let both : Ok bytes ≡ Err e = sym (decoded text bytes is) ∙ wrong in cc

-- nor is one that isn't what its bytes are written as
pub written_otherwise : (text bytes : List ℕ) (same : Bool) → decode_of text ≡ Ok bytes → same ≡ bytes_eq (encode_lower bytes) text → same ≡ false → IsNoHex text
written_otherwise text bytes same reads tells differs other is =
    let own : other ≡ bytes = decode_of-same text other bytes (decoded text other is) reads in
    let equal : encode_lower bytes ≡ text = ap encode_lower (sym own) ∙ sym is.hex_is in
    let yes : bytes_eq (encode_lower bytes) text ≡ true = (bytes_eq-Decides (encode_lower bytes) text).1 equal in
    let no_bool : true ≡ false = sym yes ∙ sym tells ∙ differs in
    cc

pub written_so : (text bytes : List ℕ) (same : Bool) → decode_of text ≡ Ok bytes → same ≡ bytes_eq (encode_lower bytes) text → same ≡ true → IsHex text bytes
written_so text bytes same reads tells equal = record { are_bytes = (decode_of-ok text bytes reads).3; hex_is = sym ((bytes_eq-Decides (encode_lower bytes) text).0 (sym tells ∙ equal)) }

-- what is left behind a stack is what follows it
pub rest_shown : (bytes text : List ℕ) (entries : List Entry) (used : ℕ) → IsStack bytes entries (drop used bytes) → text ≡ stack_shown entries (length bytes - used) → IsShownStack bytes text
rest_shown bytes text entries used s is = record { entries = entries; rest = drop used bytes; stack = s; text_is = is ∙ ap (stack_shown entries) (sym (length-drop used bytes)) }

-- the stack of the bytes that a text is, or why there is none
pub bytes_shown : (r : Result Printed Refusal) (hex bytes read : List ℕ) → read ≡ bytes → IsHex hex bytes → IfOk r (λ printed. IsShownStack read printed.text) → IfOk r (λ printed. IsShownHex hex printed.text)
bytes_shown (Ok printed) hex bytes read same is shown = (bytes, is, subst (λ b. IsShownStack b printed.text) same shown)
bytes_shown (Err refusal) hex bytes read same is shown = tt

from_stack : (hex bytes : List ℕ) (refusal : Refusal) → IsHex hex bytes → FromStack bytes refusal → FromHex hex refusal
from_stack hex bytes (BadStack refused) is cause = (bytes, is, cause)
from_stack hex bytes Memory is cause = tt
from_stack hex bytes refusal is cause = elim cause [ ]

pub stack_refused : (r : Result Printed Refusal) (hex bytes read : List ℕ) → read ≡ bytes → IsHex hex bytes → IfErr r (λ refusal. FromStack read refusal) → IfErr r (λ refusal. FromHex hex refusal)
stack_refused (Ok printed) hex bytes read same is cause = tt
stack_refused (Err refusal) hex bytes read same is cause = from_stack hex bytes refusal is (subst (λ b. FromStack b refusal) same cause)
