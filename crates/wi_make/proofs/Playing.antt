-- A script that is played: from its bytes to its file, and to that of the network.
use Rattle.std.proofs.Common.{◌≡◌, ℕ, ◌≤◌, Bool, true, List, length, Option, Some, Result, Ok, Err, inr, sym, ap, subst, ◌∙◌, ◌<◌, inl, None, refl, arith}
use Rattle.std.specs.Prelude.{IfErr, IfOk}
use Rattle.wi_base.specs.Shelf.{ShelfSeen, IsLonger}
use Rattle.wi_net.specs.Net.{Net}
use Rattle.wi_outcome.specs.declared.printed.Printed.{Printed}
use Rattle.wi_outcome.specs.declared.refusal.Refusal.{Refusal}
use Rattle.wi_outcome.specs.declared.refusal.Refusal.TheVariants.{Memory, Script, CannotRead, LongScript}
use Rattle.wi_files.specs.Networks.{HoldsNetwork}
use Rattle.wi_make.specs.Scripts.{FromPlaying, FromScript, IsPlay, IsPlayed, IsBadScript}
use Rattle.wi_files.specs.Shelves.{IsCalm}
use Rattle.wi_make.specs.private.Stages.{FromBytes}
use Rattle.wi_base.specs.declared.shelf.CallKind.TheVariants.{Fetch}
use Rattle.wi_world.specs.declared.world.State.{State}
use Rattle.wi_script.specs.declared.script.ScriptRefused.{ScriptRefused}
use Rattle.wi_script.specs.declared.script.ScriptRefused.TheVariants.{BadLine, Memory as ScriptMemory}
use Rattle.wi_script.proofs.Unique.{script_one, script_fine}
use Rattle.wi_script.specs.Plays.{begin, states_of}
use Rattle.wi_outcome.specs.Texts.{status_of}
use Rattle.wi_files.proofs.Causes.{longer}

-- the states on a network are those over its file. The fetch of the network left the shelf as it was
pub played_over : (r : Result Printed Refusal) (old later : ShelfSeen) (name script : List ℕ) (k : ℕ) (net : Net) → later ≡ old → (old.told ≡ true → HoldsNetwork (old.file name) net)
    → IfOk r (λ printed. (bytes : List ℕ) × (later.told ≡ true → later.file script ≡ Some bytes) × IsPlay net k bytes printed.text) → IfOk r (λ printed. IsPlayed old name script k printed.text)
played_over (Ok printed) old later name script k net same holds played = (net, played.0, holds, subst (λ (s : ShelfSeen). s.told ≡ true → s.file script ≡ Some played.0) same played.1, played.2)
played_over (Err refusal) old later name script k net same holds played = tt

pub play_refused : (r : Result Printed Refusal) (old later new : ShelfSeen) (name script : List ℕ) (k : ℕ) (net : Net) → later ≡ old → (old.told ≡ true → HoldsNetwork (old.file name) net)
    → IfErr r (λ refusal. FromScript later new net script k refusal) → IfErr r (λ refusal. FromPlaying old new name script k refusal)
play_refused (Ok printed) old later new name script k net same holds cause = tt
play_refused (Err refusal) old later new name script k net same holds cause = inr (net, holds, subst (λ (s : ShelfSeen). FromScript s new net script k refusal) same cause)

-- the states for the bytes of a file
pub bytes_played : (r : Result Printed Refusal) (told : Bool) (file : Option (List ℕ)) (net : Net) (k : ℕ) (bytes read : List ℕ) → read ≡ bytes → (told ≡ true → file ≡ Some bytes) → IfOk r (λ printed. IsPlay net k read printed.text)
    → IfOk r (λ printed. (b : List ℕ) × (told ≡ true → file ≡ Some b) × IsPlay net k b printed.text)
bytes_played (Ok printed) told file net k bytes read same held play = (read, λ t. held t ∙ ap Some (sym same), play)
bytes_played (Err refusal) told file net k bytes read same held play = tt

from_bytes : (old new : ShelfSeen) (net : Net) (name : List ℕ) (k : ℕ) (bytes : List ℕ) (refusal : Refusal) → (old.told ≡ true → old.file name ≡ Some bytes) → length bytes ≤ 1048576 → IsCalm old new → FromBytes net k bytes refusal
    → FromScript old new net name k refusal
from_bytes old new net name k bytes (Script refused) held short calm cause = (calm, (bytes, held, short, cause))
from_bytes old new net name k bytes Memory held short calm cause = calm
from_bytes old new net name k bytes refusal held short calm cause = elim cause [ ]

pub bytes_refused : (r : Result Printed Refusal) (old new : ShelfSeen) (net : Net) (name : List ℕ) (k : ℕ) (bytes read : List ℕ) → read ≡ bytes → (old.told ≡ true → old.file name ≡ Some bytes) → length bytes ≤ 1048576 → IsCalm old new
    → IfErr r (λ refusal. FromBytes net k read refusal) → IfErr r (λ refusal. FromScript old new net name k refusal)
bytes_refused (Ok printed) old new net name k bytes read same held short calm cause = tt
bytes_refused (Err refusal) old new net name k bytes read same held short calm cause =
    from_bytes old new net name k bytes refusal held short calm (subst (λ (b : List ℕ). FromBytes net k b refusal) same cause)

-- ---- what can be played
-- a script that can be played has no fault
good_script : (net : Net) (k : ℕ) (bytes text : List ℕ) (refused : ScriptRefused) → IsPlay net k bytes text → IsBadScript net k bytes refused → status_of (Script refused) ≡ 11
good_script net k bytes text ScriptMemory play bad = refl
good_script net k bytes text (BadLine n cause) play (inl bad) = absurd (script_fine net bytes play.script n cause play.reads bad)
good_script net k bytes text (BadLine n cause) play (inr bad) =
    let same : bad.0 ≡ play.script = script_one net bytes bad.0 play.script bad.1 play.reads in
    let none : states_of net k (begin play.script) play.script.events ≡ None = subst (λ s. states_of net k (begin s) s.events ≡ None) same bad.2.0 in
    absurd (some_none play.states (sym play.played ∙ none))
  where
    some_none : (states : List State) → Some states ≡ None → ⊥
    some_none states is = cc

pub script_wants : (old new : ShelfSeen) (net : Net) (name : List ℕ) (k : ℕ) (bytes text : List ℕ) (refusal : Refusal) → old.told ≡ true → old.file name ≡ Some bytes → IsPlay net k bytes text → IsCalm old new
    → FromScript old new net name k refusal → status_of refusal ≡ 11
script_wants old new net name k bytes text (CannotRead said) t h play calm cause = absurd (longer old.failed (Fetch, name) (sym cause.1 ∙ calm))
script_wants old new net name k bytes text (Script refused) t h play calm cause =
    let held : Some cause.1.0 ≡ Some bytes = sym (cause.1.1 t) ∙ h in
    let same : cause.1.0 ≡ bytes = cc in
    good_script net k bytes text refused play (subst (λ b. IsBadScript net k b refused) same cause.1.3)
script_wants old new net name k bytes text LongScript t h play calm cause =
    let long : 1048576 < length bytes = subst (λ f. IsLonger f 1048576) h (cause.1 t) in
    absurd (omega (arith, long, play.short))
script_wants old new net name k bytes text Memory t h play calm cause = refl
script_wants old new net name k bytes text refusal t h play calm cause = elim cause [ ]
