-- What is read of a script's file, and what is printed while it is played.
use Rattle.std.specs.Prelude.{◌≡◌, ◌⊎◌, ℕ, ◌≤◌, true, List, length, Some}
use Rattle.wi_base.specs.Shelf.{ShelfSeen, IsLonger}
use Rattle.wi_net.specs.Net.{Net}
use Rattle.wi_net.specs.Network.{IsNetwork}
use Rattle.wi_world.specs.declared.world.State.{State}
use Rattle.wi_script.specs.declared.script.Script.{Script}
use Rattle.wi_script.specs.declared.script.ScriptRefused.{ScriptRefused}
use Rattle.wi_script.specs.Scripts.{IsScript, IsNoScript}
use Rattle.wi_script.specs.Plays.{begin, states_of, IsNotPlayed}
use Rattle.wi_report.specs.States.{states_shown}
use Rattle.wi_outcome.specs.declared.refusal.Refusal.{Refusal}
use Rattle.wi_outcome.specs.declared.refusal.Refusal.TheVariants.{CannotRead, LongScript, Memory, Script as BadScript}
use Rattle.wi_files.specs.declared.fetch.TheConstants.{LINES_LIMIT}
use Rattle.wi_files.specs.Networks.{FromNetwork, HoldsNetwork}
use Rattle.wi_files.specs.Shelves.{FetchFailed, IsCalm}

-- the lines of the states of the moving world while bytes, which are a script of the network, are played with at most k risk
-- groups failed
pub record IsPlay (net : Net) (k : ℕ) (bytes text : List ℕ) : Type 0 where
  pub network : IsNetwork net
  pub short : length bytes ≤ LINES_LIMIT
  pub script : Script
  pub reads : IsScript net bytes script
  pub states : List State
  pub played : states_of net k (begin script) script.events ≡ Some states
  pub text_is : text ≡ states_shown net states

-- the same of the files that the shelf holds under two names: a network's, and a script's
abbrev pub IsPlayed : ShelfSeen → List ℕ → List ℕ → ℕ → List ℕ → Type 0
IsPlayed shelf name script k text =
    (net : Net) × (bytes : List ℕ) × (shelf.told ≡ true → HoldsNetwork (shelf.file name) net) × (shelf.told ≡ true → shelf.file script ≡ Some bytes) × IsPlay net k bytes text

-- bytes aren't a script of the network, or are one with an event that isn't allowed
abbrev pub IsBadScript : Net → ℕ → List ℕ → ScriptRefused → Type 0
IsBadScript net k bytes refused = IsNoScript net bytes refused ⊎ ((script : Script) × IsScript net bytes script × IsNotPlayed net k script refused)

-- the script's file is the cause: over the limit it is told so, whatever its lines are
abbrev pub FromScript : ShelfSeen → ShelfSeen → Net → List ℕ → ℕ → Refusal → Type 0
FromScript old new net name k (CannotRead said) = FetchFailed said name old new
FromScript old new net name k LongScript = IsCalm old new × (old.told ≡ true → IsLonger (old.file name) LINES_LIMIT)
FromScript old new net name k (BadScript refused) =
    IsCalm old new × ((bytes : List ℕ) × (old.told ≡ true → old.file name ≡ Some bytes) × (length bytes ≤ LINES_LIMIT) × IsBadScript net k bytes refused)
FromScript old new net name k Memory = IsCalm old new
FromScript old new net name k refusal = ⊥

-- the network file is the cause, or, that being a network's, the script's file
abbrev pub FromPlaying : ShelfSeen → ShelfSeen → List ℕ → List ℕ → ℕ → Refusal → Type 0
FromPlaying old new name script k refusal =
    FromNetwork old new name refusal
    ⊎ ((net : Net) × (old.told ≡ true → HoldsNetwork (old.file name) net) × FromScript old new net script k refusal)
