-- What the program does: the answers that it prints, why it refuses, and what it leaves.
use Rattle.std.specs.Prelude.{◌≡◌, ◌⊎◌, ℕ, true, List, Option, Some, None}
use Rattle.wi_base.specs.Shelf.{ShelfSeen}
use Rattle.wi_base.specs.Sink.{SinkSeen}
use Rattle.wi_base.specs.declared.sink.PutRefused.{PutRefused}
use Rattle.wi_net.specs.Net.{Net}
use Rattle.wi_query.specs.declared.query.Query.{Query}
use Rattle.wi_quantity.specs.declared.vector.Part.{Part}
use Rattle.wi_build.specs.Problems.{problem_of}
use Rattle.wi_words.specs.Commands.{Auditing, Command, Ask, Play, Gen, Protect, Stack, Audit, Bypass, Draw, command_of}
use Rattle.wi_outcome.specs.Edges.{Prints, SaysWhy, Untouched, unprinted}
use Rattle.wi_outcome.specs.declared.refusal.Refusal.{Refusal}
use Rattle.wi_outcome.specs.declared.refusal.Refusal.TheVariants.{Memory, Usage}
use Rattle.wi_files.specs.Asked.{IsAsked}
use Rattle.wi_make.specs.Bypassing.{FromBypassing, HasNoDraft, IsBypassed}
use Rattle.wi_files.specs.Networks.{FromNetwork, HoldsNetwork}
use Rattle.wi_files.specs.Policies.{FromPolicies}
use Rattle.wi_make.specs.OnWire.{FromHex, IsShownHex, ShowsNoStack}
use Rattle.wi_make.specs.Protection.{FromProtecting, HasNoProtection, IsProtected}
use Rattle.wi_make.specs.Scripts.{FromPlaying, IsPlay, IsPlayed}
use Rattle.wi_files.specs.Shelves.{IsCalm, IsLeft}
use Rattle.wi_ask.specs.Asked.{ForAsked, ForAsking, FromAsking}
use Rattle.wi_app.specs.Audited.{AreTold, EndsAudited, ForPolicies, IsBrokenOff}
use Rattle.wi_ask.specs.Decided.{EndsByDecision}
use Rattle.wi_make.specs.Drawn.{IsDrawn}
use Rattle.wi_ask.specs.Generated.{ForRing, FromRing, IsSummary}
use Rattle.wi_ask.specs.Wanted.{CanBeGiven, FromWanted, IsGiven, IsStatusFor, IsStoredFor}

-- ---- answers
-- an answer to a command: where the shelf tells, over the files that it holds under the names, and with what it then holds
abbrev pub IsAnswered : ShelfSeen → ShelfSeen → Command → ℕ → List ℕ → Type 0
IsAnswered old new (Ask asking wanted) status text = ForAsking old asking (λ problem. IsGiven wanted old new problem status text)
IsAnswered old new (Play name script k) status text = IsPlayed old name script k text × (status ≡ 0)
IsAnswered old new (Gen seed size) status text = IsSummary seed size text × (status ≡ 0)
IsAnswered old new (Protect name) status text = IsProtected old name text × (status ≡ 0)
IsAnswered old new (Bypass name) status text = IsBypassed old name text status
IsAnswered old new (Stack hex) status text = IsShownHex hex text × (status ≡ 0)
IsAnswered old new (Audit auditing) status text = AreTold old auditing status text
IsAnswered old new (Draw name) status text = IsDrawn old name text × (status ≡ 0)

-- no words are answered but those of a command
abbrev pub AreAnswered : ShelfSeen → ShelfSeen → Option Command → ℕ → List ℕ → Type 0
AreAnswered old new None status text = ⊥
AreAnswered old new (Some command) status text = IsAnswered old new command status text

-- a command may store under a name
abbrev pub IsStoredBy : Option Command → List ℕ → Type 0
IsStoredBy (Some (Ask asking wanted)) under = IsStoredFor wanted under
IsStoredBy _ under = ⊥

-- ---- causes of refusals. Old and new are the shelf before and after; what it tells of a file is said where it tells
-- the network file is the cause; or, that being a network's, what is asked of it, or another file; or what is asked of a ring; or the
-- text that is to be bytes
abbrev pub FromCommand : ShelfSeen → ShelfSeen → Command → Refusal → Type 0
FromCommand old new (Ask asking wanted) refusal = FromAsking (FromWanted wanted old new) old new asking refusal
FromCommand old new (Play name script k) refusal = FromPlaying old new name script k refusal
FromCommand old new (Gen seed size) refusal = IsCalm old new × FromRing seed size refusal
FromCommand old new (Protect name) refusal = FromProtecting old new name refusal
FromCommand old new (Bypass name) refusal = FromBypassing old new name refusal
FromCommand old new (Stack hex) refusal = IsCalm old new × FromHex hex refusal
FromCommand old new (Audit auditing) refusal = FromPolicies old new auditing.network auditing.given auditing.policies refusal
FromCommand old new (Draw name) refusal = FromNetwork old new name refusal

-- the words are the cause, which are no command, or what they ask for
abbrev pub FromWords : ShelfSeen → ShelfSeen → Option Command → Refusal → Type 0
FromWords old new None Usage = IsCalm old new
FromWords old new None Memory = IsCalm old new
FromWords old new None refusal = ⊥
FromWords old new (Some command) refusal = FromCommand old new command refusal

-- ---- what is done
-- the program answered: no call on the shelf failed, and what is to be printed was; or it was said why not
pub record IsDone (command : Option Command) (shelf_old shelf_new : ShelfSeen) (out_old out_new err_old err_new : SinkSeen) (result : ℕ) : Type 0 where
  pub status : ℕ
  pub text : List ℕ
  pub answered : AreAnswered shelf_old shelf_new command status text
  pub calm : IsCalm shelf_old shelf_new
  pub printed : Prints status text out_old out_new err_old err_new result

-- the program refused: it has a cause, which says what is left of files, nothing was printed, and it was said why
pub record IsRefused (command : Option Command) (shelf_old shelf_new : ShelfSeen) (out_old out_new err_old err_new : SinkSeen) (result : ℕ) : Type 0 where
  pub refusal : Refusal
  pub cause : FromWords shelf_old shelf_new command refusal
  pub left : IsLeft refusal shelf_old shelf_new
  pub untouched : Untouched out_old out_new
  pub said : SaysWhy refusal err_old err_new result

-- tests were broken off: what was printed until then stands, and it was said why
pub record IsCutShort (command : Option Command) (shelf_old shelf_new : ShelfSeen) (out_old out_new err_old err_new : SinkSeen) (result : ℕ) : Type 0 where
  pub auditing : Auditing
  pub asks : command ≡ Some (Audit auditing)
  pub calm : IsCalm shelf_old shelf_new
  pub refused : PutRefused
  pub broken : ForPolicies shelf_old auditing (λ net given policies. IsBrokenOff auditing.tested net given policies refused out_old out_new)
  pub said : SaysWhy (unprinted refused) err_old err_new result

-- what a command does, if there is one
abbrev pub DoesBy : Option Command → ShelfSeen → ShelfSeen → SinkSeen → SinkSeen → SinkSeen → SinkSeen → ℕ → Type 0
DoesBy command shelf_old shelf_new out_old out_new err_old err_new result =
    IsDone command shelf_old shelf_new out_old out_new err_old err_new result
    ⊎ IsRefused command shelf_old shelf_new out_old out_new err_old err_new result
    ⊎ IsCutShort command shelf_old shelf_new out_old out_new err_old err_new result

-- what the program does
abbrev pub Does : List (List ℕ) → ShelfSeen → ShelfSeen → SinkSeen → SinkSeen → SinkSeen → SinkSeen → ℕ → Type 0
Does words shelf_old shelf_new out_old out_new err_old err_new result = DoesBy (command_of words) shelf_old shelf_new out_old out_new err_old err_new result

-- a command can be answered: a network's file is held, texts are a query of it and weights, and what is wanted of their problem can be
-- given; or a script is held, too, that can be played, or policies are that can be asked; or the network's file has a plan or none, or is
-- drawn. A ring can always be generated, and any text read as bytes
abbrev pub CanBeAnswered : ShelfSeen → Command → Type 0
CanBeAnswered shelf (Ask asking wanted) =
    (net : Net) × HoldsNetwork (shelf.file asking.network) net
    × ((query : Query) × (vector : List (List Part)) × IsAsked net asking.query asking.weights query vector × CanBeGiven wanted shelf (problem_of net query vector))
CanBeAnswered shelf (Play name script k) = (net : Net) × HoldsNetwork (shelf.file name) net × ((bytes text : List ℕ) × (shelf.file script ≡ Some bytes) × IsPlay net k bytes text)
CanBeAnswered shelf (Gen seed size) = Unit {0}
CanBeAnswered shelf (Protect name) = (net : Net) × HoldsNetwork (shelf.file name) net
CanBeAnswered shelf (Bypass name) = (net : Net) × HoldsNetwork (shelf.file name) net
CanBeAnswered shelf (Stack hex) = Unit {0}
CanBeAnswered shelf (Audit auditing) = ForPolicies shelf auditing (λ net given policies. Unit {0})
CanBeAnswered shelf (Draw name) = (net : Net) × HoldsNetwork (shelf.file name) net

-- the statuses with which a command may end that can be answered
abbrev pub IsStatus : ShelfSeen → Command → ℕ → Type 0
IsStatus shelf (Ask asking wanted) status = (net : Net) × HoldsNetwork (shelf.file asking.network) net × ForAsked net asking.query asking.weights (λ problem. IsStatusFor wanted problem status)
IsStatus shelf (Play name script k) status = status ≡ 0
IsStatus shelf (Gen seed size) status = (status ≡ 0) ⊎ ForRing seed size (λ problem. EndsByDecision problem status)
IsStatus shelf (Protect name) status = (status ≡ 0) ⊎ ((status ≡ 15) × ((bytes : List ℕ) × (shelf.file name ≡ Some bytes) × HasNoProtection bytes))
IsStatus shelf (Bypass name) status = (status ≡ 0) ⊎ (status ≡ 1) ⊎ ((status ≡ 15) × ((bytes : List ℕ) × (shelf.file name ≡ Some bytes) × HasNoDraft bytes))
IsStatus shelf (Stack hex) status = (status ≡ 0) ⊎ ((status ≡ 16) × ShowsNoStack hex)
IsStatus shelf (Audit auditing) status = EndsAudited status
IsStatus shelf (Draw name) status = status ≡ 0

-- the shelf tells what it holds, where a command reads a file
abbrev pub TellsFor : ShelfSeen → Command → Type 0
TellsFor shelf (Gen seed size) = Unit {0}
TellsFor shelf (Stack hex) = Unit {0}
TellsFor shelf command = shelf.told ≡ true

-- it ends with one of those, unless a call fails or memory runs out
abbrev pub CompletesBy : Command → ShelfSeen → ShelfSeen → SinkSeen → SinkSeen → SinkSeen → SinkSeen → ℕ → Type 0
CompletesBy command shelf_old shelf_new out_old out_new err_old err_new result =
    TellsFor shelf_old command → CanBeAnswered shelf_old command → IsCalm shelf_old shelf_new → out_new.faults ≡ out_old.faults → err_new.faults ≡ err_old.faults
    → IsStatus shelf_old command result ⊎ (result ≡ 11)

abbrev pub Completes : List (List ℕ) → ShelfSeen → ShelfSeen → SinkSeen → SinkSeen → SinkSeen → SinkSeen → ℕ → Type 0
Completes words shelf_old shelf_new out_old out_new err_old err_new result =
    (command : Command) → command_of words ≡ Some command → CompletesBy command shelf_old shelf_new out_old out_new err_old err_new result
