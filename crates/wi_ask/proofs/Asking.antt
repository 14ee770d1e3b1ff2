-- From what is found of a problem to a command that asks something of a network.
use Rattle.std.proofs.Common.{◌≡◌, ℕ, true, inr, List, Option, Result, Ok, Err, subst}
use Rattle.std.specs.Prelude.{IfErr, IfOk}
use Rattle.wi_base.specs.Shelf.{ShelfSeen}
use Rattle.wi_net.specs.Net.{Net}
use Rattle.wi_query.specs.Meaning.{HasAutomata}
use Rattle.wi_query.specs.declared.query.Query.{Query}
use Rattle.wi_quantity.specs.declared.vector.Part.{Part}
use Rattle.wi_build.specs.Problems.{Problem, IsProblem, problem_of}
use Rattle.wi_words.specs.Commands.{Asking, Wanted}
use Rattle.wi_outcome.specs.declared.printed.Printed.{Printed}
use Rattle.wi_outcome.specs.declared.refusal.Refusal.{Refusal}
use Rattle.wi_files.specs.Asked.{IsAsked}
use Rattle.wi_files.specs.Networks.{HoldsNetwork}
use Rattle.wi_ask.specs.Asked.{ForAsked, ForAsking, FromAsked, FromAsking}
use Rattle.wi_ask.specs.Wanted.{FromWanted, IsGiven}

-- it is a problem, where the query has its automata, as each query of the program has
pub asked_problem : (net : Net) (text : List ℕ) (weights : Option (List ℕ)) (query : Query) (vector : List (List Part)) → IsAsked net text weights query vector → HasAutomata query → IsProblem (problem_of net query vector)
asked_problem net text weights query vector asked automata = record { network = asked.network; automata = automata; any_last = asked.reads.keeps.any_last; bounds_of = asked.reads.keeps.bounds }

-- what is told of the problem is told of what texts ask, and so is what is refused
pub asked_told : (r : Result Printed Refusal) (P : Problem → ℕ → List ℕ → Type 0) (net : Net) (text : List ℕ) (weights : Option (List ℕ)) (query : Query) (vector : List (List Part)) → IsAsked net text weights query vector → HasAutomata query
    → IfOk r (λ printed. P (problem_of net query vector) printed.status printed.text) → IfOk r (λ printed. ForAsked net text weights (λ problem. P problem printed.status printed.text))
asked_told (Ok printed) P net text weights query vector asked automata told = (query, vector, asked, asked_problem net text weights query vector asked automata, told)
asked_told (Err refusal) P net text weights query vector asked automata told = tt

pub asked_refused : {T : Type 0} (r : Result T Refusal) (From : Problem → Refusal → Type 0) (old new : ShelfSeen) (net : Net) (text : List ℕ) (weights : Option (List ℕ)) (query : Query) (vector : List (List Part)) → IsAsked net text weights query vector
    → HasAutomata query → IfErr r (λ refusal. From (problem_of net query vector) refusal) → IfErr r (λ refusal. FromAsked From old new net text weights refusal)
asked_refused (Ok x) From old new net text weights query vector asked automata cause = tt
asked_refused (Err refusal) From old new net text weights query vector asked automata cause = inr (query, vector, asked, asked_problem net text weights query vector asked automata, cause)

-- and of the file, where the fetch of the network left the shelf as it was
pub asking_answered : (r : Result Printed Refusal) (asking : Asking) (wanted : Wanted) (old later new : ShelfSeen) (net : Net) → later ≡ old → (old.told ≡ true → HoldsNetwork (old.file asking.network) net)
    → IfOk r (λ printed. ForAsked net asking.query asking.weights (λ problem. IsGiven wanted later new problem printed.status printed.text)) → IfOk r (λ printed. ForAsking old asking (λ problem. IsGiven wanted old new problem printed.status printed.text))
asking_answered (Ok printed) asking wanted old later new net same holds given =
    (net, holds, subst (λ (s : ShelfSeen). ForAsked net asking.query asking.weights (λ problem. IsGiven wanted s new problem printed.status printed.text)) same given)
asking_answered (Err refusal) asking wanted old later new net same holds given = tt

pub asking_refused : {T : Type 0} (r : Result T Refusal) (asking : Asking) (wanted : Wanted) (old later new : ShelfSeen) (net : Net) → later ≡ old → (old.told ≡ true → HoldsNetwork (old.file asking.network) net)
    → IfErr r (λ refusal. FromAsked (FromWanted wanted later new) later new net asking.query asking.weights refusal) → IfErr r (FromAsking (FromWanted wanted old new) old new asking)
asking_refused (Ok x) asking wanted old later new net same holds cause = tt
asking_refused (Err refusal) asking wanted old later new net same holds cause =
    inr (net, holds, subst (λ (s : ShelfSeen). FromAsked (FromWanted wanted s new) s new net asking.query asking.weights refusal) same cause)
