-- What texts ask of a network: a problem.
use Rattle.std.specs.Prelude.{◌≡◌, ◌⊎◌, ℕ, true, List, Option}
use Rattle.wi_base.specs.Shelf.{ShelfSeen}
use Rattle.wi_net.specs.Net.{Net}
use Rattle.wi_query.specs.declared.query.Query.{Query}
use Rattle.wi_quantity.specs.declared.vector.Part.{Part}
use Rattle.wi_build.specs.Problems.{Problem, IsProblem, problem_of}
use Rattle.wi_words.specs.Commands.{Asking}
use Rattle.wi_outcome.specs.declared.refusal.Refusal.{Refusal}
use Rattle.wi_files.specs.Asked.{AreBadTexts, IsAsked}
use Rattle.wi_files.specs.Networks.{FromNetwork, HoldsNetwork}
use Rattle.wi_files.specs.Shelves.{IsCalm}

-- texts are a query of the network and weights, which ask a problem, and this holds of it. That it is one ties the query's automata to
-- its expressions: the text does not
abbrev pub ForAsked : Net → List ℕ → Option (List ℕ) → (Problem → Type 0) → Type 0
ForAsked net text weights P =
    (query : Query) × (vector : List (List Part)) × IsAsked net text weights query vector × IsProblem (problem_of net query vector) × P (problem_of net query vector)

-- the texts are the cause; or, these asking a problem, what is wanted of it
abbrev pub FromAsked : (Problem → Refusal → Type 0) → ShelfSeen → ShelfSeen → Net → List ℕ → Option (List ℕ) → Refusal → Type 0
FromAsked From old new net text weights refusal = (AreBadTexts net text weights refusal × IsCalm old new) ⊎ ForAsked net text weights (λ problem. From problem refusal)

-- the same of the network whose file is held under a name
abbrev pub ForAsking : ShelfSeen → Asking → (Problem → Type 0) → Type 0
ForAsking shelf asking P = (net : Net) × (shelf.told ≡ true → HoldsNetwork (shelf.file asking.network) net) × ForAsked net asking.query asking.weights P

-- the network file is the cause; or, that being a network's, the texts, or what is wanted
abbrev pub FromAsking : (Problem → Refusal → Type 0) → ShelfSeen → ShelfSeen → Asking → Refusal → Type 0
FromAsking From old new asking refusal =
    FromNetwork old new asking.network refusal
    ⊎ ((net : Net) × (old.told ≡ true → HoldsNetwork (old.file asking.network) net) × FromAsked From old new net asking.query asking.weights refusal)
