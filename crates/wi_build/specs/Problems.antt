-- A problem: what is asked of a network, and the runs that answer it.
use Rattle.std.specs.Prelude.{◌≡◌, ℕ, List}
use Rattle.wi_net.specs.declared.bounds.Bounds.{Bounds}
use Rattle.wi_net.specs.Net.{Net}
use Rattle.wi_net.specs.Network.{IsNetwork}
use Rattle.wi_world.specs.declared.run.Run.{Run}
use Rattle.wi_world.specs.Moves.{AreBounds}
use Rattle.wi_world.specs.Moving.{IsMovingRun}
use Rattle.wi_world.specs.Holds.{Question, Matches}
use Rattle.wi_query.specs.declared.query.Query.{Query}
use Rattle.wi_query.specs.Meaning.{HasAutomata, MayDropAny, question_of}
use Rattle.wi_quantity.specs.declared.vector.Part.{Part}
use Rattle.wi_quantity.specs.Weighing.{weight_of}

-- a network, a query, what runs are weighed by, and what may fail
pub record Problem : Type 0 where
  pub net : Net
  pub query : Query
  pub vector : List (List Part)
  pub bounds : Bounds

-- the network and the query are such, a packet may be dropped with any header, and the bounds are the network's
pub record IsProblem (problem : Problem) : Type 0 where
  pub network : IsNetwork problem.net
  pub automata : HasAutomata problem.query
  pub any_last : MayDropAny problem.net problem.query
  pub bounds_of : AreBounds problem.net problem.bounds

-- what a query asks within bounds
abbrev pub problem_in : Net → Query → List (List Part) → Bounds → Problem
problem_in net query vector bounds = record { net = net; query = query; vector = vector; bounds = bounds }

-- what a query asks: what may fail is as the query says
abbrev pub problem_of : Net → Query → List (List Part) → Problem
problem_of net query vector = problem_in net query vector query.bounds

-- the same within other bounds
abbrev pub within : Problem → Bounds → Problem
within problem bounds = record problem { bounds = bounds }

-- the same where so many risk groups may fail besides those known to be down
abbrev pub allowing : Problem → ℕ → Problem
allowing problem k = within problem (record problem.bounds { k = k })

-- its question: the query's languages, within the bounds
abbrev pub asks : Problem → Question
asks problem = record (question_of problem.query) { bounds = problem.bounds }

-- what a run weighs
abbrev pub weighs : Problem → Run → List ℕ
weighs problem = weight_of problem.net problem.vector

-- a moving run that matches, of this weight
pub record IsAnswering (problem : Problem) (w : List ℕ) (run : Run) : Type 0 where
  pub moving : IsMovingRun problem.net problem.bounds run
  pub matches : Matches problem.net (asks problem) run
  pub weight : weighs problem run ≡ w
