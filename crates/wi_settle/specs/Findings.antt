-- What is found of a question while an outage's links are down, too, and what is known of many outages at once.
use Rattle.std.specs.Prelude.{◌≡◌, ℕ, Bool, true, List, Option}
use Rattle.std.specs.List.{All}
use Rattle.std.specs.Option.{IfSome}
use Rattle.wi_net.specs.declared.parts.LinkId.{LinkId}
use Rattle.wi_net.specs.LinkSet.{is_apart, is_within}
use Rattle.wi_net.specs.Net.{widened}
use Rattle.wi_world.specs.declared.run.Run.{Run}
use Rattle.wi_world.specs.Holds.{Matches}
use Rattle.wi_world.specs.Moves.{is_trace}
use Rattle.wi_world.specs.Runs.{used_by}
use Rattle.wi_build.specs.Problems.{Problem, asks, within}
use Rattle.wi_cert.specs.declared.tree.TheConstants.{NODE_LIMIT}
use Rattle.wi_branch.specs.declared.refused.AnswerRefused.{AnswerRefused}
use Rattle.wi_branch.specs.declared.refused.AnswerRefused.TheVariants as refused
use Rattle.wi_branch.specs.Exactly.{IsAnswerRefused}
use Rattle.wi_branch.specs.Tolerance.{HasTrace}
use Rattle.wi_outage.specs.Outages.{IsGroup}
use Rattle.wi_outage.specs.Survival.{with_down}
use Rattle.wi_settle.specs.declared.found.Found.{Found}
use Rattle.wi_settle.specs.declared.found.Found.TheVariants.{Yes, No, Open}
use Rattle.wi_settle.specs.declared.settled.Witness.{Witness}

-- the problem while these links are down, too
abbrev pub during : Problem → List LinkId → Problem
during problem links = within problem (with_down problem.bounds links)

-- what is found of a problem: under some links that may fail there is a matching trace, or under none; or there is no exact answer
abbrev pub IsFound : Problem → Found → Type 0
IsFound problem Yes = HasTrace problem
IsFound problem No = HasTrace problem → ⊥
IsFound problem Open = (cause : AnswerRefused) × (cause ≡ refused.Memory → ⊥) × IsAnswerRefused problem NODE_LIMIT cause

-- A matching trace under some failed links, and the links that it uses. The failed links are whole risk groups, all that are known to be
-- down and none that is known to be up; they may be more than the bounds allow, since an outage may take some of them out.
pub record IsWitness (problem : Problem) (witness : Witness) : Type 0 where
  pub run : Run
  pub union : widened problem.net witness.fails ≡ witness.fails
  pub down : is_within problem.bounds.down witness.fails ≡ true
  pub up : is_apart witness.fails problem.bounds.up ≡ true
  pub trace : is_trace problem.net witness.fails run ≡ true
  pub matches : Matches problem.net (asks problem) run
  pub used : witness.used ≡ used_by problem.net run

-- while a risk group is out that has none of these links, and none that is known to be up, there is no matching trace
abbrev pub IsNoneBesides : Problem → List LinkId → Type 0
IsNoneBesides problem kept =
    (links : List LinkId) → IsGroup problem.net links → is_apart links problem.bounds.up ≡ true → is_apart links kept ≡ true → HasTrace (during problem links) → ⊥

-- what is known of a question: by how many searches, what is found of it while nothing is out, traces of it, and, where that is known,
-- links such that no risk group without them has a matching trace while it is out
pub record Settling : Type 0 where
  pub searches : ℕ
  pub own : Found
  pub witnesses : List Witness
  pub none : Option (List LinkId)

-- all of this is so of a problem
pub record IsSettled (problem : Problem) (settled : Settling) : Type 0 where
  pub own : IsFound problem settled.own
  pub witnesses : All (IsWitness problem) settled.witnesses
  pub none : IfSome settled.none (IsNoneBesides problem)

-- two problems are of one network and the same bounds, and what matches the one matches the other
pub record AskAlike (one other : Problem) : Type 0 where
  pub net : one.net ≡ other.net
  pub bounds : one.bounds ≡ other.bounds
  pub matches : (run : Run) → Matches other.net (asks other) run → Matches other.net (asks one) run

-- an outage that a problem is asked for: whole risk groups, a single one where that is said, without a link that is known to be up
pub record IsOutageOf (problem : Problem) (single : Bool) (links : List LinkId) : Type 0 where
  pub union : widened problem.net links ≡ links
  pub group : single ≡ true → IsGroup problem.net links
  pub up : is_apart links problem.bounds.up ≡ true
