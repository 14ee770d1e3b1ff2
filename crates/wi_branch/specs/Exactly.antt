-- Exact answers, and why there is none.
use Rattle.std.specs.Prelude.{◌≡◌, ℕ, ◌<◌, ◌≤◌, List, [], ◌∷◌, map, length, Option, None, option_map}
use Rattle.wi_net.specs.declared.bounds.Bounds.{Bounds}
use Rattle.wi_quantity.specs.Weighing.{components}
use Rattle.wi_trace.specs.declared.answer.Answer.{Answer}
use Rattle.wi_cert.specs.declared.shown.Shown.{Shown}
use Rattle.wi_cert.specs.declared.tree.Node.{Node}
use Rattle.wi_cert.specs.declared.tree.Node.TheVariants as nodes
use Rattle.wi_cert.specs.declared.tree.TreeCertificate.{TreeCertificate}
use Rattle.wi_build.specs.Problems.{Problem, within}
use Rattle.wi_accept.specs.Trees.{IsDecidedExactly, IsTreeAccepted, IsTreeMaker}
use Rattle.wi_decide.specs.Searches.{IsOverflowingBelow, IsTooLongBelow, lowered}
use Rattle.wi_decide.specs.declared.refused.SearchRefused.{SearchRefused}
use Rattle.wi_decide.specs.declared.refused.SearchRefused.TheVariants as search
use Rattle.wi_branch.specs.declared.opened.Opened.{Opened}
use Rattle.wi_branch.specs.declared.opened.Opened.TheVariants.{Closed, Fits, Split}
use Rattle.wi_branch.specs.declared.refused.AnswerRefused.{AnswerRefused}
use Rattle.wi_branch.specs.declared.refused.AnswerRefused.TheVariants as answer
use Rattle.wi_branch.specs.declared.refused.ExactRefused.{ExactRefused}
use Rattle.wi_branch.specs.declared.refused.ExactRefused.TheVariants.{Overflow, TooLong, NodeLimit, Memory}
use Rattle.wi_branch.specs.Walks.{IsWalk}

-- what was opened as a node of a tree: of a leaf the rows that weigh less than what is shown
abbrev pub node_under : Shown → Opened → Node
node_under s (Closed leaf) = nodes.Closed (lowered s leaf)
node_under s (Fits w leaf) = nodes.Closed (lowered s leaf)
node_under s (Split e) = nodes.Split e.0

-- an answer to a problem holds exactly; its tree is one that a maker writes, and it has the nodes of a whole walk, of at most so many
pub record IsExact (problem : Problem) (limit : ℕ) (answer : Answer) (t : TreeCertificate) : Type 0 where
  pub holds : IsDecidedExactly problem answer
  pub made : IsTreeMaker problem answer t
  pub opened : List Opened
  pub walk : IsWalk problem None opened (problem.bounds ∷ []) (option_map components answer.weight) []
  pub nodes : t.nodes ≡ map (node_under t.shown) opened
  pub few : length opened ≤ limit

-- an exact answer to a problem, shown by a tree of so many nodes, against which nothing speaks
pub record IsAnsweredExactly (problem : Problem) (limit : ℕ) (answer : Answer) (count : ℕ) : Type 0 where
  pub tree : TreeCertificate
  pub exact : IsExact problem limit answer tree
  pub accepted : IsTreeAccepted problem tree
  pub counted : count ≡ length tree.nodes

-- nodes were opened from the problem's bounds on, and there is a branch that is next
pub record IsNext (problem : Problem) (opened : List Opened) : Type 0 where
  pub cut : Option (List ℕ)
  pub branch : Bounds
  pub left : List Bounds
  pub walk : IsWalk problem None opened (problem.bounds ∷ []) cut (branch ∷ left)

-- at the next branch a summary doesn't fit, or the least run is too long; or it would be one more than the limit
abbrev pub IsExactRefused : Problem → ℕ → ExactRefused → Type 0
IsExactRefused problem limit (Overflow opened o) =
    (length opened < limit) × ((next : IsNext problem opened) × IsOverflowingBelow (within problem next.branch) next.cut o.head o.target (components o.weight))
IsExactRefused problem limit (TooLong opened n) =
    (length opened < limit) × ((next : IsNext problem opened) × IsTooLongBelow (within problem next.branch) next.cut n)
IsExactRefused problem limit (NodeLimit opened) = (length opened ≡ limit) × IsNext problem opened
IsExactRefused problem limit Memory = Unit {0}

-- a refusal with the nodes before it
abbrev pub refused_with : List Opened → AnswerRefused → ExactRefused
refused_with opened (answer.Overflow o) = Overflow opened o
refused_with opened (answer.TooLong n) = TooLong opened n
refused_with opened answer.NodeLimit = NodeLimit opened
refused_with opened answer.Memory = Memory

-- the same for a refusal that doesn't have them
abbrev pub IsAnswerRefused : Problem → ℕ → AnswerRefused → Type 0
IsAnswerRefused problem limit refused = (opened : List Opened) × IsExactRefused problem limit (refused_with opened refused)

-- a search's refusal, as it is told of the whole
abbrev pub refusal_of : SearchRefused → AnswerRefused
refusal_of (search.Overflow o) = answer.Overflow o
refusal_of (search.TooLong n) = answer.TooLong n
refusal_of search.Memory = answer.Memory
