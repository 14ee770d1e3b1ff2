-- What speaks against a certificate or a tree doesn't depend on how the text of the query was read.
use Rattle.std.proofs.Common.{◌≡◌, ℕ, ◌-◌, List, [], ◌∷◌, slice_get, Option, Some, true, sym, ap, ◌∙◌, subst}
use Rattle.wi_net.specs.Net.{Net}
use Rattle.wi_world.specs.Runs.{verdict_of}
use Rattle.wi_trace.specs.Replays.{moving_fault}
use Rattle.wi_quantity.specs.declared.vector.Part.{Part}
use Rattle.wi_query.specs.declared.query.Query.{Query}
use Rattle.wi_query.specs.Meaning.{AskTheSame, HasAutomata, IsQuery}
use Rattle.wi_query.proofs.Alike.{ask_the_same}
use Rattle.wi_build.specs.Problems.{Problem, problem_in, problem_of}
use Rattle.wi_net.specs.declared.bounds.Bounds.{Bounds}
use Rattle.wi_rules.specs.Rules.{Encoding}
use Rattle.wi_build.specs.Systems.{scale, rules, rules_by}
use Rattle.wi_build.proofs.SameRules.{one_encoding}
use Rattle.wi_quantity.specs.Weighing.{components}
use Rattle.wi_cert.specs.declared.certificate.Certificate.{Certificate}
use Rattle.wi_cert.specs.declared.closed.Closed.{Closed}
use Rattle.wi_cert.specs.declared.shown.Shown.{Shown}
use Rattle.wi_cert.specs.declared.tree.Node.{Node}
use Rattle.wi_cert.specs.declared.tree.Node.TheVariants as node
use Rattle.wi_cert.specs.declared.tree.TreeCertificate.{TreeCertificate}
use Rattle.wi_cert.specs.declared.check_refused.RunPart.TheVariants.{First, Path, Last}
use Rattle.wi_cert.specs.declared.check_refused.CheckRefused.{CheckRefused}
use Rattle.wi_cert.specs.declared.check_refused.CheckRefused.TheVariants.{OfAnotherQuestion, TermsDiffer, StepNotInTable, NoMatch, WeightDiffers, WrongAnswer, Unbounded, BadSplit, Leaf, Memory}
use Rattle.wi_cert.specs.declared.check_refused.ClosedRefused.{ClosedRefused}
use Rattle.wi_cert.specs.declared.check_refused.ClosedRefused.TheVariants.{HeadMissing, PairMissing, GoalBelow, NotClosed}
use Rattle.wi_accept.specs.declared.follower.Follower.TheVariants.{Head, Pair}
use Rattle.wi_accept.specs.Answers.{run_of}
use Rattle.wi_accept.specs.Followers.{first_missing}
use Rattle.wi_accept.specs.Demands.{first_open, row}
use Rattle.wi_accept.specs.Causes.{IsAccepted, IsCause, IsShownCause, IsClosedCause, bound_of, is_wrong, rows_of}
use Rattle.wi_accept.specs.Trees.{branched, IsNode, IsTreeCause, IsTreeAccepted}

-- two queries of a network ask the same and have the same rules within any bounds
record AreOne (net : Net) (vector : List (List Part)) (q r : Query) : Type 0 where
  asks : AskTheSame q r
  rules : (b : Bounds) → rules (problem_in net q vector b) ≡ rules (problem_in net r vector b)

-- what speaks against heads, pairs and rows speaks against them wherever the rules are the same
closed_in_first : (p s : Problem) (terms : ℕ) (bound : Option (List ℕ)) (c : Closed) → rules p ≡ rules s → (r : ClosedRefused) → IsClosedCause s terms bound c r → IsClosedCause p terms bound c r
closed_in_first p s terms bound c same (HeadMissing q g) h = subst (λ R. first_missing R (0, 0) c.heads c.pairs ≡ Some (Head q g)) (sym same) h
closed_in_first p s terms bound c same (PairMissing u v) h = subst (λ R. first_missing R (0, 0) c.heads c.pairs ≡ Some (Pair u v)) (sym same) h
closed_in_first p s terms bound c same (GoalBelow w) h = h
closed_in_first p s terms bound c same (NotClosed head target sum) h =
    subst (λ R. first_open scale components R c.heads (rows_of terms c.rows) bound ≡ Some (row head.0 head.1 target (components sum))) (sym same) h

-- a cause in the second problem is one in the first
shown_in_first : (net : Net) (vector : List (List Part)) (q r : Query) (s : Shown) → AreOne net vector q r → (cause : CheckRefused) → IsShownCause (problem_of net r vector) s cause → IsShownCause (problem_of net q vector) s cause
shown_in_first net vector q r s one OfAnotherQuestion h = λ same. h (same ∙ one.asks.drops)
shown_in_first net vector q r s one (TermsDiffer shown asked) h = h
shown_in_first net vector q r s one (StepNotInTable n) h = (h.0, h.1, subst (λ b. moving_fault net b (run_of net s) ≡ Some (n, h.1)) (sym one.asks.bounds) h.2)
shown_in_first net vector q r s one (NoMatch First) h = (h.0, λ m. h.1 ((one.asks.first _).0 m))
shown_in_first net vector q r s one (NoMatch Path) h = (h.0, ((one.asks.first _).1 h.1.0, λ m. h.1.1 ((one.asks.path _).0 m)))
shown_in_first net vector q r s one (NoMatch Last) h = (h.0, ((one.asks.first _).1 h.1.0, (one.asks.path _).1 h.1.1, λ m. h.1.2 ((one.asks.last _).0 m)))
shown_in_first net vector q r s one (WeightDiffers shown counted) h = h
shown_in_first net vector q r s one WrongAnswer h = subst (λ b. is_wrong s.claim (verdict_of net b (run_of net s)) ≡ true) (sym one.asks.bounds) h
shown_in_first net vector q r s one (Unbounded refused) h = h
shown_in_first net vector q r s one (BadSplit n) h = h
shown_in_first net vector q r s one (Leaf n refused) h = h
shown_in_first net vector q r s one Memory h = h

cause_in_first : (net : Net) (vector : List (List Part)) (q r : Query) (c : Certificate) → AreOne net vector q r → (cause : CheckRefused) → IsCause (problem_of net r vector) c cause → IsCause (problem_of net q vector) c cause
cause_in_first net vector q r c one (Unbounded refused) h =
    closed_in_first (problem_of net q vector) (problem_of net r vector) c.shown.terms (bound_of c.shown) c.closed (ap (λ b. rules (problem_in net q vector b)) one.asks.bounds ∙ one.rules r.bounds) refused h
cause_in_first net vector q r c one cause h = shown_in_first net vector q r c.shown one cause h

node_in_first : (net : Net) (vector : List (List Part)) (q r : Query) (t : TreeCertificate) → AreOne net vector q r → (n : ℕ) (branch : Bounds) (what : Node)
    → IsNode (problem_of net r vector) t n branch what → IsNode (problem_of net q vector) t n branch what
node_in_first net vector q r t one n branch what h = (h.0, subst (λ b. slice_get (branched net (b ∷ []) t.nodes) (n - 1) ≡ Some (branch, what)) (sym one.asks.bounds) h.1)

tree_cause_in_first : (net : Net) (vector : List (List Part)) (q r : Query) (t : TreeCertificate) → AreOne net vector q r → (cause : CheckRefused) → IsTreeCause (problem_of net r vector) t cause → IsTreeCause (problem_of net q vector) t cause
tree_cause_in_first net vector q r t one (BadSplit n) h = (h.0, h.1, node_in_first net vector q r t one n h.0 (node.Split h.1) h.2, h.3)
tree_cause_in_first net vector q r t one (Leaf n refused) h = (
  h.0,
  h.1,
  node_in_first net vector q r t one n h.0 (node.Closed h.1) h.2,
  closed_in_first (problem_in net q vector h.0) (problem_in net r vector h.0) t.shown.terms (bound_of t.shown) h.1 (one.rules h.0) refused h.3,
)
tree_cause_in_first net vector q r t one cause h = shown_in_first net vector q r t.shown one cause h

-- two readings of a text are one
readings : (net : Net) (text : List ℕ) (q r : Query) (vector : List (List Part)) → IsQuery net text q → IsQuery net text r → HasAutomata q → HasAutomata r → AreOne net vector q r
readings net text q r vector reads again made made_again = record {
  asks = ask_the_same net text q r reads again;
  rules = λ b. ap (λ (e : Encoding). rules_by (record e { bounds = b })) (one_encoding net text q r vector reads again made made_again);
}

pub accept_the_same : (net : Net) (text : List ℕ) (q r : Query) (vector : List (List Part)) (c : Certificate) → IsQuery net text q → IsQuery net text r → HasAutomata q → HasAutomata r → IsAccepted (problem_of net q vector) c → IsAccepted (problem_of net r vector) c
accept_the_same net text q r vector c reads again made made_again accepted cause h = accepted cause (cause_in_first net vector q r c (readings net text q r vector reads again made made_again) cause h)

pub accept_trees_the_same : (net : Net) (text : List ℕ) (q r : Query) (vector : List (List Part)) (t : TreeCertificate) → IsQuery net text q → IsQuery net text r → HasAutomata q → HasAutomata r
    → IsTreeAccepted (problem_of net q vector) t → IsTreeAccepted (problem_of net r vector) t
accept_trees_the_same net text q r vector t reads again made made_again accepted cause h = accepted cause (tree_cause_in_first net vector q r t (readings net text q r vector reads again made made_again) cause h)
