-- What is said of a certificate or a tree that isn't believed, or isn't the text of one.
use Rattle.std.specs.Prelude.{ℕ, List, ◌++◌, codes}
use Rattle.std.specs.Fmt.{decimal}
use Rattle.wi_weight.specs.declared.kinds.Pair.{Pair}
use Rattle.wi_weight.specs.declared.kinds.Terms.{Terms}
use Rattle.wi_weight.specs.declared.kinds.Effort.{Effort}
use Rattle.wi_cert.specs.declared.check_refused.RunPart.{RunPart}
use Rattle.wi_cert.specs.declared.check_refused.RunPart.TheVariants.{First, Path, Last}
use Rattle.wi_cert.specs.declared.check_refused.ClosedRefused.{ClosedRefused}
use Rattle.wi_cert.specs.declared.check_refused.ClosedRefused.TheVariants.{HeadMissing, PairMissing, GoalBelow, NotClosed}
use Rattle.wi_cert.specs.declared.check_refused.CheckRefused.{CheckRefused}
use Rattle.wi_cert.specs.declared.check_refused.CheckRefused.TheVariants.{OfAnotherQuestion, TermsDiffer, StepNotInTable, NoMatch, WeightDiffers, WrongAnswer, Unbounded, BadSplit, Leaf, Memory}
use Rattle.wi_faults.specs.Numbers.{numbers_shown}
use Rattle.wi_faults.specs.RefusedDecisions.{components_shown}

-- the parts of a run count from 1
abbrev pub part_number : RunPart → ℕ
part_number First = 1
part_number Path = 2
part_number Last = 3

-- the values of so many terms and the effort, each after a space
abbrev pub components_listed : ℕ → Pair Terms Effort → List ℕ
components_listed terms w = numbers_shown (components_shown terms w)

-- two numbers with a space between
abbrev pub two_shown : ℕ → ℕ → List ℕ
two_shown a b = decimal a ++ codes " " ++ decimal b

-- why heads, pairs and rows don't bound every run, where runs are weighed by so many terms
abbrev pub closed_words : ℕ → ClosedRefused → List ℕ
closed_words terms (HeadMissing p g) = codes "head " ++ two_shown p g ++ codes " missing"
closed_words terms (PairMissing u v) = codes "pair " ++ two_shown u v ++ codes " missing"
closed_words terms (GoalBelow w) = codes "goal at" ++ components_listed terms w
closed_words terms (NotClosed head target sum) = codes "not closed at " ++ two_shown head.0 head.1 ++ codes " to " ++ decimal target ++ codes ", sum" ++ components_listed terms sum

-- which node of a tree is meant; they are numbered from 1 where they are refused, and not here
abbrev pub node_words : ℕ → List ℕ
node_words n = codes "node " ++ decimal n ++ codes ": "

-- what is at fault, where runs are weighed by so many terms
abbrev pub fault_words : ℕ → CheckRefused → List ℕ
fault_words terms OfAnotherQuestion = codes "of another question"
fault_words terms (TermsDiffer shown asked) = codes "terms shown " ++ decimal shown ++ codes ", asked " ++ decimal asked
fault_words terms (StepNotInTable n) = codes "step " ++ decimal n ++ codes " not in table"
fault_words terms (NoMatch part) = codes "part " ++ decimal (part_number part) ++ codes " does not match"
fault_words terms (WeightDiffers shown counted) = codes "weight shown" ++ components_listed terms shown ++ codes ", counted" ++ components_listed terms counted
fault_words terms WrongAnswer = codes "wrong answer"
fault_words terms (Unbounded refused) = closed_words terms refused
fault_words terms (BadSplit n) = node_words n ++ codes "bad split"
fault_words terms (Leaf n refused) = node_words n ++ closed_words terms refused
fault_words terms Memory = codes "out of memory"

abbrev pub certificate_fault_text : ℕ → CheckRefused → List ℕ
certificate_fault_text terms fault = codes "certificate: " ++ fault_words terms fault ++ codes "\n"

-- the first line that isn't of the form asked in its place
abbrev pub bad_line_text : ℕ → List ℕ
bad_line_text n = codes "certificate: line " ++ decimal n ++ codes "\n"
