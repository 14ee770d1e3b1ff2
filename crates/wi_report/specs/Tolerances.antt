-- The report on how many failures it takes, as bytes.
use Rattle.std.specs.Prelude.{ℕ, List, ◌++◌, codes}
use Rattle.std.specs.Fmt.{decimal}
use Rattle.wi_net.specs.declared.bounds.Bounds.{Bounds}
use Rattle.wi_net.specs.Net.{Net}
use Rattle.wi_trace.specs.declared.answer.Answer.{Answer}
use Rattle.wi_report.specs.Reports.{exact_report_of}

-- the report on how many failures it takes: the least number, and the report on the exact answer there, whose tree has so many nodes
abbrev pub tolerance_report_of : Net → Bounds → ℕ → ℕ → Answer → ℕ → List ℕ
tolerance_report_of net bounds terms k a nodes = codes "least: " ++ decimal k ++ codes "\n" ++ exact_report_of net bounds terms a nodes

-- what is said where no number up to the most that is asked for is enough
abbrev pub none_up_to_text : ℕ → List ℕ
none_up_to_text most = codes "least: none up to " ++ decimal most ++ codes "\n"
