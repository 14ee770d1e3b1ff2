-- The summary of a network that was generated, and of the answer to what is asked of it, as bytes.
use Rattle.std.specs.Prelude.{ℕ, List, ◌++◌, length, codes, Option, Some}
use Rattle.std.specs.Fmt.{decimal}
use Rattle.wi_weight.specs.declared.kinds.Pair.{Pair}
use Rattle.wi_weight.specs.declared.kinds.Terms.{Terms}
use Rattle.wi_weight.specs.declared.kinds.Effort.{Effort}
use Rattle.wi_net.specs.declared.bounds.Bounds.{Bounds}
use Rattle.wi_net.specs.Net.{Net}
use Rattle.wi_world.specs.declared.run.Run.{Run}
use Rattle.wi_world.specs.Runs.{needs}
use Rattle.wi_trace.specs.declared.answer.Answer.{Answer}
use Rattle.wi_report.specs.Reports.{answer_line, weight_shown}

-- of what seed and size the network is
abbrev pub seed_shown : ℕ → ℕ → List ℕ
seed_shown seed size = codes "gen: seed " ++ decimal seed ++ codes " size " ++ decimal size ++ codes "\n"

-- how many there are of each part
abbrev pub parts_shown : Net → List ℕ
parts_shown net =
    codes "routers: " ++ decimal (length net.routers) ++ codes "\nlinks: " ++ decimal (length net.links) ++ codes "\nlabels: " ++ decimal (length net.labels)
    ++ codes "\nentries: " ++ decimal (length net.rows) ++ codes "\n"

-- what a run weighs, and how many links it needs to have failed; or that there is none
abbrev pub run_summed : Net → Bounds → ℕ → Option (Pair Terms Effort) → Option Run → List ℕ
run_summed net bounds terms (Some w) (Some run) = weight_shown terms w ++ (codes "failed: " ++ decimal (length (needs net bounds run)) ++ codes "\n")
run_summed net bounds terms _ _ = codes "weight: none\neffort: none\nfailed: none\n"

-- the summary, where runs are weighed by so many terms; the answer's certificate was accepted
abbrev pub summary_of : ℕ → ℕ → Net → Bounds → ℕ → Answer → List ℕ
summary_of seed size net bounds terms a =
    seed_shown seed size ++ parts_shown net ++ answer_line a.word ++ run_summed net bounds terms a.weight a.run ++ codes "certificate: accepted\n"
