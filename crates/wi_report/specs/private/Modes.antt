-- The line of a report that tells how its answer was found.
use Rattle.std.specs.Prelude.{ℕ, Bool, List}
use Rattle.wi_report.specs.declared.reports.Mode.{Mode}
use Rattle.wi_report.specs.declared.reports.Mode.TheVariants.{Moving, Exact}
use Rattle.wi_report.specs.Reports.{moving_line, nodes_line}

-- by whether a run is shown
abbrev pub mode_line : Mode → Bool → List ℕ
mode_line Moving = moving_line
mode_line (Exact nodes) = nodes_line nodes
