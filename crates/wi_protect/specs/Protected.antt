-- The network that a plan asks for (facility backup, RFC 4090, 3.2).
use Rattle.std.specs.Prelude.{◌++◌, ◌∷◌, [], List, Option}
use Rattle.wi_labels.specs.declared.label.Class.TheVariants.{Ip}
use Rattle.wi_labels.specs.Header.{Entry}
use Rattle.wi_net.specs.declared.parts.LinkId.{LinkId}
use Rattle.wi_net.specs.declared.parts.TableRow.{TableRow}
use Rattle.wi_net.specs.Net.{Net}
use Rattle.wi_plan.specs.declared.plan.Path.{Path}
use Rattle.wi_plan.specs.declared.plan.Plan.{Plan}
use Rattle.wi_protect.specs.Labels.{label_names, label_classes, first_bypass_label, first_path_label, moved_label}
use Rattle.wi_protect.specs.Rows.{Round, round, paths_rows, bypasses_rows}

-- the way around a link
abbrev pub rounds : Net → Plan → LinkId → Option Round
rounds net plan e = round (first_bypass_label net) plan.bypasses e

-- its tables: those of the paths, then those of the bypasses
abbrev pub plan_rows : Net → Plan → List TableRow
plan_rows net plan =
    paths_rows (rounds net plan) (moved_label plan) (first_path_label net plan) plan.paths
    ++ bypasses_rows (first_bypass_label net) plan.bypasses

-- a network's routers and links, its labels and those of the plan, and the plan's tables
abbrev pub protected : Net → Plan → Net
protected net plan = record net { labels = label_names net plan; classes = label_classes net plan; rows = plan_rows net plan }

-- the header of a path's packets: its ip label alone
abbrev pub header_of : Plan → Path → List Entry
header_of plan path = (moved_label plan path.ip, Ip) ∷ []
