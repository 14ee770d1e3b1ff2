use Rattle.std.proofs.Common.{sym, rules}
use Rattle.wi_world.proofs.Known.{known_label}
use Rattle.wi_report.proofs.packet_lines.put_last.Goals as goal

pub put_label-requires : goal.put_label-requires
put_label-requires c = known_label _ _ _ _ c.keeps.ensures c.requires (sym c.in-Some.ensures)

pub returns-in-Some : goal.returns-in-Some
returns-in-Some c = search rules
