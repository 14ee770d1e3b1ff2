use Rattle.std.proofs.Common.{◌≡◌, ◌+◌, ◌++◌, drop, true}
use Rattle.wi_net.specs.Net.{is_link, labels_known}
use Rattle.wi_report.specs.Packets.{later_packets}
use Rattle.wi_report.proofs.packet_lines.put_later.Given as goal

abbrev pub invariant-loop-i : goal.invariant-loop-i
invariant-loop-i l = record {
  link : is_link l.net l.at.0 ≡ true;
  header : labels_known l.net l.at.1 ≡ true;
  text : l.text ++ later_packets l.net (l.i + 2) l.at (drop l.i l.steps) ≡ l.initial.text ++ later_packets l.net 2 l.initial.at l.steps;
}
