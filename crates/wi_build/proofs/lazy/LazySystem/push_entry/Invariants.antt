use Rattle.std.proofs.Common.{◌≡◌, ◌+◌, ◌++◌, take}
use Rattle.wi_net.specs.Net.{entry}
use Rattle.wi_net.specs.Tables.{group_members, members_before}
use Rattle.wi_build.specs.Encodings.{encoding_of}
use Rattle.wi_build.specs.private.Needs.{no_needs, with_groups}
use Rattle.wi_build.specs.private.Rows.{rules_for, fate_rules}
use Rattle.wi_build.proofs.HopLemmas.{later_rules}
use Rattle.wi_build.proofs.lazy.LazySystem.push_entry.Given as goal

abbrev pub invariant-loop-j : goal.invariant-loop-j
invariant-loop-j l = record {
  list : l.rules.items ++ rules_for (encoding_of l.self) l.head (later_rules l.self l.at l.fate l.j) ≡ l.initial.rules.items ++ rules_for (encoding_of l.self) l.head (fate_rules (encoding_of l.self) l.at l.fate);
  first : l.first ≡ members_before l.self.net.rows l.at.link l.at.top + group_members (take l.j (entry l.self.net l.at.link l.at.top));
  needs : l.needs ≡ with_groups l.self.net l.self.bounds no_needs (take l.j (entry l.self.net l.at.link l.at.top));
}
