use Rattle.std.proofs.Common.{◌≡◌, ℕ, ◌++◌, drop}
use Rattle.wi_net.specs.declared.parts.Member.{Member}
use Rattle.wi_rules.specs.Rules.{each_at}
use Rattle.wi_build.specs.Encodings.{encoding_of}
use Rattle.wi_build.specs.private.Rows.{rules_for, member_rules, group_rules}
use Rattle.wi_build.proofs.lazy.LazySystem.push_group.Given as goal

abbrev pub invariant-loop-i : goal.invariant-loop-i
invariant-loop-i l =
    l.rules.items ++ rules_for (encoding_of l.self) l.head (each_at (λ (i : ℕ) (member : Member). member_rules (encoding_of l.self) l.at l.fate (record { group = l.group; member = i }) member) l.i (drop l.i l.members))
    ≡ l.initial.rules.items ++ rules_for (encoding_of l.self) l.head (group_rules (encoding_of l.self) l.at l.fate l.group l.members)
