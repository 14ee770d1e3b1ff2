use Rattle.std.proofs.Common.{◌≡◌, true}
use Rattle.std.specs.List.{list_all}
use Rattle.wi_labels.specs.declared.label.Class.TheVariants.{Ip}
use Rattle.wi_net.specs.Network.{is_no_later}
use Rattle.wi_samples.proofs.returns.add_labels.Given as goal

abbrev pub invariant-loop-number : goal.invariant-loop-number
invariant-loop-number l = list_all (λ c. is_no_later c Ip) l.builder.net.classes ≡ true
