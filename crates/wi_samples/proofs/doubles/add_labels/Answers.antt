use Rattle.wi_net.proofs.Classes.{then_smpls, then_ip}
use Rattle.wi_samples.proofs.doubles.add_labels.Goals as goal

pub add_label-requires : goal.add_label-requires
add_label-requires c = then_smpls c.add_doubles.new.builder.net.classes c.in_ok-add_doubles.ensures

pub add_label-requires-2 : goal.add_label-requires-2
add_label-requires-2 c = then_ip c.add_label.new.builder.net.classes c.in_ok-add_label.ensures
