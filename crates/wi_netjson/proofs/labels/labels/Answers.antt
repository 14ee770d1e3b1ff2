use Rattle.wi_net.proofs.Classes.{then_smpls, then_ip}
use Rattle.wi_netjson.proofs.labels.labels.Goals as goal

pub label_list-requires-2 : goal.label_list-requires-2
label_list-requires-2 c = then_smpls c.label_list.new.builder.net.classes c.in_ok-label_list.ensures.in_order

pub label_list-requires-3 : goal.label_list-requires-3
label_list-requires-3 c = then_ip c.label_list-2.new.builder.net.classes c.in_ok-label_list-2.ensures.in_order
