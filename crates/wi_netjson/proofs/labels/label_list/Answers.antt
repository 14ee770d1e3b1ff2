use Rattle.std.proofs.Common.{rules}
use Rattle.wi_netjson.proofs.labels.label_list.Goals as goal

pub each_label-requires-clause-few : goal.each_label-requires-clause-few
each_label-requires-clause-few c = search rules
