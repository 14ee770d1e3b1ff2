use Rattle.std.proofs.Common.{rules}
use Rattle.wi_faults.proofs.shown.put_label_name.Goals as goal

pub returns-else-is_class_word : goal.returns-else-is_class_word
returns-else-is_class_word c = search rules
