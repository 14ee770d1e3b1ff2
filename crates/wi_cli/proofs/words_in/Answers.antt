use Rattle.wi_cli.proofs.Collected.{all_collected}
use Rattle.wi_cli.proofs.words_in.Goals as goal

pub returns-in_ok-collect-in-Ok-clause-words : goal.returns-in_ok-collect-in-Ok-clause-words
returns-in_ok-collect-in-Ok-clause-words c = all_collected _ c.in-Ok.words c.in_ok-collect-in-Ok.field-0 c.in-Ok.is c.in_ok-collect-in-Ok.ensures.ran
