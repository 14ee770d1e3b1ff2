use Rattle.wi_words.proofs.builder.auditing.Goals as goal

pub returns-clause-shape : goal.returns-clause-shape
returns-clause-shape c = c.with_option.ensures.shape _ c.verb.ensures.shape
