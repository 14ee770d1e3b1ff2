use Rattle.wi_words.proofs.builder.outages.Goals as goal

pub returns-clause-shape : goal.returns-clause-shape
returns-clause-shape c = c.with_flag.ensures.shape _ c.auditing.ensures.shape
