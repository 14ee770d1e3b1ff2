use Rattle.wi_words.proofs.builder.asking.Goals as goal

pub returns-clause-shape : goal.returns-clause-shape
returns-clause-shape c = c.with_options.ensures.shape _ c.verb.ensures.shape
