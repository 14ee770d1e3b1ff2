use Rattle.wi_words.proofs.builder.play.Goals as goal

pub returns-clause-shape : goal.returns-clause-shape
returns-clause-shape c = c.verb.ensures.shape
