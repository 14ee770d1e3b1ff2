use Rattle.wi_words.proofs.builder.draw.Goals as goal

pub returns-clause-shape : goal.returns-clause-shape
returns-clause-shape c = c.with_option.ensures.shape _ (c.with_optional.ensures.shape _ c.verb-network.ensures.shape)
