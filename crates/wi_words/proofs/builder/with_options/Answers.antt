use Rattle.wi_words.proofs.builder.with_options.Goals as goal

pub returns-clause-shape : goal.returns-clause-shape
returns-clause-shape c = λ s is. c.with_option-2.ensures.shape _ (c.with_option.ensures.shape s is)
