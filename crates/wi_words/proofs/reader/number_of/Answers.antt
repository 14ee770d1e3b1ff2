use Rattle.std.proofs.Common.{◌∙◌, sym}
use Rattle.wi_words.proofs.Numbers.{not_parsed}
use Rattle.wi_words.proofs.reader.number_of.Goals as goal

pub returns-clause-none : goal.returns-clause-none
returns-clause-none c = λ none. not_parsed c.args.text.now c.parse.result c.requires c.parse.ensures.value.0 (sym c.ok.ensures.value ∙ none)
