use Rattle.std.proofs.Common.{◌∙◌, sym}
use Rattle.wi_syntax.proofs.Texts.{read_is, end_fault}
use Rattle.wi_syntax.proofs.reader.written_of.Goals as goal

pub returns-in-Some-clause-read : goal.returns-in-Some-clause-read
returns-in-Some-clause-read c = read_is _ _ _ c.requires (sym c.in_ok-written.ensures ∙ c.in-Some.is)

pub returns-in-None-clause-refused : goal.returns-in-None-clause-refused
returns-in-None-clause-refused c = end_fault _ _ c.utf8.text c.requires (sym c.in_ok-written.ensures ∙ c.in-None.is)
