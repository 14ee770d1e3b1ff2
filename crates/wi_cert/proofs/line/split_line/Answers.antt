use Rattle.std.proofs.Common.{sym}
use Rattle.wi_cert.proofs.EndLemmas.{cut_at, free_where_none}
use Rattle.wi_cert.proofs.line.split_line.Goals as goal

pub returns-in-Some : goal.returns-in-Some
returns-in-Some c = cut_at c.args.text.now c.in-Some.at (sym c.in-Some.ensures)

pub returns-in-None : goal.returns-in-None
returns-in-None c = free_where_none c.args.text.now (sym c.in-None.ensures)
