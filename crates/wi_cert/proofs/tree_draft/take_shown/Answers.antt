use Rattle.std.proofs.Common.{sym, ap, ◌∙◌, option_map}
use Rattle.wi_cert.proofs.TreeMarkLemmas.{decided_on}
use Rattle.wi_cert.proofs.tree_draft.take_shown.Goals as goal

pub returns-clause-ok : goal.returns-clause-ok
returns-clause-ok c = ap (option_map (λ n. (n, c.take_line.new.self))) c.after_shown.ensures ∙ decided_on c.args.place c.args.shown.now c.take_line.new.self c.args.line.now c.in_ok-next.next c.in_ok-next.ensures.ok (sym c.is_undecided.ensures ∙ c.if-is_undecided.false) c.requires
