use Rattle.std.proofs.Common.{arith}
use Rattle.wi_saturate.proofs.Made.{head_there, made_empty, made_one, made_two}
use Rattle.wi_saturate.proofs.search.row_of.Goals as goal

pub returns-in-Empty : goal.returns-in-Empty
returns-in-Empty g c rows sound =
    made_empty g.W.Domain.scale g.W.Domain.components g.met.W.Domain.laws g.met.W.Domain.admitted c.args.rules.now.heads c.heads.result.now c.args.rules.now.items c.args.candidate c.get-ruled.result c.heads.ensures c.get-ruled.ensures
    (head_there c.args.rules.now.heads c.heads.result.now c.args.rules.now.items c.args.candidate.rule c.get-ruled.result c.requires.0 c.heads.ensures c.get-ruled.ensures c.requires.1 c.requires.2) rows sound c.in-Empty.is

pub returns-in-One : goal.returns-in-One
returns-in-One g c rows sound =
    made_one g.W.Domain.scale g.W.Domain.components g.met.W.Domain.laws g.met.W.Domain.admitted c.args.rules.now.heads c.heads.result.now c.args.rules.now.items c.args.candidate c.get-ruled.result c.heads.ensures c.get-ruled.ensures
    (head_there c.args.rules.now.heads c.heads.result.now c.args.rules.now.items c.args.candidate.rule c.get-ruled.result c.requires.0 c.heads.ensures c.get-ruled.ensures c.requires.1 c.requires.2) rows sound c.in-One.field-0 c.in-One.is

pub returns-in-Two : goal.returns-in-Two
returns-in-Two g c rows sound =
    made_two g.W.Domain.scale g.W.Domain.components g.met.W.Domain.laws g.met.W.Domain.admitted c.args.rules.now.heads c.heads.result.now c.args.rules.now.items c.args.candidate c.get-ruled.result c.heads.ensures c.get-ruled.ensures
    (head_there c.args.rules.now.heads c.heads.result.now c.args.rules.now.items c.args.candidate.rule c.get-ruled.result c.requires.0 c.heads.ensures c.get-ruled.ensures c.requires.1 c.requires.2) rows sound c.in-Two.field-0 c.in-Two.field-1 c.in-Two.is

pub offset_bounds-heads-ruled : goal.offset_bounds-heads-ruled
offset_bounds-heads-ruled g c =
    let within = head_there c.args.rules.now.heads c.heads.result.now c.args.rules.now.items c.args.candidate.rule c.get-ruled.result c.requires.0 c.heads.ensures c.get-ruled.ensures c.requires.1 c.requires.2 in omega (arith, within)

pub bounds-heads-ruled : goal.bounds-heads-ruled
bounds-heads-ruled g c = head_there c.args.rules.now.heads c.heads.result.now c.args.rules.now.items c.args.candidate.rule c.get-ruled.result c.requires.0 c.heads.ensures c.get-ruled.ensures c.requires.1 c.requires.2
