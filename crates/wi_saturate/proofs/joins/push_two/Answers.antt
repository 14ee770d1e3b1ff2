use Rattle.std.proofs.Common.{rules}
use Rattle.std.proofs.lemmas.Option.{slice_get_within}
use Rattle.wi_saturate.proofs.Elements.{on_ok, on_ok_both}
use Rattle.wi_saturate.proofs.Pushes.{two_pushed, rule_fits, row_fits, both_fit}
use Rattle.wi_saturate.specs.private.Turns.{rules_of, rows_of}
use Rattle.wi_saturate.proofs.joins.push_two.Goals as goal

pub offset_bounds-turn-j : goal.offset_bounds-turn-j
offset_bounds-turn-j g c = let within = slice_get_within (rows_of c.args.turn.now) c.args.j c.requires.two.2 c.requires.two.8 in search rules

pub bounds-turn-j : goal.bounds-turn-j
bounds-turn-j g c = slice_get_within (rows_of c.args.turn.now) c.args.j c.requires.two.2 c.requires.two.8

pub extend-half-requires-clause-first : goal.extend-half-requires-clause-first
extend-half-requires-clause-first g c = rule_fits g.W.Domain.components (rules_of c.args.turn.now) (rows_of c.args.turn.now) c.requires.turn.index.small c.requires.turn.fit c.args.rule c.get-ruled.result c.requires.two.0 c.requires.two.5 c.get-ruled.ensures

pub extend-half-requires-clause-second : goal.extend-half-requires-clause-second
extend-half-requires-clause-second g c = row_fits g.W.Domain.components (rules_of c.args.turn.now) (rows_of c.args.turn.now) c.requires.turn.index.small c.requires.turn.fit c.args.i c.index-turn-i.result c.requires.two.1 c.requires.two.7

pub extend-weight-requires-clause-first : goal.extend-weight-requires-clause-first
extend-weight-requires-clause-first g c = both_fit g.W.Domain.components (rules_of c.args.turn.now) (rows_of c.args.turn.now) c.requires.turn.index.small c.requires.turn.fit c.args.rule c.args.i c.get-ruled.result c.requires.two.0 c.index-turn-i.result c.requires.two.1 c.extend-half.result c.requires.two.5 c.get-ruled.ensures c.requires.two.7 c.extend-half.ensures

pub extend-weight-requires-clause-second : goal.extend-weight-requires-clause-second
extend-weight-requires-clause-second g c = row_fits g.W.Domain.components (rules_of c.args.turn.now) (rows_of c.args.turn.now) c.requires.turn.index.small c.requires.turn.fit c.args.j c.index-turn-j.result c.requires.two.2 c.requires.two.8

pub returns-clause-pushed : goal.returns-clause-pushed
returns-clause-pushed g c = on_ok_both c.offer.result (λ offered longer. record {
  adds = (two_pushed g.W.Domain.scale g.W.Domain.components g.met.W.Domain.laws g.met.W.Domain.admitted (rules_of c.args.turn.now) (rows_of c.args.turn.now) c.args.rule c.args.i c.args.j c.get-ruled.result c.index-turn-i.result c.index-turn-j.result c.get-ruled.ensures c.args.frontier.now c.offer.new.self
      c.extend-weight.result c.extend-half.result c.extend-half.ensures c.extend-weight.ensures c.requires.two offered).0;
  lengths = longer;
}) c.offer.ensures.offered c.offer.ensures.lengths

pub returns-clause-has : goal.returns-clause-has
returns-clause-has g c = on_ok c.offer.result (λ offered. (
    two_pushed g.W.Domain.scale g.W.Domain.components g.met.W.Domain.laws g.met.W.Domain.admitted (rules_of c.args.turn.now) (rows_of c.args.turn.now) c.args.rule c.args.i c.args.j c.get-ruled.result c.index-turn-i.result c.index-turn-j.result c.get-ruled.ensures c.args.frontier.now c.offer.new.self
    c.extend-weight.result c.extend-half.result c.extend-half.ensures c.extend-weight.ensures c.requires.two offered
    ).1) c.offer.ensures.offered

pub returns-clause-tries : goal.returns-clause-tries
returns-clause-tries g c = c.offer.ensures.tries

pub offset_bounds-turn-i : goal.offset_bounds-turn-i
offset_bounds-turn-i g c = let within = slice_get_within (rows_of c.args.turn.now) c.args.i c.requires.two.1 c.requires.two.7 in search rules

pub bounds-turn-i : goal.bounds-turn-i
bounds-turn-i g c = slice_get_within (rows_of c.args.turn.now) c.args.i c.requires.two.1 c.requires.two.7
