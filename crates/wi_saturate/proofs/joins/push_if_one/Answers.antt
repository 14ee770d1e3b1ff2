use Rattle.std.proofs.Common.{refl, length, arith}
use Rattle.std.proofs.lemmas.Option.{slice_get_read}
use Rattle.wi_saturate.proofs.Elements.{on_ok}
use Rattle.wi_saturate.proofs.Counts.{one_tries}
use Rattle.wi_saturate.proofs.Pushes.{one_first, no_one, pushed_none}
use Rattle.wi_saturate.specs.private.Turns.{rules_of, rows_of}
use Rattle.wi_saturate.proofs.joins.push_if_one.Goals as goal

pub push_one-requires-clause-one : goal.push_one-requires-clause-one
push_one-requires-clause-one g c =
    one_first (rules_of c.args.turn.now) (rows_of c.args.turn.now) c.args.rule c.args.turn.now.last c.in-One.field-0 c.get.result c.requires.rule c.requires.turn.within c.get.ensures c.requires.first c.in-One.is

pub returns-in_default : goal.returns-in_default
returns-in_default g c = record {
  pushed = pushed_none g.W.Domain.scale g.W.Domain.components g.met.W.Domain.laws g.met.W.Domain.admitted c.args.turn.now c.args.frontier.now c.args.tries.now;
  tries = λ f r at row. omega arith;
  has = no_one g.W.Domain.scale g.W.Domain.components (rules_of c.args.turn.now) (rows_of c.args.turn.now) c.args.frontier.now c.args.rule c.args.turn.now.last c.get.result c.requires.rule c.get.ensures c.in_default.not-One;
}

pub returns-in-One-clause-tries : goal.returns-in-One-clause-tries
returns-in-One-clause-tries g c = on_ok c.push_one.result (λ more f r at row.
    one_tries (rules_of c.args.turn.now) c.args.rule c.in-One.field-0 c.get.result f r _ _ (slice_get_read (rules_of c.args.turn.now) (length (rules_of c.args.turn.now)) c.args.rule c.get.result refl c.requires.rule c.get.ensures) at
    c.in-One.is (c.requires.first f r at row) more) c.push_one.ensures.tries
