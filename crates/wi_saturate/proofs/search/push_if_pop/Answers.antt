use Rattle.std.proofs.Common.{refl, length, [], arith}
use Rattle.std.proofs.lemmas.Option.{slice_get_read}
use Rattle.wi_saturate.proofs.Elements.{on_ok}
use Rattle.wi_saturate.proofs.Counts.{pop_tries}
use Rattle.wi_saturate.proofs.Pushes.{adds_none}
use Rattle.wi_saturate.proofs.Searching.{pop_pushed, no_pop}
use Rattle.wi_saturate.proofs.search.push_if_pop.Goals as goal

pub returns-in-Empty-clause-adds : goal.returns-in-Empty-clause-adds
returns-in-Empty-clause-adds g c =
    let flat = c.args.rules.now.items in
    let f = c.get-ruled.result in
    on_ok c.offer.result (λ offered. (pop_pushed g.W.Domain.scale g.W.Domain.components g.met.W.Domain.laws g.met.W.Domain.admitted flat c.args.rule f (slice_get_read flat (length flat) c.args.rule f refl c.requires c.get-ruled.ensures) c.args.frontier.now c.offer.new.self c.in-Empty.is offered).0) c.offer.ensures.offered

pub returns-in-Empty-clause-has : goal.returns-in-Empty-clause-has
returns-in-Empty-clause-has g c =
    let flat = c.args.rules.now.items in
    let f = c.get-ruled.result in
    on_ok c.offer.result (λ offered. (pop_pushed g.W.Domain.scale g.W.Domain.components g.met.W.Domain.laws g.met.W.Domain.admitted flat c.args.rule f (slice_get_read flat (length flat) c.args.rule f refl c.requires c.get-ruled.ensures) c.args.frontier.now c.offer.new.self c.in-Empty.is offered).1) c.offer.ensures.offered

pub returns-in-Empty-clause-tries : goal.returns-in-Empty-clause-tries
returns-in-Empty-clause-tries g c =
    let flat = c.args.rules.now.items in
    let f = c.get-ruled.result in
    on_ok c.offer.result (λ tried f' at. pop_tries flat c.args.rule f f' _ _ (slice_get_read flat (length flat) c.args.rule f refl c.requires c.get-ruled.ensures) at c.in-Empty.is tried) c.offer.ensures.tries

pub returns-in-Empty-clause-lengths : goal.returns-in-Empty-clause-lengths
returns-in-Empty-clause-lengths g c = c.offer.ensures.lengths

pub returns-in_default : goal.returns-in_default
returns-in_default g c =
    let flat = c.args.rules.now.items in
    let f = c.get-ruled.result in
    record {
      adds = adds_none g.W.Domain.scale g.W.Domain.components g.met.W.Domain.laws g.met.W.Domain.admitted flat [] c.args.frontier.now;
      lengths = omega arith;
      tries = λ f' at. omega arith;
      has = no_pop g.W.Domain.scale g.W.Domain.components g.met.W.Domain.laws g.met.W.Domain.admitted flat c.args.rule f (slice_get_read flat (length flat) c.args.rule f refl c.requires c.get-ruled.ensures) c.args.frontier.now c.in_default.not-Empty;
    }
