use Rattle.wi_saturate.proofs.Counts.{turn_tries, just}
use Rattle.std.proofs.Common.{◌≡◌, ◌<◌, ◌∙◌, Some, slice_get, sym, subst, arith}
use Rattle.std.proofs.lemmas.Option.{slice_get_within}
use Rattle.wi_saturate.proofs.Lookups.{once}
use Rattle.wi_saturate.proofs.Elements.{on_ok_both, on_ok, on_err}
use Rattle.wi_saturate.proofs.Searching.{waits_longer, halves_longer, places_longer, row_taken_in, last_there}
use Rattle.wi_saturate.specs.private.Turns.{heads_of, rules_of, rows_of}
use Rattle.wi_saturate.proofs.search.Search.extend.Goals as goal

pub add-requires : goal.add-requires
add-requires g c =
    let head : slice_get (heads_of c.args.turn.now) c.args.turn.now.place ≡ Some (c.requires.search.row.p, c.requires.search.row.g) =
    c.requires.turn.head c.requires.search.row (last_there g.W.Domain.components (heads_of c.args.turn.now) (rules_of c.args.turn.now) c.requires.search.earlier c.requires.search.row (rows_of c.args.turn.now) c.requires.search.pushed c.args.turn.now.last c.requires.search.place) in
    subst (λ n. c.args.turn.now.place < n) (sym c.requires.search.stands.places.room) (slice_get_within (heads_of c.args.turn.now) c.args.turn.now.place _ head)

pub end_waits-requires-clause-waits : goal.end_waits-requires-clause-waits
end_waits-requires-clause-waits g c =
    waits_longer g.W.Domain.components (heads_of c.args.turn.now) (rules_of c.args.turn.now) c.requires.search.earlier c.requires.search.row (rows_of c.args.turn.now) c.requires.search.pushed c.args.self.now.waits c.requires.search.stands.waits

pub extend-requires-clause-waits : goal.extend-requires-clause-waits
extend-requires-clause-waits g c =
    waits_longer g.W.Domain.components (heads_of c.args.turn.now) (rules_of c.args.turn.now) c.requires.search.earlier c.requires.search.row (rows_of c.args.turn.now) c.requires.search.pushed c.args.self.now.waits c.requires.search.stands.waits

pub extend-requires-clause-halves : goal.extend-requires-clause-halves
extend-requires-clause-halves g c =
    halves_longer g.W.Domain.components (heads_of c.args.turn.now) (rules_of c.args.turn.now) c.requires.search.earlier c.requires.search.row (rows_of c.args.turn.now) c.requires.search.pushed c.args.self.now.waits c.args.self.now.halves c.requires.search.stands.halves

pub begin_waits-requires-clause-places : goal.begin_waits-requires-clause-places
begin_waits-requires-clause-places g c =
    let head : slice_get (heads_of c.args.turn.now) c.args.turn.now.place ≡ Some (c.requires.search.row.p, c.requires.search.row.g) =
    c.requires.turn.head c.requires.search.row (last_there g.W.Domain.components (heads_of c.args.turn.now) (rules_of c.args.turn.now) c.requires.search.earlier c.requires.search.row (rows_of c.args.turn.now) c.requires.search.pushed c.args.turn.now.last c.requires.search.place) in
    places_longer g.W.Domain.components (heads_of c.args.turn.now) (rules_of c.args.turn.now) c.requires.search.earlier c.requires.search.row (rows_of c.args.turn.now) c.requires.search.pushed c.args.self.now.rows c.add.new.self c.args.turn.now.place c.in_ok-add.ensures head c.requires.search.stands.places

pub returns-clause-search : goal.returns-clause-search
returns-clause-search g c =
    let head : slice_get (heads_of c.args.turn.now) c.args.turn.now.place ≡ Some (c.requires.search.row.p, c.requires.search.row.g) =
    c.requires.turn.head c.requires.search.row (last_there g.W.Domain.components (heads_of c.args.turn.now) (rules_of c.args.turn.now) c.requires.search.earlier c.requires.search.row (rows_of c.args.turn.now) c.requires.search.pushed c.args.turn.now.last c.requires.search.place) in
    on_ok_both c.begin_waits.result (λ pushed has.
    row_taken_in g.W.Domain.components (heads_of c.args.turn.now) (rules_of c.args.turn.now) c.requires.search.earlier c.requires.search.row (rows_of c.args.turn.now) c.requires.search.pushed c.args.turn.now.last c.args.turn.now.place c.requires.search.place head (once (heads_of c.args.turn.now) c.requires.turn.index.rise) c.args.self.now
    (record { frontier = c.begin_waits.new.frontier; rows = c.add.new.self; waits = c.extend.new.self; halves = c.extend.new.halves }) g.W.Domain.scale g.met.W.Domain.laws g.met.W.Domain.admitted c.requires.search.stands c.end_waits.new.frontier c.push_ones.new.frontier
    c.in_ok-end_waits.ensures.pushed.adds c.in_ok-push_ones.ensures.pushed.adds pushed.adds c.in_ok-end_waits.ensures.has c.in_ok-push_ones.ensures.has c.in_ok-extend.ensures.keeps c.in_ok-extend.ensures.lightens c.in_ok-extend.ensures.last c.in_ok-extend.ensures.halves c.len-from.result c.len-from.ensures has (places_longer g.W.Domain.components (heads_of c.args.turn.now) (rules_of c.args.turn.now) c.requires.search.earlier c.requires.search.row (rows_of c.args.turn.now) c.requires.search.pushed c.args.self.now.rows c.add.new.self c.args.turn.now.place c.in_ok-add.ensures head c.requires.search.stands.places) c.in_ok-extend.ensures.waits
    (c.in_ok-extend.ensures.counted c.requires.search.row (last_there g.W.Domain.components (heads_of c.args.turn.now) (rules_of c.args.turn.now) c.requires.search.earlier c.requires.search.row (rows_of c.args.turn.now) c.requires.search.pushed c.args.turn.now.last c.requires.search.place))) c.begin_waits.ensures.pushed c.begin_waits.ensures.has

pub returns-clause-lengths : goal.returns-clause-lengths
returns-clause-lengths g c = on_ok c.begin_waits.result (λ pushed. omega (arith, pushed.lengths, c.in_ok-end_waits.ensures.pushed.lengths, c.in_ok-push_ones.ensures.pushed.lengths)) c.begin_waits.ensures.pushed

pub returns-clause-tries : goal.returns-clause-tries
returns-clause-tries g c =
    let head : slice_get (heads_of c.args.turn.now) c.args.turn.now.place ≡ Some (c.requires.search.row.p, c.requires.search.row.g) =
    c.requires.turn.head c.requires.search.row (last_there g.W.Domain.components (heads_of c.args.turn.now) (rules_of c.args.turn.now) c.requires.search.earlier c.requires.search.row (rows_of c.args.turn.now) c.requires.search.pushed c.args.turn.now.last c.requires.search.place) in
    on_ok c.begin_waits.result (λ tried.
    turn_tries (heads_of c.args.turn.now) (rules_of c.args.turn.now) c.requires.search.earlier (rows_of c.args.turn.now) c.requires.search.row c.requires.search.pushed c.args.turn.now.place head
    c.args.turn.now.last c.args.tries.now c.end_waits.new.tries c.push_ones.new.tries c.begin_waits.new.tries c.args.self.now.waits.places.places c.extend.new.self.places.places c.requires.search.place (c.requires.search.stands.counted (just c.requires.search.row))
    (c.in_ok-extend.ensures.counted c.requires.search.row (last_there g.W.Domain.components (heads_of c.args.turn.now) (rules_of c.args.turn.now) c.requires.search.earlier c.requires.search.row (rows_of c.args.turn.now) c.requires.search.pushed c.args.turn.now.last c.requires.search.place)) c.len-from.result (c.len-from.ensures ∙ sym c.requires.search.stands.waits.count)
    c.in_ok-end_waits.ensures.tries (c.in_ok-push_ones.ensures.tries c.requires.search.row (last_there g.W.Domain.components (heads_of c.args.turn.now) (rules_of c.args.turn.now) c.requires.search.earlier c.requires.search.row (rows_of c.args.turn.now) c.requires.search.pushed c.args.turn.now.last c.requires.search.place)) tried) c.begin_waits.ensures.tries

pub end_waits-requires-clause-turn : goal.end_waits-requires-clause-turn
end_waits-requires-clause-turn g c = c.requires.turn

pub push_ones-requires : goal.push_ones-requires
push_ones-requires g c = record { turn = c.requires.turn }

pub extend-requires-clause-turn : goal.extend-requires-clause-turn
extend-requires-clause-turn g c = c.requires.turn

pub begin_waits-requires-clause-turn : goal.begin_waits-requires-clause-turn
begin_waits-requires-clause-turn g c = c.requires.turn

pub begin_waits-requires-clause-waits : goal.begin_waits-requires-clause-waits
begin_waits-requires-clause-waits g c = c.in_ok-extend.ensures.waits

pub returns-in_err-add : goal.returns-in_err-add
returns-in_err-add g c = record {
  search = on_err _ c.from_residual.result _ c.from_residual.ensures.1;
  lengths = on_err _ c.from_residual.result _ c.from_residual.ensures.1;
  tries = on_err _ c.from_residual.result _ c.from_residual.ensures.1;
}

pub returns-in_err-end_waits : goal.returns-in_err-end_waits
returns-in_err-end_waits g c = record {
  search = on_err _ c.from_residual-in_err-end_waits.result _ c.from_residual-in_err-end_waits.ensures.1;
  lengths = on_err _ c.from_residual-in_err-end_waits.result _ c.from_residual-in_err-end_waits.ensures.1;
  tries = on_err _ c.from_residual-in_err-end_waits.result _ c.from_residual-in_err-end_waits.ensures.1;
}

pub returns-in_err-push_ones : goal.returns-in_err-push_ones
returns-in_err-push_ones g c = record {
  search = on_err _ c.from_residual-in_err-push_ones.result _ c.from_residual-in_err-push_ones.ensures.1;
  lengths = on_err _ c.from_residual-in_err-push_ones.result _ c.from_residual-in_err-push_ones.ensures.1;
  tries = on_err _ c.from_residual-in_err-push_ones.result _ c.from_residual-in_err-push_ones.ensures.1;
}

pub returns-in_err-extend : goal.returns-in_err-extend
returns-in_err-extend g c = record {
  search = on_err _ c.from_residual-in_err-extend.result _ c.from_residual-in_err-extend.ensures.1;
  lengths = on_err _ c.from_residual-in_err-extend.result _ c.from_residual-in_err-extend.ensures.1;
  tries = on_err _ c.from_residual-in_err-extend.result _ c.from_residual-in_err-extend.ensures.1;
}
