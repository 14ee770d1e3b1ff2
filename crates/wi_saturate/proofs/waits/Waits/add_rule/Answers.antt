use Rattle.std.proofs.Common.{◌<◌, ℕ, sym, subst, length, refl, ap}
use Rattle.std.proofs.lemmas.Option.{slice_get_read, slice_get_within}
use Rattle.wi_saturate.specs.private.Tries.{begun}
use Rattle.wi_saturate.specs.private.Turns.{heads_of, rules_of, rows_of}
use Rattle.wi_saturate.proofs.Counts.{more_none_pub, more_one}
use Rattle.wi_saturate.proofs.Elements.{some_there}
use Rattle.wi_saturate.proofs.Lookups.{once}
use Rattle.wi_saturate.proofs.Lowering.{lightens_none}
use Rattle.wi_saturate.proofs.Pushes.{rule_fits, row_fits}
use Rattle.wi_saturate.proofs.Waiting.{no_second, no_head, waits_now, halves_stay, halves_now, more_keeps, more_wait}
use Rattle.wi_saturate.proofs.waits.Waits.add_rule.Goals as goal

pub returns-in_default : goal.returns-in_default
returns-in_default g c = record {
  waits = c.requires.waits;
  halves = c.requires.halves;
  keeps = λ n w h. h;
  lightens = lightens_none g.W.Domain.scale g.W.Domain.components g.met.W.Domain.laws g.met.W.Domain.admitted c.args.halves.now;
  has = no_second g.W.Domain.scale g.W.Domain.components g.met.W.Domain.laws g.met.W.Domain.admitted (heads_of c.args.turn.now) (rules_of c.args.turn.now) (rows_of c.args.turn.now) c.args.rule c.args.turn.now.last c.get-ruled.result c.requires.rule c.get-ruled.ensures c.args.halves.now c.in_default.not-Two;
  counted = λ f r at row. more_none_pub (heads_of c.args.turn.now) c.args.self.now.places.places (λ F. begun F r f.rule.to f.rule.word);
}

pub returns-in_default-place_of-clause-lightens : goal.returns-in_default-place_of-clause-lightens
returns-in_default-place_of-clause-lightens g c = lightens_none g.W.Domain.scale g.W.Domain.components g.met.W.Domain.laws g.met.W.Domain.admitted c.args.halves.now

pub returns-in_default-place_of-clause-has : goal.returns-in_default-place_of-clause-has
returns-in_default-place_of-clause-has g c = no_head g.W.Domain.scale g.W.Domain.components g.met.W.Domain.laws g.met.W.Domain.admitted (heads_of c.args.turn.now) (rules_of c.args.turn.now) (rows_of c.args.turn.now) c.args.rule c.args.turn.now.last c.get-ruled.result c.index-turn-turn.result c.requires.rule c.requires.turn.within c.get-ruled.ensures c.args.halves.now c.in-Two.field-0 c.in-Two.v c.in-Two.is c.in_default-place_of.ensures

pub returns-in_default-place_of-clause-counted : goal.returns-in_default-place_of-clause-counted
returns-in_default-place_of-clause-counted g c f r at row = more_none_pub (heads_of c.args.turn.now) c.args.self.now.places.places (λ F. begun F r f.rule.to f.rule.word)

pub extend-half-requires-clause-first : goal.extend-half-requires-clause-first
extend-half-requires-clause-first g c =
    let f = some_there (rules_of c.args.turn.now) c.args.rule c.requires.rule in
    rule_fits g.W.Domain.components (rules_of c.args.turn.now) (rows_of c.args.turn.now) c.requires.turn.index.small c.requires.turn.fit c.args.rule c.get-ruled.result f.0 f.1 c.get-ruled.ensures

pub extend-half-requires-clause-second : goal.extend-half-requires-clause-second
extend-half-requires-clause-second g c =
    let r = some_there (rows_of c.args.turn.now) c.args.turn.now.last c.requires.turn.within in
    row_fits g.W.Domain.components (rules_of c.args.turn.now) (rows_of c.args.turn.now) c.requires.turn.index.small c.requires.turn.fit c.args.turn.now.last c.index-turn-turn.result r.0 r.1

pub add-requires : goal.add-requires
add-requires g c = subst (λ (n : ℕ). c.in-Some.place < n) (sym c.requires.waits.room) (slice_get_within (heads_of c.args.turn.now) c.in-Some.place _ c.in-Some.ensures)

pub returns-in_ok-add-clause-waits : goal.returns-in_ok-add-clause-waits
returns-in_ok-add-clause-waits g c = more_wait g.W.Domain.scale g.W.Domain.components g.met.W.Domain.laws g.met.W.Domain.admitted (heads_of c.args.turn.now) (rules_of c.args.turn.now) (rows_of c.args.turn.now) c.args.rule c.args.turn.now.last c.get-ruled.result c.index-turn-turn.result c.requires.rule c.requires.turn.within c.get-ruled.ensures c.in-Two.field-0 c.in-Two.v c.in-Some.place c.in-Two.is c.in-Some.ensures c.extend-half.result c.extend-half.ensures c.args.halves.now c.lower.new.self c.in_ok-lower.field-0 c.in_ok-lower.ensures c.args.self.now c.add.new.self c.in_ok-add.ensures.items c.in_ok-add.ensures.places c.requires.waits c.requires.first

pub returns-in_ok-add-clause-halves : goal.returns-in_ok-add-clause-halves
returns-in_ok-add-clause-halves g c = halves_now g.W.Domain.scale g.W.Domain.components g.met.W.Domain.laws g.met.W.Domain.admitted (heads_of c.args.turn.now) (rules_of c.args.turn.now) (rows_of c.args.turn.now) c.args.rule c.args.turn.now.last c.get-ruled.result c.index-turn-turn.result c.requires.rule c.requires.turn.within c.get-ruled.ensures c.in-Two.field-0 c.in-Two.v c.in-Some.place c.in-Two.is c.in-Some.ensures c.extend-half.result c.extend-half.ensures c.args.halves.now c.lower.new.self c.in_ok-lower.field-0 c.in_ok-lower.ensures c.args.self.now c.add.new.self c.in_ok-add.ensures.items c.in_ok-add.ensures.places c.requires.waits c.requires.halves

pub returns-in_ok-add-clause-keeps : goal.returns-in_ok-add-clause-keeps
returns-in_ok-add-clause-keeps g c = more_keeps g.W.Domain.scale g.W.Domain.components g.met.W.Domain.laws g.met.W.Domain.admitted (heads_of c.args.turn.now) (rules_of c.args.turn.now) (rows_of c.args.turn.now) c.args.rule c.args.turn.now.last c.get-ruled.result c.index-turn-turn.result c.requires.rule c.requires.turn.within c.get-ruled.ensures c.in-Two.field-0 c.in-Two.v c.in-Some.place c.in-Two.is c.in-Some.ensures c.extend-half.result c.extend-half.ensures c.args.halves.now c.lower.new.self c.in_ok-lower.field-0 c.in_ok-lower.ensures c.args.self.now c.add.new.self c.in_ok-add.ensures.items c.in_ok-add.ensures.places c.requires.waits

pub returns-in_ok-add-clause-has : goal.returns-in_ok-add-clause-has
returns-in_ok-add-clause-has g c = waits_now g.W.Domain.scale g.W.Domain.components g.met.W.Domain.laws g.met.W.Domain.admitted (heads_of c.args.turn.now) (rules_of c.args.turn.now) (rows_of c.args.turn.now) c.args.rule c.args.turn.now.last c.get-ruled.result c.index-turn-turn.result c.requires.rule c.requires.turn.within c.get-ruled.ensures c.in-Two.field-0 c.in-Two.v c.in-Some.place c.in-Two.is c.in-Some.ensures c.extend-half.result c.extend-half.ensures c.args.halves.now c.lower.new.self c.in_ok-lower.field-0 c.in_ok-lower.ensures (once (heads_of c.args.turn.now) c.requires.turn.index.rise)

pub returns-in_ok-add-clause-counted : goal.returns-in_ok-add-clause-counted
returns-in_ok-add-clause-counted g c f r at row =
    more_one (heads_of c.args.turn.now) (rules_of c.args.turn.now) (rows_of c.args.turn.now) c.args.rule c.args.turn.now.last c.in-Two.field-0 c.in-Two.v c.in-Some.place c.get-ruled.result f c.index-turn-turn.result r c.args.self.now.places.places c.add.new.self.places.places
    (slice_get_read (rules_of c.args.turn.now) (length (rules_of c.args.turn.now)) c.args.rule c.get-ruled.result refl c.requires.rule c.get-ruled.ensures) at row c.in-Two.is (c.requires.first f r at row) c.in-Some.ensures (ap (λ v. v.places) c.in_ok-add.ensures.places)

pub returns-else-branch-clause-halves : goal.returns-else-branch-clause-halves
returns-else-branch-clause-halves g c = halves_stay g.W.Domain.scale g.W.Domain.components g.met.W.Domain.laws g.met.W.Domain.admitted (heads_of c.args.turn.now) (rules_of c.args.turn.now) (rows_of c.args.turn.now) c.args.rule c.args.turn.now.last c.get-ruled.result c.index-turn-turn.result c.requires.rule c.requires.turn.within c.get-ruled.ensures c.in-Two.field-0 c.in-Two.v c.in-Some.place c.in-Two.is c.in-Some.ensures c.extend-half.result c.extend-half.ensures c.args.halves.now c.lower.new.self c.in_ok-lower.field-0 c.in_ok-lower.ensures c.args.self.now c.if-branch.false c.requires.halves

pub returns-else-branch-clause-has : goal.returns-else-branch-clause-has
returns-else-branch-clause-has g c = waits_now g.W.Domain.scale g.W.Domain.components g.met.W.Domain.laws g.met.W.Domain.admitted (heads_of c.args.turn.now) (rules_of c.args.turn.now) (rows_of c.args.turn.now) c.args.rule c.args.turn.now.last c.get-ruled.result c.index-turn-turn.result c.requires.rule c.requires.turn.within c.get-ruled.ensures c.in-Two.field-0 c.in-Two.v c.in-Some.place c.in-Two.is c.in-Some.ensures c.extend-half.result c.extend-half.ensures c.args.halves.now c.lower.new.self c.in_ok-lower.field-0 c.in_ok-lower.ensures (once (heads_of c.args.turn.now) c.requires.turn.index.rise)

pub returns-else-branch-clause-counted : goal.returns-else-branch-clause-counted
returns-else-branch-clause-counted g c f r at row = more_none_pub (heads_of c.args.turn.now) c.args.self.now.places.places (λ F. begun F r f.rule.to f.rule.word)
