use Rattle.std.proofs.Common.{◌<◌, ◌++◌, ◌∷◌, [], refl, sym, subst, arith}
use Rattle.std.proofs.lemmas.List.Sorted.{length_permutation}
use Rattle.std.proofs.lemmas.Option.{slice_get_within}
use Rattle.std.proofs.lemmas.Bool.{false≢true}
use Rattle.wi_saturate.proofs.Elements.{read_there}
use Rattle.wi_saturate.proofs.Searching.{taken_out, settled_before, settled_last, head_within, none_seen, lightest_seen, open_candidate, taken_there, settled_there, ends_there}
use Rattle.wi_saturate.proofs.search.Search.next_row.Goals as goal

pub row_of-row-requires : goal.row_of-row-requires
row_of-row-requires g c =
    let sound = c.loop-candidate.invariant.search.sound c.in-Some.candidate (taken_there c.loop-candidate.self.frontier.heap c.pop.new.self c.in-Some.candidate c.in-Some.ensures.taken) in
    (sound.0, sound.1, head_within g.W.Domain.scale g.W.Domain.components g.met.W.Domain.laws g.met.W.Domain.admitted (g.S.System.rules c.args.sys.now) c.args.index.now c.requires.index c.args.rows.now c.in-Some.candidate.rule sound.0 sound.1)

pub get-place-requires : goal.get-place-requires
get-place-requires g c =
    let sound = c.loop-candidate.invariant.search.sound c.in-Some.candidate (taken_there c.loop-candidate.self.frontier.heap c.pop.new.self c.in-Some.candidate c.in-Some.ensures.taken) in
    slice_get_within c.args.index.now.rules.items c.in-Some.candidate.rule sound.0 sound.1

pub is_settled-requires-clause-count : goal.is_settled-requires-clause-count
is_settled-requires-clause-count g c = c.loop-candidate.invariant.search.places.count

pub is_settled-requires-clause-within : goal.is_settled-requires-clause-within
is_settled-requires-clause-within g c =
    let sound = c.loop-candidate.invariant.search.sound c.in-Some.candidate (taken_there c.loop-candidate.self.frontier.heap c.pop.new.self c.in-Some.candidate c.in-Some.ensures.taken) in
    let at = read_there c.args.index.now.rules.items c.in-Some.candidate.rule c.get-place.result sound.0 sound.1 c.get-place.ensures in
    let within = head_within g.W.Domain.scale g.W.Domain.components g.met.W.Domain.laws g.met.W.Domain.admitted (g.S.System.rules c.args.sys.now) c.args.index.now c.requires.index c.args.rows.now c.in-Some.candidate.rule c.get-place.result at in
    subst (λ n. c.get-place.result.head < n) (sym c.loop-candidate.invariant.search.places.room) within

pub returns-then-not-is_settled-clause-made : goal.returns-then-not-is_settled-clause-made
returns-then-not-is_settled-clause-made g c =
    let sound = c.loop-candidate.invariant.search.sound c.in-Some.candidate (taken_there c.loop-candidate.self.frontier.heap c.pop.new.self c.in-Some.candidate c.in-Some.ensures.taken) in
    let at = read_there c.args.index.now.rules.items c.in-Some.candidate.rule c.get-place.result sound.0 sound.1 c.get-place.ensures in
    open_candidate g.W.Domain.scale g.W.Domain.components g.met.W.Domain.laws g.met.W.Domain.admitted (g.S.System.rules c.args.sys.now) c.args.index.now c.requires.index c.args.rows.now c.in-Some.candidate c.row_of-row.result (c.row_of-row.ensures c.args.rows.now (c.loop-candidate.invariant.search.sound c.in-Some.candidate (taken_there c.loop-candidate.self.frontier.heap c.pop.new.self c.in-Some.candidate c.in-Some.ensures.taken))) c.get-place.result at
    (λ s. false≢true (c.if-not-is_settled.ensures.1 (ends_there c.args.index.now.rules.heads c.requires.index.indexed.rise c.args.rows.now c.loop-candidate.self.rows c.loop-candidate.invariant.search.places c.get-place.result.head _ _ _ ((c.row_of-row.ensures c.args.rows.now (c.loop-candidate.invariant.search.sound c.in-Some.candidate (taken_there c.loop-candidate.self.frontier.heap c.pop.new.self c.in-Some.candidate c.in-Some.ensures.taken))).by c.get-place.result at).0 s)))

pub returns-then-not-is_settled-clause-least : goal.returns-then-not-is_settled-clause-least
returns-then-not-is_settled-clause-least g c =
    lightest_seen g.W.Domain.scale g.W.Domain.components g.met.W.Domain.laws g.met.W.Domain.admitted (g.S.System.rules c.args.sys.now) c.args.index.now c.requires.index c.args.rows.now c.in-Some.candidate c.row_of-row.result (c.row_of-row.ensures c.args.rows.now (c.loop-candidate.invariant.search.sound c.in-Some.candidate (taken_there c.loop-candidate.self.frontier.heap c.pop.new.self c.in-Some.candidate c.in-Some.ensures.taken))) c.loop-candidate.self c.in-Some.ensures.lightest c.loop-candidate.invariant.search

pub returns-then-not-is_settled-clause-search : goal.returns-then-not-is_settled-clause-search
returns-then-not-is_settled-clause-search g c =
    taken_out g.W.Domain.scale g.W.Domain.components c.args.index.now.rules.heads c.args.index.now.rules.items c.args.rows.now c.args.rows.now (c.args.rows.now ++ c.row_of-row.result ∷ []) (settled_before c.args.rows.now c.row_of-row.result) c.in-Some.candidate c.loop-candidate.self.frontier (record { heap = c.pop.new.self; offered = c.loop-candidate.self.frontier.offered }) c.in-Some.ensures.taken refl c.row_of-row.result (settled_last c.args.rows.now c.row_of-row.result)
    (c.row_of-row.ensures c.args.rows.now (c.loop-candidate.invariant.search.sound c.in-Some.candidate (taken_there c.loop-candidate.self.frontier.heap c.pop.new.self c.in-Some.candidate c.in-Some.ensures.taken))) c.loop-candidate.self (record { frontier = (record { heap = c.pop.new.self; offered = c.loop-candidate.self.frontier.offered }); rows = c.loop-candidate.self.rows; waits = c.loop-candidate.self.waits; halves = c.loop-candidate.self.halves }) refl refl refl refl refl c.loop-candidate.invariant.search

pub loop-candidate-preserved : goal.loop-candidate-preserved
loop-candidate-preserved g c =
    let sound = c.loop-candidate.invariant.search.sound c.in-Some.candidate (taken_there c.loop-candidate.self.frontier.heap c.pop.new.self c.in-Some.candidate c.in-Some.ensures.taken) in
    let at = read_there c.args.index.now.rules.items c.in-Some.candidate.rule c.get-place.result sound.0 sound.1 c.get-place.ensures in
    let shorter = length_permutation c.loop-candidate.self.frontier.heap (c.in-Some.candidate ∷ c.pop.new.self) c.in-Some.ensures.taken in
    record {
      search = taken_out g.W.Domain.scale g.W.Domain.components c.args.index.now.rules.heads c.args.index.now.rules.items c.args.rows.now c.args.rows.now c.args.rows.now (λ p g q s. s) c.in-Some.candidate c.loop-candidate.self.frontier (record { heap = c.pop.new.self; offered = c.loop-candidate.self.frontier.offered }) c.in-Some.ensures.taken refl c.row_of-row.result (settled_there c.args.index.now.rules.heads c.requires.index.indexed.rise c.args.rows.now c.loop-candidate.self.rows c.loop-candidate.invariant.search.places c.get-place.result.head _ _ _ ((c.row_of-row.ensures c.args.rows.now (c.loop-candidate.invariant.search.sound c.in-Some.candidate (taken_there c.loop-candidate.self.frontier.heap c.pop.new.self c.in-Some.candidate c.in-Some.ensures.taken))).by c.get-place.result at).0 (c.if-not-is_settled.ensures.0 refl))
          (c.row_of-row.ensures c.args.rows.now (c.loop-candidate.invariant.search.sound c.in-Some.candidate (taken_there c.loop-candidate.self.frontier.heap c.pop.new.self c.in-Some.candidate c.in-Some.ensures.taken))) c.loop-candidate.self (record { frontier = (record { heap = c.pop.new.self; offered = c.loop-candidate.self.frontier.offered }); rows = c.loop-candidate.self.rows; waits = c.loop-candidate.self.waits; halves = c.loop-candidate.self.halves }) refl refl refl refl refl c.loop-candidate.invariant.search;
      fewer = omega (arith, shorter, c.loop-candidate.invariant.fewer);
    }

pub loop-candidate-smaller : goal.loop-candidate-smaller
loop-candidate-smaller g c =
    let fewer = length_permutation c.loop-candidate.self.frontier.heap (c.in-Some.candidate ∷ c.pop.new.self) c.in-Some.ensures.taken in omega (arith, fewer)

pub returns-clause-least : goal.returns-clause-least
returns-clause-least g c =
    none_seen g.W.Domain.scale g.W.Domain.components g.met.W.Domain.laws g.met.W.Domain.admitted (g.S.System.rules c.args.sys.now) c.args.index.now c.requires.index c.args.rows.now c.loop-candidate.self c.in_default.ensures.taken c.loop-candidate.invariant.search

pub returns-then-not-is_settled-clause-fewer : goal.returns-then-not-is_settled-clause-fewer
returns-then-not-is_settled-clause-fewer g c =
    let shorter = length_permutation c.loop-candidate.self.frontier.heap (c.in-Some.candidate ∷ c.pop.new.self) c.in-Some.ensures.taken in omega (arith, shorter, c.loop-candidate.invariant.fewer)

pub returns-then-not-is_settled-clause-place : goal.returns-then-not-is_settled-clause-place
returns-then-not-is_settled-clause-place g c =
    let sound = c.loop-candidate.invariant.search.sound c.in-Some.candidate (taken_there c.loop-candidate.self.frontier.heap c.pop.new.self c.in-Some.candidate c.in-Some.ensures.taken) in
    let at = read_there c.args.index.now.rules.items c.in-Some.candidate.rule c.get-place.result sound.0 sound.1 c.get-place.ensures in
    ((c.row_of-row.ensures c.args.rows.now (c.loop-candidate.invariant.search.sound c.in-Some.candidate (taken_there c.loop-candidate.self.frontier.heap c.pop.new.self c.in-Some.candidate c.in-Some.ensures.taken))).by c.get-place.result at).0
