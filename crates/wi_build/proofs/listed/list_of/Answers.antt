use Rattle.std.proofs.Common.{◌≡◌, [], arith, ap, ◌∙◌}
use Rattle.wi_build.specs.Encodings.{encoding_of}
use Rattle.wi_build.specs.Systems.{spot_count, spot_rules}
use Rattle.wi_build.proofs.RowLemmas.{more_listed, all_made}
use Rattle.wi_build.proofs.listed.list_of.Goals as goal

pub loop-spot-preserved : goal.loop-spot-preserved
loop-spot-preserved c = more_listed (spot_rules (encoding_of c.args.system.now)) [] _ _ c.loop-spot.spot c.loop-spot.invariant c.in_ok-push_spot.ensures

pub returns-clause-rules : goal.returns-clause-rules
returns-clause-rules c =
    let all : c.loop-spot.spot ≡ c.spots-spot-end.result = omega arith in
    all_made c.args.system.now _ _ c.loop-spot.spot c.spots-spot-end.result (c.spots-spot-end.ensures ∙ ap spot_count c.layout.ensures) all c.loop-spot.invariant c.of.ensures
