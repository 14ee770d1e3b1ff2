use Rattle.std.proofs.Common.{◌≡◌, suc, length, arith}
use Rattle.wi_build.specs.Encodings.{encoding_of}
use Rattle.wi_build.specs.Systems.{rules_by}
use Rattle.wi_build.proofs.RowLemmas.{more_listed, all_listed}
use Rattle.wi_build.proofs.listed.push_spot.Goals as goal

pub loop-symbol-preserved : goal.loop-symbol-preserved
loop-symbol-preserved c = more_listed (rules_by (encoding_of c.args.system.now) c.args.spot) _ _ _ c.loop-symbol.symbol c.loop-symbol.invariant c.in_ok-push_head.ensures

pub returns : goal.returns
returns c =
    let all : c.loop-symbol.symbol ≡ suc (length c.args.system.now.net.classes) = omega arith in
    all_listed (rules_by (encoding_of c.args.system.now) c.args.spot) _ _ c.loop-symbol.symbol _ all c.loop-symbol.invariant
