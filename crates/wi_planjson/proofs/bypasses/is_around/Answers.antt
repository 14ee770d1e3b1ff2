use Rattle.wi_planjson.proofs.RouteLemmas.{around_by}
use Rattle.wi_planjson.proofs.bypasses.is_around.Goals as goal

pub returns-then-eq : goal.returns-then-eq
returns-then-eq c =
    around_by c.args.net.now c.args.link c.in-Some-Some.first.now c.in-Some-Some.last.now c.args.via.now c.link-around.result.now c.link.result.now c.link-then-eq.result.now c.eq-then-eq.result
    c.link-around.ensures.value c.in-Some-Some.ensures.value c.in-Some-Some.ensures'.value c.link.ensures.value c.link-then-eq.ensures.value c.if-eq.ensures c.eq-then-eq.ensures
