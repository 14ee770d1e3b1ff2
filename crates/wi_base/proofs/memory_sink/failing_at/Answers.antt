use Rattle.std.proofs.Common.{rules, tests, ◌==◌}
use Rattle.std.proofs.lemmas.Iterator.{YieldsList-from_slice}
use Rattle.std.proofs.lemmas.Iterator.Search.{find_from_yields_List}
use Rattle.wi_base.proofs.memory_sink.failing_at.Goals as goal

pub returns : goal.returns
returns c =
    let e = find_from_yields_List (λ f. f.call == c.args.call) _ _ c.find.result c.find.ensures.ran (YieldsList-from_slice c.args.failing.now cc) (λ x b q k. search (rules, tests)) in
    cc
