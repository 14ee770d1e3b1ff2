use Rattle.std.proofs.Common.{rules, tests}
use Rattle.std.proofs.lemmas.Iterator.{YieldsList-from_slice}
use Rattle.std.proofs.lemmas.Iterator.Search.{position_from_yields_List}
use Rattle.wi_base.proofs.Files.{is_named}
use Rattle.wi_base.proofs.memory_shelf.place_of.Goals as goal

pub returns : goal.returns
returns c = position_from_yields_List (is_named c.args.name.now) _ _ c.position.result c.position.ensures.ran (YieldsList-from_slice c.args.files.now cc) (λ x b q k. search (rules, tests))
