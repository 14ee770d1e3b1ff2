use Rattle.wi_planjson.proofs.StartLemmas.{free_by}
use Rattle.wi_planjson.proofs.paths.Paths.is_free.Goals as goal

pub returns-in-Some : goal.returns-in-Some
returns-in-Some c = free_by c.args.self.now c.args.path.now _ c.in-Some.link.now c.has_start.result c.as_slice.ensures c.in-Some.ensures.value c.has_start.ensures
