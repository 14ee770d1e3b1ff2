use Rattle.wi_detour.proofs.WayLemmas.{exit_known}
use Rattle.wi_detour.proofs.around.Ways.push_links.Goals as goal

pub along-requires : goal.along-requires
along-requires c = exit_known c.args.self.now c.args.state _ c.loop-link.link-index _ c.exits-link-items.ensures c.loop-link-test.true
