use Rattle.std.proofs.Common.{sym}
use Rattle.wi_faults.proofs.ShownLemmas.{link_at, first_shown}
use Rattle.wi_faults.proofs.shown.put_links.Goals as goal

pub put_link-requires : goal.put_link-requires
put_link-requires c = link_at c.args.net.now c.args.links.now 0 c.in-Some.first c.requires c.in-Some.ensures.value

pub returns : goal.returns
returns c = first_shown _ c.args.net.now c.args.links.now c.in-Some.first _ _ _ (sym c.in-Some.ensures.value) c.in_ok-put_link.ensures c.put_more.ensures
