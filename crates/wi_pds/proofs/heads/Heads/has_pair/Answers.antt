use Rattle.wi_pds.proofs.PairOrder.{search_finds}
use Rattle.wi_pds.proofs.heads.Heads.has_pair.Goals as goal

pub returns : goal.returns
returns c = search_finds _ _ _ _ _ c.as_slice.ensures c.args.self.now.pairs_rise c.binary_search.ensures.bound c.binary_search.ensures.position c.is_ok.ensures.value
