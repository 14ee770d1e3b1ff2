use Rattle.wi_saturate.proofs.heap.CandidateOrd.cmp.Goals as goal

pub returns : goal.returns
returns g c = c.compare.ensures
