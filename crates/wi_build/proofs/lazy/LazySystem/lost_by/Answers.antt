use Rattle.std.proofs.Common.{sym}
use Rattle.wi_build.proofs.HopLemmas.{op_kept}
use Rattle.wi_build.proofs.lazy.LazySystem.lost_by.Goals as goal

pub word_over-requires-clause-op : goal.word_over-requires-clause-op
word_over-requires-clause-op c = op_kept c.args.self.now.net c.args.member.now.ops c.args.place c.in_ok-op.op c.requires.ops (sym c.in_ok-op.ensures)
