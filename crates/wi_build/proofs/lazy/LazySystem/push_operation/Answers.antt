use Rattle.std.proofs.Common.{sym}
use Rattle.wi_build.proofs.HopLemmas.{op_kept}
use Rattle.wi_build.proofs.lazy.LazySystem.push_operation.Goals as goal

pub word_over-requires-clause-op : goal.word_over-requires-clause-op
word_over-requires-clause-op c = op_kept c.args.self.now.net c.member-member.result.now.ops c.args.done c.in-Some.op c.member-member.ensures.ops (sym c.in-Some.ensures)
