use Rattle.wi_branch.proofs.ToleranceLaws.{between_first}
use Rattle.wi_branch.proofs.counting.from_most.Goals as goal

pub narrow-requires-clause-between : goal.narrow-requires-clause-between
narrow-requires-clause-between c = between_first c.args.problem.now c.args.most c.args.limit c.args.answer c.args.tree c.in-Yes.is c.requires.probe
