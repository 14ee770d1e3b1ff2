use Rattle.std.proofs.lemmas.Fn.{filter_same}
use Rattle.std.proofs.Common.{rules}
use Rattle.wi_branch.proofs.tree.keep_lighter.Goals as goal

pub returns : goal.returns
returns c = rw c.shrink_to_fit.ensures.items (filter_same _ _ _ (λ x b f' k. search rules) _ _ c.retain.ensures.filtered)
