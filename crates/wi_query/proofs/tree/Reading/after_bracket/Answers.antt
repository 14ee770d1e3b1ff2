-- The frame around takes what stands in the bracket as an item.
use Rattle.std.proofs.Common.{refl}
use Rattle.wi_query.specs.private.Frames.{finished, grouped}
use Rattle.wi_query.proofs.Stacks.{grouped_part, frames_closed}
use Rattle.wi_query.proofs.tree.Reading.after_bracket.Goals as goal

pub returns : goal.returns
returns c t read =
    frames_closed t _ _ _ _ read.outer c.in-Some.ensures.items
    (λ f is. c.in_ok-current.ensures f (grouped (finished t.current)) is (grouped_part (finished t.current) _ (c.in_ok-group.ensures t.current read.current))) refl
