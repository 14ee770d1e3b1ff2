-- An atom is an item.
use Rattle.std.proofs.Common.{Some, refl}
use Rattle.wi_syntax.specs.Trees.{Leaf}
use Rattle.wi_query.proofs.tree.Reading.with_item.Goals as goal

pub returns : goal.returns
returns c t read = record {
  current = c.in_ok-current.ensures t.current (Some (Leaf c.args.set)) read.current (λ x. refl);
  outer = read.outer;
}
