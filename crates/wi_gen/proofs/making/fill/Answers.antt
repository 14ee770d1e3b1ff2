-- With all links there are no rows yet, and in the end none are wanting.
use Rattle.wi_gen.proofs.making.fill.Goals as goal
use Rattle.wi_gen.proofs.RowLemmas.{none_made, all_made}

pub add_rows-requires : goal.add_rows-requires
add_rows-requires c = none_made c.args.ring.now _ c.keeps.ensures c.in_ok-add_links.ensures

pub returns : goal.returns
returns c = all_made _ c.args.ring.now _ c.add_rows.ensures
