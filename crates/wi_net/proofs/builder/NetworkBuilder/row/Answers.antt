use Rattle.std.proofs.Common.{◌≡◌, Ok, sym, subst}
use Rattle.wi_net.specs.Builder.{Draft, add_table, with_row}
use Rattle.wi_net.proofs.KeptLemmas.{row_kept, row_counted}
use Rattle.wi_net.proofs.builder.NetworkBuilder.row.Goals as goal

pub add-requires-clause-free : goal.add-requires-clause-free
add-requires-clause-free c =
    let P : Draft → Type 0 = λ d. add_table d c.args.row.link c.args.row.label c.args.row.groups ≡ Ok (with_row d c.args.row) in
    (row_counted _ c.args.row c.self.invariant (subst P (sym c.self.view_is) c.requires.rules)).0

pub invariant_of-self-2 : goal.invariant_of-self-2
invariant_of-self-2 c =
    let P : Draft → Type 0 = λ d. add_table d c.args.row.link c.args.row.label c.args.row.groups ≡ Ok (with_row d c.args.row) in
    rw c.in_ok-add.ensures.ok (row_kept _ c.args.row c.self.invariant (subst P (sym c.self.view_is) c.requires.rules))
