use Rattle.wi_faults.proofs.ShownLemmas.{five_pieces}
use Rattle.wi_report.proofs.stacks.put_line.Goals as goal

pub returns : goal.returns
returns c =
    let exp = rw c.from.ensures at c.in_ok-put_part-2.ensures in
    let s = rw c.bit.ensures at c.in_ok-put_part-3.ensures in
    let ttl = rw c.from-2.ensures at c.in_ok-put_part-4.ensures in
    five_pieces _ _ _ _ _ _ _ _ _ _ _ _ c.in_ok-put_part.ensures exp s ttl c.put.ensures
