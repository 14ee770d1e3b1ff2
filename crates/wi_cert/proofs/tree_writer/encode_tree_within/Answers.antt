-- How long the text is.
use Rattle.std.proofs.Common.{rules, ◌≡◌, ◌≤◌, ◌<◌, subst, length}
use Rattle.wi_cert.proofs.TreeWritingLemmas.{tree_length}
use Rattle.wi_cert.proofs.tree_writer.encode_tree_within.Goals as goal

pub returns-then-len-limit-clause-short : goal.returns-then-len-limit-clause-short
returns-then-len-limit-clause-short c =
    let long : c.len.result ≡ length c.put.new.out.items = search rules in
    subst (λ n. n ≤ c.args.limit) (tree_length c.args.tree.now _ _ _ _ _ _ c.as_slice.ensures c.new-out.ensures.items c.in_ok-put_front.ensures.text c.in_ok-put_nodes.ensures.text c.in_ok-put.ensures long) c.if-len-limit.true

pub returns-else-len-limit-clause-long : goal.returns-else-len-limit-clause-long
returns-else-len-limit-clause-long c = λ why.
    let long : c.len.result ≡ length c.put.new.out.items = search rules in
    subst (λ n. c.args.limit < n) (tree_length c.args.tree.now _ _ _ _ _ _ c.as_slice.ensures c.new-out.ensures.items c.in_ok-put_front.ensures.text c.in_ok-put_nodes.ensures.text c.in_ok-put.ensures long) c.if-len-limit.false
