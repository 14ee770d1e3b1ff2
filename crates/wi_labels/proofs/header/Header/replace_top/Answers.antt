use Rattle.std.proofs.Common.{◌≡◌, ◌-◌, ◌+◌, ◌∙◌, ap, sym, length, arith}
use Rattle.std.proofs.lemmas.List.{length-reverse}
use Rattle.std.proofs.lemmas.Result.{IfOk-at_ok}
use Rattle.wi_labels.proofs.RewriteLemmas.{replaced}
use Rattle.wi_labels.proofs.header.Header.replace_top.Goals as goal

pub returns-clause-ok : goal.returns-clause-ok
returns-clause-ok c =
    let count : length c.reserve.new.self.items ≡ length c.args.self.now = ap length c.reserve.ensures.items ∙ sym (length-reverse c.self.inside.from_bottom.items) ∙ ap length c.self.view_is in
    let items = IfOk-at_ok _ c.unwrap.ensures c.extend_from_slice.ensures.ok in
    let whole : c.len.result - c.args.gone + c.args.gone ≡ length c.self.inside.from_bottom.items = omega (arith, c.len.ensures.value, count, c.requires, ap length c.reserve.ensures.items) in
    rw (← c.self.view_is, items, c.truncate.ensures.items, c.reserve.ensures.items) (replaced c.self.inside.from_bottom.items c.args.above.now (c.len.result - c.args.gone) c.args.gone whole)
