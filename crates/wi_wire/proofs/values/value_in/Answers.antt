use Rattle.std.proofs.Common.{◌<◌, ◌^◌, ◌∙◌, refl, sym, rules}
use Rattle.wi_wire.proofs.NumberLemmas.{value_unread, read_small, read_large}
use Rattle.wi_wire.proofs.values.value_in.Goals as goal

pub returns-in_err-read_decimal : goal.returns-in_err-read_decimal
returns-in_err-read_decimal c = c.from_residual.ensures ∙ sym (value_unread _ (c.in_err-read_decimal.ensures.none refl))

pub returns-in_err-value : goal.returns-in_err-value
returns-in_err-value c =
    let low : c.in_ok-read_decimal.field-0 < 2 ^ 128 = search rules in
    read_large _ _ _ _ _ low c.in_ok-read_decimal.ensures.some c.try_from.ensures c.ok.ensures.value c.in_err-value.was c.from_residual-in_err-value.ensures

pub returns : goal.returns
returns c =
    let low : c.in_ok-read_decimal.field-0 < 2 ^ 128 = search rules in
    read_small _ _ _ _ _ _ _ low c.in_ok-read_decimal.ensures.some c.try_from.ensures c.ok.ensures.value c.in_ok-value.was c.is_free.ensures c.then_some.ensures
