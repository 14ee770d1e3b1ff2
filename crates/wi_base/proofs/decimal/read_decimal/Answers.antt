use Rattle.std.proofs.Common.{arith}
use Rattle.std.proofs.lemmas.Grind.{common_steps}
use Rattle.wi_base.proofs.Decimals.{some_is_decimal, none_is_decimal}
use Rattle.wi_base.proofs.decimal.read_decimal.Goals as goal

pub returns-in_err-number_after-clause-none : goal.returns-in_err-number_after-clause-none
returns-in_err-number_after-clause-none c = none_is_decimal c.args.text.now c.from_residual.result (grind (arith, common_steps))

pub returns-clause-some : goal.returns-clause-some
returns-clause-some c = some_is_decimal c.args.text.now c.loop-byte.number (grind (arith, common_steps))

pub returns-clause-none : goal.returns-clause-none
returns-clause-none c = none_is_decimal c.args.text.now c.loop-byte.number (grind (arith, common_steps))
