-- The number's value.
use Rattle.std.proofs.Common.{refl, sym, ◌∙◌, arith}
use Rattle.wi_query.proofs.Numbers.{value_is, over_limit, over_none}
use Rattle.wi_query.proofs.bounds.failures.Goals as goal
use Rattle.wi_query.proofs.bounds.failures.Goals.{in_default-via-in-Some+else-k-le-FAILURE_LIMIT, in_default-via-in_default}

pub returns-in-Some-clause-read : goal.returns-in-Some-clause-read
returns-in-Some-clause-read c = value_is _ c.in-Some.k (omega arith) (sym (c.as_bytes.ensures.value ∙ c.as_str.ensures) ∙ c.in-Some.ensures.some)

pub returns-in_default-clause-many : goal.returns-in_default-clause-many
returns-in_default-clause-many c = (
  elim c.in_default.branch [
    | in_default-via-in-Some+else-k-le-FAILURE_LIMIT w ↦ over_limit _ _ w.in-Some.k (c.as_bytes.ensures.value ∙ c.as_str.ensures) (omega arith) w.in-Some.ensures.some w.if-k-le-FAILURE_LIMIT.false
    | in_default-via-in_default w ↦ over_none _ _ c.requires.1 (c.as_bytes.ensures.value ∙ c.as_str.ensures) (w.in_default.ensures.none refl)
  ],
  c.at.ensures,
)
