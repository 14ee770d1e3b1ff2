use Rattle.std.proofs.Common.{ap}
use Rattle.wi_words.proofs.Building.{operand_added, operands_added, still_local}
use Rattle.wi_words.proofs.builder.verb.Goals as goal

pub loop-id-init : goal.loop-id-init
loop-id-init c = record { shape = ap (λ a. a.top) c.new-command.ensures.app; local = c.new-command.ensures.local }

pub loop-id-preserved : goal.loop-id-preserved
loop-id-preserved c = record {
  shape = operand_added _ _ _ _ _ _ _ c.loop-id-test.true c.in_ok-command.ensures c.operand.ensures.local c.operand.ensures.rule c.loop-id.invariant.shape;
  local = still_local _ _ _ c.in_ok-command.ensures c.operand.ensures.local c.loop-id.invariant.local;
}

pub returns : goal.returns
returns c = record { shape = operands_added _ _ _ _ c.loop-id-test.false c.loop-id.invariant.shape; local = c.loop-id.invariant.local }
