use Rattle.std.proofs.Common.{true≢false, sym, ◌∙◌}
use Rattle.serde_json.specs.View.{view}
use Rattle.wi_planjson.proofs.ReadLemmas.{json_is, json_isnt}
use Rattle.wi_planjson.proofs.plan.value_of.Goals as goal

pub prove-unreachable-requires : goal.prove-unreachable-requires
prove-unreachable-requires c = json_isnt c.args.bytes.now c.requires (c.in-Err.ensures.err (λ m. true≢false (sym (c.is_memory-is_memory.ensures.1 m) ∙ c.if-prove.true)))

pub returns-in-Ok : goal.returns-in-Ok
returns-in-Ok c = json_is c.args.bytes.now (view c.in-Ok.value) c.in-Ok.ensures.ok
