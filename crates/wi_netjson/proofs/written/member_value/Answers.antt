use Rattle.std.proofs.Common.{◌∙◌, ap}
use Rattle.serde_json.specs.View.{view}
use Rattle.wi_netjson.specs.Written.{list_of, op_data}
use Rattle.wi_netjson.proofs.WrittenLemmas.{way_written}
use Rattle.wi_netjson.proofs.written.member_value.Goals as goal

pub returns : goal.returns
returns c = way_written c.args.network.now c.args.member.now c.link.result.now c.interface_name-out_if.result.now (view c.in_ok-ops.ops) (view c.in_ok-member_object.field-0) c.link.ensures.value c.interface_name-out_if.ensures (c.in_ok-ops.ensures ∙ ap (list_of (op_data c.args.network.now)) c.as_slice.ensures) c.in_ok-member_object.ensures
