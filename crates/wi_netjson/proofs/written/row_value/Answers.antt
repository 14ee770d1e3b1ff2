use Rattle.serde_json.specs.View.{view}
use Rattle.wi_net.proofs.GroupLemmas.{row_groups}
use Rattle.wi_netjson.proofs.WrittenLemmas.{row_of, row_written}
use Rattle.wi_netjson.proofs.written.row_value.Goals as goal

pub groups_value-requires : goal.groups_value-requires
groups_value-requires c = row_groups c.args.network.now (row_of c.args.link c.args.label c.args.groups.now) c.requires

pub returns : goal.returns
returns c =
    row_written c.args.network.now (row_of c.args.link c.args.label c.args.groups.now) c.link-found.result.now c.router_name-at.result.now c.interface_name-in_if.result.now c.label_name-name.result.now (view c.in_ok-groups.groups) (view c.in_ok-row_object.field-0)
    c.link-found.ensures.value c.router_name-at.ensures c.interface_name-in_if.ensures c.label_name-name.ensures c.in_ok-groups.ensures c.in_ok-row_object.ensures
