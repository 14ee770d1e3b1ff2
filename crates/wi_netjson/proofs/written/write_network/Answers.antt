use Rattle.std.proofs.Common.{◌∙◌}
use Rattle.serde_json.proofs.Views.{view-Object}
use Rattle.wi_net.specs.Net.{Net}
use Rattle.wi_netjson.specs.Written.{network_data}
use Rattle.wi_netjson.proofs.RoundTrip.{has_network, network_flat, bytes_mean}
use Rattle.wi_netjson.proofs.TextLemmas.{text_is}
use Rattle.wi_netjson.proofs.written.write_network.Goals as goal

pub returns : goal.returns
returns c =
    let net : Net = c.args.network.now in
    record {
      text = text_is net _ _ (view-Object _ ∙ c.in_ok-network_members.ensures) c.in_ok-to_vec.ensures.text;
      reads_back = bytes_mean net (network_data net) _ _ c.keeps.ensures (has_network net) (network_flat net) (view-Object _ ∙ c.in_ok-network_members.ensures) c.in_ok-to_vec.ensures.utf8 c.in_ok-to_vec.ensures.reads_back;
    }
