-- The ends of the links of a network.
use Rattle.std.proofs.Common.{◌≡◌, ℕ, true, nat_lt, length, slice_get, Some}
use Rattle.std.specs.Prelude.{◌&&◌}
use Rattle.std.proofs.lemmas.Bool.{ltb-true, and_parts}
use Rattle.wi_net.specs.declared.parts.Link.{Link}
use Rattle.wi_net.specs.Net.{Net}
use Rattle.wi_net.specs.Network.{IsNetwork, HasEnds, is_link_of}
use Rattle.wi_net.proofs.KeptLists.{all_get}

-- each link of a network has them
pub has_ends : (net : Net) (i : ℕ) (l : Link) → IsNetwork net → slice_get net.links i ≡ Some l → HasEnds net l
has_ends net i l k e =
    let known : is_link_of net l ≡ true = all_get (is_link_of net) net.links i l k.links e in
    let parts = and_parts (nat_lt l.from.0 (length net.routers) && nat_lt l.to.0 (length net.routers)) (nat_lt l.out_if.0 (length net.interfaces) && nat_lt l.in_if.0 (length net.interfaces)) known in
    let routers = and_parts (nat_lt l.from.0 (length net.routers)) (nat_lt l.to.0 (length net.routers)) parts.0 in
    let names = and_parts (nat_lt l.out_if.0 (length net.interfaces)) (nat_lt l.in_if.0 (length net.interfaces)) parts.1 in
    record {
      from = ltb-true l.from.0 (length net.routers) routers.0;
      to = ltb-true l.to.0 (length net.routers) routers.1;
      out_if = ltb-true l.out_if.0 (length net.interfaces) names.0;
      in_if = ltb-true l.in_if.0 (length net.interfaces) names.1;
    }
