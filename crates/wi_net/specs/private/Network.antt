-- What the indexes of a network keep.
use Rattle.std.specs.Prelude.{◌≡◌, ◌&&◌, Bool, List, length, map}
use Rattle.std.specs.List.{list_all}
use Rattle.wi_net.specs.declared.parts.LinkId.{LinkId}
use Rattle.wi_net.specs.declared.parts.Link.{Link}
use Rattle.wi_net.specs.declared.parts.Member.{Member}
use Rattle.wi_net.specs.LinkSet.{links_from}
use Rattle.wi_net.specs.private.LinkSet.{sharing}
use Rattle.wi_net.specs.Net.{Net, is_link}
use Rattle.wi_net.specs.Network.{op_known, IsNetwork}

-- a member whose link and labels are the network's, and groups of such
abbrev pub is_member_of : Net → Member → Bool
is_member_of net m = is_link net m.link && list_all (op_known net) m.ops

abbrev pub are_groups_of : Net → List (List Member) → Bool
are_groups_of net gs = list_all (λ g. list_all (is_member_of net) g) gs

-- for each link the links of the risk group that it names
abbrev pub groups_of : List Link → List (List LinkId)
groups_of links = map (λ r. sharing links r) (links_from 0 (length links))

-- a network with the index from a risk group to its links
pub record IsIndexed (net : Net) (index : List (List LinkId)) : Type 0 where
  pub network : IsNetwork net
  pub groups : index ≡ groups_of net.links
