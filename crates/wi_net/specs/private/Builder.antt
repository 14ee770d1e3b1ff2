-- What a network that is being built keeps.
use Rattle.std.specs.Prelude.{◌≡◌, ◌&&◌, ◌==◌, Bool, true}
use Rattle.std.specs.List.{list_all}
use Rattle.wi_net.specs.declared.parts.LinkId.{LinkId}
use Rattle.wi_net.specs.Net.{Net, is_link, risk_of}
use Rattle.wi_net.specs.Network.{IsNetwork}
use Rattle.wi_net.specs.Builder.{Draft}

-- a link that names its own risk group
abbrev pub is_first : Net → LinkId → Bool
is_first net e = is_link net e && ((risk_of net e).0 == e.0)

-- what is kept while a network is being built
pub record IsDraft (draft : Draft) : Type 0 where
  pub net : IsNetwork draft.net
  pub firsts : list_all (is_first draft.net) draft.firsts ≡ true
