-- What must have failed for a group of an entry to be used, kept while the entry is gone over.
use Rattle.std.specs.Prelude.{Bool, true, not, ◌&&◌, nat_le, if◌then◌else◌, List, [], ◌∷◌, length}
use Rattle.wi_net.specs.declared.parts.LinkId.{LinkId}
use Rattle.wi_net.specs.declared.parts.Member.{Member}
use Rattle.wi_net.specs.declared.bounds.Bounds.{Bounds}
use Rattle.wi_net.specs.LinkSet.{has, with_link}
use Rattle.wi_net.specs.Net.{Net, risk_of}
use Rattle.wi_build.specs.declared.needs.Needs.{Needs}

abbrev pub no_needs : Needs
no_needs = record { risks = []; extra = []; spared = true }

-- with the risk group that a link names
abbrev pub with_need : Bounds → Needs → LinkId → Needs
with_need bounds needs r = record {
  risks = with_link needs.risks r;
  extra = if has bounds.down r then needs.extra else with_link needs.extra r;
  spared = needs.spared && not (has bounds.up r);
}

-- with those of the links of members, and of groups
abbrev pub with_members : Net → Bounds → Needs → List Member → Needs
with_members net bounds needs [] = needs
with_members net bounds needs (m ∷ ms) = with_members net bounds (with_need bounds needs (risk_of net m.link)) ms

abbrev pub with_groups : Net → Bounds → Needs → List (List Member) → Needs
with_groups net bounds needs [] = needs
with_groups net bounds needs (g ∷ gs) = with_groups net bounds (with_members net bounds needs g) gs

-- all of them may be down at once
abbrev pub may_be_down : Bounds → Needs → Bool
may_be_down bounds needs = nat_le (length needs.extra) bounds.k && needs.spared

-- a link may be up then
abbrev pub may_be_up : Net → Bounds → Needs → LinkId → Bool
may_be_up net bounds needs e = not (has needs.risks (risk_of net e)) && not (has bounds.down e)
