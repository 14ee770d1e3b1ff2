-- A network's links, risk groups and tables.
use Rattle.std.specs.Prelude.{ℕ, Bool, false, not, ◌&&◌, ◌||◌, ◌==◌, nat_lt, List, length, take, slice_get, Option}
use Rattle.std.specs.List.{filter, list_any, list_all, position}
use Rattle.std.specs.Option.{option_map_or}
use Rattle.wi_labels.specs.declared.label.Label.{Label}
use Rattle.wi_labels.specs.declared.label.Class.{Class}
use Rattle.wi_labels.specs.Header.{Entry, same_class}
use Rattle.wi_net.specs.declared.parts.LinkId.{LinkId}
use Rattle.wi_net.specs.declared.parts.Link.{Link}
use Rattle.wi_net.specs.declared.parts.Member.{Member}
use Rattle.wi_net.specs.declared.parts.TableRow.{TableRow}
use Rattle.wi_net.specs.LinkSet.{has, links_from, numbers_where, risk_in, same_risk_in}
use Rattle.wi_net.specs.Tables.{groups_in}

-- a network: the names of its routers, its labels and their classes, the names of interfaces, its links, its tables
pub record Net : Type 0 where
  pub routers : List (List ℕ)
  pub labels : List (List ℕ)
  pub classes : List Class
  pub interfaces : List (List ℕ)
  pub links : List Link
  pub rows : List TableRow

-- the network has a link of this number
abbrev pub is_link : Net → LinkId → Bool
is_link net e = nat_lt e.0 (length net.links)

abbrev pub all_links : Net → List LinkId
all_links net = links_from 0 (length net.links)

-- the set of the network's links that pass a test
abbrev pub links_where : Net → (LinkId → Bool) → List LinkId
links_where net p = numbers_where net.links p

-- the least link of a link's risk group
abbrev pub risk_of : Net → LinkId → LinkId
risk_of net e = risk_in net.links e

abbrev pub same_risk : Net → LinkId → LinkId → Bool
same_risk net d e = same_risk_in net.links d e

-- the least union of risk groups around a set
abbrev pub widened : Net → List LinkId → List LinkId
widened net s = links_where net (λ e. list_any (λ d. same_risk net d e) s)

-- how many risk groups there are in a union of them
abbrev pub risk_count : Net → List LinkId → ℕ
risk_count net s = length (filter (λ e. (risk_of net e).0 == e.0) s)

-- a set with a link's risk group, and without it
abbrev pub with_risk : Net → List LinkId → LinkId → List LinkId
with_risk net s d = links_where net (λ e. has s e || same_risk net d e)

abbrev pub without_risk : Net → List LinkId → LinkId → List LinkId
without_risk net s d = links_where net (λ e. has s e && not (same_risk net d e))

-- what the tables say of an arrival link and a top label: groups, the first of highest priority
abbrev pub entry : Net → LinkId → Label → List (List Member)
entry net e l = groups_in net.rows e l

-- a group has a link that isn't failed
abbrev pub is_active : List LinkId → List Member → Bool
is_active fails group = list_any (λ m. not (has fails m.link)) group

-- the first group that has a link that isn't failed
abbrev pub first_active : List LinkId → List (List Member) → Option ℕ
first_active fails groups = position (λ group. is_active fails group) groups

-- the least union of risk groups that has the links of the groups before one
abbrev pub before : Net → List (List Member) → ℕ → List LinkId
before net groups j = links_where net (λ e. list_any (λ g. list_any (λ m. same_risk net m.link e) g) (take j groups))

-- a label is one of the network's, with its class
abbrev pub label_known : List Class → Entry → Bool
label_known classes l = option_map_or (λ class. same_class class l.1) (slice_get classes l.0.0) false

-- and so is each label of a header
abbrev pub labels_known : Net → List Entry → Bool
labels_known net header = list_all (λ l. label_known net.classes l) header
