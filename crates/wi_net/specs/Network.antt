-- What each network keeps.
use Rattle.std.specs.Prelude.{◌≡◌, ℕ, ◌+◌, ◌*◌, ◌^◌, ◌≤◌, ◌<◌, ◌&&◌, ◌==◌, Bool, true, false, nat_lt, nat_le, if◌then◌else◌, Option, Some, None, List, [], ◌∷◌, length, slice_get}
use Rattle.std.specs.List.{list_all}
use Rattle.std.specs.Option.{option_map_or}
use Rattle.wi_labels.specs.declared.label.Class.{Class}
use Rattle.wi_labels.specs.declared.label.Class.TheVariants.{Mpls, Smpls, Ip}
use Rattle.wi_labels.specs.declared.ops.Op.{Op}
use Rattle.wi_labels.specs.declared.ops.Op.TheVariants.{Swap, Push, Pop}
use Rattle.wi_net.specs.declared.limits.TheConstants.{LABEL_LIMIT, LINK_LIMIT, MEMBER_LIMIT, OPERATION_LIMIT, ROUTER_LIMIT, ROW_LIMIT}
use Rattle.wi_net.specs.declared.parts.RouterId.{RouterId}
use Rattle.wi_net.specs.declared.parts.LinkId.{LinkId}
use Rattle.wi_net.specs.declared.parts.Link.{Link}
use Rattle.wi_net.specs.declared.parts.Member.{Member}
use Rattle.wi_net.specs.declared.parts.TableRow.{TableRow}
use Rattle.wi_net.specs.Names.{are_names}
use Rattle.wi_net.specs.Ends.{are_ends_apart}
use Rattle.wi_net.specs.Tables.{are_rows_apart, row_members}
use Rattle.wi_net.specs.Net.{Net, all_links, risk_of, label_known}

-- a class isn't after another in the order mpls, smpls, ip
abbrev pub is_no_later : Class → Class → Bool
is_no_later Mpls d = true
is_no_later Smpls Mpls = false
is_no_later Smpls d = true
is_no_later Ip Ip = true
is_no_later Ip d = false

-- labels are listed class by class
abbrev pub are_in_order : List Class → Bool
are_in_order [] = true
are_in_order (c ∷ classes) = list_all (λ d. is_no_later c d) classes && are_in_order classes

-- the operation's label, if it has one, is the network's, with its class
abbrev pub op_known : Net → Op → Bool
op_known net (Swap l c) = label_known net.classes (l, c)
op_known net (Push l c) = label_known net.classes (l, c)
op_known net Pop = true

-- a link leaves a router
abbrev pub leaves : Net → RouterId → LinkId → Bool
leaves net router e = option_map_or (λ l. l.from.0 == router.0) (slice_get net.links e.0) false

-- a member that a table of a router may have
abbrev pub is_member_at : Net → RouterId → Member → Bool
is_member_at net router m = leaves net router m.link && (nat_le (length m.ops) OPERATION_LIMIT && list_all (op_known net) m.ops)

-- such members, and at least one
abbrev pub is_group_at : Net → RouterId → List Member → Bool
is_group_at net router g = nat_lt 0 (length g) && list_all (is_member_at net router) g

-- a row that a network may have: its groups are of the router that its link reaches
abbrev pub is_row_of : Net → TableRow → Bool
is_row_of net row = nat_lt row.label.0 (length net.labels) && option_map_or (λ l. list_all (is_group_at net l.to) row.groups) (slice_get net.links row.link.0) false

-- a link between routers of the network, by interfaces that have names
abbrev pub is_link_of : Net → Link → Bool
is_link_of net l =
    (nat_lt l.from.0 (length net.routers) && nat_lt l.to.0 (length net.routers))
    && (nat_lt l.out_if.0 (length net.interfaces) && nat_lt l.in_if.0 (length net.interfaces))

-- the same, number by number
pub record HasEnds (net : Net) (l : Link) : Type 0 where
  pub from : l.from.0 < length net.routers
  pub to : l.to.0 < length net.routers
  pub out_if : l.out_if.0 < length net.interfaces
  pub in_if : l.in_if.0 < length net.interfaces

-- a link's risk group is named by the least of its links
abbrev pub is_risk_named : Net → LinkId → Bool
is_risk_named net e = nat_le (risk_of net e).0 e.0 && ((risk_of net (risk_of net e)).0 == (risk_of net e).0)

-- how many interfaces there are when one of a number is named: a new one has the next number
abbrev pub named_next : Option ℕ → ℕ → Option ℕ
named_next None i = None
named_next (Some n) i = if nat_lt i n then Some n else if i == n then Some (n + 1) else None

-- how many there are after links, each of which names its out interface, then its in interface
abbrev pub named_after : Option ℕ → List Link → Option ℕ
named_after n [] = n
named_after n (l ∷ links) = named_after (named_next (named_next n l.out_if.0) l.in_if.0) links

-- beside each field, what it is for
pub record IsNetwork (net : Net) : Type 0 where
  -- a router's name is a name, and tells it from all others
  pub routers : are_names net.routers ≡ true
  -- the same of labels, over all classes
  pub labels : are_names net.labels ≡ true
  -- each label has a class
  pub classes : length net.classes ≡ length net.labels
  -- labels of a class have numbers without a gap
  pub in_order : are_in_order net.classes ≡ true
  -- the same interface name of two routers is kept once
  pub interfaces : are_names net.interfaces ≡ true
  -- interface names are numbered as links name them, so equal files give equal networks
  pub in_turn : named_after (Some 0) net.links ≡ Some (length net.interfaces)
  -- what a link names can be looked up
  pub links : list_all (is_link_of net) net.links ≡ true
  -- an end names one link
  pub ends : are_ends_apart net.links ≡ true
  -- distances are those of a file, so sums of them can be bounded
  pub near : list_all (λ l. nat_lt l.distance (2 ^ 32)) net.links ≡ true
  -- two links are in one risk group where they name one link, and each risk group is named by one of its own
  pub risks : list_all (is_risk_named net) (all_links net) ≡ true
  -- a packet that follows a table stays in the network
  pub rows : list_all (is_row_of net) net.rows ≡ true
  -- a link and a label have at most one entry
  pub rows_apart : are_rows_apart net.rows ≡ true
  -- the limits of the format: a router's number fits in 32 bits
  pub few_routers : length net.routers ≤ ROUTER_LIMIT
  -- and so does a label's
  pub few_labels : length net.labels ≤ LABEL_LIMIT
  -- and a link's
  pub few_links : length net.links ≤ LINK_LIMIT
  -- a link names two, so these are bounded with the links
  pub few_interfaces : length net.interfaces ≤ 2 * length net.links
  -- a row's number fits in 32 bits
  pub few_rows : length net.rows ≤ ROW_LIMIT
  -- a member's number over all rows fits in 32 bits
  pub few_members : row_members net.rows ≤ MEMBER_LIMIT
