-- A ring that is generated: routers in a circle, a path along some of its links from s to t, and for each of these links a bypass
-- that goes round the other way (RFC 4090, facility backup).
use Rattle.std.specs.Prelude.{ℕ, ◌+◌, ◌-◌, ◌*◌, ◌%◌, ◌==◌, min, if◌then◌else◌, codes, List, [], ◌∷◌, ◌++◌, map, replicate}
use Rattle.std.specs.List.{flat_map, range_with_len}
use Rattle.std.specs.Fmt.{decimal}
use Rattle.wi_labels.specs.Header.{Entry}
use Rattle.wi_labels.specs.declared.label.Label.{Label}
use Rattle.wi_labels.specs.declared.label.Class.{Class}
use Rattle.wi_labels.specs.declared.label.Class.TheVariants.{Mpls, Smpls, Ip}
use Rattle.wi_labels.specs.declared.ops.Op.{Op}
use Rattle.wi_labels.specs.declared.ops.Op.TheVariants.{Swap, Push, Pop}
use Rattle.wi_net.specs.declared.parts.RouterId.{RouterId}
use Rattle.wi_net.specs.declared.parts.LinkId.{LinkId}
use Rattle.wi_net.specs.declared.parts.Link.{Link}
use Rattle.wi_net.specs.declared.parts.Member.{Member}
use Rattle.wi_net.specs.declared.parts.TableRow.{TableRow}
use Rattle.wi_net.specs.Net.{Net}

-- how many routers are in the circle, and how many of its links are on the path. The seed chooses that, and the distances
pub record Ring : Type 0 where
  pub seed : ℕ
  pub size : ℕ
  pub path : ℕ

abbrev pub ring_of : ℕ → ℕ → Ring
ring_of seed size = record { seed = seed; size = size; path = 2 + seed % (min size 64 - 2) }

-- a letter and a number
abbrev pub numbered : List ℕ → ℕ → List ℕ
numbered letter i = letter ++ decimal i

-- ---- routers: s and t, and r0, r1 and so on round the circle
abbrev pub routers_of : Ring → List (List ℕ)
routers_of ring = codes "s" ∷ codes "t" ∷ map (numbered (codes "r")) (range_with_len 0 ring.size)

abbrev pub s : RouterId
s = record { 0 = 0 }

abbrev pub t : RouterId
t = record { 0 = 1 }

abbrev pub r : ℕ → RouterId
r i = record { 0 = 2 + i }

-- so many places further round, and back
abbrev pub further : Ring → ℕ → ℕ → ℕ
further ring i d = (i + d) % ring.size

abbrev pub back : Ring → ℕ → ℕ → ℕ
back ring i d = (i + ring.size - d) % ring.size

-- ---- labels: b0, b1 and so on, one for each bypass; s1, s2 and so on, one for each router of the path after the first; ip0
abbrev pub labels_of : Ring → List (List ℕ)
labels_of ring = map (numbered (codes "b")) (range_with_len 0 ring.path) ++ map (numbered (codes "s")) (range_with_len 1 ring.path) ++ codes "ip0" ∷ []

abbrev pub classes_of : Ring → List Class
classes_of ring = replicate ring.path Mpls ++ replicate ring.path Smpls ++ Ip ∷ []

-- the label of the bypass of the path's link from r i, and the label with which packets come to r i along the path
abbrev pub bypass : Ring → ℕ → Entry
bypass ring i = (record { 0 = i }, Mpls)

abbrev pub along : Ring → ℕ → Entry
along ring i = (record { 0 = ring.path + i - 1 }, Smpls)

abbrev pub destination : Ring → Label
destination ring = record { 0 = 2 * ring.path }

-- ---- links: from s to r0, and from the path's last router to t; round the circle one way, and the other
abbrev pub entry : LinkId
entry = record { 0 = 0 }

abbrev pub exit : LinkId
exit = record { 0 = 1 }

-- from r i to the next, and from that to r i
abbrev pub forward : Ring → ℕ → LinkId
forward ring i = record { 0 = 2 + i }

abbrev pub backward : Ring → ℕ → LinkId
backward ring i = record { 0 = 2 + ring.size + i }

-- interfaces have the same name at both ends of a link
abbrev pub interfaces : List (List ℕ)
interfaces = codes "o" ∷ codes "x" ∷ codes "f" ∷ codes "g" ∷ []

-- a link is a risk group by itself
abbrev pub link : Ring → LinkId → RouterId → RouterId → ℕ → Link
link ring e from into interface = record {
  from = from;
  out_if = record { 0 = interface };
  to = into;
  in_if = record { 0 = interface };
  distance = 1 + (ring.seed % 97 + 31 * e.0) % 97;
  risk = e;
}

abbrev pub forward_link : Ring → ℕ → Link
forward_link ring i = link ring (forward ring i) (r i) (r (further ring i 1)) 2

abbrev pub backward_link : Ring → ℕ → Link
backward_link ring i = link ring (backward ring i) (r (further ring i 1)) (r i) 3

abbrev pub links_of : Ring → List Link
links_of ring =
    link ring entry s (r 0) 0 ∷ link ring exit (r ring.path) t 1
    ∷ (map (forward_link ring) (range_with_len 0 ring.size) ++ map (backward_link ring) (range_with_len 0 ring.size))

-- ---- tables
abbrev pub push : Entry → Op
push l = Push l.0 l.1

abbrev pub swap : Entry → Op
swap l = Swap l.0 l.1

-- a group of one member
abbrev pub way : LinkId → List Op → List Member
way e ops = record { link = e; ops = ops } ∷ []

abbrev pub row : Label → List (List Member) → LinkId → TableRow
row l groups e = record { link = e; label = l; groups = groups }

-- at r0, for what comes from s: along the path, else into the bypass of its first link
abbrev pub first_row : Ring → TableRow
first_row ring =
    row (destination ring)
    (way (forward ring 0) (push (along ring 1) ∷ []) ∷ way (backward ring (ring.size - 1)) (push (along ring 1) ∷ push (bypass ring 0) ∷ []) ∷ []) entry

-- the links by which the path's packets come to r i: along it, and as the last of the bypass
abbrev pub arrivals : Ring → ℕ → List LinkId
arrivals ring i = forward ring (i - 1) ∷ backward ring i ∷ []

-- at r i, within the path: along it, else into the bypass of the next link
abbrev pub middle_rows : Ring → ℕ → List TableRow
middle_rows ring i =
    map (row (along ring i).0
    (way (forward ring i) (swap (along ring (i + 1)) ∷ []) ∷ way (backward ring (i - 1)) (swap (along ring (i + 1)) ∷ push (bypass ring i) ∷ []) ∷ []))
    (arrivals ring i)

-- at the path's last router: to t
abbrev pub last_rows : Ring → List TableRow
last_rows ring = map (row (along ring ring.path).0 (way exit (Pop ∷ []) ∷ [])) (arrivals ring ring.path)

-- d places back from r i, on its bypass: on round, and without the bypass's label to where the bypass ends
abbrev pub bypass_row : Ring → ℕ → ℕ → TableRow
bypass_row ring i d =
    row (bypass ring i).0 (way (backward ring (back ring i (d + 1))) ((if d == ring.size - 2 then Pop else swap (bypass ring i)) ∷ []) ∷ [])
    (backward ring (back ring i d))

abbrev pub bypass_rows : Ring → ℕ → List TableRow
bypass_rows ring i = map (bypass_row ring i) (range_with_len 1 (ring.size - 2))

abbrev pub rows_of : Ring → List TableRow
rows_of ring =
    first_row ring
    ∷ (flat_map (middle_rows ring) (range_with_len 1 (ring.path - 1)) ++ last_rows ring ++ flat_map (bypass_rows ring) (range_with_len 0 ring.path))

abbrev pub net_of : Ring → Net
net_of ring = record {
  routers = routers_of ring;
  labels = labels_of ring;
  classes = classes_of ring;
  interfaces = interfaces;
  links = links_of ring;
  rows = rows_of ring;
}
