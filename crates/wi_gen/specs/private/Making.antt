-- A ring's network while it is being made.
use Rattle.std.specs.Prelude.{◌≡◌, ℕ, zero, suc, codes, List, [], ◌∷◌, ◌++◌, map, replicate, Ok}
use Rattle.std.specs.List.{range_with_len}
use Rattle.wi_labels.specs.declared.label.Class.{Class}
use Rattle.wi_labels.specs.declared.label.Class.TheVariants.{Mpls, Smpls}
use Rattle.wi_net.specs.declared.parts.Link.{Link}
use Rattle.wi_net.specs.declared.parts.TableRow.{TableRow}
use Rattle.wi_net.specs.Net.{Net}
use Rattle.wi_net.specs.Builder.{Draft, empty_net, add_table, with_row}
use Rattle.wi_gen.specs.Ring.{Ring, numbered, routers_of, labels_of, classes_of, interfaces, link, entry, exit, s, t, r, forward_link, backward_link, rows_of, net_of}
use Rattle.wi_gen.specs.private.Ring.{IsRing}

-- no risk group of a ring has a name
abbrev pub draft_of : Net → Draft
draft_of net = record { net = net; named = []; firsts = [] }

-- routers alone
abbrev pub with_routers : List (List ℕ) → Draft
with_routers names = draft_of (record empty_net { routers = names })

-- a ring's routers, and labels
abbrev pub with_labels : Ring → List (List ℕ) → List Class → Draft
with_labels ring names classes = draft_of (record empty_net { routers = routers_of ring; labels = names; classes = classes })

-- the labels of so many bypasses, and of so many routers of the path
abbrev pub bypass_labels : Ring → ℕ → Draft
bypass_labels ring n = with_labels ring (map (numbered (codes "b")) (range_with_len 0 n)) (replicate n Mpls)

abbrev pub path_labels : Ring → ℕ → Draft
path_labels ring n =
    with_labels ring (map (numbered (codes "b")) (range_with_len 0 ring.path) ++ map (numbered (codes "s")) (range_with_len 1 n))
    (replicate ring.path Mpls ++ replicate n Smpls)

-- a ring's routers and labels, and links
abbrev pub net_with_links : Ring → List (List ℕ) → List Link → Net
net_with_links ring names links = record {
  routers = routers_of ring;
  labels = labels_of ring;
  classes = classes_of ring;
  interfaces = names;
  links = links;
  rows = [];
}

abbrev pub with_links : Ring → List (List ℕ) → List Link → Draft
with_links ring names links = draft_of (net_with_links ring names links)

-- the interfaces that have names before the forward link of a number, and before the backward one
abbrev pub forward_names : ℕ → List (List ℕ)
forward_names zero = codes "o" ∷ codes "x" ∷ []
forward_names (suc i) = codes "o" ∷ codes "x" ∷ codes "f" ∷ []

abbrev pub backward_names : ℕ → List (List ℕ)
backward_names zero = codes "o" ∷ codes "x" ∷ codes "f" ∷ []
backward_names (suc i) = interfaces

-- the links from s and to t, and so many forward ones; all of these, and so many backward ones
abbrev pub forward_links : Ring → ℕ → Draft
forward_links ring n = with_links ring (forward_names n) (link ring entry s (r 0) 0 ∷ link ring exit (r ring.path) t 1 ∷ map (forward_link ring) (range_with_len 0 n))

abbrev pub backward_links : Ring → ℕ → Draft
backward_links ring n =
    with_links ring (backward_names n)
    (link ring entry s (r 0) 0 ∷ link ring exit (r ring.path) t 1
    ∷ (map (forward_link ring) (range_with_len 0 ring.size) ++ map (backward_link ring) (range_with_len 0 n)))

-- a ring's network with these rows alone
abbrev pub with_rows : Ring → List TableRow → Draft
with_rows ring rows = draft_of (record (net_of ring) { rows = rows })

-- a row breaks no rule
abbrev pub IsAllowed : Draft → TableRow → Type 0
IsAllowed draft row = add_table draft row.link row.label row.groups ≡ Ok (with_row draft row)

-- just these rows are wanting in a ring's network, in this order
pub record Lacks (ring : Ring) (draft : Draft) (left : List TableRow) : Type 0 where
  pub bounds : IsRing ring
  pub made : draft ≡ with_rows ring draft.net.rows
  pub rows : draft.net.rows ++ left ≡ rows_of ring
