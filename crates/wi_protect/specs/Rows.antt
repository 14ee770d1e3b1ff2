-- The tables along paths and bypasses: facility backup (RFC 4090, 3.2). A bypass's label is taken off one hop before the bypass
-- ends (penultimate hop popping, RFC 3031, 3.16), a path's by the router that its last link leaves. Labels are numbered on from
-- one of a number: along a path, and along a bypass.
use Rattle.std.specs.Prelude.{ℕ, ◌+◌, ◌==◌, if◌then◌else◌, List, [], ◌∷◌, ◌++◌, Option, Some, None}
use Rattle.wi_labels.specs.declared.label.Label.{Label}
use Rattle.wi_labels.specs.declared.label.Class.TheVariants.{Mpls, Smpls}
use Rattle.wi_labels.specs.declared.ops.Op.{Op}
use Rattle.wi_labels.specs.declared.ops.Op.TheVariants.{Swap, Push, Pop}
use Rattle.wi_net.specs.declared.parts.LinkId.{LinkId}
use Rattle.wi_net.specs.declared.parts.Member.{Member}
use Rattle.wi_net.specs.declared.parts.TableRow.{TableRow}
use Rattle.wi_plan.specs.declared.plan.Path.{Path}
use Rattle.wi_plan.specs.declared.plan.Bypass.{Bypass}
use Rattle.wi_protect.specs.Labels.{each_from, path_labels, bypass_labels}

-- the label of a number
abbrev pub label : ℕ → Label
label n = record { 0 = n }

-- a group of one member
abbrev pub only : LinkId → List Op → List Member
only e ops = record { link = e; ops = ops } ∷ []

abbrev pub row : LinkId → Label → List (List Member) → TableRow
row e l groups = record { link = e; label = l; groups = groups }

-- a link's way around, and the number of the first label along it
pub record Round : Type 0 where
  pub via : List LinkId
  pub first : ℕ

-- the way around a link, where the first bypass's labels begin at a number
abbrev pub round : ℕ → List Bypass → LinkId → Option Round
round l [] e = None
round l (bypass ∷ bypasses) e =
    if bypass.link.0 == e.0 then Some (record { via = bypass.via; first = l })
    else round (l + bypass_labels bypass) bypasses e

-- the group for the way around: onto its first link; where there are more, with a label of its own on top
abbrev pub around : ℕ → Op → List LinkId → List (List Member)
around l op [] = []
around l op (v ∷ []) = only v (op ∷ []) ∷ []
around l op (v ∷ w ∷ via) = only v (op ∷ Push (label l) Mpls ∷ []) ∷ []

-- the groups of a hop onto a link
abbrev pub onto : Option Round → Op → LinkId → List (List Member)
onto None op e = only e (op ∷ []) ∷ []
onto (Some r) op e = only e (op ∷ []) ∷ around r.first op r.via

-- the groups at a path's label of a number, where these links are still to come: the last is reached without the label
abbrev pub next_groups : (LinkId → Option Round) → ℕ → List LinkId → List (List Member)
next_groups rounds l [] = []
next_groups rounds l (e ∷ []) = only e (Pop ∷ []) ∷ []
next_groups rounds l (e ∷ f ∷ links) = onto (rounds e) (Swap (label (l + 1)) Smpls) e

-- the same groups where the way around a link ends
abbrev pub end_rows : List LinkId → Label → List (List Member) → List TableRow
end_rows [] l groups = []
end_rows (v ∷ []) l groups = row v l groups ∷ []
end_rows (v ∷ w ∷ via) l groups = end_rows (w ∷ via) l groups

abbrev pub arrivals : Option Round → LinkId → Label → List (List Member) → List TableRow
arrivals None e l groups = row e l groups ∷ []
arrivals (Some r) e l groups = row e l groups ∷ end_rows r.via l groups

-- the rows from a link of a path on, which is reached with the label of a number
abbrev pub rows_from : (LinkId → Option Round) → ℕ → LinkId → List LinkId → List TableRow
rows_from rounds l e [] = []
rows_from rounds l e (f ∷ links) = arrivals (rounds e) e (label l) (next_groups rounds l (f ∷ links)) ++ rows_from rounds (l + 1) f links

-- the rows of a path, whose labels begin at a number
abbrev pub path_rows : (LinkId → Option Round) → ℕ → Label → List LinkId → List TableRow
path_rows rounds l ip [] = []
path_rows rounds l ip (e ∷ []) = []
path_rows rounds l ip (e ∷ f ∷ links) = row e ip (onto (rounds f) (Push (label l) Smpls) f) ∷ rows_from rounds l f links

-- the rows along a bypass, whose labels begin at a number: the last label is taken off before the last link
abbrev pub via_rows : ℕ → List LinkId → List TableRow
via_rows l [] = []
via_rows l (v ∷ []) = []
via_rows l (v ∷ w ∷ []) = row v (label l) (only w (Pop ∷ []) ∷ []) ∷ []
via_rows l (v ∷ w ∷ x ∷ via) = row v (label l) (only w (Swap (label (l + 1)) Mpls ∷ []) ∷ []) ∷ via_rows (l + 1) (w ∷ x ∷ via)

-- the rows of paths, and of bypasses, whose labels begin at a number
abbrev pub paths_rows : (LinkId → Option Round) → (Label → Label) → ℕ → List Path → List TableRow
paths_rows rounds moved l paths = each_from path_labels (λ n path. path_rows rounds n (moved path.ip) path.links) l paths

abbrev pub bypasses_rows : ℕ → List Bypass → List TableRow
bypasses_rows l bypasses = each_from bypass_labels (λ n bypass. via_rows n bypass.via) l bypasses
