-- Along a path whose tables are known, under any failures that its bypasses take care of.
use Rattle.std.proofs.Common.{◌≡◌, ℕ, ◌+◌, nat_lt, length, arith, true, false, not, ◌⊎◌, inl, inr, List, [], ◌∷◌, ◌++◌, map, Option, Some, None, refl, sym, ap, ◌∙◌, subst}
use Rattle.std.proofs.lemmas.Bool.{and_parts, not-true, cond-true, lt-ltb}
use Rattle.wi_labels.specs.declared.label.Label.{Label}
use Rattle.wi_labels.specs.declared.label.Class.TheVariants.{Mpls, Smpls, Ip}
use Rattle.wi_labels.specs.declared.ops.Op.{Op}
use Rattle.wi_labels.specs.declared.ops.Op.TheVariants.{Swap, Push, Pop}
use Rattle.wi_labels.specs.Header.{Entry, after_ops}
use Rattle.wi_net.specs.declared.parts.LinkId.{LinkId}
use Rattle.wi_net.specs.declared.parts.Member.{Member}
use Rattle.wi_net.specs.declared.parts.TableRow.{TableRow}
use Rattle.wi_net.specs.LinkSet.{has, is_apart}
use Rattle.wi_net.specs.Net.{Net, first_active}
use Rattle.wi_net.specs.Tables.{groups_in}
use Rattle.wi_world.specs.Moves.{Location}
use Rattle.wi_plan.specs.Plans.{last_of}
use Rattle.wi_protect.specs.Rows.{Round, label, only, around, onto, next_groups}
use Rattle.wi_protect.proofs.Ways.{Hop, Way, last_at, one_step}

-- one way leads from a place along links to an end with a header
pub record Leads (net : Net) (fails : List LinkId) (at : Location) (links : List LinkId) (last : List Entry) : Type 0 where
  pub later : List Location
  pub way : Way net fails at later
  pub along : map (λ (p : Location). p.0) later ≡ links
  pub ends : (last_at at later).1 ≡ last

pub leads_on : (net : Net) (fails : List LinkId) (at next : Location) (links : List LinkId) (last : List Entry) → Hop net fails at next → Leads net fails next links last → Leads net fails at (next.0 ∷ links) last
leads_on net fails at next links last hop l = record { later = next ∷ l.later; way = (hop, l.way); along = ap (λ es. next.0 ∷ es) l.along; ends = l.ends }

-- where no table says anything
pub leads_nowhere : (net : Net) (fails : List LinkId) (e : LinkId) (top : Entry) (below : List Entry) → groups_in net.rows e top.0 ≡ [] → Leads net fails (e, top ∷ below) [] (top ∷ below)
leads_nowhere net fails e top below none = record { later = []; way = λ s. rw none refl; along = refl; ends = refl }

first_up : (fails : List LinkId) (f : LinkId) (ops : List Op) (gs : List (List Member)) → has fails f ≡ false → first_active fails (only f ops ∷ gs) ≡ Some 0
first_up fails f ops gs up = rw up (cond-true (nat_lt 0 (length (only f ops ∷ gs))) (Some 0) None (lt-ltb 0 (length (only f ops ∷ gs)) (omega arith)))

second_up : (fails : List LinkId) (f v : LinkId) (first ops : List Op) (gs : List (List Member)) → has fails f ≡ true → has fails v ≡ false → first_active fails (only f first ∷ only v ops ∷ gs) ≡ Some 1
second_up fails f v first ops gs down up =
    rw (down, up) (cond-true (nat_lt 1 (length (only f first ∷ only v ops ∷ gs))) (Some 1) None (lt-ltb 1 (length (only f first ∷ only v ops ∷ gs)) (omega arith)))

-- the first group's link is up
pub hop_first : (net : Net) (fails : List LinkId) (e : LinkId) (top : Entry) (below h : List Entry) (f : LinkId) (ops : List Op) (gs : List (List Member))
    → groups_in net.rows e top.0 ≡ only f ops ∷ gs → has fails f ≡ false → after_ops ops (top ∷ below) ≡ Some h → Hop net fails (e, top ∷ below) (f, h)
hop_first net fails e top below h f ops gs groups up leads =
    one_step net fails (e, top ∷ below) (f, h) 0 (record { link = f; ops = ops }) (rw groups (first_up fails f ops gs up)) (rw groups refl) up (rw leads refl)

-- the first group's link is down, and the second's is up
pub hop_second : (net : Net) (fails : List LinkId) (e : LinkId) (top : Entry) (below h : List Entry) (f v : LinkId) (first ops : List Op) (gs : List (List Member))
    → groups_in net.rows e top.0 ≡ only f first ∷ only v ops ∷ gs → has fails f ≡ true → has fails v ≡ false → after_ops ops (top ∷ below) ≡ Some h → Hop net fails (e, top ∷ below) (v, h)
hop_second net fails e top below h f v first ops gs groups down up leads =
    one_step net fails (e, top ∷ below) (v, h) 1 (record { link = v; ops = ops }) (rw groups (second_up fails f v first ops gs down up)) (rw groups refl) up (rw leads refl)

-- what the tables say along a way around, whose labels begin at a number
abbrev pub ViaEntries : List TableRow → ℕ → List LinkId → Type 0
ViaEntries rows l [] = Unit {0}
ViaEntries rows l (v ∷ []) = Unit {0}
ViaEntries rows l (v ∷ w ∷ []) = groups_in rows v (label l) ≡ only w (Pop ∷ []) ∷ []
ViaEntries rows l (v ∷ w ∷ x ∷ via) = (groups_in rows v (label l) ≡ only w (Swap (label (l + 1)) Mpls ∷ []) ∷ []) × ViaEntries rows (l + 1) (w ∷ x ∷ via)

-- along a way around, under its label, to where it ends
pub via_leads : (net : Net) (fails : List LinkId) (l : ℕ) (v w : LinkId) (via rest : List LinkId) (header last : List Entry)
    → ViaEntries net.rows l (v ∷ w ∷ via) → is_apart (w ∷ via) fails ≡ true
    → ((z : LinkId) → last_of (w ∷ via) ≡ Some z → Leads net fails (z, header) rest last)
    → Leads net fails (v, (label l, Mpls) ∷ header) ((w ∷ via) ++ rest) last
via_leads net fails l v w [] rest header last entry apart then =
    leads_on net fails (v, (label l, Mpls) ∷ header) (w, header) rest last
    (hop_first net fails v (label l, Mpls) header header w (Pop ∷ []) [] entry (not-true (has fails w) (and_parts (not (has fails w)) true apart).0) refl)
    (then w refl)
via_leads net fails l v w (x ∷ via) rest header last entry apart then =
    let parts = and_parts (not (has fails w)) (is_apart (x ∷ via) fails) apart in
    leads_on net fails (v, (label l, Mpls) ∷ header) (w, (label (l + 1), Mpls) ∷ header) ((x ∷ via) ++ rest) last
    (hop_first net fails v (label l, Mpls) header ((label (l + 1), Mpls) ∷ header) w (Swap (label (l + 1)) Mpls ∷ []) [] entry.0 (not-true (has fails w) parts.0) refl)
    (via_leads net fails (l + 1) w x via rest header last entry.1 parts.1 then)

-- a link is down, and has a way around of which nothing is down
pub record Spared (rows : List TableRow) (rounds : LinkId → Option Round) (fails : List LinkId) (f : LinkId) : Type 0 where
  pub down : has fails f ≡ true
  pub way : Round
  pub is : rounds f ≡ Some way
  pub up : is_apart way.via fails ≡ true
  pub end : LinkId
  pub ends : last_of way.via ≡ Some end
  pub another : has way.via f ≡ false
  pub entries : ViaEntries rows way.first way.via

-- a link is up, or spared
abbrev pub Passes : List TableRow → (LinkId → Option Round) → List LinkId → LinkId → Type 0
Passes rows rounds fails f = (has fails f ≡ false) ⊎ Spared rows rounds fails f

-- the links that are taken in its place
abbrev pub taken : (rows : List TableRow) (rounds : LinkId → Option Round) (fails : List LinkId) (f : LinkId) → Passes rows rounds fails f → List LinkId
taken rows rounds fails f (inl up) = f ∷ []
taken rows rounds fails f (inr spared) = spared.way.via

-- a hop onto a link, or around it
pub onto_leads : (net : Net) (rounds : LinkId → Option Round) (fails : List LinkId) (e : LinkId) (top : Entry) (below header : List Entry) (op : Op) (f : LinkId) (rest : List LinkId) (last : List Entry)
    → groups_in net.rows e top.0 ≡ onto (rounds f) op f
    → after_ops (op ∷ []) (top ∷ below) ≡ Some header
    → ((b : ℕ) → after_ops (op ∷ Push (label b) Mpls ∷ []) (top ∷ below) ≡ Some ((label b, Mpls) ∷ header))
    → (passes : Passes net.rows rounds fails f)
    → Leads net fails (f, header) rest last
    → ((way : Round) (z : LinkId) → rounds f ≡ Some way → last_of way.via ≡ Some z → has way.via f ≡ false → Leads net fails (z, header) rest last)
    → Leads net fails (e, top ∷ below) (taken net.rows rounds fails f passes ++ rest) last
onto_leads net rounds fails e top below header op f rest last entry one two (inl up) direct round =
    go (rounds f) entry
  where
    go : (o : Option Round) → groups_in net.rows e top.0 ≡ onto o op f → Leads net fails (e, top ∷ below) (f ∷ rest) last
    go None is = leads_on net fails (e, top ∷ below) (f, header) rest last (hop_first net fails e top below header f (op ∷ []) [] is up one) direct
    go (Some way) is = leads_on net fails (e, top ∷ below) (f, header) rest last (hop_first net fails e top below header f (op ∷ []) (around way.first op way.via) is up one) direct
onto_leads net rounds fails e top below header op f rest last entry one two (inr s) direct round =
    go s.way.via refl s.up s.ends s.entries (rw s.is at entry)
  where
    go : (via : List LinkId) → s.way.via ≡ via → is_apart via fails ≡ true → last_of via ≡ Some s.end → ViaEntries net.rows s.way.first via
        → groups_in net.rows e top.0 ≡ only f (op ∷ []) ∷ around s.way.first op via → Leads net fails (e, top ∷ below) (via ++ rest) last
    go [] same apart ends entries is = cc
    go (v ∷ []) same apart ends entries is =
        let z : v ≡ s.end = cc in
        leads_on net fails (e, top ∷ below) (v, header) rest last
        (hop_second net fails e top below header f v (op ∷ []) (op ∷ []) [] is s.down (not-true (has fails v) (and_parts (not (has fails v)) true apart).0) one)
        (let P : LinkId → Type 0 = λ y. Leads net fails (y, header) rest last in subst P (sym z) (round s.way s.end s.is s.ends s.another))
    go (v ∷ w ∷ via) same apart ends entries is =
        let parts = and_parts (not (has fails v)) (is_apart (w ∷ via) fails) apart in
        leads_on net fails (e, top ∷ below) (v, (label s.way.first, Mpls) ∷ header) ((w ∷ via) ++ rest) last
        (hop_second net fails e top below ((label s.way.first, Mpls) ∷ header) f v (op ∷ []) (op ∷ Push (label s.way.first) Mpls ∷ []) [] is s.down (not-true (has fails v) parts.0) (two s.way.first))
        (via_leads net fails s.way.first v w via rest header last entries parts.1
        (λ z end. round s.way z s.is (ap last_of same ∙ end) s.another))

-- what the tables say where a path's link is reached, or the way around it ends
pub record Arrives (rows : List TableRow) (o : Option Round) (e : LinkId) (l : ℕ) (groups : List (List Member)) : Type 0 where
  pub here : groups_in rows e (label l) ≡ groups
  pub there : (way : Round) (z : LinkId) → o ≡ Some way → last_of way.via ≡ Some z → has way.via e ≡ false → groups_in rows z (label l) ≡ groups

-- and so from each link of a path on
abbrev pub Entries : List TableRow → (LinkId → Option Round) → ℕ → LinkId → List LinkId → Type 0
Entries rows rounds l e [] = Unit {0}
Entries rows rounds l e (f ∷ links) = Arrives rows (rounds e) e l (next_groups rounds l (f ∷ links)) × Entries rows rounds (l + 1) f links

-- each link but the last is up or spared, and the last is up
abbrev pub Passable : List TableRow → (LinkId → Option Round) → List LinkId → LinkId → List LinkId → Type 0
Passable rows rounds fails f [] = has fails f ≡ false
Passable rows rounds fails f (g ∷ links) = Passes rows rounds fails f × Passable rows rounds fails g links

-- the links that are taken
abbrev pub route : (rows : List TableRow) (rounds : LinkId → Option Round) (fails : List LinkId) (f : LinkId) (links : List LinkId) → Passable rows rounds fails f links → List LinkId
route rows rounds fails f [] up = f ∷ []
route rows rounds fails f (g ∷ links) (passes, rest) = taken rows rounds fails f passes ++ route rows rounds fails g links rest

-- from any link where a path's label tells the links that are still to come
pub path_leads : (net : Net) (rounds : LinkId → Option Round) (fails : List LinkId) (ip : Entry) (l : ℕ) (e f : LinkId) (links : List LinkId) (end : LinkId)
    → groups_in net.rows e (label l) ≡ next_groups rounds l (f ∷ links)
    → Entries net.rows rounds (l + 1) f links
    → (passable : Passable net.rows rounds fails f links)
    → last_of (f ∷ links) ≡ Some end → groups_in net.rows end ip.0 ≡ []
    → Leads net fails (e, (label l, Smpls) ∷ ip ∷ []) (route net.rows rounds fails f links passable) (ip ∷ [])
path_leads net rounds fails ip l e f [] end entry entries up ends none =
    let same : f ≡ end = cc in
    let stop : groups_in net.rows f ip.0 ≡ [] = rw (← same) at none in
    leads_on net fails (e, (label l, Smpls) ∷ ip ∷ []) (f, ip ∷ []) [] (ip ∷ [])
    (hop_first net fails e (label l, Smpls) (ip ∷ []) (ip ∷ []) f (Pop ∷ []) [] entry up refl)
    (leads_nowhere net fails f ip [] stop)
path_leads net rounds fails ip l e f (g ∷ links) end entry entries (passes, passable) ends none =
    onto_leads net rounds fails e (label l, Smpls) (ip ∷ []) ((label (l + 1), Smpls) ∷ ip ∷ []) (Swap (label (l + 1)) Smpls) f (route net.rows rounds fails g links passable) (ip ∷ [])
    entry refl (λ b. refl) passes
    (path_leads net rounds fails ip (l + 1) f g links end entries.0.here entries.1 passable ends none)
    (λ way z is last another. path_leads net rounds fails ip (l + 1) z g links end (entries.0.there way z is last another) entries.1 passable ends none)

-- from the first link of a path
pub whole_leads : (net : Net) (rounds : LinkId → Option Round) (fails : List LinkId) (ip : Label) (l : ℕ) (e f g : LinkId) (links : List LinkId) (end : LinkId)
    → groups_in net.rows e ip ≡ onto (rounds f) (Push (label l) Smpls) f
    → Entries net.rows rounds l f (g ∷ links)
    → (passable : Passable net.rows rounds fails f (g ∷ links))
    → last_of (f ∷ g ∷ links) ≡ Some end → groups_in net.rows end ip ≡ []
    → Leads net fails (e, (ip, Ip) ∷ []) (route net.rows rounds fails f (g ∷ links) passable) ((ip, Ip) ∷ [])
whole_leads net rounds fails ip l e f g links end entry entries (passes, passable) ends none =
    onto_leads net rounds fails e (ip, Ip) [] ((label l, Smpls) ∷ (ip, Ip) ∷ []) (Push (label l) Smpls) f (route net.rows rounds fails g links passable) ((ip, Ip) ∷ [])
    entry refl (λ b. refl) passes
    (next f entries.0.here)
    (λ way z is last another. next z (entries.0.there way z is last another))
  where
    next : (z : LinkId) → groups_in net.rows z (label l) ≡ next_groups rounds l (g ∷ links) → Leads net fails (z, (label l, Smpls) ∷ (ip, Ip) ∷ []) (route net.rows rounds fails g links passable) ((ip, Ip) ∷ [])
    next z at = path_leads net rounds fails (ip, Ip) l z g links end at entries.1 passable ends none
