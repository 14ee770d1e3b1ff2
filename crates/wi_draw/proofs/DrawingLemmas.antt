-- Drawings that are put together piece by piece.
use Rattle.std.proofs.Common.{◌≡◌, ◌∙◌, ℕ, ◌+◌, ◌<◌, List, [], ◌∷◌, ◌++◌, length, drop, get_or, Option, Some, None, Result, OnOk, subst, refl, sym, ap, append_assoc}
use native.Mathlib.Numerals.{unary_clauses}
use Rattle.std.specs.Prelude.{codes, slice_get, Bool, IfOk}
use Rattle.wi_net.specs.LinkSet.{has}
use Rattle.wi_draw.specs.declared.marks.Marks.{Marks}
use Rattle.std.specs.List.{flat_map}
use Rattle.std.specs.Option.{option_map_or}
use Rattle.std.proofs.lemmas.List.{drop_more}
use Rattle.wi_net.specs.declared.parts.LinkId.{LinkId}
use Rattle.wi_net.specs.Net.{Net}
use Rattle.wi_world.specs.declared.run.Step.{Step}
use Rattle.wi_world.specs.Moves.{Location, moved}
use Rattle.wi_world.specs.Runs.{locations}
use Rattle.wi_net.specs.declared.parts.RouterId.{RouterId}
use Rattle.wi_net.specs.declared.parts.Link.{Link}
use Rattle.wi_faults.specs.Shown.{link_shown}
use Rattle.wi_draw.specs.Dot.{escaped, string_of}
use Rattle.wi_faults.proofs.ShownLemmas.{five_pieces, two_pieces}
use Rattle.std.proofs.lemmas.Option.{get_or_from_slice_get}
use Rattle.wi_draw.specs.Drawings.{Picture, drawn, drop_drawn, dropped_drawn, heading_drawn, link_drawn, link_line, router_drawn, stroke, each_below, last_place, link_label}
use Rattle.wi_draw.specs.private.Marks.{AreMarks, IsPlaced, label_at}

-- a piece is put behind others
pub joined : (a b c one two : List ℕ) → one ≡ a ++ b → two ≡ one ++ c → two ≡ a ++ (b ++ c)
joined a b c one two f g = g ∙ (ap (λ x. x ++ c) f ∙ append_assoc a b c)

-- a byte is written, and those after it are left
pub byte_left : (write : ℕ → List ℕ) (xs : List ℕ) (i d : ℕ) (text whole new : List ℕ) → i < length xs → text ++ flat_map write (drop i xs) ≡ whole → new ≡ text ++ write (get_or xs i d)
    → new ++ flat_map write (drop (i + 1) xs) ≡ whole
byte_left write xs i d text whole new within all put =
    let here : text ++ flat_map write (get_or xs i d ∷ drop (i + 1) xs) ≡ whole = rw (drop_more xs i d within) at all in
    rw (put, append_assoc text (write (get_or xs i d)) (flat_map write (drop (i + 1) xs))) here

-- one more of the texts for numbers
pub one_more : (f : ℕ → List ℕ) (n : ℕ) (front text new : List ℕ) → text ≡ front ++ each_below n f → new ≡ text ++ f n → new ≡ front ++ each_below (n + 1) f
one_more f n front text new before put = simp unary_clauses (put ∙ (ap (λ t. t ++ f n) before ∙ append_assoc front (each_below n f) (f n)))

abbrev pub id : ℕ → LinkId
id n = record { 0 = n }

-- a place is on its link, and the steps lead on from it
pub place_left : (net : Net) (at next : Location) (steps : List Step) (i : ℕ) (d : Step) (old new : List (List ℕ)) (n : ℕ) → i < length steps → moved net at (get_or steps i d) ≡ Some next → IsPlaced net (i + 1) at old new
    → link_label net (id n) (i + 1) (label_at old n) (locations net at (drop i steps)) ≡ link_label net (id n) (i + 1 + 1) (label_at new n) (locations net next (drop (i + 1) steps))
place_left net at next steps i d old new n within to placed = rw (drop_more steps i d within, to, placed.label n) refl

-- a place is on its link, and no step leads on from it
pub last_left : (net : Net) (at : Location) (steps : List Step) (i : ℕ) (d : Step) (old new : List (List ℕ)) (n : ℕ) → i < length steps → moved net at (get_or steps i d) ≡ None → IsPlaced net (i + 1) at old new
    → link_label net (id n) (i + 1) (label_at old n) (locations net at (drop i steps)) ≡ label_at new n
last_left net at steps i d old new n within to placed = rw (drop_more steps i d within, to, placed.label n) refl

pub next_place : (net : Net) (at next : Location) (steps : List Step) (i : ℕ) (d : Step) → i < length steps → moved net at (get_or steps i d) ≡ Some next → last_place net at (drop i steps) ≡ last_place net next (drop (i + 1) steps)
next_place net at next steps i d within to = rw (drop_more steps i d within, to) refl

pub no_place : (net : Net) (at : Location) (steps : List Step) (i : ℕ) (d : Step) → i < length steps → moved net at (get_or steps i d) ≡ None → last_place net at (drop i steps) ≡ None
no_place net at steps i d within to = rw (drop_more steps i d within, to) refl

-- the line of a router, of its pieces
pub router_pieces : {E : Type 0} (done : Result (Unit {0}) E) (net : Net) (dropped : Option (RouterId × List ℕ)) (r : RouterId) (name bytes text one two three four : List ℕ) → slice_get net.routers r.0 ≡ Some name → bytes ≡ name
    → one ≡ text ++ codes "  " → two ≡ one ++ string_of bytes → three ≡ two ++ dropped_drawn r name dropped → OnOk done (four ≡ three ++ codes "\n") → OnOk done (four ≡ text ++ router_drawn net dropped r)
router_pieces done net dropped r name bytes text one two three four is same e1 e2 e3 e4 =
    let named : List ℕ = codes "  " ++ string_of name in
    let to_name : two ≡ text ++ named = joined text (codes "  ") (string_of name) one two e1 (e2 ∙ ap (λ b. one ++ string_of b) same) in
    let to_drop : three ≡ text ++ (named ++ dropped_drawn r name dropped) = joined text named (dropped_drawn r name dropped) two three to_name e3 in
    let line : named ++ dropped_drawn r name dropped ++ codes "\n" ≡ router_drawn net dropped r = rw (get_or_from_slice_get net.routers r.0 name [] is) refl in
    subst (λ l. OnOk done (four ≡ text ++ l)) line (two_pieces done text (named ++ dropped_drawn r name dropped) (codes "\n") three four to_drop e4)

-- what is said of a packet that is dropped, of its pieces
pub drop_pieces : {E : Type 0} (done : Result (Unit {0}) E) (name words bytes said text one two three four five : List ℕ) → bytes ≡ name → said ≡ words
    → one ≡ text ++ codes " [label=\"" → two ≡ one ++ escaped bytes → three ≡ two ++ codes "\\n" → four ≡ three ++ escaped said → OnOk done (five ≡ four ++ codes "\" color=red penwidth=2]") → OnOk done (five ≡ text ++ drop_drawn name words)
drop_pieces done name words bytes said text one two three four five same saying e1 e2 e3 e4 e5 =
    five_pieces done text (codes " [label=\"") (escaped name) (codes "\\n") (escaped words) (codes "\" color=red penwidth=2]") one two three four five e1 (e2 ∙ ap (λ b. one ++ escaped b) same) e3 (e4 ∙ ap (λ b. three ++ escaped b) saying) e5

-- the line of a link, of its pieces
pub link_pieces : {E : Type 0} (done : Result (Unit {0}) E) (net : Net) (e : LinkId) (label : List ℕ) (failed : Bool) (l : Link) (from to from_bytes to_bytes text one two three four five six seven eight : List ℕ)
    → slice_get net.links e.0 ≡ Some l → slice_get net.routers l.from.0 ≡ Some from → slice_get net.routers l.to.0 ≡ Some to → from_bytes ≡ from → to_bytes ≡ to
    → one ≡ text ++ codes "  " → two ≡ one ++ string_of from_bytes → three ≡ two ++ codes " -> " → four ≡ three ++ string_of to_bytes → five ≡ four ++ codes " [tooltip=" → six ≡ five ++ string_of (link_shown net e) → seven ≡ six ++ stroke label failed
    → OnOk done (eight ≡ seven ++ codes "]\n") → OnOk done (eight ≡ text ++ link_line net e label failed)
link_pieces done net e label failed l from to from_bytes to_bytes text one two three four five six seven eight is begins ends same_from same_to e1 e2 e3 e4 e5 e6 e7 e8 =
    let p2 : List ℕ = codes "  " ++ string_of from in
    let p3 : List ℕ = p2 ++ codes " -> " in
    let p4 : List ℕ = p3 ++ string_of to in
    let p5 : List ℕ = p4 ++ codes " [tooltip=" in
    let p6 : List ℕ = p5 ++ string_of (link_shown net e) in
    let t2 : two ≡ text ++ p2 = joined text (codes "  ") (string_of from) one two e1 (e2 ∙ ap (λ b. one ++ string_of b) same_from) in
    let t3 : three ≡ text ++ p3 = joined text p2 (codes " -> ") two three t2 e3 in
    let t4 : four ≡ text ++ p4 = joined text p3 (string_of to) three four t3 (e4 ∙ ap (λ b. three ++ string_of b) same_to) in
    let t5 : five ≡ text ++ p5 = joined text p4 (codes " [tooltip=") four five t4 e5 in
    let t6 : six ≡ text ++ p6 = joined text p5 (string_of (link_shown net e)) five six t5 e6 in
    let t7 : seven ≡ text ++ (p6 ++ stroke label failed) = joined text p6 (stroke label failed) six seven t6 e7 in
    let line : p6 ++ stroke label failed ++ codes "]\n" ≡ link_line net e label failed = rw (is, get_or_from_slice_get net.routers l.from.0 from [] begins, get_or_from_slice_get net.routers l.to.0 to [] ends) refl in
    subst (λ x. OnOk done (eight ≡ text ++ x)) line (two_pieces done text (p6 ++ stroke label failed) (codes "]\n") seven eight t7 e8)

-- a drawing of its pieces, where these are a picture's
pub drawing_pieces : (net : Net) (p : Picture) (heading : Option (List ℕ)) (dropped : Option (RouterId × List ℕ)) (none opened headed routers links whole : List ℕ) → none ≡ []
    → opened ≡ none ++ codes "digraph whatif {\n  node [shape=box fontsize=10]\n  edge [arrowsize=0.6 fontsize=9]\n" → headed ≡ opened ++ option_map_or heading_drawn heading []
    → routers ≡ headed ++ each_below (length net.routers) (λ n. router_drawn net dropped (record { 0 = n })) → links ≡ routers ++ each_below (length net.links) (λ n. link_drawn net p (record { 0 = n }))
    → whole ≡ links ++ codes "}\n" → heading ≡ p.heading → dropped ≡ p.dropped → whole ≡ drawn net p
drawing_pieces net p heading dropped none opened headed routers links whole e0 e1 e2 e3 e4 e5 h d = rw (e5, e4, e3, e2, e1, e0, h, d) refl

-- a link is drawn by what was gathered for it
pub link_as_marked : (net : Net) (p : Picture) (e : LinkId) (label : List ℕ) (failed : Bool) → label ≡ link_label net e 1 [] p.places → failed ≡ has p.failed e → link_line net e label failed ≡ link_drawn net p e
link_as_marked net p e label failed labelled fails = rw (labelled, fails) refl

-- the same network is drawn
pub same_drawn : {E : Type 0} (r : Result (List ℕ) E) (net other : Net) (marks : Marks) (p : Picture) → other ≡ net → AreMarks net marks p → ((p : Picture) → AreMarks other marks p → IfOk r (λ text. text ≡ drawn other p))
    → IfOk r (λ text. text ≡ drawn net p)
same_drawn r net other marks p same are draws = subst (λ n. IfOk r (λ text. text ≡ drawn n p)) same (draws p (subst (λ n. AreMarks n marks p) (sym same) are))
