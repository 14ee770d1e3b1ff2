-- The drawing of a network, and of an answer to a problem of it.
use Rattle.std.specs.Prelude.{ℕ, zero, suc, ◌+◌, Bool, true, false, ◌==◌, if◌then◌else◌, List, [], ◌∷◌, ◌++◌, length, slice_get, slice_index_or, codes, Option, Some, None}
use Rattle.std.specs.Option.{option_map, option_map_or, option_and_then}
use Rattle.std.specs.Fmt.{decimal}
use Rattle.wi_net.specs.declared.parts.LinkId.{LinkId}
use Rattle.wi_net.specs.declared.parts.RouterId.{RouterId}
use Rattle.wi_net.specs.declared.bounds.Bounds.{Bounds}
use Rattle.wi_net.specs.LinkSet.{has}
use Rattle.wi_net.specs.Net.{Net}
use Rattle.wi_world.specs.declared.run.Run.{Run}
use Rattle.wi_world.specs.declared.run.Step.{Step}
use Rattle.wi_world.specs.Moves.{Location, moved}
use Rattle.wi_world.specs.Runs.{needs, trace_of}
use Rattle.wi_trace.specs.declared.answer.Answer.{Answer}
use Rattle.wi_faults.specs.Shown.{header_shown, link_shown}
use Rattle.wi_report.specs.Reports.{end_shown, heading_of}
use Rattle.wi_draw.specs.Dot.{escaped, string_of, one_line}

-- what is drawn of an answer over its network: a heading, the places of a packet, the links that have failed, and the router where the
-- packet is dropped with the words that tell how
pub record Picture : Type 0 where
  pub heading : Option (List ℕ)
  pub places : List Location
  pub failed : List LinkId
  pub dropped : Option (RouterId × List ℕ)

-- where a packet is after steps
abbrev pub last_place : Net → Location → List Step → Option Location
last_place net at [] = Some at
last_place net at (step ∷ steps) = option_and_then (λ next. last_place net next steps) (moved net at step)

-- how a packet is dropped, if it is, by the report's line: at the router that its link leads to
abbrev pub dropped_by : Net → Location → List ℕ → Option (RouterId × List ℕ)
dropped_by net at [] = None
dropped_by net at (b ∷ line) = option_map (λ l. (l.to, one_line (b ∷ line))) (slice_get net.links at.0.0)

abbrev pub drop_of : Net → Run → Option (RouterId × List ℕ)
drop_of net run = option_and_then (λ at. dropped_by net at (end_shown net run.end at)) (last_place net (run.first, run.header) run.steps)

-- nothing but the network
abbrev pub no_picture : Picture
no_picture = record { heading = None; places = []; failed = []; dropped = None }

-- a run below a heading
abbrev pub run_picture : Net → Bounds → List ℕ → Run → Picture
run_picture net bounds heading run = record { heading = Some heading; places = trace_of net run; failed = needs net bounds run; dropped = drop_of net run }

-- an answer where runs are weighed by so many terms
abbrev pub picture_of : Net → Bounds → ℕ → Answer → Picture
picture_of net bounds terms a =
    option_map_or (run_picture net bounds (one_line (heading_of net bounds terms a))) a.run
    (record { heading = Some (one_line (heading_of net bounds terms a)); places = []; failed = []; dropped = None })

-- the place of a number, on its link
abbrev pub place_label : Net → ℕ → Location → List ℕ
place_label net n at = decimal n ++ codes ":" ++ escaped (header_shown net at.1)

-- a line below others: DOT writes the break between two lines so
abbrev pub with_line : List ℕ → List ℕ → List ℕ
with_line [] line = line
with_line (b ∷ lines) line = b ∷ lines ++ codes "\\n" ++ line

-- what stands on a link where these lines do, once a packet has been at more places, the first of which has this number
abbrev pub link_label : Net → LinkId → ℕ → List ℕ → List Location → List ℕ
link_label net e n lines [] = lines
link_label net e n lines (at ∷ later) = link_label net e (n + 1) (if at.0.0 == e.0 then with_line lines (place_label net n at) else lines) later

-- what stands on a link, as an attribute
abbrev pub label_drawn : List ℕ → List ℕ
label_drawn label = codes " label=\"" ++ label ++ codes "\""

-- how a link is drawn on which this stands, and which has failed or not
abbrev pub stroke : List ℕ → Bool → List ℕ
stroke [] false = []
stroke [] true = codes " color=red style=dashed"
stroke (b ∷ label) false = label_drawn (b ∷ label) ++ codes " color=blue penwidth=2"
stroke (b ∷ label) true = label_drawn (b ∷ label) ++ codes " color=purple style=dashed penwidth=2"

-- the name of a router
abbrev pub router_name : Net → RouterId → List ℕ
router_name net r = slice_index_or net.routers r.0 []

-- the line of a link on which this stands, and which has failed or not; what it is called is a tooltip, which doesn't cover the picture
abbrev pub link_line : Net → LinkId → List ℕ → Bool → List ℕ
link_line net e label failed =
    option_map_or (λ l.
    codes "  " ++ string_of (router_name net l.from) ++ codes " -> " ++ string_of (router_name net l.to) ++ codes " [tooltip=" ++ string_of (link_shown net e)
    ++ stroke label failed ++ codes "]\n") (slice_get net.links e.0) []

abbrev pub link_drawn : Net → Picture → LinkId → List ℕ
link_drawn net p e = link_line net e (link_label net e 1 [] p.places) (has p.failed e)

-- what is said of a packet that is dropped at a router of this name
abbrev pub drop_drawn : List ℕ → List ℕ → List ℕ
drop_drawn name words = codes " [label=\"" ++ escaped name ++ codes "\\n" ++ escaped words ++ codes "\" color=red penwidth=2]"

-- the same, if it is this router
abbrev pub dropped_drawn : RouterId → List ℕ → Option (RouterId × List ℕ) → List ℕ
dropped_drawn r name None = []
dropped_drawn r name (Some d) = if d.0.0 == r.0 then drop_drawn name d.1 else []

-- the line of a router, where a packet is dropped so
abbrev pub router_drawn : Net → Option (RouterId × List ℕ) → RouterId → List ℕ
router_drawn net dropped r = codes "  " ++ string_of (router_name net r) ++ dropped_drawn r (router_name net r) dropped ++ codes "\n"

-- the line of a heading
abbrev pub heading_drawn : List ℕ → List ℕ
heading_drawn heading = codes "  label=" ++ string_of heading ++ codes "\n"

-- texts for the numbers below one
abbrev pub each_below : ℕ → (ℕ → List ℕ) → List ℕ
each_below zero text = []
each_below (suc n) text = each_below n text ++ text n

-- a graph: a heading, if there is one, a line for each router, and one for each link, by their numbers
abbrev pub drawn : Net → Picture → List ℕ
drawn net p =
    codes "digraph whatif {\n  node [shape=box fontsize=10]\n  edge [arrowsize=0.6 fontsize=9]\n" ++ option_map_or heading_drawn p.heading []
    ++ each_below (length net.routers) (λ n. router_drawn net p.dropped (record { 0 = n })) ++ each_below (length net.links) (λ n. link_drawn net p (record { 0 = n }))
    ++ codes "}\n"

abbrev pub network_drawn : Net → List ℕ
network_drawn net = drawn net no_picture

abbrev pub answer_drawn : Net → Bounds → ℕ → Answer → List ℕ
answer_drawn net bounds terms a = drawn net (picture_of net bounds terms a)
