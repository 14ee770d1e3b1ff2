-- Two small plans, and what the definitions make of them.
use Rattle.std.proofs.Common.{◌≡◌, ℕ, List, [], ◌∷◌, Some, None, true, false, refl, lit<}
use Rattle.std.specs.Prelude.{codes}
use Rattle.std.specs.Fmt.{decimal}
use Rattle.std.proofs.lemmas.Fmt.{decimal_digit}
use Rattle.wi_labels.specs.declared.label.Class.TheVariants.{Mpls, Smpls, Ip}
use Rattle.wi_labels.specs.declared.ops.Op.TheVariants.{Swap, Push, Pop}
use Rattle.wi_net.specs.declared.parts.LinkId.{LinkId}
use Rattle.wi_net.specs.declared.parts.Link.{Link}
use Rattle.wi_net.specs.Net.{Net}
use Rattle.wi_world.specs.declared.run.Step.{Step}
use Rattle.wi_world.specs.Moves.{is_trace}
use Rattle.wi_world.specs.Runs.{links_of, last_header}
use Rattle.wi_plan.specs.declared.plan.Plan.{Plan}
use Rattle.wi_plan.specs.Plans.{IsPlan}
use Rattle.wi_protect.specs.declared.refused.ProtectRefused.TheVariants.{TakenLabel}
use Rattle.wi_protect.specs.Labels.{label_names}
use Rattle.wi_protect.specs.Rows.{label, only, row}
use Rattle.wi_protect.specs.Protected.{protected, header_of}
use Rattle.wi_protect.specs.OneWay.{run_of, failed_of, replaced, rerouted}
use Rattle.wi_protect.specs.Refusals.{fault_of}

one : decimal 1 ≡ codes "1"
one = decimal_digit 1 (lit< tt)

two : decimal 2 ≡ codes "2"
two = decimal_digit 2 (lit< tt)

abbrev l : ℕ → LinkId
l n = record { 0 = n }

abbrev link : ℕ → ℕ → ℕ → ℕ → Link
link n a b d = record { from = record { 0 = a }; out_if = record { 0 = n }; to = record { 0 = b }; in_if = record { 0 = n }; distance = d; risk = l n }

-- links between the routers x, a, b, c, y, r, s and z
abbrev net_of : List (List ℕ) → List Link → Net
net_of names links = record {
  routers = codes "x" ∷ codes "a" ∷ codes "b" ∷ codes "c" ∷ codes "y" ∷ codes "r" ∷ codes "s" ∷ codes "z" ∷ [];
  labels = names;
  classes = Ip ∷ [];
  interfaces = codes "0" ∷ codes "1" ∷ codes "2" ∷ codes "3" ∷ codes "4" ∷ codes "5" ∷ codes "6" ∷ codes "7" ∷ codes "8" ∷ [];
  links = links;
  rows = [];
}

-- x to a, a to b, a to c, c to b, b to y; one label ip1
abbrev small : Net
small = net_of (codes "ip1" ∷ []) (link 0 0 1 1 ∷ link 1 1 2 1 ∷ link 2 1 3 2 ∷ link 3 3 2 2 ∷ link 4 2 4 1 ∷ [])

-- from x to y, with a way around the link from a to b
abbrev small_plan : Plan
small_plan = record {
  paths = record { ip = label 0; links = l 0 ∷ l 1 ∷ l 4 ∷ [] } ∷ [];
  bypasses = record { link = l 1; via = l 2 ∷ l 3 ∷ [] } ∷ [];
}

small_is_plan : IsPlan small small_plan
small_is_plan = record { no_tables = refl; paths = refl; paths_apart = refl; bypasses = refl; bypasses_apart = refl; ends = refl }

small_names : label_names small small_plan ≡ codes "b1.1" ∷ codes "p1.1" ∷ codes "ip1" ∷ []
small_names = rw one refl

small_classes : (protected small small_plan).classes ≡ Mpls ∷ Smpls ∷ Ip ∷ []
small_classes = refl

small_rows : (protected small small_plan).rows ≡
    row (l 0) (label 2) (only (l 1) (Push (label 1) Smpls ∷ []) ∷ only (l 2) (Push (label 1) Smpls ∷ Push (label 0) Mpls ∷ []) ∷ [])
    ∷ row (l 1) (label 1) (only (l 4) (Pop ∷ []) ∷ [])
    ∷ row (l 3) (label 1) (only (l 4) (Pop ∷ []) ∷ [])
    ∷ row (l 2) (label 0) (only (l 3) (Pop ∷ []) ∷ [])
    ∷ []
small_rows = refl

-- the packet's first member of these groups in turn
abbrev steps : List ℕ → List Step
steps [] = []
steps (j ∷ js) = record { group = j; member = 0 } ∷ steps js

-- with nothing failed along the path, and around the link that failed; both end with the first header
small_whole : is_trace (protected small small_plan) [] (run_of (l 0) ((label 2, Ip) ∷ []) (steps (0 ∷ 0 ∷ []))) ≡ true
small_whole = refl

small_around : is_trace (protected small small_plan) (l 1 ∷ []) (run_of (l 0) ((label 2, Ip) ∷ []) (steps (1 ∷ 0 ∷ 0 ∷ []))) ≡ true
small_around = refl

small_detour : links_of (protected small small_plan) (run_of (l 0) ((label 2, Ip) ∷ []) (steps (1 ∷ 0 ∷ 0 ∷ []))) ≡ l 0 ∷ l 2 ∷ l 3 ∷ l 4 ∷ []
small_detour = refl

small_end : last_header (protected small small_plan) (l 0, (label 2, Ip) ∷ []) (steps (1 ∷ 0 ∷ 0 ∷ [])) ≡ (label 2, Ip) ∷ []
small_end = refl

-- where the way around failed too, the packet stays where it is
small_stuck : is_trace (protected small small_plan) (l 1 ∷ l 2 ∷ []) (run_of (l 0) ((label 2, Ip) ∷ []) (steps (1 ∷ []))) ≡ false
small_stuck = refl

-- no name is taken; the name of a new label is, whatever its class
small_free : fault_of small small_plan ≡ None
small_free = refl

bypass_taken : fault_of (record small { labels = codes "b1.1" ∷ [] }) small_plan ≡ Some TakenLabel
bypass_taken = rw one refl

path_taken : fault_of (record small { labels = codes "p1.1" ∷ [] }) small_plan ≡ Some TakenLabel
path_taken = rw one refl

-- numbers begin at 1, and the path has one label
others_free : fault_of (record small { labels = codes "p1.0" ∷ codes "p0.1" ∷ codes "p1.2" ∷ codes "b1.2" ∷ codes "b2.1" ∷ [] }) small_plan ≡ None
others_free = rw one refl

-- the same and y to z, b to r, r to s, s to y
abbrev long : Net
long = net_of (codes "ip1" ∷ []) (link 0 0 1 1 ∷ link 1 1 2 1 ∷ link 2 1 3 2 ∷ link 3 3 2 2 ∷ link 4 2 4 1 ∷ link 5 4 7 1 ∷ link 6 2 5 1 ∷ link 7 5 6 1 ∷ link 8 6 4 1 ∷ [])

-- from x to z, with ways around both inner links
abbrev long_plan : Plan
long_plan = record {
  paths = record { ip = label 0; links = l 0 ∷ l 1 ∷ l 4 ∷ l 5 ∷ [] } ∷ [];
  bypasses = record { link = l 1; via = l 2 ∷ l 3 ∷ [] } ∷ record { link = l 4; via = l 6 ∷ l 7 ∷ l 8 ∷ [] } ∷ [];
}

long_is_plan : IsPlan long long_plan
long_is_plan = record { no_tables = refl; paths = refl; paths_apart = refl; bypasses = refl; bypasses_apart = refl; ends = refl }

long_names : label_names long long_plan ≡ codes "b1.1" ∷ codes "b2.1" ∷ codes "b2.2" ∷ codes "p1.1" ∷ codes "p1.2" ∷ codes "ip1" ∷ []
long_names = rw (one, two) refl

long_rows : (protected long long_plan).rows ≡
    row (l 0) (label 5) (only (l 1) (Push (label 3) Smpls ∷ []) ∷ only (l 2) (Push (label 3) Smpls ∷ Push (label 0) Mpls ∷ []) ∷ [])
    ∷ row (l 1) (label 3) (only (l 4) (Swap (label 4) Smpls ∷ []) ∷ only (l 6) (Swap (label 4) Smpls ∷ Push (label 1) Mpls ∷ []) ∷ [])
    ∷ row (l 3) (label 3) (only (l 4) (Swap (label 4) Smpls ∷ []) ∷ only (l 6) (Swap (label 4) Smpls ∷ Push (label 1) Mpls ∷ []) ∷ [])
    ∷ row (l 4) (label 4) (only (l 5) (Pop ∷ []) ∷ [])
    ∷ row (l 8) (label 4) (only (l 5) (Pop ∷ []) ∷ [])
    ∷ row (l 2) (label 0) (only (l 3) (Pop ∷ []) ∷ [])
    ∷ row (l 6) (label 1) (only (l 7) (Swap (label 2) Mpls ∷ []) ∷ [])
    ∷ row (l 7) (label 2) (only (l 8) (Pop ∷ []) ∷ [])
    ∷ []
long_rows = refl

-- with both inner links failed
long_around : is_trace (protected long long_plan) (l 1 ∷ l 4 ∷ []) (run_of (l 0) (header_of long_plan (record { ip = label 0; links = [] })) (steps (1 ∷ 0 ∷ 1 ∷ 0 ∷ 0 ∷ 0 ∷ []))) ≡ true
long_around = refl

long_detour : links_of (protected long long_plan) (run_of (l 0) ((label 5, Ip) ∷ []) (steps (1 ∷ 0 ∷ 1 ∷ 0 ∷ 0 ∷ 0 ∷ []))) ≡ rerouted long_plan.bypasses (l 1 ∷ l 4 ∷ []) (l 0 ∷ l 1 ∷ l 4 ∷ l 5 ∷ [])
long_detour = refl

long_links : rerouted long_plan.bypasses (l 1 ∷ l 4 ∷ []) (l 0 ∷ l 1 ∷ l 4 ∷ l 5 ∷ []) ≡ l 0 ∷ l 2 ∷ l 3 ∷ l 6 ∷ l 7 ∷ l 8 ∷ l 5 ∷ []
long_links = refl

long_replaced : replaced (l 0 ∷ l 1 ∷ l 4 ∷ l 5 ∷ []) (l 4) (l 6 ∷ l 7 ∷ l 8 ∷ []) ≡ l 0 ∷ l 1 ∷ l 6 ∷ l 7 ∷ l 8 ∷ l 5 ∷ []
long_replaced = refl

long_failed : failed_of (l 0 ∷ l 1 ∷ l 4 ∷ l 5 ∷ []) (l 7 ∷ l 4 ∷ l 2 ∷ []) ≡ l 4 ∷ []
long_failed = refl
