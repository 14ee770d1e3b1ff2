-- Small plans, and what the definitions make of them.
use Rattle.std.proofs.Common.{◌≡◌, ℕ, List, [], ◌∷◌, refl}
use Rattle.std.specs.Prelude.{codes}
use Rattle.wi_labels.specs.declared.label.Class.TheVariants.{Ip}
use Rattle.wi_net.specs.declared.parts.LinkId.{LinkId}
use Rattle.wi_net.specs.declared.parts.Link.{Link}
use Rattle.wi_net.specs.Net.{Net}
use Rattle.wi_plan.specs.declared.plan.Path.{Path}
use Rattle.wi_plan.specs.declared.plan.Bypass.{Bypass}
use Rattle.wi_plan.specs.declared.plan.Plan.{Plan}
use Rattle.wi_plan.specs.Plans.{IsPlan}
use Rattle.wi_bypass.specs.Bypasses.{inner_links, wanting, unprotected, with_found}

abbrev l : ℕ → LinkId
l n = record { 0 = n }

-- the number of a link, the routers that it leads from and to, and the least link of its risk group
abbrev link : ℕ → ℕ → ℕ → ℕ → Link
link n a b risk = record { from = record { 0 = a }; out_if = record { 0 = n }; to = record { 0 = b }; in_if = record { 0 = n }; distance = 1; risk = l risk }

abbrev net_of : List Link → Net
net_of links = record {
  routers = codes "x" ∷ codes "a" ∷ codes "b" ∷ codes "c" ∷ codes "y" ∷ [];
  labels = codes "ip1" ∷ codes "ip2" ∷ [];
  classes = Ip ∷ Ip ∷ [];
  interfaces = codes "0" ∷ codes "1" ∷ codes "2" ∷ codes "3" ∷ codes "4" ∷ [];
  links = links;
  rows = [];
}

-- x to a, a to b, a to c, c to b, b to y; and the same where a to b and a to c lie in one duct
abbrev small : Net
small = net_of (link 0 0 1 0 ∷ link 1 1 2 1 ∷ link 2 1 3 2 ∷ link 3 3 2 3 ∷ link 4 2 4 4 ∷ [])

abbrev duct : Net
duct = net_of (link 0 0 1 0 ∷ link 1 1 2 1 ∷ link 2 1 3 1 ∷ link 3 3 2 3 ∷ link 4 2 4 4 ∷ [])

-- two paths from x over a and b to y, and one from a over c and b to y
abbrev path : ℕ → List LinkId → Path
path ip links = record { ip = record { 0 = ip }; links = links }

abbrev paths : List Path
paths = path 0 (l 0 ∷ l 1 ∷ l 4 ∷ []) ∷ path 1 (l 0 ∷ l 1 ∷ l 4 ∷ []) ∷ path 0 (l 2 ∷ l 3 ∷ l 4 ∷ []) ∷ []

abbrev plan : Plan
plan = record { paths = paths; bypasses = [] }

-- around the link from a to b, over c
abbrev over_c : Bypass
over_c = record { link = l 1; via = l 2 ∷ l 3 ∷ [] }

each_link_once : inner_links paths ≡ l 1 ∷ l 3 ∷ []
each_link_once = refl

all_want_one : wanting plan ≡ l 1 ∷ l 3 ∷ []
all_want_one = refl

one_wants_none : wanting (with_found plan (over_c ∷ [])) ≡ l 3 ∷ []
one_wants_none = refl

with_it_is_plan : IsPlan small (with_found plan (over_c ∷ []))
with_it_is_plan = record { no_tables = refl; paths = refl; paths_apart = refl; bypasses = refl; bypasses_apart = refl; ends = refl }

protected_over_c : unprotected small paths (over_c ∷ []) ≡ l 3 ∷ []
protected_over_c = refl

-- in its own duct the bypass is there, but protects nothing
in_the_duct : unprotected duct paths (over_c ∷ []) ≡ l 1 ∷ l 3 ∷ []
in_the_duct = refl

nothing_left : unprotected small (path 0 (l 0 ∷ l 1 ∷ l 4 ∷ []) ∷ []) (over_c ∷ []) ≡ []
nothing_left = refl
