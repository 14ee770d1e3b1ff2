-- The value of a plan: it has the members of its network, it is flat, and no float is in it.
use Rattle.std.proofs.Common.{◌≡◌, ◌≤◌, ℕ, false, List, ◌∷◌, [], refl, ap, ◌∙◌, arith}
use Rattle.serde_json.specs.Data.{Data, depth}
use Rattle.serde_json.specs.Read.{max_depth}
use Rattle.serde_json.specs.Written.{has_float, compact_text}
use Rattle.wi_net.specs.declared.parts.LinkId.{LinkId}
use Rattle.wi_net.specs.Net.{Net}
use Rattle.wi_netjson.specs.Written.{list_of, link_data, out_name, row_data}
use Rattle.wi_netjson.proofs.RoundTrip.{HasNetwork, list_flat, names_flat, labels_flat, link_flat, row_flat}
use Rattle.wi_netjson.proofs.TextLemmas.{list_plain, names_plain, labels_plain, link_plain, row_plain}
use Rattle.wi_plan.specs.declared.plan.Path.{Path}
use Rattle.wi_plan.specs.declared.plan.Bypass.{Bypass}
use Rattle.wi_plan.specs.declared.plan.Plan.{Plan}
use Rattle.wi_planjson.specs.Written.{source_name, link_names, bypass_data, path_data, plan_data, plan_text_of}

pub has_network : (net : Net) (plan : Plan) (unprotected : List LinkId) → HasNetwork net (plan_data net plan unprotected)
has_network net plan unprotected = record { shape = refl; format = refl; labels = refl; links = refl; routers = refl; tables = refl }

-- ---- depths

route_flat : (net : Net) (links : List LinkId) → depth (list_of (link_names net) links) ≤ 2
route_flat net links = list_flat (link_names net) links 1 (λ e. names_flat (source_name net e ∷ out_name net e ∷ []))

bypass_flat : (net : Net) (bypass : Bypass) → depth (bypass_data net bypass) ≤ 3
bypass_flat net bypass = let via = route_flat net bypass.via in omega (arith, via)

path_flat : (net : Net) (path : Path) → depth (path_data net path) ≤ 3
path_flat net path = let links = route_flat net path.links in omega (arith, links)

pub plan_flat : (net : Net) (plan : Plan) (unprotected : List LinkId) → depth (plan_data net plan unprotected) ≤ max_depth
plan_flat net plan unprotected =
    let bypasses = list_flat (bypass_data net) plan.bypasses 3 (bypass_flat net) in
    let labels = labels_flat net in
    let links = list_flat (link_data net) net.links 1 (link_flat net) in
    let paths = list_flat (path_data net) plan.paths 3 (path_flat net) in
    let routers = names_flat net.routers in
    let tables = list_flat (row_data net) net.rows 6 (row_flat net) in
    let bare = route_flat net unprotected in
    omega (arith, bypasses, labels, links, paths, routers, tables, bare)

-- ---- floats

route_plain : (net : Net) (links : List LinkId) → has_float (list_of (link_names net) links) ≡ false
route_plain net links = list_plain (link_names net) links (λ e. refl)

bypass_plain : (net : Net) (bypass : Bypass) → has_float (bypass_data net bypass) ≡ false
bypass_plain net bypass = rw (route_plain net bypass.via) refl

path_plain : (net : Net) (path : Path) → has_float (path_data net path) ≡ false
path_plain net path = rw (route_plain net path.links) refl

plan_plain : (net : Net) (plan : Plan) (unprotected : List LinkId) → has_float (plan_data net plan unprotected) ≡ false
plan_plain net plan unprotected =
    rw (
      list_plain (bypass_data net) plan.bypasses (bypass_plain net),
      labels_plain net,
      list_plain (link_data net) net.links (link_plain net),
      list_plain (path_data net) plan.paths (path_plain net),
      names_plain net.routers,
      list_plain (row_data net) net.rows (row_plain net),
      route_plain net unprotected,
    ) refl

-- the compact text of a value that is a plan's is the plan's text
pub text_is : (net : Net) (plan : Plan) (unprotected : List LinkId) (d : Data) (bytes : List ℕ) → d ≡ plan_data net plan unprotected → (has_float d ≡ false → bytes ≡ compact_text d) → bytes ≡ plan_text_of net plan unprotected
unfolding plan_text_of
text_is net plan unprotected d bytes is made = made (ap has_float is ∙ plan_plain net plan unprotected) ∙ ap compact_text is
