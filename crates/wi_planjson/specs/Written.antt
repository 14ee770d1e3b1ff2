-- The text of a plan: of its network's members, and between them those of the plan and the links without protection.
use Rattle.std.specs.Prelude.{ℕ, List, [], ◌∷◌, slice_get, unwrap_or, option_map, codes}
use Rattle.serde_json.specs.Data.{Data, string, object, member, no_members}
use Rattle.serde_json.specs.Written.{compact_text}
use Rattle.wi_net.specs.declared.parts.Link.{Link}
use Rattle.wi_net.specs.declared.parts.LinkId.{LinkId}
use Rattle.wi_net.specs.Net.{Net}
use Rattle.wi_netjson.specs.Written.{name_at, list_of, labels_data, link_data, out_name, label_name, row_data, format_of}
use Rattle.wi_plan.specs.declared.plan.Path.{Path}
use Rattle.wi_plan.specs.declared.plan.Bypass.{Bypass}
use Rattle.wi_plan.specs.declared.plan.Plan.{Plan}

-- the name of the router that a link leaves
abbrev pub source_name : Net → LinkId → List ℕ
source_name net e = unwrap_or (option_map (λ (l : Link). name_at net.routers l.from.0) (slice_get net.links e.0)) []

-- a link: the names of its router and out interface
abbrev pub link_names : Net → LinkId → Data
link_names net e = list_of string (source_name net e ∷ out_name net e ∷ [])

abbrev pub bypass_data : Net → Bypass → Data
bypass_data net bypass = object (member (codes "link") (link_names net bypass.link) (member (codes "via") (list_of (link_names net) bypass.via) no_members))

abbrev pub path_data : Net → Path → Data
path_data net path = object (member (codes "ip") (string (label_name net path.ip)) (member (codes "links") (list_of (link_names net) path.links) no_members))

-- the members in the order of their names
abbrev pub plan_data : Net → Plan → List LinkId → Data
plan_data net plan unprotected =
    object (member (codes "bypasses") (list_of (bypass_data net) plan.bypasses)
    (member (codes "format") (string (format_of net))
    (member (codes "labels") (labels_data net)
    (member (codes "links") (list_of (link_data net) net.links)
    (member (codes "paths") (list_of (path_data net) plan.paths)
    (member (codes "routers") (list_of string net.routers)
    (member (codes "tables") (list_of (row_data net) net.rows)
    (member (codes "unprotected") (list_of (link_names net) unprotected) no_members))))))))

-- the compact text of that value
unfoldable pub plan_text_of : Net → Plan → List LinkId → List ℕ
plan_text_of net plan unprotected = compact_text (plan_data net plan unprotected)
