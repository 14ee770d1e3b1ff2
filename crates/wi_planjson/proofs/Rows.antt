-- The definitions computed on a network of two routers and one link.
use Rattle.std.proofs.Common.{◌≡◌, ℕ, [], ◌∷◌, Ok, Err, refl}
use Rattle.std.specs.Prelude.{codes}
use Rattle.std.specs.Fmt.{digits}
use Rattle.serde_json.proofs.OnLiterals.{serde_json_on_literals}
use Rattle.serde_json.specs.Data.{object, null, array, no_items, member, no_members}
use Rattle.wi_labels.specs.declared.label.Class.TheVariants.{Ip}
use Rattle.wi_net.specs.declared.parts.LinkId.{LinkId}
use Rattle.wi_net.specs.declared.parts.NameId.{NameId}
use Rattle.wi_net.specs.declared.parts.RouterId.{RouterId}
use Rattle.wi_net.specs.Net.{Net}
use Rattle.wi_plan.specs.declared.plan.Plan.{Plan}
use Rattle.wi_planjson.specs.declared.refused.Place.TheVariants.{Bypasses}
use Rattle.wi_planjson.specs.declared.refused.PlanRefused.TheVariants.{WrongShape}
use Rattle.wi_planjson.specs.Bypasses.{bypasses_of}
use Rattle.wi_planjson.specs.Plan.{drafted_bypasses_of, draft_of, plan_by}
use Rattle.wi_planjson.specs.Paths.{paths_of}
use Rattle.wi_planjson.specs.Written.{plan_text_of}

abbrev router : ℕ → RouterId
router n = record { 0 = n }

abbrev interface : ℕ → NameId
interface n = record { 0 = n }

abbrev link : ℕ → LinkId
link n = record { 0 = n }

-- a link from x to y
abbrev net : Net
net = record {
  routers = codes "x" ∷ codes "y" ∷ [];
  labels = codes "ip1" ∷ [];
  classes = Ip ∷ [];
  interfaces = codes "o" ∷ codes "i" ∷ [];
  links = record { from = router 0; out_if = interface 0; to = router 1; in_if = interface 1; distance = 7; risk = link 0 } ∷ [];
  rows = [];
}

abbrev nothing : Plan
nothing = record { paths = []; bypasses = [] }

text_without_protection : plan_text_of net nothing (link 0 ∷ [])
    ≡ codes "{\"bypasses\":[],\"format\":\"mpls-whatif-1\",\"labels\":{\"ip\":[\"ip1\"],\"mpls\":[],\"smpls\":[]},\"links\":[{\"distance\":7,\"from\":\"x\",\"in\":\"i\",\"out\":\"o\",\"to\":\"y\"}],\"paths\":[],\"routers\":[\"x\",\"y\"],\"tables\":[],\"unprotected\":[[\"x\",\"o\"]]}"
unfolding plan_text_of serde_json_on_literals digits
text_without_protection = refl

-- bypasses may be left out, and are a list where they are not
left_out : draft_of net (object (member (codes "paths") (array no_items) no_members)) ≡ Ok nothing
unfolding plan_by paths_of drafted_bypasses_of
left_out = refl

no_list : draft_of net (object (member (codes "bypasses") null (member (codes "paths") (array no_items) no_members))) ≡ Err (WrongShape Bypasses)
unfolding plan_by paths_of drafted_bypasses_of bypasses_of
no_list = refl
