-- The bypasses of a plan.
use Rattle.std.specs.Prelude.{ℕ, Bool, not, ◌&&◌, ◌==◌, nat_le, List, [], ◌∷◌, ◌++◌, length, position, codes, Option, Result, Ok}
use Rattle.std.specs.List.{list_any}
use Rattle.serde_json.specs.Data.{Data}
use Rattle.serde_json.specs.Find.{get}
use Rattle.wi_net.specs.declared.parts.LinkId.{LinkId}
use Rattle.wi_net.specs.Net.{Net}
use Rattle.wi_net.specs.Builder.{◌>>=◌, rule, found_or}
use Rattle.wi_plan.specs.declared.plan.Bypass.{Bypass}
use Rattle.wi_plan.specs.Plans.{is_joined, is_around}
use Rattle.wi_planjson.specs.declared.refused.Place.TheVariants.{Bypasses, Bypass as BypassAt, BypassLink, BypassVia, ViaLink}
use Rattle.wi_planjson.specs.declared.refused.PlanRefused.{PlanRefused}
use Rattle.wi_planjson.specs.declared.refused.PlanRefused.TheVariants.{Unknown, TooShort, Broken, Repeated}
use Rattle.wi_planjson.specs.Reading.{list, object, each, nowhere}
use Rattle.wi_planjson.specs.Names.{named, link_of, are_named, links_in}

-- a bypass is of this link
abbrev pub is_bypassed : List Bypass → LinkId → Bool
is_bypassed bypasses e = list_any (λ (other : Bypass). other.link.0 == e.0) bypasses

-- the first place of a link in a list
abbrev pub place_of : LinkId → List LinkId → Option ℕ
place_of e via = position (λ (v : LinkId). v.0 == e.0) via

-- what is asked of a bypass of known links, after those before it
unfoldable pub bypass_rules : Net → List Bypass → ℕ → Bypass → Result (Unit {0}) PlanRefused
bypass_rules net bypasses i bypass = do
  _ ← rule (TooShort (BypassVia i)) (nat_le 1 (length bypass.via))
  _ ← rule (Broken (BypassVia i)) (is_joined net bypass.via && is_around net bypass.link bypass.via)
  _ ← rule (Repeated (BypassLink i)) (not (is_bypassed bypasses bypass.link))
  nowhere (λ j. Repeated (ViaLink i j)) (place_of bypass.link bypass.via)

-- the bypass that a value names: all shapes first, then the names
unfoldable pub bypass_of : Net → ℕ → Data → Result Bypass PlanRefused
bypass_of net i d = do
  o ← object (BypassAt i) d
  value ← named (BypassLink i) (get (codes "link") o)
  items ← list (BypassVia i) (get (codes "via") o)
  _ ← are_named (ViaLink i) items
  link ← found_or (Unknown (BypassLink i)) (link_of net value)
  via ← links_in net (ViaLink i) items
  Ok (record { link = link; via = via })

-- one more bypass
unfoldable pub bypass_at : Net → List Bypass → ℕ → Data → Result (List Bypass) PlanRefused
bypass_at net bypasses i d = do
  bypass ← bypass_of net i d
  _ ← bypass_rules net bypasses i bypass
  Ok (bypasses ++ bypass ∷ [])

unfoldable pub bypasses_of : Net → Data → Result (List Bypass) PlanRefused
bypasses_of net d = do
  items ← list Bypasses (get (codes "bypasses") d)
  each (bypass_at net) [] 0 items
