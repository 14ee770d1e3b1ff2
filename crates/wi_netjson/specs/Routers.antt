-- The routers of a network file.
use Rattle.std.specs.Prelude.{ℕ, length, is_none, codes, Some, Result, Ok}
use Rattle.serde_json.specs.Data.{Data}
use Rattle.serde_json.specs.Find.{get}
use Rattle.wi_net.specs.declared.limits.TheConstants.{ROUTER_LIMIT}
use Rattle.wi_net.specs.Names.{is_name, place}
use Rattle.wi_net.specs.Builder.{◌>>=◌, Draft, with_router, rule}
use Rattle.wi_netjson.specs.declared.fault.Place.TheVariants.{Routers, Router}
use Rattle.wi_netjson.specs.declared.fault.NetFault.{NetFault}
use Rattle.wi_netjson.specs.declared.fault.NetFault.TheVariants.{BadName, RepeatedRouter}
use Rattle.wi_netjson.specs.Reading.{text, list, limited, each}

-- a new name
unfoldable pub router_at : Draft → ℕ → Data → Result Draft NetFault
router_at draft i d = do
  name ← text (Router i) (Some d)
  _ ← rule (BadName (Router i)) (is_name name)
  _ ← rule (RepeatedRouter (Router i)) (is_none (place draft.net.routers name))
  Ok (with_router draft name)

unfoldable pub routers_of : Draft → Data → Result Draft NetFault
routers_of draft file = do
  items ← list Routers (get (codes "routers") file)
  _ ← limited Routers ROUTER_LIMIT (length draft.net.routers) items
  each router_at draft 0 items
