-- The links of a network file.
use Rattle.std.specs.Prelude.{ℕ, Bool, true, false, List, length, is_none, codes, Option, Some, None, Result, Ok}
use Rattle.serde_json.specs.Data.{Data}
use Rattle.serde_json.specs.Find.{get}
use Rattle.wi_net.specs.declared.limits.TheConstants.{LINK_LIMIT}
use Rattle.wi_net.specs.Names.{is_name}
use Rattle.wi_net.specs.Finding.{find_router, find_out, find_in}
use Rattle.wi_net.specs.Builder.{◌>>=◌, Draft, with_new_link, is_group_name, rule, found_or}
use Rattle.wi_netjson.specs.declared.fault.Place.TheVariants.{Links, Link, LinkPart}
use Rattle.wi_netjson.specs.declared.fault.LinkPart.TheVariants as on
use Rattle.wi_netjson.specs.declared.fault.NetFault.{NetFault}
use Rattle.wi_netjson.specs.declared.fault.NetFault.TheVariants.{BadName, UnknownRouter, InterfaceTaken}
use Rattle.wi_netjson.specs.Reading.{text, list, object, limited, whole, optional_text, each}

-- the name of a link's risk group, in a file that has such
abbrev pub group_name_at : Bool → ℕ → Data → Result (Option (List ℕ)) NetFault
group_name_at false i o = Ok None
group_name_at true i o = optional_text (LinkPart i on.Group) (get (codes "group") o)

-- a link by names: routers that are there, interfaces that are free
unfoldable pub link_rules : Draft → ℕ → List ℕ → List ℕ → List ℕ → List ℕ → ℕ → Option (List ℕ) → Result Draft NetFault
link_rules draft i from out to into distance group = do
  _ ← rule (BadName (LinkPart i on.Group)) (is_group_name group)
  _ ← rule (BadName (LinkPart i on.Out)) (is_name out)
  _ ← rule (BadName (LinkPart i on.In)) (is_name into)
  f ← found_or (UnknownRouter (LinkPart i on.From)) (find_router draft.net from)
  t ← found_or (UnknownRouter (LinkPart i on.To)) (find_router draft.net to)
  _ ← rule (InterfaceTaken (LinkPart i on.Out)) (is_none (find_out draft.net f out))
  _ ← rule (InterfaceTaken (LinkPart i on.In)) (is_none (find_in draft.net t into))
  Ok (with_new_link draft f out t into distance group)

-- shapes first, then the rules
unfoldable pub link_at : Bool → Draft → ℕ → Data → Result Draft NetFault
link_at has_groups draft i d = do
  o ← object (Link i) (Some d)
  from ← text (LinkPart i on.From) (get (codes "from") o)
  out ← text (LinkPart i on.Out) (get (codes "out") o)
  to ← text (LinkPart i on.To) (get (codes "to") o)
  into ← text (LinkPart i on.In) (get (codes "in") o)
  distance ← whole (LinkPart i on.Distance) (get (codes "distance") o)
  group ← group_name_at has_groups i o
  link_rules draft i from out to into distance group

unfoldable pub links_of : Bool → Draft → Data → Result Draft NetFault
links_of has_groups draft file = do
  items ← list Links (get (codes "links") file)
  _ ← limited Links LINK_LIMIT (length draft.net.links) items
  each (link_at has_groups) draft 0 items
