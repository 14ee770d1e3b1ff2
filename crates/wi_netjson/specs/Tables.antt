-- The tables of a network file.
use Rattle.std.specs.Prelude.{ℕ, ◌+◌, List, [], ◌∷◌, ◌++◌, length, position, is_none, nat_lt, codes, Some, Result, Ok}
use Rattle.serde_json.specs.Data.{Data}
use Rattle.serde_json.specs.Find.{get}
use Rattle.serde_json.specs.Events.{items_len}
use Rattle.wi_labels.specs.declared.label.Label.{Label as LabelId}
use Rattle.wi_net.specs.declared.limits.TheConstants.{MEMBER_LIMIT, OPERATION_LIMIT, ROW_LIMIT}
use Rattle.wi_net.specs.declared.parts.LinkId.{LinkId}
use Rattle.wi_net.specs.declared.parts.RouterId.{RouterId}
use Rattle.wi_net.specs.declared.parts.Member.{Member as Way}
use Rattle.wi_net.specs.Tables.{is_row, group_members, row_members}
use Rattle.wi_net.specs.Net.{Net}
use Rattle.wi_net.specs.Finding.{find_router, find_label, find_out, find_in}
use Rattle.wi_net.specs.Builder.{◌>>=◌, Draft, with_row, rule, found_or}
use Rattle.wi_netjson.specs.declared.fault.Place.TheVariants.{Tables, Table, TablePart, Group, Member, MemberPart}
use Rattle.wi_netjson.specs.declared.fault.TablePart.TheVariants as table
use Rattle.wi_netjson.specs.declared.fault.MemberPart.TheVariants as way
use Rattle.wi_netjson.specs.declared.fault.NetFault.{NetFault}
use Rattle.wi_netjson.specs.declared.fault.NetFault.TheVariants.{UnknownRouter, UnknownInterface, UnknownLabel, RepeatedTable, EmptyGroup, OverLimit}
use Rattle.wi_netjson.specs.Reading.{text, list, object, limited, each}
use Rattle.wi_netjson.specs.Operations.{operation_at}

-- a way out of a router, where so many members stand before it in the file
unfoldable pub way_at : Net → RouterId → ℕ → ℕ → ℕ → ℕ → Data → Result Way NetFault
way_at net router so_far i j m d = do
  o ← object (Member i j m) (Some d)
  out ← text (MemberPart i j m way.Out) (get (codes "out") o)
  items ← list (MemberPart i j m way.Ops) (get (codes "ops") o)
  _ ← rule (OverLimit (Member i j m) MEMBER_LIMIT) (nat_lt so_far MEMBER_LIMIT)
  link ← found_or (UnknownInterface (MemberPart i j m way.Out)) (find_out net router out)
  _ ← limited (MemberPart i j m way.Ops) OPERATION_LIMIT 0 items
  ops ← each (operation_at net i j m) [] 0 items
  Ok (record { link = link; ops = ops })

-- one more member of a group
abbrev pub member_at : Net → RouterId → ℕ → ℕ → ℕ → List Way → ℕ → Data → Result (List Way) NetFault
member_at net router so_far i j before m d = way_at net router (so_far + length before) i j m d >>= λ member. Ok (before ++ member ∷ [])

-- the members of a group: one at least
unfoldable pub group_members_at : Net → RouterId → ℕ → ℕ → ℕ → Data → Result (List Way) NetFault
group_members_at net router so_far i j d = do
  items ← list (Group i j) (Some d)
  _ ← rule (EmptyGroup (Group i j)) (nat_lt 0 (items_len items))
  each (member_at net router so_far i j) [] 0 items

-- one more group
abbrev pub group_at : Net → RouterId → ℕ → ℕ → List (List Way) → ℕ → Data → Result (List (List Way)) NetFault
group_at net router so_far i before j d = group_members_at net router (so_far + group_members before) i j d >>= λ members. Ok (before ++ members ∷ [])

-- the router, the arrival link and the label of a table
unfoldable pub table_ends : Net → ℕ → List ℕ → List ℕ → List ℕ → Result (RouterId × LinkId × LabelId) NetFault
table_ends net i at into name = do
  router ← found_or (UnknownRouter (TablePart i table.At)) (find_router net at)
  link ← found_or (UnknownInterface (TablePart i table.In)) (find_in net router into)
  label ← found_or (UnknownLabel (TablePart i table.Label)) (find_label net name)
  _ ← rule (RepeatedTable (TablePart i table.Label)) (is_none (position (is_row link label) net.rows))
  Ok (router, link, label)

-- shapes, then ends, then groups
unfoldable pub table_at : Draft → ℕ → Data → Result Draft NetFault
table_at draft i d = do
  o ← object (Table i) (Some d)
  at ← text (TablePart i table.At) (get (codes "at") o)
  into ← text (TablePart i table.In) (get (codes "in") o)
  name ← text (TablePart i table.Label) (get (codes "label") o)
  items ← list (TablePart i table.Groups) (get (codes "groups") o)
  ends ← table_ends draft.net i at into name
  groups ← each (group_at draft.net ends.0 (row_members draft.net.rows) i) [] 0 items
  Ok (with_row draft (record { link = ends.1; label = ends.2; groups = groups }))

unfoldable pub tables_of : Draft → Data → Result Draft NetFault
tables_of draft file = do
  items ← list Tables (get (codes "tables") file)
  _ ← limited Tables ROW_LIMIT (length draft.net.rows) items
  each table_at draft 0 items
