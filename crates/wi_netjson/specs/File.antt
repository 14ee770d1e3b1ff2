-- What a network file means, or its first fault.
use Rattle.std.specs.Prelude.{ℕ, Bool, true, false, List, length, nat_le, codes, if◌then◌else◌, Option, Some, None, Result, Ok, Err}
use Rattle.std.specs.Str.{bytes_eq, is_utf8}
use Rattle.serde_json.specs.Read.{read}
use Rattle.serde_json.specs.Data.{Data}
use Rattle.serde_json.specs.Find.{get}
use Rattle.wi_net.specs.Net.{Net}
use Rattle.wi_net.specs.Builder.{◌>>=◌, Draft, empty, rule, found_or}
use Rattle.wi_netjson.specs.declared.file.TheConstants.{NETWORK_LIMIT}
use Rattle.wi_netjson.specs.declared.fault.Place.TheVariants.{File, Format}
use Rattle.wi_netjson.specs.declared.fault.NetFault.{NetFault}
use Rattle.wi_netjson.specs.declared.fault.NetFault.TheVariants.{NotJson, UnknownFormat, OverLimit}
use Rattle.wi_netjson.specs.Reading.{text, object}
use Rattle.wi_netjson.specs.Routers.{routers_of}
use Rattle.wi_netjson.specs.Labels.{labels_of}
use Rattle.wi_netjson.specs.Links.{links_of}
use Rattle.wi_netjson.specs.Tables.{tables_of}

-- the value that bytes read as: UTF-8 that is JSON
unfoldable pub json_of : List ℕ → Option Data
json_of bytes = if is_utf8 bytes then read bytes else None

-- whether links of the format name risk groups
unfoldable pub has_groups : Option Data → Result Bool NetFault
has_groups found = do
  format ← text Format found
  if bytes_eq format (codes "mpls-whatif-1") then Ok false else if bytes_eq format (codes "mpls-whatif-2") then Ok true else Err (UnknownFormat Format)

-- a file's parts added to a network
unfoldable pub file_of : Draft → Data → Result Draft NetFault
file_of draft d = do
  file ← object File (Some d)
  groups ← has_groups (get (codes "format") file)
  routers ← routers_of draft file
  labels ← labels_of routers file
  links ← links_of groups labels file
  tables_of links file

abbrev pub few_bytes : List ℕ → Result (Unit {0}) NetFault
few_bytes bytes = rule (OverLimit File NETWORK_LIMIT) (nat_le (length bytes) NETWORK_LIMIT)

-- the network that bytes mean, or their first fault
unfoldable pub network_of : List ℕ → Result Net NetFault
network_of bytes = do
  _ ← few_bytes bytes
  d ← found_or (NotJson File) (json_of bytes)
  draft ← file_of empty d
  Ok draft.net
