-- Scripts whose links and labels are a network's.
use Rattle.std.specs.Prelude.{◌≡◌, Bool, true}
use Rattle.std.specs.List.{list_all}
use Rattle.wi_net.specs.Net.{Net, is_link, labels_known}
use Rattle.wi_labels.specs.Header.{is_valid_header}
use Rattle.wi_world.specs.declared.world.Event.{Event}
use Rattle.wi_world.specs.declared.world.Event.TheVariants.{Fail, Repair, Hop}
use Rattle.wi_script.specs.declared.script.Script.{Script}

-- the link of an event is the network's. Steps may name anything
abbrev pub is_known_event : Net → Event → Bool
is_known_event net (Fail e) = is_link net e
is_known_event net (Repair e) = is_link net e
is_known_event net (Hop step) = true

-- the first link is the network's, the header is a valid one of its labels, and so are the links of the events
pub record IsScriptOf (net : Net) (script : Script) : Type 0 where
  pub link : is_link net script.first ≡ true
  pub valid : is_valid_header script.header ≡ true
  pub labels : labels_known net script.header ≡ true
  pub events : list_all (is_known_event net) script.events ≡ true
