-- The labels of a network file: three lists, one a class.
use Rattle.std.specs.Prelude.{ℕ, length, is_none, codes, Option, Some, Result, Ok}
use Rattle.serde_json.specs.Data.{Data}
use Rattle.serde_json.specs.Find.{get}
use Rattle.wi_labels.specs.declared.label.Class.{Class}
use Rattle.wi_labels.specs.declared.label.Class.TheVariants.{Mpls, Smpls, Ip}
use Rattle.wi_net.specs.declared.limits.TheConstants.{LABEL_LIMIT}
use Rattle.wi_net.specs.Names.{is_name, place}
use Rattle.wi_net.specs.Builder.{◌>>=◌, Draft, with_label, rule}
use Rattle.wi_netjson.specs.declared.fault.Place.TheVariants.{Labels, LabelList, LabelName}
use Rattle.wi_netjson.specs.declared.fault.NetFault.{NetFault}
use Rattle.wi_netjson.specs.declared.fault.NetFault.TheVariants.{BadName, RepeatedLabel}
use Rattle.wi_netjson.specs.Reading.{text, list, object, limited, each}

-- a name that is new over all classes
unfoldable pub label_at : Class → Draft → ℕ → Data → Result Draft NetFault
label_at class draft i d = do
  name ← text (LabelName class i) (Some d)
  _ ← rule (BadName (LabelName class i)) (is_name name)
  _ ← rule (RepeatedLabel (LabelName class i)) (is_none (place draft.net.labels name))
  Ok (with_label draft class name)

-- the labels of a class; with those before they aren't too many
unfoldable pub label_list : Class → Draft → Option Data → Result Draft NetFault
label_list class draft found = do
  items ← list (LabelList class) found
  _ ← limited (LabelList class) LABEL_LIMIT (length draft.net.labels) items
  each (label_at class) draft 0 items

unfoldable pub labels_of : Draft → Data → Result Draft NetFault
labels_of draft file = do
  lists ← object Labels (get (codes "labels") file)
  mpls ← label_list Mpls draft (get (codes "mpls") lists)
  smpls ← label_list Smpls mpls (get (codes "smpls") lists)
  label_list Ip smpls (get (codes "ip") lists)
