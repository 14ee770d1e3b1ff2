-- What the builder refuses, as a fault of the file.
use Rattle.std.specs.Prelude.{ℕ}
use Rattle.wi_labels.specs.declared.label.Class.{Class}
use Rattle.wi_net.specs.declared.refused.BuildRefused.{BuildRefused}
use Rattle.wi_net.specs.declared.refused.BuildRefused.TheVariants as refused
use Rattle.wi_net.specs.declared.refused.Field.TheVariants as field
use Rattle.wi_netjson.specs.declared.fault.Place.TheVariants.{Routers, Router, LabelList, LabelName, Links, LinkPart}
use Rattle.wi_netjson.specs.declared.fault.LinkPart.TheVariants as on
use Rattle.wi_netjson.specs.declared.fault.NetFault.{NetFault}
use Rattle.wi_netjson.specs.declared.fault.NetFault.TheVariants.{Memory, BadName, RepeatedRouter, RepeatedLabel, UnknownRouter, InterfaceTaken, OverLimit}

abbrev pub router_fault : ℕ → BuildRefused → NetFault
router_fault i (refused.BadName part) = BadName (Router i)
router_fault i refused.Repeated = RepeatedRouter (Router i)
router_fault i (refused.Limit what n) = OverLimit Routers n
router_fault i _ = Memory

abbrev pub label_fault : Class → ℕ → BuildRefused → NetFault
label_fault class i (refused.BadName part) = BadName (LabelName class i)
label_fault class i refused.Repeated = RepeatedLabel (LabelName class i)
label_fault class i (refused.Limit what n) = OverLimit (LabelList class) n
label_fault class i _ = Memory

abbrev pub link_fault : ℕ → BuildRefused → NetFault
link_fault i (refused.BadName field.Group) = BadName (LinkPart i on.Group)
link_fault i (refused.BadName field.Out) = BadName (LinkPart i on.Out)
link_fault i (refused.BadName field.In) = BadName (LinkPart i on.In)
link_fault i (refused.Unknown field.From) = UnknownRouter (LinkPart i on.From)
link_fault i (refused.Unknown field.To) = UnknownRouter (LinkPart i on.To)
link_fault i (refused.Taken field.Out) = InterfaceTaken (LinkPart i on.Out)
link_fault i (refused.Taken field.In) = InterfaceTaken (LinkPart i on.In)
link_fault i (refused.Limit what n) = OverLimit Links n
link_fault i _ = Memory
