-- The texts of faults of network files.
use Rattle.std.specs.Prelude.{ℕ, List, [], ◌++◌, codes}
use Rattle.std.specs.Fmt.{decimal}
use Rattle.wi_labels.specs.declared.label.Class.{Class}
use Rattle.wi_labels.specs.declared.label.Class.TheVariants.{Mpls, Smpls, Ip}
use Rattle.wi_netjson.specs.declared.fault.NetFault.{NetFault}
use Rattle.wi_netjson.specs.declared.fault.NetFault.TheVariants as fault
use Rattle.wi_netjson.specs.declared.fault.Place.{Place}
use Rattle.wi_netjson.specs.declared.fault.Place.TheVariants as place
use Rattle.wi_netjson.specs.declared.fault.LinkPart.{LinkPart}
use Rattle.wi_netjson.specs.declared.fault.LinkPart.TheVariants as link
use Rattle.wi_netjson.specs.declared.fault.TablePart.{TablePart}
use Rattle.wi_netjson.specs.declared.fault.TablePart.TheVariants as table
use Rattle.wi_netjson.specs.declared.fault.MemberPart.{MemberPart}
use Rattle.wi_netjson.specs.declared.fault.MemberPart.TheVariants as member

abbrev pub class_word : Class → List ℕ
class_word Mpls = codes "mpls"
class_word Smpls = codes "smpls"
class_word Ip = codes "ip"

abbrev pub link_word : LinkPart → List ℕ
link_word link.From = codes "from"
link_word link.Out = codes "out"
link_word link.To = codes "to"
link_word link.In = codes "in"
link_word link.Distance = codes "distance"
link_word link.Group = codes "group"

abbrev pub table_word : TablePart → List ℕ
table_word table.At = codes "at"
table_word table.In = codes "in"
table_word table.Label = codes "label"
table_word table.Groups = codes "groups"

abbrev pub member_word : MemberPart → List ℕ
member_word member.Out = codes "out"
member_word member.Ops = codes "ops"

-- an element of a list, by its number
abbrev pub element_text : List ℕ → ℕ → List ℕ
element_text list i = list ++ codes "[" ++ decimal i ++ codes "]"

-- a member, by its name
abbrev pub part_text : List ℕ → List ℕ → List ℕ
part_text owner word = owner ++ codes "." ++ word

abbrev pub group_text : ℕ → ℕ → List ℕ
group_text i j = element_text (codes "tables") i ++ element_text (codes ".groups") j

abbrev pub member_text : ℕ → ℕ → ℕ → List ℕ
member_text i j m = group_text i j ++ element_text [] m

-- a place in a network file
abbrev pub place_text : Place → List ℕ
place_text place.File = codes "file"
place_text place.Format = codes "format"
place_text place.Routers = codes "routers"
place_text (place.Router i) = element_text (codes "routers") i
place_text place.Labels = codes "labels"
place_text (place.LabelList class) = part_text (codes "labels") (class_word class)
place_text (place.LabelName class i) = codes "labels." ++ element_text (class_word class) i
place_text place.Links = codes "links"
place_text (place.Link i) = element_text (codes "links") i
place_text (place.LinkPart i part) = element_text (codes "links") i ++ part_text [] (link_word part)
place_text place.Tables = codes "tables"
place_text (place.Table i) = element_text (codes "tables") i
place_text (place.TablePart i part) = element_text (codes "tables") i ++ part_text [] (table_word part)
place_text (place.Group i j) = group_text i j
place_text (place.Member i j m) = member_text i j m
place_text (place.MemberPart i j m part) = member_text i j m ++ part_text [] (member_word part)
place_text (place.Operation i j m o) = member_text i j m ++ element_text (codes ".ops") o

-- a fault with these words at a place
abbrev pub at_text : Place → List ℕ → List ℕ
at_text place words = codes "network: " ++ place_text place ++ codes ": " ++ words ++ codes "\n"

abbrev pub fault_text : NetFault → List ℕ
fault_text fault.Memory = codes "whatif: out of memory\n"
fault_text (fault.NotJson p) = at_text p (codes "not JSON")
fault_text (fault.WrongShape p) = at_text p (codes "wrong shape")
fault_text (fault.UnknownFormat p) = at_text p (codes "unknown format")
fault_text (fault.BadName p) = at_text p (codes "bad name")
fault_text (fault.RepeatedRouter p) = at_text p (codes "repeated router")
fault_text (fault.RepeatedLabel p) = at_text p (codes "repeated label")
fault_text (fault.UnknownRouter p) = at_text p (codes "unknown router")
fault_text (fault.InterfaceTaken p) = at_text p (codes "interface taken")
fault_text (fault.UnknownInterface p) = at_text p (codes "unknown interface")
fault_text (fault.UnknownLabel p) = at_text p (codes "unknown label")
fault_text (fault.RepeatedTable p) = at_text p (codes "repeated table")
fault_text (fault.EmptyGroup p) = at_text p (codes "empty group")
fault_text (fault.BadOperation p) = at_text p (codes "bad operation")
fault_text (fault.OverLimit p limit) = at_text p (codes "over the limit " ++ decimal limit)
fault_text (fault.BadNumber p) = at_text p (codes "bad number")
