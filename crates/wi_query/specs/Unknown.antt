-- The names of a query that the network hasn't, from the left.
use Rattle.std.specs.Prelude.{Bool, ◌||◌, is_some, if◌then◌else◌, List, [], ◌∷◌, ◌++◌, ℕ, Option, Some, None}
use Rattle.std.specs.List.{flat_map}
use Rattle.wi_net.specs.declared.parts.RouterId.{RouterId}
use Rattle.wi_net.specs.declared.parts.LinkId.{LinkId}
use Rattle.wi_net.specs.Net.{Net}
use Rattle.wi_net.specs.Finding.{find_label, find_router, find_out, find_in}
use Rattle.wi_syntax.specs.Names.{Named}
use Rattle.wi_syntax.specs.declared.written.LabelAtom.{LabelAtom}
use Rattle.wi_syntax.specs.declared.written.LabelAtom.TheVariants as label
use Rattle.wi_syntax.specs.declared.written.End.{End}
use Rattle.wi_syntax.specs.declared.written.End.TheVariants as end
use Rattle.wi_syntax.specs.declared.written.Pair.{Pair}
use Rattle.wi_syntax.specs.declared.written.LinkAtom.{LinkAtom}
use Rattle.wi_syntax.specs.declared.written.LinkAtom.TheVariants as link
use Rattle.wi_syntax.specs.declared.written.Sign.{Sign}
use Rattle.wi_syntax.specs.declared.written.Sign.TheVariants as sign
use Rattle.wi_syntax.specs.declared.written.Known.{Known}
use Rattle.wi_syntax.specs.declared.written.Written.{Written}
use Rattle.wi_query.specs.Sets.{class_named}
use Rattle.wi_query.specs.Last.{last_signs}

-- what a name is one of
pub data Kind : Type 0 where
  ALabel ARouter AnInterface : Kind

abbrev pub Unknown : Type 0
Unknown = Kind × Named

-- a name, unless it is known
abbrev pub unless : Bool → Kind → Named → List Unknown
unless known kind name = if known then [] else (kind, name) ∷ []

abbrev pub unknown_label : Net → Named → List Unknown
unknown_label net name = unless (is_some (class_named name) || is_some (find_label net name.text)) ALabel name

abbrev pub unknown_in_label_atom : Net → LabelAtom → List Unknown
unknown_in_label_atom net label.Any = []
unknown_in_label_atom net (label.Name name) = unknown_label net name
unknown_in_label_atom net (label.List except names) = flat_map (unknown_label net) names

-- an interface is known if a link leaves, or reaches, its router by it; where the router isn't known, that is told
abbrev pub unknown_in_end : Net → (RouterId → List ℕ → Option LinkId) → End → List Unknown
unknown_in_end net find (end.Any at) = []
unknown_in_end net find (end.Router router) = unless (is_some (find_router net router.text)) ARouter router
unknown_in_end net find (end.Interface router interface) =
    elim (find_router net router.text) [
      | None ↦ (ARouter, router) ∷ []
      | Some id ↦ unless (is_some (find id interface.text)) AnInterface interface
    ]

abbrev pub unknown_in_pair : Net → Pair → List Unknown
unknown_in_pair net pair = unknown_in_end net (find_out net) pair.from ++ unknown_in_end net (find_in net) pair.to

abbrev pub unknown_in_link_atom : Net → LinkAtom → List Unknown
unknown_in_link_atom net link.Any = []
unknown_in_link_atom net (link.List except pairs) = flat_map (unknown_in_pair net) pairs

abbrev pub unknown_in_sign : {A : Type 0} → (A → List Unknown) → Sign A → List Unknown
unknown_in_sign unknown (sign.Atom a) = unknown a
unknown_in_sign unknown s = []

abbrev pub unknown_in_known : Net → Option Known → List Unknown
unknown_in_known net None = []
unknown_in_known net (Some known) = flat_map (unknown_in_pair net) known.pairs

-- all of them, in the order of the text
abbrev pub unknown_in : Net → Written → List Unknown
unknown_in net w =
    flat_map (unknown_in_sign (unknown_in_label_atom net)) w.first ++ (flat_map (unknown_in_sign (unknown_in_link_atom net)) w.path
    ++ (flat_map (unknown_in_sign (unknown_in_label_atom net)) (last_signs w.last) ++ (unknown_in_known net w.down ++ unknown_in_known net w.up)))
