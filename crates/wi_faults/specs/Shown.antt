-- How labels, links and headers are written.
use Rattle.std.specs.Prelude.{ℕ, Bool, ◌||◌, List, [], ◌∷◌, ◌++◌, codes, slice_get, slice_index_or, if◌then◌else◌}
use Rattle.std.specs.Option.{option_map_or}
use Rattle.std.specs.Str.{bytes_eq}
use Rattle.wi_labels.specs.declared.label.Label.{Label}
use Rattle.wi_labels.specs.Header.{Entry}
use Rattle.wi_net.specs.declared.parts.LinkId.{LinkId}
use Rattle.wi_net.specs.declared.parts.NameId.{NameId}
use Rattle.wi_net.specs.declared.parts.RouterId.{RouterId}
use Rattle.wi_net.specs.Net.{Net}
use Rattle.wi_world.specs.Moves.{Location}
use Rattle.wi_text.specs.Names.{quoted, shown}

-- the words of the classes
abbrev pub is_class_word : List ℕ → Bool
is_class_word s = bytes_eq s (codes "ip") || (bytes_eq s (codes "mpls") || bytes_eq s (codes "smpls"))

-- a label's name as it is written: between quotation marks where it is the word of a class
abbrev pub label_name_shown : List ℕ → List ℕ
label_name_shown name = if is_class_word name then quoted name else shown name

abbrev pub label_shown : Net → Label → List ℕ
label_shown net l = label_name_shown (slice_index_or net.labels l.0 [])

-- a router, and an interface of it as `A.i`
abbrev pub router_shown : Net → RouterId → List ℕ
router_shown net router = shown (slice_index_or net.routers router.0 [])

abbrev pub end_shown : Net → RouterId → NameId → List ℕ
end_shown net router interface = router_shown net router ++ codes "." ++ shown (slice_index_or net.interfaces interface.0 [])

-- a link as `A.i#B.j`
abbrev pub link_shown : Net → LinkId → List ℕ
link_shown net e = option_map_or (λ l. end_shown net l.from l.out_if ++ codes "#" ++ end_shown net l.to l.in_if) (slice_get net.links e.0) []

-- the interface that a link leaves by
abbrev pub source_shown : Net → LinkId → List ℕ
source_shown net e = option_map_or (λ l. end_shown net l.from l.out_if) (slice_get net.links e.0) []

-- those of links, each with a space behind it
abbrev pub sources_shown : Net → List LinkId → List ℕ
sources_shown net [] = []
sources_shown net (e ∷ es) = source_shown net e ++ codes " " ++ sources_shown net es

-- links with spaces between, or `none`
abbrev pub more_links : Net → List LinkId → List ℕ
more_links net [] = []
more_links net (e ∷ es) = codes " " ++ link_shown net e ++ more_links net es

abbrev pub links_shown : Net → List LinkId → List ℕ
links_shown net [] = codes "none"
links_shown net (e ∷ es) = link_shown net e ++ more_links net es

-- the labels of a header, top first, each after a space
abbrev pub header_shown : Net → List Entry → List ℕ
header_shown net [] = []
header_shown net (label ∷ below) = codes " " ++ label_shown net label.0 ++ header_shown net below

-- a link and the header on it
abbrev pub place_shown : Net → Location → List ℕ
place_shown net at = link_shown net at.0 ++ codes " |" ++ header_shown net at.1
