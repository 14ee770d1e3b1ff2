-- Links and labels by their names.
use Rattle.std.specs.Prelude.{ℕ, List, [], ◌∷◌, ◌++◌, Option, Some, None, Result, Ok, is_some, option_and_then, if◌then◌else◌}
use Rattle.serde_json.specs.Data.{Data, Items, no_items, item}
use Rattle.serde_json.specs.Find.{as_str, as_array}
use Rattle.wi_labels.specs.declared.label.Class.TheVariants.{Ip}
use Rattle.wi_labels.specs.declared.label.Label.{Label}
use Rattle.wi_net.specs.declared.parts.LinkId.{LinkId}
use Rattle.wi_net.specs.Net.{Net, label_known}
use Rattle.wi_net.specs.Finding.{find_router, find_label, find_out}
use Rattle.wi_net.specs.Builder.{◌>>=◌, rule, found_or}
use Rattle.wi_planjson.specs.declared.refused.Place.{Place}
use Rattle.wi_planjson.specs.declared.refused.PlanRefused.{PlanRefused}
use Rattle.wi_planjson.specs.declared.refused.PlanRefused.TheVariants.{WrongShape, Unknown}
use Rattle.wi_planjson.specs.Reading.{each}

abbrev pub both : Option (List ℕ) → Option (List ℕ) → Option (List ℕ × List ℕ)
both (Some first) (Some second) = Some (first, second)
both _ _ = None

abbrev pub two_texts : Option Items → Option (List ℕ × List ℕ)
two_texts (Some (item first (item second no_items))) = both (as_str first) (as_str second)
two_texts _ = None

-- a router and its out interface: a list of exactly two texts
abbrev pub names_of : Data → Option (List ℕ × List ℕ)
names_of d = two_texts (as_array d)

-- the value at a place, if it is of that form
abbrev pub named : Place → Option Data → Result Data PlanRefused
named place found = found_or (WrongShape place) (option_and_then (λ d. if is_some (names_of d) then Some d else None) found)

-- the link that leaves a router of the name by an interface of the name
abbrev pub link_of : Net → Data → Option LinkId
link_of net d = option_and_then (λ (n : List ℕ × List ℕ). option_and_then (λ r. find_out net r n.1) (find_router net n.0)) (names_of d)

-- the label of a name, where it is one of class ip
abbrev pub ip_of : Net → List ℕ → Option Label
ip_of net name = option_and_then (λ l. if label_known net.classes (l, Ip) then Some l else None) (find_label net name)

-- each element is a list of two texts
abbrev pub named_at : (ℕ → Place) → Unit {0} → ℕ → Data → Result (Unit {0}) PlanRefused
named_at place _ j d = rule (WrongShape (place j)) (is_some (names_of d))

abbrev pub are_named : (ℕ → Place) → Items → Result (Unit {0}) PlanRefused
are_named place items = each (named_at place) tt 0 items

-- and the links that they name
abbrev pub link_at : Net → (ℕ → Place) → List LinkId → ℕ → Data → Result (List LinkId) PlanRefused
link_at net place before j d = found_or (Unknown (place j)) (link_of net d) >>= λ e. Ok (before ++ e ∷ [])

abbrev pub links_in : Net → (ℕ → Place) → Items → Result (List LinkId) PlanRefused
links_in net place items = each (link_at net place) [] 0 items
