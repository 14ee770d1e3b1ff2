-- Links that are known down or up.
use Rattle.std.proofs.Common.{◌≡◌, List, [], length, map, Option, Some, sym, ap, ◌∙◌}
use Rattle.std.specs.List.{list_any}
use Rattle.std.proofs.lemmas.Bool.{ltb-true}
use Rattle.wi_net.specs.declared.parts.LinkId.{LinkId}
use Rattle.wi_net.specs.Net.{Net, all_links, links_where, widened}
use Rattle.wi_net.proofs.SetLemmas.{has-all_links}
use Rattle.wi_net.proofs.CountLemmas.{filter_same}
use Rattle.wi_syntax.specs.declared.written.Known.{Known}
use Rattle.wi_syntax.specs.declared.written.Pair.{Pair}
use Rattle.wi_query.specs.Sets.{is_link_between}
use Rattle.wi_query.specs.Unknown.{unknown_in_known}
use Rattle.wi_query.specs.Meaning.{known_links}
use Rattle.wi_query.specs.private.Names.{ends_meant, is_between}
use Rattle.wi_query.specs.declared.names.Ends.{Ends}
use Rattle.wi_query.proofs.Marks.{any_between_pairs, pairs_known}

same_links : (net : Net) (pairs : List Pair) (ms : List Ends) → map (ends_meant net) pairs ≡ map Some ms
    → links_where net (λ e. list_any (λ ends. is_between net ends e.0) ms) ≡ links_where net (λ e. list_any (λ pair. is_link_between net pair e.0) pairs)
same_links net pairs ms e = filter_same (λ d. list_any (λ ends. is_between net ends d.0) ms) (λ d. list_any (λ pair. is_link_between net pair d.0) pairs) (all_links net)
    (λ d h. any_between_pairs net pairs ms d.0 (ltb-true d.0 (length net.links) (sym (has-all_links net d) ∙ h)) e)

pub links_known : (net : Net) (known : Option Known) (k : Known) (shown : List Pair) (ms given : List Ends) (links wide : List LinkId) → known ≡ Some k → shown ≡ k.pairs → map (ends_meant net) shown ≡ map Some ms → given ≡ ms
    → links ≡ links_where net (λ e. list_any (λ ends. is_between net ends e.0) given) → wide ≡ widened net links → wide ≡ known_links net known
links_known net known k shown ms given links wide is same found as_given made widens =
    let found_pairs : map (ends_meant net) k.pairs ≡ map Some ms = ap (λ s. map (ends_meant net) s) (sym same) ∙ found in
    rw is (widens ∙ ap (λ s. widened net s) (made ∙ ap (λ g. links_where net (λ e. list_any (λ ends. is_between net ends e.0) g)) as_given ∙ same_links net k.pairs ms found_pairs))

pub known_names : (net : Net) (known : Option Known) (k : Known) (shown : List Pair) (ms : List Ends) → known ≡ Some k → shown ≡ k.pairs → map (ends_meant net) shown ≡ map Some ms → unknown_in_known net known ≡ []
known_names net known k shown ms is same found =
    let found_pairs : map (ends_meant net) k.pairs ≡ map Some ms = ap (λ s. map (ends_meant net) s) (sym same) ∙ found in
    rw is (pairs_known net k.pairs ms found_pairs)
