-- A packet sets out on the links on which the path lets it.
use Rattle.std.proofs.Common.{◌≡◌, ℕ, suc, ◌+◌, ◌<◌, Bool, true, false, not, List, [], ◌∷◌, ◌++◌, length, map, drop, slice_get, slice_index_or, Option, Some, None, is_some, MatchOption, refl, sym, ap, ◌∙◌, arith, append_assoc, append-nil, add-one}
use Rattle.std.proofs.Math.Path.{fun_ext}
use Rattle.std.proofs.lemmas.Option.{slice_get-get_or}
use Rattle.std.proofs.Math.ListN.{drop_of_length-le}
use Rattle.std.specs.List.{flat_map, range_with_len}
use Rattle.std.specs.Prelude.{if◌then◌else◌}
use Rattle.wi_net.specs.declared.parts.LinkId.{LinkId}
use Rattle.wi_net.specs.LinkSet.{has, links_from}
use Rattle.wi_net.specs.Net.{all_links, links_where}
use Rattle.wi_pds.specs.declared.rule.Word2.TheVariants.{One}
use Rattle.wi_rules.specs.declared.spot.Spot.TheVariants.{OnLink}
use Rattle.wi_rules.specs.declared.spot.Origin.TheVariants.{SetOut}
use Rattle.wi_rules.specs.Rules.{Encoding, SpotRule, set_out_rules}
use Rattle.wi_rules.proofs.Lists.{filter_in, get_in, map_in, range_in}
use Rattle.wi_build.specs.declared.head.Head.{Head}
use Rattle.wi_build.specs.private.First.{are_some, may_set_out, first_links}
use Rattle.wi_build.specs.private.Rows.{rules_for}
use Rattle.wi_build.proofs.HopLemmas.{drop_there}
use Rattle.wi_build.proofs.RowLemmas.{Listing, filtered, rules_append}

-- whether the path goes on by a link, from whether it has a state after that
pub goes_on : (s : Encoding) (e : LinkId) (down some : Bool) (left rest : List ℕ) (first : Option ℕ) → down ≡ has s.bounds.down e → down ≡ false → left ≡ s.path.next 0 e.0
    → MatchOption first ((left ≡ []) × (rest ≡ [])) (λ q. left ≡ q ∷ rest) → some ≡ is_some first → some ≡ may_set_out s e
goes_on s e down some left rest None known up states (gone, _) is = rw (sym known ∙ up, sym states ∙ gone) is
goes_on s e down some left rest (Some q) known up states more is = rw (sym known ∙ up, sym states ∙ more) is

-- on the others none does
set_out_here : (s : Encoding) (n : ℕ) (e : LinkId)
    → (if not (has s.bounds.down e) then set_out_rules s n e else []) ≡ (if may_set_out s e then set_out_rules s n e else [])
set_out_here s n e = go (has s.bounds.down e) (s.path.next 0 e.0)
  where
    rules : List ℕ → List SpotRule
    rules qs = map (λ q. record { to = OnLink e q; word = One (suc n); share = s.first_share e; origin = SetOut e }) qs

    go : (down : Bool) (qs : List ℕ) → (if not down then rules qs else []) ≡ (if (if down then false else are_some qs) then rules qs else [])
    go true qs = refl
    go false [] = refl
    go false (q ∷ qs) = refl

set_out_all : (s : Encoding) (n : ℕ) → flat_map (set_out_rules s n) (links_where s.net (λ e. not (has s.bounds.down e))) ≡ flat_map (set_out_rules s n) (first_links s)
set_out_all s n =
    sym (filtered (λ e. not (has s.bounds.down e)) (set_out_rules s n) (all_links s.net))
    ∙ ap (λ (f : LinkId → List SpotRule). flat_map f (all_links s.net)) (fun_ext (set_out_here s n))
    ∙ filtered (may_set_out s) (set_out_rules s n) (all_links s.net)

-- what is left of them gives what they all give
abbrev pub set_out_left : Encoding → Head → ℕ → Listing → ℕ → Listing
set_out_left s head n rules i = rules ++ rules_for s head (flat_map (set_out_rules s n) (drop i (first_links s)))

pub set_out_more : (s : Encoding) (head : Head) (n : ℕ) (old now new : Listing) (i : ℕ) (e : LinkId) → slice_get (first_links s) i ≡ Some e
    → set_out_left s head n now i ≡ old → new ≡ now ++ rules_for s head (set_out_rules s n e) → set_out_left s head n new (i + 1) ≡ old
set_out_more s head n old now new i e read before step =
    let after : List LinkId = drop (suc i) (first_links s) in
    rw add-one (ap (λ t. t ++ rules_for s head (flat_map (set_out_rules s n) after)) step
    ∙ append_assoc now (rules_for s head (set_out_rules s n e)) (rules_for s head (flat_map (set_out_rules s n) after))
    ∙ ap (λ t. now ++ t) (sym (rules_append s head (set_out_rules s n e) (flat_map (set_out_rules s n) after)) ∙ ap (λ es. rules_for s head (flat_map (set_out_rules s n) es)) (sym (drop_there (first_links s) i e read)))
    ∙ before)

pub set_out_done : (s : Encoding) (head : Head) (n : ℕ) (old now : Listing) (i : ℕ) (links : List LinkId) → links ≡ first_links s → i ≡ length links → set_out_left s head n now i ≡ set_out_left s head n old 0
    → now ≡ old ++ rules_for s head (flat_map (set_out_rules s n) (links_where s.net (λ e. not (has s.bounds.down e))))
set_out_done s head n old now i links is end kept =
    sym (append-nil now)
    ∙ ap (λ es. now ++ rules_for s head (flat_map (set_out_rules s n) es)) (sym (drop_of_length-le (first_links s) (let long : length links ≡ length (first_links s) = ap length is in omega (arith, end, long))))
    ∙ kept
    ∙ ap (λ rs. old ++ rules_for s head rs) (sym (set_out_all s n))

-- what code reads at a place of them
pub first_at : (s : Encoding) (links : List LinkId) (i : ℕ) (d : LinkId) → links ≡ first_links s → i < length links → slice_get (first_links s) i ≡ Some (slice_index_or links i d)
first_at s links i d is lt = ap (λ es. slice_get es i) (sym is) ∙ slice_get-get_or links i d lt

-- each of them is a link
pub first_known : (s : Encoding) (i : ℕ) (e : LinkId) → slice_get (first_links s) i ≡ Some e → e.0 < length s.net.links
first_known s i e read =
    let listed = filter_in (may_set_out s) (links_from 0 (length s.net.links)) e (get_in (first_links s) i e read) in
    let number = map_in (λ i. record { 0 = i }) (range_with_len 0 (length s.net.links)) e listed.0 in
    let below : number.0 < 0 + length s.net.links = range_in 0 (length s.net.links) number.0 number.1 in
    let is : number.0 ≡ e.0 = ap (λ (e : LinkId). e.0) number.2 in
    omega (arith, below, is)
