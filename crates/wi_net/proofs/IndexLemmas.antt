-- The index from a risk group to its links.
use Rattle.std.proofs.Common.{◌≡◌, ℕ, zero, suc, ◌+◌, ◌<◌, ◌≤◌, Bool, true, false, ◌&&◌, ◌||◌, nat_eq, nat_lt, List, [], ◌∷◌, ◌++◌, length, map, slice_get, slice_set, Some, None, refl, arith, ap, sym, ◌∙◌}
use Rattle.std.proofs.lemmas.Bool.{eq-eqb, ne_eqb, ltb-true, ltb-false, lt-ltb, le-ltb, and_parts}
use Rattle.std.proofs.lemmas.Bool.Decides.{nat_tests}
use Rattle.std.specs.List.{filter, list_any, list_all, range_with_len}
use Rattle.std.specs.Option.{option_map_or}
use Rattle.wi_net.specs.declared.parts.LinkId.{LinkId}
use Rattle.wi_net.specs.declared.parts.Link.{Link}
use Rattle.wi_net.specs.LinkSet.{has, is_rising, with_link, links_from, numbers_where, risk_in}
use Rattle.wi_net.specs.private.LinkSet.{sharing}
use Rattle.wi_net.specs.RiskGroups.{union}
use Rattle.wi_net.specs.private.RiskGroups.{named_by, gathered}
use Rattle.wi_net.specs.private.Network.{groups_of}
use Rattle.wi_net.proofs.SetLemmas.{has-filter, has-links_from, lt_zero_plus, same_link, all_from}
use Rattle.wi_net.proofs.RisingLemmas.{rising_same, filter_rising}
use Rattle.wi_net.proofs.WidenLemmas.{filter_yes, filter_no, links_rising, has-union, union_keeps_rising}

abbrev in_group : List Link → LinkId → LinkId → Bool
in_group links r e = nat_eq (risk_in links e).0 r.0

-- of the first links those of each risk group, for so many groups
abbrev pub shared_among : List Link → ℕ → ℕ → List (List LinkId)
shared_among links i n = map (λ r. filter (λ e. nat_eq (risk_in links e).0 r.0) (links_from 0 i)) (links_from 0 n)

-- of no links
none_shared : (links : List Link) (at n : ℕ) → map (λ (i : ℕ). []) (range_with_len at n) ≡ map (λ r. filter (in_group links r) (links_from 0 0)) (links_from at n)
none_shared links at zero = refl
none_shared links at (suc n) = ap (λ t. [] ∷ t) (none_shared links (at + 1) n)

pub shared_first : (links : List Link) (n : ℕ) → map (λ (i : ℕ). []) (range_with_len 0 n) ≡ shared_among links 0 n
shared_first links n = none_shared links 0 n

-- a link above those of a set goes last
pub with_last : (s : List LinkId) (e : LinkId) → list_all (λ (x : LinkId). nat_lt x.0 e.0) s ≡ true → with_link s e ≡ s ++ e ∷ []
with_last [] e h = refl
with_last (x ∷ s) e h =
    let parts = and_parts (nat_lt x.0 e.0) (list_all (λ (y : LinkId). nat_lt y.0 e.0) s) h in
    let low : x.0 < e.0 = ltb-true x.0 e.0 parts.0 in
    let no_less : nat_lt e.0 x.0 ≡ false = le-ltb e.0 x.0 (omega arith) in
    let other : nat_eq x.0 e.0 ≡ false = ne_eqb x.0 e.0 (λ same. absurd (omega arith)) in
    rw (no_less, other) (ap (λ t. x ∷ t) (with_last s e parts.1))

-- the links before one lie below it
below_last : (p : LinkId → Bool) (i : ℕ) (e : LinkId) → e.0 ≡ i → list_all (λ (x : LinkId). nat_lt x.0 e.0) (filter p (links_from 0 i)) ≡ true
below_last p i e is = all_from (λ (x : LinkId). nat_lt x.0 e.0) (filter p (links_from 0 i)) each
  where
    each : (x : LinkId) → has (filter p (links_from 0 i)) x ≡ true → nat_lt x.0 e.0 ≡ true
    each x h =
        let parts = and_parts (has (links_from 0 i) x) (p x) (sym (has-filter p (links_from 0 i) x) ∙ h) in
        let range : nat_lt x.0 i ≡ true = sym (lt_zero_plus x.0 i) ∙ sym (has-links_from 0 i x) ∙ parts.0 in
        rw is range

-- one link more goes into the group that it names, and into no other
group_next : (links : List Link) (i : ℕ) (e r : LinkId) → e.0 ≡ i → nat_eq (risk_in links e).0 r.0 ≡ true → filter (in_group links r) (links_from 0 (i + 1)) ≡ with_link (filter (in_group links r) (links_from 0 i)) e
group_next links i e r is same = filter_yes (in_group links r) i e is same ∙ sym (with_last (filter (in_group links r) (links_from 0 i)) e (below_last (in_group links r) i e is))

group_other : (links : List Link) (i : ℕ) (e r : LinkId) → e.0 ≡ i → nat_eq (risk_in links e).0 r.0 ≡ false → filter (in_group links r) (links_from 0 (i + 1)) ≡ filter (in_group links r) (links_from 0 i)
group_other links i e r is other = filter_no (in_group links r) i e is other

-- what stands in a list over numbered links
get_from : (f : LinkId → List LinkId) (at n k : ℕ) (r : LinkId) → k < n → r.0 ≡ at + k → slice_get (map f (links_from at n)) k ≡ Some (f r)
get_from f at zero k r lt is = absurd (omega arith)
get_from f at (suc n) zero r lt is =
    let here : LinkId = record { 0 = at } in
    let same : here ≡ r = same_link here r (eq-eqb at r.0 (omega arith)) in
    rw same refl
get_from f at (suc n) (suc k) r lt is = get_from f (at + 1) n k r (omega arith) (omega arith)

get_past : (f : LinkId → List LinkId) (at n k : ℕ) → n ≤ k → slice_get (map f (links_from at n)) k ≡ None
get_past f at zero zero le = refl
get_past f at zero (suc k) le = refl
get_past f at (suc n) zero le = absurd (omega arith)
get_past f at (suc n) (suc k) le = get_past f (at + 1) n k (omega arith)

map_after : (f g : LinkId → List LinkId) (r : LinkId) (at n : ℕ) → r.0 < at → ((x : LinkId) → nat_eq r.0 x.0 ≡ false → g x ≡ f x) → map f (links_from at n) ≡ map g (links_from at n)
map_after f g r at zero lt same = refl
map_after f g r at (suc n) lt same =
    let other : nat_eq r.0 at ≡ false = ne_eqb r.0 at (λ e. absurd (omega arith)) in
    let here : LinkId = record { 0 = at } in
    rw (same here other) (ap (λ t. f here ∷ t) (map_after f g r (at + 1) n (omega arith) same))

-- a list over numbered links with one place changed
set_from : (f g : LinkId → List LinkId) (r : LinkId) (at n k : ℕ) → k < n → r.0 ≡ at + k → ((x : LinkId) → nat_eq r.0 x.0 ≡ false → g x ≡ f x) → slice_set (map f (links_from at n)) k (g r) ≡ map g (links_from at n)
set_from f g r at zero k lt is same = absurd (omega arith)
set_from f g r at (suc n) zero lt is same =
    let here : LinkId = record { 0 = at } in
    let e : here ≡ r = same_link here r (eq-eqb at r.0 (omega arith)) in
    rw e (ap (λ t. g r ∷ t) (map_after f g r (at + 1) n (omega arith) same))
set_from f g r at (suc n) (suc k) lt is same =
    let here : LinkId = record { 0 = at } in
    let other : nat_eq r.0 at ≡ false = ne_eqb r.0 at (λ e. absurd (omega arith)) in
    rw (same here other) (ap (λ t. f here ∷ t) (set_from f g r (at + 1) n k (omega arith) (omega arith) same))

-- one link more in the index
pub shared_next : (links : List Link) (i n : ℕ) (e r : LinkId) → e.0 ≡ i → r.0 < n → risk_in links e ≡ r → slice_set (shared_among links i n) r.0 (with_link (named_by (shared_among links i n) r) e) ≡ shared_among links (i + 1) n
shared_next links i n e r is lt risk =
    rw (get_from old 0 n r.0 r lt (omega arith), sym (group_next links i e r is here))
    (set_from old new r 0 n r.0 lt (omega arith) others)
  where
    old : LinkId → List LinkId
    old = λ x. filter (in_group links x) (links_from 0 i)

    new : LinkId → List LinkId
    new = λ x. filter (in_group links x) (links_from 0 (i + 1))

    here : nat_eq (risk_in links e).0 r.0 ≡ true
    here = eq-eqb (risk_in links e).0 r.0 (ap (λ (x : LinkId). x.0) risk)

    others : (x : LinkId) → nat_eq r.0 x.0 ≡ false → filter (in_group links x) (links_from 0 (i + 1)) ≡ filter (in_group links x) (links_from 0 i)
    others x other = group_other links i e x is (rw risk other)

-- what the index has for a link
named_is : (links : List Link) (r : LinkId) → r.0 < length links → named_by (groups_of links) r ≡ sharing links r
named_is links r lt = rw (get_from (λ x. sharing links x) 0 (length links) r.0 r lt (omega arith)) refl

named_past : (links : List Link) (r : LinkId) → length links ≤ r.0 → named_by (groups_of links) r ≡ []
named_past links r le = rw (get_past (λ x. sharing links x) 0 (length links) r.0 le) refl

-- a link's risk group is named by a link that is there
risk_within : (links : List Link) (n : ℕ) (e : LinkId) → list_all (λ (l : Link). nat_lt l.risk.0 n) links ≡ true → nat_lt e.0 (length links) ≡ true → nat_lt (risk_in links e).0 n ≡ true
risk_within links n e all known = go links e.0 all (ltb-true e.0 (length links) known) (λ l. nat_lt l.risk.0 n)
  where
    go : (ls : List Link) (i : ℕ) → list_all (λ (l : Link). nat_lt l.risk.0 n) ls ≡ true → i < length ls → (Link → Bool) → nat_lt (option_map_or (λ (l : Link). l.risk) (slice_get ls i) e).0 n ≡ true
    go [] i a lt p = absurd (omega arith)
    go (l ∷ ls) zero a lt p = (and_parts (nat_lt l.risk.0 n) (list_all (λ (l : Link). nat_lt l.risk.0 n) ls) a).0
    go (l ∷ ls) (suc i) a lt p = go ls i ((and_parts (nat_lt l.risk.0 n) (list_all (λ (l : Link). nat_lt l.risk.0 n) ls) a).1) (omega arith) p

-- a link is among those of a group exactly where it is there and names it
has-named : (links : List Link) (r e : LinkId) → list_all (λ (l : Link). nat_lt l.risk.0 (length links)) links ≡ true → has (named_by (groups_of links) r) e ≡ (nat_lt e.0 (length links) && nat_eq (risk_in links e).0 r.0)
has-named links r e within = go (nat_lt r.0 (length links)) refl
  where
    listed : has (sharing links r) e ≡ (nat_lt e.0 (length links) && nat_eq (risk_in links e).0 r.0)
    listed = has-filter (in_group links r) (links_from 0 (length links)) e ∙ ap (λ b. b && nat_eq (risk_in links e).0 r.0) (has-links_from 0 (length links) e ∙ lt_zero_plus e.0 (length links))

    go : (b : Bool) → nat_lt r.0 (length links) ≡ b → has (named_by (groups_of links) r) e ≡ (nat_lt e.0 (length links) && nat_eq (risk_in links e).0 r.0)
    go true b = rw (named_is links r (ltb-true r.0 (length links) b)) listed
    go false b = rw (named_past links r (ltb-false r.0 (length links) b)) (none (nat_lt e.0 (length links)) refl)
      where
        none : (k : Bool) → nat_lt e.0 (length links) ≡ k → false ≡ (nat_lt e.0 (length links) && nat_eq (risk_in links e).0 r.0)
        none false k = rw k refl
        none true k =
            let low = ltb-true (risk_in links e).0 (length links) (risk_within links (length links) e within k) in
            let high = ltb-false r.0 (length links) b in
            rw (k, ne_eqb (risk_in links e).0 r.0 (λ same. absurd (omega arith))) refl

-- a link is in what is gathered where it was there, or one of the groups has it
has-gathered : (index : List (List LinkId)) (s rs : List LinkId) (e : LinkId) → has (gathered index s rs) e ≡ (has s e || list_any (λ r. has (named_by index r) e) rs)
has-gathered index s [] e = or_nothing (has s e)
  where
    or_nothing : (b : Bool) → b ≡ (b || false)
    or_nothing true = refl
    or_nothing false = refl
has-gathered index s (r ∷ rs) e =
    has-gathered index (union s (named_by index r)) rs e
    ∙ ap (λ b. b || list_any (λ x. has (named_by index x) e) rs) (has-union s (named_by index r) e)
    ∙ sym (or_group (has s e) (has (named_by index r) e) (list_any (λ x. has (named_by index x) e) rs))
  where
    or_group : (a b c : Bool) → (a || (b || c)) ≡ ((a || b) || c)
    or_group true b c = refl
    or_group false b c = refl

gathered_rising : (index : List (List LinkId)) (s rs : List LinkId) → is_rising s ≡ true → is_rising (gathered index s rs) ≡ true
gathered_rising index s [] h = h
gathered_rising index s (r ∷ rs) h = gathered_rising index (union s (named_by index r)) rs (union_keeps_rising s (named_by index r) h)

any_named : (links : List Link) (rs : List LinkId) (e : LinkId) → list_all (λ (l : Link). nat_lt l.risk.0 (length links)) links ≡ true → list_any (λ r. has (named_by (groups_of links) r) e) rs ≡ (nat_lt e.0 (length links) && has rs (risk_in links e))
any_named links [] e within = and_nothing (nat_lt e.0 (length links))
  where
    and_nothing : (b : Bool) → false ≡ (b && false)
    and_nothing true = refl
    and_nothing false = refl
any_named links (r ∷ rs) e within = rw (has-named links r e within, any_named links rs e within) (spread (nat_lt e.0 (length links)) (nat_eq (risk_in links e).0 r.0) (has rs (risk_in links e)) ∙ ap (λ b. nat_lt e.0 (length links) && (b || has rs (risk_in links e))) (flip (risk_in links e).0 r.0))
  where
    spread : (k a b : Bool) → ((k && a) || (k && b)) ≡ (k && (a || b))
    spread true a b = refl
    spread false a b = refl

    flip : (m n : ℕ) → nat_eq m n ≡ nat_eq n m
    flip m n = grind (arith, nat_tests)

-- the groups with these names make the links whose risk group is one of them
pub gathered_is : (links : List Link) (rs : List LinkId) → list_all (λ (l : Link). nat_lt l.risk.0 (length links)) links ≡ true → gathered (groups_of links) [] rs ≡ numbers_where links (λ e. has rs (risk_in links e))
gathered_is links rs within =
    rising_same (gathered (groups_of links) [] rs) (numbers_where links (λ e. has rs (risk_in links e)))
    (gathered_rising (groups_of links) [] rs refl)
    (filter_rising (λ e. has rs (risk_in links e)) (links_from 0 (length links)) (links_rising 0 (length links)))
    (λ e. has-gathered (groups_of links) [] rs e ∙ any_named links rs e within ∙ sym (has-filter (λ x. has rs (risk_in links x)) (links_from 0 (length links)) e ∙ ap (λ b. b && has rs (risk_in links e)) (has-links_from 0 (length links) e ∙ lt_zero_plus e.0 (length links))))

-- what an index gathers for risk groups, by whichever way they are told
pub union_is : (links : List Link) (index : List (List LinkId)) (rs risks : List LinkId) → index ≡ groups_of links → list_all (λ (l : Link). nat_lt l.risk.0 (length links)) links ≡ true → rs ≡ risks
    → gathered index [] rs ≡ numbers_where links (λ e. has risks (risk_in links e))
union_is links index rs risks index_is within is = ap (λ (i : List (List LinkId)). gathered i [] rs) index_is ∙ ap (λ (r : List LinkId). gathered (groups_of links) [] r) is ∙ gathered_is links risks within

pub shared_count : (links : List Link) (i n : ℕ) → length (shared_among links i n) ≡ n
shared_count links i n = count 0 n
  where
    count : (at n : ℕ) → length (map (λ r. filter (in_group links r) (links_from 0 i)) (links_from at n)) ≡ n
    count at zero = refl
    count at (suc n) = ap suc (count (at + 1) n)

-- the group that a link names has a place in the index
pub risk_place : (links : List Link) (i : ℕ) (e r : LinkId) (groups : List (List LinkId)) → list_all (λ (l : Link). nat_lt l.risk.0 (length links)) links ≡ true → e.0 < length links → r ≡ risk_in links e → groups ≡ shared_among links i (length links) → r.0 < length groups
risk_place links i e r groups within lt is index =
    let low = ltb-true (risk_in links e).0 (length links) (risk_within links (length links) e within (lt-ltb e.0 (length links) lt)) in
    let count : length groups ≡ length links = ap length index ∙ shared_count links i (length links) in
    omega (arith, low, count, ap (λ (x : LinkId). x.0) is)

pub ruleset index_laws = (shared_first)
