-- Risk groups that were written are read as they were.
use Rattle.std.proofs.Common.{◌≡◌, ℕ, zero, suc, ◌+◌, ◌-◌, ◌%◌, ◌^◌, ◌<◌, ◌≤◌, ◌⊎◌, inl, inr, Bool, true, false, cond, ◌&&◌, ◌==◌, nat_lt, nat_le, List, [], ◌∷◌, ◌++◌, map, drop, length, slice_get, position, Option, Some, None, refl, sym, ap, ◌∙◌, append-nil, true≢false, arith, lit<}
use Rattle.std.specs.Prelude.{codes, decimal, option_map}
use Rattle.std.specs.List.{list_all}
use Rattle.std.specs.Str.{bytes_eq}
use Rattle.std.proofs.lemmas.Bool.{and_from, ltb-true, lt-ltb, le-leb, eq-eqb, ne_eqb, cases_lt, false_from_ne_true}
use Rattle.std.proofs.lemmas.Bool.Decides.{nat_tests}
use Rattle.std.proofs.lemmas.Fmt.{decimal_by_steps, decimal_injective, length-decimal-le}
use Rattle.std.proofs.lemmas.List.{map_push}
use Rattle.std.proofs.lemmas.List.Folds.{list_all-append}
use Rattle.std.proofs.lemmas.Option.{slice_get-map}
use Rattle.std.proofs.lemmas.Slice.Eq.{bytes_eq-Decides}
use Rattle.wi_net.specs.declared.parts.Link.{Link}
use Rattle.wi_net.specs.declared.parts.LinkId.{LinkId}
use Rattle.wi_text.specs.Characters.{is_name_byte}
use Rattle.wi_net.specs.Names.{is_name, place}
use Rattle.wi_net.specs.Builder.{first_in, named_with, firsts_with}
use Rattle.wi_net.proofs.FindingLemmas.{position-map}
use Rattle.wi_net.proofs.KeptLists.{none_by, all_get}
use Rattle.wi_netjson.specs.Written.{is_larger}
use Rattle.wi_netjson.proofs.FoundLemmas.{passes_at}
use Rattle.wi_net.proofs.PlaceLemmas.{none_at}
use Rattle.wi_netjson.proofs.WrittenLemmas.{names, any_here}

-- the name of a risk group
abbrev pub group_name : ℕ → List ℕ
group_name r = codes "g" ++ decimal r

abbrev pub group_of : List Link → ℕ → Option (List ℕ)
group_of links r = cond (is_larger links r) (Some (group_name r)) None

small : (r : ℕ) → r < 20000 → r < 2 ^ 64
small r lt = let top : 20000 < 2 ^ 64 = lit< tt in omega arith

digits_named : (r : ℕ) → r < 2 ^ 64 → list_all is_name_byte (decimal r) ≡ true
digits_named r lt = decimal_by_steps (λ n ds. list_all is_name_byte ds ≡ true) one more r lt
  where
    digit : (d : ℕ) → d < 10 → is_name_byte (48 + d) ≡ true
    digit d lt = grind (arith, nat_tests)

    one : (n : ℕ) → n < 10 → list_all is_name_byte ((48 + n) ∷ []) ≡ true
    one n lt = rw (digit n lt) refl

    more : (n : ℕ) (ds : List ℕ) → 10 ≤ n → list_all is_name_byte ds ≡ true → list_all is_name_byte (ds ++ ((48 + n % 10) ∷ [])) ≡ true
    more n ds le all = list_all-append is_name_byte ds ((48 + n % 10) ∷ []) ∙ rw (all, digit (n % 10) (omega arith)) refl

-- it is a name
pub group_named : (r : ℕ) → r < 20000 → is_name (group_name r) ≡ true
group_named r lt =
    let wide : 20000 < 10 ^ 20 = lit< tt in
    let few : length (decimal r) ≤ 20 = length-decimal-le 20 r (lit< tt) (omega arith) (small r lt) in
    let long : nat_le (suc (length (decimal r))) 32 ≡ true = le-leb (suc (length (decimal r))) 32 (omega (arith, few)) in
    let some : nat_le 1 (suc (length (decimal r))) ≡ true = le-leb 1 (suc (length (decimal r))) (omega arith) in
    rw (some, long, digits_named r (small r lt)) refl

-- names of risk groups are the same only of the same risk group
pub group_same : (r q : ℕ) → r < 20000 → q < 20000 → bytes_eq (group_name r) (group_name q) ≡ true → r ≡ q
group_same r q r_small q_small e =
    let same : group_name r ≡ group_name q = (bytes_eq-Decides (group_name r) (group_name q)).0 e in
    let digits : decimal r ≡ decimal q = ap (drop 1) same in
    decimal_injective r q (small r r_small) (small q q_small) digits

abbrev pub link_of : ℕ → LinkId
link_of k = record { 0 = k }

-- the least links of larger risk groups, of links numbered from one on
abbrev pub firsts_of : List Link → ℕ → List Link → List LinkId
firsts_of all i [] = []
firsts_of all i (l ∷ links) = cond (is_larger all l.risk.0 && (l.risk.0 == i)) (link_of i ∷ firsts_of all (i + 1) links) (firsts_of all (i + 1) links)

-- a link more
firsts_push : (all : List Link) (i : ℕ) (pre : List Link) (l : Link) → firsts_of all i (pre ++ l ∷ []) ≡ firsts_of all i pre ++ cond (is_larger all l.risk.0 && (l.risk.0 == i + length pre)) (link_of (i + length pre) ∷ []) []
firsts_push all i [] l =
    let here : i ≡ i + 0 = omega arith in
    ap (λ k. cond (is_larger all l.risk.0 && (l.risk.0 == k)) (link_of k ∷ []) []) here
firsts_push all i (x ∷ pre) l = go (is_larger all x.risk.0 && (x.risk.0 == i)) refl (firsts_push all (i + 1) pre l)
  where
    later : i + 1 + length pre ≡ i + suc (length pre)
    later = omega arith

    go : (b : Bool) → (is_larger all x.risk.0 && (x.risk.0 == i)) ≡ b → firsts_of all (i + 1) (pre ++ l ∷ []) ≡ firsts_of all (i + 1) pre ++ cond (is_larger all l.risk.0 && (l.risk.0 == i + 1 + length pre)) (link_of (i + 1 + length pre) ∷ []) []
        → firsts_of all i (x ∷ (pre ++ l ∷ [])) ≡ firsts_of all i (x ∷ pre) ++ cond (is_larger all l.risk.0 && (l.risk.0 == i + suc (length pre))) (link_of (i + suc (length pre)) ∷ []) []
    go true e rest = rw e (ap (λ xs. link_of i ∷ xs) (rest ∙ ap (λ k. firsts_of all (i + 1) pre ++ cond (is_larger all l.risk.0 && (l.risk.0 == k)) (link_of k ∷ []) []) later))
    go false e rest = rw e (rest ∙ ap (λ k. firsts_of all (i + 1) pre ++ cond (is_larger all l.risk.0 && (l.risk.0 == k)) (link_of k ∷ []) []) later)

-- they are numbered below the next link
firsts_low : (all : List Link) (i n : ℕ) (pre : List Link) → i + length pre ≤ n → list_all (λ (x : LinkId). nat_lt x.0 n) (firsts_of all i pre) ≡ true
firsts_low all i n [] le = refl
firsts_low all i n (x ∷ pre) le = go (is_larger all x.risk.0 && (x.risk.0 == i)) refl (firsts_low all (i + 1) n pre (omega (arith, le)))
  where
    go : (b : Bool) → (is_larger all x.risk.0 && (x.risk.0 == i)) ≡ b → list_all (λ (y : LinkId). nat_lt y.0 n) (firsts_of all (i + 1) pre) ≡ true → list_all (λ (y : LinkId). nat_lt y.0 n) (firsts_of all i (x ∷ pre)) ≡ true
    go true e rest = rw e (and_from (nat_lt i n) (list_all (λ (y : LinkId). nat_lt y.0 n) (firsts_of all (i + 1) pre)) (lt-ltb i n (omega (arith, le))) rest)
    go false e rest = rw e rest

-- the least link of a larger risk group is among them
firsts_have : (all : List Link) (i : ℕ) (pre : List Link) (k : ℕ) (m : Link) → slice_get pre k ≡ Some m → m.risk.0 ≡ i + k → is_larger all (i + k) ≡ true → (j : ℕ) × (slice_get (firsts_of all i pre) j ≡ Some (link_of (i + k)))
firsts_have all i [] k m at own larger = cc
firsts_have all i (x ∷ pre) zero m at own larger =
    let same : x ≡ m = cc in
    let here : x.risk.0 ≡ i = ap (λ (l : Link). l.risk.0) same ∙ own ∙ (let z : i + 0 ≡ i = omega arith in z) in
    let first : i + 0 ≡ i = omega arith in
    let large : is_larger all x.risk.0 ≡ true = ap (is_larger all) (here ∙ sym first) ∙ larger in
    let test : (is_larger all x.risk.0 && (x.risk.0 == i)) ≡ true = and_from (is_larger all x.risk.0) (x.risk.0 == i) large (eq-eqb x.risk.0 i here) in
    (0, rw test (ap (λ n. Some (link_of n)) (sym first)))
firsts_have all i (x ∷ pre) (suc k) m at own larger =
    let later : i + suc k ≡ i + 1 + k = omega arith in
    let rest = firsts_have all (i + 1) pre k m at (own ∙ later) (ap (is_larger all) (sym later) ∙ larger) in
    go (is_larger all x.risk.0 && (x.risk.0 == i)) refl rest.0 (rest.1 ∙ ap (λ n. Some (link_of n)) (sym later))
  where
    go : (b : Bool) → (is_larger all x.risk.0 && (x.risk.0 == i)) ≡ b → (j : ℕ) → slice_get (firsts_of all (i + 1) pre) j ≡ Some (link_of (i + suc k)) → (j' : ℕ) × (slice_get (firsts_of all i (x ∷ pre)) j' ≡ Some (link_of (i + suc k)))
    go true e j there = (suc j, rw e there)
    go false e j there = (j, rw e there)

-- what the builder knows of risk groups after the links of a beginning
pub record GroupsAre (all pre : List Link) (named : List (List ℕ)) (firsts : List LinkId) : Type 0 where
  pub firsts_are : firsts ≡ firsts_of all 0 pre
  pub named_are : named ≡ map (λ (x : LinkId). group_name x.0) firsts

-- what it makes of the next link
pub record GroupsStep (all pre : List Link) (l : Link) (named : List (List ℕ)) (firsts : List LinkId) : Type 0 where
  pub risk : first_in named firsts (link_of (length pre)) (group_of all l.risk.0) ≡ l.risk
  pub after : GroupsAre all (pre ++ l ∷ []) (named_with named (group_of all l.risk.0)) (firsts_with named firsts (link_of (length pre)) (group_of all l.risk.0))

-- what is known of the next link's risk group
pub record RiskFits (all pre : List Link) (l : Link) : Type 0 where
  pub few : length pre < 20000
  pub here : slice_get all (length pre) ≡ Some l
  pub low : l.risk.0 ≤ length pre
  pub own : l.risk.0 < length pre → (m : Link) × (slice_get pre l.risk.0 ≡ Some m) × (m.risk.0 ≡ l.risk.0)

get_drop : {X : Type 0} (xs : List X) (n k : ℕ) → slice_get (drop n xs) k ≡ slice_get xs (n + k)
get_drop xs zero k = let same : k ≡ 0 + k = omega arith in ap (λ j. slice_get xs j) same
get_drop [] (suc n) k = refl
get_drop (x ∷ xs) (suc n) k = let later : suc (n + k) ≡ suc n + k = omega arith in get_drop xs n k ∙ ap (λ j. slice_get (x ∷ xs) j) later

-- a link that names one before it makes its risk group larger
names_larger : (all : List Link) (i : ℕ) (l : Link) → slice_get all i ≡ Some l → l.risk.0 < i → is_larger all l.risk.0 ≡ true
names_larger all i l at lt =
    let place : l.risk.0 + 1 + (i - (l.risk.0 + 1)) ≡ i = omega arith in
    any_here (names l.risk.0) (drop (l.risk.0 + 1) all) (i - (l.risk.0 + 1)) l (get_drop all (l.risk.0 + 1) (i - (l.risk.0 + 1)) ∙ ap (λ j. slice_get all j) place ∙ at) (eq-eqb l.risk.0 l.risk.0 refl)

-- a link alone, or the first of its risk group
alone : (all pre : List Link) (l : Link) → RiskFits all pre l → is_larger all l.risk.0 ≡ false → l.risk.0 ≡ length pre
alone all pre l fits e = go (cases_lt l.risk.0 (length pre))
  where
    go : (l.risk.0 < length pre) ⊎ (length pre ≤ l.risk.0) → l.risk.0 ≡ length pre
    go (inl lt) = absurd (true≢false (sym (names_larger all (length pre) l fits.here lt) ∙ e))
    go (inr le) = let low = fits.low in omega arith

-- no risk group that came before has the name of a new one
none_named : (all pre : List Link) (l : Link) (named : List (List ℕ)) (firsts : List LinkId) → GroupsAre all pre named firsts → length pre < 20000 → l.risk.0 ≡ length pre → place named (group_name l.risk.0) ≡ None
none_named all pre l named firsts known few own =
    let low : list_all (λ (x : LinkId). nat_lt x.0 (length pre)) firsts ≡ true = ap (list_all (λ (x : LinkId). nat_lt x.0 (length pre))) known.firsts_are ∙ firsts_low all 0 (length pre) pre (omega arith) in
    ap (position (bytes_eq (group_name l.risk.0))) known.named_are ∙ position-map (λ (x : LinkId). group_name x.0) (bytes_eq (group_name l.risk.0)) firsts
    ∙ none_by (λ (x : LinkId). bytes_eq (group_name l.risk.0) (group_name x.0)) (λ (x : LinkId). nat_lt x.0 (length pre)) firsts differs low
  where
    differs : (x : LinkId) → nat_lt x.0 (length pre) ≡ true → bytes_eq (group_name l.risk.0) (group_name x.0) ≡ false
    differs x lt =
        let less = ltb-true x.0 (length pre) lt in
        false_from_ne_true (bytes_eq (group_name l.risk.0) (group_name x.0)) (λ h. let same = group_same l.risk.0 x.0 (omega (arith, own, few)) (omega (arith, few, less)) h in absurd (omega (arith, same, own, less)))

-- the name of a risk group that came before stands at its first link
some_named : (all pre : List Link) (l : Link) (named : List (List ℕ)) (firsts : List LinkId) → GroupsAre all pre named firsts → RiskFits all pre l → is_larger all l.risk.0 ≡ true → l.risk.0 < length pre
    → (j : ℕ) × (place named (group_name l.risk.0) ≡ Some j) × (slice_get firsts j ≡ Some l.risk)
some_named all pre l named firsts known fits larger lt = go (place named (group_name l.risk.0)) refl
  where
    m : (x : Link) × (slice_get pre l.risk.0 ≡ Some x) × (x.risk.0 ≡ l.risk.0)
    m = fits.own lt

    have : (j : ℕ) × (slice_get (firsts_of all 0 pre) j ≡ Some (link_of (0 + l.risk.0)))
    have = let z : 0 + l.risk.0 ≡ l.risk.0 = omega arith in firsts_have all 0 pre l.risk.0 m.0 m.1 (m.2 ∙ sym z) (ap (is_larger all) z ∙ larger)

    low : list_all (λ (x : LinkId). nat_lt x.0 (length pre)) firsts ≡ true
    low = ap (list_all (λ (x : LinkId). nat_lt x.0 (length pre))) known.firsts_are ∙ firsts_low all 0 (length pre) pre (omega arith)

    stands : slice_get named have.0 ≡ Some (group_name l.risk.0)
    stands = let z : 0 + l.risk.0 ≡ l.risk.0 = omega arith in
        ap (λ xs. slice_get xs have.0) known.named_are ∙ slice_get-map (λ (x : LinkId). group_name x.0) firsts have.0 ∙ ap (option_map (λ (x : LinkId). group_name x.0)) (ap (λ xs. slice_get xs have.0) known.firsts_are ∙ have.1) ∙ ap (λ n. Some (group_name n)) z

    go : (o : Option ℕ) → place named (group_name l.risk.0) ≡ o → (j : ℕ) × (place named (group_name l.risk.0) ≡ Some j) × (slice_get firsts j ≡ Some l.risk)
    go None at =
        let other : bytes_eq (group_name l.risk.0) (group_name l.risk.0) ≡ false = none_at (bytes_eq (group_name l.risk.0)) named have.0 (group_name l.risk.0) at stands in
        absurd (true≢false (sym ((bytes_eq-Decides (group_name l.risk.0) (group_name l.risk.0)).1 refl) ∙ other))
    go (Some j) at = (j, at, at_first (slice_get firsts j) refl)
      where
        passes : (s : List ℕ) × (slice_get named j ≡ Some s) × (bytes_eq (group_name l.risk.0) s ≡ true)
        passes = passes_at (bytes_eq (group_name l.risk.0)) named j at

        named_at : option_map (λ (x : LinkId). group_name x.0) (slice_get firsts j) ≡ Some passes.0
        named_at = sym (slice_get-map (λ (x : LinkId). group_name x.0) firsts j) ∙ ap (λ xs. slice_get xs j) (sym known.named_are) ∙ passes.1

        at_first : (o : Option LinkId) → slice_get firsts j ≡ o → slice_get firsts j ≡ Some l.risk
        at_first None e = let none : None ≡ Some passes.0 = rw e at named_at in cc
        at_first (Some x) e =
            let given : Some (group_name x.0) ≡ Some passes.0 = rw e at named_at in
            let name : group_name x.0 ≡ passes.0 = cc in
            let less = ltb-true x.0 (length pre) (all_get (λ (y : LinkId). nat_lt y.0 (length pre)) firsts j x low e) in
            let few = fits.few in
            let same : l.risk.0 ≡ x.0 = group_same l.risk.0 x.0 (omega (arith, lt, few)) (omega (arith, less, few)) (ap (bytes_eq (group_name l.risk.0)) name ∙ passes.2) in
            e ∙ ap (λ n. Some (link_of n)) (sym same)

-- the builder's risk groups after the next link
pub groups_step : (all pre : List Link) (l : Link) (named : List (List ℕ)) (firsts : List LinkId) → GroupsAre all pre named firsts → RiskFits all pre l → GroupsStep all pre l named firsts
groups_step all pre l named firsts known fits = go (is_larger all l.risk.0) refl (cases_lt l.risk.0 (length pre))
  where
    z : 0 + length pre ≡ length pre
    z = omega arith

    pushed : firsts_of all 0 (pre ++ l ∷ []) ≡ firsts ++ cond (is_larger all l.risk.0 && (l.risk.0 == length pre)) (link_of (length pre) ∷ []) []
    pushed = firsts_push all 0 pre l ∙ ap (λ xs. xs ++ cond (is_larger all l.risk.0 && (l.risk.0 == 0 + length pre)) (link_of (0 + length pre) ∷ []) []) (sym known.firsts_are) ∙ ap (λ k. firsts ++ cond (is_larger all l.risk.0 && (l.risk.0 == k)) (link_of k ∷ []) []) z

    own_risk : l.risk.0 ≡ length pre → link_of (length pre) ≡ l.risk
    own_risk e = ap link_of (sym e)

    go : (b : Bool) → is_larger all l.risk.0 ≡ b → (l.risk.0 < length pre) ⊎ (length pre ≤ l.risk.0) → GroupsStep all pre l named firsts
    go false e side =
        let own = alone all pre l fits e in
        let same : firsts ≡ firsts_of all 0 (pre ++ l ∷ []) = sym (pushed ∙ ap (λ b. firsts ++ cond (b && (l.risk.0 == length pre)) (link_of (length pre) ∷ []) []) e ∙ append-nil firsts) in
        record { risk = rw e (own_risk own); after = rw e (record { firsts_are = same; named_are = known.named_are }) }
    go true e (inl lt) =
        let found = some_named all pre l named firsts known fits e lt in
        let apart : (l.risk.0 == length pre) ≡ false = ne_eqb l.risk.0 (length pre) (λ h. absurd (omega (arith, h, lt))) in
        let same : firsts ≡ firsts_of all 0 (pre ++ l ∷ []) = sym (pushed ∙ rw (e, apart) (append-nil firsts)) in
        record { risk = rw (e, found.1, found.2) refl; after = rw (e, found.1) (record { firsts_are = same; named_are = known.named_are }) }
    go true e (inr le) =
        let low = fits.low in
        let own : l.risk.0 ≡ length pre = omega (arith, low, le) in
        let none = none_named all pre l named firsts known fits.few own in
        let at : (l.risk.0 == length pre) ≡ true = eq-eqb l.risk.0 (length pre) own in
        let same : firsts ++ link_of (length pre) ∷ [] ≡ firsts_of all 0 (pre ++ l ∷ []) = sym (pushed ∙ rw (e, at) refl) in
        let names_are : named ++ group_name l.risk.0 ∷ [] ≡ map (λ (x : LinkId). group_name x.0) (firsts ++ link_of (length pre) ∷ []) = ap (λ xs. xs ++ group_name l.risk.0 ∷ []) known.named_are ∙ ap (λ n. map (λ (x : LinkId). group_name x.0) firsts ++ group_name n ∷ []) own ∙ sym (map_push (λ (x : LinkId). group_name x.0) firsts (link_of (length pre))) in
        record { risk = rw (e, none) (own_risk own); after = rw (e, none) (record { firsts_are = same; named_are = names_are }) }
