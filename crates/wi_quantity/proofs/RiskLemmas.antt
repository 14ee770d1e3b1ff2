-- Risk groups counted member by member.
use Rattle.std.proofs.Common.{◌≡◌, ℕ, zero, suc, ◌+◌, ◌<◌, ◌≤◌, Bool, true, false, not, cond, ◌&&◌, ◌||◌, nat_eq, nat_le, nat_lt, List, [], ◌∷◌, ◌++◌, length, take, get_or, refl, arith, ap, sym, ◌∙◌, slice_get, zero-add, add-one}
use Rattle.std.specs.Option.{option_map_or}
use Rattle.wi_net.specs.declared.parts.Link.{Link}
use Rattle.std.proofs.lemmas.Bool.{eqb-true, and_parts}
use Rattle.std.proofs.lemmas.Bool.Decides.{nat_tests}
use Rattle.std.proofs.lemmas.List.Folds.{list_any-append}
use Rattle.std.specs.List.{filter, list_any}
use mathlib.Core.Path.{fun_ext}
use Rattle.wi_net.specs.declared.parts.LinkId.{LinkId}
use Rattle.wi_net.specs.declared.parts.Member.{Member}
use Rattle.wi_net.specs.LinkSet.{links_from, has}
use Rattle.wi_net.specs.Net.{Net, all_links, is_link, links_where, risk_of, risk_count, same_risk, before}
use Rattle.wi_net.specs.Network.{IsNetwork, is_risk_named}
use Rattle.wi_net.proofs.SetLemmas.{has-all_links, same_link, all_at}
use Rattle.wi_net.proofs.CountLemmas.{filter_same, risk_named}
use Rattle.wi_quantity.specs.private.Shares.{has_risk, is_new, is_reached, risks_of}

filter_filter : (p q : LinkId → Bool) (s : List LinkId) → filter q (filter p s) ≡ filter (λ e. p e && q e) s
filter_filter p q [] = refl
filter_filter p q (x ∷ s) = go (p x) (q x) refl refl (filter_filter p q s)
  where
    go : (b c : Bool) → p x ≡ b → q x ≡ c → filter q (filter p s) ≡ filter (λ e. p e && q e) s → filter q (filter p (x ∷ s)) ≡ filter (λ e. p e && q e) (x ∷ s)
    go true true eb ec ih = rw (eb, ec) (ap (λ t. x ∷ t) ih)
    go true false eb ec ih = rw (eb, ec) ih
    go false true eb ec ih = rw eb ih
    go false false eb ec ih = rw eb ih

-- a link names its risk group
abbrev names : Net → LinkId → Bool
names net e = nat_eq (risk_of net e).0 e.0

count_is : (net : Net) (p : LinkId → Bool) → risk_count net (links_where net p) ≡ length (filter (λ e. p e && names net e) (all_links net))
count_is net p = ap length (filter_filter p (names net) (all_links net))

length_filter : (p : LinkId → Bool) (s : List LinkId) → length (filter p s) ≤ length s
length_filter p [] = omega arith
length_filter p (x ∷ s) = go (p x) refl (length_filter p s)
  where
    go : (b : Bool) → p x ≡ b → length (filter p s) ≤ length s → length (filter p (x ∷ s)) ≤ length (x ∷ s)
    go true e ih = rw e (omega (arith, ih))
    go false e ih = rw e (omega (arith, ih))

length_links : (at n : ℕ) → length (links_from at n) ≡ n
length_links at zero = refl
length_links at (suc n) = let ih = length_links (at + 1) n in omega (arith, ih)

-- there are no more risk groups than links
pub count_few : (net : Net) (p : LinkId → Bool) → risk_count net (links_where net p) ≤ length net.links
count_few net p =
    rw (count_is net p) (let l = length_filter (λ e. p e && names net e) (all_links net) in omega (arith, l, length_links 0 (length net.links)))

-- a test that passes one number more
one_more : (p : LinkId → Bool) (r : LinkId) (at n : ℕ) → length (filter (λ e. p e || nat_eq e.0 r.0) (links_from at n)) ≡ length (filter p (links_from at n)) + cond (nat_le at r.0 && (nat_lt r.0 (at + n) && not (p r))) 1 0
one_more p r at zero = let none : (nat_le at r.0 && (nat_lt r.0 (at + 0) && not (p r))) ≡ false = go (nat_le at r.0) (nat_lt r.0 (at + 0)) refl refl in rw none refl
  where
    go : (b c : Bool) → nat_le at r.0 ≡ b → nat_lt r.0 (at + 0) ≡ c → (b && (c && not (p r))) ≡ false
    go true true eb ec = absurd (grind (arith, nat_tests))
    go true false eb ec = refl
    go false c eb ec = refl
one_more p r at (suc n) = go (nat_eq at r.0) refl (p x) refl (one_more p r (at + 1) n)
  where
    x : LinkId
    x = record { 0 = at }

    rest : ℕ
    rest = length (filter p (links_from (at + 1) n))

    -- the number stands here, so it doesn't stand later
    here : nat_eq at r.0 ≡ true → (nat_le at r.0 && (nat_lt r.0 (at + suc n) && not (p r))) ≡ not (p x)
    here e =
        let a : nat_le at r.0 ≡ true = grind (arith, nat_tests) in
        let b : nat_lt r.0 (at + suc n) ≡ true = grind (arith, nat_tests) in
        rw (a, b, sym (same_link x r e)) refl

    not_later : nat_eq at r.0 ≡ true → (nat_le (at + 1) r.0 && (nat_lt r.0 (at + 1 + n) && not (p r))) ≡ false
    not_later e = let a : nat_le (at + 1) r.0 ≡ false = grind (arith, nat_tests) in rw a refl

    later : nat_eq at r.0 ≡ false → (nat_le at r.0 && (nat_lt r.0 (at + suc n) && not (p r))) ≡ (nat_le (at + 1) r.0 && (nat_lt r.0 (at + 1 + n) && not (p r)))
    later e =
        let a : nat_le at r.0 ≡ nat_le (at + 1) r.0 = grind (arith, nat_tests) in
        let b : at + suc n ≡ at + 1 + n = omega arith in
        rw (a, b) refl

    go : (b : Bool) → nat_eq at r.0 ≡ b → (c : Bool) → p x ≡ c → length (filter (λ e. p e || nat_eq e.0 r.0) (links_from (at + 1) n)) ≡ rest + cond (nat_le (at + 1) r.0 && (nat_lt r.0 (at + 1 + n) && not (p r))) 1 0
        → length (filter (λ e. p e || nat_eq e.0 r.0) (links_from at (suc n))) ≡ length (filter p (links_from at (suc n))) + cond (nat_le at r.0 && (nat_lt r.0 (at + suc n) && not (p r))) 1 0
    go true eb true ec ih =
        let i = rw (not_later eb) at ih in
        rw (here eb, ec) (omega (arith, i))
    go true eb false ec ih =
        let i = rw (not_later eb) at ih in
        rw (here eb, ec, eb) (omega (arith, i))
    go false eb true ec ih = rw (later eb, ec) (omega (arith, ih))
    go false eb false ec ih = rw (later eb, ec, eb) (omega (arith, ih))

or_false : (a : Bool) → (a || false) ≡ a
or_false true = refl
or_false false = refl

or_both : (a : Bool) → ((a || true) && true) ≡ ((a && true) || true)
or_both true = refl
or_both false = refl

and_or : (a : Bool) → ((a || false) && true) ≡ ((a && true) || false)
and_or true = refl
and_or false = refl

none_left : (a b : Bool) → (a && false) ≡ ((b && false) || false)
none_left true true = refl
none_left true false = refl
none_left false true = refl
none_left false false = refl

neither : (a b : Bool) → (true && (true && not ((a || b) && true))) ≡ (true && (not b && not a))
neither true true = refl
neither true false = refl
neither false true = refl
neither false false = refl

zero_le : (n : ℕ) → nat_le 0 n ≡ true
zero_le n = grind (arith, nat_tests)

filter_none : (s : List LinkId) → filter (λ e. false) s ≡ []
filter_none [] = refl
filter_none (x ∷ s) = filter_none s

-- a link that the network hasn't names its own risk group
risk_outside : (net : Net) (d : LinkId) → is_link net d ≡ false → risk_of net d ≡ d
risk_outside net d h = go net.links d.0 h
  where
    go : (links : List Link) (i : ℕ) → nat_lt i (length links) ≡ false → option_map_or (λ (l : Link). l.risk) (slice_get links i) d ≡ d
    go [] i h = refl
    go (l ∷ links) zero h = absurd (grind (arith, nat_tests))
    go (l ∷ links) (suc i) h = go links i (grind (arith, nat_tests))

take_front : {X : Type 0} (xs : List X) (i : ℕ) (x : X) → i < length xs → x ≡ get_or xs i x → take (suc i) xs ≡ take i xs ++ x ∷ []
take_front [] i x lt is = absurd (omega arith)
take_front (y ∷ xs) zero x lt is = rw is refl
take_front (y ∷ xs) (suc i) x lt is = ap (λ t. y ∷ t) (take_front xs i x (omega arith) is)

take_next : {X : Type 0} (xs : List X) (i : ℕ) (x : X) → i < length xs → x ≡ get_or xs i x → take (i + 1) xs ≡ take i xs ++ x ∷ []
take_next xs i x lt is = rw add-one (take_front xs i x lt is)

-- a member more: one risk group more, if it is new
pub risks_more : (net : Net) (groups : List (List Member)) (members : List Member) (m : Member) → IsNetwork net
    → risks_of net groups (members ++ m ∷ []) ≡ risks_of net groups members + cond (is_new net groups members m.link) 1 0
risks_more net groups members m k = go (is_link net m.link) refl
  where
    d : LinkId
    d = m.link

    r : LinkId
    r = risk_of net d

    p : LinkId → Bool
    p e = is_reached net groups members e

    p' : LinkId → Bool
    p' e = is_reached net groups (members ++ m ∷ []) e

    more : (e : LinkId) → p' e ≡ (p e || same_risk net d e)
    more e =
        rw (list_any-append (λ (n : Member). same_risk net n.link e) members (m ∷ []))
        (three (list_any (λ g. list_any (λ (n : Member). same_risk net n.link e) g) groups) (list_any (λ (n : Member). same_risk net n.link e) members) (same_risk net d e))
      where
        three : (a b c : Bool) → (a || (b || (c || false))) ≡ ((a || b) || c)
        three true b c = refl
        three false true c = refl
        three false false true = refl
        three false false false = refl

    known_parts : (e : LinkId) → has (all_links net) e ≡ true → is_link net e ≡ true
    known_parts e h = sym (has-all_links net e) ∙ h

    -- a link outside the network is alone
    alone : is_link net d ≡ false → (e : LinkId) → has (all_links net) e ≡ true → p' e ≡ p e
    alone no_link e h =
        let known : is_link net e ≡ true = known_parts e h in
        let at : is_risk_named net e ≡ true = all_at (is_risk_named net) (all_links net) e k.risks h in
        let low : nat_le (risk_of net e).0 e.0 ≡ true = (and_parts (nat_le (risk_of net e).0 e.0) (nat_eq (risk_of net (risk_of net e)).0 (risk_of net e).0) at).0 in
        let is : (risk_of net d).0 ≡ d.0 = ap (λ (x : LinkId). x.0) (risk_outside net d no_link) in
        let apart : same_risk net d e ≡ false = rw is (grind (arith, nat_tests)) in
        more e ∙ ap (λ b. p e || b) apart ∙ or_false (p e)

    -- in the network it is of a group that one link names
    counted : (e : LinkId) → is_link net d ≡ true → (p' e && names net e) ≡ ((p e && names net e) || nat_eq e.0 r.0)
    counted e known = rw (more e) (by_name (nat_eq e.0 r.0) refl (names net e) refl)
      where
        named : (is_link net r ≡ true) × (same_risk net d r ≡ true) × (names net r ≡ true)
        named = risk_named net d k known

        by_name : (b : Bool) → nat_eq e.0 r.0 ≡ b → (c : Bool) → names net e ≡ c → ((p e || same_risk net d e) && names net e) ≡ ((p e && names net e) || nat_eq e.0 r.0)
        by_name true eb c ec =
            let is : e ≡ r = same_link e r eb in
            let same : same_risk net d e ≡ true = rw is named.1 in
            let name : names net e ≡ true = rw is named.2 in
            rw (same, name, eb) (or_both (p e))
        by_name false eb true ec =
            let at : (risk_of net e).0 ≡ e.0 = eqb-true (risk_of net e).0 e.0 ec in
            let apart : same_risk net d e ≡ false = rw at (grind (arith, nat_tests)) in
            rw (apart, ec, eb) (and_or (p e))
        by_name false eb false ec = rw (ec, eb) (none_left (p e || same_risk net d e) (p e))

    go : (b : Bool) → is_link net d ≡ b → risks_of net groups (members ++ m ∷ []) ≡ risks_of net groups members + cond (is_new net groups members d) 1 0
    go false no_link = rw (filter_same p' p (all_links net) (alone no_link), no_link) (omega arith)
    go true known =
        let named = risk_named net d k known in
        let at : (risk_of net r).0 ≡ r.0 = eqb-true (risk_of net r).0 r.0 named.2 in
        let here : p r ≡ (list_any (λ g. has_risk net g r) groups || has_risk net members r) = rw at refl in
        let fresh : (nat_le 0 r.0 && (nat_lt r.0 (0 + length net.links) && not (p r && names net r))) ≡ is_new net groups members d =
        rw (zero_le r.0, zero-add (length net.links), named.0, named.2, here, known) (neither (list_any (λ g. has_risk net g r) groups) (has_risk net members r)) in
        count_is net p' ∙ ap length (filter_same (λ e. p' e && names net e) (λ e. (p e && names net e) || nat_eq e.0 r.0) (all_links net) (λ e h. counted e known))
        ∙ one_more (λ e. p e && names net e) r 0 (length net.links)
        ∙ rw (fresh, count_is net p) refl

-- the groups before the next one are those before this one, and this one
pub before_next : (net : Net) (groups : List (List Member)) (i : ℕ) (g : List Member) → i < length groups → g ≡ get_or groups i g
    → risk_count net (before net groups (i + 1)) ≡ risks_of net (take i groups) g
before_next net groups i g lt is = ap (λ t. risk_count net (links_where net t)) (fun_ext reached)
  where
    reached : (e : LinkId) → list_any (λ h. list_any (λ (m : Member). same_risk net m.link e) h) (take (i + 1) groups) ≡ is_reached net (take i groups) g e
    reached e =
        ap (list_any (λ h. list_any (λ (m : Member). same_risk net m.link e) h)) (take_next groups i g lt is)
        ∙ list_any-append (λ h. list_any (λ (m : Member). same_risk net m.link e) h) (take i groups) (g ∷ [])
        ∙ ap (λ b. list_any (λ h. list_any (λ (m : Member). same_risk net m.link e) h) (take i groups) || b) (or_false (list_any (λ (m : Member). same_risk net m.link e) g))

-- before any member of a group
pub before_group : (net : Net) (groups : List (List Member)) (i : ℕ) → risk_count net (before net groups i) ≡ risks_of net (take i groups) []
before_group net groups i =
    ap (λ t. risk_count net (links_where net t))
    (fun_ext (λ e. sym (or_false (list_any (λ h. list_any (λ (m : Member). same_risk net m.link e) h) (take i groups)))))

pub before_first : (net : Net) (groups : List (List Member)) → risk_count net (before net groups 0) ≡ 0
before_first net groups = rw (filter_none (all_links net)) refl

-- there are no more risk groups than links, of which a network has few
pub risks_few : (net : Net) (groups : List (List Member)) (members : List Member) → IsNetwork net → risks_of net groups members ≤ 20000
risks_few net groups members k = let few = count_few net (is_reached net groups members) in let links = k.few_links in omega (arith, few, links)

pub before_few : (net : Net) (groups : List (List Member)) (i : ℕ) → IsNetwork net → risk_count net (before net groups i) ≤ 20000
before_few net groups i k = rw (before_group net groups i) (risks_few net (take i groups) [] k)

-- a step of the count over a group's members
pub risks_step : (net : Net) (groups : List (List Member)) (members seen : List Member) (m : Member) (i count : ℕ) (b : Bool) → IsNetwork net → i < length members → m ≡ get_or members i m → seen ≡ take i members
    → b ≡ is_new net groups seen m.link → risks_of net groups [] + count ≡ risks_of net groups (take i members) → risks_of net groups [] + (count + cond b 1 0) ≡ risks_of net groups (take (i + 1) members)
risks_step net groups members seen m i count b k lt is es eb so_far =
    rw (take_next members i m lt is, risks_more net groups (take i members) m k, sym so_far, eb, es) (omega arith)

-- and of the count over groups
pub groups_step : (net : Net) (groups : List (List Member)) (g h : List Member) (i count more : ℕ) → i < length groups → h ≡ get_or groups i h → g ≡ h
    → count ≡ risk_count net (before net groups i) → risks_of net (take i groups) [] + more ≡ risks_of net (take i groups) g → count + more ≡ risk_count net (before net groups (i + 1))
groups_step net groups g h i count more lt is eg so_far new =
    let new' : risks_of net (take i groups) [] + more ≡ risks_of net (take i groups) h = rw (← eg) new in
    ap (λ n. n + more) (so_far ∙ before_group net groups i) ∙ new' ∙ sym (before_next net groups i h lt is)
