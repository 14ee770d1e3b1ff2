-- How many risk groups a union of them has.
use Rattle.std.proofs.Common.{◌≡◌, ℕ, zero, suc, ◌+◌, ◌<◌, ◌≤◌, Bool, true, false, not, cond, ◌&&◌, ◌||◌, nat_eq, nat_le, List, [], ◌∷◌, length, refl, arith, ap, inl, inr, ◌⊎◌, sym, ◌∙◌}
use Rattle.std.proofs.lemmas.Bool.{eqb-true, eq-eqb, and_parts, and_from, not-true, not_from_false, not_from_true, or_cases, or_left, or_right, false_from_ne_true, true≢false, cond_both}
use Rattle.std.proofs.lemmas.Bool.Decides.{nat_tests}
use Rattle.std.specs.List.{filter, list_any}
use Rattle.wi_net.specs.declared.parts.LinkId.{LinkId}
use Rattle.wi_net.specs.Net.{Net}
use Rattle.wi_net.specs.LinkSet.{links_from, has, outside}
use Rattle.wi_net.specs.Net.{with_risk, all_links, links_where, is_link, risk_of, same_risk, widened, risk_count}
use Rattle.wi_net.specs.Network.{IsNetwork, is_risk_named}
use Rattle.wi_net.proofs.SetLemmas.{same_link, same_risk_flip, has-all_links, has-links_where, has_where, where_has, union_has, union_link, all_at, any_in, in_any, same_risk_self}

filter_filter : (p q : LinkId → Bool) (s : List LinkId) → filter q (filter p s) ≡ filter (λ e. p e && q e) s
filter_filter p q [] = refl
filter_filter p q (x ∷ s) = let ih = filter_filter p q s in go (p x) (q x) refl refl ih
  where
    go : (b c : Bool) → p x ≡ b → q x ≡ c → filter q (filter p s) ≡ filter (λ e. p e && q e) s → filter q (filter p (x ∷ s)) ≡ filter (λ e. p e && q e) (x ∷ s)
    go true true eb ec ih = rw (eb, ec) (ap (λ t. x ∷ t) ih)
    go true false eb ec ih = rw (eb, ec) ih
    go false true eb ec ih = rw eb ih
    go false false eb ec ih = rw eb ih

-- two tests that agree on a set filter it alike
pub filter_same : (p q : LinkId → Bool) (s : List LinkId) → ((e : LinkId) → has s e ≡ true → p e ≡ q e) → filter p s ≡ filter q s
filter_same p q [] each = refl
filter_same p q (x ∷ s) each =
    let px : p x ≡ q x = each x (or_left (nat_eq x.0 x.0) (has s x) (eq-eqb x.0 x.0 refl)) in
    let rest : filter p s ≡ filter q s = filter_same p q s (λ e h. each e (or_right (nat_eq x.0 e.0) (has s e) h)) in
    rw (px, rest) refl

length_le : (p q : LinkId → Bool) (s : List LinkId) → ((e : LinkId) → has s e ≡ true → p e ≡ true → q e ≡ true) → length (filter p s) ≤ length (filter q s)
length_le p q [] each = omega arith
length_le p q (x ∷ s) each = go (p x) (q x) refl refl (length_le p q s (λ e h. each e (or_right (nat_eq x.0 e.0) (has s e) h)))
  where
    here : p x ≡ true → q x ≡ true
    here = each x (or_left (nat_eq x.0 x.0) (has s x) (eq-eqb x.0 x.0 refl))

    go : (b c : Bool) → p x ≡ b → q x ≡ c → length (filter p s) ≤ length (filter q s) → length (filter p (x ∷ s)) ≤ length (filter q (x ∷ s))
    go true true eb ec ih = rw (eb, ec) (omega (arith, ih))
    go true false eb ec ih = absurd (true≢false (sym (here eb) ∙ ec))
    go false true eb ec ih = rw (eb, ec) (omega (arith, ih))
    go false false eb ec ih = rw (eb, ec) ih

length_lt : (p q : LinkId → Bool) (s : List LinkId) (r : LinkId) → ((e : LinkId) → has s e ≡ true → p e ≡ true → q e ≡ true) → has s r ≡ true → p r ≡ false → q r ≡ true → length (filter p s) < length (filter q s)
length_lt p q [] r each h pr qr = cc
length_lt p q (x ∷ s) r each h pr qr =
    elim (or_cases (nat_eq x.0 r.0) (has s r) h) [
      | inl eb ↦
          (let px : p x ≡ false = rw (same_link x r eb) pr in
          let qx : q x ≡ true = rw (same_link x r eb) qr in
          let rest = length_le p q s (λ e k. each e (or_right (nat_eq x.0 e.0) (has s e) k)) in
          rw (px, qx) (omega (arith, rest)))
      | inr more ↦ go (p x) (q x) refl refl (length_lt p q s r (λ e k. each e (or_right (nat_eq x.0 e.0) (has s e) k)) more pr qr)
    ]
  where
    here : p x ≡ true → q x ≡ true
    here = each x (or_left (nat_eq x.0 x.0) (has s x) (eq-eqb x.0 x.0 refl))

    go : (b c : Bool) → p x ≡ b → q x ≡ c → length (filter p s) < length (filter q s) → length (filter p (x ∷ s)) < length (filter q (x ∷ s))
    go true true eb ec ih = rw (eb, ec) (omega (arith, ih))
    go true false eb ec ih = absurd (true≢false (sym (here eb) ∙ ec))
    go false true eb ec ih = rw (eb, ec) (omega (arith, ih))
    go false false eb ec ih = rw (eb, ec) ih

-- a link names its risk group
abbrev names : Net → LinkId → Bool
names net e = nat_eq (risk_of net e).0 e.0

-- the risk groups of a union outside a set, counted over all links
abbrev counts : Net → List LinkId → List LinkId → LinkId → Bool
counts net s down e = (has s e && not (has down e)) && names net e

-- a union is the network's links that it has
pub union_is : (net : Net) (s : List LinkId) → widened net s ≡ s → filter (λ e. has s e) (all_links net) ≡ s
union_is net s u = filter_same (λ e. has s e) (λ e. list_any (λ d. same_risk net d e) s) (all_links net) same ∙ u
  where
    same : (e : LinkId) → has (all_links net) e ≡ true → has s e ≡ list_any (λ d. same_risk net d e) s
    same e h =
        let known : is_link net e ≡ true = sym (has-all_links net e) ∙ h in
        let all : has s e ≡ (is_link net e && list_any (λ d. same_risk net d e) s) = ap (λ t. has t e) (sym u) ∙ has-links_where net (λ x. list_any (λ d. same_risk net d x) s) e in
        rw known at all

count_form : (net : Net) (s down : List LinkId) → widened net s ≡ s → risk_count net (outside s down) ≡ length (filter (counts net s down) (all_links net))
count_form net s down u =
    ap (λ t. length (filter (names net) (filter (λ e. not (has down e)) t))) (sym (union_is net s u))
    ∙ ap (λ t. length (filter (names net) t)) (filter_filter (λ e. has s e) (λ e. not (has down e)) (all_links net))
    ∙ ap length (filter_filter (λ e. has s e && not (has down e)) (names net) (all_links net))

-- a larger union has no fewer risk groups
pub count_within : (net : Net) (s t down : List LinkId) → widened net s ≡ s → widened net t ≡ t → ((e : LinkId) → has s e ≡ true → has down e ≡ false → has t e ≡ true) → risk_count net (outside s down) ≤ risk_count net (outside t down)
count_within net s t down us ut each =
    rw (count_form net s down us, count_form net t down ut) (length_le (counts net s down) (counts net t down) (all_links net) more)
  where
    more : (e : LinkId) → has (all_links net) e ≡ true → counts net s down e ≡ true → counts net t down e ≡ true
    more e h c =
        let a : ((has s e && not (has down e)) ≡ true) × (names net e ≡ true) = and_parts (has s e && not (has down e)) (names net e) c in
        let b : (has s e ≡ true) × (not (has down e) ≡ true) = and_parts (has s e) (not (has down e)) a.0 in
        and_from (has t e && not (has down e)) (names net e) (and_from (has t e) (not (has down e)) (each e b.0 (not-true (has down e) b.1)) b.1) a.1

-- the risk group of a link is named by a link of it
pub risk_named : (net : Net) (e : LinkId) → IsNetwork net → is_link net e ≡ true → (is_link net (risk_of net e) ≡ true) × (same_risk net e (risk_of net e) ≡ true) × (names net (risk_of net e) ≡ true)
risk_named net e k known =
    let at : is_risk_named net e ≡ true = all_at (is_risk_named net) (all_links net) e k.risks (has-all_links net e ∙ known) in
    let parts = and_parts (nat_le (risk_of net e).0 e.0) (nat_eq (risk_of net (risk_of net e)).0 (risk_of net e).0) at in
    let there : is_link net (risk_of net e) ≡ true = grind (arith, nat_tests, parts.0, known) in
    (there, eq-eqb (risk_of net e).0 (risk_of net (risk_of net e)).0 (sym (eqb-true _ _ parts.1)), parts.1)

-- a union with a link more has more risk groups
pub count_less : (net : Net) (s t down : List LinkId) (r : LinkId) → IsNetwork net → widened net s ≡ s → widened net t ≡ t → widened net down ≡ down → ((e : LinkId) → has s e ≡ true → has down e ≡ false → has t e ≡ true) → has t r ≡ true → has s r ≡ false → has down r ≡ false → risk_count net (outside s down) < risk_count net (outside t down)
count_less net s t down r k us ut ud each tr sr dr =
    rw (count_form net s down us, count_form net t down ut) (length_lt (counts net s down) (counts net t down) (all_links net) (risk_of net r) more listed before_not after_is)
  where
    known : is_link net r ≡ true
    known = union_link net t r ut tr

    named : (is_link net (risk_of net r) ≡ true) × (same_risk net r (risk_of net r) ≡ true) × (names net (risk_of net r) ≡ true)
    named = risk_named net r k known

    listed : has (all_links net) (risk_of net r) ≡ true
    listed = has-all_links net (risk_of net r) ∙ named.0

    -- a union that lacks r lacks its name
    lacks : (u : List LinkId) → widened net u ≡ u → has u r ≡ false → has u (risk_of net r) ≡ false
    lacks u uu no_r = false_from_ne_true (has u (risk_of net r)) (λ h. true≢false (sym (union_has net u (risk_of net r) r uu h (same_risk_flip net r (risk_of net r) named.1) known) ∙ no_r))

    before_not : counts net s down (risk_of net r) ≡ false
    before_not = rw (lacks s us sr) refl

    after_is : counts net t down (risk_of net r) ≡ true
    after_is = rw (union_has net t r (risk_of net r) ut tr named.1 named.0, lacks down ud dr, named.2) refl

    more : (e : LinkId) → has (all_links net) e ≡ true → counts net s down e ≡ true → counts net t down e ≡ true
    more e h c =
        let a : ((has s e && not (has down e)) ≡ true) × (names net e ≡ true) = and_parts (has s e && not (has down e)) (names net e) c in
        let b : (has s e ≡ true) × (not (has down e) ≡ true) = and_parts (has s e) (not (has down e)) a.0 in
        and_from (has t e && not (has down e)) (names net e) (and_from (has t e) (not (has down e)) (each e b.0 (not-true (has down e) b.1)) b.1) a.1

pub bool_same : (b c : Bool) → (b ≡ true → c ≡ true) → (c ≡ true → b ≡ true) → b ≡ c
bool_same true c f g = sym (f refl)
bool_same false true f g = g refl
bool_same false false f g = refl

-- a test that passes at most one link more lengthens a filter by one at most
length_more : (p q : LinkId → Bool) (r : LinkId) (at n : ℕ) → ((e : LinkId) → p e ≡ true → (q e ≡ true) ⊎ (e.0 ≡ r.0)) → length (filter p (links_from at n)) ≤ length (filter q (links_from at n)) + cond (nat_le at r.0) 1 0
length_more p q r at zero each = omega arith
length_more p q r at (suc n) each = go (p x) (q x) refl refl (length_more p q r (at + 1) n each)
  where
    x : LinkId
    x = record { 0 = at }

    fewer : cond (nat_le (at + 1) r.0) 1 0 ≤ cond (nat_le at r.0) 1 0
    fewer = grind (arith, nat_tests)

    here : at ≡ r.0 → cond (nat_le (at + 1) r.0) 1 0 + 1 ≡ cond (nat_le at r.0) 1 0
    here e = grind (arith, nat_tests)

    go : (b c : Bool) → p x ≡ b → q x ≡ c → length (filter p (links_from (at + 1) n)) ≤ length (filter q (links_from (at + 1) n)) + cond (nat_le (at + 1) r.0) 1 0 → length (filter p (links_from at (suc n))) ≤ length (filter q (links_from at (suc n))) + cond (nat_le at r.0) 1 0
    go true true eb ec ih = rw (eb, ec) (omega (arith, ih, fewer))
    go true false eb ec ih =
        elim (each x eb) [
          | inl qx ↦ absurd (true≢false (sym qx ∙ ec))
          | inr e ↦ rw (eb, ec) (omega (arith, ih, here e))
        ]
    go false true eb ec ih = rw (eb, ec) (omega (arith, ih, fewer))
    go false false eb ec ih = rw (eb, ec) (omega (arith, ih, fewer))

-- a link's risk group adds one at most
pub count_more : (net : Net) (s down : List LinkId) (d : LinkId) → widened net s ≡ s → widened net (with_risk net s d) ≡ with_risk net s d → risk_count net (outside (with_risk net s d) down) ≤ risk_count net (outside s down) + 1
count_more net s down d us uw =
    rw (count_form net (with_risk net s d) down uw, count_form net s down us) (omega (arith, longer, one))
  where
    t : List LinkId
    t = with_risk net s d

    one : cond (nat_le 0 (risk_of net d).0) 1 0 ≤ 1
    one = cond_both (nat_le 0 (risk_of net d).0) 1 0 (λ x. x ≤ 1) (λ e. omega arith) (λ e. omega arith)

    each : (e : LinkId) → counts net (with_risk net s d) down e ≡ true → (counts net s down e ≡ true) ⊎ (e.0 ≡ (risk_of net d).0)
    each e c =
        let a : ((has (with_risk net s d) e && not (has down e)) ≡ true) × (names net e ≡ true) = and_parts (has (with_risk net s d) e && not (has down e)) (names net e) c in
        let b : (has (with_risk net s d) e ≡ true) × (not (has down e) ≡ true) = and_parts (has (with_risk net s d) e) (not (has down e)) a.0 in
        let w = where_has net (λ x. has s x || same_risk net d x) e b.0 in
        elim (or_cases (has s e) (same_risk net d e) w.1) [
          | inl h ↦ inl (and_from (has s e && not (has down e)) (names net e) (and_from (has s e) (not (has down e)) h b.1) a.1)
          | inr r ↦ inr (sym (eqb-true (risk_of net d).0 (risk_of net e).0 r ∙ eqb-true (risk_of net e).0 e.0 a.1))
        ]

    longer : length (filter (counts net (with_risk net s d) down) (all_links net)) ≤ length (filter (counts net s down) (all_links net)) + cond (nat_le 0 (risk_of net d).0) 1 0
    longer = length_more (counts net (with_risk net s d) down) (counts net s down) (risk_of net d) 0 (length net.links) each

-- the links that pass a test are a union of risk groups, where the test goes by risk groups
pub union_from : (net : Net) (p : LinkId → Bool) → ((x e : LinkId) → is_link net x ≡ true → is_link net e ≡ true → p x ≡ true → same_risk net x e ≡ true → p e ≡ true) → widened net (links_where net p) ≡ links_where net p
union_from net p along = filter_same (λ e. list_any (λ d. same_risk net d e) (links_where net p)) p (all_links net) same
  where
    same : (e : LinkId) → has (all_links net) e ≡ true → list_any (λ d. same_risk net d e) (links_where net p) ≡ p e
    same e h =
        let known : is_link net e ≡ true = sym (has-all_links net e) ∙ h in
        bool_same (list_any (λ d. same_risk net d e) (links_where net p)) (p e)
        (λ any. let found = in_any (λ d. same_risk net d e) (links_where net p) any in
        let w = where_has net p found.0 found.1 in
        along found.0 e w.0 known w.1 found.2)
        (λ pe. any_in (λ d. same_risk net d e) (links_where net p) e (has_where net p e known pe) (same_risk_self net e))

-- nothing of a set is outside it
filter_none : (s : List LinkId) → filter (λ e. false) s ≡ []
filter_none [] = refl
filter_none (x ∷ s) = filter_none s

pub outside_self : (s : List LinkId) → outside s s ≡ []
outside_self s = filter_same (λ e. not (has s e)) (λ e. false) s (λ e h. not_from_true (has s e) h) ∙ filter_none s

-- a link of a union that is known besides takes one risk group off the count
pub count_beyond : (net : Net) (s down : List LinkId) (d : LinkId) → IsNetwork net → widened net s ≡ s → widened net down ≡ down → has s d ≡ true → has down d ≡ false → risk_count net (outside s (with_risk net down d)) < risk_count net (outside s down)
count_beyond net s down d k us ud sd dd =
    rw (count_form net s (with_risk net down d) us, count_form net s down us) (length_lt (counts net s (with_risk net down d)) (counts net s down) (all_links net) (risk_of net d) more listed gone there)
  where
    known : is_link net d ≡ true
    known = union_link net s d us sd

    named : (is_link net (risk_of net d) ≡ true) × (same_risk net d (risk_of net d) ≡ true) × (names net (risk_of net d) ≡ true)
    named = risk_named net d k known

    listed : has (all_links net) (risk_of net d) ≡ true
    listed = has-all_links net (risk_of net d) ∙ named.0

    in_s : has s (risk_of net d) ≡ true
    in_s = union_has net s d (risk_of net d) us sd named.1 named.0

    out_down : has down (risk_of net d) ≡ false
    out_down = false_from_ne_true (has down (risk_of net d)) (λ h. true≢false (sym (union_has net down (risk_of net d) d ud h (same_risk_flip net d (risk_of net d) named.1) known) ∙ dd))

    in_more : has (with_risk net down d) (risk_of net d) ≡ true
    in_more = has_where net (λ x. has down x || same_risk net d x) (risk_of net d) named.0 (or_right (has down (risk_of net d)) (same_risk net d (risk_of net d)) named.1)

    gone : counts net s (with_risk net down d) (risk_of net d) ≡ false
    gone = rw (in_s, in_more) refl

    there : counts net s down (risk_of net d) ≡ true
    there = rw (in_s, out_down, named.2) refl

    more : (e : LinkId) → has (all_links net) e ≡ true → counts net s (with_risk net down d) e ≡ true → counts net s down e ≡ true
    more e h c =
        let a : ((has s e && not (has (with_risk net down d) e)) ≡ true) × (names net e ≡ true) = and_parts (has s e && not (has (with_risk net down d) e)) (names net e) c in
        let b : (has s e ≡ true) × (not (has (with_risk net down d) e) ≡ true) = and_parts (has s e) (not (has (with_risk net down d) e)) a.0 in
        let free : has down e ≡ false = false_from_ne_true (has down e) (λ i. true≢false (sym (has_where net (λ x. has down x || same_risk net d x) e (sym (has-all_links net e) ∙ h) (or_left (has down e) (same_risk net d e) i)) ∙ not-true (has (with_risk net down d) e) b.1)) in
        and_from (has s e && not (has down e)) (names net e) (and_from (has s e) (not (has down e)) b.0 (not_from_false (has down e) free)) a.1
