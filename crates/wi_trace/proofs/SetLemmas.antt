-- Going through a set link by link: counting risk groups, and adding links to another one.
use Rattle.std.proofs.Common.{◌≡◌, ℕ, zero, suc, ◌+◌, ◌≤◌, Bool, true, false, not, cond, ◌&&◌, nat_eq, List, [], ◌∷◌, ap, length, take, drop, slice_get, Some, refl, arith, sym, ◌∙◌, add-one}
use Rattle.std.proofs.lemmas.List.{take_all}
use Rattle.wi_labels.proofs.HeaderLemmas.{drop_at}
use Rattle.wi_net.specs.declared.parts.LinkId.{LinkId}
use Rattle.wi_net.specs.LinkSet.{has, with_link, outside}
use Rattle.wi_net.specs.RiskGroups.{union}
use Rattle.wi_net.specs.Net.{Net, risk_of, risk_count}

-- a link counts where it isn't known, and names its risk group
abbrev counted : Net → List LinkId → LinkId → Bool
counted net known e = not (has known e) && nat_eq (risk_of net e).0 e.0

count_first : (net : Net) (known : List LinkId) (e : LinkId) (s : List LinkId) → risk_count net (outside (e ∷ s) known) ≡ cond (counted net known e) 1 0 + risk_count net (outside s known)
count_first net known e s = go (has known e) (nat_eq (risk_of net e).0 e.0) refl refl
  where
    go : (b c : Bool) → has known e ≡ b → nat_eq (risk_of net e).0 e.0 ≡ c → risk_count net (outside (e ∷ s) known) ≡ cond (counted net known e) 1 0 + risk_count net (outside s known)
    go true c eb ec = rw eb (omega arith)
    go false true eb ec = rw (eb, ec) (omega arith)
    go false false eb ec = rw (eb, ec) (omega arith)

count_on : (net : Net) (known s : List LinkId) (i : ℕ) (e : LinkId) (n total : ℕ) → slice_get s i ≡ Some e → n + risk_count net (outside (drop i s) known) ≡ total → n + cond (counted net known e) 1 0 + risk_count net (outside (drop (i + 1) s) known) ≡ total
count_on net known s i e n total is h =
    let first = count_first net known e (drop (i + 1) s) in
    let h1 : n + risk_count net (outside (e ∷ drop (i + 1) s) known) ≡ total = rw (drop_at s i e is) at h in
    omega (arith, first, h1)

pub count_one : (net : Net) (known s : List LinkId) (i : ℕ) (e : LinkId) (n m total : ℕ) (b : Bool) → slice_get s i ≡ Some e → n + risk_count net (outside (drop i s) known) ≡ total → b ≡ counted net known e → b ≡ true → m ≡ n + 1 → m + risk_count net (outside (drop (i + 1) s) known) ≡ total
count_one net known s i e n m total b is h counts b_is m_is =
    let c : counted net known e ≡ true = sym counts ∙ b_is in
    let on : n + 1 + risk_count net (outside (drop (i + 1) s) known) ≡ total = rw c at (count_on net known s i e n total is h) in
    rw m_is on

pub count_none : (net : Net) (known s : List LinkId) (i : ℕ) (e : LinkId) (n m total : ℕ) (b : Bool) → slice_get s i ≡ Some e → n + risk_count net (outside (drop i s) known) ≡ total → b ≡ counted net known e → b ≡ false → m ≡ n → m + risk_count net (outside (drop (i + 1) s) known) ≡ total
count_none net known s i e n m total b is h counts b_is m_is =
    let c : counted net known e ≡ false = sym counts ∙ b_is in
    let on : n + 0 + risk_count net (outside (drop (i + 1) s) known) ≡ total = rw c at (count_on net known s i e n total is h) in
    rw m_is (omega (arith, on))

-- ---- a set with the first links of another one

added_more : (s more : List LinkId) (i : ℕ) (e : LinkId) → slice_get more i ≡ Some e → union s (take (suc i) more) ≡ with_link (union s (take i more)) e
added_more s [] zero e is = cc
added_more s [] (suc i) e is = cc
added_more s (x ∷ more) zero e is = let same : x ≡ e = cc in ap (with_link s) same
added_more s (x ∷ more) (suc i) e is = added_more (with_link s x) more i e is

pub added_next : (s more : List LinkId) (i : ℕ) (e : LinkId) → slice_get more i ≡ Some e → union s (take (i + 1) more) ≡ with_link (union s (take i more)) e
added_next s more i e is = rw (add-one i) (added_more s more i e is)

pub added_all : (s more : List LinkId) (i : ℕ) → length more ≤ i → union s (take i more) ≡ union s more
added_all s more i all = ap (union s) (take_all i more all)
