-- Counting the risk groups of a set that are in neither of two others, link by link.
use Rattle.std.proofs.Common.{◌≡◌, ℕ, ◌+◌, ◌≤◌, Bool, true, false, not, cond, ◌&&◌, nat_eq, List, [], ◌∷◌, length, drop, slice_get, Some, refl, arith, sym, ◌∙◌}
use Rattle.std.proofs.lemmas.List.{drop_all}
use Rattle.wi_labels.proofs.HeaderLemmas.{drop_at}
use Rattle.wi_net.specs.declared.parts.LinkId.{LinkId}
use Rattle.wi_net.specs.LinkSet.{has, outside}
use Rattle.wi_net.specs.Net.{Net, risk_of, risk_count}

-- how many there are
abbrev pub besides : Net → List LinkId → List LinkId → List LinkId → ℕ
besides net one other s = risk_count net (outside (outside s one) other)

-- a link counts where it is in neither, and names its risk group
abbrev counted : Net → List LinkId → List LinkId → LinkId → Bool
counted net one other e = not (has one e) && not (has other e) && nat_eq (risk_of net e).0 e.0

count_first : (net : Net) (one other : List LinkId) (e : LinkId) (s : List LinkId) → besides net one other (e ∷ s) ≡ cond (counted net one other e) 1 0 + besides net one other s
count_first net one other e s = go (has one e) (has other e) (nat_eq (risk_of net e).0 e.0) refl refl refl
  where
    go : (a b c : Bool) → has one e ≡ a → has other e ≡ b → nat_eq (risk_of net e).0 e.0 ≡ c → besides net one other (e ∷ s) ≡ cond (counted net one other e) 1 0 + besides net one other s
    go true b c ea eb ec = rw ea (omega arith)
    go false true c ea eb ec = rw (ea, eb) (omega arith)
    go false false true ea eb ec = rw (ea, eb, ec) (omega arith)
    go false false false ea eb ec = rw (ea, eb, ec) (omega arith)

count_on : (net : Net) (one other s : List LinkId) (i : ℕ) (e : LinkId) (n total : ℕ) → slice_get s i ≡ Some e → n + besides net one other (drop i s) ≡ total → n + cond (counted net one other e) 1 0 + besides net one other (drop (i + 1) s) ≡ total
count_on net one other s i e n total is h =
    let first = count_first net one other e (drop (i + 1) s) in
    let left : n + besides net one other (e ∷ drop (i + 1) s) ≡ total = rw (drop_at s i e is) at h in
    omega (arith, first, left)

pub count_one : (net : Net) (one other s : List LinkId) (i : ℕ) (e : LinkId) (n m total : ℕ) (b : Bool) → slice_get s i ≡ Some e → n + besides net one other (drop i s) ≡ total → b ≡ counted net one other e → b ≡ true → m ≡ n + 1 → m + besides net one other (drop (i + 1) s) ≡ total
count_one net one other s i e n m total b is h counts b_is m_is =
    let c : counted net one other e ≡ true = sym counts ∙ b_is in
    let on : n + 1 + besides net one other (drop (i + 1) s) ≡ total = rw c at (count_on net one other s i e n total is h) in
    rw m_is on

pub count_none : (net : Net) (one other s : List LinkId) (i : ℕ) (e : LinkId) (n m total : ℕ) (b : Bool) → slice_get s i ≡ Some e → n + besides net one other (drop i s) ≡ total → b ≡ counted net one other e → b ≡ false → m ≡ n → m + besides net one other (drop (i + 1) s) ≡ total
count_none net one other s i e n m total b is h counts b_is m_is =
    let c : counted net one other e ≡ false = sym counts ∙ b_is in
    let on : n + 0 + besides net one other (drop (i + 1) s) ≡ total = rw c at (count_on net one other s i e n total is h) in
    rw m_is (omega (arith, on))

pub count_all : (net : Net) (one other s : List LinkId) (i n : ℕ) → length s ≤ i → n + besides net one other (drop i s) ≡ besides net one other s → n ≡ besides net one other s
count_all net one other s i n all h =
    let left : n + besides net one other [] ≡ besides net one other s = rw (drop_all i s all) at h in
    omega (arith, left)
