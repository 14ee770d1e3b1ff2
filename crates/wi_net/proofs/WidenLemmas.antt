-- Unions of risk groups, made from their least links.
use Rattle.std.proofs.Common.{◌≡◌, ℕ, zero, suc, ◌+◌, Bool, true, false, cond, ◌&&◌, ◌||◌, nat_eq, nat_lt, nat_le, List, [], ◌∷◌, ◌++◌, length, map, refl, arith, ap, sym, ◌∙◌, add-one, add-zero, append-nil}
use Rattle.std.proofs.lemmas.Bool.{eqb-true, eq-eqb, and_parts, and_from}
use Rattle.std.proofs.lemmas.Bool.Decides.{nat_tests}
use Rattle.std.specs.List.{filter, list_any, list_all}
use Rattle.wi_net.specs.declared.parts.LinkId.{LinkId}
use Rattle.wi_net.specs.declared.parts.Link.{Link}
use Rattle.wi_net.specs.declared.parts.Member.{Member}
use Rattle.wi_net.specs.LinkSet.{links_from, has, is_rising, with_link, risk_in, same_risk_in, numbers_where}
use Rattle.wi_net.specs.RiskGroups.{union}
use Rattle.wi_net.specs.private.RiskGroups.{with_risks, with_group_risks}
use Rattle.wi_net.proofs.SetLemmas.{all_from, has-links_from, same_link}
use Rattle.wi_net.proofs.CountLemmas.{filter_same}
use Rattle.wi_net.proofs.RisingLemmas.{filter_rising, with_rising}

next_number : (at n : ℕ) → at + 1 + n ≡ at + suc n
next_number at n = omega arith

-- a link more at the end
pub links_more : (at n : ℕ) → links_from at (suc n) ≡ links_from at n ++ record { 0 = at + n } ∷ []
links_more at zero = rw add-zero refl
links_more at (suc n) =
    let make : ℕ → LinkId = λ k. record { 0 = k } in
    ap (λ t. record { 0 = at } ∷ t) (links_more (at + 1) n ∙ ap (λ k. links_from (at + 1) n ++ make k ∷ []) (next_number at n))

filter_append : (p : LinkId → Bool) (xs ys : List LinkId) → filter p (xs ++ ys) ≡ filter p xs ++ filter p ys
filter_append p [] ys = refl
filter_append p (x ∷ xs) ys = go (p x) refl (filter_append p xs ys)
  where
    go : (c : Bool) → p x ≡ c → filter p (xs ++ ys) ≡ filter p xs ++ filter p ys → filter p ((x ∷ xs) ++ ys) ≡ filter p (x ∷ xs) ++ filter p ys
    go true c ih = rw c (ap (λ t. x ∷ t) ih)
    go false c ih = rw c ih

links_then : (n : ℕ) (e : LinkId) → e.0 ≡ n → links_from 0 (n + 1) ≡ links_from 0 n ++ e ∷ []
links_then n e is =
    let last : LinkId = record { 0 = 0 + n } in
    let same : last ≡ e = same_link last e (eq-eqb (0 + n) e.0 (omega (arith, is))) in
    ap (λ k. links_from 0 k) (add-one n) ∙ links_more 0 n ∙ ap (λ x. links_from 0 n ++ x ∷ []) same

-- one link more goes into the filter, or doesn't
pub filter_yes : (p : LinkId → Bool) (n : ℕ) (e : LinkId) → e.0 ≡ n → p e ≡ true → filter p (links_from 0 (n + 1)) ≡ filter p (links_from 0 n) ++ e ∷ []
filter_yes p n e is pe = ap (λ t. filter p t) (links_then n e is) ∙ filter_append p (links_from 0 n) (e ∷ []) ∙ rw pe refl

pub filter_no : (p : LinkId → Bool) (n : ℕ) (e : LinkId) → e.0 ≡ n → p e ≡ false → filter p (links_from 0 (n + 1)) ≡ filter p (links_from 0 n)
filter_no p n e is pe = ap (λ t. filter p t) (links_then n e is) ∙ filter_append p (links_from 0 n) (e ∷ []) ∙ rw pe (append-nil (filter p (links_from 0 n)))

pub links_rising : (at n : ℕ) → is_rising (links_from at n) ≡ true
links_rising at zero = refl
links_rising at (suc n) =
    and_from (list_all (λ y. nat_lt at y.0) (links_from (at + 1) n)) (is_rising (links_from (at + 1) n))
    (all_from (λ y. nat_lt at y.0) (links_from (at + 1) n) (λ e h.
    let in_range : (nat_le (at + 1) e.0 && nat_lt e.0 (at + 1 + n)) ≡ true = sym (has-links_from (at + 1) n e) ∙ h in
    let parts = and_parts (nat_le (at + 1) e.0) (nat_lt e.0 (at + 1 + n)) in_range in
    grind (arith, nat_tests, parts.0)))
    (links_rising (at + 1) n)

pub or_comm : (a b : Bool) → (a || b) ≡ (b || a)
or_comm true true = refl
or_comm true false = refl
or_comm false true = refl
or_comm false false = refl

pub or_assoc : (a b c : Bool) → (a || (b || c)) ≡ ((a || b) || c)
or_assoc true b c = refl
or_assoc false b c = refl

or_again : (a b : Bool) → (a || b) ≡ ((a || b) || a)
or_again true b = refl
or_again false b = or_comm false b

-- one link more in a set
pub has-with_link : (s : List LinkId) (l e : LinkId) → has (with_link s l) e ≡ (has s e || nat_eq l.0 e.0)
has-with_link [] l e = or_comm (nat_eq l.0 e.0) false
has-with_link (x ∷ s) l e = go (nat_lt l.0 x.0) (nat_eq x.0 l.0) refl refl (has-with_link s l e)
  where
    go : (b c : Bool) → nat_lt l.0 x.0 ≡ b → nat_eq x.0 l.0 ≡ c → has (with_link s l) e ≡ (has s e || nat_eq l.0 e.0) → has (with_link (x ∷ s) l) e ≡ (has (x ∷ s) e || nat_eq l.0 e.0)
    go true c eb ec ih = rw eb (or_comm (nat_eq l.0 e.0) (nat_eq x.0 e.0 || has s e))
    go false true eb ec ih = rw (eb, ec) (or_again (nat_eq x.0 e.0) (has s e) ∙ ap (λ n. (nat_eq x.0 e.0 || has s e) || nat_eq n e.0) (eqb-true x.0 l.0 ec))
    go false false eb ec ih = rw (eb, ec) (ap (λ b. nat_eq x.0 e.0 || b) ih ∙ or_assoc (nat_eq x.0 e.0) (has s e) (nat_eq l.0 e.0))

pub has-with_risks : (links : List Link) (s es : List LinkId) (r : LinkId) → has (with_risks links s es) r ≡ (has s r || list_any (λ d. nat_eq (risk_in links d).0 r.0) es)
has-with_risks links s [] r = or_comm false (has s r)
has-with_risks links s (e ∷ es) r =
    has-with_risks links (with_link s (risk_in links e)) es r
    ∙ ap (λ b. b || list_any (λ d. nat_eq (risk_in links d).0 r.0) es) (has-with_link s (risk_in links e) r)
    ∙ sym (or_assoc (has s r) (nat_eq (risk_in links e).0 r.0) (list_any (λ d. nat_eq (risk_in links d).0 r.0) es))

any_map : (p : LinkId → Bool) (g : List Member) → list_any p (map (λ (m : Member). m.link) g) ≡ list_any (λ (m : Member). p m.link) g
any_map p [] = refl
any_map p (m ∷ g) = ap (λ b. p m.link || b) (any_map p g)

pub has-with_group_risks : (links : List Link) (s : List LinkId) (gs : List (List Member)) (r : LinkId) → has (with_group_risks links s gs) r ≡ (has s r || list_any (λ g. list_any (λ (m : Member). nat_eq (risk_in links m.link).0 r.0) g) gs)
has-with_group_risks links s [] r = or_comm false (has s r)
has-with_group_risks links s (g ∷ gs) r =
    has-with_group_risks links (with_risks links s (map (λ (m : Member). m.link) g)) gs r
    ∙ ap (λ b. b || list_any (λ h. list_any (λ (m : Member). nat_eq (risk_in links m.link).0 r.0) h) gs) (has-with_risks links s (map (λ (m : Member). m.link) g) r ∙ ap (λ b. has s r || b) (any_map (λ d. nat_eq (risk_in links d).0 r.0) g))
    ∙ sym (or_assoc (has s r) (list_any (λ (m : Member). nat_eq (risk_in links m.link).0 r.0) g) (list_any (λ h. list_any (λ (m : Member). nat_eq (risk_in links m.link).0 r.0) h) gs))

-- what the two calls give
pub widened_is : (links : List Link) (s : List LinkId) → numbers_where links (λ e. has (with_risks links [] s) (risk_in links e)) ≡ numbers_where links (λ e. list_any (λ d. same_risk_in links d e) s)
widened_is links s = filter_same (λ e. has (with_risks links [] s) (risk_in links e)) (λ e. list_any (λ d. same_risk_in links d e) s) (links_from 0 (length links)) (λ e h. has-with_risks links [] s (risk_in links e))

pub before_is : (links : List Link) (gs : List (List Member)) → numbers_where links (λ e. has (with_group_risks links [] gs) (risk_in links e)) ≡ numbers_where links (λ e. list_any (λ g. list_any (λ (m : Member). same_risk_in links m.link e) g) gs)
before_is links gs = filter_same (λ e. has (with_group_risks links [] gs) (risk_in links e)) (λ e. list_any (λ g. list_any (λ (m : Member). same_risk_in links m.link e) g) gs) (links_from 0 (length links)) (λ e h. has-with_group_risks links [] gs (risk_in links e))

pub union_rising : (p : LinkId → Bool) (n : ℕ) → is_rising (filter p (links_from 0 n)) ≡ true
union_rising p n = filter_rising p (links_from 0 n) (links_rising 0 n)

pub filter_next : (p : LinkId → Bool) (n : ℕ) (e : LinkId) → e.0 ≡ n → filter p (links_from 0 (n + 1)) ≡ cond (p e) (filter p (links_from 0 n) ++ e ∷ []) (filter p (links_from 0 n))
filter_next p n e is = go (p e) refl
  where
    go : (c : Bool) → p e ≡ c → filter p (links_from 0 (n + 1)) ≡ cond (p e) (filter p (links_from 0 n) ++ e ∷ []) (filter p (links_from 0 n))
    go true c = filter_yes p n e is c ∙ sym (rw c refl)
    go false c = filter_no p n e is c ∙ sym (rw c refl)

pub has-union : (s es : List LinkId) (r : LinkId) → has (union s es) r ≡ (has s r || has es r)
has-union s [] r = or_comm false (has s r)
has-union s (e ∷ es) r =
    has-union (with_link s e) es r
    ∙ ap (λ b. b || has es r) (has-with_link s e r)
    ∙ sym (or_assoc (has s r) (nat_eq e.0 r.0) (has es r))

pub union_keeps_rising : (s es : List LinkId) → is_rising s ≡ true → is_rising (union s es) ≡ true
union_keeps_rising s [] h = h
union_keeps_rising s (e ∷ es) h = union_keeps_rising (with_link s e) es (with_rising s e h)
