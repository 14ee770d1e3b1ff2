-- The spot of a number has that number, and its parts are there.
use Rattle.std.proofs.Common.{◌≡◌, ℕ, zero, suc, ◌+◌, ◌-◌, ◌*◌, ◌/◌, ◌%◌, ◌<◌, ◌≤◌, Bool, true, false, ◌&&◌, nat_lt, Some, None, ◌⊎◌, inl, inr, refl, arith, ap, ◌∙◌, subst}
use Rattle.std.proofs.lemmas.Nat.{div-add-mod'}
use Rattle.std.proofs.Math.Nat.{mul-le-mul_right}
use Rattle.std.proofs.lemmas.Bool.{and_parts, ltb-true, ltb-false}
use Rattle.wi_rules.specs.declared.spot.Spot.{Spot}
use Rattle.wi_rules.specs.declared.spot.Spot.TheVariants.{Start, Done, Build, Close, OnLink, Mid, Drop}
use Rattle.wi_rules.specs.Numbers.{Layout, number, dropping, amid, on_links, closing, building, spot_of, Fits}

-- a spot of this number, counted as it is
abbrev IsAt : Layout → ℕ → Spot → Type 0
IsAt y n p = (number y p ≡ n) × Fits y p

moved_to : (y : Layout) (n n2 : ℕ) (p : Spot) → n ≡ n2 → IsAt y n p → IsAt y n2 p
moved_to y n n2 p e h = (h.0 ∙ e, h.1)

same_spot : (y : Layout) (n : ℕ) (p q : Spot) → Some p ≡ Some q → IsAt y n p → IsAt y n q
same_spot y n p q e h = let same : p ≡ q = cc in subst (λ (x : Spot). IsAt y n x) same h

-- the row of a number below a product
pub row_below : (n a b : ℕ) → n < a * b → n / b < a
row_below n a b h = elim (order (n / b) a) [
  | inl lt ↦ lt
  | inr le ↦
      (let more : a * b ≤ n / b * b = mul-le-mul_right b le in
      let whole : n / b * b + n % b ≡ n = div-add-mod' n b in
      absurd (omega (arith, h, more, whole)))
]
  where
    order : (x y : ℕ) → (x < y) ⊎ (y ≤ x)
    order x zero = inr (omega arith)
    order zero (suc y) = inl (omega arith)
    order (suc x) (suc y) = elim (order x y) [ inl l ↦ inl (omega (arith, l)) | inr g ↦ inr (omega (arith, g)) ]

pub some_column : (n a b : ℕ) → n < a * b → 0 < b
some_column n a zero h = let none : a * 0 ≡ 0 = omega arith in absurd (omega (arith, h, none))
some_column n a (suc b) h = omega arith

pub column_below : (n b : ℕ) → 0 < b → n % b < b
column_below n b h = omega arith

dropping_is : (y : Layout) (n : ℕ) (p : Spot) → dropping y n ≡ Some p → IsAt y (suc (suc (y.first + (y.last + (y.links * y.path + (y.members * 7 * y.path + n)))))) p
dropping_is y n p e = go (y.drops && nat_lt n (y.members * 7)) refl
  where
    go : (b : Bool) → (y.drops && nat_lt n (y.members * 7)) ≡ b → IsAt y (suc (suc (y.first + (y.last + (y.links * y.path + (y.members * 7 * y.path + n)))))) p
    go false b = let none : None ≡ Some p = rw b at e in cc
    go true b =
        let some : Some (Drop (n / 7) (n % 7 + 1)) ≡ Some p = rw b at e in
        let parts = and_parts y.drops (nat_lt n (y.members * 7)) b in
        let member : n / 7 < y.members = row_below n y.members 7 (ltb-true n (y.members * 7) parts.1) in
        let seven : n % 7 < 7 = column_below n 7 (omega arith) in
        let line : n / 7 * 7 + n % 7 ≡ n = div-add-mod' n 7 in
        let line2 : n / 7 * 7 + ((n % 7 + 1) - 1) ≡ n = omega (arith, line) in
        same_spot y (suc (suc (y.first + (y.last + (y.links * y.path + (y.members * 7 * y.path + n)))))) (Drop (n / 7) (n % 7 + 1)) p some
        (ap (λ (x : ℕ). suc (suc (y.first + (y.last + (y.links * y.path + (y.members * 7 * y.path + x)))))) line2, (parts.0, member, omega arith, omega (arith, seven)))

amid_is : (y : Layout) (n : ℕ) (p : Spot) → amid y n ≡ Some p → IsAt y (suc (suc (y.first + (y.last + (y.links * y.path + n))))) p
amid_is y n p e = go (nat_lt n (y.members * 7 * y.path)) refl
  where
    go : (b : Bool) → nat_lt n (y.members * 7 * y.path) ≡ b → IsAt y (suc (suc (y.first + (y.last + (y.links * y.path + n))))) p
    go false b =
        let le : y.members * 7 * y.path ≤ n = ltb-false n (y.members * 7 * y.path) b in
        let back : y.members * 7 * y.path + (n - y.members * 7 * y.path) ≡ n = omega (arith, le) in
        moved_to y _ _ p (ap (λ (x : ℕ). suc (suc (y.first + (y.last + (y.links * y.path + x))))) back) (dropping_is y (n - y.members * 7 * y.path) p (rw b at e))
    go true b =
        let some : Some (Mid (n / y.path / 7) (n / y.path % 7 + 1) (n % y.path)) ≡ Some p = rw b at e in
        let lt : n < y.members * 7 * y.path = ltb-true n (y.members * 7 * y.path) b in
        let row : n / y.path < y.members * 7 = row_below n (y.members * 7) y.path lt in
        let member : n / y.path / 7 < y.members = row_below (n / y.path) y.members 7 row in
        let seven : n / y.path % 7 < 7 = column_below (n / y.path) 7 (omega arith) in
        let column : n % y.path < y.path = column_below n y.path (some_column n (y.members * 7) y.path lt) in
        let line : n / y.path / 7 * 7 + n / y.path % 7 ≡ n / y.path = div-add-mod' (n / y.path) 7 in
        let line2 : n / y.path / 7 * 7 + ((n / y.path % 7 + 1) - 1) ≡ n / y.path = omega (arith, line) in
        let all : (n / y.path / 7 * 7 + ((n / y.path % 7 + 1) - 1)) * y.path + n % y.path ≡ n = ap (λ (x : ℕ). x * y.path + n % y.path) line2 ∙ div-add-mod' n y.path in
        same_spot y (suc (suc (y.first + (y.last + (y.links * y.path + n))))) (Mid (n / y.path / 7) (n / y.path % 7 + 1) (n % y.path)) p some
        (ap (λ (x : ℕ). suc (suc (y.first + (y.last + (y.links * y.path + x))))) all, (member, omega arith, omega (arith, seven), column))

on_links_is : (y : Layout) (n : ℕ) (p : Spot) → on_links y n ≡ Some p → IsAt y (suc (suc (y.first + (y.last + n)))) p
on_links_is y n p e = go (nat_lt n (y.links * y.path)) refl
  where
    go : (b : Bool) → nat_lt n (y.links * y.path) ≡ b → IsAt y (suc (suc (y.first + (y.last + n)))) p
    go false b =
        let le : y.links * y.path ≤ n = ltb-false n (y.links * y.path) b in
        let back : y.links * y.path + (n - y.links * y.path) ≡ n = omega (arith, le) in
        moved_to y _ _ p (ap (λ (x : ℕ). suc (suc (y.first + (y.last + x)))) back) (amid_is y (n - y.links * y.path) p (rw b at e))
    go true b =
        let some : Some (OnLink (record { 0 = n / y.path }) (n % y.path)) ≡ Some p = rw b at e in
        let lt : n < y.links * y.path = ltb-true n (y.links * y.path) b in
        same_spot y (suc (suc (y.first + (y.last + n)))) (OnLink (record { 0 = n / y.path }) (n % y.path)) p some
        (ap (λ (x : ℕ). suc (suc (y.first + (y.last + x)))) (div-add-mod' n y.path), (row_below n y.links y.path lt, column_below n y.path (some_column n y.links y.path lt)))

closing_is : (y : Layout) (n : ℕ) (p : Spot) → closing y n ≡ Some p → IsAt y (suc (suc (y.first + n))) p
closing_is y n p e = go (nat_lt n y.last) refl
  where
    go : (b : Bool) → nat_lt n y.last ≡ b → IsAt y (suc (suc (y.first + n))) p
    go false b =
        let le : y.last ≤ n = ltb-false n y.last b in
        let back : y.last + (n - y.last) ≡ n = omega (arith, le) in
        moved_to y _ _ p (ap (λ (x : ℕ). suc (suc (y.first + x))) back) (on_links_is y (n - y.last) p (rw b at e))
    go true b =
        let some : Some (Close n) ≡ Some p = rw b at e in
        same_spot y (suc (suc (y.first + n))) (Close n) p some (refl, ltb-true n y.last b)

building_is : (y : Layout) (n : ℕ) (p : Spot) → building y n ≡ Some p → IsAt y (suc (suc n)) p
building_is y n p e = go (nat_lt n y.first) refl
  where
    go : (b : Bool) → nat_lt n y.first ≡ b → IsAt y (suc (suc n)) p
    go false b =
        let le : y.first ≤ n = ltb-false n y.first b in
        let back : y.first + (n - y.first) ≡ n = omega (arith, le) in
        moved_to y _ _ p (ap (λ (x : ℕ). suc (suc x)) back) (closing_is y (n - y.first) p (rw b at e))
    go true b =
        let some : Some (Build n) ≡ Some p = rw b at e in
        same_spot y (suc (suc n)) (Build n) p some (refl, ltb-true n y.first b)

pub number_of_spot : (y : Layout) (n : ℕ) (p : Spot) → spot_of y n ≡ Some p → (number y p ≡ n) × Fits y p
number_of_spot y zero p e = same_spot y zero Start p e (refl, tt)
number_of_spot y (suc zero) p e = same_spot y 1 Done p e (refl, tt)
number_of_spot y (suc (suc n)) p e = building_is y n p e
