-- Numbers in 64 parts.
use Rattle.std.specs.Prelude.{◌≡◌, ℕ, ◌/◌, ◌%◌, true, nat_eq}
use Rattle.std.proofs.Common.{arith}
use Rattle.std.proofs.lemmas.Bool.{eqb-true}

pub whole_number : (x y : ℕ) → x / 64 ≡ y / 64 → x % 64 ≡ y % 64 → x ≡ y
whole_number x y part rest = omega (arith, part, rest)

pub same_number : (x y : ℕ) → nat_eq x y ≡ true → x ≡ y
same_number = eqb-true
