-- The keys by which links are found.
use Rattle.std.specs.Prelude.{◌≡◌, ℕ, List, map}
use Rattle.wi_net.specs.declared.parts.Link.{Link}

abbrev pub out_key : Link → ℕ × ℕ
out_key l = (l.from.0, l.out_if.0)

abbrev pub in_key : Link → ℕ × ℕ
in_key l = (l.to.0, l.in_if.0)

-- the two indexes have the links' ends, in the links' order
pub record AreKeyed (links : List Link) (outs ins : List (ℕ × ℕ)) : Type 0 where
  pub outs_are : outs ≡ map out_key links
  pub ins_are : ins ≡ map in_key links
