-- Names as they are written.
use Rattle.std.specs.Prelude.{ℕ, Bool, List}

-- a name: the byte of the text where it starts, whether it stands between quotation marks, and its bytes without these
pub record Named : Type 0 where
  pub at : ℕ
  pub quoted : Bool
  pub text : List ℕ
