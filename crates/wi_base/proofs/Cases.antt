-- Cases on a test and on an option.
use Rattle.std.specs.Prelude.{◌≡◌, Bool, true, false, Some, None, refl}

pub by_test : (b : Bool) → {G : Type 0} → (b ≡ true → G) → (b ≡ false → G) → G
by_test true f g = f refl
by_test false f g = g refl

pub nothing : {A G : Type 0} (x : A) → None ≡ Some x → G
nothing x h = cc
