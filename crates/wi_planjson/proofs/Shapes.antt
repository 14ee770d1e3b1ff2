-- The form of a link in a file.
use Rattle.std.proofs.Common.{◌≡◌, ◌≢◌, List, [], ◌∷◌, length, Some, None, refl}
use Rattle.serde_json.specs.View.{items_view}
use Rattle.serde_json.specs.declared.value.Value.{Value}
use Rattle.wi_planjson.specs.Names.{two_texts}

-- a list of another length than two names no link
pub many_names : (vs : List Value) → length vs ≢ 2 → two_texts (Some (items_view vs)) ≡ None
many_names [] e = refl
many_names (a ∷ []) e = refl
many_names (a ∷ b ∷ []) e = absurd (e refl)
many_names (a ∷ b ∷ c ∷ vs) e = refl
