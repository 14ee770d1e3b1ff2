-- The value that bytes read as.
use Rattle.std.proofs.Common.{◌≡◌, ℕ, Bool, true, false, List, Some, None, Ok, Err, refl}
use Rattle.std.specs.Str.{IsUtf8, is_utf8}
use Rattle.std.proofs.lemmas.Str.{IsUtf8-from_is_utf8, is_utf8-from_IsUtf8}
use Rattle.serde_json.specs.Data.{Data}
use Rattle.serde_json.specs.Read.{read}
use Rattle.wi_net.specs.Builder.{found_or}
use Rattle.wi_netjson.specs.declared.fault.Place.TheVariants.{File}
use Rattle.wi_netjson.specs.declared.fault.NetFault.TheVariants.{NotJson}
use Rattle.wi_netjson.specs.File.{json_of}

pub json_ok : (bytes : List ℕ) (d : Data) → IsUtf8 bytes × (read bytes ≡ Some d) → found_or (NotJson File) (json_of bytes) ≡ Ok d
unfolding json_of
json_ok bytes d h = rw (is_utf8-from_IsUtf8 bytes h.0, h.1) refl

pub json_none : (bytes : List ℕ) → (IsUtf8 bytes → read bytes ≡ None) → found_or (NotJson File) (json_of bytes) ≡ Err (NotJson File)
unfolding json_of
json_none bytes none = go (is_utf8 bytes) refl
  where
    go : (b : Bool) → is_utf8 bytes ≡ b → found_or (NotJson File) (json_of bytes) ≡ Err (NotJson File)
    go true e = rw (e, none (IsUtf8-from_is_utf8 bytes e)) refl
    go false e = rw e refl
