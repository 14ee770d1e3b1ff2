-- What reading gives, step by step.
use Rattle.std.proofs.Common.{◌≡◌, ℕ, ◌+◌, Bool, true, false, not, List, [], ◌∷◌, Option, Some, None, Result, Ok, Err, refl, sym, subst, true≢false}
use Rattle.std.specs.Prelude.{is_some, nat_le, length}
use Rattle.std.specs.List.{list_any, list_all}
use Rattle.std.specs.Str.{IsUtf8}
use Rattle.std.proofs.lemmas.Bool.{or_parts, and_from}
use Rattle.serde_json.specs.Data.{Data, Items, no_items, item}
use Rattle.serde_json.specs.Read.{read}
use Rattle.wi_net.specs.Net.{Net}
use Rattle.wi_net.specs.Builder.{◌>>=◌, rule, found_or}
use Rattle.wi_net.proofs.KeptLists.{step_held, found_held, rule_held, given_is}
use Rattle.wi_netjson.specs.declared.fault.Place.TheVariants.{File}
use Rattle.wi_netjson.specs.declared.fault.NetFault.TheVariants.{NotJson, OverLimit}
use Rattle.wi_netjson.specs.File.{json_of, network_of}
use Rattle.wi_netjson.proofs.Json.{json_ok, json_none}
use Rattle.wi_planjson.specs.declared.refused.PlanRefused.{PlanRefused}
use Rattle.wi_planjson.specs.Reading.{each, nowhere}

-- bytes that mean a network are JSON
pub network_json : (bytes : List ℕ) (net : Net) → network_of bytes ≡ Ok net → is_some (json_of bytes) ≡ true
unfolding network_of
network_json bytes net e =
    let few = rule_held (OverLimit File 67108864) (nat_le (length bytes) 67108864) _ net e in
    let found = found_held (NotJson File) (json_of bytes) _ net few.1 in
    rw found.1 refl

pub json_is : (bytes : List ℕ) (d : Data) → IsUtf8 bytes × (read bytes ≡ Some d) → json_of bytes ≡ Some d
json_is bytes d h = go (json_of bytes) (json_ok bytes d h)
  where
    go : (o : Option Data) → found_or (NotJson File) o ≡ Ok d → o ≡ Some d
    go (Some x) e = cc
    go None e = cc

pub json_isnt : (bytes : List ℕ) → is_some (json_of bytes) ≡ true → (IsUtf8 bytes → read bytes ≡ None) → ⊥
json_isnt bytes some none = go (json_of bytes) some (json_none bytes none)
  where
    go : (o : Option Data) → is_some o ≡ true → found_or (NotJson File) o ≡ Err (NotJson File) → ⊥
    go (Some x) s e = cc
    go None s e = true≢false (sym s)

-- a place that had to be nowhere was
pub nowhere_held : {A : Type 0} (refused : ℕ → PlanRefused) (o : Option ℕ) (rest : Unit {0} → Result A PlanRefused) (x : A) → (nowhere refused o >>= rest) ≡ Ok x → (o ≡ None) × (rest tt ≡ Ok x)
nowhere_held refused (Some i) rest x e = cc
nowhere_held refused None rest x e = (refl, e)

pub nowhere_is : (refused : ℕ → PlanRefused) (o : Option ℕ) → nowhere refused o ≡ Ok tt → o ≡ None
nowhere_is refused (Some i) e = cc
nowhere_is refused None e = refl

pub rule_is : (refused : PlanRefused) (b : Bool) → rule refused b ≡ Ok tt → b ≡ true
rule_is refused true e = refl
rule_is refused false e = cc

-- what each element keeps, all of them keep
pub each_keeps : {S : Type 0} (step : S → ℕ → Data → Result S PlanRefused) (P : S → Type 0) → ((s : S) (i : ℕ) (d : Data) (next : S) → P s → step s i d ≡ Ok next → P next)
    → (items : Items) (s : S) (i : ℕ) (out : S) → P s → each step s i items ≡ Ok out → P out
each_keeps step P one no_items s i out here e = subst P (given_is s out e) here
each_keeps step P one (item d ds) s i out here e =
    let first = step_held (step s i d) (λ next. each step next (i + 1) ds) out e in
    each_keeps step P one ds first.0 (i + 1) out (one s i d first.0 here first.1) first.2

-- where nothing fails all pass
pub none_fail : {X : Type 0} (p : X → Bool) (xs : List X) → list_any (λ x. not (p x)) xs ≡ false → list_all p xs ≡ true
none_fail p [] e = refl
none_fail p (x ∷ xs) e =
    let parts = or_parts (not (p x)) (list_any (λ y. not (p y)) xs) e in
    and_from (p x) (list_all p xs) (passes (p x) parts.0) (none_fail p xs parts.1)
  where
    passes : (b : Bool) → not b ≡ false → b ≡ true
    passes true h = refl
    passes false h = sym h
