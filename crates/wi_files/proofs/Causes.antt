-- What is a cause of a refusal.
use Rattle.std.proofs.Common.{◌≡◌, ℕ, ◌<◌, Bool, true, false, List, [], ◌∷◌, ◌++◌, length, length-append, Option, Some, None, Result, Ok, Err, ap, refl, subst, sym, ◌∙◌, arith}
use Rattle.std.specs.Prelude.{nat_le, IfErr, MatchOption}
use Rattle.std.specs.Result.{IsErrAnd}
use Rattle.std.proofs.lemmas.Bool.{leb-true}
use Rattle.wi_base.specs.Shelf.{IsLonger}
use Rattle.wi_netjson.specs.declared.fault.Place.TheVariants.{File}
use Rattle.wi_netjson.specs.declared.fault.NetFault.TheVariants.{OverLimit}
use Rattle.wi_netjson.specs.File.{network_of}
use Rattle.wi_files.specs.Networks.{FileHasFault}

not_within : (n m : ℕ) → m < n → nat_le n m ≡ false
not_within n m less = go (nat_le n m) refl
  where
    go : (b : Bool) → nat_le n m ≡ b → nat_le n m ≡ false
    go false e = e
    go true e = let within = leb-true n m e in let bad : ⊥ = omega (arith, within, less) in elim bad [ ]

-- a file of too many bytes is a network file with that fault
too_long : (file : Option (List ℕ)) → IsLonger file 67108864 → FileHasFault file (OverLimit File 67108864)
unfolding network_of
too_long None longer = elim longer [ ]
too_long (Some bytes) longer = rw (network_of, not_within (length bytes) 67108864 longer) refl

-- and so is one of which no bytes are found within the limit
pub too_long_within : {V : Type 0} (found : Option V) (file : Option (List ℕ)) (P : V → Type 0) → found ≡ None → MatchOption found (IsLonger file 67108864) P → FileHasFault file (OverLimit File 67108864)
too_long_within None file P is longer = too_long file longer
too_long_within (Some x) file P is longer = let no : ⊥ = cc in absurd no

-- which refusal it is
pub is_err : {T E : Type 0} (answer : Result T E) (why known : E) → answer ≡ Err why → why ≡ known → answer ≡ Err known
is_err answer why known e is = rw (e, is) refl

-- and what follows for it
pub err_as : {T E : Type 0} (P : E → Type 0) (r : Result T E) (e : E) → IsErrAnd r (λ x. x ≡ e) → P e → IfErr r P
err_as P (Ok x) e is holds = tt
err_as P (Err x) e is holds = subst P (sym is) holds

-- a call more that failed is seen
pub longer : {X : Type 0} (xs : List X) (x : X) → xs ++ x ∷ [] ≡ xs → ⊥
longer xs x e = let count : length (xs ++ x ∷ []) ≡ length xs = ap length e in let more = length-append xs (x ∷ []) in absurd (omega (arith, count, more))

-- a file has one content
pub one_held : (file : Option (List ℕ)) (a b : List ℕ) → file ≡ Some a → file ≡ Some b → a ≡ b
one_held file a b first second = let both : Some a ≡ Some b = sym first ∙ second in cc
