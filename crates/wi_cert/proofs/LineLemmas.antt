-- Lines, and what the functions on slices say of them.
use Rattle.std.specs.Prelude.{◌≡◌, ◌≢◌, ℕ, true, false, List, [], ◌∷◌, ◌++◌, Option, Some, None, option_map, refl, ◌==◌, codes, if◌then◌else◌, MatchOption}
use Rattle.std.specs.Option.{option_map_or}
use Rattle.std.specs.Str.{bytes_eq}
use Rattle.std.proofs.Common.{sym, ◌∙◌, arith, Bor}
use Rattle.std.proofs.lemmas.Bool.Decides.{nat_tests}
use Rattle.wi_cert.specs.declared.shown.Dropped.{Dropped}
use Rattle.wi_cert.specs.declared.shown.Dropped.TheVariants.{Nowhere}
use Rattle.wi_cert.specs.Numbers.{after}
use Rattle.wi_cert.specs.Shown.{titled}
use Rattle.wi_cert.proofs.Cases.{by_test, nothing}

pub after_whole : (front rest : List ℕ) → after front (front ++ rest) ≡ Some rest
after_whole [] rest = refl
after_whole (c ∷ cs) rest = let e : (c == c) ≡ true = grind (arith, nat_tests) in rw e (after_whole cs rest)

pub after_some : (front line rest : List ℕ) → after front line ≡ Some rest → line ≡ front ++ rest
after_some [] line rest h = cc
after_some (c ∷ cs) [] rest h = cc
after_some (c ∷ cs) (b ∷ bs) rest h = by_test (b == c)
    (λ (e : (b == c) ≡ true). let same : b ≡ c = grind (arith, nat_tests) in let tail : bs ≡ cs ++ rest = after_some cs bs rest (rw e at h) in cc)
    (λ (e : (b == c) ≡ false). nothing rest (rw e at h))

after_none : (front line : List ℕ) → ((rest : List ℕ) → line ≢ front ++ rest) → None ≡ after front line
after_none front line h = go (after front line) refl
  where
    go : (o : Option (List ℕ)) → after front line ≡ o → None ≡ o
    go None e = refl
    go (Some rest) e = absurd (h rest (after_some front line rest e))

pub after_is : (front line : List ℕ) (r : Option (Bor (List ℕ))) → MatchOption r ((rest : List ℕ) → line ≢ front ++ rest) (λ x. line ≡ front ++ x.now) → option_map (λ x. x.now) r ≡ after front line
after_is front line None h = after_none front line h
after_is front line (Some x) h = rw h (sym (after_whole front x.now))

-- the version stands behind the front
abbrev version_of : List ℕ → Option (Option Dropped)
version_of rest = if bytes_eq rest (codes "1") then Some None else if bytes_eq rest (codes "2") then Some (Some Nowhere) else None

behind_front : (front line text : List ℕ) → bytes_eq line (front ++ text) ≡ option_map_or (λ rest. bytes_eq rest text) (after front line) false
behind_front [] line text = refl
behind_front (c ∷ cs) [] text = refl
behind_front (c ∷ cs) (b ∷ bs) text = by_test (b == c)
    (λ (e : (b == c) ≡ true). rw e (behind_front cs bs text))
    (λ (e : (b == c) ≡ false). rw e refl)

pub titled_by : (front line rest : List ℕ) → after front line ≡ Some rest → titled front line ≡ version_of rest
titled_by front line rest h = rw (behind_front front line (codes "1"), behind_front front line (codes "2"), h) refl

pub titled_at : (front line rest : List ℕ) (v : Option (Option Dropped)) → Some rest ≡ after front line → version_of rest ≡ v → v ≡ titled front line
titled_at front line rest v h e = sym (titled_by front line rest (sym h) ∙ e)

pub not_titled : (front line : List ℕ) → after front line ≡ None → titled front line ≡ None
not_titled front line h = rw (behind_front front line (codes "1"), behind_front front line (codes "2"), h) refl
