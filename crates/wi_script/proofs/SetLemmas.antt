-- Taking links out of a set, one after another.
use Rattle.std.proofs.Common.{◌≡◌, ℕ, ◌≤◌, Bool, true, false, nat_eq, List, [], ◌∷◌, ap, length, drop, refl, arith, sym, ◌∙◌}
use Rattle.std.proofs.lemmas.Bool.Decides.{nat_tests}
use Rattle.std.proofs.lemmas.List.{drop_all}
use Rattle.wi_net.specs.declared.parts.LinkId.{LinkId}
use Rattle.wi_net.specs.LinkSet.{has, without, outside}

flip : (m n : ℕ) → nat_eq m n ≡ nat_eq n m
flip m n = grind (arith, nat_tests)

-- taking out one link and then others is taking out all
pub outside_next : (s : List LinkId) (e : LinkId) (es : List LinkId) → outside (without s e) es ≡ outside s (e ∷ es)
outside_next [] e es = refl
outside_next (x ∷ s) e es = go (nat_eq x.0 e.0) (has es x) refl refl (outside_next s e es)
  where
    go : (b c : Bool) → nat_eq x.0 e.0 ≡ b → has es x ≡ c → outside (without s e) es ≡ outside s (e ∷ es) → outside (without (x ∷ s) e) es ≡ outside (x ∷ s) (e ∷ es)
    go true c eb ec rest = rw (eb, flip e.0 x.0, eb) rest
    go false true eb ec rest = rw (eb, flip e.0 x.0, eb, ec) rest
    go false false eb ec rest = rw (eb, flip e.0 x.0, eb, ec) (ap (λ t. x ∷ t) rest)

pub outside_none : (s : List LinkId) → outside s [] ≡ s
outside_none [] = refl
outside_none (x ∷ s) = ap (λ t. x ∷ t) (outside_none s)

pub outside_end : (s fewer whole : List LinkId) (i : ℕ) → outside s (drop i fewer) ≡ whole → length fewer ≤ i → s ≡ whole
outside_end s fewer whole i kept all = sym (outside_none s) ∙ (rw (drop_all i fewer all) at kept)
