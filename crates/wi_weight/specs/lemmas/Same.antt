-- Values of the kinds of weight that have the same components are the same.
use Rattle.std.specs.Prelude.{◌≡◌, [], ◌∷◌, refl}
use Rattle.wi_weight.specs.declared.kinds.Effort.{Effort}
use Rattle.wi_weight.specs.declared.kinds.Terms.{Terms}
use Rattle.wi_weight.specs.declared.kinds.Pair.{Pair}

pub same_effort : (v w : Effort) → v.count ∷ [] ≡ w.count ∷ [] → v ≡ w
same_effort v w same = let count : v.count ≡ w.count = cc in rw count refl

pub same_terms : (v w : Terms) → v.first ∷ v.second ∷ v.third ∷ v.fourth ∷ v.fifth ∷ [] ≡ w.first ∷ w.second ∷ w.third ∷ w.fourth ∷ w.fifth ∷ [] → v ≡ w
same_terms v w same =
    let first : v.first ≡ w.first = cc in
    let second : v.second ≡ w.second = cc in
    let third : v.third ≡ w.third = cc in
    let fourth : v.fourth ≡ w.fourth = cc in
    let fifth : v.fifth ≡ w.fifth = cc in
    rw (first, second, third, fourth, fifth) refl

pub same_pair : {A B : Type 0} (v w : Pair A B) → v.first ≡ w.first → v.second ≡ w.second → v ≡ w
same_pair v w first second = rw (first, second) refl
