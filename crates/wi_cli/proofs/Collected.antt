-- What a vector's own iterator gives, collected.
use Rattle.std.proofs.Common.{◌≡◌, Result, Ok, Vec, refl, subst, sym}
use Rattle.std.specs.Prelude.{IfOk}
use Rattle.std.specs.Vec.Iter.{into_iter_items, into_iter_steps}
use Rattle.std.specs.declared.vec.IntoIter.{IntoIter}
use Rattle.std.proofs.lemmas.Iterator.{IsCollectResult, items_from_collect}
use Rattle.std.proofs.lemmas.Iterator.Adapters.{YieldsList-from_vec}

pub all_collected : {A Y Z E : Type 0} (given : Result (IntoIter A Y) E) (it : IntoIter A Y) (items : Vec A Z) → given ≡ Ok it → IsCollectResult {E = E} into_iter_steps it (Ok items)
    → IfOk given (λ all. items.items ≡ into_iter_items all)
all_collected {A} {Y} {Z} {E} given it items is ran =
    subst (λ (r : Result (IntoIter A Y) E). IfOk r (λ all. items.items ≡ into_iter_items all)) (sym is)
    (items_from_collect {E = E} (Ok items) ran (YieldsList-from_vec (into_iter_items it) refl it.rest.ok.0))
