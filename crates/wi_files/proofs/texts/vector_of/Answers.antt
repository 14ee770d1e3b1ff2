use Rattle.std.proofs.Common.{ℕ, List, Option, ap, subst, sym}
use Rattle.std.specs.Borrow.{Bor}
use Rattle.std.specs.Option.{option_map}
use Rattle.wi_files.specs.Asked.{IsBadWeights}
use Rattle.wi_files.proofs.texts.vector_of.Goals as goal

pub returns-in-Err-clause-refused : goal.returns-in-Err-clause-refused
returns-in-Err-clause-refused c =
    subst (λ o. IsBadWeights o c.refusal_for.result) (sym (ap (λ (o : Option (Bor (List ℕ))). option_map (λ s. s.now) o) c.in-Some.is)) (c.refusal_for.ensures c.in-Some.text.now c.in-Err.ensures.refused)
