-- A text whose pairs all mean links has no fault.
use Rattle.std.proofs.Common.{◌≡◌, ℕ, List, Some, None, ap, sym, ◌∙◌}
use Rattle.std.specs.Option.{option_map}
use Rattle.wi_net.specs.Net.{Net}
use Rattle.wi_syntax.specs.Atoms.{pair_at}
use Rattle.wi_syntax.proofs.Texts.{one_way}
use Rattle.wi_query.specs.declared.query.Query.{Query}
use Rattle.wi_query.specs.declared.fault.QueryFault.TheVariants as query
use Rattle.wi_query.specs.declared.strict.StrictFault.{StrictFault}
use Rattle.wi_query.specs.declared.strict.StrictFault.TheVariants.{InQuery, NoLink}
use Rattle.wi_query.specs.Linked.{first_linkless, IsStrictQuery, IsStrictFault}
use Rattle.wi_query.proofs.Fine.{query_fine}

pub strict_fine : (net : Net) (text : List ℕ) (q : Query) (fault : StrictFault) → IsStrictQuery net text q → IsStrictFault net text fault → fault ≡ InQuery query.Memory
strict_fine net text q (InQuery fault) strict wrong = ap InQuery (query_fine net text q fault strict.0 wrong)
strict_fine net text q (NoLink at) strict wrong =
    let same = ap (λ w. option_map pair_at (first_linkless net w)) (one_way text strict.0.written wrong.1.written strict.0.reads wrong.1.reads) in
    let none : None ≡ Some at = sym (ap (option_map pair_at) strict.1) ∙ (same ∙ wrong.2) in
    cc
