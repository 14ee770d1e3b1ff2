use Rattle.std.proofs.Common.{◌≡◌, List, length, nat_lt, sym, subst, true}
use Rattle.std.specs.List.{list_all}
use Rattle.wi_net.specs.declared.parts.Link.{Link}
use Rattle.wi_net.proofs.KeptLemmas.{risks_within}
use Rattle.wi_net.proofs.builder.NetworkBuilder.finish.Goals as goal

pub of-requires-clause-within : goal.of-requires-clause-within
of-requires-clause-within c =
    let P : List Link → Type 0 = λ links. list_all (λ (l : Link). nat_lt l.risk.0 (length links)) links ≡ true in
    subst P (sym c.as_slice.ensures) (risks_within _ c.self.invariant.net)
