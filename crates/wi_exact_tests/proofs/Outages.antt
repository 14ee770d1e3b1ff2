-- The outages that are asked for keep a problem's bounds.
use Rattle.std.proofs.Common.{◌≡◌, List, Result, Ok, Err, subst, sym}
use Rattle.std.specs.Prelude.{IfOk}
use Rattle.std.specs.List.{All}
use Rattle.std.proofs.lemmas.Bool.{and_parts}
use Rattle.std.proofs.lemmas.List.Elements.{All-weaker}
use Rattle.wi_base.specs.declared.no_memory.NoMemory.{NoMemory}
use Rattle.wi_net.specs.LinkSet.{is_apart}
use Rattle.wi_world.specs.Moves.{AreBounds}
use Rattle.wi_build.specs.Problems.{Problem}
use Rattle.wi_outage.specs.declared.outage.Outage.{Outage}
use Rattle.wi_outage.specs.Outages.{IsOutage}
use Rattle.wi_outage.specs.Survival.{with_down}
use Rattle.wi_outage.proofs.Keeping.{down_kept}

-- a problem's bounds stay bounds while it is down
abbrev pub IsKept : Problem → Outage → Type 0
IsKept problem outage = AreBounds problem.net (with_down problem.bounds outage.links)

is_kept : (problem : Problem) → AreBounds problem.net problem.bounds → (outage : Outage) → IsOutage problem.net problem.bounds outage.links → IsKept problem outage
is_kept problem bounds outage o =
    down_kept problem.net problem.bounds outage.links bounds o.union ((and_parts (is_apart outage.links problem.bounds.down) (is_apart outage.links problem.bounds.up) o.spared).1)

pub are_kept : (r : Result (List Outage) NoMemory) (problem : Problem) (outages : List Outage) → AreBounds problem.net problem.bounds → All (λ outage. IsOutage problem.net problem.bounds outage.links) outages
    → IfOk r (λ o. o ≡ outages) → IfOk r (λ o. All (IsKept problem) o)
are_kept (Ok found) problem outages bounds all is =
    subst (λ (o : List Outage). All (IsKept problem) o) (sym is)
    (All-weaker (λ outage. IsOutage problem.net problem.bounds outage.links) (IsKept problem) (is_kept problem bounds) outages all)
are_kept (Err error) problem outages bounds all is = tt
