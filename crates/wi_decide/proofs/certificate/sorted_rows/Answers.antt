use Rattle.std.proofs.Common.{rules}
use Rattle.wi_decide.proofs.RisingLemmas.{sorted_rows}
use Rattle.wi_decide.proofs.certificate.sorted_rows.Goals as goal

pub returns-clause-sorted : goal.returns-clause-sorted
returns-clause-sorted c = sorted_rows c.sort_unstable_by_key.new.self.items c.sort_unstable_by_key.ensures.sorted (λ a r q k. search rules)
