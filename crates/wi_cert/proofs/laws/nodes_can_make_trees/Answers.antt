use Rattle.std.proofs.Common.{◌≡◌, subst, true}
use Rattle.wi_cert.specs.Trees.{can_make}
use Rattle.wi_cert.proofs.TreeLemmas.{can_when, made_when}
use Rattle.wi_cert.proofs.laws.nodes_can_make_trees.Goals as goal

pub returns-clause-some : goal.returns-clause-some
returns-clause-some c = made_when

pub returns-clause-each : goal.returns-clause-each
returns-clause-each c = λ count trees nodes long make. subst (λ n. can_make n trees ≡ true) long (can_when nodes trees make)
