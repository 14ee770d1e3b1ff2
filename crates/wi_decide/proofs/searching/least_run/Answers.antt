use Rattle.std.proofs.lemmas.List.Elements.{All-from_get_or}
use Rattle.wi_quantity.specs.Weighing.{components}
use Rattle.wi_witness.specs.GoalRuns.{IsNamedRun}
use Rattle.wi_build.specs.Encodings.{encoding_of}
use Rattle.wi_build.specs.Systems.{scale, rules_by}
use Rattle.wi_decide.proofs.AnswerLemmas.{rules_for, spelled_answers, there}
use Rattle.wi_decide.proofs.searching.least_run.Goals as goal

pub run_of-requires-clause-asked : goal.run_of-requires-clause-asked
run_of-requires-clause-asked c = All-from_get_or (λ _. Unit {0}) c.as_slice.result.now (record { p = 0; g = 0; at = 0 }) (λ i low. tt)

pub run_of-requires-clause-spells : goal.run_of-requires-clause-spells
run_of-requires-clause-spells c =
    let system = c.args.system.now in
    let rules = rules_for system _ _ c.keeps.ensures.problem c.network.ensures c.layout.ensures in
    let named = there (λ w. IsNamedRun scale components (rules_by (encoding_of system)) 0 0 1 c.in_ok-ids.ids.items (components w)) c.args.table.now.best c.requires.reached (c.in_ok-ids.ensures.run system c.requires.table.0 c.requires.table.1) in (
      system,
      components named.0,
      rules,
      rw c.as_slice.ensures.value named.1,
    )

pub returns-clause-run : goal.returns-clause-run
returns-clause-run c =
    let system = c.args.system.now in
    let rules = rules_for system _ _ c.keeps.ensures.problem c.network.ensures c.layout.ensures in
    spelled_answers system c.args.table.now.best (rules_by (encoding_of system)) c.in_ok-ids.ids.items c.in_ok-run_of.field-0 c.requires.reached (c.in_ok-ids.ensures.run system c.requires.table.0 c.requires.table.1)
    (λ w named.
    (c.in_ok-run_of.ensures system w rules
    (rw c.as_slice.ensures.value named)).0)
