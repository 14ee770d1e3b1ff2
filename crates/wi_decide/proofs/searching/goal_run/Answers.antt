use Rattle.std.proofs.Common.{rules}
use Rattle.std.proofs.Common.{arith}
use Rattle.wi_build.specs.Encodings.{encoding_of}
use Rattle.wi_build.specs.Systems.{rules_by}
use Rattle.wi_witness.proofs.Tables.{least_derivation}
use Rattle.wi_decide.proofs.AnswerLemmas.{long_fits}
use Rattle.wi_decide.proofs.searching.goal_run.Goals as goal

pub unfold-requires-clause-derived : goal.unfold-requires-clause-derived
unfold-requires-clause-derived c = (rules_by (encoding_of c.requires.table.0), (0, 0, 1), least_derivation _ _ _ _ _ _ _ _ c.requires.table.2.least)

pub overflow_cast-result : goal.overflow_cast-result
overflow_cast-result c =
    omega (arith, long_fits c.requires.table.0 c.requires.table.1 c.args.table.now _ c.in-Err-TooLong.effort c.requires.table.2 c.requires.reached (rw c.in-Err-TooLong.field-0-is at c.in-Err-TooLong.ensures.refusal))

pub returns-in-Ok-clause-run : goal.returns-in-Ok-clause-run
returns-in-Ok-clause-run c problem cut has = c.in-Ok.ensures.run (rules_by (encoding_of problem)) (0, 0, 1) (least_derivation _ _ _ _ _ _ _ _ has.least)

pub returns-in-Ok-clause-short : goal.returns-in-Ok-clause-short
returns-in-Ok-clause-short c = search rules

pub returns-in-Err-TooLong-clause-refused : goal.returns-in-Err-TooLong-clause-refused
returns-in-Err-TooLong-clause-refused c = search rules
