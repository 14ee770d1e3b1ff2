-- The word of an answer, by the verdict on a least run.
use Rattle.wi_world.specs.declared.answer.Word.{Word}
use Rattle.wi_world.specs.declared.answer.Word.TheVariants.{Yes, Inconclusive}
use Rattle.wi_world.specs.declared.answer.Verdict.{Verdict}
use Rattle.wi_world.specs.declared.answer.Verdict.TheVariants.{Fits, Exceeds, UsesFailed}

-- the answer's word, by the verdict of a least run
abbrev pub word_for : Verdict → Word
word_for (Fits fails) = Yes
word_for (Exceeds n) = Inconclusive
word_for (UsesFailed e) = Inconclusive
