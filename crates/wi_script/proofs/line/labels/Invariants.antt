use Rattle.std.proofs.Common.{length}
use Rattle.std.specs.Str.{IsUtf8}
use Rattle.wi_script.specs.private.Reading.{names_of}
use Rattle.wi_script.proofs.Labels.{Turns}
use Rattle.wi_script.proofs.line.labels.Given as goal

abbrev pub invariant-loop-left : goal.invariant-loop-left
invariant-loop-left l = record {
  utf8 : IsUtf8 l.left;
  turns : Turns (names_of l.labels.items) l.left (length l.initial.left) l.initial.left;
}

abbrev pub decreases-loop-left : goal.decreases-loop-left
decreases-loop-left l = length l.left
