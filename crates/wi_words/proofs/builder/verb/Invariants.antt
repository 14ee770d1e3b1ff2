use Rattle.std.proofs.Common.{◌≡◌, false, take}
use Rattle.clap.specs.Words.{shape_of}
use Rattle.clap.specs.declared.builder.command.Command.TheViews.{out-Command as fields_of}
use Rattle.wi_words.proofs.Building.{with_operands}
use Rattle.wi_words.proofs.builder.verb.Given as goal

abbrev pub invariant-loop-id : goal.invariant-loop-id
invariant-loop-id l = record {
  shape : shape_of l.command ≡ with_operands l.name (take l.id-index l.ids);
  local : (fields_of l.command).has_globals ≡ false;
}
