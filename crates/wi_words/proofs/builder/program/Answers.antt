use Rattle.wi_words.proofs.Building.{needs_subcommand}
use Rattle.wi_words.proofs.builder.program.Goals as goal

pub returns : goal.returns
returns c =
    c.with_command.ensures _ _
    (c.with_command-whole-13.ensures _ _
    (c.with_command-whole-12.ensures _ _
    (c.with_command-whole-11.ensures _ _
    (c.with_command-whole-10.ensures _ _
    (c.with_command-whole-9.ensures _ _
    (c.with_command-whole-8.ensures _ _
    (c.with_command-whole-7.ensures _ _
    (c.with_command-whole-6.ensures _ _
    (c.with_command-whole-5.ensures _ _
    (c.with_command-whole-4.ensures _ _
    (c.with_command-whole-3.ensures _ _
    (c.with_command-whole-2.ensures _ _
    (c.with_command-whole.ensures _ _ (needs_subcommand _ _ _ c.new.ensures.app c.subcommand_required.ensures) c.asking.ensures.shape c.asking.ensures.local)
    c.checking.ensures.shape c.checking.ensures.local)
    c.play.ensures.shape c.play.ensures.local)
    c.generate.ensures.shape c.generate.ensures.local)
    c.asking-2.ensures.shape c.asking-2.ensures.local)
    c.checking-2.ensures.shape c.checking-2.ensures.local)
    c.tolerate.ensures.shape c.tolerate.ensures.local)
    c.planning.ensures.shape c.planning.ensures.local)
    c.packets.ensures.shape c.packets.ensures.local)
    c.stack.ensures.shape c.stack.ensures.local)
    c.auditing.ensures.shape c.auditing.ensures.local)
    c.outages.ensures.shape c.outages.ensures.local)
    c.planning-2.ensures.shape c.planning-2.ensures.local)
    c.draw.ensures.shape c.draw.ensures.local
