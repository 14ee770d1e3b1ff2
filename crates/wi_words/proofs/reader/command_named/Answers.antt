use Rattle.std.proofs.Common.{◌∙◌}
use Rattle.clap.specs.Words.{found_of, rows_of}
use Rattle.wi_words.proofs.Names.{asks}
use Rattle.wi_words.proofs.reader.command_named.Goals as goal

pub returns-in-play : goal.returns-in-play
returns-in-play c = record { command = rw c.in-play.is c.play_of.ensures.command; fit = c.play_of.ensures.fit }

pub returns-in-gen : goal.returns-in-gen
returns-in-gen c = record { command = rw c.in-gen.is c.gen_of.ensures.command; fit = c.gen_of.ensures.fit }

pub returns-in-protect : goal.returns-in-protect
returns-in-protect c = record { command = rw c.in-protect.is c.protect_of.ensures.command; fit = c.protect_of.ensures.fit }

pub returns-in-stack : goal.returns-in-stack
returns-in-stack c = record { command = rw c.in-stack.is c.stack_of.ensures.command; fit = c.stack_of.ensures.fit }

pub returns-in-audit : goal.returns-in-audit
returns-in-audit c = record { command = rw c.in-audit.is c.audit_of.ensures.command; fit = c.audit_of.ensures.fit }

pub returns-in-outages : goal.returns-in-outages
returns-in-outages c = record { command = rw c.in-outages.is c.outages_of.ensures.command; fit = c.outages_of.ensures.fit }

pub returns-in-bypass : goal.returns-in-bypass
returns-in-bypass c = record { command = rw c.in-bypass.is c.bypass_of.ensures.command; fit = c.bypass_of.ensures.fit }

pub returns-in-draw : goal.returns-in-draw
returns-in-draw c = record { command = rw c.in-draw.is c.draw_of.ensures.command; fit = c.draw_of.ensures.fit }

pub returns-in_default-clause-command : goal.returns-in_default-clause-command
returns-in_default-clause-command c =
    c.asked_of.ensures.command ∙ asks _ (rows_of (found_of c.args.matches.now)) c.in_default.not-play c.in_default.not-gen c.in_default.not-protect c.in_default.not-stack c.in_default.not-audit c.in_default.not-outages c.in_default.not-bypass c.in_default.not-draw
