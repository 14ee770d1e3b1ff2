use Rattle.clap.specs.Words.{found_of, rows_of}
use Rattle.wi_words.proofs.Names.{not_wanted}
use Rattle.wi_words.proofs.reader.wanted_named.Goals as goal

pub returns-in_default : goal.returns-in_default
returns-in_default c =
    not_wanted _ (rows_of (found_of c.args.matches.now)) c.in_default.not-verify c.in_default.not-check c.in_default.not-exact c.in_default.not-text c.in_default.not-tolerate c.in_default.not-packets c.in_default.not-draw
