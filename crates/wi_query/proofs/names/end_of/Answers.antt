-- The interface is told.
use Rattle.std.proofs.Common.{sym, ◌∙◌}
use Rattle.wi_query.proofs.Firsts.{interface_told}
use Rattle.wi_query.proofs.names.end_of.Goals as goal

pub returns-in_ok-text_of-in-None-clause-refused : goal.returns-in_ok-text_of-in-None-clause-refused
returns-in_ok-text_of-in-None-clause-refused c =
    interface_told c.args.net.now _ _ c.in-Interface.router c.in-Interface.interface _ _ _ _ c.in-Interface.is c.in_ok-id-in-Interface.ensures.found
    c.as_str.ensures (sym c.link_by.ensures.value ∙ c.in-None.is) c.at.ensures c.in_ok-text_of-in-None.ensures.text
