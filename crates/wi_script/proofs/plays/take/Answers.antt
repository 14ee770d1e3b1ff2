use Rattle.std.proofs.Common.{Ok, ap, sym, ◌∙◌}
use Rattle.wi_script.specs.private.Moments.{seen}
use Rattle.wi_script.proofs.PlayLemmas.{hops_now}
use Rattle.wi_script.proofs.plays.take.Goals as goal

pub returns-in-None : goal.returns-in-None
returns-in-None c = λ k.
    hops_now c.args.net.now k (seen c.args.now.now) c.hop_under.new.at c.args.step c.requires.network c.requires.known (sym c.in_ok-hop_under.ensures.cause ∙ c.in-None.is)
    (c.in_ok-hop_under.ensures.on (ap Ok c.in-None.is))
