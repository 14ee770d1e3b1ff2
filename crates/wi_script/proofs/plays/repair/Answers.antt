use Rattle.std.proofs.Common.{◌∙◌, ap, sym}
use Rattle.wi_net.specs.LinkSet.{outside}
use Rattle.wi_script.specs.private.Moments.{seen}
use Rattle.wi_script.proofs.PlayLemmas.{repairs_now}
use Rattle.wi_script.proofs.plays.repair.Goals as goal

pub returns : goal.returns
returns c = λ k.
    repairs_now c.args.net.now k (seen c.args.now.now) c.remove_all.new.set c.args.link c.requires (sym c.contains.ensures ∙ c.if-not-contains.false)
    (c.remove_all.ensures ∙ ap (outside c.args.now.now.fails) c.in_ok-repaired.ensures)
