use Rattle.std.proofs.Common.{◌∙◌, ap, sym, arith}
use Rattle.wi_net.specs.RiskGroups.{union}
use Rattle.wi_script.specs.private.Moments.{seen}
use Rattle.wi_script.proofs.PlayLemmas.{fails_too_many, fails_now}
use Rattle.wi_script.proofs.plays.fail.Goals as goal

pub returns-then-count-k : goal.returns-then-count-k
returns-then-count-k c =
    fails_too_many c.args.net.now c.args.k (seen c.args.now.now) (seen c.args.now.now) c.args.link (sym c.contains.ensures ∙ c.if-contains.false) (omega (arith, c.count.ensures, c.if-count-k.true))

pub returns : goal.returns
returns c =
    fails_now c.args.net.now c.args.k (seen c.args.now.now) c.insert_all.new.set c.args.link c.requires.known c.requires.link (sym c.contains.ensures ∙ c.if-contains.false) (omega (arith, c.count.ensures, c.if-count-k.false))
    (c.in_ok-insert_all.ensures.ok ∙ ap (union c.args.now.now.fails) c.in_ok-failing.ensures)
