use Rattle.std.proofs.Common.{◌≡◌, refl, sym, ◌∙◌, subst}
use Rattle.std.specs.Prelude.{IsSome}
use Rattle.std.proofs.lemmas.Result.{IfOk-weaker}
use Rattle.wi_decide.specs.private.Spelled.{Spelled}
use Rattle.wi_build.specs.Problems.{IsAnswering}
use Rattle.wi_rules.specs.Goals.{origins_for}
use Rattle.wi_rules.specs.Numbers.{origins_by}
use Rattle.wi_decide.specs.Spelled.{origin}
use Rattle.wi_world.specs.declared.run.Run.{Run}
use Rattle.wi_decide.proofs.SpellingLemmas.{goal_tells, spelled_same, whole}
use Rattle.wi_decide.proofs.spelling.run_of.Goals as goal

pub spell-requires-clause-names : goal.spell-requires-clause-names
spell-requires-clause-names g c = (goal_tells c.requires.spells.0 c.args.net.now c.args.layout.now (g.S.System.rules c.args.sys.now) c.args.ids.now c.requires.spells.1 c.requires.spells.2 c.requires.spells.3).1.named

pub into_run-requires : goal.into_run-requires
into_run-requires g c =
    let t = goal_tells c.requires.spells.0 c.args.net.now c.args.layout.now (g.S.System.rules c.args.sys.now) c.args.ids.now c.requires.spells.1 c.requires.spells.2 c.requires.spells.3 in
    let is : c.in_ok-spelling.spelling ≡ whole t.0 = c.in_ok-spelling.ensures ∙ t.1.whole in
    let P : Spelled → Type 0 = λ s. IsSome s.first in
    subst P (sym is) refl

pub returns : goal.returns
returns g c =
    IfOk-weaker c.into_run.result _ _
    (λ run told problem w are goal.
    (let t = goal_tells problem c.args.net.now c.args.layout.now (g.S.System.rules c.args.sys.now) c.args.ids.now w are goal in
    let same : run ≡ t.0 = spelled_same c.in_ok-spelling.spelling run t.0 told (c.in_ok-spelling.ensures ∙ t.1.whole) in
    let P : Run → Type 0 = λ r. IsAnswering problem w r × (origins_by origin goal.0 ≡ origins_for r) in
    subst P (sym same) (t.1.answers, t.1.told)))
    c.into_run.ensures
