use Rattle.std.proofs.Common.{◌∙◌, ap}
use Rattle.wi_planjson.specs.declared.paths.Paths.TheInside.{Inside}
use Rattle.wi_planjson.proofs.StartLemmas.{pushed_some, pushed_none}
use Rattle.wi_planjson.proofs.paths.Paths.push.Goals.{in-Some+in_ok-insert, in_default}
use Rattle.wi_planjson.proofs.paths.Paths.push.Goals as goal

pub invariant_of-self-2 : goal.invariant_of-self-2
invariant_of-self-2 c = rw c.push_reserved.ensures.items (elim c.match-first.branch [
  | in-Some+in_ok-insert w ↦ pushed_some c.args.self.now c.self.inside.list.items _ c.args.path _ w.in-Some.link.now c.self.inside.starts.keys _ c.requires c.self.view_is c.as_slice.ensures w.in-Some.ensures.value c.self.invariant
      (ap (λ (s : Inside). s.list.items) w.self-inside-is ∙ c.in_ok-reserve.ensures.items) (ap (λ (s : Inside). s.starts.keys) w.self-inside-is ∙ w.in_ok-insert.ensures.keys)
  | in_default w ↦ pushed_none c.self.inside.list.items _ c.args.path _ _ c.as_slice.ensures w.in_default.ensures.value
      (ap (λ (s : Inside). s.list.items) w.self-inside-is ∙ c.in_ok-reserve.ensures.items) (ap (λ (s : Inside). s.starts.keys) w.self-inside-is ∙ c.self.invariant)
])
