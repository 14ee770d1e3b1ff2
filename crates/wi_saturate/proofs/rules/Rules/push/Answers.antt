use Rattle.std.proofs.Common.{◌≡◌, ℕ, List, Some, slice_get, ap, sym, subst}
use Rattle.wi_pds.specs.declared.rule.Word2.{Word2}
use Rattle.wi_saturate.specs.declared.rules.Ruled.{Ruled}
use Rattle.wi_saturate.specs.private.Rulings.{RulesView}
use Rattle.wi_saturate.proofs.Shown.{pushed}
use Rattle.wi_saturate.proofs.rules.Rules.push.Goals as goal

pub returns : goal.returns
returns g c =
    let rule = c.args.ruled.rule in
    let written : Word2 → Ruled _ = λ word. record {
      head = c.args.ruled.head;
      at = c.args.ruled.at;
      rule = record { weight = rule.weight; from = rule.from; to = rule.to; tag = rule.tag; top = rule.top; word = word };
    } in
    let heads_are = ap (λ (v : RulesView _). v.heads) (sym c.self.view_is) in
    pushed c.self.inside.heads.now c.self.inside.sides c.number_of.new.self c.number_of.ensures.more.0 c.number_of.ensures.more.1 c.self.inside.links.items c.push.new.self.items c.args.ruled.head c.in_ok-number.number _ (rule.from, rule.top) c.args.ruled
    c.self.invariant (ap (λ v. v.items) c.in_ok-push.ensures.ok) (subst (λ (hs : List (ℕ × ℕ)). slice_get hs c.args.ruled.head ≡ Some (rule.from, rule.top)) heads_are c.requires) c.in_ok-number.ensures.there (ap written c.without_top-word.ensures)
    c.args.self.now c.self.view_is
