use Rattle.std.proofs.Common.{◌≡◌, ap, List, ℕ, map, None, string_bytes}
use Rattle.wi_net.specs.Names.{place}
use Rattle.wi_net.proofs.FindingLemmas.{names_added}
use Rattle.wi_net.proofs.names.Names.add.Goals as goal

pub returns-clause-ok : goal.returns-clause-ok
returns-clause-ok c =
    let absent : place (map string_bytes c.self.inside.texts.keys) c.args.name.now ≡ None = rw (ap (λ (p : List (List ℕ) × ℕ). p.0) c.self.view_is) c.requires in
    rw (← ap (λ (p : List (List ℕ) × ℕ). p.0) c.self.view_is) (names_added c.self.inside.texts.keys _ c.in_ok-text.text c.args.name.now c.in_ok-text.ensures.ok absent c.in_ok-insert.ensures.keys)
