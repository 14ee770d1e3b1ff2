use Rattle.std.proofs.Common.{◌∙◌, ap, List, ℕ}
use Rattle.std.proofs.lemmas.Result.{IfOk-at_ok}
use Rattle.wi_net.proofs.FindingLemmas.{names_put, number_put}
use Rattle.wi_net.proofs.names.Names.put.Goals as goal

pub returns-clause-names : goal.returns-clause-names
returns-clause-names c = rw (← ap (λ (p : List (List ℕ) × ℕ). p.0) c.self.view_is) (names_put c.self.inside.texts.keys _ c.args.text (IfOk-at_ok _ c.unwrap-number.ensures c.insert_full.ensures.keys))

pub returns-clause-number : goal.returns-clause-number
returns-clause-number c = rw (← ap (λ (p : List (List ℕ) × ℕ). p.0) c.self.view_is) (IfOk-at_ok _ c.unwrap-number.ensures c.insert_full.ensures.index ∙ number_put c.self.inside.texts.keys c.args.text)
