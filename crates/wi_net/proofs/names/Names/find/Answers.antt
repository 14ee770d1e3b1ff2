use Rattle.std.proofs.Common.{◌∙◌, sym, ap, string_bytes, List, ℕ}
use Rattle.std.specs.Str.{bytes_eq}
use Rattle.wi_net.proofs.FindingLemmas.{position-map}
use Rattle.wi_net.proofs.names.Names.find.Goals as goal

pub returns-clause-value : goal.returns-clause-value
returns-clause-value c = rw (← ap (λ (p : List (List ℕ) × ℕ). p.0) c.self.view_is) (c.get_index_of.ensures.index ∙ sym (position-map string_bytes (bytes_eq c.args.name.now) c.self.inside.texts.keys))
