-- It asks for the path's last router.
use Rattle.std.proofs.Common.{◌∙◌, ap}
use Rattle.wi_gen.specs.Texts.{query_text}
use Rattle.wi_gen.proofs.texts.query_text.Goals as goal

pub returns : goal.returns
returns c = c.in_ok-format.ensures.ok ∙ ap (λ n. query_text (record c.args.ring.now { path = n })) c.path-last.ensures
