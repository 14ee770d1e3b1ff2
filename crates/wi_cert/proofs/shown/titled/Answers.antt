use Rattle.std.proofs.Common.{sym, ◌∙◌, None, Some, refl}
use Rattle.wi_cert.specs.declared.shown.Dropped.TheVariants.{Nowhere}
use Rattle.wi_cert.proofs.LineLemmas.{titled_at, not_titled}
use Rattle.wi_cert.proofs.shown.titled.Goals as goal

pub returns-in_default : goal.returns-in_default
returns-in_default c = sym (not_titled c.args.front.now c.args.line.now (sym c.in_default.ensures))

pub returns-then-is_line : goal.returns-then-is_line
returns-then-is_line c = titled_at c.args.front.now c.args.line.now c.in-Some.rest.now (Some None) c.in-Some.ensures (rw (sym c.is_line.ensures ∙ c.if-is_line.true) refl)

pub returns-then-is_line-2 : goal.returns-then-is_line-2
returns-then-is_line-2 c = titled_at c.args.front.now c.args.line.now c.in-Some.rest.now (Some (Some Nowhere)) c.in-Some.ensures (rw (sym c.is_line.ensures ∙ c.if-is_line.false, sym c.is_line-else-is_line.ensures ∙ c.if-is_line-2.true) refl)

pub returns-else-is_line-2 : goal.returns-else-is_line-2
returns-else-is_line-2 c = titled_at c.args.front.now c.args.line.now c.in-Some.rest.now None c.in-Some.ensures (rw (sym c.is_line.ensures ∙ c.if-is_line.false, sym c.is_line-else-is_line.ensures ∙ c.if-is_line-2.false) refl)
