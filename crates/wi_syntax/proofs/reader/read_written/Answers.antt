use Rattle.std.proofs.Common.{subst}
use Rattle.wi_syntax.specs.private.Reading.{IsReadTo}
use Rattle.wi_syntax.proofs.Texts.{fault_is}
use Rattle.wi_syntax.proofs.reader.read_written.Goals as goal

pub returns-in-Ok-Some-clause-refused : goal.returns-in-Ok-Some-clause-refused
returns-in-Ok-Some-clause-refused c =
    let stop = subst (λ z. IsReadTo c.args.text.now z c.read_all.new.self) c.in-Ok-Some.field-0-is c.in-Ok-Some.ensures in
    fault_is _ _ stop.0 stop.1
