use Rattle.std.proofs.Common.{◌≡◌, ◌∙◌, ◌<◌, ◌*◌, ◌%◌, ◌^◌, if◌then◌else◌, true, false, Some, sym, ap, not, subst}
use Rattle.std.specs.Int.Bits.{bit_or}
use Rattle.std.specs.HashMap.{get}
use Rattle.wi_reduce.specs.private.Worklists.{eq_by_parts}
use Rattle.wi_reduce.specs.private.Bits.{has_bit, word_at}
use Rattle.wi_reduce.proofs.Bitwise.{told_set, told_unset, added}
use Rattle.wi_reduce.proofs.bits.Bits.add.Goals as goal

pub returns-then-word-rest-eq1-clause-told : goal.returns-then-word-rest-eq1-clause-told
returns-then-word-rest-eq1-clause-told g c =
    let is : has_bit g.A.PartialEq.eq g.B.PartialEq.eq g.B.Number.part g.B.Number.rest c.args.self.now.words c.args.pair ≡ true =
    rw (sym c.cut-rest.ensures.part, sym c.cut-rest.ensures.rest, sym c.word-word.ensures) (told_set c.word-word.result c.cut-rest.result.1 c.if-word-rest-eq1.true) in
    sym (ap not is)

pub returns-clause-told : goal.returns-clause-told
returns-clause-told g c =
    let is : has_bit g.A.PartialEq.eq g.B.PartialEq.eq g.B.Number.part g.B.Number.rest c.args.self.now.words c.args.pair ≡ false =
    rw (sym c.cut-rest.ensures.part, sym c.cut-rest.ensures.rest, sym c.word-word.ensures) (told_unset c.word-word.result c.cut-rest.result.1 c.if-word-rest-eq1.false) in
    sym (ap not is)

pub returns-clause-added : goal.returns-clause-added
returns-clause-added g c =
    let A = g.met.A in
    let B = g.met.B in
    let eq = eq_by_parts g.A.PartialEq.eq g.B.PartialEq.eq in
    let is = c.word-word.ensures ∙ ap (λ p. word_at g.A.PartialEq.eq g.B.PartialEq.eq c.args.self.now.words (c.args.pair.0, p)) c.cut-rest.ensures.part in
    let cut = subst (λ k. (q : _) → get eq c.insert.new.self q ≡ (if eq (c.args.pair.0, c.cut-rest.result.0) q then Some (bit_or c.word-word.result (1 * 2 ^ k % 2 ^ 64)) else get eq c.args.self.now.words q)) c.cut-rest.ensures.rest c.in_ok-insert.ensures.updates.0 in
    let put = subst (λ p. (q : _) → get eq c.insert.new.self q ≡ (if eq (c.args.pair.0, p) q then Some (bit_or c.word-word.result (1 * 2 ^ g.B.Number.rest c.args.pair.1 % 2 ^ 64)) else get eq c.args.self.now.words q)) c.cut-rest.ensures.part cut in
    added g.A.PartialEq.eq g.B.PartialEq.eq g.B.Number.part g.B.Number.rest A.Eq.laws B.Eq.laws A.Number.same B.Number.same B.Number.whole
    c.args.self.now.words c.insert.new.self c.args.pair c.word-word.result is (subst (λ k. k < 64) c.cut-rest.ensures.rest c.cut-rest.ensures.below) put
