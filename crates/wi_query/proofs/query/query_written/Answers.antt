-- The query, or what is wrong with its parts.
use Rattle.std.proofs.Common.{ℕ, List}
use Rattle.std.proofs.lemmas.Result.{IfOk-weaker, IfErr-weaker}
use Rattle.wi_query.specs.Meaning.{IsQuery}
use Rattle.wi_query.specs.Faults.{IsShort, IsFault}
use Rattle.wi_query.specs.private.Parts.{IsMadeOf, IsWrong}
use Rattle.wi_query.proofs.Queries.{query_is, wrong_fault}
use Rattle.wi_query.proofs.query.query_written.Goals as goal

pub returns-clause-read : goal.returns-clause-read
returns-clause-read c =
    IfOk-weaker c.query_of.result (IsMadeOf c.in_ok-parts.parts c.args.written.now.number) (λ query. (text : List ℕ) → IsShort text c.args.written.now → IsQuery c.args.net.now text query)
    (λ query made text short. query_is c.args.net.now text c.args.written.now c.in_ok-parts.parts query short c.in_ok-parts.ensures.known c.in_ok-parts.ensures.made made) c.query_of.ensures.made

pub returns-clause-refused : goal.returns-clause-refused
returns-clause-refused c =
    IfErr-weaker c.query_of.result (IsWrong c.in_ok-parts.parts c.args.written.now.number) (λ fault. (text : List ℕ) → IsShort text c.args.written.now → IsFault c.args.net.now text fault)
    (λ fault wrong text short. wrong_fault c.args.net.now text c.args.written.now c.in_ok-parts.parts fault short c.in_ok-parts.ensures.known c.in_ok-parts.ensures.made wrong) c.query_of.ensures.wrong
