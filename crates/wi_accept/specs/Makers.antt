-- The certificate that a maker writes for an answer.
use Rattle.std.specs.Prelude.{◌≡◌, ◌↔◌, ℕ, List, length, Option, is_some}
use Rattle.std.specs.List.{Contains}
use Rattle.wi_quantity.specs.Weighing.{components}
use Rattle.wi_trace.specs.declared.answer.Answer.{Answer}
use Rattle.wi_pds.specs.Runs.{Least}
use Rattle.wi_pds.specs.Closed.{Listed, Within}
use Rattle.wi_pds.specs.LeastClosed.{AreLeastClosed}
use Rattle.wi_build.specs.Problems.{Problem, asks}
use Rattle.wi_build.specs.Systems.{scale, rules}
use Rattle.wi_cert.specs.declared.certificate.Certificate.{Certificate}
use Rattle.wi_cert.specs.declared.closed.Closed.{Closed}
use Rattle.wi_cert.specs.Text.{IsWritable}
use Rattle.wi_accept.specs.Answers.{answer_of}
use Rattle.wi_accept.specs.Causes.{rows_of, bound_of}

-- a least summary of a listed head, below the bound if there is one
pub record IsLeastWithin (problem : Problem) (heads : List (ℕ × ℕ)) (bound : Option (List ℕ)) (p g q : ℕ) (w : List ℕ) : Type 0 where
  pub head : Contains heads (p, g)
  pub least : Least scale components (rules problem) p g q w
  pub within : Within scale bound w

-- heads and pairs are the least closed ones, and rows, whose weights have so many terms, just the least summaries of these heads
-- below the bound
pub record AreLeast (problem : Problem) (terms : ℕ) (bound : Option (List ℕ)) (c : Closed) : Type 0 where
  pub closed : AreLeastClosed (rules problem) (0, 0) c.heads c.pairs
  pub rows : (p g q : ℕ) (w : List ℕ) → Listed (rows_of terms c.rows) p g q w ↔ IsLeastWithin problem c.heads bound p g q w

-- The certificate can be written, is about packets that are dropped exactly where these are asked for, shows the answer with as many
-- terms as are asked for, and has the least closed heads and pairs, and just the least summaries of these heads that weigh less than
-- what is shown; of a no, all of them.
pub record IsMaker (problem : Problem) (answer : Answer) (c : Certificate) : Type 0 where
  pub writable : IsWritable c
  pub about : is_some c.shown.dropped ≡ (asks problem).drops
  pub terms : c.shown.terms ≡ length problem.vector
  pub shows : answer_of problem c.shown ≡ answer
  pub least : AreLeast problem c.shown.terms (bound_of c.shown) c.closed
