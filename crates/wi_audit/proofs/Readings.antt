-- A policy's query may be read again: two readings ask the same, within the same bounds.
use Rattle.std.proofs.Common.{ℕ, List, [], ◌∙◌, ap, sym, refl, subst}
use Rattle.wi_net.specs.declared.bounds.Bounds.{Bounds}
use Rattle.wi_net.specs.Net.{Net}
use Rattle.wi_query.specs.declared.query.Query.{Query}
use Rattle.wi_query.specs.Meaning.{AskTheSame}
use Rattle.wi_query.proofs.Alike.{ask_the_same}
use Rattle.wi_build.specs.Problems.{problem_of}
use Rattle.wi_policy.specs.Policies.{IsAsked, joined}
use Rattle.wi_settle.specs.Findings.{AskAlike}

asked_alike : (net : Net) (given : Bounds) (q r : Query) → AskTheSame q r → AskAlike (problem_of net (record q { bounds = joined q.bounds given }) []) (problem_of net (record r { bounds = joined r.bounds given }) [])
asked_alike net given q r same = record {
  net = refl;
  bounds = ap (λ (b : Bounds). joined b given) same.bounds;
  matches = λ run m. record { first = (same.first _).1 m.first; path = (same.path _).1 m.path; last = (same.last _).1 m.last; end = m.end ∙ sym same.drops };
}

pub read_alike : (net : Net) (given : Bounds) (text : List ℕ) (q r : Query) → IsAsked net given text q → IsAsked net given text r → AskAlike (problem_of net q []) (problem_of net r [])
read_alike net given text q r a b =
    let alike = asked_alike net given a.query b.query (ask_the_same net text a.query b.query a.askable.reads.0 b.askable.reads.0) in
    subst (λ (x : Query). AskAlike (problem_of net x []) (problem_of net r [])) (sym a.is) (subst (λ (y : Query). AskAlike (problem_of net (record a.query { bounds = joined a.query.bounds given }) []) (problem_of net y [])) (sym b.is) alike)
