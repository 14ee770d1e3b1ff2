-- What is found of a policy during an outage, from what is known of its question or by a search.
use Rattle.std.proofs.Common.{◌≡◌, ◌∙◌, Bool, true, false, List, [], Some, None, Result, Ok, Err, ap, sym, refl, subst}
use Rattle.std.specs.Prelude.{string_bytes, IfOk}
use Rattle.std.specs.Option.{IfSome}
use Rattle.wi_base.specs.declared.no_memory.NoMemory.{NoMemory}
use Rattle.wi_net.specs.declared.bounds.Bounds.{Bounds}
use Rattle.wi_net.specs.declared.parts.LinkId.{LinkId}
use Rattle.wi_net.specs.LinkSet.{is_apart}
use Rattle.wi_net.specs.Net.{Net}
use Rattle.wi_query.specs.declared.query.Query.{Query}
use Rattle.wi_build.specs.Problems.{Problem, IsProblem, problem_of}
use Rattle.wi_policy.specs.declared.policy.Policy.{Policy}
use Rattle.wi_policy.specs.Policies.{IsAsked}
use Rattle.wi_settle.specs.declared.found.Found.{Found}
use Rattle.wi_settle.specs.Findings.{AskAlike, IsFound, IsOutageOf, IsSettled, Settling, during}
use Rattle.wi_audit.specs.declared.question.Question.{Question}
use Rattle.wi_audit.specs.Outages.{IsTried}
use Rattle.wi_audit.specs.Questions.{IsQuestion, IsTaken}
use Rattle.wi_audit.specs.private.Trials.{IsFoundIn}
use Rattle.wi_audit.proofs.Readings.{read_alike}

-- a policy isn't asked where its bounds know a link of the outage to be up
pub not_asked : (net : Net) (given : Bounds) (policy : Policy) (question : Question) (links : List LinkId) (b : Bool) → IsQuestion net given policy question → b ≡ is_apart links question.bounds.up → b ≡ false → IsTried net given links policy None
not_asked net given policy question links b q tested meets = record {
  query = q.query;
  asked = q.asked;
  problem_is = q.known.problem_is;
  found = ap (λ (x : Bounds). is_apart links x.up) (sym q.known.bounds_is) ∙ sym tested ∙ meets;
}

up_apart : (net : Net) (given : Bounds) (policy : Policy) (question : Question) (links : List LinkId) (b : Bool) → (q : IsQuestion net given policy question) → b ≡ is_apart links question.bounds.up → b ≡ true → is_apart links q.query.bounds.up ≡ true
up_apart net given policy question links b q tested apart_is = ap (λ (x : Bounds). is_apart links x.up) (sym q.known.bounds_is) ∙ sym tested ∙ apart_is

-- what is known of a question is what is found
pub known_tried : (net : Net) (given : Bounds) (policy : Policy) (question : Question) (links : List LinkId) (single b : Bool) (found : Found) → IsQuestion net given policy question → IsTaken net single links → b ≡ is_apart links question.bounds.up → b ≡ true
    → ((problem : Problem) → IsProblem problem → problem.net ≡ net → problem.bounds ≡ question.bounds → IsSettled problem question.settled → IsOutageOf problem single links → IfSome (Some found) (IsFound (during problem links)))
    → IsTried net given links policy (Some found)
known_tried net given policy question links single b found q taken tested apart_is known =
    let apart = up_apart net given policy question links b q tested apart_is in
    record {
      query = q.query;
      asked = q.asked;
      problem_is = q.known.problem_is;
      found = (apart, known (problem_of net q.query []) q.known.problem_is refl (sym q.known.bounds_is) q.known.settled (record { union = taken.union; group = taken.group; up = apart }));
    }

-- however the query is read, the outage has no link that is known to be up
pub all_apart : (net : Net) (given : Bounds) (policy : Policy) (question : Question) (links : List LinkId) (b : Bool) → IsQuestion net given policy question → b ≡ is_apart links question.bounds.up → b ≡ true
    → (query : Query) → IsAsked net given (string_bytes policy.query) query → is_apart links query.bounds.up ≡ true
all_apart net given policy question links b q tested apart_is query asked =
    let alike = read_alike net given (string_bytes policy.query) query q.query asked q.asked in
    ap (λ (x : Bounds). is_apart links x.up) alike.bounds ∙ up_apart net given policy question links b q tested apart_is

-- what a search finds, and what is known then
pub searched_tried : (net : Net) (given : Bounds) (policy : Policy) (question : Question) (links : List LinkId) (b : Bool) (old new : Settling) (found : Found) → IsQuestion net given policy question → b ≡ is_apart links question.bounds.up → b ≡ true
    → IsFoundIn net given links policy old new found → IsTried net given links policy (Some found)
searched_tried net given policy question links b old new found q tested apart_is sought = record {
  query = sought.query;
  asked = sought.asked;
  problem_is = sought.problem_is;
  found = (all_apart net given policy question links b q tested apart_is sought.query sought.asked, sought.is);
}

pub searched_known : (net : Net) (given : Bounds) (policy : Policy) (question new : Question) (links : List LinkId) (found : Found) → IsQuestion net given policy question → IsFoundIn net given links policy question.settled new.settled found → new.bounds ≡ question.bounds → IsQuestion net given policy new
searched_known net given policy question new links found q sought same = record {
  query = q.query;
  asked = q.asked;
  known = record {
    problem_is = q.known.problem_is;
    bounds_is = same ∙ q.known.bounds_is;
    settled = sought.known (problem_of net q.query []) (read_alike net given (string_bytes policy.query) q.query sought.query q.asked sought.asked) q.known.settled;
  };
}

-- a search of a problem is one of the policy that asks it
pub searched : (r : Result Found NoMemory) (net : Net) (given : Bounds) (links : List LinkId) (policy : Policy) (old new : Settling) (query : Query) (problem : Problem) → IsAsked net given (string_bytes policy.query) query → problem ≡ problem_of net query []
    → IsProblem problem → IfOk r (IsFound (during problem links)) → ((known : Problem) → AskAlike known problem → IsSettled known old → IsSettled known new) → IfOk r (IsFoundIn net given links policy old new)
searched (Err e) net given links policy old new query problem asked is keeps found known = tt
searched (Ok f) net given links policy old new query problem asked is keeps found known = record {
  query = query;
  asked = asked;
  problem_is = subst IsProblem is keeps;
  is = subst (λ (p : Problem). IsFound (during p links) f) is found;
  known = subst (λ (p : Problem). (other : Problem) → AskAlike other p → IsSettled other old → IsSettled other new) is known;
}
