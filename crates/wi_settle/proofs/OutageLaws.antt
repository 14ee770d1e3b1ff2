-- What an exact answer tells of outages.
use Rattle.std.proofs.Common.{◌≡◌, ℕ, ◌+◌, ◌≤◌, Bool, true, false, not, nat_le, List, [], ◌∷◌, Option, Some, None, Result, Ok, Err, inl, inr, arith, ap, sym, ◌∙◌, subst}
use Rattle.std.proofs.lemmas.Bool.{le-leb, or_cases, not_from_false, true≢false}
use Rattle.std.proofs.lemmas.List.Elements.{All-nil, All-push, All-head, All-tail}
use Rattle.std.specs.List.{All, list_any}
use Rattle.std.specs.Prelude.{OnErr, OnOk}
use Rattle.std.specs.Option.{IfSome, option_map_or}
use Rattle.wi_net.specs.declared.parts.LinkId.{LinkId}
use Rattle.wi_net.specs.declared.bounds.Bounds.{Bounds}
use Rattle.wi_net.specs.LinkSet.{has, is_apart, is_within, outside}
use Rattle.wi_net.specs.RiskGroups.{union}
use Rattle.wi_net.specs.Net.{Net, links_where, risk_count, widened}
use Rattle.wi_net.proofs.SetLemmas.{has_where, apart_has, union_link}
use Rattle.wi_net.proofs.CountLemmas.{count_within}
use Rattle.wi_world.specs.Holds.{Matches}
use Rattle.wi_world.specs.Moves.{AreBounds, IsAllowed, IsBounded, is_trace}
use Rattle.wi_world.specs.Runs.{used_by}
use Rattle.wi_base.specs.declared.no_memory.NoMemory.{NoMemory}
use Rattle.wi_build.specs.Problems.{Problem, IsProblem, allowing, asks, within}
use Rattle.wi_branch.specs.Tolerance.{HasTrace}
use Rattle.wi_outage.specs.Survival.{is_survived, with_down, with_k, with_up}
use Rattle.wi_outage.proofs.Unions.{apart_turned, apart_union, union_whole, whole_rising}
use Rattle.wi_outage.proofs.Surviving.{survived}
use Rattle.wi_outage.proofs.Settling.{at_one_more, kept_up}
use Rattle.wi_settle.specs.declared.found.Found.{Found}
use Rattle.wi_settle.specs.declared.settled.Witness.{Witness}
use Rattle.wi_settle.specs.declared.settled.Reply.{Reply}
use Rattle.wi_settle.specs.declared.settled.Reply.TheVariants.{Yes, No, Open}
use Rattle.wi_settle.specs.Findings.{AskAlike, during, IsFound, IsWitness, IsNoneBesides, IsOutageOf, IsSettled, Settling}
use Rattle.wi_settle.specs.private.Asking.{AreKept, IsReply, begun, counted, found_of, free_groups, kept_by, none_noted, noted}
use Rattle.wi_settle.proofs.SetLaws.{within_self, within_union, within_on, within_second, apart_within, union_within, outside_apart, outside_whole, others_whole}

bounded : (problem : Problem) → IsProblem problem → IsBounded problem.net problem.bounds
bounded problem p = record { network = p.network; bounds_of = p.bounds_of }

-- ---- what is found of a problem

pub found_is : (problem : Problem) (reply : Reply) → IsReply problem reply → IsFound problem (found_of reply)
found_is problem (Yes witness) h = h.0
found_is problem No h = h
found_is problem Open h = h

-- ---- runs

-- a run that was found within bounds that know more is one within those that know less
pub witness_within : (problem : Problem) (bounds : Bounds) (witness : Witness) → is_within problem.bounds.down bounds.down ≡ true → is_within problem.bounds.up bounds.up ≡ true
    → IsWitness (within problem bounds) witness → IsWitness problem witness
witness_within problem bounds witness down up h = record {
  run = h.run;
  union = h.union;
  down = within_on problem.bounds.down bounds.down witness.fails down h.down;
  up = apart_within witness.fails problem.bounds.up bounds.up h.up up;
  trace = h.trace;
  matches = record { first = h.matches.first; path = h.matches.path; last = h.matches.last; end = h.matches.end };
  used = h.used;
}

-- one that is of the same question
alike_witness : (known problem : Problem) (witness : Witness) → AskAlike known problem → IsWitness problem witness → IsWitness known witness
alike_witness known problem witness alike h = record {
  run = h.run;
  union = subst (λ (n : Net). widened n witness.fails ≡ witness.fails) (sym alike.net) h.union;
  down = subst (λ (b : Bounds). is_within b.down witness.fails ≡ true) (sym alike.bounds) h.down;
  up = subst (λ (b : Bounds). is_apart witness.fails b.up ≡ true) (sym alike.bounds) h.up;
  trace = subst (λ (n : Net). is_trace n witness.fails h.run ≡ true) (sym alike.net) h.trace;
  matches = subst (λ (n : Net). Matches n (asks known) h.run) (sym alike.net) (alike.matches h.run (record { first = h.matches.first; path = h.matches.path; last = h.matches.last; end = h.matches.end }));
  used = subst (λ (n : Net). witness.used ≡ used_by n h.run) (sym alike.net) h.used;
}

-- a search more, by which a run was found, or none
with_witness : (problem : Problem) (settled : Settling) (witness : Witness) → IsWitness problem witness → IsSettled problem settled → IsSettled problem (noted settled (Yes witness))
with_witness problem settled witness h s = record { own = s.own; witnesses = All-push (IsWitness problem) settled.witnesses witness s.witnesses h; none = s.none }

with_none : (problem : Problem) (settled : Settling) → IsSettled problem settled → IsSettled problem (record settled { searches = counted settled.searches })
with_none problem settled s = record { own = s.own; witnesses = s.witnesses; none = s.none }

-- what was asked within bounds that know more is taken in
pub noted_settled : (problem : Problem) (bounds : Bounds) (settled : Settling) (reply : Reply) → is_within problem.bounds.down bounds.down ≡ true → is_within problem.bounds.up bounds.up ≡ true
    → IsReply (within problem bounds) reply → IsSettled problem settled → IsSettled problem (noted settled reply)
noted_settled problem bounds settled (Yes witness) down up h s = with_witness problem settled witness (witness_within problem bounds witness down up h.1) s
noted_settled problem bounds settled No down up h s = with_none problem settled s
noted_settled problem bounds settled Open down up h s = with_none problem settled s

-- and what was asked first
pub begun_settled : (problem : Problem) (reply : Reply) → IsReply problem reply → IsSettled problem (begun reply)
begun_settled problem reply h =
    noted_settled problem problem.bounds (record { searches = 0; own = found_of reply; witnesses = []; none = None }) reply (within_self problem.bounds.down) (within_self problem.bounds.up) h
    (record { own = found_is problem reply h; witnesses = All-nil (IsWitness problem); none = tt })

-- ---- an outage of which all is known to be down

pub during_known : (problem : Problem) (links : List LinkId) → IsProblem problem → is_within links problem.bounds.down ≡ true → during problem links ≡ problem
during_known problem links p known =
    let same : union problem.bounds.down links ≡ problem.bounds.down = union_within problem.bounds.down links (whole_rising problem.net problem.bounds.down p.bounds_of.down) known in
    ap (λ (down : List LinkId). within problem (record problem.bounds { down = down })) same

-- ---- an outage that a run survives

survives : (problem : Problem) (single : Bool) (links : List LinkId) (witness : Witness) → IsProblem problem → IsOutageOf problem single links → IsWitness problem witness
    → is_survived problem.net problem.bounds witness.fails witness.used links ≡ true → HasTrace (during problem links)
survives problem single links witness p o w h =
    let on = survived problem.net problem.bounds witness.fails w.run links (bounded problem p) o.union w.union w.down w.up w.trace
    (ap (λ used. is_survived problem.net problem.bounds witness.fails used links) (sym w.used) ∙ h) in
    record {
      fails = union witness.fails links;
      run = w.run;
      allowed = on.0;
      trace = on.1;
      matches = record { first = w.matches.first; path = w.matches.path; last = w.matches.last; end = w.matches.end };
    }

pub one_survives : (problem : Problem) (single : Bool) (links : List LinkId) (witnesses : List Witness) → IsProblem problem → IsOutageOf problem single links → All (IsWitness problem) witnesses
    → list_any (λ w. is_survived problem.net problem.bounds w.fails w.used links) witnesses ≡ true → HasTrace (during problem links)
one_survives problem single links [] p o all h = cc
one_survives problem single links (w ∷ witnesses) p o all h =
    elim (or_cases (is_survived problem.net problem.bounds w.fails w.used links) (list_any (λ x. is_survived problem.net problem.bounds x.fails x.used links) witnesses) h) [
      | inl here ↦ survives problem single links w p o (All-head (IsWitness problem) w witnesses all) here
      | inr more ↦ one_survives problem single links witnesses p o (All-tail (IsWitness problem) w witnesses all) more
    ]

-- ---- outages without a run

-- the same run under the same failed links, within other bounds
moved_to : (problem : Problem) (links : List LinkId) (bounds : Bounds) (there : HasTrace (during problem links)) → IsAllowed problem.net bounds there.fails → HasTrace (within problem bounds)
moved_to problem links bounds there allowed = record {
  fails = there.fails;
  run = there.run;
  allowed = allowed;
  trace = there.trace;
  matches = record { first = there.matches.first; path = there.matches.path; last = there.matches.last; end = there.matches.end };
}

-- where no more risk groups can fail than the bounds allow
pub none_free : (problem : Problem) → IsProblem problem → free_groups problem.net problem.bounds ≤ problem.bounds.k → (HasTrace problem → ⊥) → IsNoneBesides problem []
none_free problem p few none_there links group up apart there = none_there (moved_to problem links problem.bounds there allowed)
  where
    within_free : risk_count problem.net (outside there.fails problem.bounds.down) ≤ free_groups problem.net problem.bounds
    within_free =
        count_within problem.net there.fails (links_where problem.net (λ e. not (has problem.bounds.up e))) problem.bounds.down there.allowed.union (others_whole problem.net problem.bounds.up p.bounds_of.up)
        (λ e h d. has_where problem.net (λ x. not (has problem.bounds.up x)) e (union_link problem.net there.fails e there.allowed.union h) (not_from_false (has problem.bounds.up e) (apart_has there.fails problem.bounds.up e there.allowed.up h)))

    allowed : IsAllowed problem.net problem.bounds there.fails
    allowed = record {
      union = there.allowed.union;
      down = within_on problem.bounds.down (union problem.bounds.down links) there.fails (within_union problem.bounds.down links) there.allowed.down;
      up = there.allowed.up;
      few = le-leb (risk_count problem.net (outside there.fails problem.bounds.down)) problem.bounds.k (omega (arith, within_free, few));
    }

-- where there is none with one risk group more that may fail
pub none_at_one_more : (problem : Problem) → IsProblem problem → (HasTrace (allowing problem (problem.bounds.k + 1)) → ⊥) → IsNoneBesides problem []
none_at_one_more problem p none_there links group up apart there =
    none_there (moved_to problem links (with_k problem.bounds (problem.bounds.k + 1)) there (at_one_more problem.net problem.bounds group.0 links there.fails (bounded problem p) group.1 up there.allowed))

-- where none may fail, and there is none with one risk group that may, but for those that are kept up
pub none_kept : (problem : Problem) (bounds : Bounds) → IsProblem problem → problem.bounds.k ≡ 0 → AreKept problem bounds → (HasTrace (within problem bounds) → ⊥) → IsNoneBesides problem bounds.up
none_kept problem bounds p zero kept none_there links group up apart there = none_there (moved_to problem links bounds there allowed)
  where
    none : IsAllowed problem.net (with_k (with_down problem.bounds links) 0) there.fails
    none = record {
      union = there.allowed.union;
      down = there.allowed.down;
      up = there.allowed.up;
      few = ap (λ k. nat_le (risk_count problem.net (outside there.fails (union problem.bounds.down links))) k) (sym zero) ∙ there.allowed.few;
    }

    free : is_apart bounds.up problem.bounds.down ≡ true
    free = ap (λ down. is_apart bounds.up down) (sym kept.down) ∙ apart_turned bounds.down bounds.up kept.bounds_of.apart

    more : IsAllowed problem.net (with_k (with_up problem.bounds bounds.up) 1) there.fails
    more = kept_up problem.net problem.bounds group.0 links bounds.up there.fails (bounded problem p) kept.bounds_of.up free group.1 up apart none

    allowed : IsAllowed problem.net bounds there.fails
    allowed = record {
      union = more.union;
      down = ap (λ down. is_within down there.fails) kept.down ∙ more.down;
      up = apart_within there.fails bounds.up (union problem.bounds.up bounds.up) more.up (within_second problem.bounds.up bounds.up);
      few = ap (λ k. nat_le (risk_count problem.net (outside there.fails bounds.down)) k) kept.one ∙ ap (λ down. nat_le (risk_count problem.net (outside there.fails down)) 1) kept.down ∙ more.few;
    }

-- that is taken in
pub none_settled : (problem : Problem) (settled : Settling) (kept : List LinkId) → IsNoneBesides problem kept → IsSettled problem settled → IsSettled problem (record settled { none = Some kept })
none_settled problem settled kept none s = record { own = s.own; witnesses = s.witnesses; none = none }

pub none_noted_settled : (problem other : Problem) (settled : Settling) (kept : List LinkId) (reply : Reply) → ((HasTrace other → ⊥) → IsNoneBesides problem kept) → IsReply other reply → IsSettled problem settled → IsSettled problem (none_noted settled reply kept)
none_noted_settled problem other settled kept (Yes witness) law h s = s
none_noted_settled problem other settled kept No law h s = none_settled problem settled kept (law h) s
none_noted_settled problem other settled kept Open law h s = s

-- ---- what is kept up

pub kept_first : (problem : Problem) (bounds : Bounds) → bounds ≡ (allowing problem 1).bounds → AreBounds problem.net bounds → AreKept problem bounds
kept_first problem bounds is are = record {
  bounds_of = are;
  one = ap (λ (b : Bounds). b.k) is;
  down = ap (λ (b : Bounds). b.down) is;
  up = ap (λ (b : Bounds). is_within problem.bounds.up b.up) is ∙ within_self problem.bounds.up;
}

pub kept_next : (problem : Problem) (bounds : Bounds) (reply : Reply) → IsReply (within problem bounds) reply → AreKept problem bounds → AreKept problem (kept_by bounds reply)
kept_next problem bounds (Yes witness) h kept = record {
  bounds_of = record {
    down = kept.bounds_of.down;
    up = union_whole problem.net bounds.up (outside witness.fails bounds.down) kept.bounds_of.up (outside_whole problem.net witness.fails bounds.down h.1.union kept.bounds_of.down);
    apart = apart_union bounds.down bounds.up (outside witness.fails bounds.down) kept.bounds_of.apart (apart_turned (outside witness.fails bounds.down) bounds.down (outside_apart witness.fails bounds.down));
  };
  one = kept.one;
  down = kept.down;
  up = within_on problem.bounds.up bounds.up (union bounds.up (outside witness.fails bounds.down)) kept.up (within_union bounds.up (outside witness.fails bounds.down));
}
kept_next problem bounds No h kept = kept
kept_next problem bounds Open h kept = kept

-- ---- an outage is looked up

-- one without the links that are kept
pub none_besides : (problem : Problem) (single : Bool) (links : List LinkId) (none : Option (List LinkId)) → IsOutageOf problem single links → single ≡ true → IfSome none (IsNoneBesides problem)
    → option_map_or (λ kept. is_apart links kept) none false ≡ true → HasTrace (during problem links) → ⊥
none_besides problem single links None o one known h = absurd (true≢false (sym h))
none_besides problem single links (Some kept) o one known h = known links (o.group one) o.up h

-- what is asked for an outage by a search
during_settled : (known problem : Problem) (links : List LinkId) (settled : Settling) (reply : Reply) → AskAlike known problem → IsReply (during problem links) reply → IsSettled known settled → IsSettled known (noted settled reply)
during_settled known problem links settled (Yes witness) alike h s =
    with_witness known settled witness (alike_witness known problem witness alike (witness_within problem (with_down problem.bounds links) witness (within_union problem.bounds.down links) (within_self problem.bounds.up) h.1)) s
during_settled known problem links settled No alike h s = with_none known settled s
during_settled known problem links settled Open alike h s = with_none known settled s

-- it is taken in where memory suffices, and else all is as before
pub during_kept : (r : Result Found NoMemory) (problem : Problem) (links : List LinkId) (settled new : Settling) (reply : Reply) → IsReply (during problem links) reply → OnOk r (new ≡ noted settled reply) → OnErr r (new ≡ settled)
    → (known : Problem) → AskAlike known problem → IsSettled known settled → IsSettled known new
during_kept (Ok found) problem links settled new reply h ok err known alike s = subst (λ (x : Settling). IsSettled known x) (sym ok) (during_settled known problem links settled reply alike h s)
during_kept (Err error) problem links settled new reply h ok err known alike s = subst (λ (x : Settling). IsSettled known x) (sym err) s

pub known_is : (problem : Problem) (single : Bool) (links : List LinkId) (bounds : Bounds) (settled : Settling) (found : Found) (b : Bool) → b ≡ is_within links bounds.down → b ≡ true → found ≡ settled.own
    → IsProblem problem → problem.bounds ≡ bounds → IsSettled problem settled → IsOutageOf problem single links → IsFound (during problem links) found
known_is problem single links bounds settled found b tested true_is own p same s o =
    let known : is_within links problem.bounds.down ≡ true = ap (λ (x : Bounds). is_within links x.down) same ∙ sym tested ∙ true_is in
    subst (λ (x : Problem). IsFound x found) (sym (during_known problem links p known)) (subst (λ (f : Found). IsFound problem f) (sym own) s.own)

pub survived_is : (problem : Problem) (single : Bool) (links : List LinkId) (net : Net) (bounds : Bounds) (settled : Settling) (b : Bool) → b ≡ list_any (λ w. is_survived net bounds w.fails w.used links) settled.witnesses → b ≡ true
    → IsProblem problem → problem.net ≡ net → problem.bounds ≡ bounds → IsSettled problem settled → IsOutageOf problem single links → HasTrace (during problem links)
survived_is problem single links net bounds settled b tested true_is p same_net same s o =
    one_survives problem single links settled.witnesses p o s.witnesses
    (ap (λ (n : Net). list_any (λ w. is_survived n problem.bounds w.fails w.used links) settled.witnesses) same_net
    ∙ ap (λ (x : Bounds). list_any (λ w. is_survived net x w.fails w.used links) settled.witnesses) same ∙ sym tested ∙ true_is)

-- ---- what each step knows

-- nothing more can fail
pub free_settled : (problem : Problem) (settled new : Settling) (kept : List LinkId) (free k : ℕ) → IsProblem problem → free ≡ free_groups problem.net problem.bounds → k ≡ problem.bounds.k → free ≤ k → (HasTrace problem → ⊥)
    → kept ≡ [] → IsSettled problem settled → new ≡ record settled { none = Some kept } → IsSettled problem new
free_settled problem settled new kept free k p free_is k_is few none_there none s is =
    subst (λ (x : Settling). IsSettled problem x) (sym is)
    (none_settled problem settled kept (subst (λ (x : List LinkId). IsNoneBesides problem x) (sym none) (none_free problem p (omega (arith, free_is, k_is, few)) none_there)) s)

-- one more may fail
pub more_settled : (problem : Problem) (settled one new : Settling) (kept : List LinkId) (more : ℕ) (reply : Reply) → IsProblem problem → more ≡ problem.bounds.k + 1 → IsReply (allowing problem more) reply → kept ≡ []
    → IsSettled problem settled → one ≡ none_noted settled reply kept → new ≡ noted one reply → IsSettled problem new
more_settled problem settled one new kept more reply p more_is h none s one_is new_is =
    subst (λ (x : Settling). IsSettled problem x) (sym new_is)
    (noted_settled problem (allowing problem more).bounds one reply (within_self problem.bounds.down) (within_self problem.bounds.up) h
    (subst (λ (x : Settling). IsSettled problem x) (sym one_is)
    (none_noted_settled problem (allowing problem more) settled kept reply
    (λ none_there. subst (λ (x : List LinkId). IsNoneBesides problem x) (sym none) (none_at_one_more problem p (subst (λ (k : ℕ). HasTrace (allowing problem k) → ⊥) more_is none_there))) h s)))

-- one may fail, and others are kept up
pub kept_settled : (problem : Problem) (bounds : Bounds) (settled one new : Settling) (reply : Reply) → IsProblem problem → problem.bounds.k ≡ 0 → AreKept problem bounds → IsReply (within problem bounds) reply
    → IsSettled problem settled → one ≡ none_noted settled reply bounds.up → new ≡ noted one reply → IsSettled problem new
kept_settled problem bounds settled one new reply p zero kept h s one_is new_is =
    subst (λ (x : Settling). IsSettled problem x) (sym new_is)
    (noted_settled problem bounds one reply (ap (λ (down : List LinkId). is_within problem.bounds.down down) kept.down ∙ within_self problem.bounds.down) kept.up h
    (subst (λ (x : Settling). IsSettled problem x) (sym one_is)
    (none_noted_settled problem (within problem bounds) settled bounds.up reply (none_kept problem bounds p zero kept) h s)))
