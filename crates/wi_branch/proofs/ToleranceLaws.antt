-- What an exact answer tells of the traces under so many failures, and that more risk groups than there are change nothing.
use Rattle.std.proofs.Common.{◌≡◌, ℕ, zero, suc, ◌+◌, ◌-◌, ◌<◌, ◌≤◌, min, true, nat_le, List, [], ◌∷◌, length, drop, slice_get, Option, Some, None, inl, inr, refl, arith, ap, ◌∙◌, subst, add-one}
use borrow.Author.Count.{below_more}
use Rattle.std.proofs.lemmas.Bool.{cases_lt}
use Rattle.std.proofs.lemmas.Bool.Decides.{nat_tests}
use Rattle.std.proofs.lemmas.List.{drop_all}
use Rattle.std.proofs.lemmas.List.FromFn.{length-map-range_with_len}
use Rattle.std.specs.List.{filter, list_any}
use Rattle.std.specs.Prelude.{option_map}
use Rattle.wi_net.specs.declared.parts.LinkId.{LinkId}
use Rattle.wi_net.specs.LinkSet.{has, links_from, outside}
use Rattle.wi_net.specs.Net.{Net, all_links, risk_count, same_risk, widened}
use Rattle.wi_net.proofs.SetLemmas.{any_in, has-all_links, same_risk_self, union_link}
use Rattle.wi_net.proofs.CountLemmas.{count_within, filter_same}
use Rattle.wi_world.specs.declared.run.Run.{Run}
use Rattle.wi_world.specs.declared.answer.Word.{Word}
use Rattle.wi_world.specs.declared.answer.Word.TheVariants.{Yes, No, Inconclusive}
use Rattle.wi_world.specs.declared.answer.Verdict.{Verdict}
use Rattle.wi_world.specs.declared.answer.Verdict.TheVariants.{Fits, Exceeds, UsesFailed}
use Rattle.wi_world.specs.Holds.{Question, Matches, Weighing, NoTrace}
use Rattle.wi_world.specs.Moves.{is_trace, IsAllowed}
use Rattle.wi_quantity.specs.Weighing.{components}
use Rattle.wi_trace.specs.declared.answer.Answer.{Answer}
use Rattle.wi_trees.specs.Trees.{HoldsExactly}
use Rattle.wi_cert.specs.declared.tree.TreeCertificate.{TreeCertificate}
use Rattle.wi_build.specs.Problems.{Problem, asks, weighs, allowing}
use Rattle.wi_accept.specs.Trees.{IsDecidedExactly, IsTreeAccepted}
use Rattle.wi_branch.specs.Exactly.{IsExact, IsExactRefused}
use Rattle.wi_branch.specs.Tolerance.{HasTrace, IsStoppedUpTo, IsTolerated, ShowsBelow, ShowsNo, TellsTolerance}
use Rattle.wi_branch.specs.declared.counting.Between.{Between}
use Rattle.wi_branch.specs.declared.counting.Trial.{Trial}
use Rattle.wi_branch.specs.declared.counting.Trial.TheVariants.{Enough}
use Rattle.wi_branch.specs.declared.tolerance.Tolerance.{Tolerance}
use Rattle.wi_branch.specs.declared.tolerance.Tolerance.TheVariants.{At, NoneUpTo}
use Rattle.wi_branch.specs.declared.refused.ExactRefused.{ExactRefused}
use Rattle.wi_branch.specs.declared.refused.ExactRefused.TheVariants as exact
use Rattle.wi_branch.specs.private.Counting.{AreTolerated, IsBetween, IsProbe, IsShownTolerated, IsTrial, groups_besides, met, narrowed, narrowed_by, stopped_with, trial_by}

-- ---- what an exact answer tells

-- a yes shows a trace
yes_shows : (net : Net) (question : Question) (weigh : Weighing) (w : Option (List ℕ)) (run : Option Run) (verdict : Option Verdict) → HoldsExactly net question weigh Yes w run verdict
    → (fails : List LinkId) × (r : Run) × IsAllowed net question.bounds fails × (is_trace net fails r ≡ true) × Matches net question r
yes_shows net question weigh (Some w) (Some run) (Some (Fits fails)) h = (fails, run, h.allowed, h.trace, h.matches)
yes_shows net question weigh None run verdict h = elim h [ ]
yes_shows net question weigh (Some w) None verdict h = elim h [ ]
yes_shows net question weigh (Some w) (Some run) None h = elim h [ ]
yes_shows net question weigh (Some w) (Some run) (Some (Exceeds n)) h = elim h [ ]
yes_shows net question weigh (Some w) (Some run) (Some (UsesFailed e)) h = elim h [ ]

-- a no says that there is none
pub no_says : (net : Net) (question : Question) (weigh : Weighing) (w : Option (List ℕ)) (run : Option Run) (verdict : Option Verdict) → HoldsExactly net question weigh No w run verdict → NoTrace net question
no_says net question weigh None None None h = h
no_says net question weigh (Some w) run verdict h = elim h [ ]
no_says net question weigh None (Some run) verdict h = elim h [ ]
no_says net question weigh None None (Some verdict) h = elim h [ ]

module _ (problem : Problem) (answer : Answer) (holds : IsDecidedExactly problem answer) where
  abbrev HoldsAs : Word → Type 0
  HoldsAs word = HoldsExactly problem.net (asks problem) (weighs problem) word (option_map components answer.weight) answer.run answer.verdict

  pub yes_traced : answer.word ≡ Yes → HasTrace problem
  yes_traced is =
      let shown = yes_shows problem.net (asks problem) (weighs problem) (option_map components answer.weight) answer.run answer.verdict (subst HoldsAs is holds) in
      record { fails = shown.0; run = shown.1; allowed = shown.2; trace = shown.3; matches = shown.4 }

  pub no_traced : answer.word ≡ No → HasTrace problem → ⊥
  no_traced is has =
      no_says problem.net (asks problem) (weighs problem) (option_map components answer.weight) answer.run answer.verdict (subst HoldsAs is holds)
      has.fails has.run has.allowed has.trace has.matches

  is_conclusive : answer.word ≡ Inconclusive → ⊥
  is_conclusive is = subst HoldsAs is holds

-- an exact answer tells of a number what its word says, where each smaller one is too few
pub tried_tells : (asked : ℕ → Problem) (limit k : ℕ) (answer : Answer) (tree : TreeCertificate) (below : Option TreeCertificate) → AreTolerated asked k → ShowsBelow asked limit k below
    → IsExact (asked k) limit answer tree → IsTreeAccepted (asked k) tree → IsTrial asked limit k (trial_by answer.word k answer tree below)
tried_tells asked limit k answer tree below fewer shows exact accepted = go answer.word refl
  where
    go : (word : Word) → answer.word ≡ word → IsTrial asked limit k (trial_by word k answer tree below)
    go Yes is = λ most within. (
      within,
      record { there = yes_traced (asked k) answer exact.holds is; least = fewer },
      record { word = is; exact = exact; accepted = accepted },
      shows,
    )
    go No is = (
      below_more (IsTolerated asked) k fewer (no_traced (asked k) answer exact.holds is),
      record { answer = answer; word = is; exact = exact; accepted = accepted },
    )
    go Inconclusive is = absurd (is_conclusive (asked k) answer exact.holds is)

-- the tree of a no shows it for one failure more
pub shows_below : (asked : ℕ → Problem) (limit k : ℕ) (tree : TreeCertificate) → ShowsNo (asked k) limit tree → ShowsBelow asked limit (k + 1) (Some tree)
shows_below asked limit k tree shown = rw add-one shown

-- where a number is too few, its exact answer is a no
pub none_shows : (problem : Problem) (limit : ℕ) (answer : Answer) (tree : TreeCertificate) → (HasTrace problem → ⊥) → IsExact problem limit answer tree → IsTreeAccepted problem tree → ShowsNo problem limit tree
none_shows problem limit answer tree tolerated exact accepted = go answer.word refl
  where
    go : (word : Word) → answer.word ≡ word → ShowsNo problem limit tree
    go Yes is = absurd (tolerated (yes_traced problem answer exact.holds is))
    go No is = record { answer = answer; word = is; exact = exact; accepted = accepted }
    go Inconclusive is = absurd (is_conclusive problem answer exact.holds is)

-- ---- where there is no exact answer

pub stopped_tells : (asked : ℕ → Problem) (limit k : ℕ) (refused : ExactRefused) → AreTolerated asked k → IsExactRefused (asked k) limit refused
    → (most : ℕ) → k ≤ most → IsStoppedUpTo asked most limit (stopped_with k refused)
stopped_tells asked limit k (exact.Overflow opened o) fewer inexact most within = (within, fewer, (λ e. cc), inexact)
stopped_tells asked limit k (exact.TooLong opened n) fewer inexact most within = (within, fewer, (λ e. cc), inexact)
stopped_tells asked limit k (exact.NodeLimit opened) fewer inexact most within = (within, fewer, (λ e. cc), inexact)
stopped_tells asked limit k exact.Memory fewer inexact most within = tt

-- ---- past the number of risk groups

-- all links are a union of risk groups
filter_true : (s : List LinkId) → filter (λ e. true) s ≡ s
filter_true [] = refl
filter_true (x ∷ s) = ap (λ t. x ∷ t) (filter_true s)

all_union : (net : Net) → widened net (all_links net) ≡ all_links net
all_union net =
    filter_same (λ e. list_any (λ d. same_risk net d e) (all_links net)) (λ e. true) (all_links net) (λ e h. any_in (λ d. same_risk net d e) (all_links net) e h (same_risk_self net e))
    ∙ filter_true (all_links net)

-- a trace is one within another number, if no more risk groups have failed
within_number : (problem : Problem) (j n : ℕ) (has : HasTrace (allowing problem j)) → nat_le (risk_count problem.net (outside has.fails problem.bounds.down)) n ≡ true → HasTrace (allowing problem n)
within_number problem j n has few = record {
  fails = has.fails;
  run = has.run;
  allowed = record { union = has.allowed.union; down = has.allowed.down; up = has.allowed.up; few = few };
  trace = has.trace;
  matches = record { first = has.matches.first; path = has.matches.path; last = has.matches.last; end = has.matches.end };
}

-- no more risk groups fail than there are
groups_suffice : (problem : Problem) (j n : ℕ) → groups_besides problem.net problem.bounds.down ≤ n → HasTrace (allowing problem j) → HasTrace (allowing problem n)
groups_suffice problem j n all has = within_number problem j n has few
  where
    net : Net
    net = problem.net

    known : List LinkId
    known = problem.bounds.down

    within : risk_count net (outside has.fails known) ≤ groups_besides net known
    within = count_within net has.fails (all_links net) known has.allowed.union (all_union net) (λ e h d. has-all_links net e ∙ union_link net has.fails e has.allowed.union h)

    few : nat_le (risk_count net (outside has.fails known)) n ≡ true
    few = grind (arith, nat_tests, within, all)

-- where none is enough up to the number of risk groups, none is
pub none_past : (problem : Problem) (last most : ℕ) → last ≡ min (groups_besides problem.net problem.bounds.down) most → AreTolerated (allowing problem) (last + 1)
    → AreTolerated (allowing problem) (most + 1)
none_past problem last most is none j below =
    elim (cases_lt last j) [
      | inl past ↦ (λ has. none last (omega arith) (groups_suffice problem j last (omega (arith, is, past, below)) has))
      | inr within ↦ none j (omega (arith, within))
    ]

-- ---- counting risk groups over all links

-- a network's links in order
links_at : (at n i : ℕ) → i < n → slice_get (links_from at n) i ≡ Some (record { 0 = at + i })
links_at at zero i less = absurd (omega (arith, less))
links_at at (suc n) zero less = let make : ℕ → Option LinkId = λ j. Some (record { 0 = j }) in ap make (omega arith)
links_at at (suc n) (suc i) less = let make : ℕ → Option LinkId = λ j. Some (record { 0 = j }) in links_at (at + 1) n i (omega (arith, less)) ∙ ap make (omega arith)

pub link_at : (net : Net) (i : ℕ) → i < length net.links → slice_get (all_links net) i ≡ Some (record { 0 = i })
link_at net i less = let make : ℕ → Option LinkId = λ j. Some (record { 0 = j }) in links_at 0 (length net.links) i less ∙ ap make (omega arith)

-- once all links were counted
pub counted_all : (net : Net) (known : List LinkId) (n i : ℕ) → length net.links ≤ i → n + risk_count net (outside (drop i (all_links net)) known) ≡ groups_besides net known → n ≡ groups_besides net known
counted_all net known n i all counted =
    let make : ℕ → LinkId = λ j. record { 0 = j } in
    let none : drop i (all_links net) ≡ [] = drop_all i (all_links net) (omega (arith, length-map-range_with_len make 0 (length net.links), all)) in
    let rest : n + risk_count net (outside [] known) ≡ groups_besides net known = rw none at counted in
    omega (arith, rest)

-- ---- a number that is enough, and one below which all are too few

-- what matches with few failures matches with more
more_suffice : (problem : Problem) (j n : ℕ) → j ≤ n → HasTrace (allowing problem j) → HasTrace (allowing problem n)
more_suffice problem j n less has = within_number problem j n has (let fewer = has.allowed.few in grind (arith, nat_tests, fewer, less))

none_below : (problem : Problem) (n : ℕ) → (HasTrace (allowing problem n) → ⊥) → (j : ℕ) → j ≤ n → IsTolerated (allowing problem) j
none_below problem n none j less has = none (more_suffice problem j n less has)

-- an exact answer by few nodes is one by more
pub wider : (problem : Problem) (few limit : ℕ) (answer : Answer) (tree : TreeCertificate) → few ≤ limit → IsExact problem few answer tree → IsExact problem limit answer tree
wider problem few limit answer tree less exact = let short = exact.few in record {
  holds = exact.holds;
  made = exact.made;
  opened = exact.opened;
  walk = exact.walk;
  nodes = exact.nodes;
  few = omega (arith, short, less);
}

-- what the most that is asked for tells: a no is one for each smaller number
pub most_tells : (problem : Problem) (most limit : ℕ) (answer : Answer) (tree : TreeCertificate) (word : Word) → answer.word ≡ word → (word ≡ Yes → ⊥) → IsProbe (allowing problem most) limit answer tree → TellsTolerance (allowing problem) most limit (NoneUpTo tree)
most_tells problem most limit answer tree Yes is other probe = absurd (other refl)
most_tells problem most limit answer tree No is other probe = (none_below problem most (no_traced (allowing problem most) answer probe.exact.holds is), record { answer = answer; word = is; exact = probe.exact; accepted = probe.accepted })
most_tells problem most limit answer tree Inconclusive is other probe = absurd (is_conclusive (allowing problem most) answer probe.exact.holds is)

-- a yes there is the first number that is enough
pub between_first : (problem : Problem) (most limit : ℕ) (answer : Answer) (tree : TreeCertificate) → answer.word ≡ Yes → IsProbe (allowing problem most) limit answer tree
    → IsBetween (allowing problem) most limit (record { low = 0; below = None; high = most; answer = answer; yes = tree })
between_first problem most limit answer tree is probe = record {
  order = omega arith;
  within = omega arith;
  fewer = λ j less. absurd (omega (arith, less));
  below = tt;
  there = yes_traced (allowing problem most) answer probe.exact.holds is;
  shown = record { word = is; exact = probe.exact; accepted = probe.accepted };
}

-- a number between the two takes the place of one of them
pub between_next : (problem : Problem) (most limit : ℕ) (between : Between) (k : ℕ) (answer : Answer) (tree : TreeCertificate) → IsBetween (allowing problem) most limit between → between.low ≤ k → k < between.high
    → IsProbe (allowing problem k) limit answer tree → IsBetween (allowing problem) most limit (narrowed between k answer tree)
between_next problem most limit between k answer tree b least less probe = go answer.word refl
  where
    go : (word : Word) → answer.word ≡ word → IsBetween (allowing problem) most limit (narrowed_by word between k answer tree)
    go Yes is = let within = b.within in record {
      order = least;
      within = omega (arith, less, within);
      fewer = b.fewer;
      below = b.below;
      there = yes_traced (allowing problem k) answer probe.exact.holds is;
      shown = record { word = is; exact = probe.exact; accepted = probe.accepted };
    }
    go No is = record {
      order = omega (arith, less);
      within = b.within;
      fewer = λ j small. none_below problem k (no_traced (allowing problem k) answer probe.exact.holds is) j (omega (arith, small));
      below = shows_below (allowing problem) limit k tree (record { answer = answer; word = is; exact = probe.exact; accepted = probe.accepted });
      there = b.there;
      shown = b.shown;
    }
    go Inconclusive is = absurd (is_conclusive (allowing problem k) answer probe.exact.holds is)

-- where the two meet, it is the least number
pub met_tells : (asked : ℕ → Problem) (most limit : ℕ) (between : Between) → IsBetween asked most limit between → between.high ≤ between.low → TellsTolerance asked most limit (met between)
met_tells asked most limit between b meets =
    let order = b.order in
    let same : between.low ≡ between.high = omega (arith, order, meets) in
    (b.within, record { there = b.there; least = λ j less. b.fewer j (omega (arith, less, same)) }, b.shown, subst (λ (k : ℕ). ShowsBelow asked limit k between.below) same b.below)

-- where all below it are too few, the number that is enough is the least
pub all_below_tell : (asked : ℕ → Problem) (most limit : ℕ) (between : Between) (tree : TreeCertificate) → IsBetween asked most limit between → between.low < between.high → IsShownTolerated asked limit (between.high - 1) tree
    → TellsTolerance asked most limit (At between.high between.answer between.yes (Some tree))
all_below_tell asked most limit between tree b apart shown =
    let same : between.high - 1 + 1 ≡ between.high = omega (arith, apart) in
    (b.within, record { there = b.there; least = λ j less. shown.0 j (omega (arith, less, apart)) }, b.shown, subst (λ (k : ℕ). ShowsBelow asked limit k (Some tree)) same (shows_below asked limit (between.high - 1) tree shown.1))

-- what is the least number from one on is it from a later one on
pub trial_later : (asked : ℕ → Problem) (limit first last : ℕ) (trial : Trial) (found : Tolerance) → trial ≡ Enough found → first ≤ last → IsTrial asked limit first trial → IsTrial asked limit last (Enough found)
trial_later asked limit first last trial found is order tried most within = (subst (λ (t : Trial). IsTrial asked limit first t) is tried) most (omega (arith, order, within))
