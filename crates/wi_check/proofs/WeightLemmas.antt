-- What a run weighs, step by step.
use Rattle.std.proofs.Common.{◌≡◌, ℕ, ◌+◌, ◌*◌, ◌^◌, ◌<◌, ◌≤◌, true, List, [], ◌∷◌, ◌++◌, Some, length, drop, get_or, slice_index_or, replicate, refl, ap, sym, ◌∙◌, arith}
use Rattle.std.proofs.lemmas.Bool.{and_from, le-leb}
use Rattle.std.proofs.lemmas.Option.{slice_get-get_or}
use Rattle.wi_labels.specs.Header.{Entry}
use Rattle.wi_labels.proofs.HeaderLemmas.{drop_at}
use Rattle.wi_weight.specs.Weights.{plus, EachBelow}
use Rattle.wi_weight.specs.lemmas.Sums.{same_cons, plus_assoc, each_below_plus, each_below_more}
use Rattle.wi_weight.specs.declared.kinds.Pair.{Pair}
use Rattle.wi_weight.specs.declared.kinds.Terms.{Terms}
use Rattle.wi_weight.specs.declared.kinds.Effort.{Effort}
use Rattle.wi_net.specs.declared.parts.LinkId.{LinkId}
use Rattle.wi_net.specs.declared.parts.Member.{Member}
use Rattle.wi_net.specs.Net.{Net, is_link, entry, risk_count}
use Rattle.wi_net.specs.Network.{IsNetwork}
use Rattle.wi_world.specs.declared.run.Step.{Step}
use Rattle.wi_world.specs.declared.run.End.{End}
use Rattle.wi_world.specs.Moves.{Location, groups_at, member_at, moved, needed, needed_to_end}
use Rattle.wi_world.specs.declared.run.Run.{Run}
use Rattle.wi_world.specs.Runs.{sum_over, work, end_work, effort_of}
use Rattle.wi_quantity.specs.declared.vector.Part.{Part}
use Rattle.wi_quantity.specs.Weighing.{components, is_way_out, first_weight, hop_weight, step_weight, end_weight, steps_weight, weight_of}
use Rattle.wi_quantity.proofs.RunShares.{run_weighs}
use Rattle.wi_rules.proofs.Members.{kept, member_numbered}
use Rattle.wi_build.proofs.Fit.{end_few}
use Rattle.wi_build.proofs.HopLemmas.{member_there}
use Rattle.wi_accept.proofs.WeightLemmas.{effort_at}

-- a member of an entry leads out of a link, with as few operations as a table may have
pub record IsKept (net : Net) (m : Member) : Type 0 where
  pub way : is_way_out net m ≡ true
  pub few : length m.ops ≤ 8

pub member_kept : (net : Net) → IsNetwork net → (at : Location) (step : Step) (member : Member) → member_at net at step ≡ Some member → IsKept net member
member_kept net k (e, []) step member h = cc
member_kept net k (e, top ∷ below) step member h =
    let found = member_there (entry net e top.0) step.group step.member member h in
    let keeps = kept net k _ member (member_numbered net.rows e top.0 step.group step.member found.0 member found.1 found.2) in
    record { way = and_from (is_link net member.link) _ keeps.link (le-leb (length member.ops) 8 keeps.few); few = keeps.few }

-- a step weighs what its hop does
pub step_weighs : (net : Net) (vector : List (List Part)) (at : Location) (step : Step) (member : Member) (w : List ℕ) → member_at net at step ≡ Some member
    → w ≡ hop_weight net vector member (risk_count net (needed net at step)) → w ≡ step_weight net vector at step
step_weighs net vector at step member w there is = is ∙ sym (rw there refl)

-- few risk groups are needed for an end, and it weighs what they do
module _ (net : Net) (at : Location) (end : End) (needs : List LinkId) (n : ℕ) where
  counted : n ≡ risk_count net needs → needs ≡ needed_to_end net at end → n ≡ risk_count net (needed_to_end net at end)
  counted count is = count ∙ ap (risk_count net) is

  pub end_fits : IsNetwork net → n ≡ risk_count net needs → needs ≡ needed_to_end net at end → n < 2 ^ 32
  end_fits k count is = let few = end_few net (groups_at net at.0 at.1) end k in let same = counted count is in omega (arith, few, same)

  pub end_weighs : (vector : List (List Part)) (w : List ℕ) → w ≡ end_weight vector n → n ≡ risk_count net needs → needs ≡ needed_to_end net at end → w ≡ end_weight vector (risk_count net (needed_to_end net at end))
  end_weighs vector w weighs count is = weighs ∙ ap (end_weight vector) (counted count is)

module _ (net : Net) (vector : List (List Part)) (end : End) (at next : Location) (steps : List Step) (i : ℕ) (d : Step) (within : i < length steps) where
  cut : drop i steps ≡ get_or steps i d ∷ drop (i + 1) steps
  cut = drop_at steps i (get_or steps i d) (slice_get-get_or steps i d within)

  module _ (on : moved net at (get_or steps i d) ≡ Some next) where
    pub weight_next : (sum share whole : List ℕ) → share ≡ step_weight net vector at (get_or steps i d) → plus sum (steps_weight net vector end at (drop i steps)) ≡ whole
        → plus (plus sum share) (steps_weight net vector end next (drop (i + 1) steps)) ≡ whole
    weight_next sum share whole is so_far =
        plus_assoc sum share (steps_weight net vector end next (drop (i + 1) steps))
        ∙ ap (λ (x : List ℕ). plus sum (plus x (steps_weight net vector end next (drop (i + 1) steps)))) is
        ∙ ap (plus sum) (sym (ap (steps_weight net vector end at) cut ∙ rw on refl))
        ∙ so_far

    pub work_next : (sum done whole : ℕ) → done ≡ work net at (get_or steps i d) at → sum + sum_over net (work net) (end_work net end) at (drop i steps) ≡ whole
        → sum + done + sum_over net (work net) (end_work net end) next (drop (i + 1) steps) ≡ whole
    work_next sum done whole is so_far =
        let step : sum_over net (work net) (end_work net end) at (drop i steps) ≡ work net at (get_or steps i d) at + sum_over net (work net) (end_work net end) next (drop (i + 1) steps) = ap (sum_over net (work net) (end_work net end) at) cut ∙ rw on refl in
        omega (arith, is, so_far, step)

-- one more share keeps the sum as small as there are steps
pub small_next : (i : ℕ) (sum share : List ℕ) → EachBelow ((i + 1) * 2 ^ 64) sum → EachBelow (2 ^ 64) share → EachBelow ((i + 1 + 1) * 2 ^ 64) (plus sum share)
small_next i sum share h k = each_below_more ((i + 1) * 2 ^ 64 + 2 ^ 64) ((i + 1 + 1) * 2 ^ 64) (omega arith) (plus sum share) (each_below_plus ((i + 1) * 2 ^ 64) (2 ^ 64) sum share h k)

-- a weight without effort, and then an effort
pub with_effort : (w : Pair Terms Effort) (whole : List ℕ) (n e : ℕ) → plus (components w) (replicate 5 0 ++ n ∷ []) ≡ whole → slice_index_or whole 5 0 ≡ n → e ≡ n
    → components (record { first = w.first; second = record { count = e } }) ≡ whole
with_effort w whole n e sum last is =
    let none : w.second.count + n ≡ n = ap (λ (xs : List ℕ). slice_index_or xs 5 0) sum ∙ last in
    same_cons (omega arith) (same_cons (omega arith) (same_cons (omega arith) (same_cons (omega arith) (same_cons (omega arith) (same_cons (omega (arith, none, is)) refl))))) ∙ sum

-- a run weighs so, with its header and its steps under other names
pub run_weighs_so : (net : Net) (vector : List (List Part)) (run : Run) (w : Pair Terms Effort) (first : List ℕ) (header : List Entry) (steps : List Step) (height worked : ℕ) → header ≡ run.header → steps ≡ run.steps
    → first ≡ first_weight net vector run.first.0 → components w ≡ plus first (steps_weight net vector run.end (run.first, header) steps)
    → height ≡ length run.header → worked ≡ sum_over net (work net) (end_work net run.end) (run.first, header) steps
    → components (record { first = w.first; second = record { count = height + worked + 4 } }) ≡ weight_of net vector run
run_weighs_so net vector run w first header steps height worked same_header same_steps begins sum high is =
    let weighs : components w ≡ plus (first_weight net vector run.first.0) (steps_weight net vector run.end (run.first, run.header) run.steps) =
    sum ∙ ap (λ (x : List ℕ). plus x (steps_weight net vector run.end (run.first, header) steps)) begins
    ∙ ap (λ (h : List Entry). plus (first_weight net vector run.first.0) (steps_weight net vector run.end (run.first, h) steps)) same_header
    ∙ ap (λ (xs : List Step). plus (first_weight net vector run.first.0) (steps_weight net vector run.end (run.first, run.header) xs)) same_steps in
    let works : worked ≡ sum_over net (work net) (end_work net run.end) (run.first, run.header) run.steps =
    is ∙ ap (λ (h : List Entry). sum_over net (work net) (end_work net run.end) (run.first, h) steps) same_header
    ∙ ap (λ (xs : List Step). sum_over net (work net) (end_work net run.end) (run.first, run.header) xs) same_steps in
    with_effort w (weight_of net vector run) (effort_of net run) (height + worked + 4)
    (ap (λ (x : List ℕ). plus x (replicate 5 0 ++ effort_of net run ∷ [])) weighs ∙ run_weighs net vector run)
    (effort_at net vector run) (omega (arith, high, works))
