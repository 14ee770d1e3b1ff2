-- The weights of runs, of rows and of what is shown have six components.
use Rattle.std.proofs.Common.{◌≡◌, ℕ, ◌+◌, ◌-◌, ◌≤◌, Bool, true, false, List, [], ◌∷◌, ◌++◌, length, map, take, drop, replicate, slice_index_or, refl, arith, ap, sym, ◌∙◌, subst, length-append, length-take, length-drop}
use Rattle.std.specs.Prelude.{IfSome}
use Rattle.std.proofs.lemmas.List.{length-replicate, length-take-le}
use Rattle.wi_weight.specs.declared.kinds.Pair.{Pair}
use Rattle.wi_weight.specs.declared.kinds.Terms.{Terms}
use Rattle.wi_weight.specs.declared.kinds.Effort.{Effort}
use Rattle.wi_weight.specs.Weights.{WeightLaws, IsWeight}
use Rattle.wi_weight.specs.Kinds.{terms_scale, effort_scale}
use Rattle.wi_weight.specs.lemmas.LexLaws.{lex_laws}
use Rattle.wi_weight.specs.lemmas.PairLaws.{pair_laws}
use Rattle.wi_net.specs.Net.{Net}
use Rattle.wi_world.specs.declared.run.Run.{Run}
use Rattle.wi_world.specs.declared.run.Quantity.{Quantity}
use Rattle.wi_world.specs.Runs.{effort_of, quantity_of}
use Rattle.wi_quantity.specs.declared.vector.Part.{Part}
use Rattle.wi_quantity.specs.Weighing.{components, term_value, term_values, weight_of}
use Rattle.wi_pds.specs.declared.rule.Rule.{Rule}
use Rattle.wi_pds.specs.Closed.{Summary}
use Rattle.wi_pds.specs.Runs.{Pops}
use Rattle.wi_pds.proofs.Bound.{weight_run}
use Rattle.wi_rules.proofs.Lists.{map_in, contains_in}
use Rattle.wi_build.specs.Systems.{scale}
use Rattle.wi_cert.specs.declared.closed.Closed.{Closed}
use Rattle.wi_cert.specs.declared.row.Row.{Row}
use Rattle.wi_cert.specs.declared.shown.Shown.{Shown}
use Rattle.wi_cert.specs.Shown.{is_no, IsShown}
use Rattle.wi_cert.specs.Closed.{IsRow, IsClosed}
use Rattle.wi_accept.specs.Answers.{padded}
use Rattle.wi_accept.specs.Demands.{row}
use Rattle.wi_accept.specs.Causes.{rows_of, bound_of}
use Rattle.wi_accept.proofs.ClosedLaws.{AreWeights}
use Rattle.wi_accept.proofs.ListLemmas.{each_added}

pub scale_laws : WeightLaws scale
scale_laws = pair_laws terms_scale effort_scale (lex_laws 5) (lex_laws 1)

pub admitted : (w : Pair Terms Effort) → IsWeight scale (components w)
admitted w = refl

-- what a run of rules weighs is a weight
pub pops_weight : (rules : ℕ → ℕ → List (Rule (Pair Terms Effort))) (p g q : ℕ) (w : List ℕ) → Pops scale components rules p g q w → IsWeight scale w
pops_weight rules p g q w run = subst (λ (x : List ℕ). IsWeight scale x) run.2 (weight_run scale components scale_laws admitted run.0)

-- a run weighs five values, and then its effort
pub five_values : (f : Quantity → ℕ) (vector : List (List Part)) → length (term_values f vector) ≡ 5
five_values f vector = length-take-le 5 (map (term_value f) vector ++ replicate 5 0) (omega (arith, length-append (map (term_value f) vector) (replicate 5 0)))

pub six_components : (net : Net) (vector : List (List Part)) (run : Run) → length (weight_of net vector run) ≡ 6
six_components net vector run =
    let values = five_values (λ q. quantity_of q net run) vector in
    omega (arith, length-append (term_values (λ q. quantity_of q net run) vector) (effort_of net run ∷ []), values)

last_at : (xs : List ℕ) (e : ℕ) → slice_index_or (xs ++ e ∷ []) (length xs) 0 ≡ e
last_at [] e = refl
last_at (x ∷ xs) e = last_at xs e

pub effort_at : (net : Net) (vector : List (List Part)) (run : Run) → slice_index_or (weight_of net vector run) 5 0 ≡ effort_of net run
effort_at net vector run =
    let values = five_values (λ q. quantity_of q net run) vector in
    ap (λ (n : ℕ). slice_index_or (weight_of net vector run) n 0) (sym values) ∙ last_at (term_values (λ q. quantity_of q net run) vector) (effort_of net run)

-- a weight that is written with its terms and the effort alone
padded_six : (terms : ℕ) (ns : List ℕ) → terms ≤ 5 → length ns ≡ terms + 1 → length (padded terms ns) ≡ 6
padded_six terms ns few count =
    omega (
      arith,
      few,
      count,
      length-append (take terms ns) (replicate (5 - terms) 0 ++ drop terms ns),
      length-append (replicate (5 - terms) 0) (drop terms ns),
      length-take terms ns,
      length-drop terms ns,
      length-replicate {A = ℕ} (5 - terms) 0,
    )

-- what is shown weighs a weight
pub shown_six : (s : Shown) → IsShown s → is_no s.claim ≡ false → length (padded s.terms s.weight) ≡ 6
shown_six s k run = padded_six s.terms s.weight k.terms (rw run at k.weight)

-- and so the bound is one, if there is one
pub bound_weight : (s : Shown) → IsShown s → IfSome (bound_of s) (λ w. IsWeight scale w)
bound_weight s k = go (is_no s.claim) refl
  where
    go : (b : Bool) → is_no s.claim ≡ b → IfSome (bound_of s) (λ w. IsWeight scale w)
    go true e = rw e tt
    go false e = rw e (shown_six s k e)

-- a row's weight, written with so many terms, is one
abbrev IsSix : ℕ → Row → Type 0
IsSix terms r = length (padded terms r.weight) ≡ 6

-- rows weigh weights
pub row_weights : (s : Shown) (c : Closed) → IsShown s → IsClosed s c → AreWeights scale (rows_of s.terms c.rows)
row_weights s c shown closed p g q w at =
    let found = map_in (λ (r : Row). row r.p r.g r.q (padded s.terms r.weight)) c.rows (row p g q w) (contains_in (rows_of s.terms c.rows) (row p g q w) at) in
    let is : IsSix s.terms found.0 = each_added (IsRow s) (IsSix s.terms) (λ before r h. padded_six s.terms r.weight shown.terms h.weight) [] c.rows closed.rows found.0 found.1 in
    subst (λ (x : List ℕ). IsWeight scale x) (ap (λ (s : Summary). s.weight) found.2) is
