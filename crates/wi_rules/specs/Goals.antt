-- Goal runs of the rules (Schwoon 2002, section 2.1), and the runs of the network that they are to be.
use Rattle.std.specs.Prelude.{◌≡◌, ℕ, List, [], ◌∷◌, ◌++◌, map, reverse}
use Rattle.std.specs.List.{Contains}
use Rattle.std.specs.Option.{option_map_or}
use Rattle.wi_labels.specs.Header.{Entry}
use Rattle.wi_weight.specs.Weights.{plus}
use Rattle.wi_pds.specs.Runs.{symbols}
use Rattle.wi_world.specs.declared.run.Step.{Step}
use Rattle.wi_world.specs.declared.run.End.{End}
use Rattle.wi_world.specs.declared.run.Run.{Run}
use Rattle.wi_world.specs.Moves.{Location, moved}
use Rattle.wi_world.specs.Moving.{IsMovingRun}
use Rattle.wi_world.specs.Runs.{effort_of}
use Rattle.wi_world.specs.Holds.{Question, Matches}
use Rattle.wi_rules.specs.declared.spot.Origin.{Origin}
use Rattle.wi_rules.specs.declared.spot.Origin.TheVariants.{Pushed, SetOut, Hop, Operation, Ending, Nothing}
use Rattle.wi_rules.specs.declared.spot.Spot.{Spot}
use Rattle.wi_rules.specs.declared.spot.Spot.TheVariants.{Start, Done}
use Rattle.wi_rules.specs.Rules.{Accepts, Encoding, SpotRule, zeros, rules_of}

-- rules, one after the other, each at the top of the stack, lead from a spot and a stack to another
abbrev pub Rewrites : Encoding → Spot → List ℕ → List SpotRule → Spot → List ℕ → Type 0
Rewrites s p t [] q u = (p ≡ q) × (t ≡ u)
Rewrites s p [] (r ∷ rs) q u = ⊥
Rewrites s p (g ∷ t) (r ∷ rs) q u = Contains (rules_of s p g) r × Rewrites s r.to (symbols r.word ++ t) rs q u

-- what rules weigh: what they add to each term, and last how many they are
abbrev pub rules_weight : Encoding → List SpotRule → List ℕ
rules_weight s [] = zeros s ++ 0 ∷ []
rules_weight s (r ∷ rs) = plus (r.share ++ 1 ∷ []) (rules_weight s rs)

-- what rules tell of a run, in their order: a hop tells of all its operations
abbrev pub main_origin : Origin → List Origin
main_origin Nothing = []
main_origin (Operation m i) = []
main_origin o = o ∷ []

abbrev pub origins_of : List SpotRule → List Origin
origins_of [] = []
origins_of (r ∷ rs) = main_origin r.origin ++ origins_of rs

-- these rules are a run from the start, with the bottom alone, to the end with the empty stack
abbrev pub IsGoalRun : Encoding → List SpotRule → Type 0
IsGoalRun s rs = Rewrites s Start (0 ∷ []) rs Done []

-- there is one of this weight
abbrev pub HasGoalRun : Encoding → List ℕ → Type 0
HasGoalRun s w = (rs : List SpotRule) × IsGoalRun s rs × (rules_weight s rs ≡ w)

-- what the automata ask for
abbrev pub question_of : Encoding → Question
question_of s = record { first = Accepts s.first; path = Accepts s.path; last = Accepts s.last; drops = s.drops; bounds = s.bounds }

-- what the steps and the end add to each term
abbrev pub share_at : Encoding → Location → Step → List ℕ
share_at s (e, []) step = zeros s
share_at s (e, top ∷ below) step = s.step_share e top.0 step

abbrev pub end_share_at : Encoding → Location → End → List ℕ
end_share_at s (e, []) end = zeros s
end_share_at s (e, top ∷ below) end = s.end_share e top.0 end

abbrev pub shares : Encoding → End → Location → List Step → List ℕ
shares s end at [] = end_share_at s at end
shares s end at (step ∷ steps) = option_map_or (λ next. plus (share_at s at step) (shares s end next steps)) (moved s.net at step) (zeros s)

-- what a run weighs: what its first link, its steps and its end add to each term, and last its effort
abbrev pub weight_of : Encoding → Run → List ℕ
weight_of s run = plus (s.first_share run.first) (shares s run.end (run.first, run.header) run.steps) ++ effort_of s.net run ∷ []

-- what the rules of a run tell: the labels of its first header from the bottom, its first link, its steps, its end
abbrev pub pushes_of : List Entry → List Origin
pushes_of header = map (λ (l : Entry). Pushed l.0) (reverse header)

abbrev pub hops_of : List Step → List Origin
hops_of steps = map (λ step. Hop step) steps

abbrev pub origins_for : Run → List Origin
origins_for run = pushes_of run.header ++ SetOut run.first ∷ (hops_of run.steps ++ Ending run.end ∷ [])

-- a moving run of what the automata ask for, of this weight
pub record IsMatch (s : Encoding) (w : List ℕ) (run : Run) : Type 0 where
  pub moving : IsMovingRun s.net s.bounds run
  pub matches : Matches s.net (question_of s) run
  pub weight : weight_of s run ≡ w
