-- Spots as numbers, and the rules over them: what a pushdown system (Schwoon 2002) lists.
use Rattle.std.specs.Prelude.{◌≡◌, ℕ, zero, suc, ◌+◌, ◌-◌, ◌*◌, ◌/◌, ◌%◌, ◌<◌, Bool, true, ◌&&◌, nat_lt, if◌then◌else◌, List, [], ◌∷◌, ◌++◌, length, map, Option, Some, None}
use Rattle.std.specs.Option.{option_map_or}
use Rattle.wi_net.specs.Tables.{row_members}
use Rattle.wi_weight.specs.Weights.{Scale}
use Rattle.wi_pds.specs.declared.rule.Word2.{Word2}
use Rattle.wi_pds.specs.declared.rule.Rule.{Rule}
use Rattle.wi_rules.specs.declared.spot.Origin.{Origin}
use Rattle.wi_rules.specs.declared.spot.Spot.{Spot}
use Rattle.wi_rules.specs.declared.spot.Spot.TheVariants.{Start, Done, Build, Close, OnLink, Mid, Drop}
use Rattle.wi_rules.specs.Rules.{Encoding, IsEncoding, SpotRule, rules_of}
use Rattle.wi_rules.specs.Goals.{main_origin}

-- how many states the automata of the first header, of the last header and of the links have, how many links and members there are,
-- and whether packets are dropped
pub record Layout : Type 0 where
  pub first : ℕ
  pub last : ℕ
  pub path : ℕ
  pub links : ℕ
  pub members : ℕ
  pub drops : Bool

abbrev pub layout_of : Encoding → Layout
layout_of s = record {
  first = s.first.states;
  last = s.last.states;
  path = s.path.states;
  links = length s.net.links;
  members = row_members s.net.rows;
  drops = s.drops;
}

-- Start and Done, then the spots where headers are made, where they are read, on links, amid the operations of members, of which a
-- member has at most eight, and amid those of members through which packets are dropped
abbrev pub number : Layout → Spot → ℕ
number y Start = 0
number y Done = 1
number y (Build q) = suc (suc q)
number y (Close q) = suc (suc (y.first + q))
number y (OnLink e q) = suc (suc (y.first + (y.last + (e.0 * y.path + q))))
number y (Mid m i q) = suc (suc (y.first + (y.last + (y.links * y.path + ((m * 7 + (i - 1)) * y.path + q)))))
number y (Drop m i) = suc (suc (y.first + (y.last + (y.links * y.path + (y.members * 7 * y.path + (m * 7 + (i - 1)))))))

abbrev pub dropping : Layout → ℕ → Option Spot
dropping y n = if y.drops && nat_lt n (y.members * 7) then Some (Drop (n / 7) (n % 7 + 1)) else None

abbrev pub amid : Layout → ℕ → Option Spot
amid y n =
    if nat_lt n (y.members * 7 * y.path) then Some (Mid (n / y.path / 7) (n / y.path % 7 + 1) (n % y.path))
    else dropping y (n - y.members * 7 * y.path)

abbrev pub on_links : Layout → ℕ → Option Spot
on_links y n = if nat_lt n (y.links * y.path) then Some (OnLink (record { 0 = n / y.path }) (n % y.path)) else amid y (n - y.links * y.path)

abbrev pub closing : Layout → ℕ → Option Spot
closing y n = if nat_lt n y.last then Some (Close n) else on_links y (n - y.last)

abbrev pub building : Layout → ℕ → Option Spot
building y n = if nat_lt n y.first then Some (Build n) else closing y (n - y.first)

-- the spot of a number, if there is one
abbrev pub spot_of : Layout → ℕ → Option Spot
spot_of y zero = Some Start
spot_of y (suc zero) = Some Done
spot_of y (suc (suc n)) = building y n

-- a spot whose parts are there
abbrev pub Fits : Layout → Spot → Type 0
Fits y Start = Unit {0}
Fits y Done = Unit {0}
Fits y (Build q) = q < y.first
Fits y (Close q) = q < y.last
Fits y (OnLink e q) = (e.0 < y.links) × (q < y.path)
Fits y (Mid m i q) = (m < y.members) × (0 < i) × (i < 8) × (q < y.path)
Fits y (Drop m i) = (y.drops ≡ true) × (m < y.members) × (0 < i) × (i < 8)

-- a rule over numbers: where it leads, what it writes, what it weighs, the last component being its effort, and what it stands for
pub record NumberedRule : Type 0 where
  pub to : ℕ
  pub word : Word2
  pub weight : List ℕ
  pub origin : Origin

-- each rule has effort 1
abbrev pub numbered : Encoding → SpotRule → NumberedRule
numbered s r = record { to = number (layout_of s) r.to; word = r.word; weight = r.share ++ 1 ∷ []; origin = r.origin }

-- the rules of a head, both its parts numbers; there are none where the number is of no spot
abbrev pub rules_at_number : Encoding → ℕ → ℕ → List NumberedRule
rules_at_number s n g = option_map_or (λ p. map (λ r. numbered s r) (rules_of s p g)) (spot_of (layout_of s) n) []

-- what is seen of a rule, by what its weight's components are and what it is said to stand for
abbrev pub seen : {W : Type 0} → (W → List ℕ) → (Rule W → Origin) → Rule W → NumberedRule
seen c o r = record { to = r.to; word = r.word; weight = c r.weight; origin = o r }

-- the rules of a pushdown system are those of a network and a query, in their order
pub record AreRulesOf {W : Type 0} (s : Encoding) (c : W → List ℕ) (o : Rule W → Origin) (rules : ℕ → ℕ → List (Rule W)) : Type 0 where
  pub each : (n g : ℕ) → map (λ (r : Rule W). seen c o r) (rules n g) ≡ rules_at_number s n g

-- the rules of a pushdown system are an encoding's, and their weights have its terms and the effort
pub record IsSystemOf {W : Type 0} (s : Encoding) (m : Scale) (c : W → List ℕ) (o : Rule W → Origin) (rules : ℕ → ℕ → List (Rule W)) : Type 0 where
  pub encoding : IsEncoding s
  pub rules_are : AreRulesOf s c o rules
  pub arity : m.arity ≡ s.terms + 1

-- what rules tell of a run, in their order
abbrev pub origins_by : {W : Type 0} → (Rule W → Origin) → List (Rule W) → List Origin
origins_by o [] = []
origins_by o (r ∷ rs) = main_origin (o r) ++ origins_by o rs
