-- Rules that code makes, and those of the definitions.
use Rattle.std.proofs.Common.{◌≡◌, ℕ, zero, suc, ◌+◌, ◌<◌, Bool, true, false, List, [], ◌∷◌, ◌++◌, length, map, Result, Ok, Err, OnOk, refl, sym, ap, ◌∙◌, arith, append_assoc, append-nil, add-one, zero-add}
use Rattle.std.proofs.lemmas.Bool.{lt-ltb}
use Rattle.std.specs.List.{filter, flat_map, range_with_len}
use Rattle.std.specs.Prelude.{if◌then◌else◌}
use Rattle.wi_weight.specs.declared.kinds.Pair.{Pair}
use Rattle.wi_weight.specs.declared.kinds.Terms.{Terms}
use Rattle.wi_weight.specs.declared.kinds.Effort.{Effort}
use Rattle.wi_net.specs.declared.parts.LinkId.{LinkId}
use Rattle.wi_pds.specs.declared.rule.Rule.{Rule}
use Rattle.wi_rules.specs.declared.spot.Spot.{Spot}
use Rattle.wi_pds.specs.declared.rule.Word2.TheVariants.{Empty, One, Two}
use Rattle.wi_rules.specs.declared.spot.Spot.TheVariants.{Start, Build, Close}
use Rattle.wi_rules.specs.declared.spot.Origin.TheVariants.{Pushed, SetOut}
use Rattle.wi_rules.specs.Rules.{Encoding, SpotRule, zeros, plain, may_build, build_rules, set_out_rules, rules_of}
use Rattle.wi_rules.specs.Numbers.{layout_of, number}
use Rattle.wi_build.specs.declared.head.Head.{Head}
use Rattle.wi_build.specs.declared.head.Made.{Made}
use Rattle.wi_build.specs.declared.head.Way.{Way}
use Rattle.wi_build.specs.declared.head.Way.TheVariants as way
use Rattle.wi_build.specs.Tags.{tag_of}
use Rattle.wi_build.specs.Problems.{Problem}
use Rattle.wi_build.specs.Encodings.{encoding_of}
use Rattle.wi_build.specs.Systems.{weight, spot_count, spot_rules, all_rules}
use Rattle.wi_build.specs.private.Rows.{rule_of, rules_for, rule_made, plain_made, spot_on}

abbrev pub Listing : Type 0
Listing = List (Rule (Pair Terms Effort))

pub on_ok : {A E : Type 0} (r : Result A E) (P Q : Type 0) → (P → Q) → OnOk r P → OnOk r Q
on_ok (Ok a) P Q f h = f h
on_ok (Err e) P Q f h = h

-- one rule
pub one_made : (s : Encoding) (head : Head) (to : Spot) (made : Made) (share : List ℕ) → made.weight ≡ weight (share ++ 1 ∷ [])
    → rule_made s head to made ≡ rule_of s head (record { to = to; word = made.word; share = share; origin = made.origin })
one_made s head to made share e =
    let make : Pair Terms Effort → Rule (Pair Terms Effort) = λ w. record { from = head.spot; top = head.symbol; to = number (layout_of s) to; word = made.word; weight = w; tag = tag_of made.origin } in
    ap make e

-- one for each state
each_made : (s : Encoding) (head : Head) (way : Way) (made : Made) (share : List ℕ) → made.weight ≡ weight (share ++ 1 ∷ []) → (qs : List ℕ)
    → map (λ q. rule_made s head (spot_on way q) made) qs ≡ rules_for s head (map (λ q. record { to = spot_on way q; word = made.word; share = share; origin = made.origin }) qs)
each_made s head way made share e [] = refl
each_made s head way made share e (q ∷ qs) =
    ap (λ r. r ∷ map (λ x. rule_made s head (spot_on way x) made) qs) (one_made s head (spot_on way q) made share e)
    ∙ ap (λ rs. rule_of s head (record { to = spot_on way q; word = made.word; share = share; origin = made.origin }) ∷ rs) (each_made s head way made share e qs)

pub rules_append : (s : Encoding) (head : Head) (a b : List SpotRule) → rules_for s head (a ++ b) ≡ rules_for s head a ++ rules_for s head b
rules_append s head [] b = refl
rules_append s head (r ∷ a) b = ap (λ rs. rule_of s head r ∷ rs) (rules_append s head a b)

-- no rule
pub none_made : (s : Encoding) (head : Head) (old : Listing) (rs : List SpotRule) → rs ≡ [] → old ≡ old ++ rules_for s head rs
none_made s head old rs e = rw e (sym (append-nil old))

-- what is made for each number below one
abbrev pub up_to : {X : Type 0} → (ℕ → List X) → ℕ → List X
up_to f n = flat_map f (range_with_len 0 n)

range_more : (a n : ℕ) → range_with_len a (suc n) ≡ range_with_len a n ++ (a + n) ∷ []
range_more a zero = ap (λ k. k ∷ []) (let e : a ≡ a + 0 = omega arith in e)
range_more a (suc n) = ap (λ t. a ∷ t) (range_more (a + 1) n ∙ ap (λ k. range_with_len (a + 1) n ++ k ∷ []) (let e : a + 1 + n ≡ a + suc n = omega arith in e))

flat_append : {X Y : Type 0} (f : X → List Y) (a b : List X) → flat_map f (a ++ b) ≡ flat_map f a ++ flat_map f b
flat_append f [] b = refl
flat_append f (x ∷ a) b = ap (λ t. f x ++ t) (flat_append f a b) ∙ sym (append_assoc (f x) (flat_map f a) (flat_map f b))

up_to_more : {X : Type 0} (f : ℕ → List X) (n : ℕ) → up_to f (n + 1) ≡ up_to f n ++ f n
up_to_more f n =
    ap (λ k. up_to f k) (add-one n)
    ∙ ap (flat_map f) (range_more 0 n ∙ ap (λ k. range_with_len 0 n ++ k ∷ []) (zero-add n))
    ∙ flat_append f (range_with_len 0 n) (n ∷ [])
    ∙ ap (λ t. up_to f n ++ t) (append-nil (f n))

-- one step more of a loop over numbers
pub more_made : (s : Encoding) (head : Head) (f : ℕ → List SpotRule) (old now new : Listing) (i : ℕ) → now ≡ old ++ rules_for s head (up_to f i) → new ≡ now ++ rules_for s head (f i)
    → new ≡ old ++ rules_for s head (up_to f (i + 1))
more_made s head f old now new i before step =
    step
    ∙ ap (λ t. t ++ rules_for s head (f i)) before
    ∙ append_assoc old (rules_for s head (up_to f i)) (rules_for s head (f i))
    ∙ ap (λ t. old ++ t) (sym (rules_append s head (up_to f i) (f i)) ∙ ap (rules_for s head) (sym (up_to_more f i)))

pub more_listed : (f : ℕ → Listing) (old now new : Listing) (i : ℕ) → now ≡ old ++ up_to f i → new ≡ now ++ f i → new ≡ old ++ up_to f (i + 1)
more_listed f old now new i before step =
    step
    ∙ ap (λ t. t ++ f i) before
    ∙ append_assoc old (up_to f i) (f i)
    ∙ ap (λ t. old ++ t) (sym (up_to_more f i))

-- the numbers that pass a test, one by one
pub filtered : {X Y : Type 0} (p : X → Bool) (f : X → List Y) (xs : List X) → flat_map (λ x. if p x then f x else []) xs ≡ flat_map f (filter p xs)
filtered p f [] = refl
filtered p f (x ∷ xs) = go (p x) refl (filtered p f xs)
  where
    go : (b : Bool) → p x ≡ b → flat_map (λ y. if p y then f y else []) xs ≡ flat_map f (filter p xs) → flat_map (λ y. if p y then f y else []) (x ∷ xs) ≡ flat_map f (filter p (x ∷ xs))
    go true e ih = rw e (ap (λ t. f x ++ t) ih)
    go false e ih = rw e ih

flat_single : {X Y : Type 0} (f : X → Y) (xs : List X) → flat_map (λ x. f x ∷ []) xs ≡ map f xs
flat_single f [] = refl
flat_single f (x ∷ xs) = ap (λ t. f x ∷ t) (flat_single f xs)

flat_mapped : {X Y Z : Type 0} (g : X → Y) (f : Y → List Z) (xs : List X) → flat_map f (map g xs) ≡ flat_map (λ x. f (g x)) xs
flat_mapped g f [] = refl
flat_mapped g f (x ∷ xs) = ap (λ t. f (g x) ++ t) (flat_mapped g f xs)

-- the rules for some states, from what code put at the end of a list
pub each_row : (s : Encoding) (head : Head) (way : Way) (made : Made) (share : List ℕ) (qs rs_states : List ℕ) (old new : Listing) (rs : List SpotRule) → made.weight ≡ weight (share ++ 1 ∷ []) → qs ≡ rs_states
    → new ≡ old ++ map (λ q. rule_made s head (spot_on way q) made) qs
    → rs ≡ map (λ q. record { to = spot_on way q; word = made.word; share = share; origin = made.origin }) rs_states
    → new ≡ old ++ rules_for s head rs
each_row s head way made share qs states old new rs w e put is =
    put
    ∙ ap (λ t. old ++ t) (ap (map (λ q. rule_made s head (spot_on way q) made)) e ∙ each_made s head way made share w states ∙ ap (rules_for s head) (sym is))

-- the rules that push a label
pub label_row : (s : Encoding) (head : Head) (q l : ℕ) (w : Pair Terms Effort) (qs : List ℕ) (old new : Listing) → may_build s.net l head.symbol ≡ true → w ≡ weight (zeros s ++ 1 ∷ []) → qs ≡ s.first_before q l
    → new ≡ old ++ map (λ r. rule_made s head (spot_on way.Build r) (record { word = Two (l + 1) head.symbol; weight = w; origin = Pushed (record { 0 = l }) })) qs
    → new ≡ old ++ rules_for s head (build_rules s q head.symbol l)
label_row s head q l w qs old new m e states put =
    each_row s head way.Build (record { word = Two (l + 1) head.symbol; weight = w; origin = Pushed (record { 0 = l }) }) (zeros s) qs (s.first_before q l) old new (build_rules s q head.symbol l) e states put (rw (m, add-one) refl)

-- those that set out on a link
pub first_link_row : (s : Encoding) (head : Head) (n : ℕ) (e : LinkId) (w : Pair Terms Effort) (qs : List ℕ) (old new : Listing) → head.symbol ≡ suc n
    → w ≡ weight (s.first_share e ++ 1 ∷ []) → qs ≡ s.path.next 0 e.0
    → new ≡ old ++ map (λ q. rule_made s head (spot_on (way.OnLink e) q) (record { word = One head.symbol; weight = w; origin = SetOut e })) qs
    → new ≡ old ++ rules_for s head (set_out_rules s n e)
first_link_row s head n e w qs old new g we states put =
    each_row s head (way.OnLink e) (record { word = One head.symbol; weight = w; origin = SetOut e }) (s.first_share e) qs (s.path.next 0 e.0) old new (set_out_rules s n e) we states put (rw g refl)

-- those that read a label
pub close_row : (s : Encoding) (head : Head) (q n : ℕ) (made : Made) (qs : List ℕ) (old new : Listing) → made ≡ plain_made Empty → s.terms ≡ 5 → head.symbol ≡ suc n → n < length s.net.classes → qs ≡ s.last.next q n
    → new ≡ old ++ map (λ r. rule_made s head (spot_on way.Close r) made) qs
    → new ≡ old ++ rules_for s head (rules_of s (Close q) head.symbol)
close_row s head q n made qs old new m five g known states put =
    each_row s head way.Close (plain_made Empty) (zeros s) qs (s.last.next q n) old new (rules_of s (Close q) head.symbol) (rw five refl) states (put ∙ ap (λ x. old ++ map (λ r. rule_made s head (spot_on way.Close r) x) qs) m) (rw (g, lt-ltb n (length s.net.classes) known) refl)

-- the rule that begins in a state, if that accepts, and all of them
abbrev pub begun : Encoding → ℕ → List SpotRule
begun s q = if s.first.accepts q then plain s (Build q) (One 0) ∷ [] else []

begun_all : (s : Encoding) → up_to (begun s) s.first.states ≡ rules_of s Start 0
begun_all s =
    filtered (λ q. s.first.accepts q) (λ q. plain s (Build q) (One 0) ∷ []) (range_with_len 0 s.first.states)
    ∙ flat_single (λ q. plain s (Build q) (One 0)) (filter (λ q. s.first.accepts q) (range_with_len 0 s.first.states))

pub start_done : (s : Encoding) (head : Head) (old new : Listing) (i n : ℕ) → head.symbol ≡ 0 → n ≡ s.first.states → i ≡ n → new ≡ old ++ rules_for s head (up_to (begun s) i) → new ≡ old ++ rules_for s head (rules_of s Start head.symbol)
start_done s head old new i n g states is put = put ∙ ap (λ t. old ++ rules_for s head t) (ap (up_to (begun s)) (is ∙ states) ∙ begun_all s ∙ ap (rules_of s Start) (sym g))

pub all_listed : (f : ℕ → Listing) (old new : Listing) (i n : ℕ) → i ≡ n → new ≡ old ++ up_to f i → new ≡ old ++ flat_map f (range_with_len 0 n)
all_listed f old new i n is put = put ∙ ap (λ k. old ++ up_to f k) is

pub all_made : (problem : Problem) (xs ys : Listing) (i n : ℕ) → n ≡ spot_count (layout_of (encoding_of problem)) → i ≡ n → ys ≡ up_to (spot_rules (encoding_of problem)) i → xs ≡ ys → xs ≡ all_rules (encoding_of problem)
all_made problem xs ys i n count is put e = e ∙ put ∙ ap (up_to (spot_rules (encoding_of problem))) (is ∙ count)
