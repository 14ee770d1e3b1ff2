-- The rules of a head by its number.
use Rattle.std.proofs.Common.{◌≡◌, ℕ, zero, suc, ◌<◌, ◌≤◌, List, [], ◌∷◌, ◌++◌, length, map, slice_get, Option, Some, None, IfSome, Result, OnOk, refl, sym, ap, ◌∙◌, arith}
use Rattle.std.proofs.lemmas.Bool.{le-ltb}
use Rattle.std.proofs.lemmas.Option.{slice_get_past}
use Rattle.std.specs.List.{flat_map, range_with_len}
use Rattle.wi_labels.specs.declared.label.Class.{Class}
use Rattle.wi_labels.specs.declared.ops.Op.{Op}
use Rattle.wi_net.specs.declared.parts.Member.{Member}
use Rattle.wi_net.specs.Tables.{all_members}
use Rattle.wi_rules.specs.declared.spot.Spot.{Spot}
use Rattle.wi_rules.specs.declared.spot.Spot.TheVariants.{Start, Done, Build, Close, OnLink, Mid, Drop}
use Rattle.wi_rules.specs.Rules.{Encoding, SpotRule, build_rules, next_op_rules, rules_of}
use Rattle.wi_rules.specs.Numbers.{Fits, layout_of, numbered, spot_of}
use Rattle.wi_rules.proofs.Spots.{number_of_spot}
use Rattle.wi_build.specs.declared.head.Head.{Head}
use Rattle.wi_build.specs.Systems.{rule_at, rules_by}
use Rattle.wi_build.specs.private.Rows.{rules_for}
use Rattle.wi_build.proofs.RowLemmas.{Listing, none_made, on_ok}

-- by the spot of the number
pub by_spot : (s : Encoding) (head : Head) (p : Spot) → spot_of (layout_of s) head.spot ≡ Some p → rules_by s head.spot head.symbol ≡ rules_for s head (rules_of s p head.symbol)
by_spot s head p e = rw e (each (rules_of s p head.symbol))
  where
    each : (rs : List SpotRule) → map (λ r. rule_at head.spot head.symbol r) (map (λ r. numbered s r) rs) ≡ rules_for s head rs
    each [] = refl
    each (r ∷ rs) = ap (λ t. rule_at head.spot head.symbol (numbered s r) ∷ t) (each rs)

pub spot_fits : (s : Encoding) (n : ℕ) (p : Spot) → spot_of (layout_of s) n ≡ Some p → Fits (layout_of s) p
spot_fits s n p e = (number_of_spot (layout_of s) n p e).1

none_built : (s : Encoding) (q n l : ℕ) → slice_get s.net.classes n ≡ None → build_rules s q (suc n) l ≡ []
none_built s q n l e = go (slice_get s.net.classes l) refl
  where
    go : (o : Option Class) → slice_get s.net.classes l ≡ o → build_rules s q (suc n) l ≡ []
    go None eo = rw eo refl
    go (Some class) eo = rw (eo, e) refl

none_next : (s : Encoding) (m i q n : ℕ) (member : Member) → slice_get s.net.classes n ≡ None → next_op_rules s m i q n member ≡ []
none_next s m i q n member e = go (slice_get member.ops i) refl
  where
    go : (o : Option Op) → slice_get member.ops i ≡ o → next_op_rules s m i q n member ≡ []
    go None eo = rw eo refl
    go (Some op) eo = rw (eo, e) refl

flat_none : (f : ℕ → List SpotRule) (xs : List ℕ) → ((x : ℕ) → f x ≡ []) → flat_map f xs ≡ []
flat_none f [] each = refl
flat_none f (x ∷ xs) each = let here = each x in rw here (flat_none f xs each)

past_label : (s : Encoding) (p : Spot) (n : ℕ) → length s.net.classes ≤ n → rules_of s p (suc n) ≡ []
past_label s Start n h = refl
past_label s Done n h = refl
past_label s (Build zero) n h = rw (le-ltb n (length s.net.classes) h) refl
past_label s (Build (suc q)) n h = flat_none (build_rules s (suc q) (suc n)) (range_with_len 0 (length s.net.classes)) (λ l. none_built s (suc q) n l (slice_get_past s.net.classes n h))
past_label s (Close q) n h = rw (le-ltb n (length s.net.classes) h) refl
past_label s (OnLink e q) n h = rw (le-ltb n (length s.net.classes) h) refl
past_label s (Drop m zero) n h = refl
past_label s (Drop m (suc i)) n h = rw (le-ltb n (length s.net.classes) h) refl
past_label s (Mid m zero q) n h = refl
past_label s (Mid m (suc i) q) n h = go (slice_get (all_members s.net.rows) m) refl
  where
    go : (o : Option Member) → slice_get (all_members s.net.rows) m ≡ o → rules_of s (Mid m (suc i) q) (suc n) ≡ []
    go None e = rw e refl
    go (Some member) e = rw e (none_next s m (suc i) q n member (slice_get_past s.net.classes n h))

pub past_labels : (s : Encoding) (p : Spot) (g : ℕ) → length s.net.classes < g → rules_of s p g ≡ []
past_labels s p zero h = absurd (omega (arith, h))
past_labels s p (suc n) h = past_label s p n (omega (arith, h))

pub some_fits : (s : Encoding) (n : ℕ) (o : Option Spot) → o ≡ spot_of (layout_of s) n → IfSome o (Fits (layout_of s))
some_fits s n None e = tt
some_fits s n (Some p) e = spot_fits s n p (sym e)

-- what code puts at the end of a list for a head
pub head_done : {A E : Type 0} (s : Encoding) (head : Head) (p : Spot) (r : Result A E) (old new : Listing) → Some p ≡ spot_of (layout_of s) head.spot → OnOk r (new ≡ old ++ rules_for s head (rules_of s p head.symbol)) → OnOk r (new ≡ old ++ rules_by s head.spot head.symbol)
head_done s head p r old new e h = on_ok r _ _ (λ put. put ∙ ap (λ t. old ++ t) (sym (by_spot s head p (sym e)))) h

pub none_past : (s : Encoding) (head : Head) (p : Spot) (old : Listing) (n : ℕ) → Some p ≡ spot_of (layout_of s) head.spot → n ≡ length s.net.classes → n < head.symbol → old ≡ old ++ rules_by s head.spot head.symbol
none_past s head p old n e classes lt =
    none_made s head old (rules_of s p head.symbol) (past_labels s p head.symbol (omega (arith, classes, lt))) ∙ ap (λ t. old ++ t) (sym (by_spot s head p (sym e)))
