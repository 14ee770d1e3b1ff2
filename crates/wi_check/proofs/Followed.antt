-- What follows from a rule and isn't listed, by the first symbol that a walk misses; and symbols of which it was noted that none is missing.
use Rattle.std.specs.Prelude.{◌≡◌, ℕ, Bool, true, false, not, ◌||◌, ◌==◌, List, [], ◌∷◌, Option, None, refl, map, find, option_map, Result, IfOk, ◌&&◌}
use Rattle.std.specs.Bool.{MatchBool}
use Rattle.std.specs.List.{list_any}
use Rattle.std.specs.List.Sorted.{IsPermutation}
use Rattle.std.proofs.Common.{sym, ap, ◌∙◌, subst, arith}
use Rattle.std.proofs.lemmas.Bool.Decides.{nat_tests}
use Rattle.std.proofs.lemmas.List.Elements.{All-cons, All-tail}
use Rattle.std.proofs.lemmas.List.Sorted.{All-permutation}
use Rattle.wi_base.proofs.Cases.{by_test}
use Rattle.wi_pds.specs.declared.rule.Word2.{Word2}
use Rattle.wi_pds.specs.declared.rule.Word2.TheVariants.{One, Two}
use Rattle.wi_accept.specs.declared.follower.Follower.{Follower}
use Rattle.wi_accept.specs.declared.follower.Follower.TheVariants.{Head, Pair}
use Rattle.wi_accept.specs.Followers.{is_listed, pairs_of, followers, is_missing}
use Rattle.wi_check.specs.private.Lists.{has_symbol, first_absent, IsWhole, AreWhole}
use Rattle.wi_check.proofs.Absent.{own_present, none_absent}

-- whether two numbers are listed, by the second among those with the first
any_kept : (a g : ℕ) (xs : List (ℕ × ℕ)) → has_symbol (pairs_of xs a) g ≡ is_listed xs a g
any_kept a g [] = refl
any_kept a g (x ∷ xs) = by_test (x.0 == a)
    (λ (e : (x.0 == a) ≡ true). rw e (ap (λ b. (x.1 == g) || b) (any_kept a g xs)))
    (λ (e : (x.0 == a) ≡ false). rw e (any_kept a g xs))

absent_from : (make : ℕ → Follower) (is_missing : Follower → Bool) (listed : List (ℕ × ℕ)) → ((g : ℕ) → not (has_symbol listed g) ≡ is_missing (make g)) → (wanted : List (ℕ × ℕ))
    → option_map make (first_absent wanted listed) ≡ find is_missing (map (λ x. make x.1) wanted)
absent_from make is_missing listed same [] = refl
absent_from make is_missing listed same (w ∷ ws) = rw (same w.1) (by_test (is_missing (make w.1))
    (λ (e : is_missing (make w.1) ≡ true). rw e refl)
    (λ (e : is_missing (make w.1) ≡ false). rw e (absent_from make is_missing listed same ws)))

-- the first head of a spot, or pair of an upper symbol, that isn't listed
followed : (make : ℕ → Follower) (is_missing : Follower → Bool) (listed those below : List (ℕ × ℕ)) (o : Option ℕ) → ((g : ℕ) → not (has_symbol listed g) ≡ is_missing (make g)) → those ≡ listed
    → o ≡ first_absent below those → option_map make o ≡ find is_missing (map (λ x. make x.1) below)
followed make is_missing listed those below o same are found = ap (option_map make) (found ∙ ap (first_absent below) are) ∙ absent_from make is_missing listed same below

pub followed_heads : (heads pairs those below : List (ℕ × ℕ)) (to : ℕ) (o : Option ℕ) → those ≡ pairs_of heads to → o ≡ first_absent below those
    → option_map (Head to) o ≡ find (is_missing heads pairs) (map (λ x. Head to x.1) below)
followed_heads heads pairs those below to o are found = followed (Head to) (is_missing heads pairs) (pairs_of heads to) those below o (λ g. ap not (any_kept to g heads)) are found

pub followed_pairs : (heads pairs those below : List (ℕ × ℕ)) (u : ℕ) (o : Option ℕ) → those ≡ pairs_of pairs u → o ≡ first_absent below those
    → option_map (Pair u) o ≡ find (is_missing heads pairs) (map (λ x. Pair u x.1) below)
followed_pairs heads pairs those below u o are found = followed (Pair u) (is_missing heads pairs) (pairs_of pairs u) those below o (λ g. ap not (any_kept u g pairs)) are found

same_key : (g u : ℕ) (key : ℕ × ℕ) → (g == key.0 && u == key.1) ≡ true → (g ≡ key.0) × (u ≡ key.1)
same_key g u key same = grind (arith, nat_tests)

-- the first that follows from a rule and isn't listed, where the head and the pair of its word are listed
module _ {E : Type 0} (heads pairs below : List (ℕ × ℕ)) (g to u v : ℕ) (word : Word2) (r : Result (Option Follower) E) (head : true ≡ is_listed heads to u) (are : below ≡ pairs_of pairs g) where
  pub one_found : word ≡ One u → IfOk r (λ found. found ≡ find (is_missing heads pairs) (map (λ x. Pair u x.1) below)) → IfOk r (λ found. found ≡ find (is_missing heads pairs) (followers pairs g to word))
  one_found is found =
      let same : find (is_missing heads pairs) (map (λ x. Pair u x.1) below) ≡ find (is_missing heads pairs) (followers pairs g to word) = rw (is, ← head, are) refl in
      subst (λ x. IfOk r (λ found. found ≡ x)) same found

  pub two_found : word ≡ Two u v → true ≡ is_listed pairs u v → IfOk r (λ found. found ≡ find (is_missing heads pairs) (map (λ x. Pair v x.1) below))
      → IfOk r (λ found. found ≡ find (is_missing heads pairs) (followers pairs g to word))
  two_found is pair found =
      let same : find (is_missing heads pairs) (map (λ x. Pair v x.1) below) ≡ find (is_missing heads pairs) (followers pairs g to word) = rw (is, ← head, ← pair, are) refl in
      subst (λ x. IfOk r (λ found. found ≡ x)) same found

module _ (pairs : List (ℕ × ℕ)) (g u : ℕ) where
  seen_whole : (same : ℕ × ℕ → Bool) (keys : List (ℕ × ℕ)) → ((key : ℕ × ℕ) → same key ≡ true → (g ≡ key.0) × (u ≡ key.1)) → list_any same keys ≡ true → AreWhole pairs keys → IsWhole pairs g u
  seen_whole same [] is any all = cc
  seen_whole same (key ∷ keys) is any all = by_test (same key)
      (λ (e : same key ≡ true). rw ((is key e).0, (is key e).1) (all 0 key (omega arith)))
      (λ (e : same key ≡ false). seen_whole same keys is (rw e at any) (All-tail (λ k. IsWhole pairs k.0 k.1) key keys all))

  -- what a walk found whole
  pub new_whole : (below those : List (ℕ × ℕ)) → below ≡ pairs_of pairs g → those ≡ pairs_of pairs u → None ≡ first_absent below those → IsWhole pairs g u
  new_whole below those are of none = rw (← are, ← of) (sym none)

  -- one more is noted
  pub put_whole : (keys news : List (ℕ × ℕ)) (added : Bool) → IsWhole pairs g u → MatchBool added (IsPermutation ((g, u) ∷ keys) news) (news ≡ keys) → AreWhole pairs keys → AreWhole pairs news
  put_whole keys news true one put all = All-permutation (λ k. IsWhole pairs k.0 k.1) ((g, u) ∷ keys) news put (All-cons (λ k. IsWhole pairs k.0 k.1) (g, u) keys one all)
  put_whole keys news false one put all = subst (AreWhole pairs) (sym put) all

  module _ (heads below : List (ℕ × ℕ)) (are : below ≡ pairs_of pairs g) where
    whole_followers : IsWhole pairs g u → None ≡ find (is_missing heads pairs) (map (λ x. Pair u x.1) below)
    whole_followers whole = followed_pairs heads pairs (pairs_of pairs u) below u None refl (sym whole ∙ ap (λ b. first_absent b (pairs_of pairs u)) (sym are))

    -- none is missing where both are the same symbol
    pub own_followers : u ≡ g → None ≡ find (is_missing heads pairs) (map (λ x. Pair u x.1) below)
    own_followers same = whole_followers (rw same (none_absent (pairs_of pairs g) (pairs_of pairs g) (own_present (pairs_of pairs g))))

    -- nor is any where it was noted that none is
    pub seen_followers : (keys : List (ℕ × ℕ)) (seen : Bool) → seen ≡ list_any (λ key. g == key.0 && u == key.1) keys → seen ≡ true → AreWhole pairs keys → None ≡ find (is_missing heads pairs) (map (λ x. Pair u x.1) below)
    seen_followers keys seen is noted all = whole_followers (seen_whole (λ key. g == key.0 && u == key.1) keys (λ key same. same_key g u key same) (sym is ∙ noted) all)
