-- A file is its lines, one after another.
use Rattle.std.proofs.Common.{◌≡◌, ℕ, ◌+◌, ◌<◌, ◌≤◌, inl, inr, Bool, true, false, nat_eq, List, [], ◌∷◌, ◌++◌, length, Option, Some, None, option_map, Bor, Result, Ok, Err, refl, sym, ap, subst, ◌∙◌, arith}
use Rattle.std.specs.Result.{IfErr, IsErrAnd}
use Rattle.std.proofs.lemmas.Bool.{eqb-true}
use Rattle.std.proofs.lemmas.List.{append_assoc, append-nil, length-append}
use Rattle.wi_text.specs.Lines.{AreLines, lines_bytes, is_one_line, IsCutAt}
use Rattle.wi_text.proofs.LineLemmas.{bytes_append, lines_append}
use Rattle.wi_net.specs.declared.bounds.Bounds.{Bounds}
use Rattle.wi_net.specs.Net.{Net}
use Rattle.wi_policy.specs.declared.policy.Policy.{Policy}
use Rattle.wi_policy.specs.declared.policy.PoliciesRefused.{PoliciesRefused}
use Rattle.wi_policy.specs.declared.policy.PoliciesRefused.TheVariants.{AtLine, NoPolicy, Memory}
use Rattle.wi_policy.specs.Policies.{SaysNothing, IsPolicy, ArePolicies, HasLines, HasPolicies, HasNoPolicies}
use Rattle.wi_policy.specs.private.Walking.{Adds, IsRefusedLine, Walked}

-- ---- a line more

nothing_more : (net : Net) (given : Bounds) (n : ℕ) (before : List (List ℕ)) (policies : List Policy) (line : List ℕ) → ArePolicies net given n before policies → SaysNothing line → ArePolicies net given n (before ++ line ∷ []) policies
nothing_more net given n [] [] line are says = (says, tt)
nothing_more net given n [] (p ∷ policies) line are says = absurd are
nothing_more net given n (first ∷ before) [] line are says = (are.0, nothing_more net given (n + 1) before [] line are.1 says)
nothing_more net given n (first ∷ before) (p ∷ policies) line (inl are) says = inl (are.0, nothing_more net given (n + 1) before (p ∷ policies) line are.1 says)
nothing_more net given n (first ∷ before) (p ∷ policies) line (inr are) says = inr (are.0, nothing_more net given (n + 1) before policies line are.1 says)

policy_more : (net : Net) (given : Bounds) (n m : ℕ) (before : List (List ℕ)) (policies : List Policy) (line : List ℕ) (policy : Policy) → m ≡ n + length before → ArePolicies net given n before policies → IsPolicy net given m line policy → ArePolicies net given n (before ++ line ∷ []) (policies ++ policy ∷ [])
policy_more net given n m [] [] line policy at are is = inr (subst (λ k. IsPolicy net given k line policy) (let same : m ≡ n = omega arith in same) is, tt)
policy_more net given n m [] (p ∷ policies) line policy at are is = absurd are
policy_more net given n m (first ∷ before) [] line policy at are is = inl (are.0, policy_more net given (n + 1) m before [] line policy (omega arith) are.1 is)
policy_more net given n m (first ∷ before) (p ∷ policies) line policy at (inl are) is = inl (are.0, policy_more net given (n + 1) m before (p ∷ policies) line policy (omega arith) are.1 is)
policy_more net given n m (first ∷ before) (p ∷ policies) line policy at (inr are) is = inr (are.0, policy_more net given (n + 1) m before policies line policy (omega arith) are.1 is)

more : (net : Net) (given : Bounds) (n : ℕ) (before : List (List ℕ)) (old new : List Policy) (line : List ℕ) → n ≡ length before + 1 → ArePolicies net given 1 before old → Adds net given n line old new → ArePolicies net given 1 (before ++ line ∷ []) new
more net given n before old new line at are (inl adds) = subst (ArePolicies net given 1 (before ++ line ∷ [])) (sym adds.1) (nothing_more net given 1 before old line are adds.0)
more net given n before old new line at are (inr adds) = subst (ArePolicies net given 1 (before ++ line ∷ [])) (sym adds.2) (policy_more net given 1 n before old line adds.0 (omega arith) are adds.1)

-- ---- the lines that are left

-- bytes are lines, where a line feed is set behind them
record Left (bytes : List ℕ) : Type 0 where
  first : List ℕ
  more : List (List ℕ)
  each : AreLines (first ∷ more)
  whole : bytes ++ 10 ∷ [] ≡ lines_bytes (first ∷ more)

left : (bytes : List ℕ) → Left bytes
left [] = record { first = []; more = []; each = (refl, tt); whole = refl }
left (b ∷ bytes) = by (nat_eq b 10) refl (left bytes)
  where
    by : (t : Bool) → nat_eq b 10 ≡ t → Left bytes → Left (b ∷ bytes)
    by true feed rest = record {
      first = [];
      more = rest.first ∷ rest.more;
      each = (refl, rest.each);
      whole = ap (λ x. x ∷ (bytes ++ 10 ∷ [])) (eqb-true b 10 feed) ∙ ap (λ x. 10 ∷ x) rest.whole;
    }
    by false other rest = record {
      first = b ∷ rest.first;
      more = rest.more;
      each = (rw other rest.each.0, rest.each.1);
      whole = ap (λ x. b ∷ x) rest.whole;
    }

bytes_both : (before after : List (List ℕ)) → lines_bytes (before ++ after) ≡ lines_bytes before ++ lines_bytes after
bytes_both [] after = refl
bytes_both (line ∷ before) after = ap (λ x. line ++ 10 ∷ x) (bytes_both before after) ∙ sym (append_assoc line (10 ∷ lines_bytes before) (lines_bytes after))

lines_both : (before after : List (List ℕ)) → AreLines before → AreLines after → AreLines (before ++ after)
lines_both [] after one other = other
lines_both (line ∷ before) after one other = (one.0, lines_both before after one.1 other)

-- the last line, which has no line feed
cut_last : (bytes line : List ℕ) (before : List (List ℕ)) → AreLines before → bytes ≡ lines_bytes before ++ line → is_one_line line ≡ true → HasLines bytes (before ++ line ∷ [])
cut_last bytes line before each is one = record {
  each = lines_append before line each one;
  whole = ap (λ x. x ++ 10 ∷ []) is ∙ append_assoc (lines_bytes before) line (10 ∷ []) ∙ sym (bytes_append before line []) ∙ append-nil (lines_bytes (before ++ line ∷ []));
}

-- a line with others behind it
cut_within : (bytes line rest : List ℕ) (before : List (List ℕ)) → AreLines before → bytes ≡ lines_bytes before ++ (line ++ 10 ∷ rest) → is_one_line line ≡ true → (after : List (List ℕ)) × HasLines bytes (before ++ line ∷ after)
cut_within bytes line rest before each is one =
    let behind : Left rest = left rest in
    let after : List (List ℕ) = behind.first ∷ behind.more in (
      after,
      record {
        each = lines_both before (line ∷ after) each (one, behind.each);
        whole =
            ap (λ x. x ++ 10 ∷ []) is
            ∙ append_assoc (lines_bytes before) (line ++ 10 ∷ rest) (10 ∷ [])
            ∙ ap (λ x. lines_bytes before ++ x) (append_assoc line (10 ∷ rest) (10 ∷ []) ∙ ap (λ x. line ++ 10 ∷ x) behind.whole)
            ∙ sym (bytes_both before (line ∷ after));
      },
    )

-- ---- from line to line

pub walk_begins : (net : Net) (given : Bounds) (bytes : List ℕ) (policies : List Policy) → policies ≡ [] → Walked net given bytes policies bytes 1
walk_begins net given bytes policies none = record { before = []; each = tt; cut = refl; says = subst (ArePolicies net given 1 []) (sym none) tt; number = refl }

pub walk_on : (net : Net) (given : Bounds) (bytes : List ℕ) (old new : List Policy) (from line rest : List ℕ) (n : ℕ) → Walked net given bytes old from n → IsCutAt from (Some (line, rest)) → Adds net given n line old new → Walked net given bytes new rest (n + 1)
walk_on net given bytes old new from line rest n w cut adds = record {
  before = w.before ++ line ∷ [];
  each = lines_append w.before line w.each cut.1;
  cut = w.cut ∙ ap (λ x. lines_bytes w.before ++ x) cut.0 ∙ sym (bytes_append w.before line rest);
  says = more net given n w.before old new line w.number w.says adds;
  number = (let at = w.number in omega (arith, length-append w.before (line ∷ [])));
}

pub walk_ends : (net : Net) (given : Bounds) (bytes : List ℕ) (old new : List Policy) (line : List ℕ) (n : ℕ) → Walked net given bytes old line n → IsCutAt line None → Adds net given n line old new → HasPolicies net given bytes new
walk_ends net given bytes old new line n w one adds = record {
  lines = w.before ++ line ∷ [];
  cut = cut_last bytes line w.before w.each w.cut one;
  says = more net given n w.before old new line w.number w.says adds;
}

pub walk_stops : (net : Net) (given : Bounds) (bytes : List ℕ) (policies : List Policy) (from line rest : List ℕ) (n : ℕ) (refused : PoliciesRefused) → Walked net given bytes policies from n → IsCutAt from (Some (line, rest)) → IsRefusedLine net given n line refused → HasNoPolicies net given bytes refused
walk_stops net given bytes policies from line rest n (AtLine m fault) w cut wrong =
    let lines = cut_within bytes line rest w.before w.each (w.cut ∙ ap (λ x. lines_bytes w.before ++ x) cut.0) cut.1 in
    record { before = w.before; line = line; after = lines.0; cut = lines.1; policies = policies; fine = w.says; number = wrong.0 ∙ w.number; has = wrong.1 }
walk_stops net given bytes policies from line rest n NoPolicy w cut wrong = absurd wrong
walk_stops net given bytes policies from line rest n Memory w cut wrong = tt

pub walk_fails : (net : Net) (given : Bounds) (bytes : List ℕ) (policies : List Policy) (line : List ℕ) (n : ℕ) (refused : PoliciesRefused) → Walked net given bytes policies line n → IsCutAt line None → IsRefusedLine net given n line refused → HasNoPolicies net given bytes refused
walk_fails net given bytes policies line n (AtLine m fault) w one wrong =
    record { before = w.before; line = line; after = []; cut = cut_last bytes line w.before w.each w.cut one; policies = policies; fine = w.says; number = wrong.0 ∙ w.number; has = wrong.1 }
walk_fails net given bytes policies line n NoPolicy w one wrong = absurd wrong
walk_fails net given bytes policies line n Memory w one wrong = tt

-- there are no more lines than bytes before what is left
fewer_lines : (before : List (List ℕ)) → length before ≤ length (lines_bytes before)
fewer_lines [] = omega arith
fewer_lines (line ∷ before) = omega (arith, fewer_lines before, length-append line (10 ∷ lines_bytes before))

pub number_within : (net : Net) (given : Bounds) (bytes : List ℕ) (policies : List Policy) (from line rest : List ℕ) (n : ℕ) → Walked net given bytes policies from n → IsCutAt from (Some (line, rest)) → n ≤ length bytes
number_within net given bytes policies from line rest n w cut =
    let few = fewer_lines w.before in
    let at = w.number in
    omega (arith, ap length w.cut, length-append (lines_bytes w.before) from, ap length cut.0, length-append line (10 ∷ rest))

pub rest_shorter : (from line rest : List ℕ) → IsCutAt from (Some (line, rest)) → length rest < length from
rest_shorter from line rest cut = omega (arith, ap length cut.0, length-append line (10 ∷ rest))

-- where no line was cut off there is no line feed
pub no_cut : (from : List ℕ) (r : Option (Bor (List ℕ) × Bor (List ℕ))) → IsCutAt from (option_map {U = List ℕ × List ℕ} (λ x. (x.0.now, x.1.now)) r) → ((x : Bor (List ℕ) × Bor (List ℕ)) → r ≡ Some x → ⊥) → IsCutAt from None
no_cut from None cut other = cut
no_cut from (Some x) cut other = absurd (other x refl)

pub refused_as : {T : Type 0} (r : Result T PoliciesRefused) (refused : PoliciesRefused) (P : PoliciesRefused → Type 0) → IsErrAnd r (λ e. e ≡ refused) → P refused → IfErr r P
refused_as (Ok x) refused P h is = tt
refused_as (Err e) refused P h is = subst P (sym h) is
