-- Where the words of a larger expression begin and end.
use Rattle.std.proofs.Common.{◌≡◌, ℕ, ◌+◌, ◌<◌, Bool, true, ◌⊎◌, ◌↔◌, IsTrue, List, ◌++◌, get_or, All, Contains, refl, sym, ap, inl, inr, subst, arith}
use Rattle.std.specs.Prelude.{Box}
use Rattle.std.specs.declared.alloc.Global.{Global}
use Rattle.std.proofs.lemmas.List.Elements.{Contains-get_or, Contains-append_left, Contains-append_right, Contains-append_cases}
use Rattle.wi_regex.specs.declared.regex.Regex.{Regex}
use Rattle.wi_regex.specs.declared.regex.Regex.TheVariants.{Concat', Either'}
use Rattle.wi_regex.specs.Matching.{position_count}
use Rattle.wi_nfa.specs.declared.ends.Ends.{Ends}
use Rattle.wi_nfa.specs.private.Marks.{IsJoint}
use Rattle.wi_nfa.specs.private.Ends.{IsChain, IsChoice, AreEnds}
use Rattle.wi_nfa.proofs.Ranges.{begins_within, ends_within}

-- a list that is joined holds of what both parts hold of
pub joint_of : {P Q : Type 0} (zs xs ys : List ℕ) (also : Bool) (t : ℕ) → IsJoint zs xs also ys → Contains xs t ↔ P → Contains ys t ↔ Q →
    Contains zs t ↔ (P ⊎ (IsTrue also × Q))
joint_of {P} {Q} zs xs ys also t joint first second = (
  λ h. elim ((joint.each t).0 h) as (λ _. P ⊎ (IsTrue also × Q)) [ inl g ↦ inl (first.0 g) | inr g ↦ inr (g.0, second.0 g.1) ],
  λ h. (joint.each t).1 (elim h as (λ _. Contains xs t ⊎ (IsTrue also × Contains ys t)) [ inl g ↦ inl (first.1 g) | inr g ↦ inr (g.0, second.1 g.1) ]),
)

also_as : {P Q R : Type 0} (a b : Bool) → a ≡ b → R ↔ (P ⊎ (IsTrue a × Q)) → R ↔ (P ⊎ (IsTrue b × Q))
also_as {P} {Q} {R} a b e h = subst (λ z. R ↔ (P ⊎ (IsTrue z × Q))) e h

always : {P Q R : Type 0} → R ↔ (P ⊎ (IsTrue true × Q)) → R ↔ (P ⊎ Q)
always {P} {Q} {R} h = (
  λ r. elim (h.0 r) as (λ _. P ⊎ Q) [ inl p ↦ inl p | inr q ↦ inr q.1 ],
  λ s. h.1 (elim s as (λ _. P ⊎ (IsTrue true × Q)) [ inl p ↦ inl p | inr q ↦ inr (refl, q) ]),
)

module _ {A : Type 0} where
  -- places of a part, seen as a slice, in a table that is long enough
  pub ends_fit : (n : ℕ) (r : Regex A) (size now more : ℕ) (e : Ends) (seen : List ℕ) → seen ≡ e.ends.items → now ≡ size → n + (position_count r + more) < size →
      AreEnds n r e → All (λ p. p < now) seen
  ends_fit n r size now more e seen is same room are = subst (λ z. All (λ p. p < now) z) (sym is) (λ k d lt.
      let upto = (ends_within n r (get_or e.ends.items k d) ((are.ends (get_or e.ends.items k d)).0 (Contains-get_or e.ends.items k d lt))).upto in omega arith)

  pub begins_fit : (n : ℕ) (r : Regex A) (size now more : ℕ) (e : Ends) (seen : List ℕ) → seen ≡ e.begins.items → now ≡ size → n + (position_count r + more) < size →
      AreEnds n r e → All (λ q. q < now) seen
  begins_fit n r size now more e seen is same room are = subst (λ z. All (λ p. p < now) z) (sym is) (λ k d lt.
      let upto = (begins_within n r (get_or e.begins.items k d) ((are.begins (get_or e.begins.items k d)).0 (Contains-get_or e.begins.items k d lt))).upto in omega arith)

  moved : (n m : ℕ) (r : Regex A) (e : Ends) → m ≡ n → AreEnds m r e → AreEnds n r e
  moved n m r e is are = subst (λ z. AreEnds z r e) is are

  module _ (n : ℕ) (a b : Regex A) (p q : Box (Unit {0}) Global) (e1 e2 e : Ends) (are_a : AreEnds n a e1) (are_b' : AreEnds (n + e1.count) b e2) where
    are_b : AreEnds (n + position_count a) b e2
    are_b = moved (n + position_count a) (n + e1.count) b e2 (ap (λ z. n + z) are_a.count) are_b'

    chain_ends : IsChain e1 e2 e → AreEnds n (Concat' p a q b) e
    chain_ends is = record {
      count = (let x = are_a.count in let y = are_b.count in let z = is.count in omega arith);
      empty = (let x = are_a.empty in let y = are_b.empty in let z = is.empty in cc);
      begins = λ t. also_as e1.empty _ are_a.empty (joint_of e.begins.items e1.begins.items e2.begins.items e1.empty t is.begins (are_a.begins t) (are_b.begins t));
      ends = λ t. also_as e2.empty _ are_b.empty (joint_of e.ends.items e2.ends.items e1.ends.items e2.empty t is.ends (are_b.ends t) (are_a.ends t));
    }

    choice_ends : IsChoice e1 e2 e → AreEnds n (Either' p a q b) e
    choice_ends is = record {
      count = (let x = are_a.count in let y = are_b.count in let z = is.count in omega arith);
      empty = (let x = are_a.empty in let y = are_b.empty in let z = is.empty in cc);
      begins = λ t. always (joint_of e.begins.items e1.begins.items e2.begins.items true t is.begins (are_a.begins t) (are_b.begins t));
      ends = λ t. always (joint_of e.ends.items e1.ends.items e2.ends.items true t is.ends (are_a.ends t) (are_b.ends t));
    }

  -- the same, as the code has it
  pub chain_ends_at : (r : Regex A) (n : ℕ) (a b a' b' : Regex A) (p q : Box (Unit {0}) Global) (e1 e2 e : Ends) → r ≡ Concat' p a q b → a' ≡ a → b' ≡ b →
      AreEnds n a' e1 → AreEnds (n + e1.count) b' e2 → IsChain e1 e2 e → AreEnds n r e
  chain_ends_at r n a b a' b' p q e1 e2 e is is_a is_b are_a are_b chain =
      subst (λ z. AreEnds n z e) (sym is)
      (chain_ends n a b p q e1 e2 e (subst (λ z. AreEnds n z e1) is_a are_a) (subst (λ z. AreEnds (n + e1.count) z e2) is_b are_b) chain)

  pub choice_ends_at : (r : Regex A) (n : ℕ) (a b a' b' : Regex A) (p q : Box (Unit {0}) Global) (e1 e2 e : Ends) → r ≡ Either' p a q b → a' ≡ a → b' ≡ b →
      AreEnds n a' e1 → AreEnds (n + e1.count) b' e2 → IsChoice e1 e2 e → AreEnds n r e
  choice_ends_at r n a b a' b' p q e1 e2 e is is_a is_b are_a are_b choice =
      subst (λ z. AreEnds n z e) (sym is)
      (choice_ends n a b p q e1 e2 e (subst (λ z. AreEnds n z e1) is_a are_a) (subst (λ z. AreEnds (n + e1.count) z e2) is_b are_b) choice)

pub joint_with : (xs ys zs : List ℕ) (also : Bool) → also ≡ true → zs ≡ xs ++ ys → IsJoint zs xs also ys
joint_with xs ys zs also holds e = record {
  each = λ q. let P : List ℕ → Type 0 = λ z. Contains z q in (
    λ h. elim (Contains-append_cases xs ys q (subst P e h)) as (λ _. Contains xs q ⊎ (IsTrue also × Contains ys q)) [ inl g ↦ inl g | inr g ↦ inr (holds, g) ],
    λ h. subst P (sym e) (elim h as (λ _. Contains (xs ++ ys) q) [ inl g ↦ Contains-append_left xs ys q g | inr g ↦ Contains-append_right xs ys q g.1 ]),
  );
}
