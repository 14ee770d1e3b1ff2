-- Which states a word leads to.
use Rattle.std.proofs.Common.{◌≡◌, ℕ, suc, ◌+◌, ◌<◌, ◌≤◌, Bool, true, false, ◌⊎◌, ◌↔◌, IsTrue, List, [], ◌∷◌, length, get_or, take, drop, Vec, All, Contains, refl, sym, ap, ◌∙◌, inl, inr, subst, arith}
use Rattle.std.specs.declared.alloc.Global.{Global}
use Rattle.std.proofs.lemmas.List.{take_all}
use Rattle.std.proofs.lemmas.List.Elements.{Contains-get_or}
use Rattle.wi_regex.specs.declared.atom.Symbol.{Symbol}
use Rattle.wi_nfa.specs.Automata.{Automaton, Steps}
use Rattle.wi_nfa.specs.private.Marks.{AddsSome}
use Rattle.wi_nfa.specs.Rows.{row, reads_at, Tables, automaton_of}
use Rattle.wi_nfa.specs.private.Rows.{AreTables}
use Rattle.std.proofs.Math.Seq.{drop-cons}
use Rattle.std.proofs.lemmas.List.{drop_all}
use Rattle.wi_nfa.specs.Sets.{symbols}
use Rattle.wi_nfa.specs.private.Sets.{LedFrom, AcceptedFrom, AreLed}
use Rattle.wi_nfa.proofs.Marking.{taken_more, taken_old, taken_new}

-- one more place of the row is entered, or not
module _ (reads : ℕ → Bool) (row : List ℕ) (i : ℕ) (lt : i < length row) where
  pub entered : reads (get_or row i 0) ≡ true → (t : ℕ) →
      (Contains (take (i + 1) row) t × (reads t ≡ true)) ↔ ((Contains (take i row) t × (reads t ≡ true)) ⊎ (get_or row i 0 ≡ t))
  entered pass t = (
    λ h. elim (taken_more row i t lt h.0) as (λ _. (Contains (take i row) t × (reads t ≡ true)) ⊎ (get_or row i 0 ≡ t)) [ inl g ↦ inl (g, h.1) | inr g ↦ inr g ],
    λ h. elim h as (λ _. Contains (take (i + 1) row) t × (reads t ≡ true)) [
      | inl g ↦ (taken_old row i t lt g.0, g.1)
      | inr e ↦ (taken_new row i t lt e, subst (λ z. reads z ≡ true) e pass)
    ],
  )

  pub passed_by : (reads (get_or row i 0) ≡ true → ⊥) → (t : ℕ) →
      (Contains (take (i + 1) row) t × (reads t ≡ true)) ↔ (Contains (take i row) t × (reads t ≡ true))
  passed_by fails t = (
    λ h. elim (taken_more row i t lt h.0) as (λ _. Contains (take i row) t × (reads t ≡ true)) [
      | inl g ↦ (g, h.1)
      | inr e ↦ absurd (fails (subst (λ z. reads z ≡ true) (sym e) h.1))
    ],
    λ h. (taken_old row i t lt h.0, h.1),
  )

pub whole_row : (reads : ℕ → Bool) (old new : List Bool) (row : List ℕ) (i : ℕ) → length row ≤ i →
    AddsSome old new (λ t. Contains (take i row) t × (reads t ≡ true)) → AddsSome old new (λ t. Contains row t × (reads t ≡ true))
whole_row reads old new row i over is = subst (λ z. AddsSome old new (λ t. Contains z t × (reads t ≡ true))) (take_all i row over) is

pub is_false : (b c : Bool) → b ≡ c → b ≡ false → c ≡ true → ⊥
is_false b c e f h = cc

-- what one more state adds
module _ (m : Automaton) (marks : List Bool) (x p : ℕ) where
  pub led_more : (old new : List Bool) → IsTrue (get_or marks p false) → AddsSome old new (λ t. Steps m p x t) →
      ((t : ℕ) → IsTrue (get_or old t false) ↔ LedFrom m marks p x t) → (t : ℕ) → IsTrue (get_or new t false) ↔ LedFrom m marks (p + 1) x t
  led_more old new here adds before t = (
    λ h. elim ((adds.each t).0 h) as (λ _. LedFrom m marks (p + 1) x t) [
      | inl g ↦ (let f = (before t).0 g in (f.0, (let lt = f.1 in let r : f.0 < p + 1 = omega arith in r), f.2, f.3))
      | inr s ↦ (p, (let r : p < p + 1 = omega arith in r), here, s)
    ],
    λ h. (adds.each t).1 (elim (cases h.0 h.1) as (λ _. IsTrue (get_or old t false) ⊎ Steps m p x t) [
      | inl lt ↦ inl ((before t).1 (h.0, lt, h.2, h.3))
      | inr e ↦ inr (subst (λ z. Steps m z x t) e h.3)
    ]),
  )
    where
      cases : (k : ℕ) → k < p + 1 → (k < p) ⊎ (k ≡ p)
      cases k h = grind arith

  pub led_same : (old new : List Bool) → new ≡ old → (IsTrue (get_or marks p false) → ⊥) →
      ((t : ℕ) → IsTrue (get_or old t false) ↔ LedFrom m marks p x t) → (t : ℕ) → IsTrue (get_or new t false) ↔ LedFrom m marks (p + 1) x t
  led_same old new e none before t = (
    λ h. (let f = (before t).0 (subst (λ z. IsTrue (get_or z t false)) e h) in (f.0, (let lt = f.1 in let r : f.0 < p + 1 = omega arith in r), f.2, f.3)),
    λ h. subst (λ z. IsTrue (get_or z t false)) (sym e) (elim (cases h.0 h.1) as (λ _. IsTrue (get_or old t false)) [
      | inl lt ↦ (before t).1 (h.0, lt, h.2, h.3)
      | inr e ↦ absurd (none (subst (λ z. IsTrue (get_or marks z false)) e h.2))
    ]),
  )
    where
      cases : (k : ℕ) → k < p + 1 → (k < p) ⊎ (k ≡ p)
      cases k h = grind arith

-- a word begins with a symbol
pub word_step : (m : Automaton) (marks led : List Bool) (x : ℕ) (w : List ℕ) → AreLed m marks x led → ((p t : ℕ) → Contains (m.next p) t → t < m.states) →
    AcceptedFrom m marks m.states (x ∷ w) ↔ AcceptedFrom m led m.states w
word_step m marks led x w are inside = (
  λ h. (let walk = h.3.1 in
      (walk.0, inside h.0 walk.0 walk.1.0, (are.each walk.0).1 (h.0, h.1, h.2, walk.1), (h.3.0, walk.2, h.3.2))),
  λ h. (let from = (are.each h.0).0 h.2 in
      (from.0, from.1, from.2, (h.3.0, (h.0, from.3, h.3.1), h.3.2))),
)

pub at_last : (m : Automaton) (marks : List Bool) →
    AcceptedFrom m marks m.states [] ↔ ((p : ℕ) × (p < m.states) × IsTrue (get_or marks p false) × IsTrue (m.accepts p))
at_last m marks = (
  λ h. (h.0, h.1, h.2, subst (λ z. IsTrue (m.accepts z)) (sym h.3.1) h.3.2),
  λ h. (h.0, h.1, h.2, (h.0, refl, h.3)),
)

pub chain : {P Q R : Type 0} → P ↔ Q → Q ↔ R → P ↔ R
chain f g = (λ p. g.0 (f.0 p), λ r. f.1 (g.1 r))

module _ {A : Type 0} (set : A → ℕ → Bool) (after ahead : List (Vec ℕ Global)) (accepting : List Bool) (atoms : List A) (t : Tables A)
    (is : record { after = after; accepting = accepting; atoms = atoms } ≡ t) (are : AreTables after ahead) where
  -- what a row adds is what the symbol leads to
  pub adds_steps : (p x : ℕ) (seen : List ℕ) (seen_atoms : List A) (old new made : List Bool) → seen ≡ row after p → seen_atoms ≡ atoms → new ≡ made →
      AddsSome old made (λ q. Contains seen q × (reads_at set seen_atoms q x ≡ true)) → AddsSome old new (λ q. Steps (automaton_of set t) p x q)
  adds_steps p x seen seen_atoms old new made e e' f adds =
      subst (λ z. AddsSome old new (λ q. Steps (automaton_of set z) p x q)) is
      (subst (λ z. AddsSome old new (λ q. Contains (row after p) q × (reads_at set z q x ≡ true))) e'
      (subst (λ z. AddsSome old new (λ q. Contains z q × (reads_at set seen_atoms q x ≡ true))) e
      (subst (λ z. AddsSome old z (λ q. Contains seen q × (reads_at set seen_atoms q x ≡ true))) (sym f) adds)))

  pub row_room : (p size : ℕ) (seen : List ℕ) → seen ≡ row after p → size ≡ length after → All (λ q. q < size) seen
  row_room p size seen e same k d lt =
      let into = are.inside p (get_or seen k d) (subst (λ z. Contains z (get_or seen k d)) e (Contains-get_or seen k d lt)) in omega arith

  pub states_are : length after ≡ length t.after
  states_are = ap (λ (z : Tables A). length z.after) is

  pub steps_inside : (p q : ℕ) → Contains ((automaton_of set t).next p) q → q < (automaton_of set t).states
  steps_inside = subst (λ (z : Tables A). (p q : ℕ) → Contains (row z.after p) q → q < length z.after) is are.inside

pub led_all : (m : Automaton) (marks led : List Bool) (k x : ℕ) → k ≡ m.states → ((t : ℕ) → IsTrue (get_or led t false) ↔ LedFrom m marks k x t) → AreLed m marks x led
led_all m marks led k x e is = record { each = subst (λ z. (t : ℕ) → IsTrue (get_or led t false) ↔ LedFrom m marks z x t) e is }

pub drop_symbols : (w : List Symbol) (i : ℕ) (d : Symbol) → i < length w → symbols (drop i w) ≡ (get_or w i d).0 ∷ symbols (drop (i + 1) w)
drop_symbols w i d lt = ap symbols (drop-cons w i d lt) ∙ ap (λ k. (get_or w i d).0 ∷ symbols (drop k w)) (let e : suc i ≡ i + 1 = omega arith in e)

pub word_on : (m : Automaton) (marks marks' led : List Bool) (x : ℕ) (w w' : List ℕ) (Whole : Type 0) → marks' ≡ marks → w ≡ x ∷ w' → AreLed m marks' x led →
    ((p t : ℕ) → Contains (m.next p) t → t < m.states) → Whole ↔ AcceptedFrom m marks m.states w → Whole ↔ AcceptedFrom m led m.states w'
word_on m marks marks' led x w w' Whole same e are inside before =
    let are' : AreLed m marks x led = subst (λ z. AreLed m z x led) same are in
    chain (subst (λ z. Whole ↔ AcceptedFrom m marks m.states z) e before) (word_step m marks led x w' are' inside)

pub word_ends : (m : Automaton) (marks marks' : List Bool) (word : List Symbol) (i : ℕ) (b : Bool) (Whole : Type 0) → marks' ≡ marks → length word ≤ i →
    IsTrue b ↔ ((p : ℕ) × (p < m.states) × IsTrue (get_or marks' p false) × IsTrue (m.accepts p)) →
    Whole ↔ AcceptedFrom m marks m.states (symbols (drop i word)) → IsTrue b ↔ Whole
word_ends m marks marks' word i b Whole same over tells before =
    let none : symbols (drop i word) ≡ [] = ap symbols (drop_all i word over) in
    let there : Whole ↔ AcceptedFrom m marks m.states [] = subst (λ z. Whole ↔ AcceptedFrom m marks m.states z) none before in
    let tells' = subst (λ z. IsTrue b ↔ ((p : ℕ) × (p < m.states) × IsTrue (get_or z p false) × IsTrue (m.accepts p))) same tells in
    (λ h. there.1 ((at_last m marks).1 (tells'.0 h)), λ h. tells'.1 ((at_last m marks).0 (there.0 h)))
