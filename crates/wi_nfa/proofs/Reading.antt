-- What the iterators over states give.
use Rattle.std.proofs.Common.{◌≡◌, ℕ, ◌<◌, Bool, true, false, ◌⊎◌, List, [], ◌∷◌, length, get_or, Vec, Contains, cond, refl, sym, ap, ◌∙◌, inl, inr, subst}
use Rattle.std.specs.Prelude.{filter}
use Rattle.std.specs.declared.alloc.Global.{Global}
use Rattle.std.proofs.lemmas.Option.{slice_get_read}
use Rattle.std.proofs.lemmas.List.Kept.{IsStrictlyIncreasing-filter}
use Rattle.wi_nfa.specs.Automata.{ListsRising, Steps}
use Rattle.wi_nfa.specs.Rows.{items_of, row, reads_at, Tables, automaton_of}
use Rattle.wi_nfa.specs.private.Rows.{AreTables}
use Rattle.wi_nfa.specs.Left.{kept}
use Rattle.wi_nfa.proofs.Marking.{nothing_in}
use Rattle.std.proofs.lemmas.List.Elements.{Contains-append_left, Contains-append_right, Contains-append_cases, Contains-push, Contains-push_cases}

pub row_read : (rows : List (Vec ℕ Global)) (n q : ℕ) (v : Vec ℕ Global) → n ≡ length rows → q < n → v ≡ get_or rows q v → v.items ≡ row rows q
row_read rows n q v count lt e = ap items_of (sym (slice_get_read rows n q v count lt e))

pub head_in : (x : ℕ) (xs : List ℕ) → Contains (x ∷ xs) x
head_in x xs = Contains-append_left (x ∷ []) xs x (Contains-push [] x)

pub tail_in : (x t : ℕ) (xs : List ℕ) → Contains xs t → Contains (x ∷ xs) t
tail_in x t xs h = Contains-append_right (x ∷ []) xs t h

pub head_or_tail : (x t : ℕ) (xs : List ℕ) → Contains (x ∷ xs) t → (x ≡ t) ⊎ Contains xs t
head_or_tail x t xs h =
    elim (Contains-append_cases (x ∷ []) xs t h) as (λ _. (x ≡ t) ⊎ Contains xs t) [
      | inl g ↦ elim (Contains-push_cases [] x t g) as (λ _. (x ≡ t) ⊎ Contains xs t) [ inl k ↦ nothing_in t k | inr e ↦ inl e ]
      | inr g ↦ inr g
    ]

from_filter_by : (p : ℕ → Bool) (x : ℕ) (xs : List ℕ) (t : ℕ) → (Contains (filter p xs) t → Contains xs t × (p t ≡ true)) → (b : Bool) → p x ≡ b →
    Contains (cond b (x ∷ filter p xs) (filter p xs)) t → Contains (x ∷ xs) t × (p t ≡ true)
from_filter_by p x xs t rest true e g = elim (head_or_tail x t (filter p xs) g) as (λ _. Contains (x ∷ xs) t × (p t ≡ true)) [
  | inl same ↦ (subst (λ z. Contains (x ∷ xs) z) same (head_in x xs), subst (λ z. p z ≡ true) same e)
  | inr k ↦ (tail_in x t xs (rest k).0, (rest k).1)
]
from_filter_by p x xs t rest false e g = (tail_in x t xs (rest g).0, (rest g).1)

pub from_filter : (p : ℕ → Bool) (xs : List ℕ) (t : ℕ) → Contains (filter p xs) t → Contains xs t × (p t ≡ true)
from_filter p [] t h = nothing_in t h
from_filter p (x ∷ xs) t h = from_filter_by p x xs t (from_filter p xs t) (p x) refl h

into_filter_by : (p : ℕ → Bool) (x : ℕ) (xs : List ℕ) (t : ℕ) → (Contains xs t → Contains (filter p xs) t) → p t ≡ true → (b : Bool) → p x ≡ b →
    (x ≡ t) ⊎ Contains xs t → Contains (cond b (x ∷ filter p xs) (filter p xs)) t
into_filter_by p x xs t rest pass true e (inl same) = subst (λ z. Contains (x ∷ filter p xs) z) same (head_in x (filter p xs))
into_filter_by p x xs t rest pass true e (inr k) = tail_in x t (filter p xs) (rest k)
into_filter_by p x xs t rest pass false e (inl same) = let f = ap p same in cc
into_filter_by p x xs t rest pass false e (inr k) = rest k

pub into_filter : (p : ℕ → Bool) (xs : List ℕ) (t : ℕ) → Contains xs t → p t ≡ true → Contains (filter p xs) t
into_filter p [] t h pass = nothing_in t h
into_filter p (x ∷ xs) t h pass = into_filter_by p x xs t (λ k. into_filter p xs t k pass) pass (p x) refl (head_or_tail x t xs h)

pub states_below : {A : Type 0} (t u : Tables A) (q : ℕ) → t ≡ u → q < length u.after → q < length t.after
states_below t u q e h = subst (λ (z : Tables _). q < length z.after) (sym e) h

module _ {A : Type 0} (set : A → ℕ → Bool) (after ahead : List (Vec ℕ Global)) (accepting : List Bool) (atoms : List A) (t : Tables A) (q x : ℕ)
    (is : record { after = after; accepting = accepting; atoms = atoms } ≡ t) (are : AreTables after ahead) where
  here : Tables A
  here = record { after = after; accepting = accepting; atoms = atoms }

  pub among_lists : (seen_atoms : List A) (seen states : List ℕ) →
      seen ≡ row after q → seen_atoms ≡ atoms → states ≡ kept set false seen_atoms x seen → ListsRising states (Steps (automaton_of set t) q x)
  among_lists seen_atoms seen states e e' f =
      subst (λ z. ListsRising states (Steps (automaton_of set z) q x)) is
      (subst (λ z. ListsRising z (λ s. Contains (row after q) s × (reads_at set atoms s x ≡ true))) (sym (f ∙ ap (λ z. kept set false z x seen) e' ∙ ap (λ z. kept set false atoms x z) e))
      (record {
        rising = IsStrictlyIncreasing-filter (λ s. reads_at set atoms s x) (row after q) (are.rising q);
        each = λ s. (from_filter (λ z. reads_at set atoms z x) (row after q) s, λ h. into_filter (λ z. reads_at set atoms z x) (row after q) s h.0 h.1);
      }))

  pub all_lists : (seen_atoms : List A) (seen states : List ℕ) (b : Bool) → b ≡ reads_at set seen_atoms q x → b ≡ true →
      seen ≡ row ahead q → seen_atoms ≡ atoms → states ≡ kept set true seen_atoms x seen → ListsRising states (λ p. Steps (automaton_of set t) p x q)
  all_lists seen_atoms seen states b reads holds e e' f =
      let enters : reads_at set atoms q x ≡ true = ap (λ z. reads_at set z q x) (sym e') ∙ sym reads ∙ holds in
      subst (λ z. ListsRising states (λ p. Steps (automaton_of set z) p x q)) is
      (subst (λ z. ListsRising z (λ p. Contains (row after p) q × (reads_at set atoms q x ≡ true))) (sym (f ∙ ap (λ z. kept set true seen_atoms x z) e))
      (record {
        rising = IsStrictlyIncreasing-filter (λ s. true) (row ahead q) ((are.turned q).rising);
        each = λ s. (λ h. (((are.turned q).each s).0 (from_filter (λ z. true) (row ahead q) s h).0, enters), λ h. into_filter (λ z. true) (row ahead q) s (((are.turned q).each s).1 h.0) refl);
      }))
