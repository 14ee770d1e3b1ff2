-- Where the words of an expression begin and end, as lists in any order, and what is marked.
use Rattle.std.specs.Prelude.{◌≡◌, ℕ, ◌+◌, Bool, true, ◌&&◌, ◌||◌, ◌⊎◌, ◌↔◌, IsTrue, List, [], Vec, Contains}
use Rattle.std.specs.declared.alloc.Global.{Global}
use Rattle.wi_regex.specs.declared.regex.Regex.{Regex}
use Rattle.wi_regex.specs.Matching.{position_count, is_empty_word_in}
use Rattle.wi_nfa.specs.declared.ends.Ends.{Ends}
use Rattle.wi_nfa.specs.Positions.{BeginsAt, EndsAt, Follows}
use Rattle.wi_nfa.specs.private.Marks.{marked, IsJoint}

-- no beginnings and no ends yet
pub record IsBlank (e : Ends) : Type 0 where
  pub begins : e.begins.items ≡ []
  pub ends : e.ends.items ≡ []

-- the ends of a concatenation are made of those of its parts
pub record IsChain (front rest whole : Ends) : Type 0 where
  pub count : whole.count ≡ front.count + rest.count
  pub empty : whole.empty ≡ (front.empty && rest.empty)
  pub begins : IsJoint whole.begins.items front.begins.items front.empty rest.begins.items
  pub ends : IsJoint whole.ends.items rest.ends.items rest.empty front.ends.items

-- the ends of a choice are made of those of its sides
pub record IsChoice (one other whole : Ends) : Type 0 where
  pub count : whole.count ≡ one.count + other.count
  pub empty : whole.empty ≡ (one.empty || other.empty)
  pub begins : IsJoint whole.begins.items one.begins.items true other.begins.items
  pub ends : IsJoint whole.ends.items one.ends.items true other.ends.items

-- these are the expression's count of positions, its test of the empty word, and where its words begin and end
pub record AreEnds {A : Type 0} (n : ℕ) (r : Regex A) (e : Ends) : Type 0 where
  pub count : e.count ≡ position_count r
  pub empty : e.empty ≡ is_empty_word_in r
  pub begins : (q : ℕ) → Contains e.begins.items q ↔ BeginsAt n r q
  pub ends : (p : ℕ) → Contains e.ends.items p ↔ EndsAt n r p

-- the pairs that an expression leaves to a loop around it
abbrev pub LeftToLoop : {A : Type 0} → Bool → ℕ → Regex A → ℕ → ℕ → Type 0
LeftToLoop looped n r p q = IsTrue looped × (EndsAt n r p × BeginsAt n r q)

-- but for what is left to a loop, new has the marks of old, and those of what may follow what
pub record AddsFollows {A : Type 0} (looped : Bool) (n : ℕ) (r : Regex A) (old new : List (Vec Bool Global)) : Type 0 where
  pub marks : (p q : ℕ) →
      (IsTrue (marked new p q) ⊎ LeftToLoop looped n r p q) ↔ (IsTrue (marked old p q) ⊎ (Follows n r p q ⊎ LeftToLoop looped n r p q))
