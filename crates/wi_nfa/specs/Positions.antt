-- The positions of an expression (Glushkov 1961): its occurrences of atoms, numbered from the left. The first has the
-- number n + 1 where n stand before the expression.
use Rattle.std.specs.Prelude.{◌≡◌, ℕ, ◌+◌, Bool, ◌⊎◌, IsTrue}
use Rattle.wi_regex.specs.declared.regex.Regex.{Regex}
use Rattle.wi_regex.specs.declared.regex.Regex.TheVariants.{Atom, Concat', Either', Star', Plus', Maybe'}
use Rattle.wi_regex.specs.Matching.{position_count, is_empty_word_in}

-- a word of the expression may begin at q
abbrev pub BeginsAt : {A : Type 0} → ℕ → Regex A → ℕ → Type 0
BeginsAt n (Atom a) q = q ≡ n + 1
BeginsAt n (Concat' p a p' b) q = BeginsAt n a q ⊎ (IsTrue (is_empty_word_in a) × BeginsAt (n + position_count a) b q)
BeginsAt n (Either' p a p' b) q = BeginsAt n a q ⊎ BeginsAt (n + position_count a) b q
BeginsAt n (Star' p a) q = BeginsAt n a q
BeginsAt n (Plus' p a) q = BeginsAt n a q
BeginsAt n (Maybe' p a) q = BeginsAt n a q

-- a word of the expression may end at p
abbrev pub EndsAt : {A : Type 0} → ℕ → Regex A → ℕ → Type 0
EndsAt n (Atom a) p = p ≡ n + 1
EndsAt n (Concat' _ a _ b) p = EndsAt (n + position_count a) b p ⊎ (IsTrue (is_empty_word_in b) × EndsAt n a p)
EndsAt n (Either' _ a _ b) p = EndsAt n a p ⊎ EndsAt (n + position_count a) b p
EndsAt n (Star' _ a) p = EndsAt n a p
EndsAt n (Plus' _ a) p = EndsAt n a p
EndsAt n (Maybe' _ a) p = EndsAt n a p

-- in a word of the expression q may come next after p
abbrev pub Follows : {A : Type 0} → ℕ → Regex A → ℕ → ℕ → Type 0
Follows n (Atom a) p q = ⊥
Follows n (Concat' _ a _ b) p q =
    Follows n a p q ⊎ (Follows (n + position_count a) b p q ⊎ (EndsAt n a p × BeginsAt (n + position_count a) b q))
Follows n (Either' _ a _ b) p q = Follows n a p q ⊎ Follows (n + position_count a) b p q
Follows n (Star' _ a) p q = Follows n a p q ⊎ (EndsAt n a p × BeginsAt n a q)
Follows n (Plus' _ a) p q = Follows n a p q ⊎ (EndsAt n a p × BeginsAt n a q)
Follows n (Maybe' _ a) p q = Follows n a p q

-- at each position, reads tells of the set of the atom there
abbrev pub Agrees : {A : Type 0} → (A → ℕ → Bool) → (ℕ → ℕ → Bool) → ℕ → Regex A → Type 0
Agrees set reads n (Atom a) = (x : ℕ) → reads (n + 1) x ≡ set a x
Agrees set reads n (Concat' _ a _ b) = Agrees set reads n a × Agrees set reads (n + position_count a) b
Agrees set reads n (Either' _ a _ b) = Agrees set reads n a × Agrees set reads (n + position_count a) b
Agrees set reads n (Star' _ a) = Agrees set reads n a
Agrees set reads n (Plus' _ a) = Agrees set reads n a
Agrees set reads n (Maybe' _ a) = Agrees set reads n a
