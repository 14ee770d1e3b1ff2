-- What becomes of a shelf, step after step.
use Rattle.std.proofs.Common.{◌≡◌, ◌≢◌, ℕ, Bool, true, false, List, Option, Some, Result, refl, sym, ap, subst, ◌∙◌}
use Rattle.std.specs.Prelude.{IfErr}
use Rattle.std.specs.Str.{bytes_eq}
use Rattle.std.proofs.lemmas.Slice.Eq.{bytes_eq-Decides}
use mathlib.Core.Path.{fun_ext}
use Rattle.wi_base.specs.declared.shelf.CallKind.{CallKind}
use Rattle.wi_base.specs.Shelf.{ShelfSeen}
use Rattle.wi_outcome.specs.declared.refusal.Refusal.{Refusal}
use Rattle.wi_files.specs.Shelves.{AllStand, IsLeft, OthersStand, StandBut}

-- what is seen of a shelf is what it tells, its files and its failed calls
abbrev shelf : Bool → (List ℕ → Option (List ℕ)) → List (CallKind × List ℕ) → ShelfSeen
shelf told file failed = record { told = told; file = file; failed = failed }

pub same_shelf : (a b : ShelfSeen) → a.told ≡ b.told → ((name : List ℕ) → a.file name ≡ b.file name) → a.failed ≡ b.failed → a ≡ b
same_shelf a b told file failed =
    ap (λ (t : Bool). shelf t a.file a.failed) told
    ∙ ap (λ (f : List ℕ → Option (List ℕ)). shelf b.told f a.failed) (fun_ext file)
    ∙ ap (λ (calls : List (CallKind × List ℕ)). shelf b.told b.file calls) failed

-- where each file but one stands, and that one too, all do
pub all_stand : (old new : ShelfSeen) (name : List ℕ) → ((other : List ℕ) → other ≢ name → new.file other ≡ old.file other) → new.file name ≡ old.file name → AllStand old new
all_stand old new name others here other = by_test (bytes_eq other name) refl
  where
    by_test : (b : Bool) → bytes_eq other name ≡ b → new.file other ≡ old.file other
    by_test true e = let same : other ≡ name = (bytes_eq-Decides other name).0 e in subst (λ n. new.file n ≡ old.file n) (sym same) here
    by_test false e = others other (λ same. let yes : bytes_eq other name ≡ true = (bytes_eq-Decides other name).1 same in cc)

-- where all files stand before, and later each but some, each but these stands in the end
pub others_later : (P : List ℕ → Type 0) (old later new : ShelfSeen) → later ≡ old → StandBut P later new → StandBut P old new
others_later P old later new same stand = subst (λ s. StandBut P s new) same stand

pub left_later : {T : Type 0} (r : Result T Refusal) (old later new : ShelfSeen) → later ≡ old → IfErr r (λ refusal. IsLeft refusal later new) → IfErr r (λ refusal. IsLeft refusal old new)
left_later r old later new same left = subst (λ s. IfErr r (λ refusal. IsLeft refusal s new)) same left

-- all stands but for the first
pub only_first : (old between new : ShelfSeen) (name below : List ℕ) → OthersStand (Some name) old between → ((other : List ℕ) → other ≢ below → new.file other ≡ between.file other) → new.file below ≡ between.file below → OthersStand (Some name) old new
only_first old between new name below before after here other outside = all_stand between new below after here other ∙ before other outside
