-- Bytes begin with one stack, or are refused in one way.
use Rattle.std.proofs.Common.{◌≡◌, ℕ, suc, ◌<◌, ◌≤◌, true, List, [], ◌∷◌, ◌++◌, length, refl, sym, ap, subst, ◌∙◌, arith}
use Rattle.std.specs.List.{list_all}
use Rattle.std.proofs.lemmas.Bool.{and_parts}
use Rattle.wi_wire.specs.declared.entry.Entry.{Entry}
use Rattle.wi_wire.specs.declared.refused.StackRefused.{StackRefused}
use Rattle.wi_wire.specs.declared.refused.StackRefused.TheVariants.{Memory, Cut, Reserved}
use Rattle.wi_wire.specs.Stacks.{is_entry, entry_bytes, upper_bytes, stack_bytes, IsStack, IsAfter, HasLabel, IsNoStack}
use Rattle.wi_wire.specs.private.Entries.{FitsBits}
use Rattle.wi_wire.proofs.EntryLemmas.{same_first, fits_of, free_least, free_of}

-- no entry stands there that may be in a stack
IsStuck : List ℕ → Type 0
IsStuck bytes = (s : ℕ) (e : Entry) (rest : List ℕ) → s < 2 → is_entry e ≡ true → bytes ≡ entry_bytes s e ++ rest → ⊥

-- two entries of stacks that the same bytes begin with
same_entry : (s t : ℕ) (e f : Entry) (p q : List ℕ) → s < 2 → t < 2 → is_entry e ≡ true → is_entry f ≡ true → entry_bytes s e ++ p ≡ entry_bytes t f ++ q → (s ≡ t) × (e ≡ f) × (p ≡ q)
same_entry s t e f p q bit also is good same = same_first s t e f p q bit also (fits_of e is) (fits_of f good) same

entries_parts : (e : Entry) (es : List Entry) → list_all is_entry (e ∷ es) ≡ true → (is_entry e ≡ true) × (list_all is_entry es ≡ true)
entries_parts e es all = and_parts (is_entry e) (list_all is_entry es) all

stack_once : (s t : List Entry) (rest more : List ℕ) → 0 < length s → 0 < length t → list_all is_entry s ≡ true → list_all is_entry t ≡ true → stack_bytes s ++ rest ≡ stack_bytes t ++ more → (s ≡ t) × (rest ≡ more)
stack_once [] t rest more some also fit good same = absurd (omega (arith, some))
stack_once (e ∷ s) [] rest more some also fit good same = absurd (omega (arith, also))
stack_once (e ∷ []) (f ∷ []) rest more some also fit good same =
    let parts = same_entry 1 1 e f rest more (omega arith) (omega arith) (entries_parts e [] fit).0 (entries_parts f [] good).0 same in
    (ap (λ x. x ∷ []) parts.1, parts.2)
stack_once (e ∷ []) (f ∷ g ∷ t) rest more some also fit good same =
    absurd (omega (arith, (same_entry 1 0 e f rest (stack_bytes (g ∷ t) ++ more) (omega arith) (omega arith) (entries_parts e [] fit).0 (entries_parts f (g ∷ t) good).0 same).0))
stack_once (e ∷ d ∷ s) (f ∷ []) rest more some also fit good same =
    absurd (omega (arith, (same_entry 0 1 e f (stack_bytes (d ∷ s) ++ rest) more (omega arith) (omega arith) (entries_parts e (d ∷ s) fit).0 (entries_parts f [] good).0 same).0))
stack_once (e ∷ d ∷ s) (f ∷ g ∷ t) rest more some also fit good same =
    let upper = entries_parts e (d ∷ s) fit in
    let other = entries_parts f (g ∷ t) good in
    let parts = same_entry 0 0 e f (stack_bytes (d ∷ s) ++ rest) (stack_bytes (g ∷ t) ++ more) (omega arith) (omega arith) upper.0 other.0 same in
    let below = stack_once (d ∷ s) (g ∷ t) rest more (omega arith) (omega arith) upper.1 other.1 parts.2 in
    (let head : e ≡ f = parts.1 in let tail : d ∷ s ≡ g ∷ t = below.0 in cc, below.1)

pub one_stack : (bytes more rest : List ℕ) (s t : List Entry) → IsStack bytes s rest → IsStack bytes t more → (s ≡ t) × (rest ≡ more)
one_stack bytes more rest s t a b = stack_once s t rest more a.some b.some a.fit b.fit (sym a.bytes_are ∙ b.bytes_are)

-- a stack doesn't go on where no entry stands
no_stack_stuck : (s upper : List Entry) (rest bytes : List ℕ) → 0 < length s → list_all is_entry s ≡ true → list_all is_entry upper ≡ true → IsStuck bytes → stack_bytes s ++ rest ≡ upper_bytes upper ++ bytes → ⊥
unfolding IsStuck
no_stack_stuck [] upper rest bytes some fit good stuck same = omega (arith, some)
no_stack_stuck (e ∷ []) [] rest bytes some fit good stuck same = stuck 1 e rest (omega arith) (entries_parts e [] fit).0 (sym same)
no_stack_stuck (e ∷ d ∷ s) [] rest bytes some fit good stuck same = stuck 0 e (stack_bytes (d ∷ s) ++ rest) (omega arith) (entries_parts e (d ∷ s) fit).0 (sym same)
no_stack_stuck (e ∷ []) (f ∷ upper) rest bytes some fit good stuck same =
    omega (arith, (same_entry 1 0 e f rest (upper_bytes upper ++ bytes) (omega arith) (omega arith) (entries_parts e [] fit).0 (entries_parts f upper good).0 same).0)
no_stack_stuck (e ∷ d ∷ s) (f ∷ upper) rest bytes some fit good stuck same =
    let own = entries_parts e (d ∷ s) fit in
    let other = entries_parts f upper good in
    let parts = same_entry 0 0 e f (stack_bytes (d ∷ s) ++ rest) (upper_bytes upper ++ bytes) (omega arith) (omega arith) own.0 other.0 same in
    no_stack_stuck (d ∷ s) upper rest bytes (omega arith) own.1 other.1 stuck parts.2

-- after upper entries there is one place where none stands
stuck_once : (u v : List Entry) (p q : List ℕ) → list_all is_entry u ≡ true → list_all is_entry v ≡ true → IsStuck p → IsStuck q → upper_bytes u ++ p ≡ upper_bytes v ++ q → (length u ≡ length v) × (p ≡ q)
unfolding IsStuck
stuck_once [] [] p q fit good stuck held same = (refl, same)
stuck_once [] (f ∷ v) p q fit good stuck held same = absurd (stuck 0 f (upper_bytes v ++ q) (omega arith) (entries_parts f v good).0 same)
stuck_once (e ∷ u) [] p q fit good stuck held same = absurd (held 0 e (upper_bytes u ++ p) (omega arith) (entries_parts e u fit).0 (sym same))
stuck_once (e ∷ u) (f ∷ v) p q fit good stuck held same =
    let own = entries_parts e u fit in
    let other = entries_parts f v good in
    let parts = same_entry 0 0 e f (upper_bytes u ++ p) (upper_bytes v ++ q) (omega arith) (omega arith) own.0 other.0 same in
    let below = stuck_once u v p q own.1 other.1 stuck held parts.2 in
    (ap suc below.0, below.1)

cut_stuck : (bytes : List ℕ) → length bytes < 4 → IsStuck bytes
unfolding IsStuck
cut_stuck bytes short s e rest bit is same = let count : length bytes ≡ suc (suc (suc (suc (length rest)))) = ap length same in omega (arith, count, short)

labelled_fits : (bytes : List ℕ) (label : ℕ) → label < 16 → (h : HasLabel bytes label) → FitsBits h.entry
labelled_fits bytes label low h = record { label = omega (arith, h.label_is, low); exp = h.exp; ttl = h.ttl }

reserved_stuck : (bytes : List ℕ) (label : ℕ) → label < 16 → HasLabel bytes label → IsStuck bytes
unfolding IsStuck
reserved_stuck bytes label low h s e rest bit is same =
    let parts = same_first h.s s h.entry e h.rest rest h.one_bit bit (labelled_fits bytes label low h) (fits_of e is) (sym h.bytes_are ∙ same) in
    omega (arith, ap (λ (x : Entry). x.label) parts.1, free_least e.label (free_of e is), h.label_is, low)

-- the place at which bytes are refused, where no entry stands
stuck_after : (bytes : List ℕ) (i : ℕ) (rest : List ℕ) (s : List Entry) (more : List ℕ) → IsStack bytes s more → IsAfter bytes i rest → IsStuck rest → ⊥
stuck_after bytes i rest s more a h stuck = no_stack_stuck s h.upper more rest a.some a.fit h.fit stuck (sym a.bytes_are ∙ h.bytes_are)

pub apart : (bytes rest : List ℕ) (s : List Entry) (refusal : StackRefused) → IsStack bytes s rest → IsNoStack bytes refusal → refusal ≡ Memory
apart bytes rest s Memory a h = refl
apart bytes rest s (Cut i) a h = absurd (stuck_after bytes i h.0 s rest a h.1 (cut_stuck h.0 h.2))
apart bytes rest s (Reserved i label) a h = absurd (stuck_after bytes i h.0 s rest a h.1 (reserved_stuck h.0 label h.2 h.3))

after_once : (bytes : List ℕ) (i j : ℕ) (p q : List ℕ) → IsAfter bytes i p → IsAfter bytes j q → IsStuck p → IsStuck q → (i ≡ j) × (p ≡ q)
after_once bytes i j p q a b stuck held =
    let parts = stuck_once a.upper b.upper p q a.fit b.fit stuck held (sym a.bytes_are ∙ b.bytes_are) in
    (a.count_is ∙ parts.0 ∙ sym b.count_is, parts.1)

-- four bytes are there for an entry
labelled_long : (bytes : List ℕ) (label : ℕ) → HasLabel bytes label → 4 ≤ length bytes
labelled_long bytes label h = let count : length bytes ≡ suc (suc (suc (suc (length h.rest)))) = ap length h.bytes_are in omega (arith, count)

label_once : (bytes : List ℕ) (label other : ℕ) → label < 16 → other < 16 → HasLabel bytes label → HasLabel bytes other → label ≡ other
label_once bytes label other low small h k =
    let parts = same_first h.s k.s h.entry k.entry h.rest k.rest h.one_bit k.one_bit (labelled_fits bytes label low h) (labelled_fits bytes other small k) (sym h.bytes_are ∙ k.bytes_are) in
    h.label_is ∙ ap (λ (x : Entry). x.label) parts.1 ∙ sym k.label_is

pub first : (bytes : List ℕ) (a b : StackRefused) → IsNoStack bytes a → IsNoStack bytes b → (a ≡ Memory → ⊥) → (b ≡ Memory → ⊥) → a ≡ b
first bytes Memory b h k no_memory other = absurd (no_memory refl)
first bytes (Cut i) Memory h k no_memory other = absurd (other refl)
first bytes (Reserved i label) Memory h k no_memory other = absurd (other refl)
first bytes (Cut i) (Cut j) h k no_memory other =
    ap Cut (after_once bytes i j h.0 k.0 h.1 k.1 (cut_stuck h.0 h.2) (cut_stuck k.0 k.2)).0
first bytes (Cut i) (Reserved j label) h k no_memory other =
    let parts = after_once bytes i j h.0 k.0 h.1 k.1 (cut_stuck h.0 h.2) (reserved_stuck k.0 label k.2 k.3) in
    absurd (omega (arith, ap length parts.1, h.2, labelled_long k.0 label k.3))
first bytes (Reserved i label) (Cut j) h k no_memory other =
    let parts = after_once bytes i j h.0 k.0 h.1 k.1 (reserved_stuck h.0 label h.2 h.3) (cut_stuck k.0 k.2) in
    absurd (omega (arith, ap length parts.1, k.2, labelled_long h.0 label h.3))
first bytes (Reserved i label) (Reserved j wrong) h k no_memory other =
    let parts = after_once bytes i j h.0 k.0 h.1 k.1 (reserved_stuck h.0 label h.2 h.3) (reserved_stuck k.0 wrong k.2 k.3) in
    let moved : HasLabel h.0 wrong = subst (λ (r : List ℕ). HasLabel r wrong) (sym parts.1) k.3 in
    let place : i ≡ j = parts.0 in
    let same : label ≡ wrong = label_once h.0 label wrong h.2 k.2 h.3 moved in
    cc
