-- Stacks that are written and read entry by entry.
use Rattle.std.proofs.Common.{◌≡◌, ℕ, suc, ◌+◌, ◌-◌, ◌<◌, Bool, true, false, nat_lt, nat_eq, List, [], ◌∷◌, ◌++◌, length, drop, get_or, refl, sym, ap, ◌∙◌, arith, append_assoc, append-nil, length-append, length-drop}
use Rattle.std.specs.List.{list_all}
use Rattle.std.proofs.lemmas.Bool.{and_from, lt-ltb, eq-eqb, ne_eqb}
use Rattle.std.proofs.lemmas.List.{drop_at, drop_more, length_push}
use Rattle.wi_net.proofs.KeptLists.{all_push}
use Rattle.wi_wire.specs.declared.entry.Entry.{Entry}
use Rattle.wi_wire.specs.Stacks.{is_free, is_entry, entry_bytes, upper_bytes, s_of, each_entry, stack_bytes, IsStack}
use Rattle.wi_wire.specs.private.Entries.{FitsBits, IsFirst}

-- a bottom entry under upper ones
stack_push : (upper : List Entry) (e : Entry) → stack_bytes (upper ++ e ∷ []) ≡ upper_bytes upper ++ entry_bytes 1 e
stack_push [] e = refl
stack_push (f ∷ []) e = refl
stack_push (f ∷ g ∷ upper) e = ap (λ (bytes : List ℕ). entry_bytes 0 f ++ bytes) (stack_push (g ∷ upper) e)

-- an entry that was read, whose label is free
entry_fits : (e : Entry) → FitsBits e → is_free e.label ≡ true → is_entry e ≡ true
entry_fits e fits free = and_from (is_free e.label) _ free (and_from (nat_lt e.exp 8) _ (lt-ltb e.exp 8 fits.exp) (lt-ltb e.ttl 256 fits.ttl))

-- the bytes of a stack that was read to its bottom
stack_is : (bytes rest after : List ℕ) (upper all : List Entry) (e : Entry) (is_bottom : Bool) → bytes ≡ upper_bytes upper ++ rest → IsFirst rest e is_bottom after → is_bottom ≡ true → all ≡ upper ++ e ∷ [] → bytes ≡ stack_bytes all ++ after
stack_is bytes rest after upper all e is_bottom before first bottom push =
    let here : rest ≡ entry_bytes 1 e ++ after = rw bottom at first.bytes_are in
    before ∙ ap (λ (r : List ℕ). upper_bytes upper ++ r) here ∙ sym (append_assoc (upper_bytes upper) (entry_bytes 1 e) after) ∙ ap (λ (b : List ℕ). b ++ after) (sym (stack_push upper e)) ∙ ap (λ (es : List Entry). stack_bytes es ++ after) (sym push)

used_is : (bytes stack after : List ℕ) → bytes ≡ stack ++ after → length bytes - length after ≡ length stack
used_is bytes stack after e = omega (arith, ap length e ∙ length-append stack after)

pub stack_used : (bytes rest after : List ℕ) (upper all : List Entry) (e : Entry) (is_bottom : Bool) → bytes ≡ upper_bytes upper ++ rest → IsFirst rest e is_bottom after → is_bottom ≡ true → all ≡ upper ++ e ∷ []
    → length bytes - length after ≡ length (stack_bytes all)
stack_used bytes rest after upper all e is_bottom before first bottom push = used_is bytes (stack_bytes all) after (stack_is bytes rest after upper all e is_bottom before first bottom push)

pub stack_read : (bytes rest after : List ℕ) (upper all : List Entry) (e : Entry) (is_bottom : Bool) → list_all is_entry upper ≡ true → bytes ≡ upper_bytes upper ++ rest → IsFirst rest e is_bottom after → is_free e.label ≡ true → is_bottom ≡ true → all ≡ upper ++ e ∷ []
    → IsStack bytes all (drop (length bytes - length after) bytes)
stack_read bytes rest after upper all e is_bottom fit before first free bottom push =
    let whole = stack_is bytes rest after upper all e is_bottom before first bottom push in
    let left : drop (length bytes - length after) bytes ≡ after = ap (λ (b : List ℕ). drop (length bytes - length after) b) whole ∙ drop_at (stack_bytes all) after (length bytes - length after) (sym (used_is bytes (stack_bytes all) after whole)) in
    record {
      some = omega (arith, ap length push ∙ length_push upper e);
      fit = ap (list_all is_entry) push ∙ all_push is_entry upper e fit (entry_fits e first.fits free);
      bytes_are = whole ∙ ap (λ (r : List ℕ). stack_bytes all ++ r) (sym left);
    }

-- what an entry is written as stands before what those below it are, whichever it is
each_step : (written : ℕ → Entry → List ℕ) (es : List Entry) (i : ℕ) (d : Entry) → i < length es
    → each_entry written (drop i es) ≡ written (s_of (nat_eq (i + 1) (length es))) (get_or es i d) ++ each_entry written (drop (i + 1) es)
each_step written es i d within = ap (each_entry written) (drop_more es i d within) ∙ go (drop (i + 1) es) refl
  where
    go : (rest : List Entry) → drop (i + 1) es ≡ rest → each_entry written (get_or es i d ∷ rest) ≡ written (s_of (nat_eq (i + 1) (length es))) (get_or es i d) ++ each_entry written rest
    go [] left =
        let count : length es - (i + 1) ≡ 0 = sym (length-drop (i + 1) es) ∙ ap length left in
        let last : nat_eq (i + 1) (length es) ≡ true = eq-eqb (i + 1) (length es) (omega (arith, within, count)) in
        rw last (sym (append-nil (written 1 (get_or es i d))))
    go (f ∷ rest) left =
        let count : length es - (i + 1) ≡ suc (length rest) = sym (length-drop (i + 1) es) ∙ ap length left in
        let upper : nat_eq (i + 1) (length es) ≡ false = ne_eqb (i + 1) (length es) (λ same. absurd (omega (arith, count, same))) in
        rw upper refl

-- a stack is written entry by entry, whatever an entry is written as
pub each_next : (written : ℕ → Entry → List ℕ) (es : List Entry) (i : ℕ) (d : Entry) (made more whole : List ℕ) → i < length es → more ≡ made ++ written (s_of (nat_eq (i + 1) (length es))) (get_or es i d)
    → made ++ each_entry written (drop i es) ≡ whole → more ++ each_entry written (drop (i + 1) es) ≡ whole
each_next written es i d made more whole within push walk =
    ap (λ (text : List ℕ). text ++ each_entry written (drop (i + 1) es)) push ∙ append_assoc made (written (s_of (nat_eq (i + 1) (length es))) (get_or es i d)) (each_entry written (drop (i + 1) es))
    ∙ ap (λ (text : List ℕ). made ++ text) (sym (each_step written es i d within)) ∙ walk
