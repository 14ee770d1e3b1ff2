-- From marks to the automaton.
use Rattle.std.proofs.Common.{◌≡◌, ℕ, zero, suc, ◌+◌, ◌-◌, ◌<◌, Bool, true, false, ◌⊎◌, ◌↔◌, IsTrue, List, [], ◌∷◌, ◌++◌, length, Some, get_or, Vec, vec_len, replicate, All, Contains, refl, sym, ap, ◌∙◌, inl, inr, subst, arith, length-append, append_assoc, append-nil}
use Rattle.std.specs.Prelude.{slice_get}
use Rattle.std.specs.declared.alloc.Global.{Global}
use Rattle.wi_regex.specs.declared.regex.Regex.{Regex}
use Rattle.wi_regex.specs.declared.regex.Regex.TheVariants.{Atom, Concat', Either', Star', Plus', Maybe'}
use Rattle.wi_regex.specs.Matching.{position_count}
use Rattle.std.proofs.lemmas.List.Elements.{Contains-get_or}
use Rattle.wi_nfa.specs.Positions.{Agrees}
use Rattle.wi_nfa.specs.Automata.{ListsRising, MayFollow, MayEnd, IsPositionAutomaton}
use Rattle.wi_nfa.specs.declared.ends.Ends.{Ends}
use Rattle.wi_nfa.specs.private.Marks.{marked, IsSquare, AddsSome, AddsMarks, IsJoint}
use Rattle.wi_nfa.specs.private.Ends.{AreEnds, AddsFollows}
use Rattle.wi_nfa.specs.private.Atoms.{HasSets, AddsAtoms}
use Rattle.wi_nfa.specs.Rows.{row, in_atom, reads_at, automaton_of}
use Rattle.wi_nfa.specs.private.Rows.{AreTables}
use Rattle.wi_nfa.proofs.Ranges.{ends_within}
use Rattle.wi_nfa.proofs.Marking.{get_replicate}
use Rattle.wi_nfa.proofs.Listing.{column_within}

only : (p : ℕ) → Contains (0 ∷ []) p → p ≡ 0
only p h = at h.0 h.1 h.2
  where
    at : (k : ℕ) → k < 1 → get_or (0 ∷ []) k p ≡ p → p ≡ 0
    at zero lt e = sym e
    at (suc k) lt e = absurd (omega arith)

alone : (p : ℕ) → p ≡ 0 → Contains (0 ∷ []) p
alone p e = (0, (let lt : 0 < 1 = omega arith in lt), sym e)

module _ {A : Type 0} (r : Regex A) (size : ℕ) (e : Ends) (joint seen : List ℕ) (are : AreEnds 0 r e)
    (joins : IsJoint joint e.ends.items e.empty (0 ∷ [])) (is_seen : seen ≡ joint) (room : size ≡ position_count r + 1) where
  each_joint : (p : ℕ) → Contains joint p ↔ MayEnd r p
  each_joint p = (
    λ h. elim ((joins.each p).0 h) as (λ _. MayEnd r p) [ inl g ↦ inr ((are.ends p).0 g) | inr g ↦ inl (only p g.1, sym are.empty ∙ g.0) ],
    λ h. (joins.each p).1 (elim h as (λ _. Contains e.ends.items p ⊎ (IsTrue e.empty × Contains (0 ∷ []) p)) [
      | inl g ↦ inr (are.empty ∙ g.1, alone p g.0)
      | inr g ↦ inl ((are.ends p).1 g)
    ]),
  )

  pub joint_room : (now : ℕ) → now ≡ size → All (λ q. q < now) seen
  joint_room now same = subst (λ z. All (λ q. q < now) z) (sym is_seen) inside
    where
      at : (p : ℕ) → MayEnd r p → p < now
      at p h = elim h as (λ _. p < now) [ inl g ↦ (let z = g.0 in omega arith) | inr g ↦ (let upto = (ends_within 0 r p g).upto in omega arith) ]

      inside : All (λ q. q < now) joint
      inside k d lt = at (get_or joint k d) ((each_joint (get_or joint k d)).0 (Contains-get_or joint k d lt))

  pub ends_marked : (old new : List Bool) → old ≡ replicate size false → AddsSome old new (λ q. Contains seen q) → (p : ℕ) → IsTrue (get_or new p false) ↔ MayEnd r p
  ends_marked old new blank adds p = (
    λ h. elim ((adds.each p).0 h) as (λ _. MayEnd r p) [
      | inl g ↦ (let f = ap (λ z. get_or z p false) blank in let f' = get_replicate size p in absurd (let t : true ≡ false = sym g ∙ f ∙ f' in cc))
      | inr g ↦ (each_joint p).0 (subst (λ z. Contains z p) is_seen g)
    ],
    λ h. (adds.each p).1 (inr (subst (λ z. Contains z p) (sym is_seen) ((each_joint p).1 h))),
  )

-- the marks of what follows what from a table with no marks on, and the row of the start
pub follows_marked : {A : Type 0} (r : Regex A) (old mid new : List (Vec Bool Global)) (e : Ends) (seen : List ℕ) → ((p q : ℕ) → IsTrue (marked old p q) → ⊥) →
    AreEnds 0 r e → AddsFollows false 0 r old mid → seen ≡ e.begins.items → AddsMarks mid new (λ p q. Contains (0 ∷ []) p × Contains seen q) →
    (p q : ℕ) → IsTrue (marked new p q) ↔ MayFollow r p q
follows_marked r old mid new e seen none are adds is links p q = (
  λ h. elim ((links.marks p q).0 h) as (λ _. MayFollow r p q) [
    | inl m ↦ elim ((adds.marks p q).0 (inl m)) as (λ _. MayFollow r p q) [
      | inl o ↦ absurd (none p q o)
      | inr g ↦ elim g as (λ _. MayFollow r p q) [ inl f ↦ inr f | inr l ↦ (let no_loop = l.0 in cc) ]
    ]
    | inr l ↦ inl (only p l.0, (are.begins q).0 (subst (λ z. Contains z q) is l.1))
  ],
  λ h. (links.marks p q).1 (elim h as (λ _. IsTrue (marked mid p q) ⊎ (Contains (0 ∷ []) p × Contains seen q)) [
    | inl g ↦ inr (alone p g.0, subst (λ z. Contains z q) (sym is) ((are.begins q).1 g.1))
    | inr f ↦ elim ((adds.marks p q).1 (inr (inl f))) as (λ _. IsTrue (marked mid p q) ⊎ (Contains (0 ∷ []) p × Contains seen q)) [ inl m ↦ inl m | inr l ↦ (let no_loop = l.0 in cc) ]
  ]),
)

cong_add : {a b c d : ℕ} → a ≡ b → c ≡ d → a + c ≡ b + d
cong_add e f = cc

-- the atoms stand at their positions
module _ {A : Type 0} (set : A → ℕ → Bool) where
  get_after : (front back : List A) (b : A) → slice_get (front ++ (b ∷ back)) (length front) ≡ Some b
  get_after [] back b = refl
  get_after (x ∷ front) back b = get_after front back b

  pub sets_length : (r : Regex A) (added : List A) → HasSets set r added → length added ≡ position_count r
  sets_length (Atom a) added has = ap length has.2
  sets_length (Concat' _ a _ b) added has = ap length has.4 ∙ length-append has.0 has.1 ∙ cong_add (sets_length a has.0 has.2) (sets_length b has.1 has.3)
  sets_length (Either' _ a _ b) added has = ap length has.4 ∙ length-append has.0 has.1 ∙ cong_add (sets_length a has.0 has.2) (sets_length b has.1 has.3)
  sets_length (Star' _ a) added has = sets_length a added has
  sets_length (Plus' _ a) added has = sets_length a added has
  sets_length (Maybe' _ a) added has = sets_length a added has

  pub agrees : (r : Regex A) (all front added back : List A) (n : ℕ) → all ≡ front ++ (added ++ back) → n ≡ length front → HasSets set r added →
      Agrees set (reads_at set all) n r
  agrees (Atom a) all front added back n is len has = λ x.
      let e : slice_get all n ≡ Some has.0 =
      ap (λ z. slice_get z n) (is ∙ ap (λ z. front ++ (z ++ back)) has.2) ∙ ap (λ z. slice_get (front ++ (has.0 ∷ back)) z) len ∙ get_after front back has.0 in
      ap (λ z. in_atom set (slice_get all z) x) (let one : n + 1 - 1 ≡ n = omega arith in one) ∙ ap (λ z. in_atom set z x) e ∙ has.1 x
  agrees (Concat' _ a _ b) all front added back n is len has = (let e = is ∙ ap (λ z. front ++ (z ++ back)) has.4 in (
    agrees a all front has.0 (has.1 ++ back) n (e ∙ ap (λ z. front ++ z) (append_assoc has.0 has.1 back)) len has.2,
    agrees b all (front ++ has.0) has.1 back (n + position_count a) (e ∙ ap (λ z. front ++ z) (append_assoc has.0 has.1 back) ∙ sym (append_assoc front has.0 (has.1 ++ back)))
        (cong_add len (sym (sets_length a has.0 has.2)) ∙ sym (length-append front has.0)) has.3,
  ))
  agrees (Either' _ a _ b) all front added back n is len has = (let e = is ∙ ap (λ z. front ++ (z ++ back)) has.4 in (
    agrees a all front has.0 (has.1 ++ back) n (e ∙ ap (λ z. front ++ z) (append_assoc has.0 has.1 back)) len has.2,
    agrees b all (front ++ has.0) has.1 back (n + position_count a) (e ∙ ap (λ z. front ++ z) (append_assoc has.0 has.1 back) ∙ sym (append_assoc front has.0 (has.1 ++ back)))
        (cong_add len (sym (sets_length a has.0 has.2)) ∙ sym (length-append front has.0)) has.3,
  ))
  agrees (Star' _ a) all front added back n is len has = agrees a all front added back n is len has
  agrees (Plus' _ a) all front added back n is len has = agrees a all front added back n is len has
  agrees (Maybe' _ a) all front added back n is len has = agrees a all front added back n is len has

  -- the tables make the position automaton
  pub built : (r : Regex A) (marks seen : List (Vec Bool Global)) (accepting : List Bool) (atoms : List A) (after : List (Vec ℕ Global)) →
      seen ≡ marks → length after ≡ position_count r + 1 →
      ((p q : ℕ) → IsTrue (marked marks p q) ↔ MayFollow r p q) →
      ((p : ℕ) → IsTrue (get_or accepting p false) ↔ MayEnd r p) →
      AddsAtoms set r [] atoms →
      ((p : ℕ) → ListsRising (row after p) (λ q. IsTrue (marked seen p q))) →
      IsPositionAutomaton set r (automaton_of set (record { after = after; accepting = accepting; atoms = atoms }))
  built r marks seen accepting atoms after is count follows' ends adds rows = let follows = subst (λ z. (p q : ℕ) → IsTrue (marked z p q) ↔ MayFollow r p q) (sym is) follows' in record {
    states = count;
    next = λ p. record {
      rising = (rows p).rising;
      each = λ q. (λ m. (follows p q).0 (((rows p).each q).0 m), λ h. ((rows p).each q).1 ((follows p q).1 h));
    };
    accepts = ends;
    sets = agrees r atoms [] adds.added [] 0 (adds.are ∙ sym (append-nil adds.added)) refl adds.sets;
  }

pub tables : (marks : List (Vec Bool Global)) (after ahead : List (Vec ℕ Global)) (n : ℕ) → length after ≡ n → length ahead ≡ n →
    ((p : ℕ) → ListsRising (row after p) (λ q. IsTrue (marked marks p q))) → ((q : ℕ) → ListsRising (row ahead q) (λ p. IsTrue (marked marks p q))) →
    IsSquare marks n → 0 < n → AreTables after ahead
tables marks after ahead n len_after len_ahead rows columns square some = record {
  start = omega arith;
  inside = λ p q h. (let lt = column_within marks n p q square (((rows p).each q).0 h) in omega arith);
  same_count = len_ahead ∙ sym len_after;
  rising = λ p. (rows p).rising;
  turned = λ q. record {
    rising = (columns q).rising;
    each = λ p. (λ m. ((rows p).each q).1 (((columns q).each p).0 m), λ m. ((columns q).each p).1 (((rows p).each q).0 m));
  };
}

pub count_rows : (v : Vec (Vec ℕ Global) Global) (n : ℕ) → vec_len v ≡ n → length v.items ≡ n
count_rows v n e = let ok = v.ok in omega arith

pub adds_from : {A : Type 0} (set : A → ℕ → Bool) (r : Regex A) (old new : List A) → old ≡ [] → AddsAtoms set r old new → AddsAtoms set r [] new
adds_from set r old new e adds = subst (λ z. AddsAtoms set r z new) e adds

pub square_as : (marks seen : List (Vec Bool Global)) (n k : ℕ) → IsSquare marks n → k ≡ n → seen ≡ marks → IsSquare seen k
square_as marks seen n k square e is = subst (λ z. IsSquare seen z) (sym e) (subst (λ z. IsSquare z n) (sym is) square)
