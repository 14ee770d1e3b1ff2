-- Lemmas on headers.
use Rattle.std.proofs.Common.{◌≡◌, ◌≢◌, ℕ, zero, suc, ◌+◌, ◌-◌, ◌≤◌, Bool, true, false, List, [], ◌∷◌, length, drop, slice_get, Option, Some, None, Result, Ok, Err, refl, arith, add-one, length-drop}
use Rattle.wi_labels.specs.declared.label.Label.{Label}
use Rattle.wi_labels.specs.declared.label.Class.TheVariants.{Mpls, Smpls, Ip}
use Rattle.wi_labels.specs.declared.ops.Op.{Op}
use Rattle.wi_labels.specs.declared.ops.Op.TheVariants.{Swap, Push, Pop}
use Rattle.wi_labels.specs.Header.{Entry, is_tunnel, is_valid_header, outcome, after_op, after_ops, allowed, effect}
use Rattle.wi_labels.specs.private.Header.{is_ip}

-- what is left from a place on, where an element stands there
pub drop_at : {X : Type 0} (xs : List X) (i : ℕ) (x : X) → slice_get xs i ≡ Some x → drop i xs ≡ x ∷ drop (i + 1) xs
drop_at [] i x e = cc
drop_at (y ∷ ys) zero x e = cc
drop_at (y ∷ ys) (suc i) x e = rw add-one (rw add-one at (drop_at ys i x e))

pub slice_get_after : {X : Type 0} (xs : List X) (i : ℕ) → slice_get (drop i xs) 0 ≡ slice_get xs i
slice_get_after [] zero = refl
slice_get_after [] (suc i) = refl
slice_get_after (x ∷ xs) zero = refl
slice_get_after (x ∷ xs) (suc i) = slice_get_after xs i

pub tunnel_mpls : (h : List Entry) (i : ℕ) (l : Label) → slice_get h i ≡ Some (l, Mpls) → is_tunnel (drop i h) ≡ is_tunnel (drop (i + 1) h)
tunnel_mpls h i l e = rw (drop_at h i (l, Mpls) e) refl

pub tunnel_end : (h : List Entry) (i : ℕ) → length h ≤ i → is_tunnel (drop i h) ≡ false
tunnel_end [] zero k = refl
tunnel_end [] (suc i) k = refl
tunnel_end (x ∷ xs) zero k = absurd (omega (arith, k))
tunnel_end (x ∷ xs) (suc i) k = tunnel_end xs i (omega (arith, k))

pub tunnel_ip : (h : List Entry) (i : ℕ) (l : Label) → slice_get h i ≡ Some (l, Ip) → is_tunnel (drop i h) ≡ false
tunnel_ip h i l e = rw (drop_at h i (l, Ip) e) refl

two_left : (l : Label) (rest : List Entry) → length rest ≡ 1 → is_tunnel ((l, Smpls) ∷ rest) ≡ is_ip (slice_get rest 0)
two_left l [] e = refl
two_left l ((m, Mpls) ∷ []) e = refl
two_left l ((m, Smpls) ∷ []) e = refl
two_left l ((m, Ip) ∷ []) e = refl
two_left l (x ∷ y ∷ rest) e = absurd (omega (arith, e))

more_left : (l : Label) (rest : List Entry) → length rest ≢ 1 → is_tunnel ((l, Smpls) ∷ rest) ≡ false
more_left l [] e = refl
more_left l ((m, Mpls) ∷ rest) e = refl
more_left l ((m, Smpls) ∷ rest) e = refl
more_left l ((m, Ip) ∷ []) e = absurd (e refl)
more_left l ((m, Ip) ∷ y ∷ rest) e = refl

pub tunnel_smpls : (h : List Entry) (i : ℕ) (l : Label) → slice_get h i ≡ Some (l, Smpls) → length h - i ≡ 2 → is_tunnel (drop i h) ≡ is_ip (slice_get h (i + 1))
tunnel_smpls h i l e two =
    rw (drop_at h i (l, Smpls) e, ← slice_get_after h (i + 1)) (two_left l (drop (i + 1) h) (simp length-drop (omega arith)))

pub tunnel_not : (h : List Entry) (i : ℕ) (l : Label) → slice_get h i ≡ Some (l, Smpls) → length h - i ≢ 2 → is_tunnel (drop i h) ≡ false
tunnel_not h i l e other =
    rw (drop_at h i (l, Smpls) e) (more_left l (drop (i + 1) h) (simp length-drop (omega arith)))

pub ruleset tunnel_laws = (tunnel_mpls, tunnel_ip, tunnel_end, tunnel_smpls, tunnel_not)

-- what an allowed operation leaves of a valid header is valid
effect_valid : (op : Op) (top : Entry) (below : List Entry) → is_valid_header (top ∷ below) ≡ true → allowed op top.1 ≡ true → is_valid_header (effect op top below) ≡ true
effect_valid (Swap l Mpls) (t, Mpls) below v a = v
effect_valid (Swap l Smpls) (t, Smpls) below v a = v
effect_valid (Swap l Ip) (t, Ip) [] v a = refl
effect_valid (Swap l Ip) (t, Ip) (x ∷ below) v a = cc
effect_valid (Push l Mpls) (t, Mpls) below v a = v
effect_valid (Push l Mpls) (t, Smpls) below v a = v
effect_valid (Push l Smpls) (t, Ip) [] v a = refl
effect_valid (Push l Smpls) (t, Ip) (x ∷ below) v a = cc
effect_valid Pop (t, Mpls) ((u, Mpls) ∷ below) v a = v
effect_valid Pop (t, Mpls) ((u, Smpls) ∷ below) v a = v
effect_valid Pop (t, Mpls) ((u, Ip) ∷ below) v a = cc
effect_valid Pop (t, Smpls) ((u, Ip) ∷ []) v a = refl
effect_valid op top below v a = cc

-- one operation: it is allowed, and leaves its effect
pub after_op_some : (op : Op) (old new : List Entry) → after_op op old ≡ Some new → is_valid_header old ≡ true → is_valid_header new ≡ true
after_op_some op [] new e v = cc
after_op_some op (top ∷ below) new e v = go (allowed op top.1) refl
  where
    go : (b : Bool) → allowed op top.1 ≡ b → is_valid_header new ≡ true
    go true a = let e2 = rw a at e in cc (effect_valid op top below v a, e2)
    go false a = let e2 = rw a at e in cc e2

-- one more operation that is defined, or isn't
outcome_more : (at : ℕ) (op : Op) (ops : List Op) (old next : List Entry) → after_op op old ≡ Some next → outcome at (op ∷ ops) old ≡ outcome (at + 1) ops next
outcome_more at op ops old next e = rw (e, outcome) refl

outcome_none : (at : ℕ) (op : Op) (ops : List Op) (old : List Entry) → after_op op old ≡ None → outcome at (op ∷ ops) old ≡ Err at
outcome_none at op ops old e = rw (e, outcome) refl

-- from any place on
outcome_valid : (at : ℕ) (ops : List Op) (old new : List Entry) → is_valid_header old ≡ true → outcome at ops old ≡ Ok new → is_valid_header new ≡ true
outcome_valid at [] old new v e = cc
outcome_valid at (op ∷ ops) old new v e = go (after_op op old) refl (λ next. outcome_valid (at + 1) ops next new)
  where
    go : (o : Option (List Entry)) → after_op op old ≡ o → ((next : List Entry) → is_valid_header next ≡ true → outcome (at + 1) ops next ≡ Ok new → is_valid_header new ≡ true) → is_valid_header new ≡ true
    go None a ih = cc (outcome_none at op ops old a)
    go (Some next) a ih = ih next (after_op_some op old next a v) (cc (outcome_more at op ops old next a))

pub after_ops_valid : (ops : List Op) (old new : List Entry) → is_valid_header old ≡ true → after_ops ops old ≡ Some new → is_valid_header new ≡ true
after_ops_valid ops old new v e = go (outcome 0 ops old) refl
  where
    go : (o : Result (List Entry) ℕ) → outcome 0 ops old ≡ o → is_valid_header new ≡ true
    go (Err i) a = let e2 = rw (a, after_ops) at e in cc e2
    go (Ok next) a = outcome_valid 0 ops old new v (let e2 = rw (a, after_ops) at e in cc (a, e2))
