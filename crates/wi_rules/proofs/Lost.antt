-- A packet that is dropped on the way through a member: what its operations do to the stack until one isn't defined, in both
-- directions. Then the header is read.
use Rattle.std.proofs.Common.{◌≡◌, ℕ, zero, suc, ◌+◌, ◌<◌, Bool, true, false, nat_lt, List, [], ◌∷◌, ◌++◌, length, drop, slice_get, Option, Some, None, ◌⊎◌, inl, inr, refl, arith, sym, ◌∙◌, subst}
use Rattle.std.specs.Prelude.{if◌then◌else◌}
use Rattle.std.specs.List.{list_all}
use Rattle.std.specs.Option.{option_map_or}
use Rattle.std.proofs.lemmas.Bool.{and_parts, and_from, lt-ltb, ltb-true}
use Rattle.wi_labels.specs.declared.ops.Op.{Op}
use Rattle.wi_labels.specs.Header.{Entry, after_op, is_valid_header}
use Rattle.wi_labels.proofs.HeaderLemmas.{after_op_some}
use Rattle.wi_net.specs.declared.parts.Member.{Member}
use Rattle.wi_net.specs.Tables.{all_members}
use Rattle.wi_net.specs.Net.{Net, label_known, labels_known}
use Rattle.wi_pds.specs.declared.rule.Word2.{Word2}
use Rattle.wi_pds.specs.declared.rule.Word2.TheVariants.{One}
use Rattle.wi_pds.specs.Runs.{symbols}
use Rattle.wi_world.specs.Runs.{work_before}
use Rattle.wi_rules.specs.declared.spot.Origin.{Origin}
use Rattle.wi_rules.specs.declared.spot.Spot.{Spot}
use Rattle.wi_rules.specs.declared.spot.Spot.TheVariants.{Done, Close, Drop}
use Rattle.wi_rules.specs.Rules.{Encoding, zeros, working, is_label, word_over, lost_by, lost_rules, rules_of, Accepts, IsEncoding}
use Rattle.wi_rules.proofs.Lists.{In, if_in, option_in, one_in, get_below, drop_get, drop_end, length_zeros}
use Rattle.wi_rules.proofs.Ends.{Ends, stack, working_step, working_on}
use Rattle.wi_rules.proofs.Ops.{Wrote, wrote, Did, did, Stuck, nothing_written, nothing_done}
use Rattle.wi_rules.proofs.Header.{labels_of}
use Rattle.wi_rules.proofs.Hop.{op_of}
use Rattle.wi_rules.proofs.HopRun.{top_label}
use Rattle.wi_rules.proofs.Close.{Read, close_forward, close_backward}

-- an operation isn't defined over a label, or it is and isn't a member's last
pub record Undone (net : Net) (ops : List Op) (i n : ℕ) (way : Spot × Word2) : Type 0 where
  pub op : Op
  pub op_is : slice_get ops i ≡ Some op
  pub none : word_over net op n ≡ None
  pub way_is : ◌≡◌ {A = Spot × Word2} (Close 0, One (suc n)) way

pub record Passed (net : Net) (ops : List Op) (m i n : ℕ) (way : Spot × Word2) : Type 0 where
  pub op : Op
  pub op_is : slice_get ops i ≡ Some op
  pub word : Word2
  pub word_is : word_over net op n ≡ Some word
  pub more : suc i < length ops
  pub way_is : ◌≡◌ {A = Spot × Word2} (Drop m (suc i), word) way

pub lost_either : (net : Net) (ops : List Op) (m i n : ℕ) (way : Spot × Word2) → lost_by net ops m i n ≡ Some way → Undone net ops i n way ⊎ Passed net ops m i n way
lost_either net ops m i n way e = go (slice_get ops i) refl
  where
    go : (o : Option Op) → slice_get ops i ≡ o → Undone net ops i n way ⊎ Passed net ops m i n way
    go None f = let none : ◌≡◌ {A = Option (Spot × Word2)} None (Some way) = rw f at e in cc
    go (Some op) f = writes (word_over net op n) refl
      where
        e1 : option_map_or (λ (word : Word2). if nat_lt (suc i) (length ops) then Some (Drop m (suc i), word) else None) (word_over net op n) (Some (Close 0, One (suc n))) ≡ Some way
        e1 = rw f at e

        writes : (w : Option Word2) → word_over net op n ≡ w → Undone net ops i n way ⊎ Passed net ops m i n way
        writes None g =
            let some : ◌≡◌ {A = Option (Spot × Word2)} (Some (Close 0, One (suc n))) (Some way) = rw g at e1 in
            let same : ◌≡◌ {A = Spot × Word2} (Close 0, One (suc n)) way = cc in
            inl (record { op = op; op_is = f; none = g; way_is = same })
        writes (Some word) g = goes (nat_lt (suc i) (length ops)) refl
          where
            e2 : (if nat_lt (suc i) (length ops) then Some (Drop m (suc i), word) else None) ≡ Some way
            e2 = rw g at e1

            goes : (b : Bool) → nat_lt (suc i) (length ops) ≡ b → Undone net ops i n way ⊎ Passed net ops m i n way
            goes false b = let none : ◌≡◌ {A = Option (Spot × Word2)} None (Some way) = rw b at e2 in cc
            goes true b =
                let some : ◌≡◌ {A = Option (Spot × Word2)} (Some (Drop m (suc i), word)) (Some way) = rw b at e2 in
                let same : ◌≡◌ {A = Spot × Word2} (Drop m (suc i), word) way = cc in
                inr (record { op = op; op_is = f; word = word; word_is = g; more = ltb-true (suc i) (length ops) b; way_is = same })

module _ (s : Encoding) (k : IsEncoding s) where
  known_labels : (h : List Entry) → labels_known s.net h ≡ true → list_all (is_label s.net) (labels_of h) ≡ true
  known_labels [] known = refl
  known_labels (l ∷ h) known = and_from (is_label s.net l.0.0) (list_all (is_label s.net) (labels_of h)) (top_label s l h known) (known_labels h ((and_parts (label_known s.net.classes l) (labels_known s.net h) known).1))

  -- where packets are dropped, any header is one that the last automaton accepts
  pub any_accepted : s.drops ≡ true → (h : List Entry) → labels_known s.net h ≡ true → Accepts s.last (labels_of h)
  any_accepted d h known = k.any_last d (labels_of h) (known_labels h known)

  pub read_any : s.drops ≡ true → (h : List Entry) → labels_known s.net h ≡ true → Ends s (Close 0) (stack h) (zeros s) [] (suc (length h))
  read_any d h known = let a : Accepts s.last (labels_of h) = any_accepted d h known in close_forward s h 0 a.0 known a.1 a.2

  -- where an operation of a member leads, and from there to the end
  pub record Leads (member : Member) (m i : ℕ) (rest : List Op) (top : Entry) (below : List Entry) : Type 0 where
    pub way : Spot × Word2
    pub way_is : lost_by s.net member.ops m i top.0.0 ≡ Some way
    pub count : ℕ
    pub ends : Ends s way.0 (symbols way.1 ++ stack below) (zeros s) [] count
    pub number : suc count ≡ work_before rest (top ∷ below) + 2

  -- the rest of a member's operations, of which one isn't defined on the header, is done on the stack until then
  pub lost_forward : s.drops ≡ true → (member : Member) (m : ℕ) → slice_get (all_members s.net.rows) m ≡ Some member
      → (rest : List Op) (i : ℕ) (top : Entry) (below : List Entry) → drop i member.ops ≡ rest → is_valid_header (top ∷ below) ≡ true → labels_known s.net (top ∷ below) ≡ true → Stuck rest (top ∷ below) → Leads member m i rest top below
  lost_forward d member m e [] i top below f v known st = absurd st
  lost_forward d member m e (op ∷ rest) i top below f v known (inl none) =
      let at = drop_get member.ops i op rest f in
      record {
        way = (Close 0, One (suc top.0.0));
        way_is = rw at.0 (rw (nothing_written s.net op top below known none) refl);
        count = suc (length (top ∷ below));
        ends = read_any d (top ∷ below) known;
        number = rw none (omega arith);
      }
  lost_forward d member m e (op ∷ []) i top below f v known (inr r) = absurd r.2
  lost_forward d member m e (op ∷ op2 ∷ rest) i top below f v known (inr r) = go r.0 r.1 r.2 (lost_forward d member m e (op2 ∷ rest) (suc i))
    where
      at : (slice_get member.ops i ≡ Some op) × (drop (suc i) member.ops ≡ op2 ∷ rest) × (i < length member.ops)
      at = drop_get member.ops i op (op2 ∷ rest) f

      next : (slice_get member.ops (suc i) ≡ Some op2) × (drop (suc (suc i)) member.ops ≡ rest) × (suc i < length member.ops)
      next = drop_get member.ops (suc i) op2 rest at.1

      go : (mid : List Entry) → after_op op (top ∷ below) ≡ Some mid → Stuck (op2 ∷ rest) mid
          → ((top2 : Entry) (below2 : List Entry) → drop (suc i) member.ops ≡ op2 ∷ rest → is_valid_header (top2 ∷ below2) ≡ true → labels_known s.net (top2 ∷ below2) ≡ true → Stuck (op2 ∷ rest) (top2 ∷ below2) → Leads member m (suc i) (op2 ∷ rest) top2 below2)
          → Leads member m i (op ∷ op2 ∷ rest) top below
      go [] a st ih = let no : false ≡ true = after_op_some op (top ∷ below) [] a v in cc
      go (top2 ∷ below2) a st ih =
          let w : Wrote s.net op top below (top2 ∷ below2) = wrote s.net op top below (top2 ∷ below2) known a in
          let known2 : labels_known s.net (top2 ∷ below2) ≡ true = w.known (op_of s k member m i op e at.0) in
          let g : Leads member m (suc i) (op2 ∷ rest) top2 below2 = ih top2 below2 at.1 (after_op_some op (top ∷ below) (top2 ∷ below2) a v) known2 st in
          let there : In (rules_of s (Drop m (suc i)) (suc top2.0.0)) (working s m (suc i) g.way.0 g.way.1) = rw (top_label s top2 below2 known2) (rw e (rw g.way_is (inl refl))) in
          let on : Ends s (Drop m (suc i)) (stack (top2 ∷ below2)) (zeros s) [] (suc g.count) =
          working_step s m (suc i) (Drop m (suc i)) g.way.0 g.way.1 (suc top2.0.0) (stack below2) (zeros s) [] g.count there g.ends (length_zeros s) in
          let one : suc g.count ≡ work_before (op2 ∷ rest) (top2 ∷ below2) + 2 = g.number in
          record {
            way = (Drop m (suc i), w.word);
            way_is = rw at.0 (rw w.word_is (rw (lt-ltb (suc i) (length member.ops) next.2) refl));
            count = suc g.count;
            ends = rw w.stack_is on;
            number = rw a (omega (arith, one));
          }

  -- a packet was dropped on the way, and its header read
  pub record Stopped (rest : List Op) (h : List Entry) (t : List ℕ) (os : List Origin) (n : ℕ) : Type 0 where
    pub stuck : Stuck rest h
    pub share : t ≡ zeros s
    pub tells : os ≡ []
    pub number : n ≡ work_before rest h + 2

  -- and what the rules for the rest of a member's operations do is so
  pub lost_backward : (member : Member) (m : ℕ) → slice_get (all_members s.net.rows) m ≡ Some member
      → (rest : List Op) (i : ℕ) (top : Entry) (below : List Entry) (way : Spot × Word2) (t : List ℕ) (os : List Origin) (n : ℕ) → drop i member.ops ≡ rest → labels_known s.net (top ∷ below) ≡ true
      → lost_by s.net member.ops m i top.0.0 ≡ Some way → Ends s way.0 (symbols way.1 ++ stack below) t os n → Stopped rest (top ∷ below) t os (suc n)
  lost_backward member m e [] i top below way t os n f known l ends =
      let over = drop_end member.ops i f in
      elim (lost_either s.net member.ops m i top.0.0 way l) [
        | inl u ↦ (let lt : i < length member.ops = get_below member.ops i u.op u.op_is in absurd (omega (arith, over, lt)))
        | inr p ↦ (let lt : i < length member.ops = get_below member.ops i p.op p.op_is in absurd (omega (arith, over, lt)))
      ]
  lost_backward member m e (op ∷ rest) i top below way t os n f known l ends =
      elim (lost_either s.net member.ops m i top.0.0 way l) [
        | inl u ↦ undone u
        | inr p ↦ passed p (lost_backward member m e rest (suc i))
      ]
    where
      at : (slice_get member.ops i ≡ Some op) × (drop (suc i) member.ops ≡ rest) × (i < length member.ops)
      at = drop_get member.ops i op rest f

      undone : Undone s.net member.ops i top.0.0 way → Stopped (op ∷ rest) (top ∷ below) t os (suc n)
      undone u =
          let same : u.op ≡ op = (let some : Some u.op ≡ Some op = sym u.op_is ∙ at.0 in cc) in
          let none : after_op op (top ∷ below) ≡ None = nothing_done s.net op top below known (subst (λ (x : Op). word_over s.net x top.0.0 ≡ None) same u.none) in
          let closes : Ends s (Close 0) (stack (top ∷ below)) t os n = subst (λ (x : Spot × Word2). Ends s x.0 (symbols x.1 ++ stack below) t os n) (sym u.way_is) ends in
          let r : Read s 0 (top ∷ below) t os n = close_backward s (top ∷ below) 0 t os n closes in
          let read : n ≡ suc (length (top ∷ below)) = r.number in
          record { stuck = inl none; share = r.share; tells = r.tells; number = rw none (omega (arith, read)) }

      passed : Passed s.net member.ops m i top.0.0 way
          → ((top2 : Entry) (below2 : List Entry) (way2 : Spot × Word2) (t : List ℕ) (os : List Origin) (n : ℕ) → drop (suc i) member.ops ≡ rest → labels_known s.net (top2 ∷ below2) ≡ true
          → lost_by s.net member.ops m (suc i) top2.0.0 ≡ Some way2 → Ends s way2.0 (symbols way2.1 ++ stack below2) t os n → Stopped rest (top2 ∷ below2) t os (suc n))
          → Stopped (op ∷ rest) (top ∷ below) t os (suc n)
      passed p ih =
          let same : p.op ≡ op = (let some : Some p.op ≡ Some op = sym p.op_is ∙ at.0 in cc) in
          let w : Did s.net op top below p.word = did s.net op top below p.word known (subst (λ (x : Op). word_over s.net x top.0.0 ≡ Some p.word) same p.word_is) in
          let on1 : Ends s (Drop m (suc i)) (symbols p.word ++ stack below) t os n = subst (λ (x : Spot × Word2). Ends s x.0 (symbols x.1 ++ stack below) t os n) (sym p.way_is) ends in
          let on2 : Ends s (Drop m (suc i)) (stack w.next) t os n = subst (λ (x : List ℕ). Ends s (Drop m (suc i)) x t os n) w.stack_is on1 in
          go w.next n w.next_is (w.known (op_of s k member m i op e at.0)) on2
        where
          go : (next : List Entry) (n : ℕ) → after_op op (top ∷ below) ≡ Some next → labels_known s.net next ≡ true → Ends s (Drop m (suc i)) (stack next) t os n → Stopped (op ∷ rest) (top ∷ below) t os (suc n)
          go next zero a known2 on = let no : Drop m (suc i) ≡ Done = on.0 in cc
          go [] (suc n) a known2 on = absurd on.3
          go (top2 ∷ below2) (suc n) a known2 on =
              let i0 : In (option_map_or (lost_rules s m (suc i) top2.0.0) (slice_get (all_members s.net.rows) m) []) on.0 = (if_in (is_label s.net top2.0.0) (option_map_or (lost_rules s m (suc i) top2.0.0) (slice_get (all_members s.net.rows) m) []) on.0 on.3).1 in
              let i1 : In (lost_rules s m (suc i) top2.0.0 member) on.0 = rw e at i0 in
              let o = option_in (λ (way2 : Spot × Word2). working s m (suc i) way2.0 way2.1 ∷ []) (lost_by s.net member.ops m (suc i) top2.0.0) on.0 i1 in
              let to : Ends s o.0.0 (symbols o.0.1 ++ stack below2) t os n = working_on s m (suc i) on.0 o.0.0 o.0.1 (stack below2) t on.1 os on.2 n (one_in (working s m (suc i) o.0.0 o.0.1) on.0 o.2) on.4 on.5 on.6 on.7 in
              let r : Stopped rest (top2 ∷ below2) t os (suc n) = ih top2 below2 o.0 t os n at.1 known2 o.1 to in
              let number : suc n ≡ work_before rest (top2 ∷ below2) + 2 = r.number in
              record { stuck = inr (top2 ∷ below2, a, r.stuck); share = r.share; tells = r.tells; number = rw a (omega (arith, number)) }
