-- The lines that bound every run, and the lists.
use Rattle.std.specs.Prelude.{◌≡◌, ℕ, ◌+◌, ◌-◌, ◌^◌, ◌<◌, true, false, ◌==◌, List, [], ◌∷◌, ◌++◌, Option, Some, None, length, refl, codes}
use Rattle.std.proofs.Common.{sym, ap, ◌∙◌, subst, arith}
use Rattle.std.proofs.lemmas.Bool.Decides.{nat_tests}
use Rattle.wi_cert.specs.declared.row.Row.{Row}
use Rattle.wi_cert.specs.declared.shown.Shown.{Shown}
use Rattle.wi_cert.specs.declared.closed.Closed.{Closed}
use Rattle.wi_cert.specs.declared.closed.ClosedPlace.{ClosedPlace}
use Rattle.wi_cert.specs.declared.closed.ClosedPlace.TheVariants as places
use Rattle.wi_cert.specs.Numbers.{count_after}
use Rattle.wi_cert.specs.Shown.{pair_line}
use Rattle.wi_cert.specs.Closed.{row_line, closed_lines, IsRow, IsClosed, HasRowRanges, HasClosedRanges, heads_after, pairs_after, rows_after, heads_left, pairs_left, rows_left, asked_closed}
use Rattle.wi_cert.proofs.Cases.{by_test, map_some}
use Rattle.wi_cert.proofs.FormLemmas.{IsNextPair, IsHeadRange, IsPairRange, count_spells, head_adds, pair_adds, row_adds}
use Rattle.wi_cert.proofs.BlockLemmas.{IsGood, block, empty_good, good_more, starts, grows, ends, good_ends, behind}

-- by how many items are to come
by_left : {P : Type 0} (left : ℕ → P) (none : P) (some : ℕ → P) → ((n : ℕ) → (n == 0) ≡ true → left n ≡ none) → ((n : ℕ) → (n == 0) ≡ false → left n ≡ some n) → (n : ℕ) (Q : P → Type 0) → (n ≡ 0 → Q none) → (0 < n → Q (some n)) → Q (left n)
by_left left none some a b n Q f g = by_test (n == 0)
    (λ (e : (n == 0) ≡ true). let z : n ≡ 0 = grind (arith, nat_tests, e) in subst Q (sym (a n e)) (f z))
    (λ (e : (n == 0) ≡ false). let z : 0 < n = grind (arith, nat_tests, e) in subst Q (sym (b n e)) (g z))

by_heads_left : (n : ℕ) (Q : ClosedPlace → Type 0) → (n ≡ 0 → Q places.PairCount) → (0 < n → Q (places.Head n)) → Q (heads_left n)
by_heads_left = by_left heads_left places.PairCount places.Head (λ n e. rw e refl) (λ n e. rw e refl)

by_pairs_left : (n : ℕ) (Q : ClosedPlace → Type 0) → (n ≡ 0 → Q places.RowCount) → (0 < n → Q (places.Pair n)) → Q (pairs_left n)
by_pairs_left = by_left pairs_left places.RowCount places.Pair (λ n e. rw e refl) (λ n e. rw e refl)

by_rows_left : (n : ℕ) (Q : Option ClosedPlace → Type 0) → (n ≡ 0 → Q None) → (0 < n → Q (Some (places.Row n))) → Q (rows_left n)
by_rows_left = by_left rows_left None (λ n. Some (places.Row n)) (λ n e. rw e refl) (λ n e. rw e refl)

abbrev head_block : ℕ → List (ℕ × ℕ) → List (List ℕ)
head_block = block (codes "heads ") pair_line

abbrev pair_block : ℕ → List (ℕ × ℕ) → List (List ℕ)
pair_block = block (codes "pairs ") pair_line

abbrev row_block : ℕ → List Row → List (List ℕ)
row_block = block (codes "rows ") row_line

abbrev GoodHeads : Closed → ℕ → Type 0
GoodHeads c n = IsGood IsNextPair IsHeadRange c.heads n

abbrev GoodPairs : Closed → ℕ → Type 0
GoodPairs c n = IsGood IsNextPair IsPairRange c.pairs n

abbrev GoodRows : Shown → Closed → ℕ → Type 0
GoodRows s c n = IsGood (IsRow s) HasRowRanges c.rows n

-- the lines so far of those that bound every run
abbrev pub written_closed : ClosedPlace → Closed → List (List ℕ)
written_closed places.HeadCount c = []
written_closed (places.Head n) c = head_block (length c.heads + n) c.heads
written_closed places.PairCount c = head_block (length c.heads) c.heads
written_closed (places.Pair n) c = head_block (length c.heads) c.heads ++ pair_block (length c.pairs + n) c.pairs
written_closed places.RowCount c = head_block (length c.heads) c.heads ++ pair_block (length c.pairs) c.pairs
written_closed (places.Row n) c = head_block (length c.heads) c.heads ++ (pair_block (length c.pairs) c.pairs ++ row_block (length c.rows + n) c.rows)

abbrev pub IsGoodClosed : Shown → ClosedPlace → Closed → Type 0
IsGoodClosed s places.HeadCount c = (c.heads ≡ []) × (c.pairs ≡ []) × (c.rows ≡ [])
IsGoodClosed s (places.Head n) c = (0 < n) × GoodHeads c n × (c.pairs ≡ []) × (c.rows ≡ [])
IsGoodClosed s places.PairCount c = GoodHeads c 0 × (c.pairs ≡ []) × (c.rows ≡ [])
IsGoodClosed s (places.Pair n) c = (0 < n) × GoodHeads c 0 × GoodPairs c n × (c.rows ≡ [])
IsGoodClosed s places.RowCount c = GoodHeads c 0 × GoodPairs c 0 × (c.rows ≡ [])
IsGoodClosed s (places.Row n) c = (0 < n) × GoodHeads c 0 × GoodPairs c 0 × GoodRows s c n

pub record IsWholeClosed (s : Shown) (c : Closed) : Type 0 where
  pub closed : IsClosed s c
  pub ranges : HasClosedRanges c

abbrev pub StandsClosed : Shown → List (List ℕ) → Closed → Option ClosedPlace → Type 0
StandsClosed s lines c (Some p) = (lines ≡ written_closed p c) × IsGoodClosed s p c
StandsClosed s lines c None = (lines ≡ closed_lines c) × IsWholeClosed s c

small : (n : ℕ) → n + 0 < 2 ^ 64 → n < 2 ^ 64
small n h = omega arith

whole_closed : (s : Shown) (c : Closed) → GoodHeads c 0 → GoodPairs c 0 → GoodRows s c 0 → IsWholeClosed s c
whole_closed s c h p r = record {
  closed = record { heads = h.each; pairs = p.each; rows = r.each };
  ranges = record { heads = h.ranges; pairs = p.ranges; rows = r.ranges; head_count = small (length c.heads) h.count; pair_count = small (length c.pairs) p.count; row_count = small (length c.rows) r.count };
}

module _ (s : Shown) where
  at_heads : (c : Closed) (n : ℕ) (lines : List (List ℕ)) → lines ≡ head_block (length c.heads + n) c.heads → GoodHeads c n → c.pairs ≡ [] → c.rows ≡ [] → StandsClosed s lines c (Some (heads_left n))
  at_heads c n lines e g p r = by_heads_left n (λ place. StandsClosed s lines c (Some place))
      (λ z. (e ∙ ends IsNextPair IsHeadRange (codes "heads ") pair_line c.heads n z, (good_ends IsNextPair IsHeadRange (codes "heads ") pair_line c.heads n z g, p, r)))
      (λ z. (e, (z, g, p, r)))

  at_pairs : (c : Closed) (n : ℕ) (lines : List (List ℕ)) → lines ≡ head_block (length c.heads) c.heads ++ pair_block (length c.pairs + n) c.pairs → GoodHeads c 0 → GoodPairs c n → c.rows ≡ [] → StandsClosed s lines c (Some (pairs_left n))
  at_pairs c n lines e h g r = by_pairs_left n (λ place. StandsClosed s lines c (Some place))
      (λ z. (e ∙ ap (λ x. head_block (length c.heads) c.heads ++ x) (ends IsNextPair IsPairRange (codes "pairs ") pair_line c.pairs n z), (h, good_ends IsNextPair IsPairRange (codes "pairs ") pair_line c.pairs n z g, r)))
      (λ z. (e, (z, h, g, r)))

  at_rows : (c : Closed) (n : ℕ) (lines : List (List ℕ)) → lines ≡ head_block (length c.heads) c.heads ++ (pair_block (length c.pairs) c.pairs ++ row_block (length c.rows + n) c.rows) → GoodHeads c 0 → GoodPairs c 0 → GoodRows s c n → StandsClosed s lines c (rows_left n)
  at_rows c n lines e h p g = by_rows_left n (StandsClosed s lines c)
      (λ z. (e ∙ ap (λ x. head_block (length c.heads) c.heads ++ (pair_block (length c.pairs) c.pairs ++ x)) (ends (IsRow s) HasRowRanges (codes "rows ") row_line c.rows n z), whole_closed s c h p (good_ends (IsRow s) HasRowRanges (codes "rows ") row_line c.rows n z g)))
      (λ z. (e, (z, h, p, g)))

  -- a line of the form asked carries on what the lines so far say
  pub closed_step : (lines : List (List ℕ)) (c : Closed) (line : List ℕ) (p : ClosedPlace) → lines ≡ written_closed p c → IsGoodClosed s p c → (x : Option ClosedPlace × Closed) → asked_closed s p c line ≡ Some x → StandsClosed s (lines ++ line ∷ []) x.1 x.0
  closed_step lines c line places.HeadCount e g x h =
      let r = map_some (λ n. (Some (heads_left n), c)) (count_after (codes "heads ") line) x h in
      let k = count_spells (codes "heads ") line r.0 r.1 in
      subst (λ (y : Option ClosedPlace × Closed). StandsClosed s (lines ++ line ∷ []) y.1 y.0) r.2
      (at_heads c r.0 (lines ++ line ∷ []) (ap (λ x. x ++ line ∷ []) e ∙ starts IsNextPair IsHeadRange (codes "heads ") pair_line c.heads r.0 line g.0 k.0)
      (empty_good IsNextPair IsHeadRange c.heads r.0 g.0 k.1) g.1 g.2)
  closed_step lines c line (places.Head n) e g x h =
      let r = map_some (λ xs. (Some (heads_left (n - 1)), record c { heads = xs })) (heads_after c.heads line) x h in
      let adds = head_adds c.heads r.0 line r.1 in
      subst (λ (y : Option ClosedPlace × Closed). StandsClosed s (lines ++ line ∷ []) y.1 y.0) r.2
      (at_heads (record c { heads = r.0 }) (n - 1) (lines ++ line ∷ []) (ap (λ x. x ++ line ∷ []) e ∙ grows IsNextPair IsHeadRange (codes "heads ") pair_line c.heads r.0 n line g.0 adds)
      (good_more IsNextPair IsHeadRange (codes "heads ") pair_line c.heads r.0 n line g.0 adds g.1) g.2 g.3)
  closed_step lines c line places.PairCount e g x h =
      let r = map_some (λ n. (Some (pairs_left n), c)) (count_after (codes "pairs ") line) x h in
      let k = count_spells (codes "pairs ") line r.0 r.1 in
      subst (λ (y : Option ClosedPlace × Closed). StandsClosed s (lines ++ line ∷ []) y.1 y.0) r.2
      (at_pairs c r.0 (lines ++ line ∷ []) (ap (λ x. x ++ line ∷ []) e ∙ ap (λ x. head_block (length c.heads) c.heads ++ x) (starts IsNextPair IsPairRange (codes "pairs ") pair_line c.pairs r.0 line g.1 k.0))
      g.0 (empty_good IsNextPair IsPairRange c.pairs r.0 g.1 k.1) g.2)
  closed_step lines c line (places.Pair n) e g x h =
      let r = map_some (λ xs. (Some (pairs_left (n - 1)), record c { pairs = xs })) (pairs_after c.pairs line) x h in
      let adds = pair_adds c.pairs r.0 line r.1 in
      subst (λ (y : Option ClosedPlace × Closed). StandsClosed s (lines ++ line ∷ []) y.1 y.0) r.2
      (at_pairs (record c { pairs = r.0 }) (n - 1) (lines ++ line ∷ [])
      (behind lines (head_block (length c.heads) c.heads) (pair_block (length c.pairs + n) c.pairs) (line ∷ []) (pair_block (length r.0 + (n - 1)) r.0) e (grows IsNextPair IsPairRange (codes "pairs ") pair_line c.pairs r.0 n line g.0 adds))
      g.1 (good_more IsNextPair IsPairRange (codes "pairs ") pair_line c.pairs r.0 n line g.0 adds g.2) g.3)
  closed_step lines c line places.RowCount e g x h =
      let r = map_some (λ n. (rows_left n, c)) (count_after (codes "rows ") line) x h in
      let k = count_spells (codes "rows ") line r.0 r.1 in
      subst (λ (y : Option ClosedPlace × Closed). StandsClosed s (lines ++ line ∷ []) y.1 y.0) r.2
      (at_rows c r.0 (lines ++ line ∷ [])
      (behind lines (head_block (length c.heads) c.heads) (pair_block (length c.pairs) c.pairs) (line ∷ []) (pair_block (length c.pairs) c.pairs ++ row_block (length c.rows + r.0) c.rows) e
      (ap (λ x. pair_block (length c.pairs) c.pairs ++ x) (starts (IsRow s) HasRowRanges (codes "rows ") row_line c.rows r.0 line g.2 k.0)))
      g.0 g.1 (empty_good (IsRow s) HasRowRanges c.rows r.0 g.2 k.1))
  closed_step lines c line (places.Row n) e g x h =
      let r = map_some (λ xs. (rows_left (n - 1), record c { rows = xs })) (rows_after s c.rows line) x h in
      let adds = row_adds s c.rows r.0 line r.1 in
      subst (λ (y : Option ClosedPlace × Closed). StandsClosed s (lines ++ line ∷ []) y.1 y.0) r.2
      (at_rows (record c { rows = r.0 }) (n - 1) (lines ++ line ∷ [])
      (behind lines (head_block (length c.heads) c.heads) (pair_block (length c.pairs) c.pairs ++ row_block (length c.rows + n) c.rows) (line ∷ []) (pair_block (length c.pairs) c.pairs ++ row_block (length r.0 + (n - 1)) r.0) e
      (behind (pair_block (length c.pairs) c.pairs ++ row_block (length c.rows + n) c.rows) (pair_block (length c.pairs) c.pairs) (row_block (length c.rows + n) c.rows) (line ∷ []) (row_block (length r.0 + (n - 1)) r.0) refl
      (grows (IsRow s) HasRowRanges (codes "rows ") row_line c.rows r.0 n line g.0 adds)))
      g.1 g.2 (good_more (IsRow s) HasRowRanges (codes "rows ") row_line c.rows r.0 n line g.0 adds g.3))
