-- Where a machine that takes just the texts of a language stops, they stop.
use Rattle.std.proofs.Common.{◌≡◌, ℕ, zero, suc, ◌+◌, ◌<◌, ◌≤◌, Bool, true, false, ◌↔◌, List, [], ◌∷◌, ◌++◌, length, take, Option, Some, None, refl, sym, ap, ◌∙◌, arith}
use Rattle.std.specs.Str.{IsCharBoundary}
use Rattle.wi_text.specs.Prefixes.{IsFaultAt}
use Rattle.wi_text.specs.private.Machines.{at_end, goes_on, first_stop}

-- each state that the machine comes to has a text with which it may end
module _ {S : Type 0} (next : S → ℕ → Option S) (ends : S → Bool) (Reached : S → Type 0)
    (keeps : (s t : S) (b : ℕ) → Reached s → next s b ≡ Some t → Reached t)
    (completes : (s : S) (i : ℕ) → Reached s → (more : List ℕ) × (first_stop next ends s i more ≡ None)) where
  -- a stop after count more bytes: some text goes on from there to an end, and none goes on with a byte more
  record Stopped (s : S) (i : ℕ) (w : List ℕ) (k : ℕ) : Type 0 where
    pub count : ℕ
    pub is : k ≡ i + count
    pub within : count ≤ length w
    pub more : List ℕ
    pub goes : first_stop next ends s i (take count w ++ more) ≡ None
    pub stays : (j : ℕ) → count < j → j ≤ length w → (v : List ℕ) → first_stop next ends s i (take j w ++ v) ≡ Some k

  ended : (i k : ℕ) (b : Bool) → at_end b i ≡ Some k → k ≡ i
  ended i k true h = cc
  ended i k false h = cc

  stopped_here : (s : S) (i k b : ℕ) (w : List ℕ) → Reached s → next s b ≡ None → k ≡ i → Stopped s i (b ∷ w) k
  stopped_here s i k b w r none e = record {
    count = 0;
    is = (omega arith);
    within = (omega arith);
    more = (completes s i r).0;
    goes = (completes s i r).1;
    stays = stays;
  }
    where
      stays : (j : ℕ) → 0 < j → j ≤ length (b ∷ w) → (v : List ℕ) → first_stop next ends s i (take j (b ∷ w) ++ v) ≡ Some k
      stays zero lt le v = absurd (omega arith)
      stays (suc j) lt le v = ap (λ z. goes_on z i (λ t. first_stop next ends t (i + 1) (take j w ++ v))) none ∙ ap Some (sym e)

  stopped_later : (s t : S) (i k b : ℕ) (w : List ℕ) → next s b ≡ Some t → Stopped t (i + 1) w k → Stopped s i (b ∷ w) k
  stopped_later s t i k b w some later = record {
    count = suc later.count;
    is = (let e = later.is in omega arith);
    within = (let l = later.within in omega arith);
    more = later.more;
    goes = ap (λ z. goes_on z i (λ t. first_stop next ends t (i + 1) (take later.count w ++ later.more))) some ∙ later.goes;
    stays = stays;
  }
    where
      stays : (j : ℕ) → suc later.count < j → j ≤ length (b ∷ w) → (v : List ℕ) → first_stop next ends s i (take j (b ∷ w) ++ v) ≡ Some k
      stays zero lt le v = absurd (omega arith)
      stays (suc j) lt le v = ap (λ z. goes_on z i (λ t. first_stop next ends t (i + 1) (take j w ++ v))) some ∙ later.stays j (omega arith) (omega arith) v

  stopped_by : (s : S) (i k b : ℕ) (w : List ℕ) → Reached s → ((t : S) → Reached t → first_stop next ends t (i + 1) w ≡ Some k → Stopped t (i + 1) w k) →
      (o : Option S) → next s b ≡ o → goes_on o i (λ t. first_stop next ends t (i + 1) w) ≡ Some k → Stopped s i (b ∷ w) k
  stopped_by s i k b w r later None e h = stopped_here s i k b w r e (let is : k ≡ i = cc in is)
  stopped_by s i k b w r later (Some t) e h = stopped_later s t i k b w e (later t (keeps s t b r e) h)

  stopped : (s : S) (i : ℕ) (w : List ℕ) (k : ℕ) → Reached s → first_stop next ends s i w ≡ Some k → Stopped s i w k
  stopped s i [] k r h = let e = ended i k (ends s) h in record {
    count = 0;
    is = (omega arith);
    within = (omega arith);
    more = (completes s i r).0;
    goes = (completes s i r).1;
    stays = λ j lt le v. absurd (omega arith);
  }
  stopped s i (b ∷ w) k r h = stopped_by s i k b w r (λ t q g. stopped t (i + 1) w k q g) (next s b) refl h

  -- a language whose texts are those that the machine reads to an end from a state
  pub fault_at : (L : List ℕ → Type 0) (s : S) → Reached s → ((w : List ℕ) → L w ↔ (first_stop next ends s 0 w ≡ None)) →
      (w : List ℕ) (k : ℕ) → IsCharBoundary w k → first_stop next ends s 0 w ≡ Some k → IsFaultAt L w k
  fault_at L s r accepts w k boundary h = from (stopped s 0 w k r h)
    where
      from : Stopped s 0 w k → IsFaultAt L w k
      from at = (let e : k ≡ at.count = (let i = at.is in omega arith) in record {
        outside = λ l. (let none = (accepts w).0 l in cc);
        within = (let l = at.within in omega arith);
        whole = boundary;
        begins = (at.more, (accepts (take k w ++ at.more)).1 (rw e at.goes));
        longest = λ j lt le b. (let none = (accepts (take j w ++ b.0)).0 b.1 in let some = at.stays j (omega arith) le b.0 in cc);
      })
