-- Going over the elements of a list, as a loop does.
use Rattle.std.proofs.Common.{◌≡◌, ℕ, suc, ◌+◌, ◌<◌, ◌≤◌, List, [], ◌∷◌, ◌++◌, Some, length, get_or, drop, Result, Ok, Err, refl, sym, ap, ◌∙◌, add-one, arith}
use Rattle.std.proofs.Math.Seq.{drop-cons}
use Rattle.serde_json.specs.Data.{Data, item}
use Rattle.serde_json.specs.View.{view, items_view}
use Rattle.serde_json.specs.Events.{items_len}
use Rattle.serde_json.specs.declared.value.Value.{Value}
use Rattle.wi_net.specs.Net.{Net}
use Rattle.wi_net.specs.Tables.{group_members}
use Rattle.wi_net.specs.declared.parts.RouterId.{RouterId}
use Rattle.wi_net.specs.declared.parts.Member.{Member as Way}
use Rattle.wi_net.proofs.TableLemmas.{group_members_push}
use Rattle.wi_netjson.specs.declared.fault.NetFault.{NetFault}
use Rattle.wi_netjson.specs.declared.fault.NetFault.TheVariants.{BadOperation}
use Rattle.wi_netjson.specs.declared.fault.Place.{Place}
use Rattle.wi_netjson.specs.Reading.{each}
use Rattle.wi_netjson.specs.Operations.{operation_of}
use Rattle.wi_netjson.specs.Tables.{group_members_at, group_at}

pub len_of_items : (vs : List Value) → items_len (items_view vs) ≡ length vs
len_of_items [] = refl
len_of_items (v ∷ vs) = ap suc (len_of_items vs)

-- the elements from one on begin with it
at_one : (vs : List Value) (i : ℕ) (v : Value) → i < length vs → v ≡ get_or vs i v → items_view (drop i vs) ≡ item (view v) (items_view (drop (i + 1) vs))
at_one vs i v lt is = rw (add-one, drop-cons vs i v lt, ← is) refl

-- one element more has been read
pub goes_on : {S : Type 0} (step : S → ℕ → Data → Result S NetFault) (s next : S) (i : ℕ) (vs : List Value) (v : Value) (total : Result S NetFault) → i < length vs → v ≡ get_or vs i v
    → step s i (view v) ≡ Ok next → each step s i (items_view (drop i vs)) ≡ total → each step next (i + 1) (items_view (drop (i + 1) vs)) ≡ total
goes_on step s next i vs v total lt is one so_far =
    let whole : each step s i (items_view (drop i vs)) ≡ each step next (i + 1) (items_view (drop (i + 1) vs)) = rw (at_one vs i v lt is, one) refl in
    sym whole ∙ so_far

-- an operation has two words at most
pub many_words : (net : Net) (place : Place) (vs : List Value) → 3 ≤ length vs → operation_of net place (Some (items_view vs)) ≡ Err (BadOperation place)
many_words net place [] le = absurd (omega arith)
many_words net place (a ∷ []) le = absurd (omega arith)
many_words net place (a ∷ b ∷ []) le = absurd (omega arith)
many_words net place (a ∷ b ∷ c ∷ vs) le = refl

-- one group more
pub group_step : (net : Net) (router : RouterId) (so_far i j n : ℕ) (before : List (List Way)) (d : Data) (g : List Way) → n ≡ so_far + group_members before → group_members_at net router n i j d ≡ Ok g → group_at net router so_far i before j d ≡ Ok (before ++ g ∷ [])
group_step net router so_far i j n before d g is one =
    let here : group_members_at net router (so_far + group_members before) i j d ≡ Ok g = rw (← is) one in
    rw here refl

pub counted_more : (so_far n k : ℕ) (before : List (List Way)) (g : List Way) → n ≡ so_far + group_members before → k ≡ length g → n + k ≡ so_far + group_members (before ++ g ∷ [])
counted_more so_far n k before g is len = omega (arith, group_members_push before g)
