-- What each element keeps, and how elements count.
use Rattle.std.proofs.Common.{◌≡◌, ℕ, ◌+◌, Result, Ok, sym, ap, subst, arith}
use Rattle.serde_json.specs.Data.{Data, Items, no_items, item}
use Rattle.serde_json.specs.Events.{items_len}
use Rattle.wi_net.proofs.KeptLists.{step_held, given_is}
use Rattle.wi_netjson.specs.declared.fault.NetFault.{NetFault}
use Rattle.wi_netjson.specs.Reading.{each}

-- what each element keeps, all of them keep
pub each_keeps : {S : Type 0} (step : S → ℕ → Data → Result S NetFault) (P : S → Type 0) → ((s : S) (i : ℕ) (d : Data) (next : S) → P s → step s i d ≡ Ok next → P next)
    → (items : Items) (s : S) (i : ℕ) (out : S) → P s → each step s i items ≡ Ok out → P out
each_keeps step P one no_items s i out here e = subst P (given_is s out e) here
each_keeps step P one (item d ds) s i out here e =
    let first = step_held (step s i d) (λ next. each step next (i + 1) ds) out e in
    each_keeps step P one ds first.0 (i + 1) out (one s i d first.0 here first.1) first.2

-- where each element adds one, all of them add their number
pub each_counts : {S : Type 0} (step : S → ℕ → Data → Result S NetFault) (size : S → ℕ) → ((s : S) (i : ℕ) (d : Data) (next : S) → step s i d ≡ Ok next → size next ≡ size s + 1)
    → (items : Items) (s : S) (i : ℕ) (out : S) → each step s i items ≡ Ok out → size out ≡ size s + items_len items
each_counts step size one no_items s i out e = let same : size out ≡ size s = ap size (sym (given_is s out e)) in omega (arith, same)
each_counts step size one (item d ds) s i out e =
    let first = step_held (step s i d) (λ next. each step next (i + 1) ds) out e in
    let here = one s i d first.0 first.1 in
    let rest = each_counts step size one ds first.0 (i + 1) out first.2 in
    omega (arith, here, rest)
