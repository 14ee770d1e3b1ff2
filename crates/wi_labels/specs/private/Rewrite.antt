-- A header whose upper part is being rewritten.
use Rattle.std.specs.Prelude.{ℕ, List, ◌++◌, drop, reverse}
use Rattle.wi_labels.specs.Header.{Entry}

-- the header without so many of its labels, under others that are listed from the bottom
abbrev pub rewritten : List Entry → ℕ → List Entry → List Entry
rewritten header gone above = reverse above ++ drop gone header
