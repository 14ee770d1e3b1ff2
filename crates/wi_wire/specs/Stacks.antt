-- Label stacks as bytes (RFC 3032, section 2.1). An entry is 32 bits, the highest first: the label 20, Exp 3, S 1, TTL 8. S is 1 in
-- the bottom entry alone. Labels 0 to 15 are reserved; no stack here has one.
use Rattle.std.specs.Prelude.{◌≡◌, ℕ, ◌+◌, ◌*◌, ◌/◌, ◌%◌, ◌^◌, ◌<◌, ◌&&◌, true, Bool, if◌then◌else◌, nat_le, nat_lt, List, [], ◌∷◌, ◌++◌, length}
use Rattle.std.specs.List.{flat_map, list_all}
use Rattle.wi_wire.specs.declared.entry.Entry.{Entry}
use Rattle.wi_wire.specs.declared.refused.StackRefused.{StackRefused}
use Rattle.wi_wire.specs.declared.refused.StackRefused.TheVariants.{Memory, Cut, Reserved}

-- a label that may stand on the wire
abbrev pub is_free : ℕ → Bool
is_free label = nat_le 16 label && nat_le label 1048575

-- an entry's parts fit in their bits, and its label isn't reserved
abbrev pub is_entry : Entry → Bool
is_entry e = is_free e.label && (nat_lt e.exp 8 && nat_lt e.ttl 256)

-- 32 bits as bytes
abbrev pub bytes_of : ℕ → List ℕ
bytes_of n = n / 2 ^ 24 % 256 ∷ n / 2 ^ 16 % 256 ∷ n / 2 ^ 8 % 256 ∷ n % 256 ∷ []

-- an entry, whose S is given
abbrev pub entry_bytes : ℕ → Entry → List ℕ
entry_bytes s e = bytes_of (e.label * 2 ^ 12 + e.exp * 2 ^ 9 + s * 2 ^ 8 + e.ttl)

-- entries above the bottom one
abbrev pub upper_bytes : List Entry → List ℕ
upper_bytes entries = flat_map (entry_bytes 0) entries

-- S, where it is told whether the entry is the bottom one
abbrev pub s_of : Bool → ℕ
s_of is_bottom = if is_bottom then 1 else 0

-- what each entry of a stack is written as, top first, one behind the other: S is 1 in the bottom entry alone
abbrev pub each_entry : (ℕ → Entry → List ℕ) → List Entry → List ℕ
each_entry written [] = []
each_entry written (e ∷ []) = written 1 e
each_entry written (e ∷ f ∷ entries) = written 0 e ++ each_entry written (f ∷ entries)

-- a stack, top first
abbrev pub stack_bytes : List Entry → List ℕ
stack_bytes entries = each_entry entry_bytes entries

-- the bytes begin with a stack of these entries; the rest follows
pub record IsStack (bytes : List ℕ) (entries : List Entry) (rest : List ℕ) : Type 0 where
  pub some : 0 < length entries
  pub fit : list_all is_entry entries ≡ true
  pub bytes_are : bytes ≡ stack_bytes entries ++ rest

-- the bytes begin with so many entries above the bottom, and then goes on what follows
pub record IsAfter (bytes : List ℕ) (count : ℕ) (rest : List ℕ) : Type 0 where
  pub upper : List Entry
  pub count_is : count ≡ length upper
  pub fit : list_all is_entry upper ≡ true
  pub bytes_are : bytes ≡ upper_bytes upper ++ rest

-- an entry that may be any, but for its label
pub record HasLabel (bytes : List ℕ) (label : ℕ) : Type 0 where
  pub s : ℕ
  pub one_bit : s < 2
  pub entry : Entry
  pub exp : entry.exp < 8
  pub ttl : entry.ttl < 256
  pub rest : List ℕ
  pub label_is : label ≡ entry.label
  pub bytes_are : bytes ≡ entry_bytes s entry ++ rest

-- the bytes begin with no stack: at the first entry, from 0, of which this is so, fewer than four bytes are left, or its label is
-- reserved
abbrev pub IsNoStack : List ℕ → StackRefused → Type 0
IsNoStack bytes Memory = Unit {0}
IsNoStack bytes (Cut i) = (rest : List ℕ) × IsAfter bytes i rest × (length rest < 4)
IsNoStack bytes (Reserved i label) = (rest : List ℕ) × IsAfter bytes i rest × (label < 16) × HasLabel rest label
