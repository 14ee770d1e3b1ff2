-- What each call of the builder makes of a network that is being built, or the first rule that it breaks.
use Rattle.std.specs.Prelude.{◌≡◌, ℕ, ◌+◌, Bool, true, nat_lt, nat_le, if◌then◌else◌, List, [], ◌∷◌, ◌++◌, length, position, is_some, is_none, slice_get, unwrap_or, option_and_then, Option, Some, None, Result, Ok, Err}
use Rattle.std.specs.List.{list_all}
use Rattle.wi_labels.specs.declared.label.Class.{Class}
use Rattle.wi_labels.specs.declared.label.Label.{Label}
use Rattle.wi_net.specs.declared.refused.BuildRefused.{BuildRefused}
use Rattle.wi_net.specs.declared.refused.BuildRefused.TheVariants.{Memory, Repeated, Unknown, Taken, EmptyGroup, Limit, BadName}
use Rattle.wi_net.specs.declared.refused.Field.TheVariants as field
use Rattle.wi_net.specs.declared.refused.Limited.TheVariants as limited
use Rattle.wi_net.specs.declared.limits.TheConstants.{LABEL_LIMIT, LINK_LIMIT, MEMBER_LIMIT, OPERATION_LIMIT, ROUTER_LIMIT, ROW_LIMIT}
use Rattle.wi_net.specs.declared.parts.RouterId.{RouterId}
use Rattle.wi_net.specs.declared.parts.LinkId.{LinkId}
use Rattle.wi_net.specs.declared.parts.Member.{Member}
use Rattle.wi_net.specs.declared.parts.TableRow.{TableRow}
use Rattle.wi_net.specs.Names.{is_name, place, with_name, number_of}
use Rattle.wi_net.specs.Tables.{is_row, row_members}
use Rattle.wi_net.specs.Net.{Net}
use Rattle.wi_net.specs.Finding.{find_router, out_place, in_place}
use Rattle.wi_net.specs.Network.{leaves, op_known}

-- a network that is being built: the names of the risk groups that have names, with the first link of each
pub record Draft : Type 0 where
  pub net : Net
  pub named : List (List ℕ)
  pub firsts : List LinkId

abbrev pub empty_net : Net
empty_net = record { routers = []; labels = []; classes = []; interfaces = []; links = []; rows = [] }

abbrev pub empty : Draft
empty = record { net = empty_net; named = []; firsts = [] }

-- a network's routers and links alone; its risk groups have no names
abbrev pub links_alone : Net → Draft
links_alone net = record { net = record net { labels = []; classes = []; rows = [] }; named = []; firsts = [] }

infixl 10 ◌>>=◌
abbrev pub ◌>>=◌ : {A B E : Type 0} → Result A E → (A → Result B E) → Result B E
(Ok x) >>= f = f x
(Err e) >>= f = Err e

-- a rule that has to hold, and a thing that has to be there
abbrev pub rule : {E : Type 0} → E → Bool → Result (Unit {0}) E
rule refusal test = if test then Ok tt else Err refusal

abbrev pub found_or : {A E : Type 0} → E → Option A → Result A E
found_or refusal (Some x) = Ok x
found_or refusal None = Err refusal

-- one more router
abbrev pub with_router : Draft → List ℕ → Draft
with_router draft name = record draft { net = record draft.net { routers = draft.net.routers ++ name ∷ [] } }

unfoldable pub add_router : Draft → List ℕ → Result Draft BuildRefused
add_router draft name = do
  _ ← rule (Limit limited.Routers ROUTER_LIMIT) (nat_lt (length draft.net.routers) ROUTER_LIMIT)
  _ ← rule (BadName field.Name) (is_name name)
  _ ← rule Repeated (is_none (place draft.net.routers name))
  Ok (with_router draft name)

-- one more label
abbrev pub with_label : Draft → Class → List ℕ → Draft
with_label draft class name = record draft { net = record draft.net { labels = draft.net.labels ++ name ∷ []; classes = draft.net.classes ++ class ∷ [] } }

unfoldable pub add_label : Draft → Class → List ℕ → Result Draft BuildRefused
add_label draft class name = do
  _ ← rule (Limit limited.Labels LABEL_LIMIT) (nat_lt (length draft.net.labels) LABEL_LIMIT)
  _ ← rule (BadName field.Name) (is_name name)
  _ ← rule Repeated (is_none (place draft.net.labels name))
  Ok (with_label draft class name)

-- the least link of a new link's risk group: the first that named it, or else the link itself
abbrev pub first_in : List (List ℕ) → List LinkId → LinkId → Option (List ℕ) → LinkId
first_in named firsts e None = e
first_in named firsts e (Some group) = unwrap_or (option_and_then (λ i. slice_get firsts i) (place named group)) e

abbrev pub named_with : List (List ℕ) → Option (List ℕ) → List (List ℕ)
named_with named None = named
named_with named (Some group) = with_name named group

abbrev pub firsts_with : List (List ℕ) → List LinkId → LinkId → Option (List ℕ) → List LinkId
firsts_with named firsts e None = firsts
firsts_with named firsts e (Some group) = if is_some (place named group) then firsts else firsts ++ e ∷ []

-- a link's number when it is added
abbrev pub next_link : Draft → LinkId
next_link draft = record { 0 = length draft.net.links }

-- one more link
abbrev pub with_new_link : Draft → RouterId → List ℕ → RouterId → List ℕ → ℕ → Option (List ℕ) → Draft
with_new_link draft from out to into distance group = record {
  net = record draft.net {
    interfaces = with_name (with_name draft.net.interfaces out) into;
    links = draft.net.links ++ record { from = from; out_if = record { 0 = number_of draft.net.interfaces out }; to = to; in_if = record { 0 = number_of (with_name draft.net.interfaces out) into }; distance = distance; risk = first_in draft.named draft.firsts (next_link draft) group } ∷ [];
  };
  named = named_with draft.named group;
  firsts = firsts_with draft.named draft.firsts (next_link draft) group;
}

abbrev pub is_group_name : Option (List ℕ) → Bool
is_group_name None = true
is_group_name (Some group) = is_name group

-- the routers of a new link, or the first rule that it breaks
unfoldable pub link_ends : Draft → List ℕ → List ℕ → List ℕ → List ℕ → Option (List ℕ) → Result (RouterId × RouterId) BuildRefused
link_ends draft from out to into group = do
  _ ← rule (Limit limited.Links LINK_LIMIT) (nat_lt (length draft.net.links) LINK_LIMIT)
  _ ← rule (BadName field.Group) (is_group_name group)
  _ ← rule (BadName field.Out) (is_name out)
  _ ← rule (BadName field.In) (is_name into)
  f ← found_or (Unknown field.From) (find_router draft.net from)
  t ← found_or (Unknown field.To) (find_router draft.net to)
  _ ← rule (Taken field.Out) (is_none (out_place draft.net f out))
  _ ← rule (Taken field.In) (is_none (in_place draft.net t into))
  Ok (f, t)

unfoldable pub add_link : Draft → List ℕ → List ℕ → List ℕ → List ℕ → ℕ → Option (List ℕ) → Result Draft BuildRefused
add_link draft from out to into distance group = do
  ends ← link_ends draft from out to into group
  Ok (with_new_link draft ends.0 out ends.1 into distance group)

-- the first rule that a member breaks, where so many stand before it; and how many there are with it
unfoldable pub member_rules : Net → RouterId → ℕ → Member → Result ℕ BuildRefused
member_rules net router so_far m = do
  _ ← rule (Limit limited.Members MEMBER_LIMIT) (nat_lt so_far MEMBER_LIMIT)
  _ ← rule (Unknown field.Out) (leaves net router m.link)
  _ ← rule (Limit limited.Operations OPERATION_LIMIT) (nat_le (length m.ops) OPERATION_LIMIT)
  _ ← rule (Unknown field.Name) (list_all (op_known net) m.ops)
  Ok (so_far + 1)

-- members in turn, and groups
abbrev pub members_rules : Net → RouterId → ℕ → List Member → Result ℕ BuildRefused
members_rules net router so_far [] = Ok so_far
members_rules net router so_far (m ∷ ms) = member_rules net router so_far m >>= λ n. members_rules net router n ms

unfoldable pub group_rules : Net → RouterId → ℕ → List Member → Result ℕ BuildRefused
group_rules net router so_far group = do
  _ ← rule EmptyGroup (nat_lt 0 (length group))
  members_rules net router so_far group

abbrev pub groups_rules : Net → RouterId → ℕ → List (List Member) → Result ℕ BuildRefused
groups_rules net router so_far [] = Ok so_far
groups_rules net router so_far (g ∷ gs) = group_rules net router so_far g >>= λ n. groups_rules net router n gs

-- one more row
abbrev pub with_row : Draft → TableRow → Draft
with_row draft row = record draft { net = record draft.net { rows = draft.net.rows ++ row ∷ [] } }

unfoldable pub add_table : Draft → LinkId → Label → List (List Member) → Result Draft BuildRefused
add_table draft link label groups = do
  _ ← rule (Limit limited.Rows ROW_LIMIT) (nat_lt (length draft.net.rows) ROW_LIMIT)
  l ← found_or (Unknown field.In) (slice_get draft.net.links link.0)
  _ ← rule (Unknown field.Name) (nat_lt label.0 (length draft.net.labels))
  _ ← rule Repeated (is_none (position (is_row link label) draft.net.rows))
  _ ← groups_rules draft.net l.to (row_members draft.net.rows) groups
  Ok (with_row draft (record { link = link; label = label; groups = groups }))

-- a refusal other than of memory is that of the first broken rule
abbrev pub Refuses : {A : Type 0} → BuildRefused → Result A BuildRefused → Type 0
Refuses Memory rules = Unit {0}
Refuses e rules = rules ≡ Err e

-- what a call answered is what the rules give, unless memory ran out
abbrev pub Gives : {X Y : Type 0} → (X → Y) → Result X BuildRefused → Result Y BuildRefused → Type 0
Gives view (Ok x) rules = rules ≡ Ok (view x)
Gives view (Err e) rules = Refuses e rules
