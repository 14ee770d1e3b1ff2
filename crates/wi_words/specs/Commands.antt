-- What the words of a command line are. Which words a command takes, and what it makes of them, is said by the definitions
-- of the crate clap for simple commands.
use Rattle.std.specs.Prelude.{ℕ, ◌-◌, ◌^◌, ◌≤◌, ◌&&◌, nat_le, Bool, true, false, codes, if◌then◌else◌, List, [], ◌∷◌, ◌++◌, Option, Some, None}
use Rattle.std.specs.Option.{option_map, option_and_then}
use Rattle.std.specs.Str.{bytes_eq}
use Rattle.std.specs.Str.Parse.{digits_value}
use Rattle.clap.specs.declared.builder.action.ArgAction.TheVariants.{Set, SetTrue}
use Rattle.clap.specs.Walk.{Text, Row, Rule, first_of}
use Rattle.clap.specs.Simple.{App, Shape, new_rule, new_shape, with_subcommand, subcommand_of}
use Rattle.clap.specs.Faults.{fault_of}
use Rattle.wi_text.specs.Characters.{is_number}
use Rattle.wi_words.specs.declared.Content.{Content}
use Rattle.wi_words.specs.declared.Content.TheVariants.{Report, Packets, Drawing}
use Rattle.wi_words.specs.declared.Tested.{Tested}
use Rattle.wi_words.specs.declared.Tested.TheVariants.{Policies, RiskGroups, Routers}

-- a word that has to be there, in its place
abbrev pub operand : Text → Rule
operand id = record (new_rule id) { required = true; action = Some Set }

-- one that may be left out
abbrev pub optional : Text → Rule
optional id = record (new_rule id) { action = Some Set }

-- `--NAME VALUE`, which may be left out
abbrev pub option : Text → Rule
option name = record (new_rule name) { long = Some name; action = Some Set }

-- `--NAME`, without a value, which may be left out
abbrev pub flag : Text → Rule
flag name = record (new_rule name) { long = Some name; action = Some SetTrue }

-- a shape with such an operand added
abbrev pub with_optional : Text → Shape → Shape
with_optional id shape = record shape { rules = shape.rules ++ optional id ∷ [] }

-- a shape with an option added
abbrev pub with_option : Text → Shape → Shape
with_option name shape = record shape { rules = shape.rules ++ option name ∷ [] }

-- a shape with a flag added
abbrev pub with_flag : Text → Shape → Shape
with_flag name shape = record shape { rules = shape.rules ++ flag name ∷ [] }

-- a shape with the options `--weights W` and `--certificate FILE` added
abbrev pub with_options : Shape → Shape
with_options shape = with_option (codes "certificate") (with_option (codes "weights") shape)

-- `NAME NETWORK QUERY [--weights W] [--certificate FILE]`
abbrev pub asking : Text → Shape
asking name = with_options (record (new_shape name) { rules = operand (codes "NETWORK") ∷ operand (codes "QUERY") ∷ [] })

-- `NAME NETWORK QUERY CERTIFICATE [--weights W]`
abbrev pub checking : Text → Shape
checking name = record (new_shape name) { rules = operand (codes "NETWORK") ∷ operand (codes "QUERY") ∷ operand (codes "CERTIFICATE") ∷ option (codes "weights") ∷ [] }

abbrev pub verify : Shape
verify = asking (codes "verify")

abbrev pub check : Shape
check = checking (codes "check")

abbrev pub exact : Shape
exact = asking (codes "exact")

abbrev pub check_exact : Shape
check_exact = checking (codes "check-exact")

-- `play NETWORK SCRIPT K`
abbrev pub play : Shape
play = record (new_shape (codes "play")) { rules = operand (codes "NETWORK") ∷ operand (codes "SCRIPT") ∷ operand (codes "K") ∷ [] }

-- `gen SEED SIZE`
abbrev pub gen : Shape
gen = record (new_shape (codes "gen")) { rules = operand (codes "SEED") ∷ operand (codes "SIZE") ∷ [] }

-- `tolerate NETWORK QUERY LIMIT [--weights W] [--certificate FILE]`
abbrev pub tolerate : Shape
tolerate = with_options (record (new_shape (codes "tolerate")) { rules = operand (codes "NETWORK") ∷ operand (codes "QUERY") ∷ operand (codes "LIMIT") ∷ [] })

-- `NAME PLAN`
abbrev pub planning : Text → Shape
planning name = record (new_shape name) { rules = operand (codes "PLAN") ∷ [] }

abbrev pub protect : Shape
protect = planning (codes "protect")

abbrev pub bypass : Shape
bypass = planning (codes "bypass")

-- `packets NETWORK QUERY [--weights W]`
abbrev pub packets : Shape
packets = record (new_shape (codes "packets")) { rules = operand (codes "NETWORK") ∷ operand (codes "QUERY") ∷ option (codes "weights") ∷ [] }

-- `NAME NETWORK POLICIES [--given TEXT]`
abbrev pub auditing : Text → Shape
auditing name = with_option (codes "given") (record (new_shape name) { rules = operand (codes "NETWORK") ∷ operand (codes "POLICIES") ∷ [] })

abbrev pub audit : Shape
audit = auditing (codes "audit")

-- `outages NETWORK POLICIES [--given TEXT] [--routers]`
abbrev pub outages : Shape
outages = with_flag (codes "routers") (auditing (codes "outages"))

-- `draw NETWORK [QUERY [--weights W]]`
abbrev pub draw : Shape
draw = with_option (codes "weights") (with_optional (codes "QUERY") (record (new_shape (codes "draw")) { rules = operand (codes "NETWORK") ∷ [] }))

-- `stack HEX`
abbrev pub stack : Shape
stack = record (new_shape (codes "stack")) { rules = operand (codes "HEX") ∷ [] }

-- the program's commands, one of which has to be given
abbrev pub program : App
program =
    with_subcommand (with_subcommand (with_subcommand (with_subcommand (with_subcommand (with_subcommand (with_subcommand (with_subcommand (with_subcommand (with_subcommand (with_subcommand (with_subcommand (with_subcommand (with_subcommand (record { top = record (new_shape (codes "whatif")) { subcommand_required = true }; subs = [] }) verify) check) play) gen) exact) check_exact) tolerate) protect) packets) stack) audit) outages) bypass) draw

-- clap takes the words: its parse has no fault
abbrev pub is_empty : {X : Type 0} → List X → Bool
is_empty [] = true
is_empty (x ∷ xs) = false

abbrev pub are_taken : List Text → Bool
are_taken words = is_empty (fault_of program words)

-- what is asked of a network: the name of its file, the text of a query, and that of weights
pub record Asking : Type 0 where
  pub network : Text
  pub query : Text
  pub weights : Option Text

-- what policies are asked of: the names of the network's file and of theirs, the text of the links that are given, empty where none are,
-- and what each test line is about
pub record Auditing : Type 0 where
  pub network : Text
  pub policies : Text
  pub given : Text
  pub tested : Tested

-- what is wanted of it: an answer, of which this is printed, or an exact one, or whether one is accepted, with the name of the
-- certificate's file; or up to how many failures
pub data Wanted : Type 0 where
  Verify : (content : Content) (certificate : Option Text) → Wanted
  Check : (certificate : Text) → Wanted
  Exact : (certificate : Option Text) → Wanted
  CheckExact : (certificate : Text) → Wanted
  Tolerate : (most : ℕ) (certificate : Option Text) → Wanted

-- a command, with what was given to it: what is asked and wanted, or what policies are asked of, or the names of files, how many risk groups may fail, the seed and
-- the size of a ring, a text that is to be bytes
pub data Command : Type 0 where
  Ask : (asking : Asking) (wanted : Wanted) → Command
  Play : (network script : Text) (k : ℕ) → Command
  Gen : (seed size : ℕ) → Command
  Protect : (plan : Text) → Command
  Bypass : (plan : Text) → Command
  Stack : (hex : Text) → Command
  Audit : (auditing : Auditing) → Command
  Draw : (network : Text) → Command

-- a number from a least to a most one: a decimal without leading zeros
abbrev pub number_within : ℕ → ℕ → Text → Option ℕ
number_within least most s = if is_number s && (nat_le least (digits_value 10 s) && nat_le (digits_value 10 s) most) then Some (digits_value 10 s) else None

-- how many risk groups may be failed; a seed; the size of a ring
abbrev pub most_failed : Text → Option ℕ
most_failed s = number_within 0 65535 s

abbrev pub seed_in : Text → Option ℕ
seed_in s = number_within 0 (2 ^ 64 - 1) s

abbrev pub size_in : Text → Option ℕ
size_in s = number_within 4 2000 s

-- the size of a ring is one that has a path and bypasses
abbrev pub IsFit : Command → Type 0
IsFit (Gen seed size) = (4 ≤ size) × (size ≤ 2000)
IsFit _ = Unit {0}

-- what a subcommand's entries ask of a network
abbrev pub asking_in : List Row → Option Asking
asking_in rows =
    option_and_then (λ network. option_map (λ query. record { network = network; query = query; weights = first_of (codes "weights") rows }) (first_of (codes "QUERY") rows)) (first_of (codes "NETWORK") rows)

-- what the subcommand with a name wants of it, if it is one that asks something of a network
abbrev pub wanted_named : Text → List Row → Option Wanted
wanted_named name rows =
    if bytes_eq name (codes "verify") then Some (Verify Report (first_of (codes "certificate") rows))
    else if bytes_eq name (codes "check") then option_map Check (first_of (codes "CERTIFICATE") rows)
    else if bytes_eq name (codes "exact") then Some (Exact (first_of (codes "certificate") rows))
    else if bytes_eq name (codes "check-exact") then option_map CheckExact (first_of (codes "CERTIFICATE") rows)
    else if bytes_eq name (codes "tolerate") then option_map (λ most. Tolerate most (first_of (codes "certificate") rows)) (option_and_then most_failed (first_of (codes "LIMIT") rows))
    else if bytes_eq name (codes "packets") then Some (Verify Packets None)
    else if bytes_eq name (codes "draw") then Some (Verify Drawing None)
    else None

-- the command of a subcommand's entries
abbrev pub asked_of : Text → List Row → Option Command
asked_of name rows = option_and_then (λ wanted. option_map (λ asking. Ask asking wanted) (asking_in rows)) (wanted_named name rows)

abbrev pub play_of : List Row → Option Command
play_of rows =
    option_and_then (λ network. option_and_then (λ script. option_map (λ k. Play network script k) (option_and_then most_failed (first_of (codes "K") rows))) (first_of (codes "SCRIPT") rows))
    (first_of (codes "NETWORK") rows)

abbrev pub gen_of : List Row → Option Command
gen_of rows = option_and_then (λ seed. option_map (λ size. Gen seed size) (option_and_then size_in (first_of (codes "SIZE") rows))) (option_and_then seed_in (first_of (codes "SEED") rows))

-- the name of the file that has a plan
abbrev pub plan_in : List Row → Option Text
plan_in rows = first_of (codes "PLAN") rows

abbrev pub protect_of : List Row → Option Command
protect_of rows = option_map (λ plan. Protect plan) (plan_in rows)

abbrev pub bypass_of : List Row → Option Command
bypass_of rows = option_map (λ plan. Bypass plan) (plan_in rows)

abbrev pub stack_of : List Row → Option Command
stack_of rows = option_map (λ hex. Stack hex) (first_of (codes "HEX") rows)

-- what a subcommand's entries ask policies of
abbrev pub given_in : List Row → Text
given_in rows = elim (first_of (codes "given") rows) [ None ↦ [] | Some text ↦ text ]

-- a flag is among the words: clap makes the text `true` of it, and `false` where it is left out
abbrev pub has_flag : Text → List Row → Bool
has_flag name rows = elim (first_of name rows) [ None ↦ false | Some text ↦ bytes_eq text (codes "true") ]

-- what the outages are of
abbrev pub tested_by : List Row → Tested
tested_by rows = if has_flag (codes "routers") rows then Routers else RiskGroups

abbrev pub auditing_in : Tested → List Row → Option Auditing
auditing_in tested rows =
    option_and_then (λ network. option_map (λ policies. record { network = network; policies = policies; given = given_in rows; tested = tested }) (first_of (codes "POLICIES") rows)) (first_of (codes "NETWORK") rows)

abbrev pub audit_of : Tested → List Row → Option Command
audit_of tested rows = option_map (λ auditing. Audit auditing) (auditing_in tested rows)

abbrev pub outages_of : List Row → Option Command
outages_of rows = audit_of (tested_by rows) rows

-- without a query, and then without weights, the network alone is drawn
abbrev pub draw_alone : List Row → Option Command
draw_alone rows = elim (first_of (codes "weights") rows) [ None ↦ option_map (λ network. Draw network) (first_of (codes "NETWORK") rows) | Some weights ↦ None ]

abbrev pub draw_of : List Row → Option Command
draw_of rows = elim (first_of (codes "QUERY") rows) [ None ↦ draw_alone rows | Some query ↦ asked_of (codes "draw") rows ]

abbrev pub command_named : Text × List Row → Option Command
command_named met =
    if bytes_eq met.0 (codes "play") then play_of met.1
    else if bytes_eq met.0 (codes "gen") then gen_of met.1
    else if bytes_eq met.0 (codes "protect") then protect_of met.1
    else if bytes_eq met.0 (codes "stack") then stack_of met.1
    else if bytes_eq met.0 (codes "audit") then audit_of Policies met.1
    else if bytes_eq met.0 (codes "outages") then outages_of met.1
    else if bytes_eq met.0 (codes "bypass") then bypass_of met.1
    else if bytes_eq met.0 (codes "draw") then draw_of met.1
    else asked_of met.0 met.1

-- the command that the words are, if they are one. The first word is the program's name and isn't looked at
abbrev pub command_of : List Text → Option Command
command_of words = if are_taken words then option_and_then command_named (subcommand_of program words) else None
