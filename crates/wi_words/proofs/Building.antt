-- Commands that are put together.
use Rattle.std.proofs.Common.{◌≡◌, ℕ, ◌+◌, ◌<◌, ◌≤◌, true, false, ◌||◌, List, ◌∷◌, [], ◌++◌, length, map, get_or, take, Bor, ap, ap₂, sym, ◌∙◌}
use Rattle.std.proofs.lemmas.List.{map_more, take_all}
use Rattle.clap.specs.declared.builder.arg.Arg.{Arg}
use Rattle.clap.specs.declared.builder.command.Command.{Command}
use Rattle.clap.specs.declared.builder.command.Command.TheViews.{out-Command as fields_of}
use Rattle.clap.specs.Walk.{Rule, Text, rule_of}
use Rattle.clap.specs.Simple.{App, Shape, app_of, app_of_fields, new_shape, on_top, shape_of}
use Rattle.clap.specs.Built.{AddsArg}
use Rattle.wi_words.specs.Commands.{operand}

-- the command NAME with these operands
abbrev pub with_operands : Text → List (Bor Text) → Shape
with_operands name ids = record (new_shape name) { rules = map (λ id. operand id.now) ids }

-- the next operand was added
pub operand_added : (name : Text) (ids : List (Bor Text)) (i : ℕ) (d : Bor Text) (arg : Arg) (old new : Command)
    → i < length ids → AddsArg old arg new → arg.global ≡ false → rule_of arg ≡ operand (get_or ids i d).now
    → shape_of old ≡ with_operands name (take i ids) → shape_of new ≡ with_operands name (take (i + 1) ids)
operand_added name ids i d arg old new within adds local is before =
    let with_one : Shape → Rule → Shape = λ s r. record s { rules = s.rules ++ r ∷ [] } in
    let with_rules : List Rule → Shape = λ rules. record (new_shape name) { rules = rules } in
    ap (λ a. a.top) (adds.shape local)
    ∙ ap₂ with_one before is
    ∙ ap with_rules (sym (map_more (λ id. operand id.now) ids i d within))

-- all operands were added
pub operands_added : (name : Text) (ids : List (Bor Text)) (i : ℕ) (s : Shape) → length ids ≤ i → s ≡ with_operands name (take i ids) → s ≡ with_operands name ids
operands_added name ids i s past is = is ∙ ap (with_operands name) (take_all i ids past)

-- an argument that isn't global brings no globals in
pub still_local : (arg : Arg) (old new : Command) → AddsArg old arg new → arg.global ≡ false → (fields_of old).has_globals ≡ false → (fields_of new).has_globals ≡ false
still_local arg old new adds local before = adds.globals ∙ (ap (λ b. b || arg.global) before ∙ local)

-- one of the command's subcommands has to be given
pub needs_subcommand : (old new : Command) (a : App) → app_of old ≡ a → fields_of new ≡ record (fields_of old) { subcommand_required = true }
    → app_of new ≡ on_top (λ s. record s { subcommand_required = true }) a
needs_subcommand old new a is sets = ap app_of_fields sets ∙ ap (on_top (λ s. record s { subcommand_required = true })) is
