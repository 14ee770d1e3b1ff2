-- The subcommand that clap entered.
use Rattle.std.proofs.Common.{◌≡◌, List, Option, Some, None, option_map}
use Rattle.clap.specs.Matches.{subcommand_name_of}
use Rattle.clap.specs.Simple.{subcommand_rows_of}
use Rattle.clap.specs.Walk.{Row, Text}
use Rattle.clap.specs.declared.parser.matches.ArgMatches.{ArgMatches}

abbrev Met : Type 0
Met = Text × List Row

abbrev met : Text → List Row → Met
met name rows = (name, rows)

of_one : {B : Type 0} (name_of : B → Text) (rows_in : B → List Row) (found : Option B) (name : Text) (rows : List Row) → Some name ≡ option_map name_of found
    → Some rows ≡ option_map (λ (m : Met). m.1) (option_map (λ b. met (name_of b) (rows_in b)) found) → Some (met name rows) ≡ option_map (λ b. met (name_of b) (rows_in b)) found
of_one name_of rows_in None name rows named has = cc
of_one name_of rows_in (Some one) name rows named has = cc

-- the name and the entries that clap tells are those of one subcommand
pub entered : (matches : ArgMatches) (name : Text) (rows : List Row) → Some name ≡ subcommand_name_of matches
    → Some rows ≡ option_map (λ (m : Met). m.1) (subcommand_rows_of matches) → Some (met name rows) ≡ subcommand_rows_of matches
entered matches name rows named has = of_one _ _ _ name rows named has
