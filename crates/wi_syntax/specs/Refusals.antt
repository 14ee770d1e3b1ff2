-- Why a text isn't read.
use Rattle.std.specs.Prelude.{ℕ, List}
use Rattle.wi_text.specs.Prefixes.{IsFaultAt}
use Rattle.wi_syntax.specs.Grammar.{IsQueryText}
use Rattle.wi_syntax.specs.declared.reader.SyntaxRefused.{SyntaxRefused}
use Rattle.wi_syntax.specs.declared.reader.SyntaxRefused.TheVariants.{Stops, Memory}

abbrev pub IsUnread : List ℕ → SyntaxRefused → Type 0
IsUnread text (Stops k) = IsFaultAt IsQueryText text k
IsUnread text Memory = Unit {0}
