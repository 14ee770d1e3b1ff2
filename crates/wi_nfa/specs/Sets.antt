-- Sets of states as marks.
use Rattle.std.specs.Prelude.{ℕ, List, map}
use Rattle.wi_regex.specs.declared.atom.Symbol.{Symbol}

-- a word's symbols
abbrev pub symbols : List Symbol → List ℕ
symbols w = map (λ s. s.0) w
