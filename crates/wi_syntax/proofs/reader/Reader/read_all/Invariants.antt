use Rattle.std.proofs.Common.{◌≡◌}
use Rattle.std.specs.Str.Iter.{char_indices_offset, char_indices_rest}
use Rattle.wi_syntax.proofs.Texts.{IsPlace}
use Rattle.wi_syntax.proofs.reader.Reader.read_all.Given as goal

-- the bytes before the place were read
abbrev pub invariant-loop-at : goal.invariant-loop-at
invariant-loop-at l = record {
  place : IsPlace l.text (char_indices_rest l.at-iterator) (char_indices_offset l.at-iterator) l.self;
  at : l.self.at ≡ char_indices_offset l.at-iterator;
}
