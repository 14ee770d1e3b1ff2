-- Why there is no automaton of an expression.
use Rattle.std.specs.Prelude.{◌≡◌, ◌<◌, ◌-◌, ◌^◌, min}
use Rattle.wi_regex.specs.declared.regex.Regex.{Regex}
use Rattle.wi_regex.specs.Matching.{position_count}
use Rattle.wi_nfa.specs.declared.nfa.TheConstants.{POSITION_LIMIT}
use Rattle.wi_nfa.specs.declared.nfa.NfaRefused.{NfaRefused}
use Rattle.wi_nfa.specs.declared.nfa.NfaRefused.TheVariants.{TooManyPositions, Memory}

-- too many is exactly over the limit, and tells the count; want of memory is free
abbrev pub IsRefusal : {A : Type 0} → Regex A → NfaRefused → Type 0
IsRefusal r (TooManyPositions n) = (POSITION_LIMIT < n) × (n ≡ min (position_count r) (2 ^ 64 - 1))
IsRefusal r Memory = Unit {0}
