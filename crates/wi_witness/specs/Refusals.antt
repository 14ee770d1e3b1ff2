-- Why a run is not shown.
use Rattle.std.specs.Prelude.{◌≡◌, ℕ, ◌<◌}
use Rattle.wi_witness.specs.declared.refused.UnfoldRefused.{UnfoldRefused}
use Rattle.wi_witness.specs.declared.refused.UnfoldRefused.TheVariants.{TooLong, Memory}

-- too long: the effort is over the limit, and shown
abbrev pub IsRefusal : ℕ → ℕ → UnfoldRefused → Type 0
IsRefusal effort limit (TooLong shown) = (limit < effort) × (shown ≡ effort)
IsRefusal effort limit Memory = Unit {0}
