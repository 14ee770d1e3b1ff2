-- What is kept while a canonical text is written.
use Rattle.std.specs.Prelude.{◌≡◌, ℕ, Bool, false, List, slice_index_or}
use Rattle.wi_net.specs.declared.parts.Link.{Link}
use Rattle.wi_netjson.specs.Written.{is_larger}

-- a list has, at each place, whether the risk group of that number is larger
abbrev pub AreLarger : List Link → List Bool → Type 0
AreLarger links larger = (r : ℕ) → slice_index_or larger r false ≡ is_larger links r
