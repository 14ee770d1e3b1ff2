-- Where the links of a list stand.
use Rattle.std.specs.Prelude.{ℕ}
use Rattle.wi_planjson.specs.declared.refused.Place.{Place}
use Rattle.wi_planjson.specs.declared.refused.Place.TheVariants.{PathLink, ViaLink}
use Rattle.wi_planjson.specs.declared.routes.Route.{Route}
use Rattle.wi_planjson.specs.declared.routes.Route.TheVariants as route

-- the place of a link of a list, by its number
abbrev pub place_in : Route → ℕ → Place
place_in (route.Path i) j = PathLink i j
place_in (route.Via i) j = ViaLink i j
