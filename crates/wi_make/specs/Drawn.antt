-- What is printed where a network alone is drawn, and why nothing is. Old and new are the shelf before and after.
use Rattle.std.specs.Prelude.{◌≡◌, true, List, ℕ}
use Rattle.wi_base.specs.Shelf.{ShelfSeen}
use Rattle.wi_net.specs.Net.{Net}
use Rattle.wi_files.specs.Networks.{HoldsNetwork}
use Rattle.wi_draw.specs.Drawings.{network_drawn}

-- the drawing of the network whose file is held under a name
abbrev pub IsDrawn : ShelfSeen → List ℕ → List ℕ → Type 0
IsDrawn shelf name text = (net : Net) × (shelf.told ≡ true → HoldsNetwork (shelf.file name) net) × (text ≡ network_drawn net)
