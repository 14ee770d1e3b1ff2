-- How tests that are told one after the other end.
use Rattle.std.specs.Prelude.{◌⊎◌, ℕ, List}
use Rattle.wi_base.specs.Sink.{SinkSeen}
use Rattle.wi_base.specs.declared.sink.PutRefused.{PutRefused}
use Rattle.wi_net.specs.declared.bounds.Bounds.{Bounds}
use Rattle.wi_net.specs.Net.{Net}
use Rattle.wi_policy.specs.declared.policy.Policy.{Policy}
use Rattle.wi_words.specs.declared.Tested.{Tested}
use Rattle.wi_outcome.specs.Edges.{PutAll, SaysWhy, Untouched, unprinted}
use Rattle.wi_app.specs.Audited.{AreTested, IsBrokenOff}

-- all is tested, and nothing is said; or that is broken off, and it is said why
abbrev pub IsTelling : Tested → Net → Bounds → List Policy → SinkSeen → SinkSeen → SinkSeen → SinkSeen → ℕ → Type 0
IsTelling tested net given policies out_old out_new err_old err_new result =
    ((text : List ℕ) × AreTested tested net given policies text result × PutAll text out_old out_new × Untouched err_old err_new)
    ⊎ ((refused : PutRefused) × IsBrokenOff tested net given policies refused out_old out_new × SaysWhy (unprinted refused) err_old err_new result)
