-- Words and the commands that they are, by example.
use Rattle.std.proofs.Common.{◌≡◌, [], ◌∷◌, Some, None, codes, refl}
use Rattle.clap.proofs.OnLiterals.{clap_on_literals}
use Rattle.wi_words.specs.Commands.{Audit, Bypass, command_of}
use Rattle.wi_words.specs.declared.Tested.TheVariants.{RiskGroups, Routers}

risk_groups : command_of (codes "whatif" ∷ codes "outages" ∷ codes "n" ∷ codes "p" ∷ []) ≡ Some (Audit (record { network = codes "n"; policies = codes "p"; given = []; tested = RiskGroups }))
unfolding clap_on_literals
risk_groups = refl

routers : command_of (codes "whatif" ∷ codes "outages" ∷ codes "--routers" ∷ codes "n" ∷ codes "p" ∷ []) ≡ Some (Audit (record { network = codes "n"; policies = codes "p"; given = []; tested = Routers }))
unfolding clap_on_literals
routers = refl

a_flag_given_twice : command_of (codes "whatif" ∷ codes "outages" ∷ codes "n" ∷ codes "p" ∷ codes "--routers" ∷ codes "--routers" ∷ []) ≡ None
unfolding clap_on_literals
a_flag_given_twice = refl

a_flag_with_a_value : command_of (codes "whatif" ∷ codes "outages" ∷ codes "n" ∷ codes "p" ∷ codes "--routers=1" ∷ []) ≡ None
unfolding clap_on_literals
a_flag_with_a_value = refl

a_flag_of_another_command : command_of (codes "whatif" ∷ codes "audit" ∷ codes "n" ∷ codes "p" ∷ codes "--routers" ∷ []) ≡ None
unfolding clap_on_literals
a_flag_of_another_command = refl

a_plan : command_of (codes "whatif" ∷ codes "bypass" ∷ codes "n" ∷ []) ≡ Some (Bypass (codes "n"))
unfolding clap_on_literals
a_plan = refl
