-- A command as contracts see it.
use Rattle.std.specs.Option.{option_map}
use Rattle.wi_words.specs.Commands.{Asking, Auditing, Wanted, Verify, Check, Exact, CheckExact, Tolerate, Command, Ask, Play, Gen, Protect, Bypass, Stack, Audit, Draw}
use Rattle.wi_words.specs.declared.Asking.{Asking as GivenAsking}
use Rattle.wi_words.specs.declared.Auditing.{Auditing as GivenAuditing}
use Rattle.wi_words.specs.declared.Wanted.{Wanted as GivenWanted}
use Rattle.wi_words.specs.declared.Wanted.TheVariants as wanted
use Rattle.wi_words.specs.declared.Printing.{Printing as GivenPrinting}
use Rattle.wi_words.specs.declared.Printing.TheVariants as printing
use Rattle.wi_words.specs.declared.Command.{Command as Given}
use Rattle.wi_words.specs.declared.Command.TheVariants as given

-- the texts behind the references
abbrev pub asking_shown : GivenAsking → Asking
asking_shown asking = record { network = asking.network.now; query = asking.query.now; weights = option_map (λ s. s.now) asking.weights }

abbrev pub auditing_shown : GivenAuditing → Auditing
auditing_shown auditing = record { network = auditing.network.now; policies = auditing.policies.now; given = auditing.given.now; tested = auditing.tested }

abbrev pub wanted_shown : GivenWanted → Wanted
wanted_shown (wanted.Verify content certificate) = Verify content (option_map (λ s. s.now) certificate)
wanted_shown (wanted.Check certificate) = Check certificate.now
wanted_shown (wanted.Exact certificate) = Exact (option_map (λ s. s.now) certificate)
wanted_shown (wanted.CheckExact certificate) = CheckExact certificate.now
wanted_shown (wanted.Tolerate most certificate) = Tolerate most (option_map (λ s. s.now) certificate)

abbrev pub printing_shown : GivenPrinting → Command
printing_shown (printing.Ask asking wanted) = Ask (asking_shown asking) (wanted_shown wanted)
printing_shown (printing.Play network script k) = Play network.now script.now k
printing_shown (printing.Gen seed size) = Gen seed size
printing_shown (printing.Protect plan) = Protect plan.now
printing_shown (printing.Bypass plan) = Bypass plan.now
printing_shown (printing.Stack hex) = Stack hex.now
printing_shown (printing.Draw network) = Draw network.now

abbrev pub shown : Given → Command
shown (given.Print what) = printing_shown what
shown (given.Audit auditing) = Audit (auditing_shown auditing)
