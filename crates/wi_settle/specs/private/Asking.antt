-- What one exact answer gives, and what it adds to what is known.
use Rattle.std.specs.Prelude.{◌≡◌, ℕ, ◌+◌, ◌-◌, ◌^◌, nat_lt, if◌then◌else◌, true, List, [], ◌∷◌, ◌++◌, Option, Some, None}
use Rattle.wi_net.specs.declared.parts.LinkId.{LinkId}
use Rattle.wi_net.specs.declared.bounds.Bounds.{Bounds}
use Rattle.wi_net.specs.LinkSet.{is_within, outside}
use Rattle.wi_net.specs.RiskGroups.{union}
use Rattle.wi_net.specs.Net.{Net, all_links, risk_count}
use Rattle.wi_world.specs.declared.run.Run.{Run}
use Rattle.wi_world.specs.declared.answer.Verdict.{Verdict}
use Rattle.wi_world.specs.declared.answer.Verdict.TheVariants as verdicts
use Rattle.wi_world.specs.Moves.{AreBounds}
use Rattle.wi_world.specs.Runs.{used_by}
use Rattle.wi_build.specs.Problems.{Problem}
use Rattle.wi_branch.specs.Tolerance.{HasTrace}
use Rattle.wi_settle.specs.declared.found.Found.{Found}
use Rattle.wi_settle.specs.declared.found.Found.TheVariants as found
use Rattle.wi_settle.specs.declared.settled.Reply.{Reply}
use Rattle.wi_settle.specs.declared.settled.Reply.TheVariants.{Yes, No, Open}
use Rattle.wi_settle.specs.Findings.{IsFound, IsWitness, Settling}

-- what an exact answer gives: a trace under links that may fail; that there is none; or that there is no exact answer
abbrev pub IsReply : Problem → Reply → Type 0
IsReply problem (Yes witness) = HasTrace problem × IsWitness problem witness
IsReply problem No = HasTrace problem → ⊥
IsReply problem Open = IsFound problem found.Open

-- an exact answer is a yes where it shows a run and the links that have to fail, and else a no
abbrev pub reply_by : Net → Option Run → Option Verdict → Reply
reply_by net (Some run) (Some (verdicts.Fits fails)) = Yes (record { fails = fails; used = used_by net run })
reply_by net run verdict = No

-- what was found then
abbrev pub found_of : Reply → Found
found_of (Yes witness) = found.Yes
found_of No = found.No
found_of Open = found.Open

-- one search more, as far as 64 bits go
abbrev pub counted : ℕ → ℕ
counted n = if nat_lt n (2 ^ 64 - 1) then n + 1 else n

-- what is known once it was asked besides: a trace, where one was found
abbrev pub noted : Settling → Reply → Settling
noted settled (Yes witness) = record settled { searches = counted settled.searches; witnesses = settled.witnesses ++ witness ∷ [] }
noted settled No = record settled { searches = counted settled.searches }
noted settled Open = record settled { searches = counted settled.searches }

-- what is known once no trace was found while any risk group without these links may have failed
abbrev pub none_noted : Settling → Reply → List LinkId → Settling
none_noted settled No kept = record settled { none = Some kept }
none_noted settled (Yes witness) kept = settled
none_noted settled Open kept = settled

-- what is known of a problem that was asked while nothing is out
abbrev pub begun : Reply → Settling
begun reply = noted (record { searches = 0; own = found_of reply; witnesses = []; none = None }) reply

-- how many risk groups are neither known to be down nor known to be up
abbrev pub free_groups : Net → Bounds → ℕ
free_groups net bounds = risk_count net (outside (outside (all_links net) bounds.up) bounds.down)

-- a problem's bounds where one risk group may fail, and more links are kept up
pub record AreKept (problem : Problem) (bounds : Bounds) : Type 0 where
  pub bounds_of : AreBounds problem.net bounds
  pub one : bounds.k ≡ 1
  pub down : bounds.down ≡ problem.bounds.down
  pub up : is_within problem.bounds.up bounds.up ≡ true

-- the bounds, with what has failed while a run was found kept up
abbrev pub kept_by : Bounds → Reply → Bounds
kept_by bounds (Yes witness) = record bounds { up = union bounds.up (outside witness.fails bounds.down) }
kept_by bounds No = bounds
kept_by bounds Open = bounds
