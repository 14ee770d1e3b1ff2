-- What stands against a step or an end, from what stands against its member's link.
use Rattle.std.proofs.Common.{◌≡◌, ℕ, Bool, true, false, ◌||◌, List, slice_get, Option, Some, None, Result, Ok, Err, refl, sym, ◌∙◌}
use Rattle.wi_labels.specs.Header.{Entry, outcome, after_ops}
use Rattle.wi_net.specs.declared.parts.LinkId.{LinkId}
use Rattle.wi_net.specs.declared.parts.Member.{Member}
use Rattle.wi_net.specs.declared.bounds.Bounds.{Bounds}
use Rattle.wi_net.specs.LinkSet.{has}
use Rattle.wi_net.specs.Net.{Net}
use Rattle.wi_world.specs.declared.run.Step.{Step}
use Rattle.wi_world.specs.declared.run.End.TheVariants.{Arrives, Inactive, Undefined as Dropped}
use Rattle.wi_world.specs.Moves.{Location, groups_at, moved, needed, member_at}
use Rattle.wi_trace.specs.declared.cause.Cause.{Cause}
use Rattle.wi_trace.specs.declared.cause.Cause.TheVariants.{Undefined}
use Rattle.wi_trace.specs.declared.hop.World.{World}
use Rattle.wi_trace.specs.declared.hop.World.TheVariants.{Fixed, Moving}
use Rattle.wi_trace.specs.Replays.{undefined_cause, defined_cause, member_cause, is_first_active, taken_cause, needs_cause, taken_moving_cause}
use Rattle.wi_trace.specs.private.Hops.{named, named_in, fixed_against, moving_against, against, unless, taken_among, taken_in, cause_in, inactive_in, end_cause_in}
use Rattle.wi_trace.proofs.FaultLemmas.{Judging, hop_judge, moving_judge, by_group}

-- ---- a member that is taken

pub not_named : (world : World) (net : Net) (at : Location) (step : Step) (groups : List (List Member)) (why : Cause) → groups ≡ groups_at net at.0 at.1 → named groups step ≡ Err why → taken_in world net at step ≡ Err why
not_named world net at step groups why are is = rw (rw are at is) refl

pub stands_against : (world : World) (net : Net) (at : Location) (step : Step) (groups : List (List Member)) (member : Member) (o : Option Cause) (why : Cause) → groups ≡ groups_at net at.0 at.1 → named groups step ≡ Ok member → o ≡ against world net groups step.group member.link → o ≡ Some why → taken_in world net at step ≡ Err why
stands_against world net at step groups member o why are is stands some =
    let it : against world net (groups_at net at.0 at.1) step.group member.link ≡ Some why = rw are at (sym stands ∙ some) in
    rw (rw are at is) (rw it refl)

pub stands_not : (world : World) (net : Net) (at : Location) (step : Step) (groups : List (List Member)) (member : Member) (o : Option Cause) → groups ≡ groups_at net at.0 at.1 → named groups step ≡ Ok member → o ≡ against world net groups step.group member.link → o ≡ None → taken_in world net at step ≡ Ok member
stands_not world net at step groups member o are is stands none =
    let it : against world net (groups_at net at.0 at.1) step.group member.link ≡ None = rw are at (sym stands ∙ none) in
    rw (rw are at is) (rw it refl)

pub ruleset taken_laws = (not_named, stands_against, stands_not)

-- ---- what is said of it

-- what is said of a member's operations where it is taken, or why it isn't
abbrev by_taken : Judging → List Entry → Result Member Cause → Option Cause
by_taken judging header (Err why) = Some why
by_taken judging header (Ok member) = judging header member

abbrev cause_by : Judging → World → Net → Location → Step → Option Cause
cause_by judging (Fixed fails) net at step = taken_cause judging net fails.now at step
cause_by judging (Moving bounds) net at step = taken_moving_cause judging net bounds.now at step

fixed_judged : (judging : Judging) (net : Net) (fails : List LinkId) (at : Location) (step : Step) (member : Member) → hop_judge judging net fails at step member ≡ by_taken judging at.1 (unless (fixed_against fails (groups_at net at.0 at.1) step.group member.link) member)
fixed_judged judging net fails at step member = go (is_first_active net fails at step.group) (has fails member.link) refl refl
  where
    go : (b c : Bool) → is_first_active net fails at step.group ≡ b → has fails member.link ≡ c → hop_judge judging net fails at step member ≡ by_taken judging at.1 (unless (fixed_against fails (groups_at net at.0 at.1) step.group member.link) member)
    go false c eb ec = rw eb refl
    go true true eb ec = rw eb (rw ec refl)
    go true false eb ec = rw eb (rw ec refl)

moving_judged : (judging : Judging) (net : Net) (b : Bounds) (at : Location) (step : Step) (member : Member) → moving_judge judging net b at step member ≡ by_taken judging at.1 (unless (moving_against net b (needed net at step) member.link) member)
moving_judged judging net b at step member = go (needs_cause net b (needed net at step)) (has (needed net at step) member.link || has b.down member.link) refl refl
  where
    go : (o : Option Cause) (own : Bool) → needs_cause net b (needed net at step) ≡ o → (has (needed net at step) member.link || has b.down member.link) ≡ own → moving_judge judging net b at step member ≡ by_taken judging at.1 (unless (moving_against net b (needed net at step) member.link) member)
    go (Some why) own eo ew = rw (eo, moving_judge, moving_against) refl
    go None true eo ew = rw (eo, moving_judge, moving_against) (rw ew refl)
    go None false eo ew = rw (eo, moving_judge, moving_against) (rw ew refl)

-- what is judged of each member is judged of the step's
by_member : (judging : Judging) (judge : Member → Option Cause) (world : World) (net : Net) (at : Location) (step : Step) → ((m : Member) → judge m ≡ by_taken judging at.1 (unless (against world net (groups_at net at.0 at.1) step.group m.link) m)) → member_cause judge net at step ≡ by_taken judging at.1 (taken_in world net at step)
by_member judging judge world net at step each = go (slice_get (groups_at net at.0 at.1) step.group) refl
  where
    groups : List (List Member)
    groups = groups_at net at.0 at.1

    go : (o : Option (List Member)) → slice_get groups step.group ≡ o → by_group judge step (slice_get groups step.group) ≡ by_taken judging at.1 (taken_among world net groups step (named_in (slice_get groups step.group) step.member))
    go None eo = rw eo refl
    go (Some g) eo = rw eo (go2 (slice_get g step.member) refl)
      where
        go2 : (o : Option Member) → slice_get g step.member ≡ o → by_group judge step (Some g) ≡ by_taken judging at.1 (taken_among world net groups step (named_in (Some g) step.member))
        go2 None em = rw (em, named_in) refl
        go2 (Some m) em = rw (em, named_in) (each m)

caused : (judging : Judging) (world : World) (net : Net) (at : Location) (step : Step) → cause_by judging world net at step ≡ by_taken judging at.1 (taken_in world net at step)
caused judging (Fixed fails) net at step = by_member judging (hop_judge judging net fails.now at step) (Fixed fails) net at step (fixed_judged judging net fails.now at step)
caused judging (Moving bounds) net at step = by_member judging (moving_judge judging net bounds.now at step) (Moving bounds) net at step (moving_judged judging net bounds.now at step)

hop_caused : (world : World) (net : Net) (at : Location) (step : Step) → cause_in world net at step ≡ by_taken undefined_cause at.1 (taken_in world net at step)
hop_caused (Fixed fails) net at step = caused undefined_cause (Fixed fails) net at step
hop_caused (Moving bounds) net at step = caused undefined_cause (Moving bounds) net at step

end_caused : (world : World) (net : Net) (at : Location) (step : Step) → end_cause_in world net (Dropped step) at ≡ by_taken defined_cause at.1 (taken_in world net at step)
end_caused (Fixed fails) net at step = caused defined_cause (Fixed fails) net at step
end_caused (Moving bounds) net at step = caused defined_cause (Moving bounds) net at step

-- ---- a hop

-- a member that is taken is the one that the step names
taken_member : (world : World) (net : Net) (at : Location) (step : Step) (member : Member) → taken_in world net at step ≡ Ok member → member_at net at step ≡ Some member
taken_member world net at step member h = go (slice_get (groups_at net at.0 at.1) step.group) refl
  where
    groups : List (List Member)
    groups = groups_at net at.0 at.1

    go : (o : Option (List Member)) → slice_get groups step.group ≡ o → member_at net at step ≡ Some member
    go None eo = let e : ◌≡◌ {A = Result Member Cause} (taken_among world net groups step (named_in None step.member)) (Ok member) = rw eo at h in cc
    go (Some g) eo = rw eo (go2 (slice_get g step.member) refl)
      where
        h1 : taken_among world net groups step (named_in (Some g) step.member) ≡ Ok member
        h1 = rw eo at h

        go2 : (o : Option Member) → slice_get g step.member ≡ o → slice_get g step.member ≡ Some member
        go2 None em = let e : ◌≡◌ {A = Result Member Cause} (taken_among world net groups step (named_in (Some g) step.member)) (Ok member) = h1 in let e2 = rw (em, named_in) at e in cc
        go2 (Some m) em = go3 (against world net groups step.group m.link) refl
          where
            h2 : unless (against world net groups step.group m.link) m ≡ Ok member
            h2 = rw (em, named_in) at h1

            go3 : (o : Option Cause) → against world net groups step.group m.link ≡ o → slice_get g step.member ≡ Some member
            go3 None es = let e : ◌≡◌ {A = Result Member Cause} (Ok m) (Ok member) = rw es at h2 in let same : m ≡ member = cc in rw em (rw same refl)
            go3 (Some why) es = let e : ◌≡◌ {A = Result Member Cause} (Err why) (Ok member) = rw es at h2 in cc

pub hop_not_taken : (world : World) (net : Net) (at : Location) (step : Step) (why : Cause) → taken_in world net at step ≡ Err why → cause_in world net at step ≡ Some why
hop_not_taken world net at step why t = hop_caused world net at step ∙ rw t refl

pub hop_done : (world : World) (net : Net) (at new : Location) (step : Step) (member : Member) → taken_in world net at step ≡ Ok member → outcome 0 member.ops at.1 ≡ Ok new.1 → cause_in world net at step ≡ None
hop_done world net at new step member t o = hop_caused world net at step ∙ rw t (rw (o, undefined_cause) refl)

pub hop_undefined : (world : World) (net : Net) (at : Location) (step : Step) (member : Member) (i : ℕ) → taken_in world net at step ≡ Ok member → outcome 0 member.ops at.1 ≡ Err i → cause_in world net at step ≡ Some (Undefined i)
hop_undefined world net at step member i t o = hop_caused world net at step ∙ rw t (rw (o, undefined_cause) refl)

pub hop_moved : (world : World) (net : Net) (at new : Location) (step : Step) (member : Member) → taken_in world net at step ≡ Ok member → outcome 0 member.ops at.1 ≡ Ok new.1 → new.0 ≡ member.link → moved net at step ≡ Some new
hop_moved world net at new step member t o link = rw (taken_member world net at step member t) (rw (o, after_ops, sym link) refl)

pub ruleset hop_laws = (hop_not_taken, hop_done, hop_undefined, hop_moved)

-- ---- an end

pub end_arrives : (world : World) (net : Net) (at : Location) → end_cause_in world net Arrives at ≡ None
end_arrives (Fixed fails) net at = refl
end_arrives (Moving bounds) net at = refl

pub end_inactive : (world : World) (net : Net) (at : Location) → end_cause_in world net Inactive at ≡ inactive_in world net (groups_at net at.0 at.1)
end_inactive (Fixed fails) net at = refl
end_inactive (Moving bounds) net at = refl

pub end_not_taken : (world : World) (net : Net) (at : Location) (step : Step) (why : Cause) → taken_in world net at step ≡ Err why → end_cause_in world net (Dropped step) at ≡ Some why
end_not_taken world net at step why t = end_caused world net at step ∙ rw t refl

pub end_taken : (world : World) (net : Net) (at : Location) (step : Step) (member : Member) → taken_in world net at step ≡ Ok member → end_cause_in world net (Dropped step) at ≡ defined_cause at.1 member
end_taken world net at step member t = end_caused world net at step ∙ rw t refl

pub ruleset end_laws = (end_arrives, end_inactive, end_not_taken, end_taken)
