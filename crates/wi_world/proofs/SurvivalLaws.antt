-- Where no packet is dropped on a way, each goes on.
use Rattle.std.proofs.Common.{◌≡◌, ℕ, Bool, true, false, List, [], ◌∷◌, map, Option, Some, None, refl, sym, ◌∙◌, subst}
use Rattle.std.specs.Prelude.{◌↔◌, is_some, is_none}
use Rattle.std.specs.Option.{option_and_then, option_map_or}
use Rattle.std.proofs.lemmas.Bool.{and_parts, and_from, true≢false}
use Rattle.wi_labels.specs.Header.{Entry, is_valid_header}
use Rattle.wi_net.specs.declared.parts.LinkId.{LinkId}
use Rattle.wi_net.specs.declared.parts.Member.{Member}
use Rattle.wi_net.specs.LinkSet.{has}
use Rattle.wi_net.specs.Net.{Net, is_link, labels_known, first_active}
use Rattle.wi_net.specs.Network.{IsNetwork}
use Rattle.wi_world.specs.declared.run.Step.{Step}
use Rattle.wi_world.specs.declared.run.Run.{Run}
use Rattle.wi_world.specs.declared.run.End.{End}
use Rattle.wi_world.specs.declared.run.End.TheVariants.{Arrives, Inactive, Undefined}
use Rattle.wi_world.specs.Moves.{Location, groups_at, member_at, through, moved, is_usable, is_possible, is_undefined, may_end, can_end, follows, is_start, is_trace, is_possible_run, IsAllowed, AreBounds}
use Rattle.wi_world.specs.Moving.{IsMovingRun}
use Rattle.wi_world.specs.Runs.{last_header}
use Rattle.wi_world.specs.Holds.{Question, Matches, is_dropped, NoTrace, NoneMoving}
use Rattle.wi_world.specs.Survival.{GoesOn, place_after, IsOnWay, Survives, SurvivesMoving}
use Rattle.wi_world.proofs.Steps.{Onward, onward, follows_from}
use Rattle.wi_world.proofs.Known.{moved_known}
use Rattle.wi_world.proofs.MovingLaws.{moving_possible}
use Rattle.wi_world.proofs.Allowed.{Names, by_link_names, member_named}

-- it is asked for dropped packets, with any header that a packet may have then
pub record AsksForDrops (net : Net) (question : Question) : Type 0 where
  pub drops : question.drops ≡ true
  pub any : (header : List Entry) → labels_known net header ≡ true → question.last (map (λ l. l.0.0) header)

-- no end of a dropped packet may be at a place
abbrev NoLoss : Net → List LinkId → Location → Type 0
NoLoss net fails at = (end : End) → is_dropped end ≡ true → may_end net fails at end ≡ true → ⊥

lost_or_led : (net : Net) (at : Location) (step : Step) (member : Member) → member_at net at step ≡ Some member → moved net at step ≡ None → is_undefined net at step ≡ true
lost_or_led net at step member m none = rw m (go (through at.1 member) refl)
  where
    go : (o : Option Location) → through at.1 member ≡ o → is_none (through at.1 member) ≡ true
    go None t = rw t refl
    go (Some next) t = let some : Some next ≡ None = rw (m, t) at none in cc

-- then a packet goes on, and the other way round
no_loss_goes : (net : Net) (fails : List LinkId) (at : Location) → NoLoss net fails at → GoesOn net fails at
no_loss_goes net fails at spared = record { active = active (first_active fails (groups_at net at.0 at.1)) refl; leads = leads }
  where
    active : (o : Option ℕ) → first_active fails (groups_at net at.0 at.1) ≡ o → is_some (first_active fails (groups_at net at.0 at.1)) ≡ true
    active None f = absurd (spared Inactive refl (rw f refl))
    active (Some j) f = rw f refl

    leads : (step : Step) → is_usable net fails at step ≡ true → is_some (moved net at step) ≡ true
    leads step u = go (moved net at step) refl
      where
        go : (o : Option Location) → moved net at step ≡ o → is_some (moved net at step) ≡ true
        go (Some next) m = rw m refl
        go None m =
            let named = by_link_names net at step _ ((and_parts _ _ u).1) in
            absurd (spared (Undefined step) refl (and_from (is_usable net fails at step) (is_undefined net at step) u (lost_or_led net at step named.0.member (member_named net at step named.0) m)))

goes_no_loss : (net : Net) (fails : List LinkId) (at : Location) → GoesOn net fails at → NoLoss net fails at
goes_no_loss net fails at on Arrives d e = let no : false ≡ true = d in cc
goes_no_loss net fails at on Inactive d e = go (first_active fails (groups_at net at.0 at.1)) refl
  where
    go : (o : Option ℕ) → first_active fails (groups_at net at.0 at.1) ≡ o → ⊥
    go None f = let no : false ≡ true = rw f at on.active in cc
    go (Some j) f = let no : false ≡ true = rw f at e in cc
goes_no_loss net fails at on (Undefined step) d e = go (member_at net at step) refl
  where
    parts : (is_usable net fails at step ≡ true) × (is_undefined net at step ≡ true)
    parts = and_parts (is_usable net fails at step) (is_undefined net at step) e

    led : is_some (moved net at step) ≡ true
    led = on.leads step parts.0

    go : (o : Option Member) → member_at net at step ≡ o → ⊥
    go None m = let no : false ≡ true = rw m at parts.1 in cc
    go (Some member) m = there (through at.1 member) refl
      where
        there : (o : Option Location) → through at.1 member ≡ o → ⊥
        there None t = let no : false ≡ true = rw (m, t) at led in cc
        there (Some next) t = let no : false ≡ true = rw (m, t) at parts.1 in cc

-- steps that pass a test lead to a place, which passes the last test; and any that the place passes may stand for it
record Led (net : Net) (test : Location → Step → Bool) (last : Location → Bool) (at : Location) (steps : List Step) : Type 0 where
  pub place : Location
  pub is : place_after net at steps ≡ Some place
  pub passes : last place ≡ true
  pub header : last_header net at steps ≡ place.1
  pub instead : (other : Location → Bool) → other place ≡ true → follows net test other at steps ≡ true

led_to : (net : Net) (test : Location → Step → Bool) (last : Location → Bool) (at : Location) (steps : List Step) → follows net test last at steps ≡ true → Led net test last at steps
led_to net test last at [] h = record { place = at; is = refl; passes = h; header = refl; instead = λ other o. o }
led_to net test last at (step ∷ steps) h =
    let o : Onward net test last at step steps = onward net test last at step steps h in
    let rest : Led net test last o.next steps = led_to net test last o.next steps o.rest in
    record {
      place = rest.place;
      is = rw o.moves rest.is;
      passes = rest.passes;
      header = rw o.moves rest.header;
      instead = λ other p. follows_from net test other at step o.next steps o.moves o.passes (rest.instead other p);
    }

-- labels stay the network's
known_after : (net : Net) (at place : Location) (steps : List Step) → IsNetwork net → labels_known net at.1 ≡ true → place_after net at steps ≡ Some place → labels_known net place.1 ≡ true
known_after net at place [] k known is = let same : at ≡ place = cc in rw (← same) known
known_after net at place (step ∷ steps) k known is = go (moved net at step) refl (λ next. known_after net next place steps k)
  where
    go : (o : Option Location) → moved net at step ≡ o → ((next : Location) → labels_known net next.1 ≡ true → place_after net next steps ≡ Some place → labels_known net place.1 ≡ true) → labels_known net place.1 ≡ true
    go None m later = let none : ◌≡◌ {A = Option Location} None (Some place) = rw m at is in cc
    go (Some next) m later = later next ((moved_known net at.0 at.1 step next k known m).1) (rw m at is)

start_known : (net : Net) (fails : List LinkId) (e : LinkId) (header : List Entry) → is_start net fails e header ≡ true → labels_known net header ≡ true
start_known net fails e header h = (and_parts _ _ h).1

-- the same run with another end
abbrev ending : Run → End → Run
ending run end = record run { end = end }

module _ (net : Net) (question : Question) (k : IsNetwork net) (asks : AsksForDrops net question) where
  matches_so : (run : Run) (place : Location) (end : End) → IsOnWay net question run → labels_known net run.header ≡ true → place_after net (run.first, run.header) run.steps ≡ Some place → last_header net (run.first, run.header) run.steps ≡ place.1 → is_dropped end ≡ true
      → Matches net question (ending run end)
  matches_so run place end way known is last d = record {
    first = way.first;
    path = way.path;
    last = asks.any (last_header net (run.first, run.header) run.steps) (rw last (known_after net (run.first, run.header) place run.steps k known is));
    end = d ∙ sym asks.drops;
  }

  pub no_trace_survives : NoTrace net question → Survives net question
  no_trace_survives spared fails run at allowed trace way is =
      no_loss_goes net fails at (λ end d e.
      spared fails (ending run end) allowed (and_from (is_start net fails run.first run.header) _ parts.0 (led.instead (λ place. may_end net fails place end) (rw same e)))
      (matches_so run led.place end way (start_known net fails run.first run.header parts.0) led.is led.header d))
    where
      parts : (is_start net fails run.first run.header ≡ true) × (follows net (is_usable net fails) (λ place. may_end net fails place run.end) (run.first, run.header) run.steps ≡ true)
      parts = and_parts _ _ trace

      led : Led net (is_usable net fails) (λ place. may_end net fails place run.end) (run.first, run.header) run.steps
      led = led_to net (is_usable net fails) (λ place. may_end net fails place run.end) (run.first, run.header) run.steps parts.1

      same : led.place ≡ at
      same = let both : Some led.place ≡ Some at = sym led.is ∙ is in cc

  pub survives_no_trace : Survives net question → NoTrace net question
  survives_no_trace on fails run allowed trace m =
      let parts = and_parts _ _ trace in
      let led = led_to net (is_usable net fails) (λ place. may_end net fails place run.end) (run.first, run.header) run.steps parts.1 in
      goes_no_loss net fails led.place (on fails run led.place allowed trace (record { first = m.first; path = m.path }) led.is) run.end (m.end ∙ asks.drops) led.passes

  pub none_moving_survives : AreBounds net question.bounds → NoneMoving net question → SurvivesMoving net question
  none_moving_survives kb spared run moving way =
      no_loss_goes net moving.last.fails (moving.last.link, moving.last.header) (λ end d e.
      spared (ending run end) (record { start = moving.start; events = moving.events; last = moving.last; allowed = moving.allowed; steps = moving.steps; ends = e })
      (matches_so run led.place end way (start_known net question.bounds.down run.first run.header moving.start) led.is led.header d))
    where
      led : Led net (is_possible net question.bounds) (λ place. can_end net question.bounds place run.end) (run.first, run.header) run.steps
      led = led_to net (is_possible net question.bounds) (λ place. can_end net question.bounds place run.end) (run.first, run.header) run.steps ((and_parts (is_start net question.bounds.down run.first run.header) (follows net (is_possible net question.bounds) (λ place. can_end net question.bounds place run.end) (run.first, run.header) run.steps) (moving_possible net question.bounds run k kb moving)).1)

  pub survives_none_moving : SurvivesMoving net question → NoneMoving net question
  survives_none_moving on run moving m =
      goes_no_loss net moving.last.fails (moving.last.link, moving.last.header) (on run moving (record { first = m.first; path = m.path })) run.end (m.end ∙ asks.drops) moving.ends
