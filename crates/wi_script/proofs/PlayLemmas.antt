-- Events and what they leave.
use Rattle.std.proofs.Common.{◌≡◌, ℕ, ◌+◌, ◌≤◌, ◌<◌, Bool, true, false, not, ◌&&◌, ◌||◌, nat_lt, List, [], ◌∷◌, ◌++◌, length, drop, get_or, append_assoc, Option, Some, None, refl, ap, sym, ◌∙◌, arith}
use Rattle.std.specs.List.{list_all, list_any}
use Rattle.std.specs.Option.{option_map}
use Rattle.std.proofs.lemmas.Bool.Decides.{nat_tests}
use Rattle.std.proofs.lemmas.List.{drop_more}
use Rattle.std.proofs.lemmas.Bool.{and_parts, and_from}
use Rattle.wi_net.specs.declared.parts.LinkId.{LinkId}
use Rattle.wi_net.specs.LinkSet.{has, is_rising, outside}
use Rattle.wi_net.specs.RiskGroups.{union}
use Rattle.wi_net.specs.Net.{Net, is_link, labels_known, same_risk, risk_count, widened, links_where, with_risk, without_risk}
use Rattle.wi_net.specs.Network.{IsNetwork}
use Rattle.wi_net.proofs.SetLemmas.{has-filter, has-links_where, all_at, all_from, where_has}
use Rattle.wi_net.proofs.RisingLemmas.{rising_same, filter_rising}
use Rattle.wi_net.proofs.WidenLemmas.{has-union, union_keeps_rising, union_rising}
use Rattle.wi_world.specs.declared.world.State.{State}
use Rattle.wi_world.specs.declared.world.Event.{Event}
use Rattle.wi_world.specs.declared.world.Event.TheVariants.{Fail, Repair, Hop}
use Rattle.wi_world.specs.Moving.{after_event}
use Rattle.wi_script.specs.declared.script.ScriptCause.{ScriptCause}
use Rattle.wi_script.specs.declared.script.ScriptCause.TheVariants as script
use Rattle.wi_world.specs.declared.run.Step.{Step}
use Rattle.wi_world.specs.declared.run.End.TheVariants.{Arrives}
use Rattle.wi_world.specs.Moves.{Location, moved, is_usable}
use Rattle.wi_world.proofs.Known.{IsKnownPlace, moved_known}
use Rattle.wi_script.proofs.SetLemmas.{outside_none}
use Rattle.wi_trace.proofs.FaultLemmas.{hop_agrees}
use Rattle.wi_trace.specs.declared.cause.Cause.{Cause}
use Rattle.wi_trace.specs.Replays.{hop_cause}
use Rattle.wi_script.specs.Plays.{only, states_of, hop_words, event_cause, first_refused, is_state_of}
use Rattle.wi_script.specs.private.Moments.{is_moment_of, TakesPlace}

-- a link's risk group, link by link
in_group : (net : Net) (d e : LinkId) → has (widened net (d ∷ [])) e ≡ (is_link net e && same_risk net d e)
in_group net d e = has-links_where net (λ x. list_any (λ y. same_risk net y x) (d ∷ [])) e ∙ ap (λ b. is_link net e && b) (or_false (same_risk net d e))
  where
    or_false : (b : Bool) → (b || false) ≡ b
    or_false true = refl
    or_false false = refl

-- links of the network with another one's risk group are what is left when that one fails
pub failed : (net : Net) (s : List LinkId) (d : LinkId) → is_rising s ≡ true → list_all (is_link net) s ≡ true → union s (widened net (d ∷ [])) ≡ with_risk net s d
failed net s d rising links = rising_same (union s (widened net (d ∷ []))) (with_risk net s d) (union_keeps_rising s (widened net (d ∷ [])) rising) (union_rising (λ e. has s e || same_risk net d e) _) same
  where
    spread : (a l b : Bool) → (a ≡ true → l ≡ true) → (a || (l && b)) ≡ (l && (a || b))
    spread true l b h = rw (h refl) refl
    spread false true b h = refl
    spread false false b h = refl

    same : (e : LinkId) → has (union s (widened net (d ∷ []))) e ≡ has (with_risk net s d) e
    same e =
        has-union s (widened net (d ∷ [])) e ∙ ap (λ b. has s e || b) (in_group net d e)
        ∙ spread (has s e) (is_link net e) (same_risk net d e) (λ h. all_at (is_link net) s e links h)
        ∙ sym (has-links_where net (λ x. has s x || same_risk net d x) e)

-- and links without it are left when it is repaired
pub repaired : (net : Net) (s : List LinkId) (d : LinkId) → is_rising s ≡ true → list_all (is_link net) s ≡ true → outside s (widened net (d ∷ [])) ≡ without_risk net s d
repaired net s d rising links = rising_same (outside s (widened net (d ∷ []))) (without_risk net s d) (filter_rising (λ e. not (has (widened net (d ∷ [])) e)) s rising) (union_rising (λ e. has s e && not (same_risk net d e)) _) same
  where
    spread : (a l b : Bool) → (a ≡ true → l ≡ true) → (a && not (l && b)) ≡ (l && (a && not b))
    spread true l b h = rw (h refl) refl
    spread false true b h = refl
    spread false false b h = refl

    same : (e : LinkId) → has (outside s (widened net (d ∷ []))) e ≡ has (without_risk net s d) e
    same e =
        has-filter (λ x. not (has (widened net (d ∷ [])) x)) s e ∙ ap (λ b. has s e && not b) (in_group net d e)
        ∙ spread (has s e) (is_link net e) (same_risk net d e) (λ h. all_at (is_link net) s e links h)
        ∙ sym (has-links_where net (λ x. has s x && not (same_risk net d x)) e)

-- the network's links that pass a test are the network's
pub where_links : (net : Net) (p : LinkId → Bool) → list_all (is_link net) (links_where net p) ≡ true
where_links net p = all_from (is_link net) (links_where net p) (λ e h. (where_has net p e h).0)

-- ---- what is seen of a moment

parts_of : (net : Net) (now : State) → is_moment_of net now ≡ true → (is_link net now.link ≡ true) × (labels_known net now.header ≡ true) × (list_all (is_link net) now.fails ≡ true) × (is_rising now.fails ≡ true)
parts_of net now h =
    let whole = and_parts (is_state_of net now) (is_rising now.fails) h in
    let first = and_parts (is_link net now.link) (labels_known net now.header && list_all (is_link net) now.fails) whole.0 in
    let rest = and_parts (labels_known net now.header) (list_all (is_link net) now.fails) first.1 in
    (first.0, rest.0, rest.1, whole.1)

moment_from : (net : Net) (now : State) → is_link net now.link ≡ true → labels_known net now.header ≡ true → list_all (is_link net) now.fails ≡ true → is_rising now.fails ≡ true → is_moment_of net now ≡ true
moment_from net now link header links rising = rw (link, header, links, rising) refl

pub state_of : (net : Net) (now : State) → is_moment_of net now ≡ true → is_state_of net now ≡ true
state_of net now h = (and_parts (is_state_of net now) (is_rising now.fails) h).0

-- ---- the three events

pub fails_already : (net : Net) (k : ℕ) (old new : State) (d : LinkId) → has old.fails d ≡ true → TakesPlace net k old (Fail d) new (Some script.AlreadyFailed)
fails_already net k old new d h = (rw h refl, rw (h, and_no (is_link net d)) refl)
  where
    and_no : (b : Bool) → (b && false) ≡ false
    and_no true = refl
    and_no false = refl

pub fails_too_many : (net : Net) (k : ℕ) (old new : State) (d : LinkId) → has old.fails d ≡ false → k ≤ risk_count net old.fails → TakesPlace net k old (Fail d) new (Some script.TooManyFailed)
fails_too_many net k old new d h many = (rw (h, full) refl, rw (h, outside_none old.fails, full, and_no (is_link net d)) refl)
  where
    and_no : (b : Bool) → (((b && true) && true) && false) ≡ false
    and_no true = refl
    and_no false = refl

    full : nat_lt (risk_count net old.fails) k ≡ false
    full = grind (arith, nat_tests, many)

pub fails_now : (net : Net) (k : ℕ) (old : State) (left : List LinkId) (d : LinkId) → is_moment_of net old ≡ true → is_link net d ≡ true → has old.fails d ≡ false → risk_count net old.fails < k
    → left ≡ union old.fails (widened net (d ∷ [])) → TakesPlace net k old (Fail d) (record old { fails = left }) None
fails_now net k old left d m l h few fails = (rw (h, room) refl, rw (l, h, outside_none old.fails, room) after, moment)
  where
    parts : (is_link net old.link ≡ true) × (labels_known net old.header ≡ true) × (list_all (is_link net) old.fails ≡ true) × (is_rising old.fails ≡ true)
    parts = parts_of net old m

    room : nat_lt (risk_count net old.fails) k ≡ true
    room = grind (arith, nat_tests, few)

    fails_are : left ≡ with_risk net old.fails d
    fails_are = fails ∙ failed net old.fails d parts.3 parts.2

    after : ◌≡◌ {A = Option State} (Some (record old { fails = with_risk net old.fails d })) (Some (record old { fails = left }))
    after = rw fails_are refl

    moment : is_moment_of net (record old { fails = left }) ≡ true
    moment =
        moment_from net (record old { fails = left }) parts.0 parts.1
        (ap (list_all (is_link net)) fails_are ∙ where_links net (λ e. has old.fails e || same_risk net d e))
        (ap is_rising fails_are ∙ union_rising (λ e. has old.fails e || same_risk net d e) _)

pub repairs_none : (net : Net) (k : ℕ) (old new : State) (d : LinkId) → has old.fails d ≡ false → TakesPlace net k old (Repair d) new (Some script.NotFailed)
repairs_none net k old new d h = (rw h refl, rw h refl)

pub repairs_now : (net : Net) (k : ℕ) (old : State) (left : List LinkId) (d : LinkId) → is_moment_of net old ≡ true → has old.fails d ≡ true
    → left ≡ outside old.fails (widened net (d ∷ [])) → TakesPlace net k old (Repair d) (record old { fails = left }) None
repairs_now net k old left d m h fails = (rw h refl, rw h after, moment)
  where
    parts : (is_link net old.link ≡ true) × (labels_known net old.header ≡ true) × (list_all (is_link net) old.fails ≡ true) × (is_rising old.fails ≡ true)
    parts = parts_of net old m

    fails_are : left ≡ without_risk net old.fails d
    fails_are = fails ∙ repaired net old.fails d parts.3 parts.2

    after : ◌≡◌ {A = Option State} (Some (record old { fails = without_risk net old.fails d })) (Some (record old { fails = left }))
    after = rw fails_are refl

    moment : is_moment_of net (record old { fails = left }) ≡ true
    moment =
        moment_from net (record old { fails = left }) parts.0 parts.1
        (ap (list_all (is_link net)) fails_are ∙ where_links net (λ e. has old.fails e && not (same_risk net d e)))
        (ap is_rising fails_are ∙ union_rising (λ e. has old.fails e && not (same_risk net d e)) _)

-- a step that has a cause isn't an event that may happen
not_usable : (net : Net) (k : ℕ) (now : State) (step : Step) (why : Cause) → hop_cause net now.fails (now.link, now.header) step ≡ Some why → after_event net (only k) now (Hop step) ≡ None
not_usable net k now step why some = go (is_usable net now.fails (now.link, now.header) step) (moved net (now.link, now.header) step) refl refl
  where
    go : (b : Bool) (o : Option Location) → is_usable net now.fails (now.link, now.header) step ≡ b → moved net (now.link, now.header) step ≡ o → after_event net (only k) now (Hop step) ≡ None
    go false o eb eo = rw eb refl
    go true None eb eo = rw (eb, eo) refl
    go true (Some next) eb eo = let bad : None ≡ Some why = sym ((hop_agrees net now.fails Arrives).none (now.link, now.header) step next eb eo) ∙ some in cc

pub hops_now : (net : Net) (k : ℕ) (old : State) (next : Location) (step : Step) → IsNetwork net → is_moment_of net old ≡ true → hop_cause net old.fails (old.link, old.header) step ≡ None → moved net (old.link, old.header) step ≡ Some next
    → TakesPlace net k old (Hop step) (record { link = next.0; header = next.1; fails = old.fails }) None
hops_now net k old next step n m none led = (rw none refl, rw ((hop_agrees net old.fails Arrives).passes (old.link, old.header) step none, led) refl, moment_from net _ known.0 known.1 parts.2 parts.3)
  where
    parts : (is_link net old.link ≡ true) × (labels_known net old.header ≡ true) × (list_all (is_link net) old.fails ≡ true) × (is_rising old.fails ≡ true)
    parts = parts_of net old m

    known : IsKnownPlace net next
    known = moved_known net old.link old.header step next n parts.1 led

pub hops_not : (net : Net) (k : ℕ) (old new : State) (step : Step) (why : Cause) → hop_cause net old.fails (old.link, old.header) step ≡ Some why → TakesPlace net k old (Hop step) new (Some (hop_words why))
hops_not net k old new step why some = (rw some refl, not_usable net k old step why some)

-- ---- event by event

-- what is left to play, behind states that are noted
abbrev pub noted : Net → ℕ → List State → State → List Event → Option (List State)
noted net k before now events = option_map (λ later. before ++ later) (states_of net k now events)

pub noted_next : (net : Net) (k : ℕ) (before : List State) (old new : State) (event : Event) (events : List Event) → after_event net (only k) old event ≡ Some new → noted net k before old (event ∷ events) ≡ noted net k (before ++ old ∷ []) new events
noted_next net k before old new event events h = rw h (go (states_of net k new events))
  where
    go : (o : Option (List State)) → option_map (λ later. before ++ later) (option_map (λ later. old ∷ later) o) ≡ option_map (λ later. (before ++ old ∷ []) ++ later) o
    go None = refl
    go (Some later) = ap Some (sym (append_assoc before (old ∷ []) later))

pub noted_none : (net : Net) (k : ℕ) (old : State) (event : Event) (events : List Event) → after_event net (only k) old event ≡ None → states_of net k old (event ∷ events) ≡ None
noted_none net k old event events h = rw h refl

pub refused_next : (net : Net) (k n : ℕ) (old new : State) (event : Event) (events : List Event) → event_cause net k old event ≡ None → after_event net (only k) old event ≡ Some new → first_refused net k n old (event ∷ events) ≡ first_refused net k (n + 1) new events
refused_next net k n old new event events none h = rw (none, first_refused) (rw h refl)

pub refused_here : (net : Net) (k n : ℕ) (old : State) (event : Event) (events : List Event) (why : ScriptCause) → event_cause net k old event ≡ Some why → first_refused net k n old (event ∷ events) ≡ Some (n, why)
refused_here net k n old event events why h = rw (h, first_refused) refl

all_more : (net : Net) (before : List State) (now : State) → list_all (is_state_of net) before ≡ true → is_state_of net now ≡ true → list_all (is_state_of net) (before ++ now ∷ []) ≡ true
all_more net [] now b n = rw n refl
all_more net (x ∷ before) now b n =
    let parts = and_parts (is_state_of net x) (list_all (is_state_of net) before) b in
    and_from (is_state_of net x) (list_all (is_state_of net) (before ++ now ∷ [])) parts.0 (all_more net before now parts.1 n)

pub states_more : (net : Net) (before : List State) (now : State) → list_all (is_state_of net) before ≡ true → is_moment_of net now ≡ true → list_all (is_state_of net) (before ++ now ∷ []) ≡ true
states_more net before now b m = all_more net before now b (state_of net now m)

pub noted_on : (net : Net) (k : ℕ) (before after : List State) (old new : State) (events : List Event) (i : ℕ) (d : Event) (whole : Option (List State)) → i < length events → after_event net (only k) old (get_or events i d) ≡ Some new → after ≡ before ++ old ∷ []
    → noted net k before old (drop i events) ≡ whole → noted net k after new (drop (i + 1) events) ≡ whole
noted_on net k before after old new events i d whole within led is h =
    let here : noted net k before old (get_or events i d ∷ drop (i + 1) events) ≡ whole = rw (drop_more events i d within) at h in
    rw is (sym (noted_next net k before old new (get_or events i d) (drop (i + 1) events) led) ∙ here)

pub refused_on : (net : Net) (k n m : ℕ) (old new : State) (events : List Event) (i : ℕ) (d : Event) (whole : Option (ℕ × ScriptCause)) → m ≡ n + 1 → i < length events → event_cause net k old (get_or events i d) ≡ None → after_event net (only k) old (get_or events i d) ≡ Some new
    → first_refused net k n old (drop i events) ≡ whole → first_refused net k m new (drop (i + 1) events) ≡ whole
refused_on net k n m old new events i d whole next within none led h =
    let here : first_refused net k n old (get_or events i d ∷ drop (i + 1) events) ≡ whole = rw (drop_more events i d within) at h in
    rw next (sym (refused_next net k n old new (get_or events i d) (drop (i + 1) events) none led) ∙ here)
