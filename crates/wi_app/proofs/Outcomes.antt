-- From what is found to what the program does.
use Rattle.std.proofs.Common.{◌≡◌, ℕ, nat_eq, ◌⊎◌, inl, inr, true, false, List, [], ◌∷◌, Option, Some, None, Result, Ok, Err, refl, sym, ap, subst, ◌∙◌, arith}
use Rattle.std.specs.Prelude.{codes, IfOk}
use Rattle.std.specs.Option.{option_map}
use Rattle.wi_base.specs.declared.shelf.CallKind.TheVariants.{Fetch}
use Rattle.wi_base.specs.Shelf.{ShelfSeen}
use Rattle.wi_base.specs.Sink.{SinkSeen}
use Rattle.wi_base.specs.declared.sink.PutRefused.{PutRefused}
use Rattle.wi_base.specs.declared.sink.PutRefused.TheVariants.{Failed, Memory as NoMemory}
use Rattle.wi_net.specs.declared.bounds.Bounds.{Bounds}
use Rattle.wi_net.specs.declared.parts.LinkId.{LinkId}
use Rattle.wi_net.specs.Net.{Net}
use Rattle.wi_netjson.specs.Reading.{Fails}
use Rattle.wi_netjson.specs.declared.fault.NetFault.{NetFault}
use Rattle.wi_netjson.specs.declared.fault.NetFault.TheVariants as fault
use Rattle.wi_quantity.specs.Weighing.{components}
use Rattle.wi_policy.specs.declared.policy.Policy.{Policy}
use Rattle.wi_build.specs.Problems.{problem_of}
use Rattle.wi_words.specs.declared.Tested.{Tested}
use Rattle.wi_words.specs.Commands.{Command, Ask, Play, Gen, Protect, Stack, Audit, Bypass, Draw, command_of}
use Rattle.wi_words.specs.Shown.{shown}
use Rattle.wi_words.specs.declared.Command.{Command as Given}
use Rattle.wi_wire.specs.declared.refused.StackRefused.{StackRefused}
use Rattle.wi_wire.specs.declared.refused.StackRefused.TheVariants.{Cut, Reserved, Memory as StackMemory}
use Rattle.wi_outcome.specs.Edges.{Prints, Says, SaysWhy, kept, unprinted}
use Rattle.wi_outcome.specs.Texts.{status_of, text_of}
use Rattle.wi_outcome.specs.declared.printed.Printed.{Printed}
use Rattle.wi_outcome.specs.declared.refusal.Refusal.{Refusal}
use Rattle.wi_outcome.specs.declared.refusal.Refusal.TheVariants.{BadStack, CannotRead, CannotWrite, CannotWriteBelow, Memory, Network, NoMemoryBelow, NotHex, Overflow, TooLong}
use Rattle.wi_files.specs.Networks.{FileHasFault, FromNetwork, HoldsNetwork}
use Rattle.wi_make.specs.OnWire.{FromHex, IsHex, IsRefusedStack, ShowsNoStack}
use Rattle.wi_files.specs.Policies.{FromPoliciesOver}
use Rattle.wi_make.specs.Scripts.{FromScript}
use Rattle.wi_files.specs.Shelves.{AllStand, IsCalm, IsLeft, StandBut}
use Rattle.wi_files.proofs.Causes.{longer}
use Rattle.wi_ask.specs.Asked.{FromAsked}
use Rattle.wi_bypass.specs.Bypasses.{with_found}
use Rattle.wi_make.specs.Bypassing.{IsBypassed, left_unprotected, plan_status}
use Rattle.wi_app.specs.Audited.{EndsAudited, IsBrokenOff}
use Rattle.wi_ask.specs.Generated.{FromRing}
use Rattle.wi_app.specs.Run.{CanBeAnswered, Completes, CompletesBy, Does, DoesBy, FromCommand, FromWords, IsAnswered, IsCutShort, IsDone, IsRefused, IsStatus, IsStoredBy, TellsFor}
use Rattle.wi_ask.specs.Wanted.{FromWanted, IsStatusFor}
use Rattle.wi_app.proofs.Auditing.{policies_want, tests_end, tests_fail}
use Rattle.wi_ask.proofs.Ending.{Ends, ends_as, wanting}
use Rattle.wi_ask.proofs.Due.{given_ends, texts_want, wanted_ends}
use Rattle.wi_make.proofs.Playing.{script_wants}
use Rattle.wi_make.proofs.Protecting.{draft_due, plan_due}

-- ---- what is printed with the status 0

pub with_status_0 : (r : Result Printed Refusal) (P : List ℕ → Type 0) → IfOk r (λ printed. printed.status ≡ 0) → IfOk r (λ printed. P printed.text) → IfOk r (λ printed. P printed.text × (printed.status ≡ 0))
with_status_0 (Ok printed) P status shown = (shown, status)
with_status_0 (Err refusal) P status shown = tt

-- memory may run out whatever the words are
pub words_memory : (held : ShelfSeen) (command : Option Command) → FromWords held held command Memory
words_memory held None = refl
words_memory held (Some (Ask asking wanted)) = inl refl
words_memory held (Some (Play name script k)) = inl refl
words_memory held (Some (Gen seed size)) = (refl, tt)
words_memory held (Some (Protect name)) = inl refl
words_memory held (Some (Bypass name)) = inl refl
words_memory held (Some (Stack hex)) = (refl, tt)
words_memory held (Some (Audit auditing)) = inl refl
words_memory held (Some (Draw name)) = refl

-- ---- where all is fine, only memory is wanting

fails_not : (why : NetFault) (net : Net) → Fails why (Ok net) → why ≡ fault.Memory
fails_not fault.Memory net h = refl
fails_not (fault.NotJson p) net h = cc
fails_not (fault.WrongShape p) net h = cc
fails_not (fault.UnknownFormat p) net h = cc
fails_not (fault.BadName p) net h = cc
fails_not (fault.RepeatedRouter p) net h = cc
fails_not (fault.RepeatedLabel p) net h = cc
fails_not (fault.UnknownRouter p) net h = cc
fails_not (fault.InterfaceTaken p) net h = cc
fails_not (fault.UnknownInterface p) net h = cc
fails_not (fault.UnknownLabel p) net h = cc
fails_not (fault.RepeatedTable p) net h = cc
fails_not (fault.EmptyGroup p) net h = cc
fails_not (fault.BadOperation p) net h = cc
fails_not (fault.OverLimit p limit) net h = cc
fails_not (fault.BadNumber p) net h = cc

kept_is : (status : ℕ) → nat_eq status 10 ≡ false → kept status ≡ 11
kept_is status is = rw is refl

-- where what is said can't fail, it has its status, or that of want of memory
said : (text : List ℕ) (status : ℕ) (old new : SinkSeen) (result : ℕ) → nat_eq status 10 ≡ false → new.faults ≡ old.faults → Says text status old new result → (result ≡ status) ⊎ (result ≡ 11)
said text status old new result other calm s = elim s [
  | inl all ↦ inl all.1
  | inr rest ↦ elim rest [
    | inl part ↦ (let less = (part.0).fault in absurd (omega (arith, less, calm)))
    | inr nothing ↦ inr (nothing.1 ∙ kept_is status other)
  ]
]

said_why : (refusal : Refusal) (old new : SinkSeen) (result : ℕ) → nat_eq (status_of refusal) 10 ≡ false → new.faults ≡ old.faults → SaysWhy refusal old new result → (result ≡ status_of refusal) ⊎ (result ≡ 11)
said_why refusal old new result other calm s = elim s [
  | inl own ↦ said (text_of refusal) (status_of refusal) old new result other calm own
  | inr want ↦ (elim (said (codes "whatif: out of memory\n") 11 old new result refl calm want.1) [
    | inl e ↦ inr e
    | inr e ↦ inr e
  ])
]

-- a network's file has no fault
no_fault_in : (file : Option (List ℕ)) (net : Net) (why : NetFault) → HoldsNetwork file net → FileHasFault file why → why ≡ fault.Memory
no_fault_in None net why h has = elim h [ ]
no_fault_in (Some bytes) net why h has = fails_not why net (subst (λ (x : Result Net NetFault). Fails why x) h has)

network_wants : (old new : ShelfSeen) (name : List ℕ) (refusal : Refusal) (net : Net) → old.told ≡ true → HoldsNetwork (old.file name) net → IsCalm old new → FromNetwork old new name refusal → status_of refusal ≡ 11
network_wants old new name (CannotRead said) net t h calm cause = absurd (longer old.failed (Fetch, name) (sym cause.1 ∙ calm))
network_wants old new name (Network f) net t h calm cause = subst (λ (x : NetFault). status_of (Network x) ≡ 11) (sym (no_fault_in (old.file name) net f h (cause.1 t))) refl
network_wants old new name Memory net t h calm cause = refl
network_wants old new name refusal net t h calm cause = elim cause [ ]

-- a file is one network's
one_network : (file : Option (List ℕ)) (net other : Net) → HoldsNetwork file net → HoldsNetwork file other → net ≡ other
one_network None net other h k = elim h [ ]
one_network (Some bytes) net other h k = let both : Ok net ≡ Ok other = sym h ∙ k in cc

-- a ring is generated, unless what is asked of it isn't decided
ring_ends : (held : ShelfSeen) (seed size : ℕ) (refusal : Refusal) → FromRing seed size refusal → Ends (IsStatus held (Gen seed size)) refusal
ring_ends held seed size (Overflow w terms) cause = (refl, inr (inr (cause.0, cause.1, cause.2, cause.3, inl (refl, (components w, cause.4.0)))))
ring_ends held seed size (TooLong effort) cause = (refl, inr (inr (cause.0, cause.1, cause.2, cause.3, inr (refl, (effort, cause.4)))))
ring_ends held seed size Memory cause = (refl, inl refl)
ring_ends held seed size refusal cause = elim cause.4 [ ]

-- a text is read as bytes, unless these are none or begin with no stack
bad_stack_ends : (hex bytes : List ℕ) (refused : StackRefused) → IsHex hex bytes → IsRefusedStack bytes refused → (status_of (BadStack refused) ≡ 16) × ShowsNoStack hex
bad_stack_ends hex bytes StackMemory is cause = absurd (cause.due refl)
bad_stack_ends hex bytes (Cut i) is cause = (refl, inr (Cut i, bytes, is, cause))
bad_stack_ends hex bytes (Reserved i label) is cause = (refl, inr (Reserved i label, bytes, is, cause))

stack_ends : (held : ShelfSeen) (hex : List ℕ) (refusal : Refusal) → FromHex hex refusal → Ends (IsStatus held (Stack hex)) refusal
stack_ends held hex NotHex cause = (refl, inr (inr (refl, inl cause)))
stack_ends held hex (BadStack refused) cause = let due = bad_stack_ends hex cause.0 refused cause.1 cause.2 in (rw due.0 refl, inr (inr due))
stack_ends held hex Memory cause = (refl, inl refl)
stack_ends held hex refusal cause = elim cause [ ]

refused_ends : (old new : ShelfSeen) (command : Command) (refusal : Refusal) → TellsFor old command → CanBeAnswered old command → IsCalm old new → FromCommand old new command refusal → Ends (IsStatus old command) refusal
refused_ends old new (Ask asking wanted) refusal t can calm (inl network) = wanting (IsStatus old (Ask asking wanted)) refusal (network_wants old new asking.network refusal can.0 t can.1 calm network)
refused_ends old new (Ask asking wanted) refusal t can calm (inr cause) =
    let same : cause.0 ≡ can.0 = one_network (old.file asking.network) cause.0 can.0 (cause.1 t) can.1 in
    elim (subst (λ net. FromAsked (FromWanted wanted old new) old new net asking.query asking.weights refusal) same cause.2) [
      | inl bad ↦ wanting (IsStatus old (Ask asking wanted)) refusal (texts_want can.0 asking.query asking.weights can.2.0 can.2.1 refusal can.2.2 bad.0)
      | inr asked ↦
          ends_as (IsStatusFor wanted (problem_of can.0 asked.0 asked.1)) (IsStatus old (Ask asking wanted)) refusal (λ status ends. (can.0, can.1, (asked.0, asked.1, asked.2, asked.3, ends)))
          (wanted_ends wanted old new can.0 asking.query asking.weights can.2.0 asked.0 can.2.1 asked.1 refusal t calm can.2.2 can.2.3 asked.2 asked.4)
    ]
refused_ends old new (Play name script k) refusal t can calm (inl network) = wanting (IsStatus old (Play name script k)) refusal (network_wants old new name refusal can.0 t can.1 calm network)
refused_ends old new (Play name script k) refusal t can calm (inr cause) =
    let same : cause.0 ≡ can.0 = one_network (old.file name) cause.0 can.0 (cause.1 t) can.1 in
    wanting (IsStatus old (Play name script k)) refusal (script_wants old new can.0 script k can.2.0 can.2.1 refusal t can.2.2 can.2.3 calm (subst (λ net. FromScript old new net script k refusal) same cause.2))
refused_ends old new (Gen seed size) refusal t can calm cause = ring_ends old seed size refusal cause.1
refused_ends old new (Protect name) refusal t can calm (inl network) = wanting (IsStatus old (Protect name)) refusal (network_wants old new name refusal can.0 t can.1 calm network)
refused_ends old new (Protect name) refusal t can calm (inr cause) = elim (plan_due cause.0 refusal cause.2) [
  | inl want ↦ wanting (IsStatus old (Protect name)) refusal want
  | inr due ↦ (rw due.0 refl, inr (inr (due.0, (cause.0, cause.1 t, due.1))))
]
refused_ends old new (Bypass name) refusal t can calm (inl network) = wanting (IsStatus old (Bypass name)) refusal (network_wants old new name refusal can.0 t can.1 calm network)
refused_ends old new (Bypass name) refusal t can calm (inr cause) = elim (draft_due cause.0 refusal cause.2) [
  | inl want ↦ wanting (IsStatus old (Bypass name)) refusal want
  | inr due ↦ (rw due.0 refl, inr (inr (inr (due.0, (cause.0, cause.1 t, due.1)))))
]
refused_ends old new (Stack hex) refusal t can calm cause = stack_ends old hex refusal cause.1
refused_ends old new (Audit auditing) refusal t can calm (inl network) = wanting EndsAudited refusal (network_wants old new auditing.network refusal can.0 t (can.3.network_is t) calm network)
refused_ends old new (Audit auditing) refusal t can calm (inr cause) =
    let same : cause.0 ≡ can.0 = one_network (old.file auditing.network) cause.0 can.0 (cause.1 t) (can.3.network_is t) in
    wanting EndsAudited refusal
    (policies_want old new can.0 can.1 auditing.given auditing.policies can.2 refusal t can.3.given_is can.3.policies_are calm (subst (λ net. FromPoliciesOver old new net auditing.given auditing.policies refusal) same cause.2))
refused_ends old new (Draw name) refusal t can calm cause = wanting (IsStatus old (Draw name)) refusal (network_wants old new name refusal can.0 t can.1 calm cause)

-- so a command that can be answered ends with one of its statuses, or memory runs out
ended : (held : ShelfSeen) (command : Command) (status result : ℕ) → IsStatus held command status → (result ≡ status) ⊎ (result ≡ 11) → IsStatus held command result ⊎ (result ≡ 11)
ended held command status result ends r = elim r [
  | inl own ↦ inl (subst (λ n. IsStatus held command n) (sym own) ends)
  | inr want ↦ inr want
]

refused_completes : (command : Command) (shelf_old shelf_new : ShelfSeen) (out_old out_new err_old err_new : SinkSeen) (result : ℕ)
    → IsRefused (Some command) shelf_old shelf_new out_old out_new err_old err_new result → CompletesBy command shelf_old shelf_new out_old out_new err_old err_new result
refused_completes command shelf_old shelf_new out_old out_new err_old err_new result refused told can calm no_fault silent =
    let ends = refused_ends shelf_old shelf_new command refused.refusal told can calm refused.cause in
    let says = said_why refused.refusal err_old err_new result ends.0 silent refused.said in
    elim ends.1 [
      | inl want ↦ (elim says [
        | inl own ↦ inr (own ∙ want)
        | inr other ↦ inr other
      ])
      | inr due ↦ ended shelf_old command (status_of refused.refusal) result due says
    ]

-- the status of a plan that is printed
bypassed_ends : (old : ShelfSeen) (name : List ℕ) (status : ℕ) (text : List ℕ) → IsBypassed old name text status → IsStatus old (Bypass name) status
bypassed_ends old name status text answer = by_links (left_unprotected answer.2.net (with_found answer.2.plan answer.2.found)) answer.2.status_is
  where
    by_links : (links : List LinkId) → status ≡ plan_status links → IsStatus old (Bypass name) status
    by_links [] is = inl is
    by_links (e ∷ links) is = inr (inl is)

answered_ends : (old new : ShelfSeen) (command : Command) (status : ℕ) (text : List ℕ) → TellsFor old command → IsAnswered old new command status text → IsStatus old command status
answered_ends old new (Ask asking wanted) status text t answer =
    let asked = answer.2 in
    (answer.0, answer.1 t, (asked.0, asked.1, asked.2, asked.3, given_ends wanted old new (problem_of answer.0 asked.0 asked.1) status text asked.4))
answered_ends old new (Play name script k) status text t answer = answer.1
answered_ends old new (Gen seed size) status text t answer = inl answer.1
answered_ends old new (Protect name) status text t answer = inl answer.1
answered_ends old new (Bypass name) status text t answer = bypassed_ends old name status text answer
answered_ends old new (Stack hex) status text t answer = inl answer.1
answered_ends old new (Audit auditing) status text t answer = tests_end auditing.tested answer.0 answer.1 answer.2 text status answer.4
answered_ends old new (Draw name) status text t answer = answer.1

-- want of memory is said with its own status, or can't be
memory_said : (old new : SinkSeen) (result : ℕ) → new.faults ≡ old.faults → SaysWhy Memory old new result → result ≡ 11
memory_said old new result silent why = elim (said_why Memory old new result refl silent why) [
  | inl own ↦ own
  | inr want ↦ want
]

done_completes : (command : Command) (shelf_old shelf_new : ShelfSeen) (out_old out_new err_old err_new : SinkSeen) (result : ℕ)
    → IsDone (Some command) shelf_old shelf_new out_old out_new err_old err_new result → CompletesBy command shelf_old shelf_new out_old out_new err_old err_new result
done_completes command shelf_old shelf_new out_old out_new err_old err_new result done told can calm no_fault silent =
    let ends = answered_ends shelf_old shelf_new command done.status done.text told done.answered in
    elim done.printed [
      | inl all ↦ ended shelf_old command done.status result ends (inl all.2)
      | inr rest ↦ (elim rest [
        | inl part ↦ (let less = (part.0).fault in absurd (omega (arith, less, no_fault)))
        | inr nothing ↦ inr (memory_said err_old err_new result silent nothing.1)
      ])
    ]

cut_completes : (command : Command) (shelf_old shelf_new : ShelfSeen) (out_old out_new err_old err_new : SinkSeen) (result : ℕ)
    → IsCutShort (Some command) shelf_old shelf_new out_old out_new err_old err_new result → CompletesBy command shelf_old shelf_new out_old out_new err_old err_new result
cut_completes command shelf_old shelf_new out_old out_new err_old err_new result cut told can calm no_fault silent = inr (by_cause cut.auditing.tested cut.broken.0 cut.broken.1 cut.broken.2 cut.refused cut.broken.4 cut.said)
  where
    by_cause : (tested : Tested) (net : Net) (given : Bounds) (policies : List Policy) (refused : PutRefused) → IsBrokenOff tested net given policies refused out_old out_new → SaysWhy (unprinted refused) err_old err_new result → result ≡ 11
    by_cause tested net given policies Failed broken why = let less = tests_fail tested net given policies out_old out_new broken in absurd (omega (arith, less, no_fault))
    by_cause tested net given policies NoMemory broken why = memory_said err_old err_new result silent why

-- what is printed is what a command does
pub done_does : (command : Command) (shelf_old shelf_new : ShelfSeen) (out_old out_new err_old err_new : SinkSeen) (result status : ℕ) (text : List ℕ) → IsAnswered shelf_old shelf_new command status text → IsCalm shelf_old shelf_new
    → Prints status text out_old out_new err_old err_new result → DoesBy (Some command) shelf_old shelf_new out_old out_new err_old err_new result
done_does command shelf_old shelf_new out_old out_new err_old err_new result status text answered calm prints =
    inl (record { status = status; text = text; answered = answered; calm = calm; printed = prints })

-- and so is a refusal, whatever the words are
pub refused_does : (given : Option Command) (shelf_old shelf_new : ShelfSeen) (out err_old err_new : SinkSeen) (result : ℕ) (refusal : Refusal) → FromWords shelf_old shelf_new given refusal → IsLeft refusal shelf_old shelf_new
    → SaysWhy refusal err_old err_new result → DoesBy given shelf_old shelf_new out out err_old err_new result
refused_does given shelf_old shelf_new out err_old err_new result refusal cause left why =
    inr (inl (record { refusal = refusal; cause = cause; left = left; untouched = record { bytes = refl; calm = refl }; said = why }))

-- where all files stand, a refusal has left what it may
pub all_left : (refusal : Refusal) (old new : ShelfSeen) → AllStand old new → IsLeft refusal old new
all_left (CannotWrite name said) old new stand = λ other outside. stand other
all_left (CannotWriteBelow name said) old new stand = λ other outside. stand other
all_left (NoMemoryBelow name) old new stand = λ other outside. stand other
all_left refusal old new stand = stand

-- what is read from words is what they are
pub read_as : (words : List (List ℕ)) (found : Option Given) (command : Given) → found ≡ Some command → option_map shown found ≡ command_of words → Some (shown command) ≡ command_of words
read_as words found command is reads = sym (ap (option_map shown) is) ∙ reads

pub read_as_none : (words : List (List ℕ)) (found : Option Given) → found ≡ None → option_map shown found ≡ command_of words → None ≡ command_of words
read_as_none words found is reads = sym (ap (option_map shown) is) ∙ reads

pub does_as : (words : List (List ℕ)) (given : Option Command) (shelf_old shelf_new : ShelfSeen) (out_old out_new err_old err_new : SinkSeen) (result : ℕ) → given ≡ command_of words
    → DoesBy given shelf_old shelf_new out_old out_new err_old err_new result → Does words shelf_old shelf_new out_old out_new err_old err_new result
does_as words given shelf_old shelf_new out_old out_new err_old err_new result reads does = subst (λ c. DoesBy c shelf_old shelf_new out_old out_new err_old err_new result) reads does

pub others_as : (words : List (List ℕ)) (given : Option Command) (old new : ShelfSeen) → given ≡ command_of words → StandBut (IsStoredBy given) old new → StandBut (IsStoredBy (command_of words)) old new
others_as words given old new reads stand = subst (λ c. StandBut (IsStoredBy c) old new) reads stand

-- what a command does completes it
pub does_completes : (words : List (List ℕ)) (given : Option Command) (shelf_old shelf_new : ShelfSeen) (out_old out_new err_old err_new : SinkSeen) (result : ℕ)
    → given ≡ command_of words → DoesBy given shelf_old shelf_new out_old out_new err_old err_new result → Completes words shelf_old shelf_new out_old out_new err_old err_new result
does_completes words given shelf_old shelf_new out_old out_new err_old err_new result reads does command is told can calm no_fault silent =
    elim (subst (λ c. DoesBy c shelf_old shelf_new out_old out_new err_old err_new result) (reads ∙ is) does) [
      | inl done ↦ done_completes command shelf_old shelf_new out_old out_new err_old err_new result done told can calm no_fault silent
      | inr rest ↦ (elim rest [
        | inl refused ↦ refused_completes command shelf_old shelf_new out_old out_new err_old err_new result refused told can calm no_fault silent
        | inr cut ↦ cut_completes command shelf_old shelf_new out_old out_new err_old err_new result cut told can calm no_fault silent
      ])
    ]
