-- A text is a script in one way, and no script where a line has a fault; and one line of it has the first fault.
use Rattle.std.proofs.Common.{◌≡◌, ℕ, ◌+◌, inl, inr, Bool, true, false, map, List, [], ◌∷◌, ◌++◌, length, Option, Some, None, refl, sym, ap, subst, ◌∙◌}
use Rattle.std.proofs.lemmas.Bool.{true≢false}
use Rattle.std.proofs.lemmas.List.{append-nil}
use Rattle.wi_text.specs.Lines.{AreLines, lines_bytes, is_one_line}
use Rattle.wi_text.proofs.LineLemmas.{Begun, Same, Shorter, Longer, begun, ends, lines_begin, no_feed, not_nothing}
use Rattle.wi_labels.specs.Header.{Entry, is_valid_header}
use Rattle.wi_net.specs.declared.parts.LinkId.{LinkId}
use Rattle.wi_net.specs.Net.{Net}
use Rattle.wi_world.specs.declared.world.Event.{Event}
use Rattle.wi_script.specs.declared.script.Script.{Script}
use Rattle.wi_script.specs.declared.script.ScriptCause.{ScriptCause}
use Rattle.wi_script.specs.declared.script.ScriptCause.TheVariants.{NotAnEvent, UnknownName, BadHeader, AlreadyFailed, NotFailed, TooManyFailed, NoSuchGroup, NoSuchMember, NotFirstActive, LinkFailed, Undefined}
use Rattle.wi_script.specs.Lines.{Name, At}
use Rattle.wi_script.specs.Scripts.{label_of, event_of, Begins, Happens, AllHappen, IsScript, IsCause, AreFine, is_first, IsFaultLine, IsBadLine}
use Rattle.wi_script.proofs.Outcomes.{written_one_way}

-- ---- what a line means

header_one : (f : Name → Option Entry) (names : List Name) (g h : List Entry) → map f names ≡ map Some g → map f names ≡ map Some h → g ≡ h
header_one f [] [] [] a b = refl
header_one f [] [] (y ∷ h) a b = cc
header_one f [] (x ∷ g) h a b = cc
header_one f (n ∷ names) [] h a b = cc
header_one f (n ∷ names) (x ∷ g) [] a b = cc
header_one f (n ∷ names) (x ∷ g) (y ∷ h) a b =
    let one : map f names ≡ map Some g = cc in
    let other : map f names ≡ map Some h = cc in
    let below : g ≡ h = header_one f names g h one other in
    let first : f n ≡ Some x = cc in
    let again : f n ≡ Some y = cc in
    let both : Some x ≡ Some y = sym first ∙ again in
    let same : x ≡ y = cc in
    rw (same, below) refl

begins_one : (net : Net) (text : List ℕ) (e d : LinkId) (g h : List Entry) → Begins net text e g → Begins net text d h → (e ≡ d) × (g ≡ h)
begins_one net text e d g h a b =
    let line : At a.joint a.labels ≡ At b.joint b.labels = written_one_way true text (At a.joint a.labels) (At b.joint b.labels) a.line b.line in
    let joint : a.joint ≡ b.joint = cc in
    let labels : a.labels ≡ b.labels = cc in
    let link : Some e ≡ Some d = sym a.link ∙ rw joint b.link in
    (cc, header_one (label_of net) a.labels g h a.header (rw labels b.header))

happens_one : (net : Net) (text : List ℕ) (e d : Event) → Happens net text e → Happens net text d → e ≡ d
happens_one net text e d a b =
    let line : a.line ≡ b.line = written_one_way false text a.line b.line a.form b.form in
    let event : Some e ≡ Some d = sym a.means ∙ ap (event_of net) line ∙ b.means in
    cc

all_one : (net : Net) (texts : List (List ℕ)) (a b : List Event) → AllHappen net texts a → AllHappen net texts b → a ≡ b
all_one net [] [] [] one other = refl
all_one net [] [] (y ∷ b) one other = absurd other
all_one net [] (x ∷ a) b one other = absurd one
all_one net (t ∷ texts) [] b one other = absurd one
all_one net (t ∷ texts) (x ∷ a) [] one other = absurd other
all_one net (t ∷ texts) (x ∷ a) (y ∷ b) one other = rw (happens_one net t x y one.0 other.0, all_one net texts a b one.1 other.1) refl

pub script_one : (net : Net) (text : List ℕ) (s t : Script) → IsScript net text s → IsScript net text t → s ≡ t
script_one net text s t a b =
    let lines = lines_begin (a.first ∷ a.more) (b.first ∷ b.more) [] a.lines b.lines (sym a.bytes ∙ b.bytes ∙ sym (append-nil (lines_bytes (b.first ∷ b.more)))) in
    let same : a.first ∷ a.more ≡ b.first ∷ b.more = none lines.0 lines.1 lines.2 in
    let first : a.first ≡ b.first = cc in
    let more : a.more ≡ b.more = cc in
    let begin = begins_one net a.first s.first t.first s.header t.header a.begins (rw first b.begins) in
    let events = all_one net a.more s.events t.events a.events (rw more b.events) in
    equal s t begin.0 begin.1 events
  where
    none : (more : List (List ℕ)) → a.first ∷ a.more ≡ (b.first ∷ b.more) ++ more → [] ≡ lines_bytes more → a.first ∷ a.more ≡ b.first ∷ b.more
    none [] is e = is ∙ append-nil (b.first ∷ b.more)
    none (x ∷ more) is e = absurd (not_nothing x (lines_bytes more) e)

    of : LinkId → List Entry → List Event → Script
    of first header events = record { first = first; header = header; events = events }

    equal : (s t : Script) → s.first ≡ t.first → s.header ≡ t.header → s.events ≡ t.events → s ≡ t
    equal s t first header events = ap (λ x. of x s.header s.events) first ∙ ap (λ x. of t.first x s.events) header ∙ ap (λ x. of t.first t.header x) events

-- ---- faults

no_first : (net : Net) (text : List ℕ) (cause : ScriptCause) (e : LinkId) (h : List Entry) → IsCause net true text cause → Begins net text e h → is_valid_header h ≡ true → ⊥
no_first net text NotAnEvent e h c b valid = c (At b.joint b.labels) b.line
no_first net text UnknownName e h c b valid = c.2 e h b
no_first net text BadHeader e h c b valid = true≢false (sym valid ∙ ap is_valid_header (begins_one net text e c.0 h c.1 b c.2).1 ∙ c.3)
no_first net text AlreadyFailed e h c b valid = c
no_first net text NotFailed e h c b valid = c
no_first net text TooManyFailed e h c b valid = c
no_first net text NoSuchGroup e h c b valid = c
no_first net text NoSuchMember e h c b valid = c
no_first net text NotFirstActive e h c b valid = c
no_first net text LinkFailed e h c b valid = c
no_first net text (Undefined i) e h c b valid = c

no_other : (net : Net) (text : List ℕ) (cause : ScriptCause) (e : Event) → IsCause net false text cause → Happens net text e → ⊥
no_other net text NotAnEvent e c h = c h.line h.form
no_other net text UnknownName e c h =
    let line : h.line ≡ c.0 = written_one_way false text h.line c.0 h.form c.1 in
    some_none e (sym h.means ∙ ap (event_of net) line ∙ c.2)
  where
    some_none : (e : Event) → Some e ≡ None → ⊥
    some_none e is = cc
no_other net text BadHeader e c h = c
no_other net text AlreadyFailed e c h = c
no_other net text NotFailed e c h = c
no_other net text TooManyFailed e c h = c
no_other net text NoSuchGroup e c h = c
no_other net text NoSuchMember e c h = c
no_other net text NotFirstActive e c h = c
no_other net text LinkFailed e c h = c
no_other net text (Undefined i) e c h = c

-- a line among those that happen is an event
among : (net : Net) (before : List (List ℕ)) (line : List ℕ) (after : List (List ℕ)) (events : List Event) → AllHappen net (before ++ line ∷ after) events → (e : Event) × Happens net line e
among net [] line after [] all = absurd all
among net [] line after (e ∷ events) all = (e, all.0)
among net (first ∷ before) line after [] all = absurd all
among net (first ∷ before) line after (e ∷ events) all = among net before line after events all.1

-- a line with a cause is not among lines that have no fault
not_fine : (net : Net) (before : List (List ℕ)) (line : List ℕ) (after : List (List ℕ)) (cause : ScriptCause) → AreFine net (before ++ line ∷ after) → IsCause net (is_first before) line cause → ⊥
not_fine net [] line after cause fine c = no_first net line cause fine.0.0 fine.0.1 c fine.0.2 fine.0.3
not_fine net (y ∷ before) line after cause fine c =
    let event = among net before line after fine.1.0 fine.1.1 in
    no_other net line cause event.0 c event.1

-- nor has what is left behind such lines a fault, where the next one has none either
no_fault : (net : Net) (before : List (List ℕ)) (line : List ℕ) (after : List (List ℕ)) (rest left : List ℕ) (cause : ScriptCause) → AreFine net (before ++ line ∷ after) → is_one_line line ≡ true → left ≡ line ++ 10 ∷ rest → IsFaultLine net before left cause → ⊥
no_fault net before line after rest left cause fine one is (inl f) =
    let same = ends line f.0 rest f.1 one f.3 (sym is ∙ f.2) in
    not_fine net before line after cause fine (subst (λ x. IsCause net (is_first before) x cause) (sym same.0) f.4)
no_fault net before line after rest left cause fine one is (inr f) = no_feed line rest (subst (λ x. is_one_line x ≡ true) is f.0)

pub script_fine : (net : Net) (text : List ℕ) (s : Script) (n : ℕ) (cause : ScriptCause) → IsScript net text s → IsBadLine net text n cause → ⊥
script_fine net text s n cause a b =
    let cut = lines_begin (a.first ∷ a.more) b.before b.left a.lines b.lines (sym a.bytes ∙ b.bytes) in
    left b.before cut.0 b.left cut.1 cut.2 cut.3 b.fault
  where
    fine : AreFine net (a.first ∷ a.more)
    fine = ((s.first, s.header, a.begins, a.valid), (s.events, a.events))

    left : (before more : List (List ℕ)) (left : List ℕ) → a.first ∷ a.more ≡ before ++ more → left ≡ lines_bytes more → AreLines more → IsFaultLine net before left cause → ⊥
    left before [] rest is e are (inl f) = not_nothing f.0 f.1 (sym e ∙ f.2)
    left before [] rest is e are (inr f) = elim f.2 [ inl some ↦ some e | inr none ↦ empty before none is ]
      where
        empty : (before : List (List ℕ)) → before ≡ [] → a.first ∷ a.more ≡ before ++ [] → ⊥
        empty [] none is = cc
        empty (y ∷ before) none is = cc
    left before (line ∷ more) rest is e are f = no_fault net before line more (lines_bytes more) rest cause (subst (AreFine net) is fine) are.0 e f

-- ---- one first fault

-- a line has one cause
cause_first : (net : Net) (text : List ℕ) (c d : ScriptCause) → IsCause net true text c → IsCause net true text d → c ≡ d
cause_first net text NotAnEvent NotAnEvent a b = refl
cause_first net text NotAnEvent UnknownName a b = absurd (a b.0 b.1)
cause_first net text NotAnEvent BadHeader a b = absurd (a (At b.2.joint b.2.labels) b.2.line)
cause_first net text UnknownName NotAnEvent a b = absurd (b a.0 a.1)
cause_first net text UnknownName UnknownName a b = refl
cause_first net text UnknownName BadHeader a b = absurd (a.2 b.0 b.1 b.2)
cause_first net text BadHeader NotAnEvent a b = absurd (b (At a.2.joint a.2.labels) a.2.line)
cause_first net text BadHeader UnknownName a b = absurd (b.2 a.0 a.1 a.2)
cause_first net text BadHeader BadHeader a b = refl
cause_first net text NotAnEvent other a b = absurd b
cause_first net text UnknownName other a b = absurd b
cause_first net text BadHeader other a b = absurd b
cause_first net text cause other a b = absurd a

cause_other : (net : Net) (text : List ℕ) (c d : ScriptCause) → IsCause net false text c → IsCause net false text d → c ≡ d
cause_other net text NotAnEvent NotAnEvent a b = refl
cause_other net text NotAnEvent UnknownName a b = absurd (a b.0 b.1)
cause_other net text UnknownName NotAnEvent a b = absurd (b a.0 a.1)
cause_other net text UnknownName UnknownName a b = refl
cause_other net text NotAnEvent other a b = absurd b
cause_other net text UnknownName other a b = absurd b
cause_other net text cause other a b = absurd a

cause_one : (net : Net) (first : Bool) (text : List ℕ) (c d : ScriptCause) → IsCause net first text c → IsCause net first text d → c ≡ d
cause_one net true text c d a b = cause_first net text c d a b
cause_one net false text c d a b = cause_other net text c d a b

fault_one : (net : Net) (before : List (List ℕ)) (left : List ℕ) (c d : ScriptCause) → IsFaultLine net before left c → IsFaultLine net before left d → c ≡ d
fault_one net before left c d (inl f) (inl g) =
    let same = ends f.0 g.0 f.1 g.1 f.3 g.3 (sym f.2 ∙ g.2) in
    cause_one net (is_first before) g.0 c d (subst (λ x. IsCause net (is_first before) x c) same.0 f.4) g.4
fault_one net before left c d (inl f) (inr g) = absurd (no_feed f.0 f.1 (subst (λ x. is_one_line x ≡ true) f.2 g.0))
fault_one net before left c d (inr f) (inl g) = absurd (no_feed g.0 g.1 (subst (λ x. is_one_line x ≡ true) g.2 f.0))
fault_one net before left c d (inr f) (inr g) = f.1 ∙ sym g.1

pub fault_first : (net : Net) (text : List ℕ) (n m : ℕ) (c d : ScriptCause) → IsBadLine net text n c → IsBadLine net text m d → (n ≡ m) × (c ≡ d)
fault_first net text n m c d a b = by (begun a.before b.before a.left b.left a.lines b.lines (sym a.bytes ∙ b.bytes))
  where
    by : Begun a.before b.before a.left b.left → (n ≡ m) × (c ≡ d)
    by (Same lines left) = (a.number ∙ ap (λ (x : List (List ℕ)). length x + 1) lines ∙ sym b.number, fault_one net b.before b.left c d (subst (λ x. IsFaultLine net x b.left c) lines (subst (λ x. IsFaultLine net a.before x c) left a.fault)) b.fault)
    by (Shorter g) = absurd (no_fault net a.before g.line g.after g.rest a.left c (subst (AreFine net) g.longer_is b.fine) g.one g.left_is a.fault)
    by (Longer g) = absurd (no_fault net b.before g.line g.after g.rest b.left d (subst (AreFine net) g.longer_is a.fine) g.one g.left_is b.fault)
