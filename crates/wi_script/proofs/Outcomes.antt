-- What is found of a line's bytes is what it means, or why it is refused.
use Rattle.std.proofs.Common.{◌≡◌, ℕ, Bool, true, false, cond, map, List, [], ◌∷◌, Option, Some, None, Result, Ok, Err, refl, sym, ap, ap₂, subst, ◌∙◌}
use Rattle.std.specs.Str.{IsUtf8}
use Rattle.std.proofs.lemmas.Bool.{true≢false}
use Rattle.std.proofs.lemmas.Option.{none-some, same_Some, option_and_then_some}
use Rattle.wi_labels.specs.Header.{Entry, is_valid_header}
use Rattle.wi_net.specs.declared.parts.LinkId.{LinkId}
use Rattle.wi_net.specs.Net.{Net}
use Rattle.wi_world.specs.declared.world.Event.{Event}
use Rattle.wi_script.specs.declared.script.ScriptCause.{ScriptCause}
use Rattle.wi_script.specs.declared.script.ScriptCause.TheVariants.{NotAnEvent, UnknownName, BadHeader}
use Rattle.wi_script.specs.declared.script.ScriptRefused.{ScriptRefused}
use Rattle.wi_script.specs.declared.script.ScriptRefused.TheVariants.{BadLine, Memory}
use Rattle.wi_script.specs.Lines.{Name, Joint, Line, At, Fail, Repair, Hop, IsLine}
use Rattle.wi_script.specs.Scripts.{link_of, label_of, event_of, Begins, IsCause}
use Rattle.wi_script.specs.private.Reading.{start_in, event_in}
use Rattle.wi_script.specs.private.Meaning.{header_of, begin_of, valid, start_read, event_read, Starts, IsStart, IsEvent}
use Rattle.wi_script.proofs.Labels.{option_map_some}
use Rattle.wi_script.proofs.Forms.{IsWritten, start_some, start_on, event_some, event_on, one_way}

is_written : (first : Bool) (text : List ℕ) (line : Line) → IsLine first text line → IsWritten first text line
is_written first text line l = record { form = l.form; bytes = l.bytes }

pub written_one_way : (first : Bool) (text : List ℕ) (v w : Line) → IsLine first text v → IsLine first text w → v ≡ w
written_one_way first text v w a b = one_way first text v w (is_written first text v a) (is_written first text w b)

-- ---- headers

header_on : (net : Net) (names : List Name) (h : List Entry) → map (label_of net) names ≡ map Some h → header_of net names ≡ Some h
unfolding header_of
header_on net [] [] e = refl
header_on net [] (l ∷ h) e = cc
header_on net (n ∷ names) [] e = cc
header_on net (n ∷ names) (l ∷ h) e =
    let here : label_of net n ≡ Some l = cc in
    let below : map (label_of net) names ≡ map Some h = cc in
    rw here (rw (header_on net names h below) refl)

header_some : (net : Net) (names : List Name) (h : List Entry) → header_of net names ≡ Some h → map (label_of net) names ≡ map Some h
unfolding header_of
header_some net [] h e = ap (map Some) (same_Some [] h e)
header_some net (n ∷ names) h e =
    option_and_then_some _ (label_of net n) h e (λ l is e1.
    let more = option_map_some (λ below. l ∷ below) (header_of net names) h e1 in
    ap₂ (λ (x : Option Entry) (xs : List (Option Entry)). x ∷ xs) is (header_some net names more.0 more.1) ∙ ap (map Some) more.2)

-- ---- the first line

begins : (net : Net) (text : List ℕ) (start : Joint × List Name) (b : LinkId × List Entry) → IsLine true text (At start.0 start.1) → begin_of net start ≡ Some b → Begins net text b.0 b.1
unfolding begin_of
begins net text start b line e =
    option_and_then_some _ (link_of net start.0) b e (λ link is e1.
    option_and_then_some _ (header_of net start.1) b e1 (λ header are e2.
    subst (λ (x : LinkId × List Entry). Begins net text x.0 x.1) (same_Some (link, header) b e2)
    (record { joint = start.0; labels = start.1; line = line; link = is; header = header_some net start.1 header are })))

begin_on : (net : Net) (text : List ℕ) (start : Joint × List Name) (link : LinkId) (header : List Entry) → start_in text ≡ Some start → Begins net text link header → begin_of net start ≡ Some (link, header)
unfolding begin_of
begin_on net text start link header e b =
    let same : ◌≡◌ {A = Joint × List Name} (b.joint, b.labels) start = same_Some (b.joint, b.labels) start (sym (ap start_in b.line.bytes ∙ start_on b.joint b.labels b.line.form) ∙ e) in
    subst (λ x. begin_of net x ≡ Some (link, header)) same (rw b.link (rw (header_on net b.labels header b.header) refl))

no_start : (text : List ℕ) → start_in text ≡ None → (line : Line) → IsLine true text line → ⊥
no_start text e (At j labels) is = none-some (j, labels) (sym e ∙ ap start_in is.bytes ∙ start_on j labels is.form)
no_start text e (Fail j) is = true≢false (sym is.form)
no_start text e (Repair j) is = true≢false (sym is.form)
no_start text e (Hop group member) is = true≢false (sym is.form)

-- what a text is as the first line
abbrev pub Means : Net → List ℕ → Result (LinkId × List Entry) ScriptCause → Type 0
Means net text (Ok begin) = Begins net text begin.0 begin.1 × (is_valid_header begin.1 ≡ true)
Means net text (Err cause) = IsCause net true text cause

start_is : (net : Net) (text : List ℕ) → IsUtf8 text → Means net text (start_read net text)
unfolding start_read
start_is net text utf8 = by_form (start_in text) refl
  where
    line_is : (start : Joint × List Name) → start_in text ≡ Some start → IsLine true text (At start.0 start.1)
    line_is start e = let w : IsWritten true text (At start.0 start.1) = start_some text start e in record { utf8 = utf8; form = w.form; bytes = w.bytes }

    by_header : (b : LinkId × List Entry) → Begins net text b.0 b.1 → (t : Bool) → is_valid_header b.1 ≡ t → Means net text (cond t (Ok b) (Err BadHeader))
    by_header b begin true is = (begin, is)
    by_header b begin false is = (b.0, b.1, begin, is)

    by_names : (start : Joint × List Name) → start_in text ≡ Some start → (o : Option (LinkId × List Entry)) → begin_of net start ≡ o → Means net text (elim o [ None ↦ Err UnknownName | Some begin ↦ valid begin ])
    by_names start e None is = (At start.0 start.1, line_is start e, λ link header b. none-some (link, header) (sym is ∙ begin_on net text start link header e b))
    by_names start e (Some b) is = by_header b (begins net text start b (line_is start e) is) (is_valid_header b.1) refl

    by_form : (o : Option (Joint × List Name)) → start_in text ≡ o → Means net text (elim o [ None ↦ Err NotAnEvent | Some start ↦ elim (begin_of net start) [ None ↦ Err UnknownName | Some begin ↦ valid begin ] ])
    by_form None e = no_start text e
    by_form (Some start) e = by_names start e (begin_of net start) refl

pub start_means : (net : Net) (line text : List ℕ) (r : Result (LinkId × List Entry) ScriptRefused) → text ≡ line → IsUtf8 line → Starts r (start_read net text) → IsStart net line r
start_means net line text (Ok b) same utf8 e = subst (Means net line) (ap (start_read net) (sym same) ∙ e) (start_is net line utf8)
start_means net line text (Err (BadLine n cause)) same utf8 e = (e.0, subst (Means net line) (ap (start_read net) (sym same) ∙ e.1) (start_is net line utf8))
start_means net line text (Err Memory) same utf8 e = tt

-- ---- the other lines

event_is : (net : Net) (text : List ℕ) → IsUtf8 text → IsEvent net text (event_read net text)
unfolding event_read
event_is net text utf8 = by_form (event_in text) refl
  where
    line_is : (line : Line) → event_in text ≡ Some line → IsLine false text line
    line_is line e = let w : IsWritten false text line = event_some text line e in record { utf8 = utf8; form = w.form; bytes = w.bytes }

    by_names : (line : Line) → event_in text ≡ Some line → (o : Option Event) → event_of net line ≡ o → IsEvent net text (elim o [ None ↦ Err UnknownName | Some event ↦ Ok event ])
    by_names line e None is = (line, line_is line e, is)
    by_names line e (Some event) is = record { line = line; form = line_is line e; means = is }

    by_form : (o : Option Line) → event_in text ≡ o → IsEvent net text (elim o [ None ↦ Err NotAnEvent | Some line ↦ elim (event_of net line) [ None ↦ Err UnknownName | Some event ↦ Ok event ] ])
    by_form None e = λ line is. none-some line (sym e ∙ ap event_in is.bytes ∙ event_on line is.form)
    by_form (Some line) e = by_names line e (event_of net line) refl

pub event_means : (net : Net) (line text : List ℕ) (r : Result Event ScriptCause) → text ≡ line → IsUtf8 line → r ≡ event_read net text → IsEvent net line r
event_means net line text r same utf8 e = subst (IsEvent net line) (ap (event_read net) (sym same) ∙ sym e) (event_is net line utf8)
