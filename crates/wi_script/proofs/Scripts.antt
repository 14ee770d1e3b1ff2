-- A script is its lines one after another.
use Rattle.std.proofs.Common.{◌≡◌, ℕ, inl, inr, List, [], ◌∷◌, ◌++◌, Some, Result, Ok, Err, length, refl, sym, ap, subst, ◌∙◌, arith}
use Rattle.std.specs.Result.{IfErr, IsErrAnd}
use Rattle.std.proofs.lemmas.List.{append_assoc}
use Rattle.wi_text.specs.Lines.{IsCutAt, lines_bytes}
use Rattle.wi_text.proofs.LineLemmas.{lines_append, bytes_append}
use Rattle.wi_labels.specs.Header.{Entry}
use Rattle.wi_net.specs.declared.parts.LinkId.{LinkId}
use Rattle.wi_net.specs.Net.{Net}
use Rattle.wi_world.specs.declared.world.Event.{Event}
use Rattle.wi_script.specs.declared.script.Script.{Script}
use Rattle.wi_script.specs.declared.script.ScriptRefused.{ScriptRefused}
use Rattle.wi_script.specs.declared.script.ScriptRefused.TheVariants.{BadLine, Memory}
use Rattle.wi_script.specs.Scripts.{Happens, AllHappen, IsFaultLine, IsNoScript}
use Rattle.wi_script.specs.private.Meaning.{IsStart, IsEvent, AreEvents, IsNoEvent, IsRest}

-- ---- lists of events

happen_append : (net : Net) (before : List (List ℕ)) (events : List Event) (line : List ℕ) (event : Event) → AllHappen net before events → Happens net line event → AllHappen net (before ++ line ∷ []) (events ++ event ∷ [])
happen_append net [] [] line event all here = (here, tt)
happen_append net [] (e ∷ events) line event all here = absurd all
happen_append net (first ∷ before) [] line event all here = absurd all
happen_append net (first ∷ before) (e ∷ events) line event all here = (all.0, happen_append net before events line event all.1 here)

as_many : (net : Net) (before : List (List ℕ)) (events : List Event) → AllHappen net before events → length before ≡ length events
as_many net [] [] all = refl
as_many net [] (e ∷ events) all = absurd all
as_many net (first ∷ before) [] all = absurd all
as_many net (first ∷ before) (e ∷ events) all = omega (arith, as_many net before events all.1)

-- ---- the lines behind the first

pub events_more : (net : Net) (bytes : List ℕ) (events pushed : List Event) (left line rest : List ℕ) (event : Event) → AreEvents net bytes events left → IsCutAt left (Some (line, rest)) → IsEvent net line (Ok event) → pushed ≡ events ++ event ∷ [] → AreEvents net bytes pushed rest
events_more net bytes events pushed left line rest event are cut happens is =
    subst (λ x. AreEvents net bytes x rest) (sym is)
    (record {
      before = are.before ++ line ∷ [];
      lines = lines_append are.before line are.lines cut.1;
      bytes_are = are.bytes_are ∙ ap (λ x. lines_bytes are.before ++ x) cut.0 ∙ sym (bytes_append are.before line rest);
      happen = happen_append net are.before events line event are.happen happens;
    })

-- ---- the whole

pub refused_later : (net : Net) (bytes line rest : List ℕ) (link : LinkId) (header : List Entry) (refused : ScriptRefused) → IsCutAt bytes (Some (line, rest)) → IsStart net line (Ok (link, header)) → IsRest net rest (Err refused) → IsNoScript net bytes refused
refused_later net bytes line rest link header (BadLine n cause) cut start more =
    let are : AreEvents net rest more.0 more.1 = more.2 in
    record {
      before = line ∷ are.before;
      lines = (cut.1, are.lines);
      fine = ((link, header, start.0, start.1), (more.0, are.happen));
      number = more.3 ∙ omega (arith, as_many net are.before more.0 are.happen);
      left = more.1;
      bytes = cut.0 ∙ ap (λ x. line ++ 10 ∷ x) are.bytes_are ∙ sym (append_assoc line (10 ∷ lines_bytes are.before) more.1);
      fault = fault more.4;
    }
  where
    fault : {left : List ℕ} {before : List (List ℕ)} → IsNoEvent net left cause → IsFaultLine net (line ∷ before) left cause
    fault (inl (text, more, is, one, because)) = inl (text, more, is, one, because)
    fault (inr (one, is, some)) = inr (one, is, inl some)
refused_later net bytes line rest link header Memory cut start more = tt

pub refused_as : (net : Net) (bytes : List ℕ) (r : Result Script ScriptRefused) (refused : ScriptRefused) → IsErrAnd r (λ e. e ≡ refused) → IsNoScript net bytes refused → IfErr r (λ e. IsNoScript net bytes e)
refused_as net bytes (Ok script) refused h is = tt
refused_as net bytes (Err e) refused h is = subst (IsNoScript net bytes) (sym h) is
