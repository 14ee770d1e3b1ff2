-- Lines that are taken are those of a certificate.
use Rattle.std.specs.Prelude.{◌≡◌, ℕ, List, [], ◌∷◌, ◌++◌, Option, Some, None, Ok, refl, codes, if◌then◌else◌}
use Rattle.std.specs.List.{flat_map}
use Rattle.std.specs.Option.{option_map_or}
use Rattle.std.specs.Str.{bytes_eq}
use Rattle.std.proofs.Common.{sym, ap, ◌∙◌, subst, append_assoc, append-nil}
use Rattle.wi_cert.specs.declared.certificate.Certificate.{Certificate}
use Rattle.wi_cert.specs.declared.certificate.Place.{Place}
use Rattle.wi_cert.specs.declared.certificate.Place.TheVariants as places
use Rattle.wi_cert.specs.declared.shown.Shown.{Shown}
use Rattle.wi_cert.specs.declared.shown.ShownPlace.{ShownPlace}
use Rattle.wi_cert.specs.declared.shown.ShownPlace.TheVariants.{Terms}
use Rattle.wi_cert.specs.declared.closed.Closed.{Closed}
use Rattle.wi_cert.specs.declared.closed.ClosedPlace.{ClosedPlace}
use Rattle.wi_cert.specs.declared.closed.ClosedPlace.TheVariants.{HeadCount}
use Rattle.wi_cert.specs.Shown.{certificate_front, title_line, shown_lines, titled, asked_shown}
use Rattle.wi_cert.specs.Closed.{closed_lines, asked_closed}
use Rattle.wi_cert.specs.Sheets.{Sheet, sheet, blank, asked, is_done, certificates}
use Rattle.wi_cert.specs.Reading.{decoded, filled}
use Rattle.wi_cert.specs.Text.{ended, lines_of, IsText}
use Rattle.wi_cert.proofs.Cases.{nothing, some_same, bind_some, map_some, if_some}
use Rattle.wi_cert.proofs.FormLemmas.{same_bytes, title_is}
use Rattle.wi_cert.proofs.ShownLemmas.{written_shown, IsGoodShown, IsWholeShown, StandsShown, shown_step}
use Rattle.wi_cert.proofs.ClosedLemmas.{written_closed, IsGoodClosed, IsWholeClosed, StandsClosed, closed_step}
use Rattle.wi_cert.proofs.TellingLemmas.{whole_lines}

abbrev title : Shown → List ℕ
title s = title_line certificate_front s.dropped

abbrev IsEmpty : Closed → Type 0
IsEmpty c = (c.heads ≡ []) × (c.pairs ≡ []) × (c.rows ≡ [])

-- the lines so far, and what they say
abbrev Stands : List (List ℕ) → Place → Certificate → Type 0
Stands lines places.Title c = (lines ≡ []) × (c.shown.steps ≡ []) × IsEmpty c.closed
Stands lines (places.Shown p) c = (lines ≡ written_shown certificate_front p c.shown) × IsGoodShown p c.shown × IsEmpty c.closed
Stands lines (places.Closed p) c = (lines ≡ title c.shown ∷ (shown_lines c.shown ++ written_closed p c.closed)) × IsWholeShown c.shown × IsGoodClosed c.shown p c.closed
Stands lines places.End c = (lines ≡ title c.shown ∷ (shown_lines c.shown ++ closed_lines c.closed)) × IsWholeShown c.shown × IsWholeClosed c.shown c.closed
Stands lines places.Done c = (lines ≡ lines_of c) × IsWholeShown c.shown × IsWholeClosed c.shown c.closed

abbrev StandsAt : List (List ℕ) → Sheet → Type 0
StandsAt lines s = Stands lines s.place s.certificate

after_shown : (lines before : List (List ℕ)) (line : List ℕ) (next : Option ShownPlace) (s : Shown) (c : Closed) → lines ≡ before → IsEmpty c → StandsShown certificate_front (before ++ line ∷ []) s next
    → Stands (lines ++ line ∷ []) (option_map_or places.Shown next (places.Closed HeadCount)) (record { shown = s; closed = c })
after_shown lines before line (Some p) s c e none h = (ap (λ x. x ++ line ∷ []) e ∙ h.0, h.1, none)
after_shown lines before line None s c e none h = (ap (λ x. x ++ line ∷ []) e ∙ h.0 ∙ ap (λ x. title s ∷ x) (sym (append-nil (shown_lines s))), h.1, none)

after_closed : (lines before : List (List ℕ)) (line : List ℕ) (next : Option ClosedPlace) (s : Shown) (c : Closed) → lines ≡ title s ∷ (shown_lines s ++ before) → IsWholeShown s → StandsClosed s (before ++ line ∷ []) c next
    → Stands (lines ++ line ∷ []) (option_map_or places.Closed next places.End) (record { shown = s; closed = c })
after_closed lines before line (Some p) s c e w h = (ap (λ x. x ++ line ∷ []) e ∙ ap (λ x. title s ∷ x) (append_assoc (shown_lines s) before (line ∷ []) ∙ ap (λ x. shown_lines s ++ x) h.0), w, h.1)
after_closed lines before line None s c e w h = (ap (λ x. x ++ line ∷ []) e ∙ ap (λ x. title s ∷ x) (append_assoc (shown_lines s) before (line ∷ []) ∙ ap (λ x. shown_lines s ++ x) h.0), w, h.1)

-- a line of the form asked carries on what the lines so far say
stands_on : (lines : List (List ℕ)) (p : Place) (c : Certificate) (line : List ℕ) (t : Sheet) → Stands lines p c → asked p c line ≡ Some t → StandsAt (lines ++ line ∷ []) t
stands_on lines places.Title c line t h e =
    let r = map_some (λ dropped. sheet (places.Shown Terms) (record c { shown = record c.shown { dropped = dropped } })) (titled certificate_front line) t e in
    subst (StandsAt (lines ++ line ∷ [])) r.2 (ap (λ x. x ++ line ∷ []) h.0 ∙ ap (λ l. l ∷ []) (title_is certificate_front line r.0 r.1), h.1, h.2)
stands_on lines (places.Shown p) c line t h e =
    let r = map_some (λ s. sheet (option_map_or places.Shown s.0 (places.Closed HeadCount)) (record c { shown = s.1 })) (asked_shown p c.shown line) t e in
    subst (StandsAt (lines ++ line ∷ [])) r.2 (after_shown lines (written_shown certificate_front p c.shown) line r.0.0 r.0.1 c.closed h.0 h.2 (shown_step certificate_front (written_shown certificate_front p c.shown) c.shown line p refl h.1 r.0 r.1))
stands_on lines (places.Closed p) c line t h e =
    let r = map_some (λ s. sheet (option_map_or places.Closed s.0 places.End) (record c { closed = s.1 })) (asked_closed c.shown p c.closed line) t e in
    subst (StandsAt (lines ++ line ∷ [])) r.2 (after_closed lines (written_closed p c.closed) line r.0.0 c.shown r.0.1 h.0 h.1 (closed_step c.shown (written_closed p c.closed) c.closed line p refl h.2 r.0 r.1))
stands_on lines places.End c line t h e =
    let r = if_some (bytes_eq line (codes "end")) (sheet places.Done c) t e in
    subst (StandsAt (lines ++ line ∷ [])) r.1 (ap (λ x. x ++ line ∷ []) h.0 ∙ ap (λ l. title c.shown ∷ (shown_lines c.shown ++ closed_lines c.closed) ++ l ∷ []) (same_bytes line (codes "end") r.0) ∙ ap (λ x. title c.shown ∷ x) (append_assoc (shown_lines c.shown) (closed_lines c.closed) (codes "end" ∷ [])), h.1, h.2)
stands_on lines places.Done c line t h e = nothing t e

stands_filled : (more before : List (List ℕ)) (s t : Sheet) → StandsAt before s → filled certificates s more ≡ Some t → StandsAt (before ++ more) t
stands_filled [] before s t h e = subst (λ x. StandsAt x t) (sym (append-nil before)) (subst (StandsAt before) (some_same s t e) h)
stands_filled (line ∷ more) before s t h e =
    let r = bind_some (λ u. filled certificates u more) (asked s.place s.certificate line) t e in
    subst (λ x. StandsAt x t) (append_assoc before (line ∷ []) more) (stands_filled more (before ++ line ∷ []) r.0 t (stands_on before s.place s.certificate line r.0 h r.1) r.2)

-- a certificate is made where no line is to come
done_is : (p : Place) (c d : Certificate) → (if is_done p then Some c else None) ≡ Some d → sheet p c ≡ sheet places.Done d
done_is places.Done c d h = ap (sheet places.Done) (some_same c d h)
done_is places.Title c d h = nothing d h
done_is (places.Shown p) c d h = nothing d h
done_is (places.Closed p) c d h = nothing d h
done_is places.End c d h = nothing d h

-- What is decoded has the bytes as its text.
pub decoded_is_text : (c : Certificate) (bytes : List ℕ) → decoded certificates bytes ≡ Ok c → IsText c bytes
decoded_is_text c bytes h =
    let w = whole_lines certificates bytes c h in
    let s = subst (StandsAt w.lines) (done_is w.sheet.place w.sheet.certificate c w.made) (stands_filled w.lines [] blank w.sheet (refl, refl, (refl, refl, refl)) w.good) in
    record {
      writable = record { shown = s.1.shown; closed = s.2.closed };
      ranges = record { shown = s.1.ranges; closed = s.2.ranges };
      is = w.is ∙ ap (flat_map ended) s.0;
    }
