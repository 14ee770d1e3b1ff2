-- Texts and certificates.
use Rattle.std.specs.Prelude.{◌≡◌, ℕ, List, Ok, refl}
use Rattle.std.proofs.Common.{ap, ◌∙◌}
use Rattle.wi_cert.specs.declared.certificate.Certificate.{Certificate}
use Rattle.wi_cert.specs.declared.certificate.Place.TheVariants as places
use Rattle.wi_cert.specs.Reading.{decoded}
use Rattle.wi_cert.specs.Sheets.{sheet, certificates}
use Rattle.wi_cert.specs.Text.{lines_of, IsText}
use Rattle.wi_cert.proofs.Cases.{same_ok}
use Rattle.wi_cert.proofs.TellingLemmas.{lines_read}
use Rattle.wi_cert.proofs.CompleteLemmas.{all_lines}

-- The text of a certificate is decoded to it.
pub text_is_decoded : (c : Certificate) (bytes : List ℕ) → IsText c bytes → decoded certificates bytes ≡ Ok c
text_is_decoded c bytes t =
    let leads = all_lines c t.writable t.ranges in
    ap (decoded certificates) t.is ∙ lines_read certificates (lines_of c) (sheet places.Done c) c leads.free leads.fills refl

-- No two certificates have one text.
pub one_text : (c d : Certificate) (bytes : List ℕ) → IsText c bytes → IsText d bytes → c ≡ d
one_text c d bytes s t = same_ok (decoded certificates bytes) c d (text_is_decoded c bytes s) (text_is_decoded d bytes t)
