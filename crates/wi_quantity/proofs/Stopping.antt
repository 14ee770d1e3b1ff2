-- Where a weights text stops being one.
use Rattle.std.proofs.Common.{◌≡◌, ℕ, ◌+◌, ◌<◌, ◌≤◌, Bool, true, false, ◌↔◌, List, [], ◌∷◌, Option, Some, None, map, refl, arith, ap, ◌∙◌, ◌⊎◌, inl, inr, subst}
use Rattle.std.specs.Str.{IsCharBoundary, IsUtf8}
use Rattle.std.proofs.lemmas.Str.{IsCharBoundary-start, IsCharBoundary-after_ascii, IsCharBoundary-from_rest, IsUtf8-drop}
use Rattle.wi_text.specs.private.Machines.{at_end, goes_on}
use Rattle.wi_text.specs.Prefixes.{IsFaultAt}
use Rattle.wi_text.proofs.Stops.{fault_at}
use Rattle.wi_quantity.specs.declared.written.Stage.{Stage}
use Rattle.wi_quantity.specs.declared.written.Stage.TheVariants.{Start, AfterZero, InNumber, AfterNumber, AfterStar, InWord, AfterWord}
use Rattle.wi_quantity.specs.Written.{Written, Reads, IsWeightsText, parts_of, terms_of, WrittenPart}
use Rattle.wi_quantity.specs.private.Syntax.{next_stage, next_after, may_end, stop}
use Rattle.wi_quantity.specs.private.Noting.{nothing, end_term, note_all}
use Rattle.wi_quantity.proofs.Classes.{wide_class, no_next}
use Rattle.wi_quantity.proofs.Readings.{text_reads}
use Rattle.wi_quantity.proofs.Residuals.{text_spelled}

-- a text with which each stage may end
completion : Stage → List ℕ
completion Start = 97 ∷ []
completion AfterZero = 42 ∷ 97 ∷ []
completion InNumber = 42 ∷ 97 ∷ []
completion AfterNumber = 42 ∷ 97 ∷ []
completion AfterStar = 97 ∷ []
completion InWord = []
completion AfterWord = []

completes : (p : Stage) (i : ℕ) → stop p i (completion p) ≡ None
unfolding completion
completes Start i = refl
completes AfterZero i = refl
completes InNumber i = refl
completes AfterNumber i = refl
completes AfterStar i = refl
completes InWord i = refl
completes AfterWord i = refl

-- a byte that leads on is ASCII
ascii : (p q : Stage) (b : ℕ) → next_after p b ≡ Some q → b < 128
ascii p q b e = by (wide b)
  where
    wide : (b : ℕ) → (b < 128) ⊎ (128 ≤ b)
    wide b = grind arith

    by : (b < 128) ⊎ (128 ≤ b) → b < 128
    by (inl h) = h
    by (inr h) = let none : next_after p b ≡ None = ap (next_stage p) (wide_class b h) ∙ no_next p in cc

-- a stop is so many bytes on, at a character
record IsStop (at : ℕ) (text : List ℕ) (k : ℕ) : Type 0 where
  pub count : ℕ
  pub is : k ≡ at + count
  pub whole : IsCharBoundary text count

stop_is : (p : Stage) (at : ℕ) (text : List ℕ) (k : ℕ) → IsUtf8 text → stop p at text ≡ Some k → IsStop at text k
stop_is p at [] k utf8 h = record { count = 0; is = ended (may_end p) h; whole = IsCharBoundary-start [] utf8 }
  where
    ended : (b : Bool) → at_end b at ≡ Some k → k ≡ at + 0
    ended true h = cc
    ended false h = let e : k ≡ at = cc in omega (arith, e)
stop_is p at (b ∷ text) k utf8 h = by (next_after p b) refl h (λ q u g. stop_is q (at + 1) text k u g)
  where
    by : (o : Option Stage) → next_after p b ≡ o → goes_on o at (λ q. stop q (at + 1) text) ≡ Some k → ((q : Stage) → IsUtf8 text → stop q (at + 1) text ≡ Some k → IsStop (at + 1) text k) → IsStop at (b ∷ text) k
    by None e g rest = record { count = 0; is = (let i : k ≡ at = cc in omega (arith, i)); whole = IsCharBoundary-start (b ∷ text) utf8 }
    by (Some q) e g rest = from (rest q past g)
      where
        small : b < 128
        small = ascii p q b e

        past : IsUtf8 text
        past = IsUtf8-drop (b ∷ text) 1 utf8 (IsCharBoundary-after_ascii (b ∷ text) 0 utf8 (omega arith) small)

        from : IsStop (at + 1) text k → IsStop at (b ∷ text) k
        from later = record {
          count = 1 + later.count;
          is = (let i = later.is in omega (arith, i));
          whole = IsCharBoundary-from_rest (b ∷ text) 1 later.count (omega arith) later.whole;
        }

accepts : (text : List ℕ) → IsWeightsText text ↔ (stop Start 0 text ≡ None)
accepts text = ((λ is. (text_reads text is.0 is.1).stops), text_spelled text)

pub fault_is : (text : List ℕ) (k : ℕ) → IsUtf8 text → stop Start 0 text ≡ Some k → IsFaultAt IsWeightsText text k
fault_is text k utf8 h = from (stop_is Start 0 text k utf8 h)
  where
    from : IsStop 0 text k → IsFaultAt IsWeightsText text k
    from at =
        let e : at.count ≡ k = (let i = at.is in omega (arith, i)) in
        fault_at next_after may_end (λ p. Unit {0}) (λ p q b r n. tt) (λ p i r. (completion p, completes p i)) IsWeightsText Start tt accepts text k (subst (IsCharBoundary text) e at.whole) h

-- a text that doesn't stop is written so, and these terms are noted
pub record IsNoted (text : List ℕ) (terms : List (List WrittenPart)) : Type 0 where
  pub written : Written
  pub reads : Reads text written
  pub terms_are : terms ≡ map parts_of (terms_of written)

pub noted_is : (text : List ℕ) (terms : List (List WrittenPart)) → stop Start 0 text ≡ None → terms ≡ (end_term (note_all nothing 0 text)).terms → IsNoted text terms
noted_is text terms h e = from (text_spelled text h)
  where
    from : IsWeightsText text → IsNoted text terms
    from (w, reads) = record { written = w; reads = reads; terms_are = e ∙ (text_reads text w reads).notes }
