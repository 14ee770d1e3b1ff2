-- What is asked of a ring, as it is written: the digits of the path's last router are a parameter.
use Rattle.std.proofs.Common.{◌≡◌, ℕ, ◌+◌, ◌/◌, ◌%◌, ◌<◌, ◌≤◌, Bool, true, false, nat_lt, codes, List, [], ◌∷◌, ◌++◌, length, None, refl, sym, ap, ◌∙◌, subst, inl, inr, arith}
use Rattle.std.specs.Prelude.{nat_le}
use Rattle.std.specs.List.{list_all}
use Rattle.std.specs.Str.{bytes_eq}
use Rattle.std.specs.Fmt.{decimal}
use Rattle.std.proofs.lemmas.Bool.{cases_lt, and_from}
use Rattle.std.proofs.lemmas.Bool.Decides.{nat_tests}
use Rattle.std.proofs.lemmas.Fmt.{decimal_digit, decimal_step}
use Rattle.std.proofs.lemmas.Slice.Eq.{bytes_eq-Decides}
use Rattle.wi_text.specs.Characters.{is_plain}
use Rattle.wi_syntax.specs.Names.{Named}
use Rattle.wi_syntax.specs.declared.token.Token.TheVariants as token
use Rattle.wi_syntax.specs.Tokens.{IsTokens}
use Rattle.wi_syntax.specs.declared.written.LabelAtom.TheVariants as label
use Rattle.wi_syntax.specs.declared.written.End.TheVariants as end
use Rattle.wi_syntax.specs.declared.written.Last.TheVariants.{Header}
use Rattle.wi_syntax.specs.declared.written.LinkAtom.{LinkAtom}
use Rattle.wi_syntax.specs.declared.written.LinkAtom.TheVariants as link
use Rattle.wi_syntax.specs.declared.written.Sign.TheVariants as sign
use Rattle.wi_syntax.specs.declared.written.Written.{Written}
use Rattle.wi_syntax.specs.Trees.{Tree, Leaf, Starred, Then}
use Rattle.wi_syntax.specs.Grammar.{plain, tokens_of, IsWritten}
use Rattle.wi_query.specs.Faults.{IsShort}
use Rattle.wi_gen.proofs.TextsTokens.{stands, spelled}

-- ---- the text, and its parts

abbrev pub router : List ℕ → List ℕ
router digits = codes "r" ++ digits

abbrev pub asked : List ℕ → List ℕ
asked digits = codes "<ip0> [s#r0] .* [r1#r0] .* [r" ++ digits ++ codes "#t] <ip0> 2"

abbrev pub link_between : Named → Named → LinkAtom
link_between from to = link.List false (record { from = end.Router from; to = end.Router to } ∷ [])

abbrev pub first_link : LinkAtom
first_link = link_between (plain 7 (codes "s")) (plain 9 (router (codes "0")))

abbrev pub back_link : LinkAtom
back_link = link_between (plain 17 (router (codes "1"))) (plain 20 (router (codes "0")))

abbrev pub last_link : List ℕ → LinkAtom
last_link digits = link_between (plain 28 (router digits)) (plain (30 + length digits) (codes "t"))

abbrev pub written : List ℕ → Written
written digits = record {
  first = sign.Atom (label.Name (plain 1 (codes "ip0"))) ∷ [];
  path =
      sign.Atom first_link ∷ sign.Atom link.Any ∷ sign.Star ∷ sign.Atom back_link ∷ sign.Atom link.Any ∷ sign.Star
      ∷ sign.Atom (last_link digits) ∷ [];
  last = Header (sign.Atom (label.Name (plain (34 + length digits) (codes "ip0"))) ∷ []);
  number = plain (39 + length digits) (codes "2");
  down = None;
  up = None;
}

-- ---- the text is written so

path_tree : List ℕ → Tree LinkAtom
path_tree digits =
    let any : Tree LinkAtom = Starred (Leaf link.Any) in
    Then (Then (Then (Then (Leaf first_link) any) (Leaf back_link)) any) (Leaf (last_link digits))

form : (digits : List ℕ) → IsWritten (written digits)
unfolding path_tree
form digits = record {
  first = (Leaf (label.Name (plain 1 (codes "ip0"))), refl, refl);
  path = (path_tree digits, refl, refl);
  last = (Leaf (label.Name (plain (34 + length digits) (codes "ip0"))), refl, refl);
  number = (refl, refl);
  down = tt;
  up = tt;
}

-- the name that has the digits stands where it says
abbrev last_stands : List ℕ → Bool
last_stands digits = stands 28 (token.Word (plain 28 (router digits))) [] (router digits) (codes "#t] <ip0> 2")

name_stands : (digits : List ℕ) → list_all is_plain digits ≡ true → last_stands digits ≡ true
name_stands digits are_plain =
    let some : nat_lt 0 (length (router digits)) ≡ true = grind (arith, nat_tests) in
    let same : bytes_eq digits digits ≡ true = (bytes_eq-Decides digits digits).1 refl in
    rw (same, some, are_plain) refl

-- and all else computes, where there is one digit, and where there are two
one_digit : (a : ℕ) → is_plain a ≡ true → IsTokens (tokens_of (written (a ∷ []))) (asked (a ∷ []))
one_digit a is =
    let named : last_stands (a ∷ []) ≡ true = name_stands (a ∷ []) (and_from (is_plain a) true is refl) in
    spelled (tokens_of (written (a ∷ []))) 0 (asked (a ∷ [])) (and_from (last_stands (a ∷ [])) true named refl)

two_digits : (a b : ℕ) → is_plain a ≡ true → is_plain b ≡ true → IsTokens (tokens_of (written (a ∷ b ∷ []))) (asked (a ∷ b ∷ []))
two_digits a b is too =
    let last : list_all is_plain (b ∷ []) ≡ true = and_from (is_plain b) true too refl in
    let both : list_all is_plain (a ∷ b ∷ []) ≡ true = and_from (is_plain a) (list_all is_plain (b ∷ [])) is last in
    let named : last_stands (a ∷ b ∷ []) ≡ true = name_stands (a ∷ b ∷ []) both in
    spelled (tokens_of (written (a ∷ b ∷ []))) 0 (asked (a ∷ b ∷ [])) (and_from (last_stands (a ∷ b ∷ [])) true named refl)

-- ---- for each number below a hundred

digit_is_plain : (b : ℕ) → 48 ≤ b → b ≤ 57 → is_plain b ≡ true
digit_is_plain b low high =
    let above : nat_le 48 b ≡ true = grind (arith, nat_tests) in
    let below : nat_le b 57 ≡ true = grind (arith, nat_tests) in
    rw (above, below) refl

small_number : (n : ℕ) → n < 10 → IsShort (asked ((48 + n) ∷ [])) (written ((48 + n) ∷ []))
small_number n low =
    let is : is_plain (48 + n) ≡ true = digit_is_plain (48 + n) (omega arith) (omega arith) in
    record { short = refl; reads = record { form = form ((48 + n) ∷ []); tokens = one_digit (48 + n) is } }

large_number : (m n : ℕ) → m < 10 → n < 10 → IsShort (asked ((48 + m) ∷ (48 + n) ∷ [])) (written ((48 + m) ∷ (48 + n) ∷ []))
large_number m n front last =
    let is : is_plain (48 + m) ≡ true = digit_is_plain (48 + m) (omega arith) (omega arith) in
    let too : is_plain (48 + n) ≡ true = digit_is_plain (48 + n) (omega arith) (omega arith) in
    record { short = refl; reads = record { form = form ((48 + m) ∷ (48 + n) ∷ []); tokens = two_digits (48 + m) (48 + n) is too } }

pub asked_is : (n : ℕ) → n < 100 → IsShort (asked (decimal n)) (written (decimal n))
asked_is n low = elim (cases_lt n 10) [
  | inl small ↦ subst (λ z. IsShort (asked z) (written z)) (sym (decimal_digit n small)) (small_number n small)
  | inr large ↦
      let front : decimal (n / 10) ≡ (48 + n / 10) ∷ [] = decimal_digit (n / 10) (omega arith) in
      let last : List ℕ = (48 + n % 10) ∷ [] in
      let is : decimal n ≡ (48 + n / 10) ∷ last = decimal_step n large (omega arith) ∙ ap (λ z. z ++ last) front in
      subst (λ z. IsShort (asked z) (written z)) (sym is) (large_number (n / 10) (n % 10) (omega arith) (omega arith))
]
