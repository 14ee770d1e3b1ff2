-- Which links are marked is which have a bypass, and which a detour.
use Rattle.std.proofs.Common.{◌≡◌, ℕ, Bool, true, false, not, ◌&&◌, ◌||◌, ◌==◌, nat_lt, List, [], ◌∷◌, ◌++◌, length, refl, ap, sym, ◌∙◌}
use Rattle.std.specs.List.{filter, list_any, list_all}
use Rattle.std.proofs.lemmas.Bool.{and_parts, and_from}
use Rattle.std.proofs.lemmas.List.Elements.{filter_agree}
use Rattle.wi_net.specs.declared.parts.LinkId.{LinkId}
use Rattle.wi_net.specs.declared.parts.Link.{Link}
use Rattle.wi_net.specs.Net.{Net, is_link, same_risk}
use Rattle.wi_net.proofs.SetLemmas.{same_link}
use Rattle.wi_plan.specs.declared.plan.Bypass.{Bypass}
use Rattle.wi_plan.specs.Plans.{is_bypass_of}
use Rattle.wi_detour.specs.Detours.{is_detour}
use Rattle.wi_bypass.specs.Bypasses.{is_without, is_protected}
use Rattle.wi_bypass.specs.private.Marks.{no_marks, are_within, is_marked, unmarked, marked_each, is_outside, marked_outside}
use Rattle.wi_bypass.proofs.InnerLemmas.{all_append}
use Rattle.wi_bypass.proofs.MarkLemmas.{none_marked, no_marks_length, marked_where_at, marked_where_length}

-- bypasses of a network are for links of it
pub all_within : (net : Net) (n : ℕ) (bypasses : List Bypass) → n ≡ length net.links → list_all (is_bypass_of net) bypasses ≡ true → are_within n bypasses ≡ true
all_within net n [] count h = refl
all_within net n (b ∷ bypasses) count h =
    let parts = and_parts (is_bypass_of net b) (list_all (is_bypass_of net) bypasses) h in
    let known : is_link net b.link ≡ true = (and_parts (is_link net b.link) _ parts.0).0 in
    and_from (nat_lt b.link.0 n) (are_within n bypasses) (ap (λ k. nat_lt b.link.0 k) count ∙ known) (all_within net n bypasses count parts.1)

-- marks that were just made are one for each link
pub fresh_length : (links : List Link) (n : ℕ) (m : List Bool) → m ≡ no_marks n → n ≡ length links → length m ≡ length links
fresh_length links n m is count = ap (λ (xs : List Bool). length xs) is ∙ no_marks_length n ∙ count

any_agree : (p q : Bypass → Bool) → ((b : Bypass) → p b ≡ q b) → (bypasses : List Bypass) → list_any p bypasses ≡ list_any q bypasses
any_agree p q same [] = refl
any_agree p q same (b ∷ bypasses) = ap (λ x. x || list_any p bypasses) (same b) ∙ ap (λ x. q b || x) (any_agree p q same bypasses)

any_append : (p : Bypass → Bool) (xs ys : List Bypass) → list_any p (xs ++ ys) ≡ (list_any p xs || list_any p ys)
any_append p [] ys = refl
any_append p (x ∷ xs) ys = ap (λ t. p x || t) (any_append p xs ys) ∙ assoc (p x) (list_any p xs) (list_any p ys)
  where
    assoc : (a b c : Bool) → (a || (b || c)) ≡ ((a || b) || c)
    assoc true b c = refl
    assoc false b c = refl

and_all : (b : Bool) → (b && true) ≡ b
and_all true = refl
and_all false = refl

within_none : (n : ℕ) (bypasses : List Bypass) → are_within n bypasses ≡ true → are_within (length (no_marks n)) bypasses ≡ true
within_none n bypasses h = ap (λ k. are_within k bypasses) (no_marks_length n) ∙ h

-- the links that no bypass is for
pub left_without : (n : ℕ) (bypasses : List Bypass) (links : List LinkId) → are_within n bypasses ≡ true → unmarked (marked_each (no_marks n) bypasses) links ≡ filter (is_without bypasses) links
left_without n bypasses links h = filter_agree (λ e. not (is_marked (marked_each (no_marks n) bypasses) e)) (is_without bypasses) agree links
  where
    agree : (e : LinkId) → not (is_marked (marked_each (no_marks n) bypasses) e) ≡ is_without bypasses e
    agree e =
        ap not (marked_where_at (λ _. true) (no_marks n) bypasses e (within_none n bypasses h)
        ∙ ap (λ x. x || list_any (λ (b : Bypass). (b.link.0 == e.0) && true) bypasses) (none_marked n e)
        ∙ any_agree (λ b. (b.link.0 == e.0) && true) (λ b. b.link.0 == e.0) (λ b. and_all (b.link.0 == e.0)) bypasses)

-- a bypass of a link that has no link of its risk group is a detour of it
outside_is : (net : Net) (e : LinkId) (b : Bypass) → is_bypass_of net b ≡ true → ((b.link.0 == e.0) && is_outside net b) ≡ ((b.link.0 == e.0) && is_detour net e b.via)
outside_is net e b h = go (b.link.0 == e.0) refl
  where
    go : (t : Bool) → (b.link.0 == e.0) ≡ t → (t && is_outside net b) ≡ (t && is_detour net e b.via)
    go false is = refl
    go true is =
        let same : b.link ≡ e = same_link b.link e is in
        let all : Bool = list_all (λ f. not (same_risk net b.link f)) b.via in
        ap (λ x. x && all) (sym h) ∙ ap (λ f. is_detour net f b.via) same

any_outside : (net : Net) (e : LinkId) (bypasses : List Bypass) → list_all (is_bypass_of net) bypasses ≡ true
    → list_any (λ (b : Bypass). (b.link.0 == e.0) && is_outside net b) bypasses ≡ is_protected net bypasses e
any_outside net e [] h = refl
any_outside net e (b ∷ bypasses) h =
    let parts = and_parts (is_bypass_of net b) (list_all (is_bypass_of net) bypasses) h in
    ap (λ x. x || list_any (λ (c : Bypass). (c.link.0 == e.0) && is_outside net c) bypasses) (outside_is net e b parts.0)
    ∙ ap (λ x. ((b.link.0 == e.0) && is_detour net e b.via) || x) (any_outside net e bypasses parts.1)

-- the links that have no detour among two lists of bypasses
pub left_unprotected : (net : Net) (n : ℕ) (own found : List Bypass) (links : List LinkId) → n ≡ length net.links → list_all (is_bypass_of net) own ≡ true → list_all (is_bypass_of net) found ≡ true
    → unmarked (marked_outside net (marked_outside net (no_marks n) own) found) links ≡ filter (λ e. not (is_protected net (own ++ found) e)) links
left_unprotected net n own found links count h k =
    filter_agree (λ e. not (is_marked after e)) (λ e. not (is_protected net (own ++ found) e)) agree links
  where
    before : List Bool
    before = marked_outside net (no_marks n) own

    after : List Bool
    after = marked_outside net before found

    test : LinkId → Bypass → Bool
    test = λ e b. (b.link.0 == e.0) && is_outside net b

    low : are_within (length before) found ≡ true
    low = ap (λ m. are_within m found) (marked_where_length (is_outside net) (no_marks n) own ∙ no_marks_length n) ∙ all_within net n found count k

    agree : (e : LinkId) → not (is_marked after e) ≡ not (is_protected net (own ++ found) e)
    agree e =
        ap not (marked_where_at (is_outside net) before found e low
        ∙ ap (λ x. x || list_any (test e) found)
        (marked_where_at (is_outside net) (no_marks n) own e (within_none n own (all_within net n own count h)) ∙ ap (λ x. x || list_any (test e) own) (none_marked n e))
        ∙ sym (any_append (test e) own found) ∙ any_outside net e (own ++ found) (all_append (is_bypass_of net) own found h k))
