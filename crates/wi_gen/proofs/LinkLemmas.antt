-- Links that are added to those before them.
use Rattle.std.proofs.Common.{◌≡◌, ℕ, zero, suc, ◌+◌, ◌<◌, ◌≤◌, Bool, true, false, ◌||◌, nat_eq, nat_lt, List, [], ◌∷◌, ◌++◌, length, map, Option, Some, None, Result, Ok, Err, refl, sym, ap, ◌∙◌, arith, add-one, length-append}
use Rattle.std.specs.Prelude.{codes, IsOk, OnOk}
use Rattle.std.specs.List.{list_any, range_with_len}
use Rattle.std.specs.Fmt.{decimal}
use Rattle.std.proofs.lemmas.Bool.{and_left, and_right, or_from, ne_eqb, lt-ltb}
use Rattle.std.proofs.lemmas.Fmt.{decimal_digit}
use Rattle.std.proofs.lemmas.List.{append-nil, append_assoc}
use Rattle.std.proofs.lemmas.List.Folds.{list_any-append}
use Rattle.std.proofs.lemmas.List.FromFn.{length-map-range_with_len, map-range_with_len_more}
use Rattle.wi_net.specs.declared.parts.RouterId.{RouterId}
use Rattle.wi_net.specs.declared.parts.LinkId.{LinkId}
use Rattle.wi_net.specs.declared.parts.Link.{Link}
use Rattle.wi_net.specs.declared.refused.BuildRefused.{BuildRefused}
use Rattle.wi_net.specs.Names.{is_name, place, with_name, number_of}
use Rattle.wi_net.specs.Ends.{is_out, is_in}
use Rattle.wi_net.specs.Finding.{find_router, out_place, in_place}
use Rattle.wi_net.specs.Builder.{Draft, ◌>>=◌, rule, found_or, add_link, link_ends, with_new_link}
use Rattle.wi_net.proofs.KeptLists.{none_from, is_nothing, given_is}
use Rattle.wi_gen.specs.Ring.{Ring, routers_of, link, entry, exit, s, t, r, further, forward, backward, forward_link, backward_link, interfaces, links_of}
use Rattle.wi_gen.specs.private.Ring.{IsRing, distance_of}
use Rattle.wi_gen.specs.private.Making.{net_with_links, with_links, forward_names, backward_names, forward_links, backward_links}
use Rattle.wi_gen.proofs.RangeLemmas.{none_in_range}
use Rattle.wi_gen.proofs.TurnLemmas.{turn_within, next_apart}
use Rattle.wi_gen.proofs.RouterLemmas.{r_place, s_place, t_place}

-- what gives something is no refusal
pub is_given : {A E : Type 0} (rules : Result A E) (x : A) → rules ≡ Ok x → IsOk rules
is_given rules x e = rw e refl

-- and what a call left where the rules gave something is that
pub left_is : {A B E F : Type 0} (result : Result A E) (rules : Result B F) (left x : B) → OnOk result (rules ≡ Ok left) → rules ≡ Ok x
    → OnOk result (left ≡ x)
left_is (Ok a) rules left x given e = given_is left x (sym given ∙ e)
left_is (Err a) rules left x given e = tt

-- a rule that holds lets the next be asked, and so does a thing that is there
pub rule_ok : {A E : Type 0} (refusal : E) (test : Bool) (rest : Unit {0} → Result A E) → test ≡ true → (rule refusal test >>= rest) ≡ rest tt
rule_ok refusal test rest e = rw e refl

pub found_ok : {A B E : Type 0} (refusal : E) (o : Option A) (v : A) (rest : A → Result B E) → o ≡ Some v → (found_or refusal o >>= rest) ≡ rest v
found_ok refusal o v rest e = rw e refl

-- what breaks no rule is added
ends_ok : (d : Draft) (from out to into : List ℕ) (f g : RouterId) → nat_lt (length d.net.links) 20000 ≡ true → is_name out ≡ true
    → is_name into ≡ true → find_router d.net from ≡ Some f → find_router d.net to ≡ Some g
    → out_place d.net f out ≡ None → in_place d.net g into ≡ None → link_ends d from out to into None ≡ Ok (f, g)
unfolding link_ends
ends_ok d from out to into f g few out_is in_is from_is to_is no_out no_in =
    rule_ok _ _ _ few ∙ rule_ok _ _ _ out_is ∙ rule_ok _ _ _ in_is ∙ found_ok _ _ f _ from_is ∙ found_ok _ _ g _ to_is ∙ rule_ok _ _ _
    (is_nothing _ no_out) ∙ rule_ok _ _ _ (is_nothing _ no_in)

link_ok : (d : Draft) (from out to into : List ℕ) (distance : ℕ) (f g : RouterId) → link_ends d from out to into None ≡ Ok (f, g)
    → add_link d from out to into distance None ≡ Ok (with_new_link d f out g into distance None)
unfolding add_link
link_ok d from out to into distance f g ends = rw ends refl

linked : (ring : Ring) (names mid after : List (List ℕ)) (links : List Link) (from to out : List ℕ) (f g n k : ℕ)
    → length links ≡ k → k < 20000 → is_name out ≡ true → place (routers_of ring) from ≡ Some f → place (routers_of ring) to ≡ Some g
    → out_place (net_with_links ring names links) (record { 0 = f }) out ≡ None → in_place (net_with_links ring names links) (record { 0 = g }) out ≡ None
    → with_name names out ≡ mid → with_name mid out ≡ after → number_of names out ≡ n → number_of mid out ≡ n
    → add_link (with_links ring names links) from out to out (distance_of ring (record { 0 = k })) None ≡ Ok (with_links ring after (links ++ link ring (record { 0 = k }) (record { 0 = f }) (record { 0 = g }) n ∷ []))
linked ring names mid after links from to out f g n k count few good from_is to_is no_out no_in put put_again number again =
    link_ok (with_links ring names links) from out to out (distance_of ring (record { 0 = k })) (record { 0 = f }) (record { 0 = g })
    (ends_ok (with_links ring names links) from out to out (record { 0 = f }) (record { 0 = g }) (lt-ltb (length links) 20000 (omega arith)) good good
    (rw from_is refl) (rw to_is refl) no_out no_in)
    ∙ rw (put, put_again, number, again, count) refl

-- ---- the links of the ring: from s and to t, and others
abbrev pub with_ends : Ring → List Link → List Link
with_ends ring more = link ring entry s (r 0) 0 ∷ link ring exit (r ring.path) t 1 ∷ more

abbrev forward_to : Ring → ℕ → List Link
forward_to ring n = map (forward_link ring) (range_with_len 0 n)

abbrev backward_to : Ring → ℕ → List Link
backward_to ring n = map (backward_link ring) (range_with_len 0 n)

-- one more of them
added : (ring : Ring) (names after : List (List ℕ)) (links more : List Link) (l : Link) → links ++ l ∷ [] ≡ more → names ≡ after
    → (let given : Result Draft BuildRefused = Ok (with_links ring names (with_ends ring links ++ l ∷ [])) in given ≡ Ok (with_links ring after (with_ends ring more)))
added ring names after links more l last named =
    ap (λ ls. Ok (with_links ring names (with_ends ring ls))) last ∙ ap (λ ns. Ok (with_links ring ns (with_ends ring more))) named

-- those from s and to t have interfaces of their own
none_with : (p : Link → Bool) (ring : Ring) (more : List Link) → p (link ring entry s (r 0) 0) ≡ false → p (link ring exit (r ring.path) t 1) ≡ false
    → list_any p more ≡ false → list_any p (with_ends ring more) ≡ false
none_with p ring more first second rest =
    or_from (p (link ring entry s (r 0) 0)) (p (link ring exit (r ring.path) t 1) || list_any p more) first
    (or_from (p (link ring exit (r ring.path) t 1)) (list_any p more) second rest)

none_both : (p : Link → Bool) (ring : Ring) (first second : List Link) → p (link ring entry s (r 0) 0) ≡ false
    → p (link ring exit (r ring.path) t 1) ≡ false → list_any p first ≡ false → list_any p second ≡ false
    → list_any p (with_ends ring (first ++ second)) ≡ false
none_both p ring first second a b c d =
    none_with p ring (first ++ second) a b (list_any-append p first second ∙ or_from (list_any p first) (list_any p second) c d)

-- ---- round the circle one way
forward_put : (i : ℕ) → (with_name (forward_names i) (codes "f") ≡ backward_names 0) × (number_of (forward_names i) (codes "f") ≡ 2)
forward_put zero = (refl, refl)
forward_put (suc i) = (refl, refl)

forward_out : (ring : Ring) (i : ℕ) → out_place (net_with_links ring (forward_names i) (with_ends ring (forward_to ring i))) (r i) (codes "f") ≡ None
forward_out ring zero = refl
forward_out ring (suc i) =
    let p : Link → Bool = is_out (r (suc i)) (record { 0 = 2 }) in
    none_from p (with_ends ring (forward_to ring (suc i)))
    (none_with p ring (forward_to ring (suc i)) (and_right _ _ refl) (and_right _ _ refl)
    (none_in_range p (forward_link ring) 0 (suc i)
    (λ j low high. and_left (nat_eq (2 + suc i) (2 + j)) _ (ne_eqb (2 + suc i) (2 + j) (λ e. absurd (omega arith))))))

forward_in : (ring : Ring) (i : ℕ) → i < ring.size
    → in_place (net_with_links ring (forward_names i) (with_ends ring (forward_to ring i))) (r (further ring i 1)) (codes "f") ≡ None
forward_in ring zero within = refl
forward_in ring (suc i) within =
    let p : Link → Bool = is_in (r (further ring (suc i) 1)) (record { 0 = 2 }) in
    none_from p (with_ends ring (forward_to ring (suc i)))
    (none_with p ring (forward_to ring (suc i)) (and_right _ _ refl) (and_right _ _ refl)
    (none_in_range p (forward_link ring) 0 (suc i)
    (λ j low high. and_left (nat_eq (2 + further ring (suc i) 1) (2 + further ring j 1)) _
    (ne_eqb (2 + further ring (suc i) 1) (2 + further ring j 1) (λ e. absurd (omega (arith, next_apart (suc i) j ring.size within (omega arith) (omega arith))))))))

pub forward_allowed : (d : Draft) (ring : Ring) (i j distance : ℕ) (e : LinkId) (from from_text to to_text : List ℕ) → IsRing ring → i < ring.size
    → d ≡ forward_links ring i
    → from_text ≡ codes "r" ++ decimal i → j ≡ further ring i 1 → to_text ≡ codes "r" ++ decimal j → from ≡ from_text → to ≡ to_text → e ≡ forward ring i → distance ≡ distance_of ring e
    → add_link d from (codes "f") to (codes "f") distance None ≡ Ok (forward_links ring (i + 1))
forward_allowed d ring i j distance e from from_text to to_text bounds within made from_is j_is to_is from_same to_same e_is far =
    rw (far, e_is, from_same, to_same, from_is, to_is, j_is, made)
    (linked ring (forward_names i) (backward_names 0) (backward_names 0) (with_ends ring (forward_to ring i)) (codes "r" ++ decimal i)
    (codes "r" ++ decimal (further ring i 1)) (codes "f") (2 + i) (2 + further ring i 1) 2 (2 + i)
    (let count = length-map-range_with_len (forward_link ring) 0 i in omega (arith, count)) (omega (arith, bounds.few)) refl
    (r_place ring i within bounds.few) (r_place ring (further ring i 1) (turn_within (i + 1) ring.size (omega arith)) bounds.few)
    (forward_out ring i) (forward_in ring i within) (forward_put i).0 refl (forward_put i).1 refl
    ∙ added ring (backward_names 0) (forward_names (i + 1)) (forward_to ring i) (forward_to ring (i + 1)) (forward_link ring i)
    (sym (map-range_with_len_more (forward_link ring) 0 i i (omega arith))) (rw add-one refl))

-- ---- round it the other way
backward_put : (i : ℕ) → (with_name (backward_names i) (codes "g") ≡ interfaces) × (number_of (backward_names i) (codes "g") ≡ 3)
backward_put zero = (refl, refl)
backward_put (suc i) = (refl, refl)

backward_out : (ring : Ring) (i : ℕ) → i < ring.size
    → out_place (net_with_links ring (backward_names i) (with_ends ring (forward_to ring ring.size ++ backward_to ring i))) (r (further ring i 1)) (codes "g") ≡ None
backward_out ring zero within = refl
backward_out ring (suc i) within =
    let p : Link → Bool = is_out (r (further ring (suc i) 1)) (record { 0 = 3 }) in
    none_from p (with_ends ring (forward_to ring ring.size ++ backward_to ring (suc i)))
    (none_both p ring (forward_to ring ring.size) (backward_to ring (suc i)) (and_right _ _ refl) (and_right _ _ refl)
    (none_in_range p (forward_link ring) 0 ring.size (λ j low high. and_right _ _ refl))
    (none_in_range p (backward_link ring) 0 (suc i)
    (λ j low high. and_left (nat_eq (2 + further ring (suc i) 1) (2 + further ring j 1)) _
    (ne_eqb (2 + further ring (suc i) 1) (2 + further ring j 1) (λ e. absurd (omega (arith, next_apart (suc i) j ring.size within (omega arith) (omega arith))))))))

backward_in : (ring : Ring) (i : ℕ)
    → in_place (net_with_links ring (backward_names i) (with_ends ring (forward_to ring ring.size ++ backward_to ring i))) (r i) (codes "g") ≡ None
backward_in ring zero = refl
backward_in ring (suc i) =
    let p : Link → Bool = is_in (r (suc i)) (record { 0 = 3 }) in
    none_from p (with_ends ring (forward_to ring ring.size ++ backward_to ring (suc i)))
    (none_both p ring (forward_to ring ring.size) (backward_to ring (suc i)) (and_right _ _ refl) (and_right _ _ refl)
    (none_in_range p (forward_link ring) 0 ring.size (λ j low high. and_right _ _ refl))
    (none_in_range p (backward_link ring) 0 (suc i)
    (λ j low high. and_left (nat_eq (2 + suc i) (2 + j)) _ (ne_eqb (2 + suc i) (2 + j) (λ e. absurd (omega arith))))))

both_count : (ring : Ring) (i : ℕ) → length (forward_to ring ring.size ++ backward_to ring i) ≡ ring.size + i
both_count ring i =
    length-append (forward_to ring ring.size) (backward_to ring i)
    ∙ omega (arith, length-map-range_with_len (forward_link ring) 0 ring.size, length-map-range_with_len (backward_link ring) 0 i)

pub backward_allowed : (d : Draft) (ring : Ring) (i j distance : ℕ) (e : LinkId) (from from_text to to_text : List ℕ) → IsRing ring → i < ring.size
    → d ≡ backward_links ring i
    → j ≡ further ring i 1 → from_text ≡ codes "r" ++ decimal j → to_text ≡ codes "r" ++ decimal i → from ≡ from_text → to ≡ to_text → e ≡ backward ring i → distance ≡ distance_of ring e
    → add_link d from (codes "g") to (codes "g") distance None ≡ Ok (backward_links ring (i + 1))
backward_allowed d ring i j distance e from from_text to to_text bounds within made j_is from_is to_is from_same to_same e_is far =
    rw (far, e_is, from_same, to_same, from_is, to_is, j_is, made)
    (linked ring (backward_names i) interfaces interfaces (with_ends ring (forward_to ring ring.size ++ backward_to ring i))
    (codes "r" ++ decimal (further ring i 1)) (codes "r" ++ decimal i) (codes "g") (2 + further ring i 1) (2 + i) 3 (2 + ring.size + i)
    (omega (arith, both_count ring i)) (omega (arith, bounds.few)) refl
    (r_place ring (further ring i 1) (turn_within (i + 1) ring.size (omega arith)) bounds.few) (r_place ring i within bounds.few)
    (backward_out ring i within) (backward_in ring i) (backward_put i).0 refl (backward_put i).1 refl
    ∙ added ring interfaces (backward_names (i + 1)) (forward_to ring ring.size ++ backward_to ring i)
    (forward_to ring ring.size ++ backward_to ring (i + 1)) (backward_link ring i)
    (append_assoc (forward_to ring ring.size) (backward_to ring i) (backward_link ring i ∷ []) ∙ ap (λ ls. forward_to ring ring.size ++ ls)
    (sym (map-range_with_len_more (backward_link ring) 0 i i (omega arith)))) (rw add-one refl))

-- ---- from s and to t
pub entry_allowed : (d : Draft) (ring : Ring) (distance : ℕ) → IsRing ring → d ≡ with_links ring [] [] → distance ≡ distance_of ring entry
    → add_link d (codes "s") (codes "o") (codes "r0") (codes "o") distance None ≡ Ok (with_links ring (codes "o" ∷ []) (link ring entry s (r 0) 0 ∷ []))
entry_allowed d ring distance bounds made far =
    rw (far, made)
    (linked ring [] (codes "o" ∷ []) (codes "o" ∷ []) [] (codes "s") (codes "r0") (codes "o") 0 2 0 0 refl (omega arith) refl
    (s_place ring) r0_place refl refl refl refl refl refl)
  where
    r0_place : place (routers_of ring) (codes "r0") ≡ Some 2
    r0_place = ap (λ ds. place (routers_of ring) (114 ∷ ds)) (sym (decimal_digit 0 (omega arith))) ∙ r_place ring 0 (omega (arith, bounds.within)) bounds.few

pub entry_added : (d after : Draft) (ring : Ring) (distance : ℕ) → IsRing ring → d ≡ with_links ring [] [] → distance ≡ distance_of ring entry
    → add_link d (codes "s") (codes "o") (codes "r0") (codes "o") distance None ≡ Ok after
    → after ≡ with_links ring (codes "o" ∷ []) (link ring entry s (r 0) 0 ∷ [])
entry_added d after ring distance bounds made far given =
    given_is after (with_links ring (codes "o" ∷ []) (link ring entry s (r 0) 0 ∷ [])) (sym given ∙ entry_allowed d ring distance bounds made far)

pub exit_allowed : (d : Draft) (ring : Ring) (distance m : ℕ) (from from_text : List ℕ) → IsRing ring
    → d ≡ with_links ring (codes "o" ∷ []) (link ring entry s (r 0) 0 ∷ []) → m ≡ ring.path → from_text ≡ codes "r" ++ decimal m → from ≡ from_text
    → distance ≡ distance_of ring exit → add_link d from (codes "x") (codes "t") (codes "x") distance None ≡ Ok (forward_links ring 0)
exit_allowed d ring distance m from from_text bounds made m_is from_is from_same far =
    rw (far, from_same, from_is, m_is, made)
    (linked ring (codes "o" ∷ []) (forward_names 0) (forward_names 0) (link ring entry s (r 0) 0 ∷ []) (codes "r" ++ decimal ring.path) (codes "t")
    (codes "x") (2 + ring.path) 1 1 1
    refl (omega arith) refl (r_place ring ring.path bounds.within bounds.few) (t_place ring) refl refl refl refl refl refl)

-- ---- all of them
forward_named : (i : ℕ) → 0 < i → forward_names i ≡ backward_names 0
forward_named zero some = absurd (omega arith)
forward_named (suc i) some = refl

backward_named : (i : ℕ) → 0 < i → backward_names i ≡ interfaces
backward_named zero some = absurd (omega arith)
backward_named (suc i) some = refl

pub all_forward : (d : Draft) (ring : Ring) (i n : ℕ) → IsRing ring → n ≡ ring.size → i ≤ n → n ≤ i → d ≡ forward_links ring i
    → d ≡ backward_links ring 0
all_forward d ring i n bounds whole low high made =
    let is : i ≡ ring.size = omega arith in
    made ∙ ap (forward_links ring) is
    ∙ ap (λ ns. with_links ring ns (with_ends ring (forward_to ring ring.size))) (forward_named ring.size (omega (arith, bounds.within)))
    ∙ ap (λ ls. with_links ring (backward_names 0) (with_ends ring ls)) (sym (append-nil (forward_to ring ring.size)))

pub all_backward : (d : Draft) (ring : Ring) (i n : ℕ) → IsRing ring → n ≡ ring.size → i ≤ n → n ≤ i → d ≡ backward_links ring i
    → d ≡ with_links ring interfaces (links_of ring)
all_backward d ring i n bounds whole low high made =
    let is : i ≡ ring.size = omega arith in
    made ∙ ap (backward_links ring) is ∙ ap (λ ns. with_links ring ns (links_of ring)) (backward_named ring.size (omega (arith, bounds.within)))
