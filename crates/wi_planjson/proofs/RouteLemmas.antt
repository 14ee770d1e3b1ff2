-- Links that are joined, and links that stand twice.
use Rattle.std.proofs.Common.{◌≡◌, ℕ, suc, ◌+◌, ◌-◌, ◌<◌, ◌≤◌, Bool, true, false, not, ◌&&◌, ◌==◌, List, [], ◌∷◌, ◌++◌, drop, length, slice_get, get_or, Some, None, Option, refl, sym, ap, ◌∙◌, add-one, arith}
use Rattle.std.specs.Prelude.{is_none, is_some}
use Rattle.std.specs.List.{list_any}
use Rattle.std.proofs.Math.Seq.{drop-cons}
use Rattle.indexmap.specs.IndexSet.{insert_key}
use Rattle.wi_net.specs.declared.parts.Link.{Link}
use Rattle.wi_net.specs.declared.parts.LinkId.{LinkId}
use Rattle.wi_net.specs.Net.{Net}
use Rattle.wi_net.specs.LinkSet.{has}
use Rattle.wi_net.proofs.KeptLists.{same_flip}
use Rattle.wi_plan.specs.Plans.{meets, is_joined, is_around, first_of, last_of}
use Rattle.wi_planjson.specs.Routes.{break_from, first_break, repeat_from}

-- the first and the last of links, by their places
pub first_is : (links : List LinkId) → slice_get links 0 ≡ first_of links
first_is [] = refl
first_is (e ∷ links) = refl

pub last_is : (links : List LinkId) → slice_get links (length links - 1) ≡ last_of links
last_is [] = refl
last_is (e ∷ []) = refl
last_is (e ∷ f ∷ links) =
    let more : length (e ∷ f ∷ links) - 1 ≡ suc (length (f ∷ links) - 1) = omega arith in
    rw more (last_is (f ∷ links))

-- one link isn't broken
pub break_done : (net : Net) (j : ℕ) (links : List LinkId) → length links ≤ 1 → break_from net j links ≡ None
break_done net j [] le = refl
break_done net j (e ∷ []) le = refl
break_done net j (e ∷ f ∷ links) le = absurd (omega (arith, le))

-- a break is found where links aren't joined
pub break_is : (net : Net) (j : ℕ) (links : List LinkId) → is_none (break_from net j links) ≡ is_joined net links
break_is net j [] = refl
break_is net j (e ∷ []) = refl
break_is net j (e ∷ f ∷ links) = go (meets net e f) refl (break_is net (j + 1) (f ∷ links))
  where
    go : (b : Bool) → meets net e f ≡ b → is_none (break_from net (j + 1) (f ∷ links)) ≡ is_joined net (f ∷ links) → is_none (break_from net j (e ∷ f ∷ links)) ≡ is_joined net (e ∷ f ∷ links)
    go true e1 ih = rw e1 ih
    go false e1 ih = rw e1 refl

-- a link is in a set, by its keys
pub has_key : (e : LinkId) (s : List LinkId) → list_any (λ k. e.0 == k.0) s ≡ has s e
has_key e [] = refl
has_key e (x ∷ s) = rw (same_flip e.0 x.0, has_key e s) refl

-- the links from one on begin with it
at_one : (links : List LinkId) (j : ℕ) (d : LinkId) → j < length links → drop j links ≡ get_or links j d ∷ drop (j + 1) links
at_one links j d lt = rw (add-one, drop-cons links j d lt) refl

is_there : (b : Bool) → false ≡ not b → b ≡ true
is_there true e = refl
is_there false e = e

is_new : (b : Bool) → true ≡ not b → b ≡ false
is_new true e = e
is_new false e = refl

-- a link that stands before
pub repeat_here : (before links : List LinkId) (j : ℕ) (d : LinkId) (total : Option ℕ) → j < length links → false ≡ not (list_any (λ k. (get_or links j d).0 == k.0) before)
    → repeat_from before j (drop j links) ≡ total → Some j ≡ total
repeat_here before links j d total lt there so_far =
    let again : has before (get_or links j d) ≡ true = sym (has_key (get_or links j d) before) ∙ is_there _ there in
    let here : repeat_from before j (drop j links) ≡ Some j = rw (at_one links j d lt, again) refl in
    sym here ∙ so_far

-- a link that doesn't
pub repeat_past : (before after links : List LinkId) (j : ℕ) (d : LinkId) (total : Option ℕ) → j < length links → true ≡ not (list_any (λ k. (get_or links j d).0 == k.0) before)
    → after ≡ insert_key (λ a b. a.0 == b.0) before (get_or links j d) → repeat_from before j (drop j links) ≡ total → repeat_from after (j + 1) (drop (j + 1) links) ≡ total
repeat_past before after links j d total lt free made so_far =
    let absent : list_any (λ k. (get_or links j d).0 == k.0) before ≡ false = is_new _ free in
    let new : has before (get_or links j d) ≡ false = sym (has_key (get_or links j d) before) ∙ absent in
    let plain : after ≡ before ++ get_or links j d ∷ [] = made ∙ rw absent refl in
    let here : repeat_from before j (drop j links) ≡ repeat_from (before ++ get_or links j d ∷ []) (j + 1) (drop (j + 1) links) = rw (at_one links j d lt, new) refl in
    rw plain (sym here ∙ so_far)

-- that nothing was found
none_is : (o : Option ℕ) (b : Bool) → is_some o ≡ not b → b ≡ is_none o
none_is (Some n) true e = cc
none_is (Some n) false e = refl
none_is None true e = refl
none_is None false e = cc

-- a way around, by its first break and its ends
pub around_so : (net : Net) (e : LinkId) (via : List LinkId) (o : Option ℕ) (b around : Bool) → o ≡ first_break net via → is_some o ≡ not b → b ≡ true → around ≡ is_around net e via → around ≡ (is_joined net via && is_around net e via)
around_so net e via o b around found none is at =
    let joined : is_joined net via ≡ true = sym (break_is net 0 via) ∙ ap is_none (sym found) ∙ sym (none_is o b none) ∙ is in
    rw joined at

pub around_not : (net : Net) (e : LinkId) (via : List LinkId) (o : Option ℕ) (b : Bool) → o ≡ first_break net via → is_some o ≡ not b → b ≡ false → b ≡ (is_joined net via && is_around net e via)
around_not net e via o b found none is =
    let broken : is_joined net via ≡ false = sym (break_is net 0 via) ∙ ap is_none (sym found) ∙ sym (none_is o b none) ∙ is in
    rw broken is

pub around_by : (net : Net) (e f z : LinkId) (via : List LinkId) (l first last : Link) (b : Bool) → slice_get net.links e.0 ≡ Some l → Some f ≡ slice_get via 0 → Some z ≡ slice_get via (length via - 1) → slice_get net.links f.0 ≡ Some first → slice_get net.links z.0 ≡ Some last
    → true ≡ (first.from.0 == l.from.0) → b ≡ (last.to.0 == l.to.0) → b ≡ is_around net e via
around_by net e f z via l first last b at first_at last_at first_link last_link from to =
    let begins : first_of via ≡ Some f = sym (first_is via) ∙ sym first_at in
    let ends : last_of via ≡ Some z = sym (last_is via) ∙ sym last_at in
    rw (at, begins, ends, first_link, last_link, ← from) to
