-- A rule of the network that a link of the file breaks is a fault at its place.
use Rattle.std.proofs.Common.{◌≡◌, ℕ, ◌+◌, ◌<◌, Bool, true, false, List, length, Option, Some, None, Result, Ok, Err, refl, sym, ap, subst, ◌∙◌, length-append}
use Rattle.std.specs.Prelude.{nat_lt}
use Rattle.std.proofs.lemmas.Bool.{lt-ltb}
use Rattle.wi_net.specs.Names.{is_name}
use Rattle.wi_net.specs.declared.parts.RouterId.{RouterId}
use Rattle.wi_net.specs.declared.refused.BuildRefused.{BuildRefused}
use Rattle.wi_net.specs.declared.refused.BuildRefused.TheVariants as refused
use Rattle.wi_net.specs.Finding.{find_router, out_place, in_place}
use Rattle.wi_net.specs.Builder.{Draft, link_ends, add_link, with_new_link, is_group_name, Refuses}
use Rattle.wi_net.proofs.KeptLists.{step_held, given_is}
use Rattle.wi_netjson.specs.declared.fault.NetFault.{NetFault}
use Rattle.wi_netjson.specs.declared.fault.NetFault.TheVariants as fault
use Rattle.wi_netjson.specs.Reading.{Fails}
use Rattle.wi_netjson.specs.private.Refusals.{link_fault}
use Rattle.wi_netjson.specs.Links.{link_rules}

-- a broken rule of the network, as a fault of the file
abbrev located : {A : Type 0} → (BuildRefused → NetFault) → Result A BuildRefused → Result A NetFault
located fault (Ok x) = Ok x
located fault (Err e) = Err (fault e)

links_by_name : (n : Draft) (i : ℕ) (from out to into : List ℕ) (distance : ℕ) (group : Option (List ℕ)) → nat_lt (length n.net.links) 20000 ≡ true
    → located (link_fault i) (add_link n from out to into distance group) ≡ link_rules n i from out to into distance group
unfolding add_link link_ends link_rules
links_by_name n i from out to into distance group few = names (is_group_name group) (is_name out) (is_name into) refl refl refl
  where
    ends : (f t : RouterId) (a b : Option ℕ) → is_group_name group ≡ true → is_name out ≡ true → is_name into ≡ true → find_router n.net from ≡ Some f → find_router n.net to ≡ Some t → out_place n.net f out ≡ a → in_place n.net t into ≡ b
        → located (link_fault i) (add_link n from out to into distance group) ≡ link_rules n i from out to into distance group
    ends f t None None e1 e2 e3 e4 e5 e6 e7 = rw (few, e1, e2, e3, e4, e5, e6, e7) refl
    ends f t None (Some k) e1 e2 e3 e4 e5 e6 e7 = rw (few, e1, e2, e3, e4, e5, e6, e7) refl
    ends f t (Some k) b e1 e2 e3 e4 e5 e6 e7 = rw (few, e1, e2, e3, e4, e5, e6) refl

    routers : (of ot : Option RouterId) → is_group_name group ≡ true → is_name out ≡ true → is_name into ≡ true → find_router n.net from ≡ of → find_router n.net to ≡ ot
        → located (link_fault i) (add_link n from out to into distance group) ≡ link_rules n i from out to into distance group
    routers (Some f) (Some t) e1 e2 e3 e4 e5 = ends f t (out_place n.net f out) (in_place n.net t into) e1 e2 e3 e4 e5 refl refl
    routers (Some f) None e1 e2 e3 e4 e5 = rw (few, e1, e2, e3, e4, e5) refl
    routers None ot e1 e2 e3 e4 e5 = rw (few, e1, e2, e3, e4) refl

    names : (a b c : Bool) → is_group_name group ≡ a → is_name out ≡ b → is_name into ≡ c → located (link_fault i) (add_link n from out to into distance group) ≡ link_rules n i from out to into distance group
    names true true true e1 e2 e3 = routers (find_router n.net from) (find_router n.net to) e1 e2 e3 refl refl
    names true true false e1 e2 e3 = rw (few, e1, e2, e3) refl
    names true false c e1 e2 e3 = rw (few, e1, e2) refl
    names false b c e1 e2 e3 = rw (few, e1) refl

fails_self : {A : Type 0} (x : NetFault) (r : Result A NetFault) → r ≡ Err x → Fails x r
fails_self fault.Memory r e = tt
fails_self (fault.NotJson p) r e = e
fails_self (fault.WrongShape p) r e = e
fails_self (fault.UnknownFormat p) r e = e
fails_self (fault.BadName p) r e = e
fails_self (fault.RepeatedRouter p) r e = e
fails_self (fault.RepeatedLabel p) r e = e
fails_self (fault.UnknownRouter p) r e = e
fails_self (fault.InterfaceTaken p) r e = e
fails_self (fault.UnknownInterface p) r e = e
fails_self (fault.UnknownLabel p) r e = e
fails_self (fault.RepeatedTable p) r e = e
fails_self (fault.EmptyGroup p) r e = e
fails_self (fault.BadOperation p) r e = e
fails_self (fault.OverLimit p n) r e = e
fails_self (fault.BadNumber p) r e = e

link_fails : {A : Type 0} (i : ℕ) (e : BuildRefused) (r : Result A BuildRefused) → Refuses e r → Fails (link_fault i e) (located (link_fault i) r)
link_fails i refused.Memory r h = tt
link_fails i refused.Repeated r h = fails_self (link_fault i refused.Repeated) (located (link_fault i) r) (rw h refl)
link_fails i (refused.Unknown part) r h = fails_self (link_fault i (refused.Unknown part)) (located (link_fault i) r) (rw h refl)
link_fails i (refused.Taken part) r h = fails_self (link_fault i (refused.Taken part)) (located (link_fault i) r) (rw h refl)
link_fails i refused.EmptyGroup r h = fails_self (link_fault i refused.EmptyGroup) (located (link_fault i) r) (rw h refl)
link_fails i (refused.Limit what n) r h = fails_self (link_fault i (refused.Limit what n)) (located (link_fault i) r) (rw h refl)
link_fails i (refused.BadName part) r h = fails_self (link_fault i (refused.BadName part)) (located (link_fault i) r) (rw h refl)

-- what the builder refuses of a link is its first broken rule in the file
pub link_refused : (n : Draft) (i : ℕ) (from out to into : List ℕ) (distance : ℕ) (group : Option (List ℕ)) (e : BuildRefused) → length n.net.links < 20000 → Refuses e (add_link n from out to into distance group)
    → Fails (link_fault i e) (link_rules n i from out to into distance group)
link_refused n i from out to into distance group e few h = subst (Fails (link_fault i e)) (links_by_name n i from out to into distance group (lt-ltb _ _ few)) (link_fails i e (add_link n from out to into distance group) h)

pub link_added : (n after : Draft) (i : ℕ) (from out to into : List ℕ) (distance : ℕ) (group : Option (List ℕ)) → length n.net.links < 20000 → add_link n from out to into distance group ≡ Ok after
    → link_rules n i from out to into distance group ≡ Ok after
link_added n after i from out to into distance group few h = sym (links_by_name n i from out to into distance group (lt-ltb _ _ few)) ∙ ap (located (link_fault i)) h

-- a link more
pub link_counted : (n after : Draft) (from out to into : List ℕ) (distance : ℕ) (group : Option (List ℕ)) → add_link n from out to into distance group ≡ Ok after → length after.net.links ≡ length n.net.links + 1
unfolding add_link
link_counted n after from out to into distance group h =
    let ends = step_held (link_ends n from out to into group) _ after h in
    let made = given_is (with_new_link n (ends.0).0 out (ends.0).1 into distance group) after ends.2 in
    ap (λ (d : Draft). length d.net.links) (sym made) ∙ length-append n.net.links _
