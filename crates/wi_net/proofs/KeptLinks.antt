-- A network's links with a link more: their ends, and their risk groups.
use Rattle.std.proofs.Common.{◌≡◌, ℕ, ◌+◌, ◌<◌, ◌≤◌, Bool, true, false, ◌&&◌, ◌==◌, ◌⊎◌, inl, inr, nat_lt, nat_le, List, [], ◌∷◌, ◌++◌, length, position, slice_get, Option, Some, None, refl, sym, ap, ◌∙◌, arith, length-append}
use Rattle.std.specs.Prelude.{is_none, option_and_then}
use Rattle.std.specs.List.{list_all}
use Rattle.std.proofs.lemmas.Bool.{and_parts, and_from, and_right, ltb-true, ltb-false, lt-ltb, leb-true, le-leb, eq-eqb, eqb-true, cases_Bool}
use Rattle.std.proofs.lemmas.Bool.Decides.{nat_tests}
use Rattle.std.proofs.lemmas.Option.{slice_get_within}
use Rattle.wi_net.specs.declared.parts.RouterId.{RouterId}
use Rattle.wi_net.specs.declared.parts.LinkId.{LinkId}
use Rattle.wi_net.specs.declared.parts.Link.{Link}
use Rattle.wi_net.specs.Names.{place, with_name, number_of}
use Rattle.wi_net.specs.Ends.{is_out, is_in, are_ends_apart}
use Rattle.wi_net.specs.LinkSet.{has}
use Rattle.wi_net.specs.Net.{Net, is_link, all_links, risk_of}
use Rattle.wi_net.specs.Network.{is_link_of, is_risk_named, named_next, named_after}
use Rattle.wi_net.specs.private.Builder.{is_first}
use Rattle.wi_net.proofs.SetLemmas.{all_at, all_from, has-all_links}
use Rattle.wi_net.proofs.KeptLists.{nothing_is, is_nothing, none_push, none_parts, none_by, all_places, get_before, get_there, get_last, same_flip}
use Rattle.wi_net.proofs.KeptNames.{number_kept, number_past, number_next}

-- two links leave a router alike in either order
out_flip : (l m : Link) → is_out l.from l.out_if m ≡ is_out m.from m.out_if l
out_flip l m = rw (same_flip l.from.0 m.from.0, same_flip l.out_if.0 m.out_if.0) refl

-- and reach one alike
in_flip : (l m : Link) → is_in l.to l.in_if m ≡ is_in m.to m.in_if l
in_flip l m = rw (same_flip l.to.0 m.to.0, same_flip l.in_if.0 m.in_if.0) refl

-- a link more whose ends are free
pub ends_push : (links : List Link) (l : Link) → are_ends_apart links ≡ true → position (is_out l.from l.out_if) links ≡ None → position (is_in l.to l.in_if) links ≡ None → are_ends_apart (links ++ l ∷ []) ≡ true
ends_push [] l all out into = refl
ends_push (m ∷ links) l all out into =
    let parts = and_parts (is_none (position (is_out m.from m.out_if) links)) (is_none (position (is_in m.to m.in_if) links) && are_ends_apart links) all in
    let more = and_parts (is_none (position (is_in m.to m.in_if) links)) (are_ends_apart links) parts.1 in
    let outs = none_parts (is_out l.from l.out_if) m links out in
    let ins = none_parts (is_in l.to l.in_if) m links into in
    let out_here : position (is_out m.from m.out_if) (links ++ l ∷ []) ≡ None = none_push (is_out m.from m.out_if) links l (nothing_is (position (is_out m.from m.out_if) links) parts.0) (out_flip m l ∙ outs.0) in
    let in_here : position (is_in m.to m.in_if) (links ++ l ∷ []) ≡ None = none_push (is_in m.to m.in_if) links l (nothing_is (position (is_in m.to m.in_if) links) more.0) (in_flip m l ∙ ins.0) in
    and_from (is_none (position (is_out m.from m.out_if) (links ++ l ∷ []))) (is_none (position (is_in m.to m.in_if) (links ++ l ∷ [])) && are_ends_apart (links ++ l ∷ []))
    (is_nothing (position (is_out m.from m.out_if) (links ++ l ∷ [])) out_here)
    (and_from (is_none (position (is_in m.to m.in_if) (links ++ l ∷ []))) (are_ends_apart (links ++ l ∷ [])) (is_nothing (position (is_in m.to m.in_if) (links ++ l ∷ [])) in_here) (ends_push links l more.1 outs.1 ins.1))

-- a link more names its interfaces after the others
after_last : (n : Option ℕ) (links : List Link) (l : Link) → named_after n (links ++ l ∷ []) ≡ named_next (named_next (named_after n links) l.out_if.0) l.in_if.0
after_last n [] l = refl
after_last n (m ∷ links) l = after_last (named_next (named_next n m.out_if.0) m.in_if.0) links l

pub turn_push : (names : List (List ℕ)) (out into : List ℕ) (links : List Link) (l : Link) → named_after (Some 0) links ≡ Some (length names) → l.out_if.0 ≡ number_of names out → l.in_if.0 ≡ number_of (with_name names out) into
    → named_after (Some 0) (links ++ l ∷ []) ≡ Some (length (with_name (with_name names out) into))
turn_push names out into links l turn out_is in_is =
    after_last (Some 0) links l
    ∙ rw (turn, out_is, in_is, number_next names out) (number_next (with_name names out) into)

-- the interfaces of a link have names
link_named : (net : Net) (l : Link) → is_link_of net l ≡ true → (l.out_if.0 < length net.interfaces) × (l.in_if.0 < length net.interfaces)
link_named net l h =
    let parts = and_parts (nat_lt l.from.0 (length net.routers) && nat_lt l.to.0 (length net.routers)) (nat_lt l.out_if.0 (length net.interfaces) && nat_lt l.in_if.0 (length net.interfaces)) h in
    let named = and_parts (nat_lt l.out_if.0 (length net.interfaces)) (nat_lt l.in_if.0 (length net.interfaces)) parts.1 in
    (ltb-true l.out_if.0 (length net.interfaces) named.0, ltb-true l.in_if.0 (length net.interfaces) named.1)

-- a number isn't one below it
above_not : (k n i : ℕ) → n ≤ k → i < n → (k == i) ≡ false
above_not k n i le lt = grind (arith, nat_tests)

-- a number that no interface has leaves no router
fresh_out : (net : Net) (r : RouterId) (k : ℕ) → list_all (is_link_of net) net.links ≡ true → length net.interfaces ≤ k → position (is_out r (record { 0 = k })) net.links ≡ None
fresh_out net r k known le =
    none_by (is_out r (record { 0 = k })) (is_link_of net) net.links (λ l h. and_right (r.0 == l.from.0) (k == l.out_if.0) (above_not k (length net.interfaces) l.out_if.0 le ((link_named net l h).0))) known

-- and reaches none
fresh_in : (net : Net) (r : RouterId) (k : ℕ) → list_all (is_link_of net) net.links ≡ true → length net.interfaces ≤ k → position (is_in r (record { 0 = k })) net.links ≡ None
fresh_in net r k known le =
    none_by (is_in r (record { 0 = k })) (is_link_of net) net.links (λ l h. and_right (r.0 == l.to.0) (k == l.in_if.0) (above_not k (length net.interfaces) l.in_if.0 le ((link_named net l h).1))) known

-- an end that is free by its name is free by its number
pub out_free : (net : Net) (r : RouterId) (s : List ℕ) → list_all (is_link_of net) net.links ≡ true
    → option_and_then (λ n. position (is_out r (record { 0 = n })) net.links) (place net.interfaces s) ≡ None → position (is_out r (record { 0 = number_of net.interfaces s })) net.links ≡ None
out_free net r s known free = go (nat_lt (number_of net.interfaces s) (length net.interfaces)) refl
  where
    go : (b : Bool) → nat_lt (number_of net.interfaces s) (length net.interfaces) ≡ b → position (is_out r (record { 0 = number_of net.interfaces s })) net.links ≡ None
    go true e = rw e at free
    go false e = fresh_out net r (number_of net.interfaces s) known (ltb-false (number_of net.interfaces s) (length net.interfaces) e)

-- also when another name was put before
pub in_free : (net : Net) (r : RouterId) (t s : List ℕ) → list_all (is_link_of net) net.links ≡ true
    → option_and_then (λ n. position (is_in r (record { 0 = n })) net.links) (place net.interfaces s) ≡ None → position (is_in r (record { 0 = number_of (with_name net.interfaces t) s })) net.links ≡ None
in_free net r t s known free = go (nat_lt (number_of net.interfaces s) (length net.interfaces)) refl
  where
    go : (b : Bool) → nat_lt (number_of net.interfaces s) (length net.interfaces) ≡ b → position (is_in r (record { 0 = number_of (with_name net.interfaces t) s })) net.links ≡ None
    go true e =
        let there : position (is_in r (record { 0 = number_of net.interfaces s })) net.links ≡ None = rw e at free in
        rw (number_kept net.interfaces t s (ltb-true (number_of net.interfaces s) (length net.interfaces) e)) there
    go false e = fresh_in net r (number_of (with_name net.interfaces t) s) known (number_past net.interfaces t s (ltb-false (number_of net.interfaces s) (length net.interfaces) e))

-- the link that a number is of
link_there : (net : Net) (e : LinkId) → is_link net e ≡ true → (l : Link) × (slice_get net.links e.0 ≡ Some l)
link_there net e h = get_there net.links e.0 (ltb-true e.0 (length net.links) h)

-- a network with a link more
abbrev pub with_last : Net → Link → Net
with_last net l = record net { links = net.links ++ l ∷ [] }

module _ (net : Net) (l : Link) where
  -- there is one link more
  longer : length (net.links ++ l ∷ []) ≡ length net.links + 1
  longer = length-append net.links (l ∷ [])

  -- a link stays one of the network's
  known_more : (e : LinkId) → is_link net e ≡ true → is_link (with_last net l) e ≡ true
  known_more e h = lt-ltb e.0 (length (net.links ++ l ∷ [])) (let less = ltb-true e.0 (length net.links) h in omega (arith, longer))

  -- its risk group stays
  risk_kept : (e : LinkId) → is_link net e ≡ true → risk_of (with_last net l) e ≡ risk_of net e
  risk_kept e h =
      let there = link_there net e h in
      rw (get_before net.links (l ∷ []) e.0 there.0 there.1, there.1) refl

  -- the new link's risk group
  risk_new : (e : LinkId) → e.0 ≡ length net.links → risk_of (with_last net l) e ≡ l.risk
  risk_new e h = rw (h, get_last net.links l) refl

  -- a new link is alone, or in the risk group of a link that is the first of it
  abbrev pub Joins : Type 0
  Joins = (l.risk.0 ≡ length net.links) ⊎ (is_first net l.risk ≡ true)

  -- a first link stays one
  pub first_more : (e : LinkId) → is_first net e ≡ true → is_first (with_last net l) e ≡ true
  first_more e h =
      let parts = and_parts (is_link net e) ((risk_of net e).0 == e.0) h in
      rw (risk_kept e parts.0) (and_from (is_link (with_last net l) e) ((risk_of net e).0 == e.0) (known_more e parts.0) parts.1)

  -- a link that is alone is first
  pub first_new : (e : LinkId) → e.0 ≡ length net.links → l.risk ≡ e → is_first (with_last net l) e ≡ true
  first_new e at own =
      rw (risk_new e at) (and_from (is_link (with_last net l) e) (l.risk.0 == e.0) (lt-ltb e.0 (length (net.links ++ l ∷ [])) (omega (arith, longer))) (eq-eqb l.risk.0 e.0 (ap (λ (y : LinkId). y.0) own)))

  -- the risk groups are named by their least links still
  pub risks_push : list_all (is_risk_named net) (all_links net) ≡ true → Joins → list_all (is_risk_named (with_last net l)) (all_links (with_last net l)) ≡ true
  risks_push named joins = all_from (is_risk_named (with_last net l)) (all_links (with_last net l)) each
    where
      new_ok : (e : LinkId) → e.0 ≡ length net.links → (l.risk.0 ≤ e.0) × ((risk_of (with_last net l) l.risk).0 ≡ l.risk.0)
      new_ok e at =
          elim joins [
            | inl own ↦ (omega arith, ap (λ (y : LinkId). y.0) (risk_new l.risk own))
            | inr first ↦
                (let parts = and_parts (is_link net l.risk) ((risk_of net l.risk).0 == l.risk.0) first in
                let less = ltb-true l.risk.0 (length net.links) parts.0 in
                (omega (arith, less), ap (λ (y : LinkId). y.0) (risk_kept l.risk parts.0) ∙ eqb-true (risk_of net l.risk).0 l.risk.0 parts.1))
          ]

      for_new : (e : LinkId) → e.0 ≡ length net.links → is_risk_named (with_last net l) e ≡ true
      for_new e at =
          let ok = new_ok e at in
          rw (risk_new e at) (and_from (nat_le l.risk.0 e.0) ((risk_of (with_last net l) l.risk).0 == l.risk.0) (le-leb l.risk.0 e.0 ok.0) (eq-eqb (risk_of (with_last net l) l.risk).0 l.risk.0 ok.1))

      for_old : (e : LinkId) → is_link net e ≡ true → is_risk_named (with_last net l) e ≡ true
      for_old e old =
          let at = all_at (is_risk_named net) (all_links net) e named (has-all_links net e ∙ old) in
          let parts = and_parts (nat_le (risk_of net e).0 e.0) ((risk_of net (risk_of net e)).0 == (risk_of net e).0) at in
          let low = leb-true (risk_of net e).0 e.0 parts.0 in
          let less = ltb-true e.0 (length net.links) old in
          let there : is_link net (risk_of net e) ≡ true = lt-ltb (risk_of net e).0 (length net.links) (omega (arith, low, less)) in
          rw (risk_kept e old, risk_kept (risk_of net e) there) at

      number : (e : LinkId) → is_link net e ≡ false → is_link (with_last net l) e ≡ true → e.0 ≡ length net.links
      number e new known = let low = ltb-false e.0 (length net.links) new in let high = ltb-true e.0 (length (net.links ++ l ∷ [])) known in omega (arith, longer, low, high)

      each : (e : LinkId) → has (all_links (with_last net l)) e ≡ true → is_risk_named (with_last net l) e ≡ true
      each e h = elim (cases_Bool (is_link net e)) [ inl old ↦ for_old e old | inr new ↦ for_new e (number e new (sym (has-all_links (with_last net l) e) ∙ h)) ]

-- each link's risk group is named by one of the links
pub risks_in : (net : Net) → list_all (is_risk_named net) (all_links net) ≡ true → list_all (λ (l : Link). nat_lt l.risk.0 (length net.links)) net.links ≡ true
risks_in net named = all_places (λ (l : Link). nat_lt l.risk.0 (length net.links)) net.links each
  where
    each : (i : ℕ) (l : Link) → slice_get net.links i ≡ Some l → nat_lt l.risk.0 (length net.links) ≡ true
    each i l e =
        let here : LinkId = record { 0 = i } in
        let less : i < length net.links = slice_get_within net.links i l e in
        let at : is_risk_named net here ≡ true = all_at (is_risk_named net) (all_links net) here named (has-all_links net here ∙ lt-ltb i (length net.links) less) in
        let is : risk_of net here ≡ l.risk = rw e refl in
        let parts = and_parts (nat_le (risk_of net here).0 i) ((risk_of net (risk_of net here)).0 == (risk_of net here).0) at in
        let low = leb-true (risk_of net here).0 i parts.0 in
        let same : (risk_of net here).0 ≡ l.risk.0 = ap (λ (y : LinkId). y.0) is in
        lt-ltb l.risk.0 (length net.links) (omega (arith, low, same))
