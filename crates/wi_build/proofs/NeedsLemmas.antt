-- What is kept while an entry is gone over is what must have failed for a group to be used.
use Rattle.std.proofs.Common.{◌≡◌, ℕ, zero, suc, ◌≤◌, Bool, true, false, not, ◌&&◌, ◌||◌, nat_eq, nat_le, nat_lt, List, [], ◌∷◌, ◌++◌, length, take, drop, refl, arith, ap, inl, inr, sym, ◌∙◌}
use Rattle.std.proofs.lemmas.Bool.{eq-eqb, and_parts, and_from, not-true, not_from_false, not_from_true, or_cases, or_left, or_right, false_from_ne_true, true≢false, leb-true, le-leb}
use Rattle.std.specs.List.{filter, list_any, list_all}
use Rattle.wi_net.specs.declared.parts.LinkId.{LinkId}
use Rattle.wi_net.specs.declared.parts.Member.{Member}
use Rattle.wi_net.specs.declared.bounds.Bounds.{Bounds}
use Rattle.wi_net.specs.LinkSet.{has, is_apart, is_rising, outside, with_link}
use Rattle.wi_net.specs.Net.{Net, before, is_link, links_where, risk_count, risk_of, same_risk}
use Rattle.wi_net.specs.Network.{IsNetwork}
use Rattle.wi_net.proofs.SetLemmas.{same_link, has-filter, has-links_where, apart_from, apart_has, union_has}
use Rattle.wi_net.proofs.CountLemmas.{bool_same, risk_named}
use Rattle.wi_net.proofs.RisingLemmas.{filter_rising, rising_same, with_rising}
use Rattle.wi_net.proofs.WidenLemmas.{has-with_link, or_assoc, or_comm, union_rising}
use Rattle.wi_net.proofs.GroupLemmas.{any_link, groups_known, in_groups}
use Rattle.wi_world.specs.Moves.{AreBounds, may_be_down as all_may_be_down}
use Rattle.wi_rules.specs.Rules.{may_use}
use Rattle.wi_build.specs.declared.needs.Needs.{Needs}
use Rattle.wi_build.specs.private.Needs.{no_needs, with_need, with_members, with_groups, may_be_down, may_be_up}

-- the risk groups rise, those that aren't known to be down are listed besides, and it is told whether none is known to be up
pub record AreSound (bounds : Bounds) (n : Needs) : Type 0 where
  pub rising : is_rising n.risks ≡ true
  pub extra : n.extra ≡ outside n.risks bounds.down
  pub spared : n.spared ≡ is_apart n.risks bounds.up

none_sound : (bounds : Bounds) → AreSound bounds no_needs
none_sound bounds = record { rising = refl; extra = refl; spared = refl }

-- one risk group more, where it passes the test, and where it doesn't
filter_with : (p : LinkId → Bool) (s : List LinkId) (r : LinkId) → is_rising s ≡ true → p r ≡ true → filter p (with_link s r) ≡ with_link (filter p s) r
filter_with p s r rs pr = rising_same (filter p (with_link s r)) (with_link (filter p s) r) (filter_rising p (with_link s r) (with_rising s r rs)) (with_rising (filter p s) r (filter_rising p s rs)) same
  where
    same : (e : LinkId) → has (filter p (with_link s r)) e ≡ has (with_link (filter p s) r) e
    same e =
        has-filter p (with_link s r) e
        ∙ ap (λ b. b && p e) (has-with_link s r e)
        ∙ go (has s e) (nat_eq r.0 e.0) refl
        ∙ ap (λ b. b || nat_eq r.0 e.0) (sym (has-filter p s e))
        ∙ sym (has-with_link (filter p s) r e)
      where
        go : (b c : Bool) → nat_eq r.0 e.0 ≡ c → ((b || c) && p e) ≡ ((b && p e) || c)
        go true true ec = let pe : p e ≡ true = rw (sym (same_link r e ec)) pr in rw pe refl
        go false true ec = let pe : p e ≡ true = rw (sym (same_link r e ec)) pr in rw pe refl
        go true false ec = or_comm false (p e)
        go false false ec = refl

filter_without : (p : LinkId → Bool) (s : List LinkId) (r : LinkId) → is_rising s ≡ true → p r ≡ false → filter p (with_link s r) ≡ filter p s
filter_without p s r rs pr = rising_same (filter p (with_link s r)) (filter p s) (filter_rising p (with_link s r) (with_rising s r rs)) (filter_rising p s rs) same
  where
    same : (e : LinkId) → has (filter p (with_link s r)) e ≡ has (filter p s) e
    same e =
        has-filter p (with_link s r) e
        ∙ ap (λ b. b && p e) (has-with_link s r e)
        ∙ go (has s e) (nat_eq r.0 e.0) refl
        ∙ sym (has-filter p s e)
      where
        go : (b c : Bool) → nat_eq r.0 e.0 ≡ c → ((b || c) && p e) ≡ (b && p e)
        go true c ec = refl
        go false true ec = rw (sym (same_link r e ec)) pr
        go false false ec = refl

apart_with : (s up : List LinkId) (r : LinkId) → is_apart (with_link s r) up ≡ (is_apart s up && not (has up r))
apart_with s up r = bool_same (is_apart (with_link s r) up) (is_apart s up && not (has up r)) forwards backwards
  where
    forwards : is_apart (with_link s r) up ≡ true → (is_apart s up && not (has up r)) ≡ true
    forwards h =
        and_from (is_apart s up) (not (has up r))
        (apart_from s up (λ e i. apart_has (with_link s r) up e h (has-with_link s r e ∙ or_left (has s e) (nat_eq r.0 e.0) i)))
        (not_from_false (has up r) (apart_has (with_link s r) up r h (has-with_link s r r ∙ or_right (has s r) (nat_eq r.0 r.0) (eq-eqb r.0 r.0 refl))))

    backwards : (is_apart s up && not (has up r)) ≡ true → is_apart (with_link s r) up ≡ true
    backwards h =
        let parts = and_parts (is_apart s up) (not (has up r)) h in
        apart_from (with_link s r) up (λ e i.
        elim (or_cases (has s e) (nat_eq r.0 e.0) (sym (has-with_link s r e) ∙ i)) [
          | inl old ↦ apart_has s up e parts.0 old
          | inr new ↦ rw (sym (same_link r e new)) (not-true (has up r) parts.1)
        ])

need_sound : (bounds : Bounds) (n : Needs) (r : LinkId) → AreSound bounds n → AreSound bounds (with_need bounds n r)
need_sound bounds n r k = go (has bounds.down r) refl
  where
    go : (b : Bool) → has bounds.down r ≡ b → AreSound bounds (with_need bounds n r)
    go true eb = record {
      rising = with_rising n.risks r k.rising;
      extra = rw eb (k.extra ∙ sym (filter_without (λ e. not (has bounds.down e)) n.risks r k.rising (not_from_true (has bounds.down r) eb)));
      spared = ap (λ b. b && not (has bounds.up r)) k.spared ∙ sym (apart_with n.risks bounds.up r);
    }
    go false eb = record {
      rising = with_rising n.risks r k.rising;
      extra = rw eb (ap (λ s. with_link s r) k.extra ∙ sym (filter_with (λ e. not (has bounds.down e)) n.risks r k.rising (not_from_false (has bounds.down r) eb)));
      spared = ap (λ b. b && not (has bounds.up r)) k.spared ∙ sym (apart_with n.risks bounds.up r);
    }

members_sound : (net : Net) (bounds : Bounds) (n : Needs) (ms : List Member) → AreSound bounds n → AreSound bounds (with_members net bounds n ms)
members_sound net bounds n [] k = k
members_sound net bounds n (m ∷ ms) k = members_sound net bounds (with_need bounds n (risk_of net m.link)) ms (need_sound bounds n (risk_of net m.link) k)

groups_sound : (net : Net) (bounds : Bounds) (n : Needs) (gs : List (List Member)) → AreSound bounds n → AreSound bounds (with_groups net bounds n gs)
groups_sound net bounds n [] k = k
groups_sound net bounds n (g ∷ gs) k = groups_sound net bounds (with_members net bounds n g) gs (members_sound net bounds n g k)

-- which risk groups there are
has_members : (net : Net) (bounds : Bounds) (n : Needs) (ms : List Member) (r : LinkId) → has (with_members net bounds n ms).risks r ≡ (has n.risks r || list_any (λ (m : Member). nat_eq (risk_of net m.link).0 r.0) ms)
has_members net bounds n [] r = or_comm false (has n.risks r)
has_members net bounds n (m ∷ ms) r =
    has_members net bounds (with_need bounds n (risk_of net m.link)) ms r
    ∙ ap (λ b. b || list_any (λ (x : Member). nat_eq (risk_of net x.link).0 r.0) ms) (has-with_link n.risks (risk_of net m.link) r)
    ∙ sym (or_assoc (has n.risks r) (nat_eq (risk_of net m.link).0 r.0) (list_any (λ (x : Member). nat_eq (risk_of net x.link).0 r.0) ms))

has_groups : (net : Net) (bounds : Bounds) (n : Needs) (gs : List (List Member)) (r : LinkId) → has (with_groups net bounds n gs).risks r ≡ (has n.risks r || any_link (λ d. nat_eq (risk_of net d).0 r.0) gs)
has_groups net bounds n [] r = or_comm false (has n.risks r)
has_groups net bounds n (g ∷ gs) r =
    has_groups net bounds (with_members net bounds n g) gs r
    ∙ ap (λ b. b || any_link (λ d. nat_eq (risk_of net d).0 r.0) gs) (has_members net bounds n g r)
    ∙ sym (or_assoc (has n.risks r) (list_any (λ (m : Member). nat_eq (risk_of net m.link).0 r.0) g) (any_link (λ d. nat_eq (risk_of net d).0 r.0) gs))

-- the links that groups reach by their risk groups
abbrev reached : Net → List (List Member) → List LinkId
reached net gs = links_where net (λ e. any_link (λ d. same_risk net d e) gs)

abbrev needs_of : Net → Bounds → List (List Member) → Needs
needs_of net bounds gs = with_groups net bounds no_needs gs

abbrev names : Net → LinkId → Bool
names net e = nat_eq (risk_of net e).0 e.0

module _ (net : Net) (bounds : Bounds) (gs : List (List Member)) (k : IsNetwork net) (b : AreBounds net bounds) (known : groups_known net gs ≡ true) where
  sound : AreSound bounds (needs_of net bounds gs)
  sound = groups_sound net bounds no_needs gs (none_sound bounds)

  -- a link is reached where its risk group is there
  has_reached : (e : LinkId) → has (reached net gs) e ≡ (is_link net e && has (needs_of net bounds gs).risks (risk_of net e))
  has_reached e =
      has-links_where net (λ x. any_link (λ d. same_risk net d x) gs) e
      ∙ ap (λ c. is_link net e && c) (sym (has_groups net bounds no_needs gs (risk_of net e)))

  -- the risk groups are the links reached that name their own
  named : filter (names net) (reached net gs) ≡ (needs_of net bounds gs).risks
  named = rising_same (filter (names net) (reached net gs)) (needs_of net bounds gs).risks (filter_rising (names net) (reached net gs) (union_rising (λ e. any_link (λ d. same_risk net d e) gs) (length net.links))) sound.rising same
    where
      forwards : (e : LinkId) → has (filter (names net) (reached net gs)) e ≡ true → has (needs_of net bounds gs).risks e ≡ true
      forwards e h =
          let parts = and_parts (has (reached net gs) e) (names net e) (sym (has-filter (names net) (reached net gs) e) ∙ h) in
          let there = and_parts (is_link net e) (has (needs_of net bounds gs).risks (risk_of net e)) (sym (has_reached e) ∙ parts.0) in
          let s = same_link (risk_of net e) e parts.1 in
          rw s at there.1

      backwards : (e : LinkId) → has (needs_of net bounds gs).risks e ≡ true → has (filter (names net) (reached net gs)) e ≡ true
      backwards e h =
          let w = in_groups net (λ d. nat_eq (risk_of net d).0 e.0) gs known (sym (has_groups net bounds no_needs gs e) ∙ h) in
          let is : risk_of net w.link ≡ e = same_link (risk_of net w.link) e w.passes in
          let name = risk_named net w.link k w.known in
          let link : is_link net e ≡ true = rw is at name.0 in
          let own : names net e ≡ true = rw is at name.2 in
          let self : risk_of net e ≡ e = same_link (risk_of net e) e own in
          has-filter (names net) (reached net gs) e
          ∙ and_from (has (reached net gs) e) (names net e) (has_reached e ∙ and_from (is_link net e) (has (needs_of net bounds gs).risks (risk_of net e)) link (rw self h)) own

      same : (e : LinkId) → has (filter (names net) (reached net gs)) e ≡ has (needs_of net bounds gs).risks e
      same e = bool_same (has (filter (names net) (reached net gs)) e) (has (needs_of net bounds gs).risks e) (forwards e) (backwards e)

  filter_swap : (p q : LinkId → Bool) (s : List LinkId) → filter p (filter q s) ≡ filter q (filter p s)
  filter_swap p q [] = refl
  filter_swap p q (x ∷ s) = go (p x) (q x) refl refl (filter_swap p q s)
    where
      go : (c d : Bool) → p x ≡ c → q x ≡ d → filter p (filter q s) ≡ filter q (filter p s) → filter p (filter q (x ∷ s)) ≡ filter q (filter p (x ∷ s))
      go true true ec ed ih = rw (ec, ed, ec) (ap (λ t. x ∷ t) ih)
      go true false ec ed ih = rw (ec, ed) ih
      go false true ec ed ih = rw (ec, ed, ec) ih
      go false false ec ed ih = rw (ec, ed) ih

  count_extra : risk_count net (outside (reached net gs) bounds.down) ≡ length (needs_of net bounds gs).extra
  count_extra =
      ap length (filter_swap (names net) (λ e. not (has bounds.down e)) (reached net gs) ∙ ap (λ s. outside s bounds.down) named ∙ sym sound.extra)

  apart_up : is_apart (reached net gs) bounds.up ≡ (needs_of net bounds gs).spared
  apart_up = bool_same (is_apart (reached net gs) bounds.up) (is_apart (needs_of net bounds gs).risks bounds.up) forwards backwards ∙ sym sound.spared
    where
      forwards : is_apart (reached net gs) bounds.up ≡ true → is_apart (needs_of net bounds gs).risks bounds.up ≡ true
      forwards h =
          apart_from (needs_of net bounds gs).risks bounds.up (λ e i.
          let there : has (filter (names net) (reached net gs)) e ≡ true = ap (λ s. has s e) named ∙ i in
          let parts = and_parts (has (reached net gs) e) (names net e) (sym (has-filter (names net) (reached net gs) e) ∙ there) in
          apart_has (reached net gs) bounds.up e h parts.0)

      backwards : is_apart (needs_of net bounds gs).risks bounds.up ≡ true → is_apart (reached net gs) bounds.up ≡ true
      backwards h =
          apart_from (reached net gs) bounds.up (λ e i.
          let there = and_parts (is_link net e) (has (needs_of net bounds gs).risks (risk_of net e)) (sym (has_reached e) ∙ i) in
          let name = risk_named net e k there.0 in
          false_from_ne_true (has bounds.up e) (λ u.
          true≢false (sym (union_has net bounds.up e (risk_of net e) b.up u name.1 name.0) ∙ apart_has (needs_of net bounds gs).risks bounds.up (risk_of net e) h there.1)))

known_take : (net : Net) (gs : List (List Member)) (j : ℕ) → groups_known net gs ≡ true → groups_known net (take j gs) ≡ true
known_take net [] zero k = refl
known_take net [] (suc j) k = refl
known_take net (g ∷ gs) zero k = refl
known_take net (g ∷ gs) (suc j) k =
    let known = and_parts (list_all (λ (m : Member). is_link net m.link) g) (groups_known net gs) k in
    and_from (list_all (λ (m : Member). is_link net m.link) g) (groups_known net (take j gs)) known.0 (known_take net gs j known.1)

-- a member of a group may be used where what is kept for the group allows it
pub needs_mean : (net : Net) (bounds : Bounds) (gs : List (List Member)) (j : ℕ) (e : LinkId) → IsNetwork net → AreBounds net bounds → groups_known net gs ≡ true → is_link net e ≡ true
    → may_use net bounds gs j e ≡ (may_be_down bounds (needs_of net bounds (take j gs)) && may_be_up net bounds (needs_of net bounds (take j gs)) e)
needs_mean net bounds gs j e k b known link =
    let kt = known_take net gs j known in
    let has_e : has (before net gs j) e ≡ has (needs_of net bounds (take j gs)).risks (risk_of net e) = has_reached net bounds (take j gs) k b kt e ∙ ap (λ c. c && has (needs_of net bounds (take j gs)).risks (risk_of net e)) link in
    rw (count_extra net bounds (take j gs) k b kt, apart_up net bounds (take j gs) k b kt, has_e) refl

-- no member may be used, where it doesn't
pub needs_stop : (net : Net) (bounds : Bounds) (gs : List (List Member)) (j : ℕ) (e : LinkId) → IsNetwork net → AreBounds net bounds → groups_known net gs ≡ true
    → may_be_down bounds (needs_of net bounds (take j gs)) ≡ false → may_use net bounds gs j e ≡ false
needs_stop net bounds gs j e k b known no_more =
    let kt = known_take net gs j known in
    rw (count_extra net bounds (take j gs) k b kt, apart_up net bounds (take j gs) k b kt, no_more) refl

-- all that the groups before one need may be down at once where what is kept for that one may
pub needs_down : (net : Net) (bounds : Bounds) (gs : List (List Member)) (j : ℕ) → IsNetwork net → AreBounds net bounds → groups_known net gs ≡ true
    → all_may_be_down net bounds (before net gs j) ≡ may_be_down bounds (needs_of net bounds (take j gs))
needs_down net bounds gs j k b known =
    let kt = known_take net gs j known in
    rw (count_extra net bounds (take j gs) k b kt, apart_up net bounds (take j gs) k b kt) refl

-- how many risk groups must have failed
pub needs_count : (net : Net) (bounds : Bounds) (gs : List (List Member)) (j : ℕ) → IsNetwork net → AreBounds net bounds → groups_known net gs ≡ true
    → risk_count net (before net gs j) ≡ length (needs_of net bounds (take j gs)).risks
needs_count net bounds gs j k b known = ap length (named net bounds (take j gs) k b (known_take net gs j known))

-- one group more
needs_more : (net : Net) (bounds : Bounds) (n : Needs) (gs : List (List Member)) (g : List Member) → with_groups net bounds n (gs ++ g ∷ []) ≡ with_members net bounds (with_groups net bounds n gs) g
needs_more net bounds n [] g = refl
needs_more net bounds n (x ∷ gs) g = needs_more net bounds (with_members net bounds n x) gs g

-- what can't be down at once can't with more
longer : (s : List LinkId) (r : LinkId) → length s ≤ length (with_link s r)
longer [] r = omega arith
longer (x ∷ s) r = go (nat_lt r.0 x.0) (nat_eq x.0 r.0) refl refl (longer s r)
  where
    go : (b c : Bool) → nat_lt r.0 x.0 ≡ b → nat_eq x.0 r.0 ≡ c → length s ≤ length (with_link s r) → length (x ∷ s) ≤ length (with_link (x ∷ s) r)
    go true c eb ec ih = rw eb (omega arith)
    go false true eb ec ih = rw (eb, ec) (omega arith)
    go false false eb ec ih = rw (eb, ec) (omega (arith, ih))

extra_longer : (bounds : Bounds) (n : Needs) (r : LinkId) → length n.extra ≤ length (with_need bounds n r).extra
extra_longer bounds n r = go (has bounds.down r) refl
  where
    go : (b : Bool) → has bounds.down r ≡ b → length n.extra ≤ length (with_need bounds n r).extra
    go true eb = rw eb (omega arith)
    go false eb = rw eb (longer n.extra r)

need_stops : (bounds : Bounds) (n : Needs) (r : LinkId) → may_be_down bounds n ≡ false → may_be_down bounds (with_need bounds n r) ≡ false
need_stops bounds n r h = false_from_ne_true (may_be_down bounds (with_need bounds n r)) (λ t. true≢false (sym (before t) ∙ h))
  where
    before : may_be_down bounds (with_need bounds n r) ≡ true → may_be_down bounds n ≡ true
    before t =
        let parts = and_parts (nat_le (length (with_need bounds n r).extra) bounds.k) (n.spared && not (has bounds.up r)) t in
        let few = leb-true (length (with_need bounds n r).extra) bounds.k parts.0 in
        let more = extra_longer bounds n r in
        and_from (nat_le (length n.extra) bounds.k) n.spared (le-leb (length n.extra) bounds.k (omega (arith, few, more))) ((and_parts n.spared (not (has bounds.up r)) parts.1).0)

members_stop : (net : Net) (bounds : Bounds) (n : Needs) (ms : List Member) → may_be_down bounds n ≡ false → may_be_down bounds (with_members net bounds n ms) ≡ false
members_stop net bounds n [] h = h
members_stop net bounds n (m ∷ ms) h = members_stop net bounds (with_need bounds n (risk_of net m.link)) ms (need_stops bounds n (risk_of net m.link) h)

take_more : {X : Type 0} (xs : List X) (i : ℕ) (x : X) (rest : List X) → drop i xs ≡ x ∷ rest → take (suc i) xs ≡ take i xs ++ x ∷ []
take_more [] zero x rest e = cc
take_more [] (suc i) x rest e = cc
take_more (y ∷ xs) zero x rest e = let same : y ≡ x = cc in ap (λ z. z ∷ []) same
take_more (y ∷ xs) (suc i) x rest e = ap (λ t. y ∷ t) (take_more xs i x rest e)

pub groups_more : (net : Net) (bounds : Bounds) (gs : List (List Member)) (i : ℕ) (g : List Member) (rest : List (List Member)) → drop i gs ≡ g ∷ rest
    → needs_of net bounds (take (suc i) gs) ≡ with_members net bounds (needs_of net bounds (take i gs)) g
groups_more net bounds gs i g rest e = ap (needs_of net bounds) (take_more gs i g rest e) ∙ needs_more net bounds no_needs (take i gs) g

pub groups_stop : (net : Net) (bounds : Bounds) (gs : List (List Member)) (i : ℕ) (g : List Member) (rest : List (List Member)) → drop i gs ≡ g ∷ rest
    → may_be_down bounds (needs_of net bounds (take i gs)) ≡ false → may_be_down bounds (needs_of net bounds (take (suc i) gs)) ≡ false
groups_stop net bounds gs i g rest e h = ap (may_be_down bounds) (groups_more net bounds gs i g rest e) ∙ members_stop net bounds (needs_of net bounds (take i gs)) g h
