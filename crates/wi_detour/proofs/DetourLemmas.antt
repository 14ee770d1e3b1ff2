-- The ways around a link from its source to its target are its detours.
use Rattle.std.proofs.Common.{◌≡◌, ℕ, Bool, true, false, not, ◌&&◌, List, [], ◌∷◌, length, slice_get, Some, refl, arith, ap, sym, ◌∙◌}
use Rattle.std.specs.List.{list_all}
use Rattle.std.specs.Option.{option_map_or}
use Rattle.std.proofs.lemmas.Bool.{and_parts, and_from, eqb-true, eq-eqb, lt-ltb, false_from_ne_true, not_from_false}
use Rattle.std.proofs.lemmas.Option.{slice_get_within}
use Rattle.wi_net.specs.declared.parts.LinkId.{LinkId}
use Rattle.wi_net.specs.declared.parts.Link.{Link}
use Rattle.wi_net.specs.LinkSet.{has}
use Rattle.wi_net.specs.Net.{Net, is_link, same_risk}
use Rattle.wi_net.specs.Network.{leaves}
use Rattle.wi_net.proofs.SetLemmas.{all_at, same_risk_self}
use Rattle.wi_plan.specs.Plans.{meets, reaches, is_joined, is_around, last_of, is_bypass_of}
use Rattle.wi_detour.specs.Detours.{is_detour}
use Rattle.wi_detour.specs.private.Around.{Around, IsAround, state_of, target_of, is_outside}
use Rattle.wi_detour.proofs.ExitLemmas.{leaves_link}
use Rattle.wi_detour.proofs.WayLemmas.{IsAt, LeadsOn, Leads, leads_on, on_leads, target_is}

same_state : (m n : ℕ) → state_of m ≡ state_of n → m ≡ n
same_state m n h = omega (arith, h)

is_known : (net : Net) (f : LinkId) (l : Link) → slice_get net.links f.0 ≡ Some l → is_link net f ≡ true
is_known net f l at = lt-ltb f.0 (length net.links) (slice_get_within net.links f.0 l at)

module _ (a : Around) (is : IsAround a) where
  -- links that are joined, outside the risk group, up to the target
  record AreJoined (via : List LinkId) : Type 0 where
    pub known : list_all (is_link a.net) via ≡ true
    pub joined : is_joined a.net via ≡ true
    pub last : option_map_or (λ v. reaches a.net a.ends.to v) (last_of via) false ≡ true
    pub outside : list_all (is_outside a) via ≡ true

  joined_ways : (via : List LinkId) (p : ℕ) (f : LinkId) → Leads a p (f ∷ via) → AreJoined (f ∷ via)
  joined_ways [] p f h =
      let on : LeadsOn a p f = leads_on a p f h.0 in
      let there : on.link.to.0 ≡ a.ends.to.0 = same_state _ _ (ap state_of (sym (target_is a f on.link on.is)) ∙ h.1) in
      record {
        known = and_from (is_link a.net f) true (is_known a.net f on.link on.is) refl;
        joined = refl;
        last = rw on.is (eq-eqb on.link.to.0 a.ends.to.0 there);
        outside = and_from (is_outside a f) true on.outside refl;
      }
  joined_ways (g ∷ via) p f h =
      let on : LeadsOn a p f = leads_on a p f h.0 in
      let next : LeadsOn a (state_of (target_of a.net f)) g = leads_on a (state_of (target_of a.net f)) g h.1.0 in
      let rest : AreJoined (g ∷ via) = joined_ways via (state_of (target_of a.net f)) g h.1 in
      let meet : next.link.from.0 ≡ on.link.to.0 = next.from ∙ target_is a f on.link on.is in
      let met : meets a.net f g ≡ true = rw (on.is, next.is) (eq-eqb next.link.from.0 on.link.to.0 meet) in
      record {
        known = and_from (is_link a.net f) (list_all (is_link a.net) (g ∷ via)) (is_known a.net f on.link on.is) rest.known;
        joined = and_from (meets a.net f g) (is_joined a.net (g ∷ via)) met rest.joined;
        last = rest.last;
        outside = and_from (is_outside a f) (list_all (is_outside a) (g ∷ via)) on.outside rest.outside;
      }

  ways_joined : (via : List LinkId) (p : ℕ) (f : LinkId) (l : Link) → slice_get a.net.links f.0 ≡ Some l → IsAt a p l.from.0 → AreJoined (f ∷ via) → Leads a p (f ∷ via)
  ways_joined [] p f l at from h =
      let out = and_parts (is_outside a f) true h.outside in
      let there : l.to.0 ≡ a.ends.to.0 = eqb-true l.to.0 a.ends.to.0 (rw at at h.last) in
      (on_leads a is p f (record { link = l; is = at; from = from; outside = out.0 }), ap state_of (target_is a f l at ∙ there))
  ways_joined (g ∷ via) p f l at from h =
      let out = and_parts (is_outside a f) (list_all (is_outside a) (g ∷ via)) h.outside in
      let all = and_parts (is_link a.net f) (list_all (is_link a.net) (g ∷ via)) h.known in
      let both = and_parts (meets a.net f g) (is_joined a.net (g ∷ via)) h.joined in
      let next = leaves_link a.net l.to.0 g (rw at at both.0) in (
        on_leads a is p f (record { link = l; is = at; from = from; outside = out.0 }),
        ways_joined via (state_of (target_of a.net f)) g next.0 next.1 (next.2 ∙ sym (target_is a f l at)) (record { known = all.1; joined = both.1; last = h.last; outside = out.1 }),
      )

  -- a link is in its own risk group
  not_itself : (via : List LinkId) → list_all (is_outside a) via ≡ true → has via a.link ≡ false
  not_itself via out = false_from_ne_true (has via a.link) (λ h.
      own (same_risk a.net a.link a.link) (same_risk_self a.net a.link) (all_at (is_outside a) via a.link out h))
    where
      own : (b : Bool) → b ≡ true → not b ≡ true → ⊥
      own true e h = cc
      own false e h = cc

  pub ways_are_detours : (via : List LinkId) → Leads a 0 via → is_detour a.net a.link via ≡ true
  ways_are_detours [] h = absurd (omega (arith, h))
  ways_are_detours (f ∷ via) h =
      let on : LeadsOn a 0 f = leads_on a 0 f h.0 in
      let parts : AreJoined (f ∷ via) = joined_ways via 0 f h in
      let first : leaves a.net a.ends.from f ≡ true = rw on.is (eq-eqb on.link.from.0 a.ends.from.0 on.from) in
      let around : is_around a.net a.link (f ∷ via) ≡ true = rw is.is (and_from (leaves a.net a.ends.from f) (option_map_or (λ v. reaches a.net a.ends.to v) (last_of (f ∷ via)) false) first parts.last) in
      let apart : not (has (f ∷ via) a.link) ≡ true = not_from_false (has (f ∷ via) a.link) (not_itself (f ∷ via) parts.outside) in
      and_from (is_bypass_of a.net (record { link = a.link; via = f ∷ via })) (list_all (is_outside a) (f ∷ via))
      (and_from (is_link a.net a.link) _ (is_known a.net a.link a.ends is.is)
      (and_from (list_all (is_link a.net) (f ∷ via)) _ parts.known
      (and_from (is_joined a.net (f ∷ via)) _ parts.joined
      (and_from (is_around a.net a.link (f ∷ via)) (not (has (f ∷ via) a.link)) around apart))))
      parts.outside

  pub detours_are_ways : (via : List LinkId) → is_detour a.net a.link via ≡ true → Leads a 0 via
  detours_are_ways via h =
      let whole = and_parts (is_bypass_of a.net (record { link = a.link; via = via })) (list_all (is_outside a) via) h in
      let one = and_parts (is_link a.net a.link) (list_all (is_link a.net) via && (is_joined a.net via && (is_around a.net a.link via && not (has via a.link)))) whole.0 in
      let two = and_parts (list_all (is_link a.net) via) (is_joined a.net via && (is_around a.net a.link via && not (has via a.link))) one.1 in
      let three = and_parts (is_joined a.net via) (is_around a.net a.link via && not (has via a.link)) two.1 in
      let four = and_parts (is_around a.net a.link via) (not (has via a.link)) three.1 in
      go via two.0 three.0 four.0 whole.1
    where
      go : (via : List LinkId) → list_all (is_link a.net) via ≡ true → is_joined a.net via ≡ true → is_around a.net a.link via ≡ true → list_all (is_outside a) via ≡ true → Leads a 0 via
      go [] known joined around out = none (rw is.is at around)
        where
          none : false ≡ true → Leads a 0 []
          none e = cc
      go (f ∷ via) known joined around out =
          let ends = and_parts (leaves a.net a.ends.from f) (option_map_or (λ v. reaches a.net a.ends.to v) (last_of (f ∷ via)) false) (rw is.is at around) in
          let first = leaves_link a.net a.ends.from.0 f ends.0 in
          ways_joined via 0 f first.0 first.1 first.2 (record { known = known; joined = joined; last = ends.1; outside = out })
