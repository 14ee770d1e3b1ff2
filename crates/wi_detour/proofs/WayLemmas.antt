-- Ways around a link, one link at a time.
use Rattle.std.proofs.Common.{◌≡◌, ℕ, zero, suc, ◌<◌, true, ◌==◌, List, [], ◌∷◌, length, get_or, slice_get, Some, refl, arith, ap, sym, ◌∙◌}
use Rattle.std.proofs.lemmas.Bool.{and_parts, and_from, eq-eqb, lt-ltb, or_left, or_right}
use Rattle.std.proofs.lemmas.Option.{slice_get_within}
use Rattle.wi_net.specs.declared.parts.LinkId.{LinkId}
use Rattle.wi_net.specs.declared.parts.Link.{Link}
use Rattle.wi_net.specs.LinkSet.{has}
use Rattle.wi_net.specs.Net.{is_link}
use Rattle.wi_net.proofs.SetLemmas.{has-filter}
use Rattle.wi_detour.specs.Graphs.{exits_of}
use Rattle.wi_detour.specs.private.Exits.{exits_in}
use Rattle.wi_detour.specs.private.Around.{Around, IsAround, state_of, target_of, is_outside, exits_at, links_on}
use Rattle.wi_detour.proofs.ExitLemmas.{exit_link, link_exit}

-- a state is at a router
abbrev pub IsAt : Around → ℕ → ℕ → Type 0
IsAt a zero r = r ≡ a.ends.from.0
IsAt a (suc zero) r = ⊥
IsAt a (suc (suc s)) r = r ≡ s

-- a link leads on from a state
pub record LeadsOn (a : Around) (p : ℕ) (f : LinkId) : Type 0 where
  pub link : Link
  pub is : slice_get a.net.links f.0 ≡ Some link
  pub from : IsAt a p link.from.0
  pub outside : is_outside a f ≡ true

-- links lead from a state to the target of the link that is gone around
abbrev pub Leads : Around → ℕ → List LinkId → Type 0
Leads a p [] = p ≡ state_of a.ends.to.0
Leads a p (f ∷ via) = (has (links_on a p) f ≡ true) × Leads a (state_of (target_of a.net f)) via

module _ (a : Around) where
  exit_at : (p : ℕ) (f : LinkId) → has (exits_at a p) f ≡ true → (l : Link) × (slice_get a.net.links f.0 ≡ Some l) × IsAt a p l.from.0
  exit_at zero f h = exit_link a.net a.ends.from.0 f h
  exit_at (suc zero) f h = cc
  exit_at (suc (suc r)) f h = exit_link a.net r f h

  -- the links that lead on from a state are those that its rules go along
  pub leads_on : (p : ℕ) (f : LinkId) → has (links_on a p) f ≡ true → LeadsOn a p f
  leads_on p f h =
      let parts = and_parts (has (exits_at a p) f) (is_outside a f) (sym (has-filter (is_outside a) (exits_at a p) f) ∙ h) in
      let exit = exit_at p f parts.0 in
      record { link = exit.0; is = exit.1; from = exit.2; outside = parts.1 }

  module _ (is : IsAround a) where
    at_exit : (p : ℕ) (f : LinkId) (l : Link) → slice_get a.net.links f.0 ≡ Some l → IsAt a p l.from.0 → has (exits_at a p) f ≡ true
    at_exit zero f l at from = ap (λ r. has (exits_in (exits_of a.net) r) f) (sym from) ∙ link_exit a.net f l is.network at
    at_exit (suc zero) f l at from = absurd from
    at_exit (suc (suc r)) f l at from = ap (λ r. has (exits_in (exits_of a.net) r) f) (sym from) ∙ link_exit a.net f l is.network at

    pub on_leads : (p : ℕ) (f : LinkId) → LeadsOn a p f → has (links_on a p) f ≡ true
    on_leads p f h =
        has-filter (is_outside a) (exits_at a p) f
        ∙ and_from (has (exits_at a p) f) (is_outside a f) (at_exit p f h.link h.is h.from) h.outside

  -- where a link leads
  pub target_is : (f : LinkId) (l : Link) → slice_get a.net.links f.0 ≡ Some l → target_of a.net f ≡ l.to.0
  target_is f l at = rw at refl

-- a link that leaves the router of a state is the network's
pub exit_known : (a : Around) (p : ℕ) (exits : List LinkId) (i : ℕ) (d : LinkId) → exits ≡ exits_at a p → i < length exits → is_link a.net (get_or exits i d) ≡ true
exit_known a p exits i d is lt =
    let exit = exit_at a p (get_or exits i d) (ap (λ s. has s (get_or exits i d)) (sym is) ∙ has_item exits i d lt) in
    lt-ltb (get_or exits i d).0 (length a.net.links) (slice_get_within a.net.links (get_or exits i d).0 exit.0 exit.1)
  where
    has_item : (xs : List LinkId) (i : ℕ) (d : LinkId) → i < length xs → has xs (get_or xs i d) ≡ true
    has_item [] i d lt = absurd (omega arith)
    has_item (x ∷ xs) zero d lt = or_left (x.0 == x.0) (has xs x) (eq-eqb x.0 x.0 refl)
    has_item (x ∷ xs) (suc i) d lt = or_right (x.0 == (get_or xs i d).0) (has xs (get_or xs i d)) (has_item xs i d (omega arith))
