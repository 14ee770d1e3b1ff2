-- A risk group takes out no detour of its links, so each of them is saved by its bypass.
use Rattle.std.proofs.Common.{◌≡◌, ℕ, Bool, true, false, not, ◌&&◌, ◌||◌, ◌==◌, List, [], ◌∷◌, Option, Some, None, slice_get, refl, ap, sym, ◌∙◌, true≢false}
use Rattle.std.specs.List.{filter, list_any, list_all}
use Rattle.std.specs.Option.{option_map_or}
use Rattle.std.proofs.lemmas.Bool.{and_parts}
use Rattle.wi_net.specs.declared.parts.LinkId.{LinkId}
use Rattle.wi_net.specs.LinkSet.{has, is_apart}
use Rattle.wi_net.specs.Net.{Net, widened, same_risk}
use Rattle.wi_net.specs.Network.{IsNetwork}
use Rattle.wi_net.proofs.SetLemmas.{same_link, where_has, all_at, all_from, apart_from, same_risk_flip, same_risk_on}
use Rattle.wi_plan.specs.declared.plan.Path.{Path}
use Rattle.wi_plan.specs.declared.plan.Bypass.{Bypass}
use Rattle.wi_plan.specs.declared.plan.Plan.{Plan}
use Rattle.wi_plan.specs.Plans.{is_bypass_of, are_bypasses_apart, IsPlan}
use Rattle.wi_detour.specs.Detours.{is_detour}
use Rattle.wi_protect.specs.OneWay.{inner, bypass_for, is_saved}
use Rattle.wi_protect.proofs.Protection.{several}
use Rattle.wi_bypass.specs.Bypasses.{inner_links, is_without, is_protected, unprotected, SurvivesEachGroup}
use Rattle.wi_bypass.proofs.InnerLemmas.{has_inner}

-- a risk group has no link but those that share it
in_group : (net : Net) (d f : LinkId) → has (widened net (d ∷ [])) f ≡ true → same_risk net d f ≡ true
in_group net d f h = one (same_risk net d f) (where_has net (λ e. list_any (λ c. same_risk net c e) (d ∷ [])) f h).1
  where
    one : (b : Bool) → (b || false) ≡ true → b ≡ true
    one true k = refl
    one false k = k

-- a detour of a link of the group has none of its links
detour_apart : (net : Net) (d e : LinkId) (via : List LinkId) → has (widened net (d ∷ [])) e ≡ true → is_detour net e via ≡ true → is_apart via (widened net (d ∷ [])) ≡ true
detour_apart net d e via down is = apart_from via (widened net (d ∷ [])) up
  where
    others : list_all (λ f. not (same_risk net e f)) via ≡ true
    others = (and_parts (is_bypass_of net (record { link = e; via = via })) (list_all (λ f. not (same_risk net e f)) via) is).1

    up : (f : LinkId) → has via f ≡ true → has (widened net (d ∷ [])) f ≡ false
    up f along = go (has (widened net (d ∷ [])) f) refl
      where
        go : (b : Bool) → has (widened net (d ∷ [])) f ≡ b → has (widened net (d ∷ [])) f ≡ false
        go false k = k
        go true k =
            let shared : same_risk net e f ≡ true = same_risk_on net e d f (same_risk_flip net d e (in_group net d e down)) (in_group net d f k) in
            let apart : not (same_risk net e f) ≡ true = all_at (λ g. not (same_risk net e g)) via f others along in
            absurd (true≢false (sym apart ∙ ap not shared))

no_other : (q : List LinkId → Bool) (bypasses : List Bypass) (e : LinkId) → is_without bypasses e ≡ true → list_any (λ (b : Bypass). (b.link.0 == e.0) && q b.via) bypasses ≡ false
no_other q [] e h = refl
no_other q (b ∷ bypasses) e h = go (b.link.0 == e.0) refl h (no_other q bypasses e)
  where
    go : (t : Bool) → (b.link.0 == e.0) ≡ t → is_without (b ∷ bypasses) e ≡ true → (is_without bypasses e ≡ true → list_any (λ (c : Bypass). (c.link.0 == e.0) && q c.via) bypasses ≡ false)
        → list_any (λ (c : Bypass). (c.link.0 == e.0) && q c.via) (b ∷ bypasses) ≡ false
    go true is k ih = let bad : false ≡ true = rw is at k in cc
    go false is k ih = rw is (ih (rw is at k))

-- the bypass for a link is the one that is a detour, where no two are for one link
bypass_is : (q : List LinkId → Bool) (bypasses : List Bypass) (e : LinkId) → are_bypasses_apart bypasses ≡ true → list_any (λ (b : Bypass). (b.link.0 == e.0) && q b.via) bypasses ≡ true
    → option_map_or (λ (b : Bypass). q b.via) (bypass_for bypasses e) false ≡ true
bypass_is q [] e apart h = h
bypass_is q (b ∷ bypasses) e apart h = go (b.link.0 == e.0) (q b.via) refl refl h (bypass_is q bypasses e (and_parts (is_without bypasses b.link) (are_bypasses_apart bypasses) apart).1)
  where
    go : (t u : Bool) → (b.link.0 == e.0) ≡ t → q b.via ≡ u → list_any (λ (c : Bypass). (c.link.0 == e.0) && q c.via) (b ∷ bypasses) ≡ true
        → (list_any (λ (c : Bypass). (c.link.0 == e.0) && q c.via) bypasses ≡ true → option_map_or (λ (c : Bypass). q c.via) (bypass_for bypasses e) false ≡ true)
        → option_map_or (λ (c : Bypass). q c.via) (bypass_for (b ∷ bypasses) e) false ≡ true
    go true true is passes k ih = rw is passes
    go true false is fails k ih =
        let same : b.link ≡ e = same_link b.link e is in
        let none = no_other q bypasses e (ap (λ f. is_without bypasses f) (sym same) ∙ (and_parts (is_without bypasses b.link) (are_bypasses_apart bypasses) apart).0) in
        let some : list_any (λ (c : Bypass). (c.link.0 == e.0) && q c.via) bypasses ≡ true = rw (is, fails) at k in
        absurd (true≢false (sym some ∙ none))
    go false u is test k ih = rw is (ih (rw is at k))

weaker : (p q : Bypass → Bool) → ((b : Bypass) → p b ≡ true → q b ≡ true) → (o : Option Bypass) → option_map_or p o false ≡ true → option_map_or q o false ≡ true
weaker p q less None h = h
weaker p q less (Some b) h = less b h

-- where nothing is left over, each passes
none_left : (p : LinkId → Bool) (links : List LinkId) → filter (λ e. not (p e)) links ≡ [] → list_all p links ≡ true
none_left p [] h = refl
none_left p (e ∷ links) h = go (p e) refl h (none_left p links)
  where
    go : (b : Bool) → p e ≡ b → filter (λ f. not (p f)) (e ∷ links) ≡ [] → (filter (λ f. not (p f)) links ≡ [] → list_all p links ≡ true) → list_all p (e ∷ links) ≡ true
    go true is k ih = rw is (ih (rw is at k))
    go false is k ih = let bad : e ∷ filter (λ f. not (p f)) links ≡ [] = rw is at k in cc

module _ (net : Net) (plan : Plan) (network : IsNetwork net) (is : IsPlan net plan) (none : unprotected net plan.paths plan.bypasses ≡ []) where
  saved : (p : ℕ) (path : Path) (d f : LinkId) → slice_get plan.paths p ≡ Some path → has (inner path.links) f ≡ true → is_saved plan.bypasses (widened net (d ∷ [])) f ≡ true
  saved p path d f at within = go (has (widened net (d ∷ [])) f) refl
    where
      protects : is_protected net plan.bypasses f ≡ true
      protects = all_at (is_protected net plan.bypasses) (inner_links plan.paths) f (none_left (is_protected net plan.bypasses) (inner_links plan.paths) none) (has_inner plan.paths p path f at within)

      go : (b : Bool) → has (widened net (d ∷ [])) f ≡ b → is_saved plan.bypasses (widened net (d ∷ [])) f ≡ true
      go false up = rw up refl
      go true down =
          rw down
          (weaker (λ b. is_detour net f b.via) (λ b. is_apart b.via (widened net (d ∷ []))) (λ b detour. detour_apart net d f b.via down detour) (bypass_for plan.bypasses f)
          (bypass_is (is_detour net f) plan.bypasses f is.bypasses_apart protects))

  pub survives : SurvivesEachGroup net plan
  survives p path e z d at first last up end_up =
      several net plan p path e z (widened net (d ∷ [])) network is at first last up end_up
      (all_from (is_saved plan.bypasses (widened net (d ∷ []))) (inner path.links) (λ f within. saved p path d f at within))
