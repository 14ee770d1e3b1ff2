-- Ends that may be under a set of failed links, and ends that can be.
use Rattle.std.proofs.Common.{◌≡◌, ℕ, suc, ◌+◌, Bool, true, false, not, nat_eq, nat_lt, nat_le, List, [], ◌∷◌, length, take, position, refl, arith, ap, inl, inr, sym, ◌∙◌}
use Rattle.std.specs.Prelude.{is_none}
use Rattle.std.specs.List.{filter, list_any, prefix_len}
use Rattle.std.proofs.lemmas.Bool.{eq-eqb, lt-ltb, ltb-true, ltb-false, le-ltb, le-leb, and_parts, and_from, not-true, not_from_false, or_cases, or_left, true≢false, cases_Bool}
use Rattle.std.proofs.lemmas.List.{take_all}
use Rattle.wi_net.specs.declared.parts.LinkId.{LinkId}
use Rattle.wi_net.specs.declared.parts.Member.{Member}
use Rattle.wi_net.specs.declared.bounds.Bounds.{Bounds}
use Rattle.wi_net.specs.LinkSet.{has}
use Rattle.wi_net.specs.Net.{Net, all_links, is_link, same_risk, widened, is_active, first_active, before}
use Rattle.wi_net.specs.Network.{IsNetwork}
use Rattle.wi_net.proofs.SetLemmas.{where_has, union_has, same_link}
use Rattle.wi_net.proofs.GroupLemmas.{any_link, groups_known, Witness, in_groups, none_before}
use Rattle.wi_world.specs.declared.run.Step.{Step}
use Rattle.wi_world.specs.declared.run.End.{End}
use Rattle.wi_world.specs.declared.run.End.TheVariants.{Arrives, Inactive, Undefined}
use Rattle.wi_world.specs.Moves.{Location, groups_at, is_usable, may_be_down, is_possible, is_undefined, may_end, needed_to_end, can_end, IsAllowed}
use Rattle.wi_world.specs.Runs.{used_to_end}
use Rattle.wi_world.proofs.Allowed.{before_union, within_allowed, Names, member_named, usable_possible, possible_usable, Possible, possible_down, possible_parts, groups_at_known}

-- there is no first element that passes where none passes
position_none : {X : Type 0} (p : X → Bool) (xs : List X) → is_none (position p xs) ≡ not (list_any p xs)
position_none p [] = refl
position_none p (x ∷ xs) = go (p x) (nat_lt idle (length xs)) refl refl (position_none p xs)
  where
    idle : ℕ
    idle = prefix_len (λ y. not (p y)) xs

    go : (b c : Bool) → p x ≡ b → nat_lt idle (length xs) ≡ c → is_none (position p xs) ≡ not (list_any p xs) → is_none (position p (x ∷ xs)) ≡ not (list_any p (x ∷ xs))
    go true c b later ih = rw (b, lt-ltb 0 (suc (length xs)) (omega arith)) refl
    go false true b later ih = let less = ltb-true idle (length xs) later in rw (b, lt-ltb (1 + idle) (suc (length xs)) (omega (arith, less))) (rw later at ih)
    go false false b later ih = let all = ltb-false idle (length xs) later in rw (b, le-ltb (1 + idle) (suc (length xs)) (omega (arith, all))) (rw later at ih)

-- the links of all groups have failed where none is active
inactive_failed : (net : Net) (fails : List LinkId) (gs : List (List Member)) → groups_known net gs ≡ true → widened net fails ≡ fails → is_none (first_active fails gs) ≡ true → (e : LinkId) → has (before net gs (length gs)) e ≡ true → has fails e ≡ true
inactive_failed net fails gs known u none e i =
    union_has net fails w.link e u (elim (cases_Bool (has fails w.link)) [ inl f ↦ f | inr f ↦ absurd (active f) ]) w.passes there.0
  where
    there : (is_link net e ≡ true) × (any_link (λ d. same_risk net d e) (take (length gs) gs) ≡ true)
    there = where_has net (λ x. any_link (λ d. same_risk net d x) (take (length gs) gs)) e i

    w : Witness net (λ d. same_risk net d e) gs
    w = in_groups net (λ d. same_risk net d e) gs known (ap (λ t. any_link (λ d. same_risk net d e) t) (sym (take_all (length gs) gs (omega arith))) ∙ there.1)

    active : has fails w.link ≡ false → ⊥
    active f =
        true≢false (sym (w.any (λ d. not (has fails d)) (not_from_false (has fails w.link) f))
        ∙ not-true (list_any (λ g. is_active fails g) gs) (sym (position_none (λ g. is_active fails g) gs) ∙ none))

failed_inactive : (net : Net) (fails : List LinkId) (gs : List (List Member)) → groups_known net gs ≡ true → ((e : LinkId) → has (before net gs (length gs)) e ≡ true → has fails e ≡ true) → is_none (first_active fails gs) ≡ true
failed_inactive net fails gs known into =
    position_none (λ g. is_active fails g) gs
    ∙ not_from_false (list_any (λ g. is_active fails g) gs)
    (ap (λ t. list_any (λ g. is_active fails g) t) (sym (take_all (length gs) gs (omega arith))) ∙ none_before net fails gs (length gs) known into)

none_pass : (xs : List LinkId) → filter (λ e. false) xs ≡ []
none_pass [] = refl
none_pass (x ∷ xs) = none_pass xs

-- what an end needs is a union of risk groups
pub end_union : (net : Net) (at : Location) (end : End) → widened net (needed_to_end net at end) ≡ needed_to_end net at end
end_union net at Arrives = none_pass (all_links net)
end_union net at Inactive = before_union net (groups_at net at.0 at.1) (length (groups_at net at.0 at.1))
end_union net at (Undefined step) = before_union net (groups_at net at.0 at.1) step.group

-- which may be down where the end can be
pub end_down : (net : Net) (b : Bounds) (at : Location) (end : End) → can_end net b at end ≡ true → may_be_down net b (needed_to_end net at end) ≡ true
end_down net b at Arrives h = and_from (nat_le 0 b.k) true (le-leb 0 b.k (omega arith)) refl
end_down net b at Inactive h = h
end_down net b at (Undefined step) h = possible_down net b at step ((and_parts (is_possible net b at step) (is_undefined net at step) h).0)

-- and the link that it uses is neither needed nor known to be down
pub end_spares : (net : Net) (b : Bounds) (at : Location) (end : End) (e : LinkId) → can_end net b at end ≡ true → has (used_to_end net at end) e ≡ true → (has (needed_to_end net at end) e ≡ false) × (has b.down e ≡ false)
end_spares net b at Arrives e h i = cc
end_spares net b at Inactive e h i = cc
end_spares net b at (Undefined step) e h i = (rw (sym same) p.spared, rw (sym same) p.alive)
  where
    p : Possible net b at step
    p = possible_parts net b at step ((and_parts (is_possible net b at step) (is_undefined net at step) h).0)

    its : has (p.named.member.link ∷ []) e ≡ true
    its = rw (member_named net at step p.named) at i

    same : p.named.member.link ≡ e
    same = elim (or_cases (nat_eq (p.named.member.link).0 e.0) false its) [ inl eb ↦ same_link p.named.member.link e eb | inr no_more ↦ cc ]

-- it uses its member's link
uses_own : (net : Net) (at : Location) (step : Step) (n : Names net at step) → has (used_to_end net at (Undefined step)) n.member.link ≡ true
uses_own net at step n = rw (member_named net at step n) (or_left (nat_eq (n.member.link).0 (n.member.link).0) false (eq-eqb (n.member.link).0 (n.member.link).0 refl))

-- an end that may be under an allowed set can be
pub may_can : (net : Net) (b : Bounds) (fails : List LinkId) (at : Location) (end : End) → IsNetwork net → IsAllowed net b fails → may_end net fails at end ≡ true → can_end net b at end ≡ true
may_can net b fails at Arrives k a h = refl
may_can net b fails at Inactive k a h =
    within_allowed net b fails (needed_to_end net at Inactive) a (end_union net at Inactive)
    (inactive_failed net fails (groups_at net at.0 at.1) (groups_at_known net at.0 at.1 k) a.union h)
may_can net b fails at (Undefined step) k a h =
    let p = and_parts (is_usable net fails at step) (is_undefined net at step) h in
    and_from (is_possible net b at step) (is_undefined net at step) (usable_possible net b fails at step a p.0) p.1

-- an end that can be may be where what it needs has failed, and the link that it uses hasn't
pub can_may : (net : Net) (b : Bounds) (fails : List LinkId) (at : Location) (end : End) → IsNetwork net → ((e : LinkId) → has (needed_to_end net at end) e ≡ true → has fails e ≡ true) → ((e : LinkId) → has (used_to_end net at end) e ≡ true → has fails e ≡ false) → can_end net b at end ≡ true → may_end net fails at end ≡ true
can_may net b fails at Arrives k into free h = refl
can_may net b fails at Inactive k into free h = failed_inactive net fails (groups_at net at.0 at.1) (groups_at_known net at.0 at.1 k) into
can_may net b fails at (Undefined step) k into free h =
    and_from (is_usable net fails at step) (is_undefined net at step)
    (possible_usable net fails at step k into p.named (free p.named.member.link (uses_own net at step p.named))) parts.1
  where
    parts : (is_possible net b at step ≡ true) × (is_undefined net at step ≡ true)
    parts = and_parts (is_possible net b at step) (is_undefined net at step) h

    p : Possible net b at step
    p = possible_parts net b at step parts.0
