-- Risk groups counted in two parts: those outside a set in the middle, and those of it.
use Rattle.std.proofs.Common.{◌≡◌, ◌+◌, Bool, true, false, not, cond, ◌&&◌, nat_eq, List, length, refl, arith, ap, sym, ◌∙◌}
use Rattle.std.proofs.lemmas.Bool.{true≢false}
use Rattle.std.proofs.lemmas.List.Filters.{sum_by-filter_both}
use Rattle.std.proofs.lemmas.List.Sums.{length-filter}
use Rattle.std.specs.List.{filter, list_any}
use Rattle.wi_net.specs.declared.parts.LinkId.{LinkId}
use Rattle.wi_net.specs.LinkSet.{has, is_rising, is_within, outside}
use Rattle.wi_net.specs.Net.{Net, risk_of, same_risk, widened, risk_count}
use Rattle.wi_net.proofs.SetLemmas.{has-filter, within_has}
use Rattle.wi_net.proofs.RisingLemmas.{filter_rising, rising_same}
use Rattle.wi_net.proofs.WidenLemmas.{union_rising}

pub union_rises : (net : Net) (s : List LinkId) → widened net s ≡ s → is_rising s ≡ true
union_rises net s u = ap is_rising (sym u) ∙ union_rising (λ e. list_any (λ d. same_risk net d e) s) (length net.links)

-- what a set has of another one, and what it has besides
count_both : (net : Net) (s t : List LinkId)
    → risk_count net (filter (λ e. has t e) s) + risk_count net (outside s t) ≡ risk_count net s
count_both net s t =
    let names : LinkId → Bool = λ e. nat_eq (risk_of net e).0 e.0 in
    let here = length-filter names (filter (λ e. has t e) s) in
    let besides = length-filter names (outside s t) in
    let all = length-filter names s in
    let both = sum_by-filter_both (λ e. has t e) (λ e. not (has t e)) (λ e. refl) (λ e. cond (names e) 1 0) s in
    omega (arith, here, besides, all, both)

in_middle : (s m d : Bool) → (m ≡ true → s ≡ true) → ((s && not d) && m) ≡ (m && not d)
in_middle true true true ms = refl
in_middle true true false ms = refl
in_middle true false true ms = refl
in_middle true false false ms = refl
in_middle false true d ms = absurd (true≢false (sym (ms refl)))
in_middle false false d ms = refl

past_middle : (s m d : Bool) → (d ≡ true → m ≡ true) → ((s && not d) && not m) ≡ (s && not m)
past_middle true true true dm = refl
past_middle true true false dm = refl
past_middle true false true dm = absurd (true≢false (sym (dm refl)))
past_middle true false false dm = refl
past_middle false m d dm = refl

outside_has : (s t : List LinkId) (e : LinkId) → has (outside s t) e ≡ (has s e && not (has t e))
outside_has s t e = has-filter (λ x. not (has t x)) s e

outside_rises : (s t : List LinkId) → is_rising s ≡ true → is_rising (outside s t) ≡ true
outside_rises s t r = filter_rising (λ e. not (has t e)) s r

-- of sets within each other, the risk groups of the largest outside the least are those in two parts
pub count_parts : (net : Net) (s mid down : List LinkId) → widened net s ≡ s → widened net mid ≡ mid → is_within down mid ≡ true
    → is_within mid s ≡ true → risk_count net (outside s down) ≡ risk_count net (outside s mid) + risk_count net (outside mid down)
count_parts net s mid down us um dm ms =
    let both = count_both net (outside s down) mid in
    let within = ap (risk_count net) middle in
    let beyond = ap (risk_count net) past in
    omega (arith, both, within, beyond)
  where
    rises : is_rising (outside s down) ≡ true
    rises = outside_rises s down (union_rises net s us)

    middle : filter (λ e. has mid e) (outside s down) ≡ outside mid down
    middle =
        rising_same (filter (λ e. has mid e) (outside s down)) (outside mid down)
        (filter_rising (λ e. has mid e) (outside s down) rises) (outside_rises mid down (union_rises net mid um))
        (λ e. has-filter (λ x. has mid x) (outside s down) e ∙ ap (λ b. b && has mid e) (outside_has s down e)
        ∙ in_middle (has s e) (has mid e) (has down e) (within_has mid s e ms) ∙ sym (outside_has mid down e))

    past : outside (outside s down) mid ≡ outside s mid
    past =
        rising_same (outside (outside s down) mid) (outside s mid)
        (outside_rises (outside s down) mid rises) (outside_rises s mid (union_rises net s us))
        (λ e. outside_has (outside s down) mid e ∙ ap (λ b. b && not (has mid e)) (outside_has s down e)
        ∙ past_middle (has s e) (has mid e) (has down e) (within_has down mid e dm) ∙ sym (outside_has s mid e))
