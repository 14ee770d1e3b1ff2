-- A union of risk groups with one link more, widened, is the union with the link's risk group.
use Rattle.std.proofs.Common.{◌≡◌, true, ◌||◌, nat_eq, List, refl, inl, inr, sym, ◌∙◌}
use Rattle.std.proofs.lemmas.Bool.{eq-eqb, or_cases, or_left, or_right}
use Rattle.std.specs.List.{list_any}
use Rattle.wi_net.specs.declared.parts.LinkId.{LinkId}
use Rattle.wi_net.specs.LinkSet.{has, with_link}
use Rattle.wi_net.specs.Net.{Net, all_links, is_link, same_risk, widened, with_risk}
use Rattle.wi_net.proofs.SetLemmas.{has-all_links, any_in, in_any, union_has, same_link, same_risk_self}
use Rattle.wi_net.proofs.CountLemmas.{filter_same, bool_same}
use Rattle.wi_net.proofs.WidenLemmas.{has-with_link}

pub widened_with : (net : Net) (s : List LinkId) (e : LinkId) → widened net s ≡ s → widened net (with_link s e) ≡ with_risk net s e
widened_with net s e u =
    filter_same (λ x. list_any (λ d. same_risk net d x) (with_link s e)) (λ x. has s x || same_risk net e x) (all_links net)
    (λ x listed.
    let known : is_link net x ≡ true = sym (has-all_links net x) ∙ listed in
    bool_same (list_any (λ d. same_risk net d x) (with_link s e)) (has s x || same_risk net e x)
    (λ any.
    let found = in_any (λ d. same_risk net d x) (with_link s e) any in
    elim (or_cases (has s found.0) (nat_eq e.0 (found.0).0) (sym (has-with_link s e found.0) ∙ found.1)) [
      | inl old ↦ or_left (has s x) (same_risk net e x) (union_has net s found.0 x u old found.2 known)
      | inr is ↦ or_right (has s x) (same_risk net e x) (rw (same_link e found.0 is) found.2)
    ])
    (λ either. elim (or_cases (has s x) (same_risk net e x) either) [
      | inl old ↦ any_in (λ d. same_risk net d x) (with_link s e) x (has-with_link s e x ∙ or_left (has s x) (nat_eq e.0 x.0) old)
          (same_risk_self net x)
      | inr r ↦ any_in (λ d. same_risk net d x) (with_link s e) e
          (has-with_link s e e ∙ or_right (has s e) (nat_eq e.0 e.0) (eq-eqb e.0 e.0 refl)) r
    ]))
