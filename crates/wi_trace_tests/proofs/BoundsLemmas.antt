-- What makes bounds.
use Rattle.std.proofs.Common.{◌≡◌, true, refl, List, [], ◌∷◌, length}
use Rattle.std.specs.List.{list_any}
use Rattle.wi_net.specs.declared.parts.LinkId.{LinkId}
use Rattle.wi_net.specs.LinkSet.{is_apart}
use Rattle.wi_net.specs.Net.{Net, same_risk, widened}
use Rattle.wi_net.proofs.SetLemmas.{any_in, in_any, apart_from, same_risk_on}
use Rattle.wi_net.proofs.CountLemmas.{union_from}

-- a union of risk groups is one already
pub widened_twice : (net : Net) (s : List LinkId) → widened net (widened net s) ≡ widened net s
widened_twice net s =
    union_from net (λ e. list_any (λ d. same_risk net d e) s)
    (λ x e kx ke px r.
    let found = in_any (λ d. same_risk net d x) s px in
    any_in (λ d. same_risk net d e) s found.0 found.1 (same_risk_on net found.0 x e found.2 r))

pub is_union : (net : Net) (s t : List LinkId) → t ≡ widened net s → widened net t ≡ t
is_union net s t e = rw e (widened_twice net s)

-- where one of two sets has no link, no link is in both
pub none_first : (s t : List LinkId) → length s ≡ 0 → is_apart s t ≡ true
none_first [] t h = refl
none_first (d ∷ s) t h = cc

pub none_second : (s t : List LinkId) → length t ≡ 0 → is_apart s t ≡ true
none_second s [] h = apart_from s [] (λ e i. refl)
none_second s (d ∷ t) h = cc
