-- Classes in the order in which their labels are listed.
use Rattle.std.proofs.Common.{◌≡◌, true, List, [], ◌∷◌, ◌++◌, refl}
use Rattle.std.specs.List.{list_all}
use Rattle.wi_labels.specs.declared.label.Class.{Class}
use Rattle.wi_labels.specs.declared.label.Class.TheVariants.{Mpls, Smpls, Ip}
use Rattle.wi_net.specs.Network.{is_no_later}
use Rattle.wi_net.proofs.GroupLemmas.{all_weaken}
use Rattle.wi_net.proofs.KeptLists.{all_push}

not_later : (class : Class) → is_no_later class class ≡ true
not_later Mpls = refl
not_later Smpls = refl
not_later Ip = refl

-- one class more, which no one is later than
pub one_later : (class : Class) (classes : List Class) → list_all (λ c. is_no_later c class) classes ≡ true → list_all (λ c. is_no_later c class) (classes ++ class ∷ []) ≡ true
one_later class classes all = all_push (λ c. is_no_later c class) classes class all (not_later class)

no_later_smpls : (c : Class) → is_no_later c Mpls ≡ true → is_no_later c Smpls ≡ true
no_later_smpls Mpls h = refl
no_later_smpls Smpls h = refl
no_later_smpls Ip h = cc

no_later_ip : (c : Class) → is_no_later c Smpls ≡ true → is_no_later c Ip ≡ true
no_later_ip Mpls h = refl
no_later_ip Smpls h = refl
no_later_ip Ip h = refl

pub then_smpls : (classes : List Class) → list_all (λ c. is_no_later c Mpls) classes ≡ true → list_all (λ c. is_no_later c Smpls) classes ≡ true
then_smpls classes all = all_weaken (λ c. is_no_later c Mpls) (λ c. is_no_later c Smpls) classes no_later_smpls all

pub then_ip : (classes : List Class) → list_all (λ c. is_no_later c Smpls) classes ≡ true → list_all (λ c. is_no_later c Ip) classes ≡ true
then_ip classes all = all_weaken (λ c. is_no_later c Smpls) (λ c. is_no_later c Ip) classes no_later_ip all
