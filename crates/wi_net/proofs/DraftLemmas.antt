-- The fields of a builder after a call are those of a draft that is kept.
use Rattle.std.proofs.Common.{◌≡◌, ℕ, ◌^◌, ◌<◌, true, false, List, [], ◌∷◌, ◌++◌, length, position, Option, Some, None, Ok, refl, sym, subst}
use Rattle.std.specs.Prelude.{is_some}
use Rattle.std.specs.List.{list_all}
use Rattle.wi_labels.specs.declared.label.Class.{Class}
use Rattle.wi_net.specs.declared.parts.RouterId.{RouterId}
use Rattle.wi_net.specs.declared.parts.LinkId.{LinkId}
use Rattle.wi_net.specs.declared.parts.Link.{Link}
use Rattle.wi_net.specs.Names.{is_name, place, number_of, with_name}
use Rattle.wi_net.specs.Ends.{is_out, is_in}
use Rattle.wi_net.specs.Network.{is_no_later}
use Rattle.wi_net.specs.Builder.{Draft, link_ends, named_with, firsts_with, first_in}
use Rattle.wi_net.specs.private.Builder.{IsDraft}
use Rattle.wi_net.proofs.KeptLemmas.{router_kept, label_kept, link_kept, free_ends}

-- what isn't there is nothing
pub none_there : {A : Type 0} (o : Option A) → false ≡ is_some o → o ≡ None
none_there None e = refl
none_there (Some x) e = cc

-- a router more
pub router_done : (d : Draft) (name : List ℕ) (routers : List (List ℕ)) → IsDraft d → length d.net.routers < 10000 → true ≡ is_name name → place d.net.routers name ≡ None → routers ≡ d.net.routers ++ name ∷ [] → IsDraft (record d { net = record d.net { routers = routers } })
router_done d name routers k few named free is =
    let P : List (List ℕ) → Type 0 = λ rs. IsDraft (record d { net = record d.net { routers = rs } }) in
    subst P (sym is) (router_kept d name k few (sym named) free)

-- a label more
pub label_done : (d : Draft) (class : Class) (name : List ℕ) (labels : List (List ℕ)) (classes : List Class) → IsDraft d → list_all (λ c. is_no_later c class) d.net.classes ≡ true → length d.net.labels < 20000 → true ≡ is_name name → place d.net.labels name ≡ None
    → labels ≡ d.net.labels ++ name ∷ [] → classes ≡ d.net.classes ++ class ∷ [] → IsDraft (record d { net = record d.net { labels = labels; classes = classes } })
label_done d class name labels classes k order few named free labels_are classes_are =
    let P : List (List ℕ) → Type 0 = λ ls. IsDraft (record d { net = record d.net { labels = ls; classes = classes } }) in
    let Q : List Class → Type 0 = λ cs. IsDraft (record d { net = record d.net { labels = d.net.labels ++ name ∷ []; classes = cs } }) in
    subst P (sym labels_are) (subst Q (sym classes_are) (label_kept d class name k order few (sym named) free))

-- a link more: its ends are free
pub out_done : (d : Draft) (from out to into : List ℕ) (group : Option (List ℕ)) (ends : RouterId × RouterId) (interfaces : List (List ℕ)) (links : List Link) (text : List ℕ) (n : ℕ) → IsDraft d → link_ends d from out to into group ≡ Ok ends
    → interfaces ≡ d.net.interfaces → links ≡ d.net.links → text ≡ out → n ≡ number_of interfaces text → position (is_out ends.0 (record { 0 = n })) links ≡ None
out_done d from out to into group ends interfaces links text n k e same kept is number = rw (number, same, kept, is) ((free_ends d from out to into group ends k e).0)

pub in_done : (d : Draft) (from out to into : List ℕ) (group : Option (List ℕ)) (ends : RouterId × RouterId) (interfaces mid : List (List ℕ)) (links : List Link) (text in_text : List ℕ) (n : ℕ) → IsDraft d → link_ends d from out to into group ≡ Ok ends
    → interfaces ≡ d.net.interfaces → links ≡ d.net.links → text ≡ out → in_text ≡ into → mid ≡ with_name interfaces text → n ≡ number_of mid in_text → position (is_in ends.1 (record { 0 = n })) links ≡ None
in_done d from out to into group ends interfaces mid links text in_text n k e same kept is in_is put number = rw (number, put, same, kept, is, in_is) ((free_ends d from out to into group ends k e).1)

-- the links and names after it
pub link_done : (d : Draft) (from out to into : List ℕ) (distance : ℕ) (group : Option (List ℕ)) (ends : RouterId × RouterId) → IsDraft d → distance < 2 ^ 32 → link_ends d from out to into group ≡ Ok ends
    → (interfaces mid last named named_after : List (List ℕ)) (links after : List Link) (firsts firsts_after : List LinkId) (text in_text : List ℕ) (group_text : Option (List ℕ)) (number n m : ℕ) (risk : LinkId)
    → interfaces ≡ d.net.interfaces → links ≡ d.net.links → named ≡ d.named → firsts ≡ d.firsts → text ≡ out → in_text ≡ into → group_text ≡ group
    → number ≡ length links → n ≡ number_of interfaces text → mid ≡ with_name interfaces text → m ≡ number_of mid in_text → last ≡ with_name mid in_text
    → risk ≡ first_in named firsts (record { 0 = number }) group_text → named_after ≡ named_with named group_text → firsts_after ≡ firsts_with named firsts (record { 0 = number }) group_text
    → after ≡ links ++ record { from = ends.0; out_if = record { 0 = n }; to = ends.1; in_if = record { 0 = m }; distance = distance; risk = risk } ∷ []
    → IsDraft (record { net = record d.net { interfaces = last; links = after }; named = named_after; firsts = firsts_after })
link_done d from out to into distance group ends k small e interfaces mid last named named_after links after firsts firsts_after text in_text group_text number n m risk
    same kept named_same firsts_same is in_is group_is counted out_number put in_number put_in first named_is firsts_is added =
    rw (added, firsts_is, named_is, first, put_in, in_number, put, out_number, counted, group_is, in_is, is, firsts_same, named_same, kept, same) (link_kept d from out to into distance group ends k small e)
