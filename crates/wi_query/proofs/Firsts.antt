-- The first of the names that a network hasn't.
use Rattle.std.proofs.Common.{◌≡◌, ℕ, Bool, List, [], ◌∷◌, ◌++◌, Option, Some, None, refl, sym, ap, subst, ◌∙◌}
use Rattle.std.specs.Prelude.{is_some}
use Rattle.std.specs.List.{flat_map}
use Rattle.wi_net.specs.declared.parts.RouterId.{RouterId}
use Rattle.wi_net.specs.declared.parts.LinkId.{LinkId}
use Rattle.wi_net.specs.Net.{Net}
use Rattle.wi_net.specs.Finding.{find_router}
use Rattle.wi_syntax.specs.Names.{Named}
use Rattle.wi_syntax.specs.declared.written.LabelAtom.{LabelAtom}
use Rattle.wi_syntax.specs.declared.written.LinkAtom.{LinkAtom}
use Rattle.wi_syntax.specs.declared.written.Sign.{Sign}
use Rattle.wi_syntax.specs.declared.written.Written.{Written}
use Rattle.wi_syntax.specs.declared.written.End.{End}
use Rattle.wi_syntax.specs.declared.written.End.TheVariants as end
use Rattle.wi_query.specs.Last.{last_signs}
use Rattle.wi_query.specs.Unknown.{Kind, ARouter, AnInterface, Unknown, unless, unknown_in_end, unknown_in_sign, unknown_in_label_atom, unknown_in_link_atom, unknown_in_known, unknown_in}
use Rattle.wi_query.specs.private.Names.{IsFirst}
use Rattle.wi_query.specs.declared.fault.QueryFault.{QueryFault}
use Rattle.wi_query.specs.declared.fault.QueryFault.TheVariants.{Memory, UnknownLabel, UnknownRouter, UnknownInterface}

-- it is told whatever comes after
pub first_before : (us vs : List Unknown) (f : QueryFault) → IsFirst us f → IsFirst (us ++ vs) f
first_before us vs Memory h = tt
first_before us vs (UnknownLabel at text) h = (h.0, h.1 ++ vs, ap (λ (s : List Unknown). s ++ vs) h.2)
first_before us vs (UnknownRouter at text) h = (h.0, h.1 ++ vs, ap (λ (s : List Unknown). s ++ vs) h.2)
first_before us vs (UnknownInterface at text) h = (h.0, h.1 ++ vs, ap (λ (s : List Unknown). s ++ vs) h.2)
first_before us vs f h = absurd h

pub first_in : (us vs ws : List Unknown) (f : QueryFault) → ws ≡ us ++ vs → IsFirst us f → IsFirst ws f
first_in us vs ws f e h = rw e (first_before us vs f h)

pub first_after : (us vs : List Unknown) (f : QueryFault) → us ≡ [] → IsFirst vs f → IsFirst (us ++ vs) f
first_after us vs f e h = rw e h

-- where a name is told
pub told : (kind : Kind) (name : Named) (at : ℕ) (text : List ℕ) → at ≡ name.at → text ≡ name.text → (quoted : Bool) × (rest : List Unknown) × ((kind, name) ∷ [] ≡ (kind, record { at = at; quoted = quoted; text = text }) ∷ rest)
told kind name at text ea et = (name.quoted, [], rw (ea, et) refl)

-- no link leaves, or reaches, a router by an interface
no_interface : (net : Net) (find : RouterId → List ℕ → Option LinkId) (router interface : Named) (id : RouterId) → find_router net router.text ≡ Some id → find id interface.text ≡ None → unknown_in_end net find (end.Interface router interface) ≡ (AnInterface, interface) ∷ []
no_interface net find router interface id found absent = go (find_router net router.text) found
  where
    go : (o : Option RouterId) → o ≡ Some id → ◌≡◌ {A = List Unknown} (elim o [ None ↦ (ARouter, router) ∷ [] | Some k ↦ unless (is_some (find k interface.text)) AnInterface interface ]) ((AnInterface, interface) ∷ [])
    go (Some k) e = let same : k ≡ id = cc in rw (same, absent) refl
    go None e = cc

pub interface_told : (net : Net) (find : RouterId → List ℕ → Option LinkId) (place : End) (router interface : Named) (id : RouterId) (shown : List ℕ) (at : ℕ) (text : List ℕ)
    → place ≡ end.Interface router interface → find_router net router.text ≡ Some id → shown ≡ interface.text → find id shown ≡ None → at ≡ interface.at → text ≡ interface.text
    → (quoted : Bool) × (rest : List Unknown) × (unknown_in_end net find place ≡ (AnInterface, record { at = at; quoted = quoted; text = text }) ∷ rest)
interface_told net find place router interface id shown at text is found same absent ea et =
    let P : List ℕ → Type 0 = λ s. find id s ≡ None in let none : find id interface.text ≡ None = subst P same absent in
    rw (is, no_interface net find router interface id found none) (told AnInterface interface at text ea et)

-- the names of a query, place by place
abbrev label_names : Net → List (Sign LabelAtom) → List Unknown
label_names net signs = flat_map (unknown_in_sign (unknown_in_label_atom net)) signs

abbrev link_names : Net → List (Sign LinkAtom) → List Unknown
link_names net signs = flat_map (unknown_in_sign (unknown_in_link_atom net)) signs

pub in_first : (net : Net) (w : Written) (first : List (Sign LabelAtom)) (f : QueryFault) → first ≡ w.first → IsFirst (flat_map (unknown_in_sign (unknown_in_label_atom net)) first) f → IsFirst (unknown_in net w) f
in_first net w first f e1 h =
    let P : List (Sign LabelAtom) → Type 0 = λ s. IsFirst (label_names net s) f in
    first_before (label_names net w.first) (link_names net w.path ++ (label_names net (last_signs w.last) ++ (unknown_in_known net w.down ++ unknown_in_known net w.up))) f (subst P e1 h)

pub in_path : (net : Net) (w : Written) (first : List (Sign LabelAtom)) (path : List (Sign LinkAtom)) (f : QueryFault) → first ≡ w.first → path ≡ w.path
    → flat_map (unknown_in_sign (unknown_in_label_atom net)) first ≡ [] → IsFirst (flat_map (unknown_in_sign (unknown_in_link_atom net)) path) f → IsFirst (unknown_in net w) f
in_path net w first path f e1 e2 k1 h =
    let P : List (Sign LinkAtom) → Type 0 = λ s. IsFirst (link_names net s) f in
    let rest : List Unknown = label_names net (last_signs w.last) ++ (unknown_in_known net w.down ++ unknown_in_known net w.up) in
    first_after (label_names net w.first) (link_names net w.path ++ rest) f (ap (λ s. label_names net s) (sym e1) ∙ k1) (first_before (link_names net w.path) rest f (subst P e2 h))

pub in_last : (net : Net) (w : Written) (first : List (Sign LabelAtom)) (path : List (Sign LinkAtom)) (f : QueryFault) → first ≡ w.first → path ≡ w.path
    → flat_map (unknown_in_sign (unknown_in_label_atom net)) first ≡ [] → flat_map (unknown_in_sign (unknown_in_link_atom net)) path ≡ [] → IsFirst (flat_map (unknown_in_sign (unknown_in_label_atom net)) (last_signs w.last)) f → IsFirst (unknown_in net w) f
in_last net w first path f e1 e2 k1 k2 h =
    let rest : List Unknown = unknown_in_known net w.down ++ unknown_in_known net w.up in
    first_after (label_names net w.first) (link_names net w.path ++ (label_names net (last_signs w.last) ++ rest)) f (ap (λ s. label_names net s) (sym e1) ∙ k1)
    (first_after (link_names net w.path) (label_names net (last_signs w.last) ++ rest) f (ap (λ s. link_names net s) (sym e2) ∙ k2)
    (first_before (label_names net (last_signs w.last)) rest f h))

pub in_down : (net : Net) (w : Written) (first : List (Sign LabelAtom)) (path : List (Sign LinkAtom)) (f : QueryFault) → first ≡ w.first → path ≡ w.path
    → flat_map (unknown_in_sign (unknown_in_label_atom net)) first ≡ [] → flat_map (unknown_in_sign (unknown_in_link_atom net)) path ≡ [] → flat_map (unknown_in_sign (unknown_in_label_atom net)) (last_signs w.last) ≡ []
    → IsFirst (unknown_in_known net w.down) f → IsFirst (unknown_in net w) f
in_down net w first path f e1 e2 k1 k2 k3 h =
    let ups : List Unknown = unknown_in_known net w.up in
    first_after (label_names net w.first) (link_names net w.path ++ (label_names net (last_signs w.last) ++ (unknown_in_known net w.down ++ ups))) f (ap (λ s. label_names net s) (sym e1) ∙ k1)
    (first_after (link_names net w.path) (label_names net (last_signs w.last) ++ (unknown_in_known net w.down ++ ups)) f (ap (λ s. link_names net s) (sym e2) ∙ k2)
    (first_after (label_names net (last_signs w.last)) (unknown_in_known net w.down ++ ups) f k3
    (first_before (unknown_in_known net w.down) ups f h)))
