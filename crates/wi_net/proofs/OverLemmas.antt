-- A list that is made again, one thing after the other; and a network without its labels and tables.
use Rattle.std.proofs.Common.{◌≡◌, ℕ, ◌+◌, ◌<◌, true, List, [], ◌∷◌, ◌++◌, take, length, get_or, slice_get, position, Some, None, refl, sym, ap, ◌∙◌, arith}
use Rattle.std.specs.Str.{bytes_eq}
use Rattle.std.proofs.lemmas.Option.{slice_get-get_or}
use Rattle.wi_labels.specs.declared.label.Class.{Class}
use Rattle.wi_net.specs.declared.parts.Link.{Link}
use Rattle.wi_net.specs.declared.parts.LinkId.{LinkId}
use Rattle.wi_net.specs.declared.parts.TableRow.{TableRow}
use Rattle.wi_net.specs.Names.{place, are_names}
use Rattle.wi_net.specs.Ends.{is_out, is_in, are_ends_apart}
use Rattle.wi_net.specs.Net.{Net}
use Rattle.wi_net.specs.Network.{IsNetwork}
use Rattle.wi_net.specs.Builder.{links_alone}
use Rattle.wi_net.specs.private.Builder.{IsDraft}
use Rattle.wi_net.proofs.PlaceLemmas.{longer, none_before}
use Rattle.wi_net.proofs.ApartLemmas.{names_apart, same_out, same_in, outs_apart, ins_apart}

-- one more
pub made_next : {X : Type 0} (xs made after : List X) (i : ℕ) (x : X) → made ≡ take i xs → slice_get xs i ≡ Some x → after ≡ made ++ x ∷ [] → after ≡ take (i + 1) xs
made_next xs made after i x so_far at more = more ∙ ap (λ ys. ys ++ x ∷ []) so_far ∙ sym (longer xs i x at)

-- the next name isn't there yet, and the ends of the next link are free
pub name_next : (names made : List (List ℕ)) (i : ℕ) (s : List ℕ) → are_names names ≡ true → made ≡ take i names → slice_get names i ≡ Some s → place made s ≡ None
name_next names made i s all so_far at = ap (λ xs. place xs s) so_far ∙ none_before bytes_eq are_names names_apart names i s all at

pub out_next : (links made : List Link) (i : ℕ) (d : Link) → are_ends_apart links ≡ true → i < length links → made ≡ take i links → position (is_out (get_or links i d).from (get_or links i d).out_if) made ≡ None
out_next links made i d all lt so_far = ap (position (same_out (get_or links i d))) so_far ∙ none_before same_out are_ends_apart outs_apart links i (get_or links i d) all (slice_get-get_or links i d lt)

pub in_next : (links made : List Link) (i : ℕ) (d : Link) → are_ends_apart links ≡ true → i < length links → made ≡ take i links → position (is_in (get_or links i d).to (get_or links i d).in_if) made ≡ None
in_next links made i d all lt so_far = ap (position (same_in (get_or links i d))) so_far ∙ none_before same_in are_ends_apart ins_apart links i (get_or links i d) all (slice_get-get_or links i d lt)

-- what is kept of a network without its labels and tables
pub alone_kept : (net : Net) → IsNetwork net → IsDraft (links_alone net)
alone_kept net k = record {
  net = record {
    routers = k.routers;
    labels = refl;
    classes = refl;
    in_order = refl;
    interfaces = k.interfaces;
    in_turn = k.in_turn;
    links = k.links;
    ends = k.ends;
    near = k.near;
    risks = k.risks;
    rows = refl;
    rows_apart = refl;
    few_routers = k.few_routers;
    few_labels = omega arith;
    few_links = k.few_links;
    few_interfaces = k.few_interfaces;
    few_rows = omega arith;
    few_members = omega arith;
  };
  firsts = refl;
}

-- it is what is left of a network
pub over_done : (net : Net) (routers labels interfaces named : List (List ℕ)) (classes : List Class) (links : List Link) (rows : List TableRow) (firsts : List LinkId) → IsNetwork net
    → routers ≡ net.routers → labels ≡ [] → classes ≡ [] → interfaces ≡ net.interfaces → links ≡ net.links → rows ≡ [] → named ≡ [] → firsts ≡ []
    → IsDraft (record { net = record { routers = routers; labels = labels; classes = classes; interfaces = interfaces; links = links; rows = rows }; named = named; firsts = firsts })
over_done net routers labels interfaces named classes links rows firsts k e1 e2 e3 e4 e5 e6 e7 e8 = rw (e1, e2, e3, e4, e5, e6, e7, e8) (alone_kept net k)
