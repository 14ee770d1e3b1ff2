-- Links that were written are read as they were.
use Rattle.std.proofs.Common.{◌≡◌, ℕ, suc, ◌+◌, ◌^◌, ◌<◌, ◌≤◌, ◌⊎◌, inl, inr, Bool, true, false, cond, not, ◌&&◌, ◌==◌, nat_lt, nat_le, List, [], ◌∷◌, ◌++◌, map, take, drop, length, slice_get, Option, Some, None, Result, Ok, refl, sym, ap, ◌∙◌, append_assoc, append-nil, true≢false, arith}
use Rattle.std.specs.Str.{bytes_eq}
use Rattle.std.proofs.lemmas.Bool.{and_parts, leb-true, le-leb, ltb-true, lt-ltb, le-ltb, eqb-true, cases_lt}
use Rattle.std.proofs.lemmas.List.{take_all, length-take-le}
use Rattle.std.proofs.lemmas.List.Sums.{prefix_len-le-length}
use Rattle.std.proofs.lemmas.Option.{slice_get_within, get_or_from_slice_get}
use Rattle.serde_json.specs.View.{items_of}
use Rattle.wi_net.specs.declared.parts.Link.{Link}
use Rattle.wi_net.specs.declared.parts.LinkId.{LinkId}
use Rattle.wi_net.specs.declared.parts.RouterId.{RouterId}
use Rattle.wi_net.specs.Names.{is_name, are_names, with_name, number_of}
use Rattle.wi_net.specs.Ends.{are_ends_apart}
use Rattle.wi_net.specs.Net.{Net, is_link, all_links, risk_of}
use Rattle.wi_net.specs.Finding.{find_router, find_out, find_in}
use Rattle.wi_net.specs.Network.{IsNetwork, HasEnds, is_risk_named, named_next, named_after}
use Rattle.wi_net.specs.Builder.{◌>>=◌, Draft, with_new_link, is_group_name, first_in, named_with, firsts_with}
use Rattle.wi_net.proofs.SetLemmas.{all_at, has-all_links}
use Rattle.wi_net.proofs.KeptLists.{all_get, get_there, get_before}
use Rattle.wi_net.proofs.MemberLemmas.{position_found, position_missing}
use Rattle.wi_netjson.specs.declared.fault.NetFault.{NetFault}
use Rattle.wi_netjson.specs.Reading.{each}
use Rattle.wi_netjson.specs.Links.{link_at, link_rules}
use Rattle.wi_netjson.specs.Written.{name_at, is_larger, has_larger, link_data}
use Rattle.wi_net.proofs.PlaceLemmas.{before, get_middle, longer, split_at, found_at, found_in_take, none_in_take}
use Rattle.wi_net.proofs.ApartLemmas.{names_apart, name_in, same_out, same_in, outs_apart, ins_apart}
use Rattle.wi_netjson.proofs.ReadGroups.{group_of, group_named, GroupsAre, GroupsStep, RiskFits, groups_step, link_of}
use Rattle.wi_net.proofs.EndLemmas.{has_ends}
use Rattle.wi_netjson.proofs.WrittenLemmas.{any_here}

-- a name of a number: it is a name, and stands there
pub record HasName (names : List (List ℕ)) (i : ℕ) (s : List ℕ) : Type 0 where
  pub at : slice_get names i ≡ Some s
  pub is : name_at names i ≡ s
  pub good : is_name s ≡ true

pub name_of : (names : List (List ℕ)) (i : ℕ) → are_names names ≡ true → i < length names → HasName names i (name_at names i)
name_of names i all lt =
    let there = get_there names i lt in
    let is : name_at names i ≡ there.0 = get_or_from_slice_get names i there.0 [] there.1 in
    let at : slice_get names i ≡ Some (name_at names i) = there.1 ∙ ap Some (sym is) in
    record { at = at; is = refl; good = name_in (take i names) (drop (suc i) names) (name_at names i) (ap are_names (sym (split_at names i (name_at names i) at)) ∙ all) }

-- the router of a name
pub router_is_found : (net : Net) (r : RouterId) → are_names net.routers ≡ true → r.0 < length net.routers → find_router net (name_at net.routers r.0) ≡ Some r
router_is_found net r all lt =
    let there = name_of net.routers r.0 all lt in
    rw (found_at bytes_eq are_names names_apart net.routers r.0 (name_at net.routers r.0) all there.at) refl

-- a name of an interface that is named next
named_step : (names : List (List ℕ)) (n i m : ℕ) (s : List ℕ) → are_names names ≡ true → slice_get names i ≡ Some s → named_next (Some n) i ≡ Some m → (number_of (take n names) s ≡ i) × (with_name (take n names) s ≡ take m names)
named_step names n i m s all at next = go (cases_lt i n)
  where
    within : i < length names
    within = slice_get_within names i s at

    go : (i < n) ⊎ (n ≤ i) → (number_of (take n names) s ≡ i) × (with_name (take n names) s ≡ take m names)
    go (inl lt) =
        let found = found_in_take bytes_eq are_names names_apart names n i s all at lt in
        let place_is = position_found (bytes_eq s) (take n names) i found in
        let test : nat_lt i n ≡ true = lt-ltb i n lt in
        let given : Some n ≡ Some m = rw test at next in
        let same : n ≡ m = cc in
        (sym place_is.0, rw found (ap (λ k. take k names) same))
    go (inr le) =
        let test : nat_lt i n ≡ false = le-ltb i n le in
        let given : cond (i == n) (Some (n + 1)) None ≡ Some m = rw test at next in
        last (i == n) refl given
      where
        last : (b : Bool) → (i == n) ≡ b → cond b (Some (n + 1)) None ≡ Some m → (number_of (take n names) s ≡ i) × (with_name (take n names) s ≡ take m names)
        last false e h = cc
        last true e h =
            let is : i ≡ n = eqb-true i n e in
            let more : n + 1 ≡ m = cc in
            let none = none_in_take bytes_eq are_names names_apart names n i s all at le in
            let missing = position_missing (bytes_eq s) (take n names) none in
            let most = prefix_len-le-length (λ x. not (bytes_eq s x)) (take n names) in
            let len : length (take n names) ≡ n = length-take-le n names (omega (arith, is, within)) in
            let here : slice_get names n ≡ Some s = ap (λ k. slice_get names k) (sym is) ∙ at in
            (omega (arith, is, len, missing, most), rw none (sym (longer names n s here) ∙ ap (λ k. take k names) more))

-- an out interface that no link before has is free
out_is_free : (net : Net) (names : List (List ℕ)) (pre post : List Link) (l : Link) (n : ℕ) (s : List ℕ) → are_names names ≡ true → are_ends_apart (pre ++ l ∷ post) ≡ true → slice_get names l.out_if.0 ≡ Some s
    → find_out (record net { interfaces = take n names; links = pre }) l.from s ≡ None
out_is_free net names pre post l n s all apart at = go (cases_lt l.out_if.0 n)
  where
    go : (l.out_if.0 < n) ⊎ (n ≤ l.out_if.0) → find_out (record net { interfaces = take n names; links = pre }) l.from s ≡ None
    go (inl lt) = rw (found_in_take bytes_eq are_names names_apart names n l.out_if.0 s all at lt, before same_out are_ends_apart outs_apart pre post l apart) refl
    go (inr le) = rw (none_in_take bytes_eq are_names names_apart names n l.out_if.0 s all at le) refl

in_is_free : (net : Net) (names : List (List ℕ)) (pre post : List Link) (l : Link) (n : ℕ) (s : List ℕ) → are_names names ≡ true → are_ends_apart (pre ++ l ∷ post) ≡ true → slice_get names l.in_if.0 ≡ Some s
    → find_in (record net { interfaces = take n names; links = pre }) l.to s ≡ None
in_is_free net names pre post l n s all apart at = go (cases_lt l.in_if.0 n)
  where
    go : (l.in_if.0 < n) ⊎ (n ≤ l.in_if.0) → find_in (record net { interfaces = take n names; links = pre }) l.to s ≡ None
    go (inl lt) = rw (found_in_take bytes_eq are_names names_apart names n l.in_if.0 s all at lt, before same_in are_ends_apart ins_apart pre post l apart) refl
    go (inr le) = rw (none_in_take bytes_eq are_names names_apart names n l.in_if.0 s all at le) refl

-- a link that was written has the parts that it had
link_is_read : (net : Net) (l : Link) (d : Draft) (i : ℕ) (v : Bool) → nat_le l.distance 4294967295 ≡ true → (is_larger net.links l.risk.0 ≡ true → v ≡ true)
    → link_at v d i (link_data net l) ≡ link_rules d i (name_at net.routers l.from.0) (name_at net.interfaces l.out_if.0) (name_at net.routers l.to.0) (name_at net.interfaces l.in_if.0) l.distance (group_of net.links l.risk.0)
unfolding link_at
link_is_read net l d i v small versioned = go (is_larger net.links l.risk.0) v refl versioned
  where
    go : (b w : Bool) → is_larger net.links l.risk.0 ≡ b → (b ≡ true → w ≡ true) → link_at w d i (link_data net l) ≡ link_rules d i (name_at net.routers l.from.0) (name_at net.interfaces l.out_if.0) (name_at net.routers l.to.0) (name_at net.interfaces l.in_if.0) l.distance (group_of net.links l.risk.0)
    go true true e h = rw (e, small) refl
    go true false e h = absurd (true≢false (sym (h refl)))
    go false true e h = rw (e, small) refl
    go false false e h = rw (e, small) refl

-- a link whose rules hold is added
link_holds : (d : Draft) (i : ℕ) (from out to into : List ℕ) (distance : ℕ) (group : Option (List ℕ)) (f t : RouterId) → is_group_name group ≡ true → is_name out ≡ true → is_name into ≡ true → find_router d.net from ≡ Some f → find_router d.net to ≡ Some t
    → find_out d.net f out ≡ None → find_in d.net t into ≡ None → link_rules d i from out to into distance group ≡ Ok (with_new_link d f out t into distance group)
unfolding link_rules
link_holds d i from out to into distance group f t e1 e2 e3 e4 e5 e6 e7 = rw (e1, e2, e3, e4, e5, e6, e7) refl

-- a network that is being built, after some of its links
abbrev pub draft_at : Net → List (List ℕ) → List Link → List (List ℕ) → List LinkId → Draft
draft_at net interfaces pre named firsts = record { net = record { routers = net.routers; labels = net.labels; classes = net.classes; interfaces = interfaces; links = pre; rows = [] }; named = named; firsts = firsts }

-- a link with these numbers of interfaces and this risk group
abbrev with_parts : Link → ℕ → ℕ → LinkId → Link
with_parts l out into risk = record { from = l.from; out_if = record { 0 = out }; to = l.to; in_if = record { 0 = into }; distance = l.distance; risk = risk }

-- the draft with a link more
added_is : (net : Net) (pre : List Link) (l : Link) (named : List (List ℕ)) (firsts : List LinkId) (n m h : ℕ) (out into : List ℕ) (group : Option (List ℕ))
    → (number_of (take n net.interfaces) out ≡ l.out_if.0) × (with_name (take n net.interfaces) out ≡ take m net.interfaces) → (number_of (take m net.interfaces) into ≡ l.in_if.0) × (with_name (take m net.interfaces) into ≡ take h net.interfaces)
    → first_in named firsts (link_of (length pre)) group ≡ l.risk
    → with_new_link (draft_at net (take n net.interfaces) pre named firsts) l.from out l.to into l.distance group ≡ draft_at net (take h net.interfaces) (pre ++ l ∷ []) (named_with named group) (firsts_with named firsts (link_of (length pre)) group)
added_is net pre l named firsts n m h out into group out_is in_is risk =
    let numbers : number_of (with_name (take n net.interfaces) out) into ≡ l.in_if.0 = ap (λ xs. number_of xs into) out_is.1 ∙ in_is.0 in
    let interfaces : with_name (with_name (take n net.interfaces) out) into ≡ take h net.interfaces = ap (λ xs. with_name xs into) out_is.1 ∙ in_is.1 in
    let after : List (List ℕ) → Link → Draft = λ xs x. draft_at net xs (pre ++ x ∷ []) (named_with named group) (firsts_with named firsts (link_of (length pre)) group) in
    ap (λ xs. after xs (with_parts l (number_of (take n net.interfaces) out) (number_of (with_name (take n net.interfaces) out) into) (first_in named firsts (link_of (length pre)) group))) interfaces
    ∙ ap (λ a. after (take h net.interfaces) (with_parts l a (number_of (with_name (take n net.interfaces) out) into) (first_in named firsts (link_of (length pre)) group))) out_is.0
    ∙ ap (λ b. after (take h net.interfaces) (with_parts l l.out_if.0 b (first_in named firsts (link_of (length pre)) group))) numbers
    ∙ ap (λ r. after (take h net.interfaces) (with_parts l l.out_if.0 l.in_if.0 r)) risk

-- a risk group's name is a name
group_of_named : (links : List Link) (r : ℕ) → r < 20000 → is_group_name (group_of links r) ≡ true
group_of_named links r lt = go (is_larger links r) refl
  where
    go : (b : Bool) → is_larger links r ≡ b → is_group_name (group_of links r) ≡ true
    go true e = rw e (group_named r lt)
    go false e = rw e refl

-- a distance of 32 bits is one of a file
near_small : (n : ℕ) → nat_lt n (2 ^ 32) ≡ true → nat_le n 4294967295 ≡ true
near_small n e = le-leb n 4294967295 (let lt = ltb-true n (2 ^ 32) e in omega (arith, lt))

get_pre : (pre post : List Link) (i : ℕ) (x : Link) → i < length pre → slice_get (pre ++ post) i ≡ Some x → slice_get pre i ≡ Some x
get_pre pre post i x lt at =
    let there = get_there pre i lt in
    let found : slice_get (pre ++ post) i ≡ Some there.0 = get_before pre post i there.0 there.1 in
    let same : Some there.0 ≡ Some x = sym found ∙ at in
    there.1 ∙ same

-- what is known of a link's risk group
risk_fits : (net : Net) (pre post : List Link) (l : Link) → IsNetwork net → net.links ≡ pre ++ l ∷ post → RiskFits net.links pre l
risk_fits net pre post l k is =
    record {
      few = omega (arith, slice_get_within net.links (length pre) l here, k.few_links);
      here = here;
      low = leb-true l.risk.0 (length pre) parts.0;
      own = own;
    }
  where
    here : slice_get net.links (length pre) ≡ Some l
    here = ap (λ xs. slice_get xs (length pre)) is ∙ get_middle pre post l

    linked : is_link net (link_of (length pre)) ≡ true
    linked = lt-ltb (length pre) (length net.links) (slice_get_within net.links (length pre) l here)

    named : is_risk_named net (link_of (length pre)) ≡ true
    named = all_at (is_risk_named net) (all_links net) (link_of (length pre)) k.risks (has-all_links net (link_of (length pre)) ∙ linked)

    risk_is : risk_of net (link_of (length pre)) ≡ l.risk
    risk_is = rw here refl

    parts : (nat_le l.risk.0 (length pre) ≡ true) × (((risk_of net l.risk).0 == l.risk.0) ≡ true)
    parts = and_parts (nat_le l.risk.0 (length pre)) ((risk_of net l.risk).0 == l.risk.0) (sym (ap (λ (r : LinkId). nat_le r.0 (length pre) && ((risk_of net r).0 == r.0)) risk_is) ∙ named)

    own : l.risk.0 < length pre → (m : Link) × (slice_get pre l.risk.0 ≡ Some m) × (m.risk.0 ≡ l.risk.0)
    own lt =
        let m = get_there pre l.risk.0 lt in
        let whole : slice_get net.links l.risk.0 ≡ Some m.0 = ap (λ xs. slice_get xs l.risk.0) is ∙ get_before pre (l ∷ post) l.risk.0 m.0 m.1 in
        let risk : risk_of net l.risk ≡ (m.0).risk = rw whole refl in
        (m.0, m.1, ap (λ (r : LinkId). r.0) (sym risk) ∙ eqb-true (risk_of net l.risk).0 l.risk.0 parts.1)

-- what reading made of some links
pub record LinksRead (v : Bool) (net : Net) (before : Draft) (i : ℕ) (rest : List Link) : Type 0 where
  pub named : List (List ℕ)
  pub firsts : List LinkId
  pub read : each (link_at v) before i (items_of (map (link_data net) rest)) ≡ Ok (draft_at net net.interfaces net.links named firsts)

-- one link
record LinkRead (v : Bool) (net : Net) (before : Draft) (i : ℕ) (pre : List Link) (l : Link) (h : ℕ) : Type 0 where
  named : List (List ℕ)
  firsts : List LinkId
  groups : GroupsAre net.links (pre ++ l ∷ []) named firsts
  read : link_at v before i (link_data net l) ≡ Ok (draft_at net (take h net.interfaces) (pre ++ l ∷ []) named firsts)

link_step : (net : Net) (v : Bool) (pre post : List Link) (l : Link) (n m h i : ℕ) (named : List (List ℕ)) (firsts : List LinkId) → IsNetwork net → has_larger net.links ≡ v → net.links ≡ pre ++ l ∷ post
    → named_next (Some n) l.out_if.0 ≡ Some m → named_next (Some m) l.in_if.0 ≡ Some h → GroupsAre net.links pre named firsts → LinkRead v net (draft_at net (take n net.interfaces) pre named firsts) i pre l h
link_step net v pre post l n m h i named firsts k versioned is out_next in_next known =
    record {
      named = named_with named (group_of net.links l.risk.0);
      firsts = firsts_with named firsts (link_of (length pre)) (group_of net.links l.risk.0);
      groups = step.after;
      read = link_is_read net l before_link i v small larger ∙ holds ∙ ap Ok (added_is net pre l named firsts n m h (name_at net.interfaces l.out_if.0) (name_at net.interfaces l.in_if.0) (group_of net.links l.risk.0) out_is in_is step.risk);
    }
  where
    before_link : Draft
    before_link = draft_at net (take n net.interfaces) pre named firsts

    here : slice_get net.links (length pre) ≡ Some l
    here = ap (λ xs. slice_get xs (length pre)) is ∙ get_middle pre post l

    fits : RiskFits net.links pre l
    fits = risk_fits net pre post l k is

    step : GroupsStep net.links pre l named firsts
    step = groups_step net.links pre l named firsts known fits

    ends : HasEnds net l
    ends = has_ends net (length pre) l k here

    small : nat_le l.distance 4294967295 ≡ true
    small = near_small l.distance (all_get (λ (x : Link). nat_lt x.distance (2 ^ 32)) net.links (length pre) l k.near here)

    larger : is_larger net.links l.risk.0 ≡ true → v ≡ true
    larger e = sym versioned ∙ any_here (λ (x : Link). is_larger net.links x.risk.0) net.links (length pre) l here e

    out : HasName net.interfaces l.out_if.0 (name_at net.interfaces l.out_if.0)
    out = name_of net.interfaces l.out_if.0 k.interfaces ends.out_if

    into : HasName net.interfaces l.in_if.0 (name_at net.interfaces l.in_if.0)
    into = name_of net.interfaces l.in_if.0 k.interfaces ends.in_if

    out_is : (number_of (take n net.interfaces) (name_at net.interfaces l.out_if.0) ≡ l.out_if.0) × (with_name (take n net.interfaces) (name_at net.interfaces l.out_if.0) ≡ take m net.interfaces)
    out_is = named_step net.interfaces n l.out_if.0 m (name_at net.interfaces l.out_if.0) k.interfaces out.at out_next

    in_is : (number_of (take m net.interfaces) (name_at net.interfaces l.in_if.0) ≡ l.in_if.0) × (with_name (take m net.interfaces) (name_at net.interfaces l.in_if.0) ≡ take h net.interfaces)
    in_is = named_step net.interfaces m l.in_if.0 h (name_at net.interfaces l.in_if.0) k.interfaces into.at in_next

    apart : are_ends_apart (pre ++ l ∷ post) ≡ true
    apart = ap are_ends_apart (sym is) ∙ k.ends

    risk_small : l.risk.0 < 20000
    risk_small = let low = fits.low in let few = fits.few in omega arith

    holds : link_rules before_link i (name_at net.routers l.from.0) (name_at net.interfaces l.out_if.0) (name_at net.routers l.to.0) (name_at net.interfaces l.in_if.0) l.distance (group_of net.links l.risk.0)
        ≡ Ok (with_new_link before_link l.from (name_at net.interfaces l.out_if.0) l.to (name_at net.interfaces l.in_if.0) l.distance (group_of net.links l.risk.0))
    holds = link_holds before_link i (name_at net.routers l.from.0) (name_at net.interfaces l.out_if.0) (name_at net.routers l.to.0) (name_at net.interfaces l.in_if.0) l.distance (group_of net.links l.risk.0) l.from l.to
        (group_of_named net.links l.risk.0 risk_small) out.good into.good (router_is_found before_link.net l.from k.routers ends.from) (router_is_found before_link.net l.to k.routers ends.to)
        (out_is_free before_link.net net.interfaces pre post l n (name_at net.interfaces l.out_if.0) k.interfaces apart out.at)
        (in_is_free before_link.net net.interfaces pre post l n (name_at net.interfaces l.in_if.0) k.interfaces apart into.at)

-- nothing is named after what can't be
after_none : (links : List Link) (k : ℕ) → named_after None links ≡ Some k → ⊥
after_none [] k e = cc
after_none (l ∷ links) k e = after_none links k e

-- the numbers of interfaces that have names, around a link
record NextParts (n : ℕ) (l : Link) (links : List Link) (k : ℕ) : Type 0 where
  m : ℕ
  h : ℕ
  out : named_next (Some n) l.out_if.0 ≡ Some m
  into : named_next (Some m) l.in_if.0 ≡ Some h
  rest : named_after (Some h) links ≡ Some k

next_parts : (n : ℕ) (l : Link) (rest : List Link) (k : ℕ) → named_after (Some n) (l ∷ rest) ≡ Some k → NextParts n l rest k
next_parts n l rest k next = by_out (named_next (Some n) l.out_if.0) refl
  where
    by_in : (m : ℕ) (o : Option ℕ) → named_next (Some n) l.out_if.0 ≡ Some m → named_next (Some m) l.in_if.0 ≡ o → named_after o rest ≡ Some k → NextParts n l rest k
    by_in m (Some h) e f g = record { m = m; h = h; out = e; into = f; rest = g }
    by_in m None e f g = absurd (after_none rest k g)

    by_out : (o : Option ℕ) → named_next (Some n) l.out_if.0 ≡ o → NextParts n l rest k
    by_out (Some m) e = by_in m (named_next (Some m) l.in_if.0) e refl (ap (λ o. named_after (named_next o l.in_if.0) rest) (sym e) ∙ next)
    by_out None e = absurd (after_none rest k (ap (λ o. named_after (named_next o l.in_if.0) rest) (sym e) ∙ next))

-- links that were written are read as they were
pub links_are_read : (net : Net) (v : Bool) (rest pre : List Link) (n i : ℕ) (named : List (List ℕ)) (firsts : List LinkId) → IsNetwork net → has_larger net.links ≡ v → net.links ≡ pre ++ rest
    → named_after (Some n) rest ≡ Some (length net.interfaces) → GroupsAre net.links pre named firsts → LinksRead v net (draft_at net (take n net.interfaces) pre named firsts) i rest
links_are_read net v [] pre n i named firsts k versioned is next known =
    let all : n ≡ length net.interfaces = cc in
    let names_are : take n net.interfaces ≡ net.interfaces = take_all n net.interfaces (omega (arith, all)) in
    let links_are : pre ≡ net.links = sym (append-nil pre) ∙ sym is in
    record { named = named; firsts = firsts; read = ap (λ xs. Ok (draft_at net xs pre named firsts)) names_are ∙ ap (λ ls. Ok (draft_at net net.interfaces ls named firsts)) links_are }
links_are_read net v (l ∷ rest) pre n i named firsts k versioned is next known =
    let p = next_parts n l rest (length net.interfaces) next in
    let one = link_step net v pre rest l n p.m p.h i named firsts k versioned is p.out p.into known in
    let more : net.links ≡ (pre ++ l ∷ []) ++ rest = is ∙ sym (append_assoc pre (l ∷ []) rest) in
    let later = links_are_read net v rest (pre ++ l ∷ []) p.h (i + 1) one.named one.firsts k versioned more p.rest one.groups in
    let go : Result Draft NetFault → Result Draft NetFault = λ r. r >>= λ d. each (link_at v) d (i + 1) (items_of (map (link_data net) rest)) in
    record { named = later.named; firsts = later.firsts; read = ap go one.read ∙ later.read }
