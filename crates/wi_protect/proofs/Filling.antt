-- The labels and rows of a plan fill its network.
use Rattle.std.proofs.Common.{◌≡◌, ℕ, ◌+◌, ◌≤◌, true, false, not, nat_le, nat_lt, ◌&&◌, List, [], ◌∷◌, ◌++◌, length, Option, refl, sym, ap, ◌∙◌, arith}
use Rattle.std.specs.List.{list_all}
use Rattle.std.proofs.lemmas.Bool.{and_parts, and_from, le-leb}
use Rattle.std.proofs.lemmas.List.{append_assoc, append-nil, length-append}
use Rattle.wi_labels.specs.declared.label.Class.TheVariants.{Mpls, Smpls, Ip}
use Rattle.wi_net.specs.declared.parts.LinkId.{LinkId}
use Rattle.wi_net.specs.declared.parts.TableRow.{TableRow}
use Rattle.wi_net.specs.Net.{Net, is_link}
use Rattle.wi_net.specs.LinkSet.{has}
use Rattle.wi_net.specs.Network.{IsNetwork}
use Rattle.wi_net.specs.Builder.{Draft, with_row, links_alone}
use Rattle.wi_plan.specs.declared.plan.Path.{Path}
use Rattle.wi_plan.specs.declared.plan.Bypass.{Bypass}
use Rattle.wi_plan.specs.declared.plan.Plan.{Plan}
use Rattle.wi_plan.specs.Plans.{IsPlan, is_path_of, is_bypass_of, is_joined, is_around}
use Rattle.wi_protect.specs.Labels.{moved_by, moved_label, names_of, paths_labels, bypasses_labels, paths_names, bypasses_names, mpls_names, smpls_names, ip_names, label_names, label_classes, first_bypass_label, first_path_label, new_labels}
use Rattle.wi_protect.specs.Rows.{Round, round, paths_rows, bypasses_rows}
use Rattle.wi_protect.specs.Protected.{rounds, plan_rows, protected}
use Rattle.wi_protect.specs.Refusals.{has_too_many}
use Rattle.wi_protect.specs.private.Detours.{are_within}
use Rattle.wi_protect.specs.private.Adding.{MayRow, CanAdd, with_rows, are_low}
use Rattle.wi_protect.proofs.AddLemmas.{may_front, may_back, added_append}
use Rattle.wi_protect.proofs.Classes.{paths_count, bypasses_count, all_counted, first_path, known_at}
use Rattle.std.proofs.lemmas.Option.{slice_get_within}
use Rattle.wi_protect.proofs.Fresh.{few_new}
use Rattle.wi_protect.proofs.Protection.{path_facts}

-- how many labels there are
pub count_all : (net : Net) (plan : Plan) → IsNetwork net → length (label_names net plan) ≡ length net.labels + new_labels plan
count_all net plan k =
    omega (
      arith,
      length-append (mpls_names net plan) (smpls_names net plan ++ ip_names net),
      length-append (smpls_names net plan) (ip_names net),
      length-append (names_of Mpls net.classes net.labels) (bypasses_names 1 plan.bypasses),
      length-append (names_of Smpls net.classes net.labels) (paths_names 1 plan.paths),
      paths_count 1 plan.paths,
      bypasses_count 1 plan.bypasses,
      all_counted net.classes net.labels k.classes,
      k.classes,
    )

pub few_all : (net : Net) (plan : Plan) → IsNetwork net → has_too_many net plan ≡ false → length (label_names net plan) ≤ 20000
few_all net plan k few = omega (arith, count_all net plan k, few_new net plan few)

-- where labels begin
pub bypass_end : (net : Net) (plan : Plan) (n : ℕ) (bs : List Bypass) → IsNetwork net → has_too_many net plan ≡ false → n ≡ first_bypass_label net → bs ≡ plan.bypasses → n + bypasses_labels bs ≤ 20000
bypass_end net plan n bs k few is same =
    let total = all_counted net.classes net.labels k.classes in
    omega (arith, few_new net plan few, total, k.classes, ap bypasses_labels same)

pub path_end : (net : Net) (plan : Plan) (n : ℕ) (ps : List Path) → IsNetwork net → has_too_many net plan ≡ false → n ≡ first_path_label net plan → ps ≡ plan.paths → n + paths_labels ps ≤ 20000
path_end net plan n ps k few is same =
    let total = all_counted net.classes net.labels k.classes in
    omega (arith, few_new net plan few, total, k.classes, first_path net plan, ap paths_labels same)

ips_low : (net : Net) (new : ℕ) (ps : List Path) → IsNetwork net → length net.labels + new ≤ 20000 → list_all (is_path_of net) ps ≡ true → are_low new ps ≡ true
ips_low net new [] k few all = refl
ips_low net new (p ∷ ps) k few all =
    let parts = and_parts (is_path_of net p) (list_all (is_path_of net) ps) all in
    let within = slice_get_within net.classes p.ip.0 Ip (known_at net.classes p.ip Ip (path_facts net p parts.0).known) in
    and_from (nat_le (p.ip.0 + new) 20000) (are_low new ps) (le-leb (p.ip.0 + new) 20000 (omega (arith, within, k.classes))) (ips_low net new ps k few parts.1)

pub ips_are_low : (net : Net) (plan : Plan) (n : ℕ) (ps : List Path) → IsNetwork net → IsPlan net plan → has_too_many net plan ≡ false → n ≡ new_labels plan → ps ≡ plan.paths → are_low n ps ≡ true
ips_are_low net plan n ps k is few count same =
    ap (are_low n) same ∙ ap (λ m. are_low m plan.paths) count ∙ ips_low net (new_labels plan) plan.paths k (few_new net plan few) is.paths

-- a network with rows that were added
rows_added : (d : Draft) (rows : List TableRow) → with_rows d rows ≡ record d { net = record d.net { rows = d.net.rows ++ rows } }
rows_added d [] = ap (λ rs. record d { net = record d.net { rows = rs } }) (sym (append-nil d.net.rows))
rows_added d (r ∷ rows) = rows_added (with_row d r) rows ∙ ap (λ rs. record d { net = record d.net { rows = rs } }) (append_assoc d.net.rows (r ∷ []) rows)

-- the network before its rows
abbrev pub labelled_draft : Net → Plan → Draft
labelled_draft net plan = record (links_alone net) { net = record net { labels = label_names net plan; classes = label_classes net plan; rows = [] } }

pub front_rows : (net : Net) (plan : Plan) → CanAdd (labelled_draft net plan) (plan_rows net plan)
    → (d : Draft) (nb np nn : ℕ) (bs : List Bypass) (ps : List Path) (around : LinkId → Option Round) → d ≡ labelled_draft net plan → nb ≡ first_bypass_label net → np ≡ first_path_label net plan → nn ≡ new_labels plan → bs ≡ plan.bypasses → ps ≡ plan.paths → around ≡ round nb bs
    → CanAdd d (paths_rows around (moved_by nn) np ps)
front_rows net plan can d nb np nn bs ps around is b p n same_b same_p by =
    rw (by, is, b, p, n, same_b, same_p)
    (may_front MayRow with_row (labelled_draft net plan) (paths_rows (rounds net plan) (moved_label plan) (first_path_label net plan) plan.paths) (bypasses_rows (first_bypass_label net) plan.bypasses) can)

pub back_rows : (net : Net) (plan : Plan) → CanAdd (labelled_draft net plan) (plan_rows net plan)
    → (d next : Draft) (nb np nn : ℕ) (bs : List Bypass) (ps : List Path) (around : LinkId → Option Round) → d ≡ labelled_draft net plan → nb ≡ first_bypass_label net → np ≡ first_path_label net plan → nn ≡ new_labels plan → bs ≡ plan.bypasses → ps ≡ plan.paths → around ≡ round nb bs
    → next ≡ with_rows d (paths_rows around (moved_by nn) np ps) → CanAdd next (bypasses_rows nb bs)
back_rows net plan can d next nb np nn bs ps around is b p n same_b same_p by more =
    rw (more, by, is, b, p, n, same_b, same_p)
    (may_back MayRow with_row (labelled_draft net plan) (paths_rows (rounds net plan) (moved_label plan) (first_path_label net plan) plan.paths) (bypasses_rows (first_bypass_label net) plan.bypasses) can)

pub filled : (net : Net) (plan : Plan) (d mid next : Draft) (nb np nn : ℕ) (bs : List Bypass) (ps : List Path) (around : LinkId → Option Round) → d ≡ labelled_draft net plan → nb ≡ first_bypass_label net → np ≡ first_path_label net plan → nn ≡ new_labels plan → bs ≡ plan.bypasses → ps ≡ plan.paths → around ≡ round nb bs
    → mid ≡ with_rows d (paths_rows around (moved_by nn) np ps) → next ≡ with_rows mid (bypasses_rows nb bs) → next.net ≡ protected net plan
filled net plan d mid next nb np nn bs ps around is b p n same_b same_p by first second =
    let all : with_rows (with_rows d (paths_rows around (moved_by nn) np ps)) (bypasses_rows nb bs) ≡ with_rows (labelled_draft net plan) (plan_rows net plan) =
    rw (by, is, b, p, n, same_b, same_p) (sym (added_append with_row (labelled_draft net plan) (paths_rows (rounds net plan) (moved_label plan) (first_path_label net plan) plan.paths) (bypasses_rows (first_bypass_label net) plan.bypasses))) in
    ap (λ (e : Draft). e.net) (second ∙ ap (λ e. with_rows e (bypasses_rows nb bs)) first ∙ all ∙ rows_added (labelled_draft net plan) (plan_rows net plan))

-- the labelled network, as the code has it
pub labelled_is : (net : Net) (plan : Plan) (d0 d : Draft) → d0 ≡ links_alone net → d ≡ record d0 { net = record d0.net { labels = label_names net plan; classes = label_classes net plan } } → d ≡ labelled_draft net plan
labelled_is net plan d0 d alone is = is ∙ ap (λ (e : Draft). record e { net = record e.net { labels = label_names net plan; classes = label_classes net plan } }) alone

-- each bypass is of a link of the network
pub bypasses_within : (net : Net) (n : ℕ) (bs all : List Bypass) → list_all (is_bypass_of net) all ≡ true → bs ≡ all → n ≡ length net.links → are_within n bs ≡ true
bypasses_within net n bs all each same count =
    ap (list_all (λ (b : Bypass). nat_lt b.link.0 n)) same ∙ ap (λ k. list_all (λ (b : Bypass). nat_lt b.link.0 k) all) count ∙ go all each
  where
    go : (xs : List Bypass) → list_all (is_bypass_of net) xs ≡ true → list_all (λ (b : Bypass). nat_lt b.link.0 (length net.links)) xs ≡ true
    go [] h = refl
    go (b ∷ xs) h =
        let parts = and_parts (is_bypass_of net b) (list_all (is_bypass_of net) xs) h in
        and_from (nat_lt b.link.0 (length net.links)) (list_all (λ (c : Bypass). nat_lt c.link.0 (length net.links)) xs)
        (and_parts (is_link net b.link) (list_all (is_link net) b.via && (is_joined net b.via && (is_around net b.link b.via && not (has b.via b.link)))) parts.0).0 (go xs parts.1)
