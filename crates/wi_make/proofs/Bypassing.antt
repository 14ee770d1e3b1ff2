-- A plan with the bypasses that it lacks, as it is printed.
use Rattle.std.proofs.Common.{◌≡◌, ◌∙◌, ℕ, ◌<◌, ◌≤◌, true, not, List, [], ◌∷◌, ◌++◌, length, length-append, Result, Ok, Err, ap, sym, refl, subst, arith}
use Rattle.std.specs.Prelude.{codes, IfErr, IfOk}
use Rattle.std.specs.List.{list_all}
use Rattle.wi_net.specs.declared.parts.LinkId.{LinkId}
use Rattle.wi_net.specs.Net.{Net, is_link}
use Rattle.wi_net.specs.Network.{IsNetwork}
use Rattle.wi_netjson.specs.File.{network_of}
use Rattle.wi_plan.specs.declared.plan.Plan.{Plan}
use Rattle.wi_plan.specs.Plans.{IsPlan}
use Rattle.wi_planjson.specs.Plan.{plan_in}
use Rattle.wi_planjson.specs.Written.{plan_text_of}
use Rattle.wi_bypass.specs.Bypasses.{SurvivesEachGroup, inner_links, is_protected, unprotected, with_found}
use Rattle.wi_bypass.proofs.FoundLemmas.{all_filter}
use Rattle.wi_bypass.proofs.InnerLemmas.{inner_known}
use Rattle.wi_outcome.specs.declared.printed.Printed.{Printed}
use Rattle.wi_outcome.specs.declared.refusal.Refusal.{Refusal}
use Rattle.wi_outcome.specs.declared.refusal.Refusal.TheVariants.{LargeNetwork, Memory}
use Rattle.wi_make.specs.Bypassing.{FromDraft, IsBypassing, IsDrafted, left_unprotected, plan_status, printed_plan}
use Rattle.wi_make.specs.Protection.{IsPlanned}
use Rattle.wi_make.specs.private.Stages.{FromPlanWriting, IsFoundFor, IsPlanWritten}

-- what has no detour is the network's
pub lacking_known : (net : Net) (plan : Plan) (lacking : List LinkId) → IsPlan net plan → lacking ≡ left_unprotected net plan → list_all (is_link net) lacking ≡ true
lacking_known net plan lacking p is =
    ap (λ links. list_all (is_link net) links) is ∙ all_filter (is_link net) (λ e. not (is_protected net plan.bypasses e)) (inner_links plan.paths) (inner_known net plan.paths p.paths)

-- a text that can be read
pub plan_written : (net : Net) (plan : Plan) (bytes text : List ℕ) (lacking : List LinkId) (status : ℕ) → IsNetwork net → IsPlan net plan → lacking ≡ left_unprotected net plan → bytes ≡ plan_text_of net plan lacking → length bytes < 67108864 → text ≡ bytes ++ codes "\n"
    → (length bytes ≤ 67108864 → network_of bytes ≡ Ok net) → plan_in net bytes ≡ Ok plan → network_of (bytes ++ codes "\n") ≡ network_of bytes → plan_in net (bytes ++ codes "\n") ≡ plan_in net bytes → status ≡ plan_status lacking
    → IsPlanWritten net plan text status
plan_written net plan bytes text lacking status network is lacking_is made less text_is means reads same_network same_plan status_is = record {
  text_is = text_is ∙ ap (λ b. b ++ codes "\n") (made ∙ ap (λ links. plan_text_of net plan links) lacking_is);
  short = (let long : length text ≡ length (bytes ++ codes "\n") = ap (λ (b : List ℕ). length b) text_is in let both = length-append bytes (codes "\n") in omega (arith, long, both, less));
  again = record {
    means = ap network_of text_is ∙ same_network ∙ means (omega (arith, less));
    network = network;
    reads = ap (λ b. plan_in net b) text_is ∙ same_plan ∙ reads;
    is = is;
  };
  status_is = status_is ∙ ap plan_status lacking_is;
}

-- or one that can't
pub too_long : (net : Net) (plan : Plan) (bytes : List ℕ) (lacking : List LinkId) → lacking ≡ left_unprotected net plan → bytes ≡ plan_text_of net plan lacking → 67108864 ≤ length bytes → 67108864 < length (printed_plan net plan)
too_long net plan bytes lacking lacking_is made long =
    let same : length bytes ≡ length (plan_text_of net plan (left_unprotected net plan)) = ap (λ (b : List ℕ). length b) (made ∙ ap (λ links. plan_text_of net plan links) lacking_is) in
    let both = length-append (plan_text_of net plan (left_unprotected net plan)) (codes "\n") in
    omega (arith, long, same, both)

none_open : (links : List LinkId) → plan_status links ≡ 0 → links ≡ []
none_open [] is = refl
none_open (e ∷ links) is = cc

-- the plan of a file, with what was found for it
pub plan_printed : (r : Result Printed Refusal) (bytes : List ℕ) (net : Net) (plan whole : Plan) (lacking : List LinkId) → IsDrafted bytes net plan → (found : IsFoundFor net plan whole lacking)
    → ((net : Net) (plan : Plan) → IsNetwork net → IsPlan net plan → unprotected net plan.paths plan.bypasses ≡ [] → SurvivesEachGroup net plan)
    → IfOk r (λ p. IsPlanWritten net whole p.text p.status) → IfOk r (λ p. IsBypassing bytes p.text p.status)
plan_printed (Err e) bytes net plan whole lacking drafted found law written = tt
plan_printed (Ok p) bytes net plan whole lacking drafted found law written = record {
  net = net;
  plan = plan;
  found = found.found;
  drafted = drafted;
  found_is = found.are;
  text_is = written.text_is ∙ ap (λ w. printed_plan net w) found.whole_is;
  short = written.short;
  again = subst (λ w. IsPlanned p.text net w) found.whole_is written.again;
  status_is = status_is;
  survives = λ zero. law net (with_found plan found.found) drafted.network (subst (λ w. IsPlan net w) found.whole_is found.plan_is) (none_open (left_unprotected net (with_found plan found.found)) (sym status_is ∙ zero));
}
  where
    status_is : p.status ≡ plan_status (left_unprotected net (with_found plan found.found))
    status_is = written.status_is ∙ ap (λ w. plan_status (left_unprotected net w)) found.whole_is

writing_cause : (bytes : List ℕ) (net : Net) (plan whole : Plan) (lacking : List LinkId) (refusal : Refusal) → IsDrafted bytes net plan → IsFoundFor net plan whole lacking → FromPlanWriting net whole refusal → FromDraft bytes refusal
writing_cause bytes net plan whole lacking LargeNetwork drafted found long = (net, plan, found.found, drafted, found.are, subst (λ w. 67108864 < length (printed_plan net w)) found.whole_is long)
writing_cause bytes net plan whole lacking Memory drafted found cause = tt
writing_cause bytes net plan whole lacking refusal drafted found cause = elim cause [ ]

pub plan_unprinted : (r : Result Printed Refusal) (bytes : List ℕ) (net : Net) (plan whole : Plan) (lacking : List LinkId) → IsDrafted bytes net plan → IsFoundFor net plan whole lacking → IfErr r (FromPlanWriting net whole) → IfErr r (FromDraft bytes)
plan_unprinted (Ok p) bytes net plan whole lacking drafted found cause = tt
plan_unprinted (Err e) bytes net plan whole lacking drafted found cause = writing_cause bytes net plan whole lacking e drafted found cause
