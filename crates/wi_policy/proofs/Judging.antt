-- What is wrong with a line that says something.
use Rattle.std.proofs.Common.{◌≡◌, ℕ, false, List, Option, Some, None, option_map, refl, sym, ap, subst, ◌∙◌}
use Rattle.std.specs.Str.{IsUtf8}
use Rattle.std.proofs.lemmas.Bool.{true≢false}
use Rattle.wi_net.specs.declared.bounds.Bounds.{Bounds}
use Rattle.wi_net.specs.declared.parts.LinkId.{LinkId}
use Rattle.wi_net.specs.Net.{Net}
use Rattle.wi_query.specs.declared.query.Query.{Query}
use Rattle.wi_query.specs.Linked.{IsStrictQuery, IsStrictFault}
use Rattle.wi_policy.specs.declared.policy.LineFault.{LineFault}
use Rattle.wi_policy.specs.declared.policy.LineFault.TheVariants.{NotAPolicy, InQuery, DownAndUp}
use Rattle.wi_policy.specs.Line.{Statement, says_nothing, statement_in}
use Rattle.wi_policy.specs.Policies.{IsLineFault, joined, torn}
use Rattle.wi_policy.specs.private.Reading.{is_want, IsWrong}

pub torn_wrong : (net : Net) (given : Bounds) (text : List ℕ) (q : Query) (wrong : Option LineFault) → IsStrictQuery net text q → wrong ≡ option_map DownAndUp (torn (joined q.bounds given)) → IsWrong net given text wrong
torn_wrong net given text q wrong strict is = by (torn (joined q.bounds given)) refl is
  where
    by : (o : Option LinkId) → torn (joined q.bounds given) ≡ o → wrong ≡ option_map DownAndUp o → IsWrong net given text wrong
    by None whole is = subst (IsWrong net given text) (sym is) (q, record { reads = strict; whole = whole })
    by (Some e) found is = subst (IsWrong net given text) (sym is) (q, strict, found)

pub wrong_line : (net : Net) (given : Bounds) (line text : List ℕ) (s : Statement) (fault : LineFault) → IsUtf8 line → says_nothing line ≡ false → Some s ≡ statement_in line → text ≡ s.query → IsWrong net given text (Some fault) → IsLineFault net given line fault
wrong_line net given line text s NotAPolicy utf8 says form same wrong = absurd wrong
wrong_line net given line text s (InQuery fault) utf8 says form same wrong = (
  s,
  record { utf8 = utf8; says = says; form = sym form },
  (λ e. true≢false (sym (ap is_want e) ∙ wrong.0)),
  subst (λ t. IsStrictFault net t fault) same wrong.1,
)
wrong_line net given line text s (DownAndUp e) utf8 says form same wrong = (
  s,
  record { utf8 = utf8; says = says; form = sym form },
  (wrong.0, subst (λ t. IsStrictQuery net t wrong.0) same wrong.1, wrong.2),
)
