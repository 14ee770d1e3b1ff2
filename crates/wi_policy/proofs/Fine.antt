-- A file that has policies has no fault.
use Rattle.std.proofs.Common.{◌≡◌, ℕ, ◌+◌, ◌<◌, inl, inr, ◌⊎◌, List, [], ◌∷◌, ◌++◌, length, refl, sym, ap, subst, ◌∙◌, arith}
use Rattle.std.proofs.lemmas.Bool.{true≢false}
use Rattle.std.proofs.lemmas.List.{append-nil}
use Rattle.std.proofs.lemmas.Option.{none-some, same_Some}
use Rattle.wi_text.specs.Lines.{AreLines, lines_bytes}
use Rattle.wi_text.proofs.LineLemmas.{lines_begin, not_nothing}
use Rattle.wi_net.specs.declared.bounds.Bounds.{Bounds}
use Rattle.wi_net.specs.Net.{Net}
use Rattle.wi_query.specs.Linked.{IsStrictQuery}
use Rattle.wi_query.proofs.Alike.{same_bounds}
use Rattle.wi_query.proofs.Strictly.{strict_fine}
use Rattle.wi_policy.specs.declared.policy.Policy.{Policy}
use Rattle.wi_policy.specs.declared.policy.LineFault.{LineFault}
use Rattle.wi_policy.specs.declared.policy.LineFault.TheVariants.{NotAPolicy, InQuery, DownAndUp}
use Rattle.wi_policy.specs.declared.policy.PoliciesRefused.{PoliciesRefused}
use Rattle.wi_policy.specs.declared.policy.PoliciesRefused.TheVariants.{AtLine, NoPolicy, Memory}
use Rattle.wi_policy.specs.Line.{Statement}
use Rattle.wi_policy.specs.Policies.{Says, SaysNothing, IsPolicy, ArePolicies, IsLineFault, HasLines, HasPolicies, HasNoPolicies, joined, torn}

-- a file is cut into lines in one way
one_cut : (bytes : List ℕ) (a b : List (List ℕ)) → HasLines bytes a → HasLines bytes b → a ≡ b
one_cut bytes a b one other = by (lines_begin a b [] one.each other.each (sym one.whole ∙ other.whole ∙ sym (append-nil (lines_bytes b))))
  where
    by : (more : List (List ℕ)) × (a ≡ b ++ more) × ([] ≡ lines_bytes more) × AreLines more → a ≡ b
    by ([], is, e, are) = is ∙ append-nil b
    by (x ∷ more, is, e, are) = absurd (not_nothing x (lines_bytes more) e)

-- a line that says something doesn't say nothing
not_both : {A : Type 0} (line : List ℕ) (s : Statement) → Says line s → SaysNothing line → A
not_both line s says nothing = absurd (true≢false (sym nothing.1 ∙ says.says))

one_statement : (line : List ℕ) (s t : Statement) → Says line s → Says line t → s ≡ t
one_statement line s t one other = same_Some s t (sym one.form ∙ other.form)

-- lines that have no policy have no others
none_more : (net : Net) (given : Bounds) (n : ℕ) (lines : List (List ℕ)) (policies : List Policy) → ArePolicies net given n lines [] → ArePolicies net given n lines policies → policies ≡ []
none_more net given n lines [] none some = refl
none_more net given n [] (p ∷ policies) none some = absurd some
none_more net given n (line ∷ lines) (p ∷ policies) none (inl some) = none_more net given (n + 1) lines (p ∷ policies) none.1 some.1
none_more net given n (line ∷ lines) (p ∷ policies) none (inr some) = not_both line some.0.statement some.0.says none.0

-- a line among those of policies
abbrev IsFine : Net → Bounds → List ℕ → Type 0
IsFine net given line = SaysNothing line ⊎ ((n : ℕ) × (policy : Policy) × IsPolicy net given n line policy)

among : (net : Net) (given : Bounds) (n : ℕ) (before : List (List ℕ)) (line : List ℕ) (after : List (List ℕ)) (policies : List Policy) → ArePolicies net given n (before ++ line ∷ after) policies → IsFine net given line
among net given n [] line after [] are = inl are.0
among net given n [] line after (p ∷ policies) (inl are) = inl are.0
among net given n [] line after (p ∷ policies) (inr are) = inr (n, p, are.0)
among net given n (first ∷ before) line after [] are = among net given (n + 1) before line after [] are.1
among net given n (first ∷ before) line after (p ∷ policies) (inl are) = among net given (n + 1) before line after (p ∷ policies) are.1
among net given n (first ∷ before) line after (p ∷ policies) (inr are) = among net given (n + 1) before line after policies are.1

-- it has no fault
no_fault : (net : Net) (given : Bounds) (line : List ℕ) (fault : LineFault) → IsFine net given line → IsLineFault net given line fault → ⊥
no_fault net given line NotAPolicy (inl nothing) (inl other) = other nothing.0
no_fault net given line NotAPolicy (inl nothing) (inr other) = true≢false (sym nothing.1 ∙ other.0)
no_fault net given line NotAPolicy (inr is) (inl other) = other is.2.says.utf8
no_fault net given line NotAPolicy (inr is) (inr other) = none-some is.2.statement (sym other.1 ∙ is.2.says.form)
no_fault net given line (InQuery fault) (inl nothing) wrong = not_both line wrong.0 wrong.1 nothing
no_fault net given line (InQuery fault) (inr is) wrong =
    let p = is.2 in
    let same : p.statement.query ≡ wrong.0.query = ap (λ (s : Statement). s.query) (one_statement line p.statement wrong.0 p.says wrong.1) in
    wrong.2 (strict_fine net wrong.0.query p.query fault (subst (λ t. IsStrictQuery net t p.query) same p.askable.reads) wrong.3)
no_fault net given line (DownAndUp e) (inl nothing) wrong = not_both line wrong.0 wrong.1 nothing
no_fault net given line (DownAndUp e) (inr is) wrong =
    let p = is.2 in
    let same : p.statement.query ≡ wrong.0.query = ap (λ (s : Statement). s.query) (one_statement line p.statement wrong.0 p.says wrong.1) in
    let reads : IsStrictQuery net wrong.0.query p.query = subst (λ t. IsStrictQuery net t p.query) same p.askable.reads in
    let bounds : p.query.bounds ≡ wrong.2.0.bounds = same_bounds net wrong.0.query p.query wrong.2.0 reads.0 wrong.2.1.0 in
    none-some e (sym p.askable.whole ∙ ap (λ (b : Bounds). torn (joined b given)) bounds ∙ wrong.2.2)

pub only_memory : (net : Net) (given : Bounds) (bytes : List ℕ) (policies : List Policy) (refused : PoliciesRefused) → HasPolicies net given bytes policies → 0 < length policies → HasNoPolicies net given bytes refused → refused ≡ Memory
only_memory net given bytes policies (AtLine n fault) has some at =
    let same : has.lines ≡ at.before ++ at.line ∷ at.after = one_cut bytes has.lines (at.before ++ at.line ∷ at.after) has.cut at.cut in
    absurd (no_fault net given at.line fault (among net given 1 at.before at.line at.after policies (subst (λ ls. ArePolicies net given 1 ls policies) same has.says)) at.has)
only_memory net given bytes policies NoPolicy has some none =
    let same : none.lines ≡ has.lines = one_cut bytes none.lines has.lines none.cut has.cut in
    let no : policies ≡ [] = none_more net given 1 has.lines policies (subst (λ ls. ArePolicies net given 1 ls []) same none.says) has.says in
    absurd (omega (arith, ap length no))
only_memory net given bytes policies Memory has some none = refl
