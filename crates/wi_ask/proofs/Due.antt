-- How what is wanted of a problem may end.
use Rattle.std.proofs.Common.{◌≡◌, ℕ, ◌<◌, inl, inr, true, List, length, Option, Some, None, Ok, Err, refl, sym, subst, ◌∙◌, arith}
use Rattle.wi_base.specs.declared.shelf.CallKind.TheVariants.{Fetch, Store}
use Rattle.wi_base.specs.Shelf.{ShelfSeen, IsLonger}
use Rattle.wi_net.specs.Net.{Net}
use Rattle.wi_query.specs.Meaning.{IsQuery}
use Rattle.wi_query.specs.declared.query.Query.{Query}
use Rattle.wi_query.proofs.Fine.{query_fine}
use Rattle.wi_quantity.specs.Faults.{Means}
use Rattle.wi_quantity.specs.declared.vector.Part.{Part}
use Rattle.wi_quantity.specs.Weighing.{components}
use Rattle.wi_quantity.proofs.Fine.{text_fine}
use Rattle.wi_quantity.proofs.OneVector.{one_vector}
use Rattle.wi_build.specs.Problems.{Problem, IsProblem, problem_of}
use Rattle.wi_cert.specs.declared.certificate.Certificate.{Certificate}
use Rattle.wi_cert.specs.Sheets.{certificates}
use Rattle.wi_cert.specs.Text.{IsText, IsBadLine, closed_text}
use Rattle.wi_cert.proofs.TextLemmas.{one_text, text_is_decoded}
use Rattle.wi_cert.proofs.TellingLemmas.{bad_line_told}
use Rattle.wi_cert.proofs.TreeCompleteLemmas.{one_tree, tree_is_decoded}
use Rattle.wi_cert.specs.declared.tree.TreeCertificate.{TreeCertificate}
use Rattle.wi_cert.specs.Trees.{IsTreeText, trees}
use Rattle.wi_accept.specs.Causes.{IsAccepted, IsCause}
use Rattle.wi_accept.specs.Trees.{IsTreeAccepted, IsTreeCause}
use Rattle.wi_accept.proofs.OneReading.{accept_the_same, accept_trees_the_same}
use Rattle.wi_words.specs.Commands.{Wanted, Verify, Check, Exact, CheckExact, Tolerate}
use Rattle.wi_outcome.specs.Texts.{status_of}
use Rattle.wi_outcome.specs.declared.refusal.Refusal.{Refusal}
use Rattle.wi_outcome.specs.declared.refusal.Refusal.TheVariants.{BadLine as BadCertificateLine, CannotRead, CannotWrite, LargeCertificate, Memory, NotAccepted, NotWritten, Overflow, Query as BadQuery, TooLong, Weights as BadWeights}
use Rattle.wi_files.specs.Asked.{AreBadTexts, IsAsked, IsBadQuery, IsBadWeights, WeighsBy}
use Rattle.wi_files.specs.Certificates.{IsNamed, FromKeeping}
use Rattle.wi_files.specs.Shelves.{IsCalm}
use Rattle.wi_files.proofs.Causes.{longer}
use Rattle.wi_ask.specs.Certificates.{FromCertificate, FromStore, IsBelievedFile, IsTooLargeToWrite}
use Rattle.wi_ask.specs.Decided.{EndsByDecision, FromDecision}
use Rattle.wi_ask.specs.Exact.{EndsBySplitting, FromSplitting, FromTree, FromTreeStore, IsBelievedTreeFile, IsTreeTooLarge}
use Rattle.wi_ask.specs.Tolerance.{AreTreesTooLarge, EndsByTolerating, FromTolerating, FromTreesStore}
use Rattle.wi_ask.specs.Wanted.{CanBeGiven, EndsAnswered, EndsExactly, FromAnswer, FromWanted, IsGiven, IsStatusFor, MayEnd}
use Rattle.wi_ask.proofs.Answers.{answer_ends}
use Rattle.wi_files.proofs.Causes.{one_held}
use Rattle.wi_ask.proofs.Ending.{Ends, ends_as, wanting}
use Rattle.wi_ask.proofs.Exactly.{exact_answer_ends, tree_store_due, unsplit_due}
use Rattle.wi_ask.proofs.Tolerating.{tolerance_ends, trees_due, untold_due}

query_wants : (net : Net) (text : List ℕ) (query : Query) (refusal : Refusal) → IsQuery net text query → IsBadQuery net text refusal → status_of refusal ≡ 11
query_wants net text query (BadQuery said) reads cause = absurd (cause.due (query_fine net text query cause.fault reads cause.first))
query_wants net text query Memory reads cause = refl
query_wants net text query refusal reads cause = elim cause [ ]

vector_wants : (given : Option (List ℕ)) (vector : List (List Part)) (refusal : Refusal) → WeighsBy given vector → IsBadWeights given refusal → status_of refusal ≡ 11
vector_wants given vector (BadWeights f) weighs cause =
    let means : Means cause.0 vector = subst (λ o. WeighsBy o vector) cause.1 weighs in
    absurd (cause.2 (text_fine cause.0 vector f means cause.3))
vector_wants given vector Memory weighs cause = refl
vector_wants given vector refusal weighs cause = elim cause [ ]

-- texts that can be read aren't the cause
pub texts_want : (net : Net) (text : List ℕ) (given : Option (List ℕ)) (query : Query) (vector : List (List Part)) (refusal : Refusal) → IsAsked net text given query vector → AreBadTexts net text given refusal → status_of refusal ≡ 11
texts_want net text given query vector refusal asked (inl bad) = query_wants net text query refusal asked.reads bad
texts_want net text given query vector refusal asked (inr bad) = vector_wants given vector refusal asked.weighs bad.2

-- a problem that isn't decided ends with its refusal
undecided_due : (problem : Problem) (refusal : Refusal) → FromDecision problem refusal → Ends (EndsByDecision problem) refusal
undecided_due problem (Overflow w terms) cause = (refl, inr (inl (refl, (components w, cause.0))))
undecided_due problem (TooLong effort) cause = (refl, inr (inr (refl, (effort, cause))))
undecided_due problem Memory cause = (refl, inl refl)
undecided_due problem refusal cause = elim cause [ ]

-- and so does one whose certificate isn't stored: unless the store failed, or memory ran out, it is too long
unkept_due : (old new : ShelfSeen) (file : Option (List ℕ)) (c : Certificate) (refusal : Refusal) → IsCalm old new → FromKeeping old new file c refusal → Ends (λ status. (status ≡ 14) × IsNamed file × (268000000 < length (closed_text c))) refusal
unkept_due old new file c NotWritten calm cause = (refl, inr (refl, cause.1, cause.2))
unkept_due old new file c (CannotWrite named said) calm cause = absurd (longer old.failed (Store, named.now) (sym cause.2.1 ∙ calm))
unkept_due old new file c Memory calm cause = (refl, inl refl)
unkept_due old new file c refusal calm cause = elim cause [ ]

store_due : (old new : ShelfSeen) (file : Option (List ℕ)) (problem : Problem) (refusal : Refusal) → IsCalm old new → FromStore file old new problem refusal → Ends (λ status. (status ≡ 14) × IsNamed file × IsTooLargeToWrite problem) refusal
store_due old new file problem refusal calm cause =
    ends_as (λ status. (status ≡ 14) × IsNamed file × (268000000 < length (closed_text cause.certificate))) (λ status. (status ≡ 14) × IsNamed file × IsTooLargeToWrite problem) refusal
    (λ status due. (due.0, due.1, record { answer = cause.answer; certificate = cause.certificate; is = cause.is; long = due.2 }))
    (unkept_due old new file cause.certificate refusal calm cause.unkept)

-- an answer that is asked for is there, or ends with what is due to it, or to its store
answer_due : (Unshown : Problem → Refusal → Type 0) (Unstored : ShelfSeen → ShelfSeen → Problem → Refusal → Type 0) (Answered : ℕ → Type 0) (Due : ℕ → Type 0) (Large : Type 0) (file : Option (List ℕ)) (old new : ShelfSeen) (problem : Problem) (refusal : Refusal)
    → (Unshown problem refusal → Ends Due refusal) → (Unstored old new problem refusal → Ends (λ status. (status ≡ 14) × IsNamed file × Large) refusal) → FromAnswer Unshown Unstored old new problem refusal
    → Ends (λ status. MayEnd (Answered status) (Due status) Large file status) refusal
answer_due Unshown Unstored Answered Due Large file old new problem refusal unshown unstored cause = elim cause [
  | inl early ↦ ends_as Due (λ status. MayEnd (Answered status) (Due status) Large file status) refusal (λ status due. inr (inl due)) (unshown early.0)
  | inr store ↦ ends_as (λ status. (status ≡ 14) × IsNamed file × Large) (λ status. MayEnd (Answered status) (Due status) Large file status) refusal (λ status large. inr (inr large)) (unstored store)
]

one_weighing : (given : Option (List ℕ)) (v u : List (List Part)) → WeighsBy given v → WeighsBy given u → v ≡ u
one_weighing None v u first second = first ∙ sym second
one_weighing (Some text) v u first second = one_vector text v u first second

-- a certificate that is accepted isn't the cause
believed_again : (net : Net) (text : List ℕ) (given : Option (List ℕ)) (q r : Query) (v u : List (List Part)) (c : Certificate) → IsAsked net text given q v → IsAsked net text given r u → IsProblem (problem_of net q v) → IsProblem (problem_of net r u)
    → IsAccepted (problem_of net q v) c → IsAccepted (problem_of net r u) c
believed_again net text given q r v u c asked again is other accepted =
    subst (λ w. IsAccepted (problem_of net r w) c) (one_weighing given v u asked.weighs again.weighs) (accept_the_same net text q r v c asked.reads again.reads is.automata other.automata accepted)

-- nor is a tree
tree_believed_again : (net : Net) (text : List ℕ) (given : Option (List ℕ)) (q r : Query) (v u : List (List Part)) (t : TreeCertificate) → IsAsked net text given q v → IsAsked net text given r u → IsProblem (problem_of net q v) → IsProblem (problem_of net r u)
    → IsTreeAccepted (problem_of net q v) t → IsTreeAccepted (problem_of net r u) t
tree_believed_again net text given q r v u t asked again is other accepted =
    subst (λ w. IsTreeAccepted (problem_of net r w) t) (one_weighing given v u asked.weighs again.weighs) (accept_trees_the_same net text q r v t asked.reads again.reads is.automata other.automata accepted)

certificate_wants : (old new : ShelfSeen) (net : Net) (text file : List ℕ) (given : Option (List ℕ)) (q r : Query) (v u : List (List Part)) (c : Certificate) (refusal : Refusal) → old.told ≡ true → IsCalm old new
    → IsAsked net text given q v → IsBelievedFile old (problem_of net q v) file c → IsAsked net text given r u → FromCertificate old new (problem_of net r u) file refusal → status_of refusal ≡ 11
certificate_wants old new net text file given q r v u c (CannotRead said) t calm asked good again cause = absurd (longer old.failed (Fetch, file) (sym cause.1 ∙ calm))
certificate_wants old new net text file given q r v u c LargeCertificate t calm asked good again cause =
    let long : 268435456 < length good.bytes = subst (λ f. IsLonger f 268435456) (good.held.held t) (cause.1 t) in
    let short = good.held.short in
    absurd (omega (arith, long, short))
certificate_wants old new net text file given q r v u c (BadCertificateLine n) t calm asked good again cause =
    let same : cause.1.0 ≡ good.bytes = one_held (old.file file) cause.1.0 good.bytes (cause.1.1.held t) (good.held.held t) in
    absurd (good_text c good.bytes n good.reads (subst (λ b. IsBadLine certificates b n) same cause.1.2))
  where
    good_text : (c : Certificate) (bytes : List ℕ) (n : ℕ) → IsText c bytes → IsBadLine certificates bytes n → ⊥
    good_text c bytes n reads bad = let both : Ok c ≡ Err n = sym (text_is_decoded c bytes reads) ∙ bad_line_told certificates bytes n bad in cc
certificate_wants old new net text file given q r v u c (NotAccepted fault terms) t calm asked good again cause =
    let said = cause.2 in
    let same : said.bytes ≡ good.bytes = one_held (old.file file) said.bytes good.bytes (said.held.held t) (good.held.held t) in
    let one : said.certificate ≡ c = one_text said.certificate c good.bytes (subst (λ b. IsText said.certificate b) same said.reads) good.reads in
    let accepted = believed_again net text given q r v u c asked again good.believed.problem_is said.problem_is good.believed.accepted in
    absurd (accepted fault (subst (λ d. IsCause (problem_of net r u) d fault) one said.refusal.cause))
certificate_wants old new net text file given q r v u c Memory t calm asked good again cause = refl
certificate_wants old new net text file given q r v u c refusal t calm asked good again cause = elim cause [ ]

tree_wants : (old new : ShelfSeen) (net : Net) (text file : List ℕ) (given : Option (List ℕ)) (q r : Query) (v u : List (List Part)) (tree : TreeCertificate) (refusal : Refusal) → old.told ≡ true → IsCalm old new
    → IsAsked net text given q v → IsBelievedTreeFile old (problem_of net q v) file tree → IsAsked net text given r u → FromTree old new (problem_of net r u) file refusal → status_of refusal ≡ 11
tree_wants old new net text file given q r v u tree (CannotRead said) t calm asked good again cause = absurd (longer old.failed (Fetch, file) (sym cause.1 ∙ calm))
tree_wants old new net text file given q r v u tree LargeCertificate t calm asked good again cause =
    let long : 268435456 < length good.bytes = subst (λ f. IsLonger f 268435456) (good.held.held t) (cause.1 t) in
    let short = good.held.short in
    absurd (omega (arith, long, short))
tree_wants old new net text file given q r v u tree (BadCertificateLine n) t calm asked good again cause =
    let same : cause.1.0 ≡ good.bytes = one_held (old.file file) cause.1.0 good.bytes (cause.1.1.held t) (good.held.held t) in
    absurd (good_text tree good.bytes n good.reads (subst (λ b. IsBadLine trees b n) same cause.1.2))
  where
    good_text : (tree : TreeCertificate) (bytes : List ℕ) (n : ℕ) → IsTreeText tree bytes → IsBadLine trees bytes n → ⊥
    good_text tree bytes n reads bad = let both : Ok tree ≡ Err n = sym (tree_is_decoded tree bytes reads) ∙ bad_line_told trees bytes n bad in cc
tree_wants old new net text file given q r v u tree (NotAccepted fault terms) t calm asked good again cause =
    let said = cause.2 in
    let same : said.bytes ≡ good.bytes = one_held (old.file file) said.bytes good.bytes (said.held.held t) (good.held.held t) in
    let one : said.tree ≡ tree = one_tree said.tree tree good.bytes (subst (λ b. IsTreeText said.tree b) same said.reads) good.reads in
    let accepted = tree_believed_again net text given q r v u tree asked again good.believed.problem_is said.problem_is good.believed.accepted in
    absurd (accepted fault (subst (λ other. IsTreeCause (problem_of net r u) other fault) one said.refusal.cause))
tree_wants old new net text file given q r v u tree Memory t calm asked good again cause = refl
tree_wants old new net text file given q r v u tree refusal t calm asked good again cause = elim cause [ ]

-- what is wanted of a problem, and can be given of the same one, ends as it may
pub wanted_ends : (wanted : Wanted) (old new : ShelfSeen) (net : Net) (text : List ℕ) (given : Option (List ℕ)) (q r : Query) (v u : List (List Part)) (refusal : Refusal) → old.told ≡ true → IsCalm old new
    → IsAsked net text given q v → CanBeGiven wanted old (problem_of net q v) → IsAsked net text given r u → FromWanted wanted old new (problem_of net r u) refusal → Ends (IsStatusFor wanted (problem_of net r u)) refusal
wanted_ends (Verify content file) old new net text given q r v u refusal t calm asked can again cause =
    let problem = problem_of net r u in
    answer_due FromDecision (FromStore file) (EndsAnswered problem) (EndsByDecision problem) (IsTooLargeToWrite problem) file old new problem refusal
    (λ unshown. undecided_due problem refusal unshown) (λ store. store_due old new file problem refusal calm store) cause
wanted_ends (Check file) old new net text given q r v u refusal t calm asked can again cause = wanting (λ status. status ≡ 0) refusal (certificate_wants old new net text file given q r v u can.0 refusal t calm asked can.1 again cause)
wanted_ends (Exact file) old new net text given q r v u refusal t calm asked can again cause =
    let problem = problem_of net r u in
    answer_due FromSplitting (FromTreeStore file) EndsExactly (EndsBySplitting problem) (IsTreeTooLarge problem) file old new problem refusal
    (λ unshown. unsplit_due problem refusal unshown) (λ store. tree_store_due old new file problem refusal calm store) cause
wanted_ends (CheckExact file) old new net text given q r v u refusal t calm asked can again cause = wanting (λ status. status ≡ 0) refusal (tree_wants old new net text file given q r v u can.0 refusal t calm asked can.1 again cause)
wanted_ends (Tolerate most file) old new net text given q r v u refusal t calm asked can again cause =
    let problem = problem_of net r u in
    answer_due (FromTolerating most) (FromTreesStore most file) EndsExactly (EndsByTolerating problem most) (AreTreesTooLarge problem most) file old new problem refusal
    (λ unshown. untold_due most problem refusal unshown) (λ store. trees_due most file old new problem refusal calm store) cause

-- and so does what is printed
pub given_ends : (wanted : Wanted) (old new : ShelfSeen) (problem : Problem) (status : ℕ) (text : List ℕ) → IsGiven wanted old new problem status text → IsStatusFor wanted problem status
given_ends (Verify content file) old new problem status text given = inl (answer_ends content problem file new status text given)
given_ends (Check file) old new problem status text given = given.2
given_ends (Exact file) old new problem status text given = inl (exact_answer_ends problem file new status text given)
given_ends (CheckExact file) old new problem status text given = given.2
given_ends (Tolerate most file) old new problem status text given = inl (tolerance_ends problem most file old new status text given)
