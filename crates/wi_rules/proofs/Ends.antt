-- Runs to the end, by their number of rules.
use Rattle.std.proofs.Common.{◌≡◌, ℕ, zero, suc, List, [], ◌∷◌, ◌++◌, length, refl, ap, sym, ◌∙◌, subst}
use Rattle.wi_labels.specs.declared.label.Label.{Label}
use Rattle.wi_labels.specs.Header.{Entry}
use Rattle.wi_net.specs.declared.parts.LinkId.{LinkId}
use Rattle.wi_weight.specs.Weights.{plus}
use Rattle.wi_weight.specs.lemmas.Sums.{zero_plus, plus_zero}
use Rattle.wi_pds.specs.declared.rule.Word2.{Word2}
use Rattle.wi_pds.specs.Runs.{symbols}
use Rattle.wi_world.specs.declared.run.End.{End}
use Rattle.wi_rules.specs.declared.spot.Origin.{Origin}
use Rattle.wi_rules.specs.declared.spot.Origin.TheVariants.{Pushed, Ending}
use Rattle.wi_rules.specs.Goals.{main_origin}
use Rattle.wi_rules.specs.declared.spot.Spot.{Spot}
use Rattle.wi_rules.specs.declared.spot.Spot.TheVariants.{Done, Build}
use Rattle.wi_rules.specs.Rules.{Encoding, SpotRule, zeros, plain, working, ending, pushing, rules_of}
use Rattle.wi_rules.proofs.Lists.{In, length_zeros}

-- n rules lead from a spot and a stack to the end, add t, and stand for os
abbrev pub Ends : Encoding → Spot → List ℕ → List ℕ → List Origin → ℕ → Type 0
Ends s p stack t os zero = (p ≡ Done) × (stack ≡ []) × (t ≡ zeros s) × (os ≡ [])
Ends s p [] t os (suc n) = ⊥
Ends s p (g ∷ stack) t os (suc n) =
    (r : SpotRule) × (u : List ℕ) × (v : List Origin) × In (rules_of s p g) r × Ends s r.to (symbols r.word ++ stack) u v n × (length u ≡ s.terms) × (t ≡ plus r.share u) × (os ≡ main_origin r.origin ++ v)

-- the symbols of a header over the bottom
abbrev pub stack : List Entry → List ℕ
stack [] = 0 ∷ []
stack (l ∷ header) = suc l.0.0 ∷ stack header

pub plain_step : (s : Encoding) (p to : Spot) (word : Word2) (g : ℕ) (below t : List ℕ) (os : List Origin) (n : ℕ) → In (rules_of s p g) (plain s to word) → Ends s to (symbols word ++ below) t os n → length t ≡ s.terms → Ends s p (g ∷ below) t os (suc n)
plain_step s p to word g below t os n i h l = (plain s to word, t, os, i, h, l, sym (zero_plus s.terms t l), refl)

-- what a plain rule leaves goes on from where it leads, and adds and stands for the same
pub plain_on : (s : Encoding) (r : SpotRule) (to : Spot) (word : Word2) (below t u : List ℕ) (os v : List Origin) (n : ℕ) → plain s to word ≡ r → Ends s r.to (symbols r.word ++ below) u v n → length u ≡ s.terms → t ≡ plus r.share u → os ≡ main_origin r.origin ++ v → Ends s to (symbols word ++ below) t os n
plain_on s r to word below t u os v n is ends l et eo =
    let at : Ends s to (symbols word ++ below) u v n = subst (λ (x : SpotRule). Ends s x.to (symbols x.word ++ below) u v n) (sym is) ends in
    let et2 : t ≡ plus (zeros s) u = subst (λ (x : SpotRule). t ≡ plus x.share u) (sym is) et in
    let eo2 : os ≡ v = subst (λ (x : SpotRule). os ≡ main_origin x.origin ++ v) (sym is) eo in
    let same : u ≡ t = sym (zero_plus s.terms u l) ∙ sym et2 in
    subst (λ (x : List ℕ). Ends s to (symbols word ++ below) x os n) same (subst (λ (x : List Origin). Ends s to (symbols word ++ below) u x n) (sym eo2) at)

-- and so does a rule for a further operation
pub working_step : (s : Encoding) (m i : ℕ) (p to : Spot) (word : Word2) (g : ℕ) (below t : List ℕ) (os : List Origin) (n : ℕ) → In (rules_of s p g) (working s m i to word) → Ends s to (symbols word ++ below) t os n → length t ≡ s.terms → Ends s p (g ∷ below) t os (suc n)
working_step s m i p to word g below t os n there h l = (working s m i to word, t, os, there, h, l, sym (zero_plus s.terms t l), refl)

pub working_on : (s : Encoding) (m i : ℕ) (r : SpotRule) (to : Spot) (word : Word2) (below t u : List ℕ) (os v : List Origin) (n : ℕ) → working s m i to word ≡ r → Ends s r.to (symbols r.word ++ below) u v n → length u ≡ s.terms → t ≡ plus r.share u → os ≡ main_origin r.origin ++ v → Ends s to (symbols word ++ below) t os n
working_on s m i r to word below t u os v n is ends l et eo =
    let et2 : t ≡ plus (plain s to word).share u = subst (λ (x : SpotRule). t ≡ plus x.share u) (sym is) et in
    let eo2 : os ≡ main_origin (plain s to word).origin ++ v = subst (λ (x : SpotRule). os ≡ main_origin x.origin ++ v) (sym is) eo in
    plain_on s (plain s to word) to word below t u os v n refl (subst (λ (x : SpotRule). Ends s x.to (symbols x.word ++ below) u v n) (sym is) ends) l et2 eo2

-- what a rule that pushes a label leaves adds the same, and stands for that label and the rest
pub pushing_on : (s : Encoding) (r : SpotRule) (l g q : ℕ) (below t u : List ℕ) (os v : List Origin) (n : ℕ) → pushing s l g q ≡ r → Ends s r.to (symbols r.word ++ below) u v n → length u ≡ s.terms → t ≡ plus r.share u → os ≡ main_origin r.origin ++ v
    → Ends s (Build q) (suc l ∷ g ∷ below) t v n × (os ≡ Pushed (record { 0 = l }) ∷ v)
pushing_on s r l g q below t u os v n is ends len et eo =
    let at : Ends s (Build q) (suc l ∷ g ∷ below) u v n = subst (λ (x : SpotRule). Ends s x.to (symbols x.word ++ below) u v n) (sym is) ends in
    let et2 : t ≡ plus (zeros s) u = subst (λ (x : SpotRule). t ≡ plus x.share u) (sym is) et in
    let eo2 : os ≡ Pushed (record { 0 = l }) ∷ v = subst (λ (x : SpotRule). os ≡ main_origin x.origin ++ v) (sym is) eo in
    let same : u ≡ t = sym (zero_plus s.terms u len) ∙ sym et2 in
    (subst (λ (x : List ℕ). Ends s (Build q) (suc l ∷ g ∷ below) x v n) same at, eo2)

-- a rule that ends a run adds the end's share and stands for the end, where what it leads to adds nothing and stands for nothing
pub ending_step : (s : Encoding) (p to : Spot) (word : Word2) (g : ℕ) (below : List ℕ) (e : LinkId) (l : Label) (end : End) (n : ℕ) → In (rules_of s p g) (ending s e l end to word) → Ends s to (symbols word ++ below) (zeros s) [] n → length (s.end_share e l end) ≡ s.terms
    → Ends s p (g ∷ below) (s.end_share e l end) (Ending end ∷ []) (suc n)
ending_step s p to word g below e l end n i h long = (ending s e l end to word, zeros s, [], i, h, length_zeros s, sym (plus_zero s.terms (s.end_share e l end) long), refl)

pub ending_on : (s : Encoding) (r : SpotRule) (to : Spot) (word : Word2) (t u : List ℕ) (os v : List Origin) (e : LinkId) (l : Label) (end : End) → ending s e l end to word ≡ r → t ≡ plus r.share u → os ≡ main_origin r.origin ++ v → u ≡ zeros s → v ≡ [] → length (s.end_share e l end) ≡ s.terms
    → (t ≡ s.end_share e l end) × (os ≡ Ending end ∷ [])
ending_on s r to word t u os v e l end is et eo eu ev long =
    let et2 : t ≡ plus (s.end_share e l end) u = subst (λ (x : SpotRule). t ≡ plus x.share u) (sym is) et in
    let eo2 : os ≡ Ending end ∷ v = subst (λ (x : SpotRule). os ≡ main_origin x.origin ++ v) (sym is) eo in
    (et2 ∙ ap (λ (x : List ℕ). plus (s.end_share e l end) x) eu ∙ plus_zero s.terms (s.end_share e l end) long, eo2 ∙ ap (λ (x : List Origin). Ending end ∷ x) ev)
