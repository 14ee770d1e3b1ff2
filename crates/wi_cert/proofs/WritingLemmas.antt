-- Writing, piece by piece.
use Rattle.std.specs.Prelude.{◌≡◌, ℕ, suc, ◌+◌, ◌<◌, ◌≤◌, List, [], ◌∷◌, ◌++◌, Result, Ok, Err, OnOk, length, map, codes, refl}
use Rattle.std.specs.List.{All, flat_map}
use Rattle.std.proofs.Common.{sym, ap, ◌∙◌, subst, take, drop, get_or, add-one, drop-cons, append_assoc, append-nil}
use Rattle.std.proofs.lemmas.Grind.{flat_map-append}
use Rattle.std.proofs.lemmas.List.{take_all}
use Rattle.wi_weight.specs.Weights.{EachBelow}
use Rattle.wi_cert.specs.declared.certificate.Certificate.{Certificate}
use Rattle.wi_cert.specs.declared.closed.Closed.{Closed}
use Rattle.wi_cert.specs.declared.row.Row.{Row}
use Rattle.wi_cert.specs.Numbers.{count_line}
use Rattle.wi_cert.specs.declared.shown.Shown.{Shown}
use Rattle.wi_cert.specs.Shown.{certificate_front, title_line, answer_line, weight_line, first_line, pair_line, dropped_lines, shown_lines}
use Rattle.wi_cert.specs.Closed.{row_line, closed_lines}
use Rattle.wi_cert.specs.Text.{ended, text, closed_text}
use Rattle.wi_cert.specs.private.Fronts.{front_text}

-- a list was gone through
pub all_gone : {A : Type 0} (P : A → Type 0) (xs : List A) (i : ℕ) → length xs ≤ i → All P (take i xs) → All P xs
all_gone P xs i h all = subst (All P) (take_all i xs h) all

-- every number is in the range of its type
pub each_below : (bound : ℕ) (ns : List ℕ) → ((i : ℕ) → get_or ns i 0 < bound) → EachBelow bound ns
each_below bound [] h = tt
each_below bound (n ∷ ns) h = (h 0, each_below bound ns (λ i. h (suc i)))

pub item_first : {A : Type 0} (xs : List A) (i : ℕ) (d : A) → i < length xs → drop i xs ≡ get_or xs i d ∷ drop (i + 1) xs
item_first xs i d h = rw (add-one, drop-cons xs i d) refl

-- one line more
pub line_more : {A : Type 0} (line_of : A → List ℕ) (xs : List A) (i : ℕ) (d : A) (out new whole : List ℕ) → i < length xs → new ≡ out ++ ended (line_of (get_or xs i d))
    → out ++ flat_map ended (map line_of (drop i xs)) ≡ whole → new ++ flat_map ended (map line_of (drop (i + 1) xs)) ≡ whole
line_more line_of xs i d out new whole h e w =
    ap (λ x. x ++ flat_map ended (map line_of (drop (i + 1) xs))) e
    ∙ append_assoc out (ended (line_of (get_or xs i d))) (flat_map ended (map line_of (drop (i + 1) xs)))
    ∙ ap (λ ys. out ++ flat_map ended (map line_of ys)) (sym (item_first xs i d h))
    ∙ w

flat_parts : (x : List ℕ) (xs : List (List ℕ)) (y : List ℕ) (ys : List (List ℕ)) (z : List ℕ) (zs : List (List ℕ))
    → flat_map ended (x ∷ (xs ++ y ∷ (ys ++ z ∷ zs))) ≡ ended x ++ (flat_map ended xs ++ (ended y ++ (flat_map ended ys ++ (ended z ++ flat_map ended zs))))
flat_parts x xs y ys z zs = simp (flat_map-append, append_assoc) refl

six_pieces : (out a b d e f new h hs p ps r rs : List ℕ) → a ≡ out ++ h → b ≡ a ++ hs → d ≡ b ++ p → e ≡ d ++ ps → f ≡ e ++ r → new ≡ f ++ rs → new ≡ out ++ (h ++ (hs ++ (p ++ (ps ++ (r ++ rs)))))
six_pieces out a b d e f new h hs p ps r rs i j k l m n = rw (n, m, l, k, j, i) (simp append_assoc refl)

-- three lists, each behind its count
pub lists_put : {E : Type 0} (c : Closed) (heads pairs : List (ℕ × ℕ)) (rows : List Row) (out a b d e f new : List ℕ) (answer : Result (Unit {0}) E)
    → heads ≡ c.heads → pairs ≡ c.pairs → rows ≡ c.rows
    → a ≡ out ++ ended (count_line (codes "heads ") (length heads)) → b ≡ a ++ flat_map ended (map pair_line heads)
    → d ≡ b ++ ended (count_line (codes "pairs ") (length pairs)) → e ≡ d ++ flat_map ended (map pair_line pairs)
    → f ≡ e ++ ended (count_line (codes "rows ") (length rows)) → OnOk answer (new ≡ f ++ flat_map ended (map row_line rows))
    → OnOk answer (new ≡ out ++ flat_map ended (closed_lines c))
lists_put c heads pairs rows out a b d e f new (Ok done) h p r i j k l m n =
    six_pieces out a b d e f new (ended (count_line (codes "heads ") (length heads))) (flat_map ended (map pair_line heads)) (ended (count_line (codes "pairs ") (length pairs))) (flat_map ended (map pair_line pairs)) (ended (count_line (codes "rows ") (length rows))) (flat_map ended (map row_line rows)) i j k l m n
    ∙ ap (λ x. out ++ x) (sym (flat_parts (count_line (codes "heads ") (length heads)) (map pair_line heads) (count_line (codes "pairs ") (length pairs)) (map pair_line pairs) (count_line (codes "rows ") (length rows)) (map row_line rows)))
    ∙ ap (λ x. out ++ flat_map ended x) (ap (λ (x : Closed). closed_lines x) (same h p r))
  where
    same : heads ≡ c.heads → pairs ≡ c.pairs → rows ≡ c.rows → record { heads = heads; pairs = pairs; rows = rows } ≡ c
    same h p r = rw (h, p, r) refl
lists_put c heads pairs rows out a b d e f new (Err why) h p r i j k l m n = tt

-- the lines before `heads`
pub front_put : (c : Certificate) (start a b : List ℕ) → start ≡ [] → a ≡ start ++ ended (title_line certificate_front c.shown.dropped) → b ≡ a ++ flat_map ended (shown_lines c.shown) → b ≡ front_text c
front_put c start a b h i j = rw (j, i, h) refl

-- a text has these two parts
pub text_parts : (c : Certificate) → text c ≡ front_text c ++ closed_text c
text_parts c = flat_map-append ended (title_line certificate_front c.shown.dropped ∷ shown_lines c.shown) (closed_lines c.closed ++ codes "end" ∷ [])

-- the lines from `heads` on
pub rest_put : {E : Type 0} (c : Certificate) (out d e : List ℕ) (answer : Result (Unit {0}) E) → d ≡ out ++ flat_map ended (closed_lines c.closed) → OnOk answer (e ≡ d ++ codes "end\n") → OnOk answer (e ≡ out ++ closed_text c)
rest_put c out d e (Ok done) k l = rw (l, k) (sym (parts out (closed_lines c.closed)))
  where
    parts : (f : List ℕ) (l : List (List ℕ)) → f ++ flat_map ended (l ++ codes "end" ∷ []) ≡ (f ++ flat_map ended l) ++ codes "end\n"
    parts f l = simp (flat_map-append, append_assoc, append-nil) refl
rest_put c out d e (Err why) k l = tt

-- the whole text
pub text_put : (c : Certificate) (b e : List ℕ) → b ≡ front_text c → e ≡ b ++ closed_text c → e ≡ text c
text_put c b e j k = rw (k, j) (sym (text_parts c))

shown_parts : (a b d e f : List ℕ) (xs ys : List (List ℕ)) → flat_map ended (a ∷ b ∷ d ∷ e ∷ f ∷ (xs ++ ys)) ≡ ended a ++ (ended b ++ (ended d ++ (ended e ++ (ended f ++ (flat_map ended xs ++ flat_map ended ys)))))
shown_parts a b d e f xs ys = simp (flat_map-append, append_assoc) refl

seven_pieces : (out a b d e f g new p q r s t u v : List ℕ) → a ≡ out ++ p → b ≡ a ++ q → d ≡ b ++ r → e ≡ d ++ s → f ≡ e ++ t → g ≡ f ++ u → new ≡ g ++ v → new ≡ out ++ (p ++ (q ++ (r ++ (s ++ (t ++ (u ++ v))))))
seven_pieces out a b d e f g new p q r s t u v i j k l m n o = rw (o, n, m, l, k, j, i) (simp append_assoc refl)

-- the lines that show the answer
pub shown_put : {E : Type 0} (s : Shown) (terms : ℕ) (steps : List (ℕ × ℕ)) (out a b d e f g new : List ℕ) (answer : Result (Unit {0}) E) → terms ≡ s.terms → steps ≡ s.steps
    → a ≡ out ++ ended (count_line (codes "terms ") terms) → b ≡ a ++ ended (answer_line s.claim) → d ≡ b ++ ended (weight_line s) → e ≡ d ++ ended (first_line s)
    → f ≡ e ++ ended (count_line (codes "steps ") (length steps)) → g ≡ f ++ flat_map ended (map pair_line steps) → OnOk answer (new ≡ g ++ flat_map ended (dropped_lines s.dropped))
    → OnOk answer (new ≡ out ++ flat_map ended (shown_lines s))
shown_put s terms steps out a b d e f g new (Ok done) t h i j k l m n o =
    seven_pieces out a b d e f g new (ended (count_line (codes "terms ") terms)) (ended (answer_line s.claim)) (ended (weight_line s)) (ended (first_line s)) (ended (count_line (codes "steps ") (length steps))) (flat_map ended (map pair_line steps)) (flat_map ended (dropped_lines s.dropped)) i j k l m n o
    ∙ ap (λ x. out ++ x) (sym (shown_parts (count_line (codes "terms ") terms) (answer_line s.claim) (weight_line s) (first_line s) (count_line (codes "steps ") (length steps)) (map pair_line steps) (dropped_lines s.dropped)))
    ∙ ap (λ n. out ++ flat_map ended (shown_lines (record s { terms = n; steps = steps }))) t
    ∙ ap (λ xs. out ++ flat_map ended (shown_lines (record s { steps = xs }))) h
shown_put s terms steps out a b d e f g new (Err why) t h i j k l m n o = tt
