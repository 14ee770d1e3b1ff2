-- What the frames hold after the signs of a tree.
use Rattle.std.proofs.Common.{◌≡◌, Bool, true, List, [], ◌∷◌, Option, Some, None, refl, sym, ap, ◌∙◌}
use Rattle.std.proofs.lemmas.Bool.{and_parts}
use Rattle.wi_syntax.specs.declared.written.Sign.{Sign}
use Rattle.wi_syntax.specs.declared.written.Sign.TheVariants as sign
use Rattle.wi_syntax.specs.Trees.{Tree, Leaf, Starred, Plussed, Optional, Grouped, Then, Or, AnItem, ASequence, AnExpression, is_tree, signs_of}
use Rattle.wi_query.specs.private.Frames.{TreeFrame, TreeReading, empty_frame, sequence_of, finished, with_item, grouped, after_signs, at_start}

module _ {A : Type 0} where
  abbrev anything : A → Bool
  anything a = true

  -- the frame of a sequence, behind what stands before a bar
  abbrev sequence_frame : Option (Tree A) → Tree A → TreeFrame A
  sequence_frame before (Then a b) = record { alternatives = before; sequence = Some a; item = Some b }
  sequence_frame before t = record { alternatives = before; sequence = None; item = Some t }

  -- the frame of an expression
  abbrev expression_frame : Tree A → TreeFrame A
  expression_frame (Or a b) = sequence_frame (Some a) b
  expression_frame t = sequence_frame None t

  before_is : (before : Option (Tree A)) (t : Tree A) → (sequence_frame before t).alternatives ≡ before
  before_is before (Then a b) = refl
  before_is before t = refl

  sequence_is : (before : Option (Tree A)) (t : Tree A) → sequence_of (sequence_frame before t) ≡ Some t
  sequence_is before (Then a b) = refl
  sequence_is before t = refl

  finished_sequence : (a b : Tree A) → finished (sequence_frame (Some a) b) ≡ Some (Or a b)
  finished_sequence a b = rw (before_is (Some a) b, sequence_is (Some a) b) refl

  finished_is : (t : Tree A) → finished (expression_frame t) ≡ Some t
  finished_is (Or a b) = finished_sequence a b
  finished_is t = refl

  abbrev reading : TreeFrame A → List (TreeFrame A) → TreeReading A
  reading current outer = record { current = current; outer = outer }

  -- the signs of a tree lead from a frame to a frame
  abbrev RunsAs : Tree A → TreeFrame A → TreeFrame A → Type 0
  RunsAs t from to = (rest : List (Sign A)) (outer : List (TreeFrame A)) → after_signs (reading from outer) (signs_of t rest) ≡ after_signs (reading to outer) rest

  -- a tree where it may stand
  record Runs (t : Tree A) : Type 0 where
    item : is_tree anything AnItem t ≡ true → (f : TreeFrame A) → RunsAs t f (with_item f (Some t))
    sequence : is_tree anything ASequence t ≡ true → (before : Option (Tree A)) → RunsAs t (record { alternatives = before; sequence = None; item = None }) (sequence_frame before t)
    expression : is_tree anything AnExpression t ≡ true → RunsAs t empty_frame (expression_frame t)

  -- an item behind a sequence
  item_behind : (before : Option (Tree A)) (a b : Tree A) → with_item (sequence_frame before a) (Some b) ≡ record { alternatives = before; sequence = Some a; item = Some b }
  item_behind before a b = rw (before_is before a, sequence_is before a) refl

  bar_behind : (a : Tree A) (outer : List (TreeFrame A)) (rest : List (Sign A)) → after_signs (reading (expression_frame a) outer) (sign.Or ∷ rest) ≡ after_signs (reading (record { alternatives = Some a; sequence = None; item = None }) outer) rest
  bar_behind a outer rest = ap (λ o. after_signs (reading (record { alternatives = o; sequence = None; item = None }) outer) rest) (finished_is a)

  runs : (t : Tree A) → Runs t
  runs (Leaf a) = record { item = λ h f rest outer. refl; sequence = λ h before rest outer. refl; expression = λ h rest outer. refl }
  runs (Starred t) =
      let r = runs t in record {
        item = λ h f rest outer. r.item h f (sign.Star ∷ rest) outer;
        sequence = λ h before rest outer. r.item h (record { alternatives = before; sequence = None; item = None }) (sign.Star ∷ rest) outer;
        expression = λ h rest outer. r.item h empty_frame (sign.Star ∷ rest) outer;
      }
  runs (Plussed t) =
      let r = runs t in record {
        item = λ h f rest outer. r.item h f (sign.Plus ∷ rest) outer;
        sequence = λ h before rest outer. r.item h (record { alternatives = before; sequence = None; item = None }) (sign.Plus ∷ rest) outer;
        expression = λ h rest outer. r.item h empty_frame (sign.Plus ∷ rest) outer;
      }
  runs (Optional t) =
      let r = runs t in record {
        item = λ h f rest outer. r.item h f (sign.Maybe ∷ rest) outer;
        sequence = λ h before rest outer. r.item h (record { alternatives = before; sequence = None; item = None }) (sign.Maybe ∷ rest) outer;
        expression = λ h rest outer. r.item h empty_frame (sign.Maybe ∷ rest) outer;
      }
  runs (Grouped t) = group (runs t)
    where
      group : Runs t → Runs (Grouped t)
      group r = record {
        item = inside;
        sequence = λ h before. inside h (record { alternatives = before; sequence = None; item = None });
        expression = λ h. inside h empty_frame;
      }
        where
          inside : is_tree anything AnExpression t ≡ true → (f : TreeFrame A) → RunsAs (Grouped t) f (with_item f (Some (Grouped t)))
          inside h f rest outer = r.expression h (sign.Close ∷ rest) (f ∷ outer) ∙ ap (λ o. after_signs (reading (with_item f (grouped o)) outer) rest) (finished_is t)
  runs (Then a b) = both (runs a) (runs b)
    where
      both : Runs a → Runs b → Runs (Then a b)
      both ra rb = record {
        item = λ h. cc;
        sequence = behind;
        expression = λ h. behind h None;
      }
        where
          behind : is_tree anything ASequence (Then a b) ≡ true → (before : Option (Tree A)) → RunsAs (Then a b) (record { alternatives = before; sequence = None; item = None }) (record { alternatives = before; sequence = Some a; item = Some b })
          behind h before rest outer =
              let parts = and_parts (is_tree anything ASequence a) (is_tree anything AnItem b) h in
              ra.sequence parts.0 before (signs_of b rest) outer ∙ rb.item parts.1 (sequence_frame before a) rest outer
              ∙ ap (λ f. after_signs (reading f outer) rest) (item_behind before a b)
  runs (Or a b) = both (runs a) (runs b)
    where
      both : Runs a → Runs b → Runs (Or a b)
      both ra rb = record {
        item = λ h. cc;
        sequence = λ h. cc;
        expression = λ h rest outer.
            let parts = and_parts (is_tree anything AnExpression a) (is_tree anything ASequence b) h in
            ra.expression parts.0 (sign.Or ∷ signs_of b rest) outer ∙ bar_behind a outer (signs_of b rest) ∙ rb.sequence parts.1 (Some a) rest outer;
      }

  -- all signs of a tree leave it in the one frame that is left
  pub tree_is_read : (t : Tree A) → is_tree (λ a. true) AnExpression t ≡ true → finished (after_signs at_start (signs_of t [])).current ≡ Some t
  tree_is_read t h = ap (λ (r : TreeReading A). finished r.current) ((runs t).expression h [] []) ∙ finished_is t

  -- so signs are those of one tree
  pub one_tree : (t u : Tree A) → is_tree (λ a. true) AnExpression t ≡ true → is_tree (λ a. true) AnExpression u ≡ true → signs_of t [] ≡ signs_of u [] → t ≡ u
  one_tree t u first other same =
      let a : finished (after_signs at_start (signs_of t [])).current ≡ Some t = tree_is_read t first in
      let b : finished (after_signs at_start (signs_of u [])).current ≡ Some u = tree_is_read u other in
      let both : Some t ≡ Some u = sym a ∙ ap (λ (s : List (Sign A)). finished (after_signs at_start s).current) same ∙ b in
      cc
