-- The stack of frames.
use Rattle.std.proofs.Common.{◌≡◌, List, [], ◌∷◌, ◌++◌, Option, Some, None, sym, ◌∙◌}
use Rattle.std.proofs.lemmas.List.{same_from_push}
use Rattle.wi_regex.specs.declared.regex.Regex.{Regex}
use Rattle.wi_query.specs.Sets.{SymbolMarks}
use Rattle.wi_query.specs.private.Frames.{SetTree, TreeFrame, TreeReading, finished, with_item, grouped, after_bracket, IsOperand, IsFrame, AreFrames, IsReading}
use Rattle.wi_query.specs.declared.tree.Frame.{Frame}
use Rattle.wi_query.specs.declared.tree.Reading.{Reading}

-- brackets leave no trace
pub grouped_part : (o : Option SetTree) (p : Option (Regex SymbolMarks)) → IsOperand o p → IsOperand (grouped o) p
grouped_part None p h = h
grouped_part (Some t) None h = h
grouped_part (Some t) (Some r) h = h

nothing_on_top : (rest : List Frame) (g : Frame) → rest ++ g ∷ [] ≡ [] → ⊥
nothing_on_top [] g e = cc
nothing_on_top (f ∷ rest) g e = cc

-- the last bracket that is open is closed
pub frames_closed : (t : TreeReading SymbolMarks) (gs rest : List Frame) (g : Frame) (r : Reading) → AreFrames t.outer gs → gs ≡ rest ++ g ∷ [] → ((f : TreeFrame SymbolMarks) → IsFrame f g → IsFrame (with_item f (grouped (finished t.current))) r.current) → r.outer.items ≡ rest → IsReading (after_bracket t.current t.outer) r
frames_closed t gs rest g r stack is around left = go t.outer stack
  where
    go : (outer : List (TreeFrame SymbolMarks)) → AreFrames outer gs → IsReading (after_bracket t.current outer) r
    go [] none = absurd (nothing_on_top rest g (sym is ∙ none))
    go (f ∷ fs) top =
        let same = same_from_push rest top.1 g top.0 (sym is ∙ top.2) in
        let here : IsFrame f g = rw same.1 top.3 in
        record {
          current = around f here;
          outer = rw (left ∙ same.0) top.4;
        }
