-- Runs that match what the automata ask for are those that match a question, where the automata accept just its languages.
use Rattle.std.proofs.Common.{◌≡◌, ℕ, List, ◌∙◌, sym}
use Rattle.std.specs.Prelude.{◌↔◌}
use Rattle.wi_net.specs.Net.{Net}
use Rattle.wi_world.specs.declared.run.Run.{Run}
use Rattle.wi_world.specs.Holds.{Question, Matches}
use Rattle.wi_rules.specs.Rules.{Encoding, Accepts}
use Rattle.wi_rules.specs.Goals.{question_of}

-- the automata accept just the question's languages, and the packet is dropped where the question asks for that
pub record AreOf (s : Encoding) (question : Question) : Type 0 where
  pub first : (w : List ℕ) → question.first w ↔ Accepts s.first w
  pub path : (w : List ℕ) → question.path w ↔ Accepts s.path w
  pub last : (w : List ℕ) → question.last w ↔ Accepts s.last w
  pub drops : question.drops ≡ s.drops

pub asked : (s : Encoding) (question : Question) (net : Net) (run : Run) → AreOf s question → Matches net question run → Matches net (question_of s) run
asked s question net run k m = record { first = (k.first _).0 m.first; path = (k.path _).0 m.path; last = (k.last _).0 m.last; end = m.end ∙ k.drops }

pub answered : (s : Encoding) (question : Question) (net : Net) (run : Run) → AreOf s question → Matches net (question_of s) run → Matches net question run
answered s question net run k m = record { first = (k.first _).1 m.first; path = (k.path _).1 m.path; last = (k.last _).1 m.last; end = m.end ∙ sym k.drops }
