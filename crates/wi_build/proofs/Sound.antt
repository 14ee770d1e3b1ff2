-- The encoding of a problem is one, and its matches are the runs that answer the problem.
use Rattle.std.proofs.Common.{◌≡◌, ℕ, true, nat_lt, List, refl, sym, ap, ◌∙◌}
use Rattle.std.specs.List.{list_all}
use Rattle.wi_net.specs.Net.{entry}
use Rattle.wi_world.specs.declared.run.Run.{Run}
use Rattle.wi_rules.specs.Rules.{is_label, Accepts, IsEncoding}
use Rattle.wi_rules.specs.Goals.{IsMatch}
use Rattle.wi_rules.proofs.Questions.{AreOf, asked, answered}
use Rattle.wi_build.specs.Encodings.{encoding_of}
use Rattle.wi_build.specs.Problems.{Problem, IsProblem, IsAnswering, asks}
use Rattle.wi_build.proofs.Automata.{is_automaton, is_turned, accepts_matches}
use Rattle.wi_build.proofs.Shares.{five_taken, five_added, weight_is}

module _ (problem : Problem) (k : IsProblem problem) where
  -- a packet may be dropped with any header: a network has as many classes as labels
  any_accepted : problem.query.drops ≡ true → (w : List ℕ) → list_all (is_label problem.net) w ≡ true → Accepts (encoding_of problem).last w
  any_accepted drops w known =
      (accepts_matches problem.query.last k.automata.last w).0
      (k.any_last drops w (ap (λ (n : ℕ). list_all (λ x. nat_lt x n) w) (sym k.network.classes) ∙ known))

  pub sound : IsEncoding (encoding_of problem)
  sound = record {
    net = k.network;
    bounds = k.bounds_of;
    first = is_automaton problem.query.first k.automata.first;
    first_turned = is_turned problem.query.first k.automata.first;
    path = is_automaton problem.query.path k.automata.path;
    last = is_automaton problem.query.last k.automata.last;
    any_last = any_accepted;
    first_length = λ e. five_taken _ problem.vector 0;
    step_length = λ e l step. five_added problem.net problem.vector (entry problem.net e l) step.group step.member;
    end_length = λ e l end. five_taken _ problem.vector 0;
  }

  -- the automata accept just the query's languages
  languages : AreOf (encoding_of problem) (asks problem)
  languages = record {
    first = accepts_matches problem.query.first k.automata.first;
    path = accepts_matches problem.query.path k.automata.path;
    last = accepts_matches problem.query.last k.automata.last;
    drops = refl;
  }

  pub to_match : (w : List ℕ) (run : Run) → IsAnswering problem w run → IsMatch (encoding_of problem) w run
  to_match w run a = record {
    moving = a.moving;
    matches = asked (encoding_of problem) (asks problem) problem.net run languages a.matches;
    weight = weight_is problem run ∙ a.weight;
  }

  pub of_match : (w : List ℕ) (run : Run) → IsMatch (encoding_of problem) w run → IsAnswering problem w run
  of_match w run m = record {
    moving = m.moving;
    matches = answered (encoding_of problem) (asks problem) problem.net run languages m.matches;
    weight = sym (weight_is problem run) ∙ m.weight;
  }
