use Rattle.wi_build.specs.Encodings.{encoding_of}
use Rattle.wi_build.proofs.ListLemmas.{lists, of_all}
use Rattle.wi_build.proofs.laws.lists_have_the_rules.Goals as goal

pub returns : goal.returns
returns c = record { heads = λ problem n g. of_all (encoding_of problem) n g; rules = lists }
