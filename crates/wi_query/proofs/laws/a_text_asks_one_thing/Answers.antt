use Rattle.wi_query.proofs.Alike.{ask_the_same}
use Rattle.wi_query.proofs.laws.a_text_asks_one_thing.Goals as goal

pub returns : goal.returns
returns c = ask_the_same
