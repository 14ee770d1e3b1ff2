use Rattle.wi_nfa.proofs.RisingLists.{one_rising_list}
use Rattle.wi_nfa.proofs.laws.rising_lists_are_equal.Goals as goal

pub returns : goal.returns
returns c = one_rising_list
