-- The marks of pairs are those of the atom.
use Rattle.wi_query.proofs.Marks.{all_links, set_of_pairs, pairs_known_in}
use Rattle.wi_query.proofs.atoms.LinkAtomMeant.set.Goals as goal

pub returns-in_ok-all_symbols-in-Any-clause-made : goal.returns-in_ok-all_symbols-in-Any-clause-made
returns-in_ok-all_symbols-in-Any-clause-made c = all_links c.args.net.now c.args.self.now _ _ c.in-Any.is c.counts.ensures.links c.in_ok-all_symbols-in-Any.ensures

pub returns-in_ok-links_among-in-List-clause-made : goal.returns-in_ok-links_among-in-List-clause-made
returns-in_ok-links_among-in-List-clause-made c =
    set_of_pairs c.args.net.now c.args.self.now c.in-List.except c.in-List.pairs c.as_slice.result.now c.in_ok-named-in-List.named.items c.as_slice-in-List.result.now _
    c.in-List.is c.as_slice.ensures c.in_ok-named-in-List.ensures.found c.as_slice-in-List.ensures.value c.in_ok-links_among-in-List.ensures

pub returns-in_ok-links_among-in-List-clause-known : goal.returns-in_ok-links_among-in-List-clause-known
returns-in_ok-links_among-in-List-clause-known c =
    pairs_known_in c.args.net.now c.args.self.now c.in-List.except c.in-List.pairs c.as_slice.result.now c.in_ok-named-in-List.named.items c.in-List.is c.as_slice.ensures c.in_ok-named-in-List.ensures.found
