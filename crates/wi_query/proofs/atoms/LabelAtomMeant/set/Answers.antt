-- The marks of names are those of the atom.
use Rattle.wi_query.proofs.Marks.{all_labels, set_of_name, set_of_names, names_known_in}
use Rattle.wi_query.proofs.atoms.LabelAtomMeant.set.Goals as goal

pub returns-in_ok-all_symbols-in-Any-clause-made : goal.returns-in_ok-all_symbols-in-Any-clause-made
returns-in_ok-all_symbols-in-Any-clause-made c = all_labels c.args.net.now c.args.self.now _ _ c.in-Any.is c.counts.ensures.labels c.in_ok-all_symbols-in-Any.ensures

pub returns-in_ok-labels_among-in-Name-clause-made : goal.returns-in_ok-labels_among-in-Name-clause-made
returns-in_ok-labels_among-in-Name-clause-made c =
    set_of_name c.args.net.now c.args.self.now c.in-Name.name c.in_ok-label_named-in-Name.field-0 _ c.in-Name.is c.in_ok-label_named-in-Name.ensures.found c.in_ok-labels_among-in-Name.ensures

pub returns-in_ok-labels_among-in-List-clause-made : goal.returns-in_ok-labels_among-in-List-clause-made
returns-in_ok-labels_among-in-List-clause-made c =
    set_of_names c.args.net.now c.args.self.now c.in-List.except c.in-List.names c.as_slice.result.now c.in_ok-named-in-List.named.items c.as_slice-in-List.result.now _
    c.in-List.is c.as_slice.ensures c.in_ok-named-in-List.ensures.found c.as_slice-in-List.ensures.value c.in_ok-labels_among-in-List.ensures

pub returns-in_ok-labels_among-in-List-clause-known : goal.returns-in_ok-labels_among-in-List-clause-known
returns-in_ok-labels_among-in-List-clause-known c =
    names_known_in c.args.net.now c.args.self.now c.in-List.except c.in-List.names c.as_slice.result.now c.in_ok-named-in-List.named.items c.in-List.is c.as_slice.ensures c.in_ok-named-in-List.ensures.found
