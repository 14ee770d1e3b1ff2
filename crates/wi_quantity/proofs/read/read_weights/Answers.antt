use Rattle.std.proofs.Common.{◌∙◌, ap, sym}
use Rattle.wi_quantity.specs.declared.written.Stage.TheVariants.{Start}
use Rattle.wi_quantity.specs.private.Syntax.{stop}
use Rattle.wi_quantity.proofs.Stopping.{fault_is}
use Rattle.wi_quantity.proofs.TermLemmas.{noted_from, numbers_from, means_if, fault_if}
use Rattle.wi_quantity.proofs.read.read_weights.Goals as goal

pub returns-in-Some-clause-refused : goal.returns-in-Some-clause-refused
returns-in-Some-clause-refused c = fault_is c.args.text.now c.in-Some.byte c.utf8.text (ap (stop Start 0) (sym c.as_bytes.ensures.value) ∙ sym c.in-Some.ensures)

pub vector_of-requires : goal.vector_of-requires
vector_of-requires c =
    numbers_from c.args.text.now c.as_slice.result.now
    (noted_from c.args.text.now _ _ _ c.as_slice.result.now c.as_bytes.ensures.value c.as_bytes-2.ensures.value c.in_default.ensures c.in_ok-terms.ensures c.as_slice.ensures.value)

pub returns-clause-read : goal.returns-clause-read
returns-clause-read c =
    means_if c.args.text.now c.as_slice.result.now c.vector_of.result
    (noted_from c.args.text.now _ _ _ c.as_slice.result.now c.as_bytes.ensures.value c.as_bytes-2.ensures.value c.in_default.ensures c.in_ok-terms.ensures c.as_slice.ensures.value) c.vector_of.ensures.meant

pub returns-clause-refused : goal.returns-clause-refused
returns-clause-refused c =
    fault_if c.args.text.now c.as_slice.result.now c.vector_of.result
    (noted_from c.args.text.now _ _ _ c.as_slice.result.now c.as_bytes.ensures.value c.as_bytes-2.ensures.value c.in_default.ensures c.in_ok-terms.ensures c.as_slice.ensures.value) c.vector_of.ensures.refused
