use Rattle.wi_branch.proofs.answers.open_branch.Goals as goal

pub returns-clause-opened : goal.returns-clause-opened
returns-clause-opened c = record {
  told = c.in_ok-told.told;
  after_is = rw c.net.ensures at c.in_ok-note.ensures;
  node = rw (c.cut.ensures, c.within.ensures) at c.in_ok-told.ensures.node;
  well = rw c.within.ensures at c.in_ok-told.ensures.well;
}
