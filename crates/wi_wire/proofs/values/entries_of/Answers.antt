use Rattle.std.proofs.Common.{Ok, ap, sym, ◌∙◌, arith}
use Rattle.wi_wire.proofs.ValueLemmas.{err_is, known_at, walked_fit, walk_entry, walk_ip, walk_stop}
use Rattle.wi_wire.proofs.values.entries_of.Goals as goal
use Rattle.wi_wire.proofs.values.entries_of.Goals.{in-Some+in_ok-add_entry, in_default}

pub entry_at-requires : goal.entry_at-requires
entry_at-requires c = known_at c.args.net.now _ _ _ _ c.requires c.at.ensures c.unwrap-class.ensures

pub returns-in_err-entry-clause-refused : goal.returns-in_err-entry-clause-refused
returns-in_err-entry-clause-refused c =
    err_is _ _ _ c.from_residual.ensures.1
    (walk_stop c.args.net.now c.args.ttl c.args.header.now c.loop-i.i c.unwrap-class.result.0 c.unwrap-class.result.1 c.loop-i.entries.items c.in_err-entry.field-0.0 (sym c.at.ensures ∙ c.unwrap-class.ensures) (sym c.in_err-entry.ensures) c.loop-i.invariant)

pub loop-i-preserved : goal.loop-i-preserved
loop-i-preserved c = elim c.match-branch-2.branch [
  | in-Some+in_ok-add_entry w ↦ walk_entry c.args.net.now c.args.ttl c.args.header.now c.loop-i.i c.unwrap-class.result.0 c.unwrap-class.result.1 c.loop-i.entries.items c.match-branch-2.entries.items w.in-Some.entry
      (sym c.at.ensures ∙ c.unwrap-class.ensures) (sym c.in_ok-entry.ensures ∙ ap Ok w.in-Some.is) (ap (λ v. v.items) w.entries-is ∙ w.in_ok-add_entry.ensures) c.loop-i.invariant
  | in_default w ↦ walk_ip c.args.net.now c.args.ttl c.args.header.now c.loop-i.i c.unwrap-class.result.0 c.unwrap-class.result.1 c.loop-i.entries.items c.match-branch-2.entries.items
      (sym c.at.ensures ∙ c.unwrap-class.ensures) (sym c.in_ok-entry.ensures ∙ ap Ok w.in_default.is) (ap (λ v. v.items) w.entries-is) c.loop-i.invariant
]

pub returns-clause-fit : goal.returns-clause-fit
returns-clause-fit c = walked_fit c.args.net.now c.args.ttl c.args.header.now c.loop-i.i c.loop-i.entries.items c.ranges.ttl.fits (omega (arith, c.loop-i-test.false, c.len-i-end.ensures)) c.loop-i.invariant
