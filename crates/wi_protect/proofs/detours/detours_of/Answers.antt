use Rattle.wi_protect.proofs.DetourLemmas.{none_yet, all_within, are_detours}
use Rattle.wi_protect.proofs.detours.detours_of.Goals as goal

pub note_all-requires-clause-none : goal.note_all-requires-clause-none
note_all-requires-clause-none c e = none_yet _ c.args.count e c.in_ok-detours.ensures

pub returns : goal.returns
returns c = are_detours c.args.bypasses.now c.args.first _ c.note_all.ensures

pub note_all-requires-clause-within : goal.note_all-requires-clause-within
note_all-requires-clause-within c = all_within c.args.count _ c.args.bypasses.now c.in_ok-detours.ensures c.requires.within
