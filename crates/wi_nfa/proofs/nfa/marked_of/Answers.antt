use Rattle.std.proofs.Common.{vec_len, arith}
use Rattle.wi_nfa.proofs.EndsLemmas.{begins_fit}
use Rattle.wi_nfa.proofs.Building.{joint_room, ends_marked, follows_marked}
use Rattle.wi_nfa.proofs.nfa.marked_of.Goals as goal

pub link-requires-clause-begins : goal.link-requires-clause-begins
link-requires-clause-begins g c =
    begins_fit 0 c.args.regex.now (vec_len c.in_ok-marks.marks) _ 0 c.mark_follows.new.found _ c.as_slice.ensures.value c.in_ok-mark_follows.ensures.len
    (let size = c.requires in let count = c.in_ok-marks.ensures.count in omega arith) c.in_ok-mark_follows.ensures.ends

pub mark-requires : goal.mark-requires
mark-requires g c =
    joint_room c.args.regex.now c.args.size c.mark_follows.new.found _ _ c.in_ok-mark_follows.ensures.ends c.in_ok-join.ensures c.as_slice-2.ensures.value c.requires _ c.in_ok-accepting.ensures.len

pub returns-clause-follows : goal.returns-clause-follows
returns-clause-follows g c =
    follows_marked c.args.regex.now _ _ _ c.mark_follows.new.found _ c.in_ok-marks.ensures.none c.in_ok-mark_follows.ensures.ends c.in_ok-mark_follows.ensures.marks c.as_slice.ensures.value c.link.ensures.marks

pub returns-clause-ends : goal.returns-clause-ends
returns-clause-ends g c =
    ends_marked c.args.regex.now c.args.size c.mark_follows.new.found _ _ c.in_ok-mark_follows.ensures.ends c.in_ok-join.ensures c.as_slice-2.ensures.value c.requires
    c.in_ok-accepting.accepting.items _ c.in_ok-accepting.ensures.items c.mark.ensures.marks
