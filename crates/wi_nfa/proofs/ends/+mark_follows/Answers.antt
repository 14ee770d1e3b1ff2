use Rattle.std.proofs.Common.{◌+◌, vec_len, ap, ◌∙◌, arith, refl}
use Rattle.std.proofs.lemmas.Result.{on_ok_weaker}
use Rattle.wi_regex.specs.Matching.{position_count}
use Rattle.wi_nfa.specs.private.Ends.{IsChain, IsChoice, AddsFollows}
use Rattle.wi_nfa.proofs.EndsLemmas.{ends_fit, begins_fit, chain_ends_at, choice_ends_at}
use Rattle.wi_nfa.proofs.FollowsLemmas.{concat_follows_at, either_follows_at}
use Rattle.wi_nfa.proofs.ends.+mark_follows.Goals as goal

pub link-requires-clause-ends : goal.link-requires-clause-ends
link-requires-clause-ends g t c =
    ends_fit c.args.n c.deref.result.now (vec_len c.args.rows.now) _ (position_count c.deref-in-Concat.result.now) _ _ c.as_slice.ensures.value
    (c.in_ok-mark_follows-in-Concat-2.ensures.len ∙ c.in_ok-mark_follows-in-Concat.ensures.len)
    (let e = ap position_count c.in-Concat.is in let x = ap position_count c.deref.ensures in let y = ap position_count c.deref-in-Concat.ensures in let room = c.requires.room in omega arith)
    c.in_ok-mark_follows-in-Concat.ensures.ends

pub link-requires-clause-begins : goal.link-requires-clause-begins
link-requires-clause-begins g t c =
    begins_fit (c.args.n + c.mark_follows.new.found.count) c.deref-in-Concat-2.result.now (vec_len c.args.rows.now) _ 0 _ _ c.as_slice-in-Concat.ensures.value
    (c.in_ok-mark_follows-in-Concat-2.ensures.len ∙ c.in_ok-mark_follows-in-Concat.ensures.len)
    (let k = c.in_ok-mark_follows-in-Concat.ensures.ends.count in let e = ap position_count c.in-Concat.is in let x = ap position_count c.deref.ensures in let y = ap position_count c.deref-in-Concat-2.ensures in let room = c.requires.room in omega arith)
    c.in_ok-mark_follows-in-Concat-2.ensures.ends

pub close_loop-requires-clause-ends : goal.close_loop-requires-clause-ends
close_loop-requires-clause-ends g t c =
    ends_fit c.args.n c.deref-in-Star.result.now (vec_len c.args.rows.now) _ 0 c.mark_follows-in-Star.new.found _ refl c.in_ok-mark_follows-in-Star.ensures.len
    (let e = ap position_count c.in-Star.is in let x = ap position_count c.deref-in-Star.ensures in let room = c.requires.room in omega arith) c.in_ok-mark_follows-in-Star.ensures.ends

pub close_loop-requires-clause-begins : goal.close_loop-requires-clause-begins
close_loop-requires-clause-begins g t c =
    begins_fit c.args.n c.deref-in-Star.result.now (vec_len c.args.rows.now) _ 0 c.mark_follows-in-Star.new.found _ refl c.in_ok-mark_follows-in-Star.ensures.len
    (let e = ap position_count c.in-Star.is in let x = ap position_count c.deref-in-Star.ensures in let room = c.requires.room in omega arith) c.in_ok-mark_follows-in-Star.ensures.ends

pub close_loop-requires-in-Plus-clause-ends : goal.close_loop-requires-in-Plus-clause-ends
close_loop-requires-in-Plus-clause-ends g t c =
    ends_fit c.args.n c.deref-in-Plus.result.now (vec_len c.args.rows.now) _ 0 c.mark_follows-in-Plus.new.found _ refl c.in_ok-mark_follows-in-Plus.ensures.len
    (let e = ap position_count c.in-Plus.is in let x = ap position_count c.deref-in-Plus.ensures in let room = c.requires.room in omega arith) c.in_ok-mark_follows-in-Plus.ensures.ends

pub close_loop-requires-in-Plus-clause-begins : goal.close_loop-requires-in-Plus-clause-begins
close_loop-requires-in-Plus-clause-begins g t c =
    begins_fit c.args.n c.deref-in-Plus.result.now (vec_len c.args.rows.now) _ 0 c.mark_follows-in-Plus.new.found _ refl c.in_ok-mark_follows-in-Plus.ensures.len
    (let e = ap position_count c.in-Plus.is in let x = ap position_count c.deref-in-Plus.ensures in let room = c.requires.room in omega arith) c.in_ok-mark_follows-in-Plus.ensures.ends

pub returns-in_ok-mark_follows-in-Concat-2-clause-marks : goal.returns-in_ok-mark_follows-in-Concat-2-clause-marks
returns-in_ok-mark_follows-in-Concat-2-clause-marks g t c =
    let follows : AddsFollows c.args.looped c.args.n c.args.regex.now c.args.rows.now.items c.link.new.rows.items =
    concat_follows_at c.args.regex.now c.args.n c.args.looped c.loops_past.result _ c.in-Concat.a.value c.in-Concat.b.value c.deref.result.now c.deref-in-Concat-2.result.now c.deref-in-Concat.result.now _ _
    c.args.rows.now.items c.mark_follows.new.rows.items c.mark_follows-in-Concat.new.rows.items c.link.new.rows.items
    c.mark_follows.new.found c.mark_follows-in-Concat.new.found _ _
    c.in-Concat.is c.deref.ensures c.deref-in-Concat-2.ensures c.deref-in-Concat.ensures c.loops_past.ensures refl
    c.in_ok-mark_follows-in-Concat.ensures.ends c.in_ok-mark_follows-in-Concat-2.ensures.ends c.in_ok-mark_follows-in-Concat.ensures.marks c.in_ok-mark_follows-in-Concat-2.ensures.marks
    c.as_slice.ensures.value c.as_slice-in-Concat.ensures.value c.link.ensures.marks in
    on_ok_weaker c.chain.result (λ is. follows) c.chain.ensures

pub returns-in_ok-mark_follows-in-Concat-2-clause-ends : goal.returns-in_ok-mark_follows-in-Concat-2-clause-ends
returns-in_ok-mark_follows-in-Concat-2-clause-ends g t c =
    on_ok_weaker {P = IsChain c.mark_follows.new.found c.mark_follows-in-Concat.new.found c.chain.new.self} c.chain.result
    (λ is. chain_ends_at c.args.regex.now c.args.n c.in-Concat.a.value c.in-Concat.b.value c.deref.result.now c.deref-in-Concat-2.result.now _ _
    c.mark_follows.new.found c.mark_follows-in-Concat.new.found _ c.in-Concat.is c.deref.ensures c.deref-in-Concat-2.ensures
    c.in_ok-mark_follows-in-Concat.ensures.ends c.in_ok-mark_follows-in-Concat-2.ensures.ends is) c.chain.ensures

pub returns-in_ok-mark_follows-in-Either-2-clause-marks : goal.returns-in_ok-mark_follows-in-Either-2-clause-marks
returns-in_ok-mark_follows-in-Either-2-clause-marks g t c =
    let follows : AddsFollows c.args.looped c.args.n c.args.regex.now c.args.rows.now.items c.mark_follows-in-Either-2.new.rows.items =
    either_follows_at c.args.regex.now c.args.n c.args.looped c.in-Either.a.value c.in-Either.b.value c.deref-in-Either.result.now c.deref-in-Either-2.result.now _ _
    c.args.rows.now.items c.mark_follows-in-Either.new.rows.items c.mark_follows-in-Either-2.new.rows.items c.mark_follows-in-Either.new.found
    c.in-Either.is c.deref-in-Either.ensures c.deref-in-Either-2.ensures c.in_ok-mark_follows-in-Either.ensures.ends c.in_ok-mark_follows-in-Either.ensures.marks c.in_ok-mark_follows-in-Either-2.ensures.marks in
    on_ok_weaker c.choose.result (λ is. follows) c.choose.ensures

pub returns-in_ok-mark_follows-in-Either-2-clause-ends : goal.returns-in_ok-mark_follows-in-Either-2-clause-ends
returns-in_ok-mark_follows-in-Either-2-clause-ends g t c =
    on_ok_weaker {P = IsChoice c.mark_follows-in-Either.new.found c.mark_follows-in-Either-2.new.found c.choose.new.self} c.choose.result
    (λ is. choice_ends_at c.args.regex.now c.args.n c.in-Either.a.value c.in-Either.b.value c.deref-in-Either.result.now c.deref-in-Either-2.result.now _ _
    c.mark_follows-in-Either.new.found c.mark_follows-in-Either-2.new.found _ c.in-Either.is c.deref-in-Either.ensures c.deref-in-Either-2.ensures
    c.in_ok-mark_follows-in-Either.ensures.ends c.in_ok-mark_follows-in-Either-2.ensures.ends is) c.choose.ensures
