use Rattle.std.proofs.Common.{◌∙◌, ◌<◌, ◌^◌, ℕ, List, sym, subst, length, slice_index_or}
use Rattle.std.specs.List.{Contains}
use Rattle.std.proofs.lemmas.List.Elements.{Contains-get_or}
use Rattle.std.proofs.lemmas.Option.{slice_get-get_or}
use Rattle.std.specs.List.Sorted.{IsStrictlySortedBy}
use Rattle.wi_pds.specs.Pairs.{pair_cmp}
use Rattle.wi_saturate.specs.LeastTables.{AreReady}
use Rattle.wi_saturate.proofs.Lookups.{head_added, heads_done, indexes, all_named}
use Rattle.wi_saturate.proofs.index.Index.new.Goals as goal

pub add_head-requires-clause-count : goal.add_head-requires-clause-count
add_head-requires-clause-count g c =
    let heads = c.as_slice-listed.result.now in
    let h : ℕ × ℕ = slice_index_or heads c.loop-head.head (0, 0) in
    subst (λ rs. length rs < 2 ^ 32) (sym (c.deref.ensures.value ∙ c.in_ok-rules.ensures))
    (c.requires.ready.count h.0 h.1 (subst (λ hs. Contains hs h) c.as_slice-listed.ensures (Contains-get_or heads c.loop-head.head (0, 0) c.loop-head-test.true)))

pub rules_of-requires : goal.rules_of-requires
rules_of-requires g c =
    let heads = c.as_slice-listed.result.now in
    let h : ℕ × ℕ = slice_index_or heads c.loop-head.head (0, 0) in
    c.requires.asked h.0 h.1 (subst (λ hs. Contains hs h) c.as_slice-listed.ensures (Contains-get_or heads c.loop-head.head (0, 0) c.loop-head-test.true))

pub add_head-requires-clause-listed : goal.add_head-requires-clause-listed
add_head-requires-clause-listed g c = subst (λ (hs : List (ℕ × ℕ)). c.loop-head.head < length hs) (c.as_slice-listed.ensures ∙ sym c.loop-head.invariant.heads) c.loop-head-test.true

pub add_head-requires-clause-named : goal.add_head-requires-clause-named
add_head-requires-clause-named g c p q at =
    all_named (g.S.System.rules c.args.sys.now) (g.met.S.System.names_head c.args.sys.now) c.as_slice-listed.result.now c.loop-head.index.rules.heads c.loop-head.head c.loop-head-test.true (c.as_slice-listed.ensures ∙ sym c.loop-head.invariant.heads)
    c.deref.result.now (c.deref.ensures.value ∙ c.in_ok-rules.ensures) p q at

pub loop-head-preserved : goal.loop-head-preserved
loop-head-preserved g c =
    let heads = c.as_slice-listed.result.now in
    record {
      heads = c.in_ok-add_head.ensures.heads ∙ c.loop-head.invariant.heads;
      begins = c.in_ok-add_head.ensures.begins;
      rules = head_added (g.S.System.rules c.args.sys.now) _ _ _ c.loop-head.head _ _ heads (slice_index_or heads c.loop-head.head (0, 0)) (slice_get-get_or heads c.loop-head.head (0, 0) c.loop-head-test.true)
          c.deref.ensures.value c.in_ok-rules.ensures c.in_ok-add_head.ensures.rules c.loop-head.invariant.rules;
    }

pub add_head-requires-clause-rise : goal.add_head-requires-clause-rise
add_head-requires-clause-rise g c = subst (IsStrictlySortedBy pair_cmp) (sym c.loop-head.invariant.heads) c.args.heads.now.heads_rise

pub returns-clause-index : goal.returns-clause-index
returns-clause-index g c =
    let rules = g.S.System.rules c.args.sys.now in
    let same = c.loop-head.invariant.heads in
    indexes g.W.Domain.components rules c.loop-head.index (subst (λ hs. AreReady g.W.Domain.components rules hs) (sym same) c.requires.ready) (subst (IsStrictlySortedBy pair_cmp) (sym same) c.args.heads.now.heads_rise)
    (heads_done rules _ c.loop-head.head _ _ (c.as_slice-listed.ensures ∙ sym same) c.loop-head-test.false c.loop-head.invariant.rules) c.loop-head.invariant.begins
