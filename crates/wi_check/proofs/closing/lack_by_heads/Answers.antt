use Rattle.std.proofs.Common.{ℕ, sym, ◌∙◌, refl, get_or, option_map}
use Rattle.wi_quantity.specs.Weighing.{components}
use Rattle.wi_build.specs.Systems.{rules}
use Rattle.wi_accept.specs.Followers.{is_missing, followers_at, followers_of}
use Rattle.wi_accept.specs.Demands.{demands_at, demands_of}
use Rattle.wi_check.specs.private.Rows.{summaries, demanded}
use Rattle.wi_check.proofs.Parts.{part_found, part_none, part_behind, not_some}
use Rattle.wi_check.proofs.RowLemmas.{is_open_in}
use Rattle.wi_check.proofs.closing.lack_by_heads.Goals as goal

pub returns-then-is_some-clause-follower : goal.returns-then-is_some-clause-follower
returns-then-is_some-clause-follower c =
    let head : ℕ × ℕ = get_or c.args.heads.now c.loop-head.head-index (0, 0) in
    part_found (is_missing c.args.listed.heads.now c.args.listed.pairs.now)
    (followers_of (rules c.args.system.now) c.args.listed.pairs.now) (λ h. followers_at c.args.listed.pairs.now h.1 (rules c.args.system.now h.0 h.1)) (λ h hs. refl) c.args.heads.now c.loop-head.head-index
    head _ _ _ c.loop-head-test.true refl c.in_ok-lack.ensures.follower c.loop-head.invariant.follower (sym c.is_some.ensures ∙ c.if-is_some.true)

pub loop-head-preserved : goal.loop-head-preserved
loop-head-preserved c =
    let head : ℕ × ℕ = get_or c.args.heads.now c.loop-head.head-index (0, 0) in
    record {
      follower = part_none (is_missing c.args.listed.heads.now c.args.listed.pairs.now)
          (followers_of (rules c.args.system.now) c.args.listed.pairs.now) (λ h. followers_at c.args.listed.pairs.now h.1 (rules c.args.system.now h.0 h.1)) (λ h hs. refl) c.args.heads.now c.loop-head.head-index
          head _ _ _ c.loop-head-test.true refl c.in_ok-lack.ensures.follower c.loop-head.invariant.follower (sym c.is_some.ensures ∙ c.if-is_some.false);
      demand = part_behind (is_open_in c.args.rows c.args.bound)
          (demands_of components (rules c.args.system.now) (summaries c.args.rows)) (λ h. demands_at components (summaries c.args.rows) h.0 h.1 (rules c.args.system.now h.0 h.1)) (λ h hs. refl) c.args.heads.now c.loop-head.head-index
          head _ (option_map demanded c.loop-head.demand) _ _ c.loop-head-test.true refl (c.in_ok-lack.ensures.demand (not_some _ (sym c.is_some.ensures ∙ c.if-is_some.false))) c.loop-head.invariant.demand;
      whole = c.in_ok-lack.ensures.whole;
    }
