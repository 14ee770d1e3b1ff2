use Rattle.std.proofs.Common.{◌+◌, ◌≤◌, option_map, sym, subst}
use Rattle.std.specs.Result.{IfOk, IfErr}
use Rattle.wi_pds.specs.Closed.{AreClosed}
use Rattle.wi_saturate.specs.LeastTables.{AreReady, IsLeastTable}
use Rattle.wi_saturate.specs.Refusals.{IsRefusal}
use Rattle.wi_saturate.specs.Tries.{candidates}
use Rattle.wi_saturate.proofs.saturation.least_counted.Goals as goal

pub table_of-table-requires : goal.table_of-table-requires
table_of-table-requires g c =
    let rules = g.S.System.rules c.args.sys.now in
    let pairs = c.args.heads.now.pairs in
    record {
      asked = record {
        index = c.in_ok-index.ensures.index;
        ready = subst (λ hs. AreReady g.W.Domain.components rules hs) (sym c.in_ok-index.ensures.heads) c.requires.ready;
        pairs = pairs;
        closed = subst (λ hs. AreClosed rules (c.args.goal.0, c.args.goal.1) hs pairs) (sym c.in_ok-index.ensures.heads) (subst (λ start. AreClosed rules start c.args.heads.now.heads pairs) c.requires.start c.requires.closed);
      };
    }

pub returns-clause-table : goal.returns-clause-table
returns-clause-table g c =
    let w = g.W.Domain.components in
    subst (λ hs. IfOk c.table_of-table.result (λ t. IsLeastTable g.W.Domain.scale w (g.S.System.rules c.args.sys.now) hs c.args.goal (option_map w c.args.cut) t.rows (option_map w t.best))) c.in_ok-index.ensures.heads c.table_of-table.ensures.table

pub returns-clause-tries : goal.returns-clause-tries
returns-clause-tries g c = subst (λ hs. IfOk c.table_of-table.result (λ t. c.table_of-table.new.tries ≤ c.args.tries.now + candidates (g.S.System.rules c.args.sys.now) hs t.rows)) c.in_ok-index.ensures.heads c.table_of-table.ensures.tries

pub returns-clause-refusal : goal.returns-clause-refusal
returns-clause-refusal g c =
    let w = g.W.Domain.components in
    subst (λ hs. IfErr c.table_of-table.result (IsRefusal g.W.Domain.scale w (g.S.System.rules c.args.sys.now) hs c.args.goal (option_map w c.args.cut))) c.in_ok-index.ensures.heads c.table_of-table.ensures.refusal
