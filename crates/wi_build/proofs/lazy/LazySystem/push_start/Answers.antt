use Rattle.std.proofs.Common.{arith}
use Rattle.wi_build.specs.Encodings.{encoding_of}
use Rattle.wi_build.proofs.RowLemmas.{more_made, begun, start_done}
use Rattle.wi_build.proofs.lazy.LazySystem.push_start.Goals as goal

pub loop-state-preserved : goal.loop-state-preserved
loop-state-preserved c =
    more_made (encoding_of c.args.self.now) c.args.head (begun (encoding_of c.args.self.now)) _ _ _ c.loop-state.state c.loop-state.invariant c.in_ok-push_accepting.ensures

pub returns : goal.returns
returns c =
    start_done (encoding_of c.args.self.now) c.args.head _ _ c.loop-state.state c.first_states-state-end.result c.requires c.first_states-state-end.ensures (omega arith) c.loop-state.invariant
