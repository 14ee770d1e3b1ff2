use Rattle.wi_build.specs.Encodings.{encoding_of}
use Rattle.wi_build.proofs.HeadLemmas.{head_done, none_past}
use Rattle.wi_build.proofs.lazy.LazySystem.push_head.Goals as goal

pub returns-then-head-eq0 : goal.returns-then-head-eq0
returns-then-head-eq0 c = head_done (encoding_of c.args.self.now) c.args.head c.in-Some.spot _ _ _ c.in-Some.ensures.value c.push_at_bottom.ensures

pub returns-then-head-labels : goal.returns-then-head-labels
returns-then-head-labels c = none_past (encoding_of c.args.self.now) c.args.head c.in-Some.spot _ c.labels.result c.in-Some.ensures.value c.labels.ensures c.if-head-labels.true

pub returns : goal.returns
returns c = head_done (encoding_of c.args.self.now) c.args.head c.in-Some.spot _ _ _ c.in-Some.ensures.value c.push_at_label.ensures
