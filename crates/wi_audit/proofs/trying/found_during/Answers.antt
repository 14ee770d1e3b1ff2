use Rattle.std.proofs.Common.{refl}
use Rattle.wi_audit.proofs.Tries.{all_apart, searched_known, searched_tried}
use Rattle.wi_audit.proofs.trying.found_during.Goals as goal

pub found_by_search-requires-clause-asked : goal.found_by_search-requires-clause-asked
found_by_search-requires-clause-asked c = all_apart c.args.net.now c.args.given.now c.args.policy.now c.args.question.now c.args.outage.now c.are_apart.result c.requires.question c.are_apart.ensures c.if-not-are_apart.false

pub returns-in_ok-found-in-None-clause-tried : goal.returns-in_ok-found-in-None-clause-tried
returns-in_ok-found-in-None-clause-tried c =
    searched_tried c.args.net.now c.args.given.now c.args.policy.now c.args.question.now c.args.outage.now c.are_apart.result _ _ c.in_ok-found-in-None.found c.requires.question c.are_apart.ensures c.if-not-are_apart.false c.in_ok-found-in-None.ensures

pub returns-in_ok-found-in-None-clause-question : goal.returns-in_ok-found-in-None-clause-question
returns-in_ok-found-in-None-clause-question c = searched_known c.args.net.now c.args.given.now c.args.policy.now c.args.question.now _ c.args.outage.now c.in_ok-found-in-None.found c.requires.question c.in_ok-found-in-None.ensures refl
