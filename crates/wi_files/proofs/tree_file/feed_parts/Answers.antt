use Rattle.std.proofs.Common.{◌≡◌, ◌+◌, ◌<◌, ◌≤◌, ap, length, rules, subst, tests, ◌∙◌}
use Rattle.wi_cert.specs.Reading.{fed}
use Rattle.wi_cert.specs.Trees.{trees}
use Rattle.wi_files.proofs.Parts.{all_fed, nothing_is_left, part_fed, reading_on, too_many_fed}
use Rattle.wi_files.proofs.ShelfLemmas.{same_shelf}
use Rattle.wi_files.proofs.tree_file.feed_parts.Goals as goal

pub returns-then-is_empty-clause-read : goal.returns-then-is_empty-clause-read
returns-then-is_empty-clause-read g c =
    let count : length c.in-Ok.part.items ≡ 0 = search rules in
    all_fed trees (g.S.Shelf.seen c.args.shelf.now) (g.S.Shelf.seen c.loop-part.shelf) c.args.name.now c.in-Ok.part.items c.loop-part.at c.loop-part.feeder c.loop-part.invariant c.in-Ok.ensures.part (nothing_is_left c.in-Ok.part.items count)

pub returns-then-at-gt-READ_LIMIT-clause-refused : goal.returns-then-at-gt-READ_LIMIT-clause-refused
returns-then-at-gt-READ_LIMIT-clause-refused g c =
    let count : c.len.result ≡ length c.in-Ok.part.items = search rules in
    let long : 268435456 < c.loop-part.at + c.len.result = search (rules, tests) in
    let more = part_fed trees (g.S.Shelf.seen c.args.shelf.now) (g.S.Shelf.seen c.loop-part.shelf) c.args.name.now c.in-Ok.part.items c.loop-part.at (c.loop-part.at + c.len.result) c.loop-part.feeder c.in_ok-feeder.feeder c.loop-part.invariant c.in-Ok.ensures.part
    (ap (λ n. c.loop-part.at + n) count) (subst (λ bytes. c.in_ok-feeder.feeder ≡ fed trees c.loop-part.feeder bytes) c.as_slice.ensures.value c.in_ok-feeder.ensures) in
    (c.in-Ok.ensures.calm ∙ ap (λ s. s.failed) c.loop-part.invariant.same, too_many_fed trees (g.S.Shelf.seen c.args.shelf.now) c.args.name.now (c.loop-part.at + c.len.result) c.in_ok-feeder.feeder more long)

pub loop-part-preserved : goal.loop-part-preserved
loop-part-preserved g c =
    let count : c.len.result ≡ length c.in-Ok.part.items = search rules in
    let few : c.loop-part.at + c.len.result ≤ 268435456 = search (rules, tests) in
    reading_on trees _ (g.S.Shelf.seen c.loop-part.shelf) (g.S.Shelf.seen c.next_part.new.shelf) c.args.name.now c.in-Ok.part.items c.loop-part.at c.len.result c.loop-part.feeder c.in_ok-feeder.feeder c.loop-part.invariant
    (same_shelf _ _ c.in-Ok.ensures.told c.in-Ok.ensures.files c.in-Ok.ensures.calm) c.in-Ok.ensures.part count few
    (subst (λ bytes. c.in_ok-feeder.feeder ≡ fed trees c.loop-part.feeder bytes) c.as_slice.ensures.value c.in_ok-feeder.ensures)
