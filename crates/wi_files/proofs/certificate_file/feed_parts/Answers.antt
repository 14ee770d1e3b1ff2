use Rattle.std.proofs.Common.{◌≡◌, ◌+◌, ◌≤◌, length, rules, subst, tests}
use Rattle.wi_cert.specs.Reading.{fed}
use Rattle.wi_cert.specs.Sheets.{certificates}
use Rattle.wi_files.proofs.Parts.{reading_on}
use Rattle.wi_files.proofs.ShelfLemmas.{same_shelf}
use Rattle.wi_files.proofs.certificate_file.feed_parts.Goals as goal

pub loop-part-preserved : goal.loop-part-preserved
loop-part-preserved g c =
    let count : c.len.result ≡ length c.in_ok-part.part.items = search rules in
    let few : c.loop-part.at + c.len.result ≤ 268435456 = search (rules, tests) in
    reading_on certificates _ (g.S.Shelf.seen c.loop-part.shelf) (g.S.Shelf.seen c.next_part.new.shelf) c.args.name.now c.in_ok-part.part.items c.loop-part.at c.len.result c.loop-part.feeder c.take_part.new.feeder c.loop-part.invariant
    (same_shelf _ _ c.in_ok-part.ensures.told c.in_ok-part.ensures.files c.in_ok-part.ensures.calm) c.in_ok-part.ensures.part count few
    (subst (λ bytes. c.take_part.new.feeder ≡ fed certificates c.loop-part.feeder bytes) c.as_slice.ensures.value c.in_ok-take_part.ensures.fed)
