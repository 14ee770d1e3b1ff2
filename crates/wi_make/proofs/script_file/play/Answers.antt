use Rattle.wi_make.proofs.Playing.{play_refused, played_over}
use Rattle.wi_files.proofs.ShelfLemmas.{same_shelf}
use Rattle.wi_make.proofs.script_file.play.Goals as goal

pub returns-clause-played : goal.returns-clause-played
returns-clause-played g c =
    played_over _ (g.S.Shelf.seen c.args.shelf.now) _ _ _ _ _ (same_shelf _ _ c.in_ok-net.ensures.told c.in_ok-net.ensures.files c.in_ok-net.ensures.calm) c.in_ok-net.ensures.held c.play_on-printed.ensures.played

pub returns-clause-refused : goal.returns-clause-refused
returns-clause-refused g c =
    play_refused _ (g.S.Shelf.seen c.args.shelf.now) (g.S.Shelf.seen c.network.new.shelf) (g.S.Shelf.seen c.play_on-printed.new.shelf) _ _ _ _ (same_shelf _ _ c.in_ok-net.ensures.told c.in_ok-net.ensures.files c.in_ok-net.ensures.calm) c.in_ok-net.ensures.held c.play_on-printed.ensures.refused
