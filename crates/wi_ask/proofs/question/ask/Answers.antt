use Rattle.wi_files.proofs.ShelfLemmas.{left_later, others_later, same_shelf}
use Rattle.wi_words.specs.Shown.{asking_shown, wanted_shown}
use Rattle.wi_ask.proofs.Asking.{asking_answered, asking_refused}
use Rattle.wi_ask.proofs.question.ask.Goals as goal

pub returns-clause-others : goal.returns-clause-others
returns-clause-others g c =
    others_later _ (g.S.Shelf.seen c.args.shelf.now) (g.S.Shelf.seen c.network.new.shelf) (g.S.Shelf.seen c.ask_of-printed.new.shelf) (same_shelf _ _ c.in_ok-net.ensures.told c.in_ok-net.ensures.files c.in_ok-net.ensures.calm) c.ask_of-printed.ensures.others

pub returns-clause-left : goal.returns-clause-left
returns-clause-left g c =
    left_later c.ask_of-printed.result (g.S.Shelf.seen c.args.shelf.now) (g.S.Shelf.seen c.network.new.shelf) (g.S.Shelf.seen c.ask_of-printed.new.shelf) (same_shelf _ _ c.in_ok-net.ensures.told c.in_ok-net.ensures.files c.in_ok-net.ensures.calm) c.ask_of-printed.ensures.left

pub returns-clause-answered : goal.returns-clause-answered
returns-clause-answered g c =
    asking_answered c.ask_of-printed.result (asking_shown c.args.asking) (wanted_shown c.args.wanted) (g.S.Shelf.seen c.args.shelf.now) (g.S.Shelf.seen c.network.new.shelf) (g.S.Shelf.seen c.ask_of-printed.new.shelf) _
    (same_shelf _ _ c.in_ok-net.ensures.told c.in_ok-net.ensures.files c.in_ok-net.ensures.calm) c.in_ok-net.ensures.held c.ask_of-printed.ensures.answered

pub returns-clause-refused : goal.returns-clause-refused
returns-clause-refused g c =
    asking_refused c.ask_of-printed.result (asking_shown c.args.asking) (wanted_shown c.args.wanted) (g.S.Shelf.seen c.args.shelf.now) (g.S.Shelf.seen c.network.new.shelf) (g.S.Shelf.seen c.ask_of-printed.new.shelf) _
    (same_shelf _ _ c.in_ok-net.ensures.told c.in_ok-net.ensures.files c.in_ok-net.ensures.calm) c.in_ok-net.ensures.held c.ask_of-printed.ensures.refused
