use Rattle.wi_files.proofs.Listing.{policies_read, policies_refused}
use Rattle.wi_files.proofs.ShelfLemmas.{same_shelf}
use Rattle.wi_files.proofs.policies_file.fetch_policies.Goals as goal

pub returns-in-Ok-clause-read : goal.returns-in-Ok-clause-read
returns-in-Ok-clause-read g c =
    policies_read (g.S.Shelf.seen c.args.shelf.now) (g.S.Shelf.seen c.network.new.shelf) _ _ _ _ _ _ (same_shelf _ _ c.in_ok-net.ensures.told c.in_ok-net.ensures.files c.in_ok-net.ensures.calm) c.in_ok-net.ensures.held
    c.in-Ok.ensures.given c.in-Ok.ensures.held

pub returns-in-Err-clause-refused : goal.returns-in-Err-clause-refused
returns-in-Err-clause-refused g c =
    policies_refused (g.S.Shelf.seen c.args.shelf.now) (g.S.Shelf.seen c.network.new.shelf) (g.S.Shelf.seen c.policies_over.new.shelf) _ _ _ _ c.in-Err.refusal
    (same_shelf _ _ c.in_ok-net.ensures.told c.in_ok-net.ensures.files c.in_ok-net.ensures.calm) c.in_ok-net.ensures.held c.in-Err.ensures.refused
