use Rattle.wi_files.proofs.Causes.{err_as}
use Rattle.wi_make.proofs.Playing.{bytes_played, bytes_refused}
use Rattle.wi_make.proofs.script_file.play_on.Goals as goal

pub returns-in_err-bytes-clause-refused : goal.returns-in_err-bytes-clause-refused
returns-in_err-bytes-clause-refused g c = err_as _ _ _ c.from_residual.ensures.1 (c.in_err-bytes.ensures.refused c.args.net.now c.args.k)

pub returns-clause-played : goal.returns-clause-played
returns-clause-played g c = bytes_played _ _ _ _ _ _ _ c.as_slice.ensures.value c.in_ok-bytes.ensures.found c.played.ensures.played

pub returns-clause-refused : goal.returns-clause-refused
returns-clause-refused g c =
    bytes_refused _ (g.S.Shelf.seen c.args.shelf.now) (g.S.Shelf.seen c.script_bytes.new.shelf) _ _ _ _ _ c.as_slice.ensures.value c.in_ok-bytes.ensures.found c.in_ok-bytes.ensures.short c.in_ok-bytes.ensures.calm c.played.ensures.refused
