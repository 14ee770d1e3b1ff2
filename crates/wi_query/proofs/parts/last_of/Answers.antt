-- The last header's signs, or those of any header.
use Rattle.std.proofs.Common.{rules}
use Rattle.wi_query.proofs.Lasts.{any_header_is}
use Rattle.wi_query.proofs.Queries.{header_expression, header_signs, last_read}
use Rattle.wi_query.proofs.parts.last_of.Goals as goal

pub regex_of-requires : goal.regex_of-requires
regex_of-requires c = header_expression _ _ _ c.in-Header.is c.as_slice.ensures c.requires

pub regex_of-requires-in-Dropped : goal.regex_of-requires-in-Dropped
regex_of-requires-in-Dropped c = any_header_is _ (search rules)

pub returns-in-Header-clause-read : goal.returns-in-Header-clause-read
returns-in-Header-clause-read c = last_read c.args.net.now c.args.last.now _ _ (header_signs _ _ _ c.in-Header.is c.as_slice.ensures) c.regex_of.ensures.read

pub returns-in-Dropped-clause-read : goal.returns-in-Dropped-clause-read
returns-in-Dropped-clause-read c = last_read c.args.net.now c.args.last.now _ _ (rw c.in-Dropped.is (search rules)) c.regex_of-in-Dropped.ensures.read
