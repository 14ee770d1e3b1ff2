use Rattle.wi_script.proofs.Fronts.{boundary, plain_boundary}
use Rattle.wi_script.proofs.line.plain_name.Goals as goal

pub split_at-requires : goal.split_at-requires
split_at-requires c = boundary _ _ _ c.plain_length-length.ensures c.as_bytes.ensures.value (plain_boundary _ c.utf8.text)
