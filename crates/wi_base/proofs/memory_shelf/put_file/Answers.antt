use Rattle.std.proofs.Common.{rules}
use Rattle.wi_base.proofs.Files.{with_file_place, with_file_pushed}
use Rattle.wi_base.proofs.memory_shelf.put_file.Goals as goal

pub returns-in-Some-clause-ok : goal.returns-in-Some-clause-ok
returns-in-Some-clause-ok c = with_file_place c.args.name.now c.args.bytes.now c.args.files.now.items c.in-Some.place c.index_mut.result.now (record { name = c.index_mut.result.now.name; bytes = c.in_ok-bytes.bytes }) (search rules) (search rules)

pub returns-in_ok-push-in-None-clause-ok : goal.returns-in_ok-push-in-None-clause-ok
returns-in_ok-push-in-None-clause-ok c = with_file_pushed c.args.name.now c.args.bytes.now c.args.files.now.items c.push.new.self.items (record { name = c.in_ok-name-in-None.name; bytes = c.in_ok-bytes.bytes }) c.in_ok-push-in-None.ensures.items (search rules) (search rules)
