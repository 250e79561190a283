use Rattle.std.proofs.Common.{◌∙◌, rules}
use Rattle.extent_fork.proofs.Records.{fork_put, front_stays}
use Rattle.extent_fork.proofs.writing.write_fork.Goals as goal

pub returns-clause-fork : goal.returns-clause-fork
returns-clause-fork c = fork_put c.fork_bytes.result c.args.into.now.bytes c.put_bytes.new.bytes (search rules) (search rules) c.put_bytes.ensures ∙ c.fork_bytes.ensures

pub returns-clause-front : goal.returns-clause-front
returns-clause-front c = front_stays c.fork_bytes.result c.args.into.now.bytes c.put_bytes.new.bytes (search rules) c.put_bytes.ensures
