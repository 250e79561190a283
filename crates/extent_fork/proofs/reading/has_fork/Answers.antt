use Rattle.std.proofs.Common.{ap, sym, ◌∙◌}
use Rattle.inode_core.specs.Cores.{fork_of}
use Rattle.extent_fork.proofs.Records.{same_sector}
use Rattle.extent_fork.proofs.reading.has_fork.Goals as goal

pub returns : goal.returns
returns c =
    let bytes = c.args.sector.now.bytes in
    let again = c.write_fork.new.into.bytes in
    let written = c.write_fork.ensures in (
      λ yes. (c.are_runs.ensures.0 c.if-not-are_runs.false, sym (ap fork_of (c.is_same.ensures.0 yes)) ∙ written.fork),
      λ h. c.is_same.ensures.1 (same_sector again bytes written.front (written.fork ∙ sym h.1)),
    )
