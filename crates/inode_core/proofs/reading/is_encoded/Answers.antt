use Rattle.std.proofs.Common.{ℕ, List, subst, ◌∙◌}
use Rattle.inode_core.specs.Cores.{EncodesCore}
use Rattle.inode_core.proofs.Encoded.{one_sector, same_fork}
use Rattle.inode_core.proofs.reading.is_encoded.Goals as goal

pub returns : goal.returns
returns c =
    let core = c.args.core.now in
    let ino = c.args.number in
    let uuid = c.args.uuid.now in
    let bytes = c.args.sector.now.bytes in
    let again = c.write_core.new.into.bytes in
    let written = c.write_core.ensures in
    let given = c.fork_for-again in (
      λ yes. subst (λ (b : List ℕ). EncodesCore b ino uuid core) (c.is_same.ensures.0 yes) written.encoded,
      λ encoded. c.is_same.ensures.1 (one_sector again bytes ino uuid core written.encoded encoded
          (written.same_fork ∙ same_fork core ino uuid bytes given.result.bytes given.ensures.live given.ensures.free encoded)),
    )
