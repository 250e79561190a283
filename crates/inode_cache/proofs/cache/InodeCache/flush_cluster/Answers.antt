use Rattle.std.proofs.Common.{[], ◌∙◌, arith}
use Rattle.inode_cache.specs.Flush.{member}
use Rattle.inode_cache.proofs.Flushes.{flushing_none, flushing_more, flushed_all, flushed_rows}
use Rattle.inode_cache.proofs.cache.InodeCache.flush_cluster.Goals as goal

pub loop-place-init : goal.loop-place-init
loop-place-init c = flushing_none c.args.cluster c.args.self.now c.args.into.now

pub loop-place-preserved : goal.loop-place-preserved
loop-place-preserved c =
    flushing_more c.args.cluster c.args.self.now c.args.into.now c.loop-place.self c.flush_inode.new.self c.loop-place.into c.loop-place.place c.flush_inode.new.into (record { bytes = [] })
    c.loop-place.invariant (omega arith) c.flush_inode.ensures.inode c.flush_inode.ensures.buffer

pub returns : goal.returns
returns c =
    let done = c.loop-place.invariant in record {
      buffers = λ place d below. done.done place d (omega arith);
      inodes = flushed_all c.args.cluster c.args.self.now c.args.into.now c.loop-place.self c.loop-place.into c.loop-place.place done (omega arith);
      rows = λ encoded place d below. done.done place d (omega arith) ∙ flushed_rows c.args.self.now (member c.args.cluster place) _ (encoded place d below);
    }
