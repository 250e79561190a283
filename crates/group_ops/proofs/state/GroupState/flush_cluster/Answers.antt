use Rattle.group_ops.proofs.Flushed.{cluster_represents, flushed_clean, sector_is}
use Rattle.group_ops.proofs.state.GroupState.flush_cluster.Goals as goal

pub returns-clause-represents : goal.returns-clause-represents
returns-clause-represents c t layouts is = cluster_represents c.args.cluster c.args.self.now c.flush_inodes.new.self t layouts c.flush_inodes.ensures is

pub returns-clause-clean : goal.returns-clause-clean
returns-clause-clean c agino own = flushed_clean c.args.self.now c.flush_inodes.new.self agino (c.flush_inodes.ensures.inside agino own)

pub returns-clause-sectors : goal.returns-clause-sectors
returns-clause-sectors c t layouts agino inode is own there =
    sector_is c.args.self.now c.flush_inodes.new.self t layouts agino inode is (c.flush_inodes.ensures.inside agino own) there
