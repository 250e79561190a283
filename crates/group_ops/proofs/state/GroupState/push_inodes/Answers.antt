use Rattle.std.proofs.Common.{Option, sym, subst}
use Rattle.group_ops.specs.Buffers.{Buffers}
use Rattle.group_ops.specs.Staging.{PushesPart, inodes_touched}
use Rattle.group_ops.proofs.state.GroupState.push_inodes.Goals as goal

pub returns-in-Some : goal.returns-in-Some
returns-in-Some c =
    subst (λ (o : Option Buffers). PushesPart c.args.self.now c.args.delta.now (inodes_touched c.args.delta.now o) c.args.staging.now c.push_chunk.new.staging) (sym c.in-Some.is) c.push_chunk.ensures

pub returns-in-None : goal.returns-in-None
returns-in-None c =
    subst (λ (o : Option Buffers). PushesPart c.args.self.now c.args.delta.now (inodes_touched c.args.delta.now o) c.args.staging.now c.push_own.new.staging) (sym c.in-None.is) c.push_own.ensures
