use Rattle.tests_group_ops.specs.Standing.{IsFirst}
use Rattle.tests_group_ops.proofs.Standing.{gone, written}
use Rattle.tests_group_ops.proofs.calls.flush_and_let_go.Goals as goal

pub returns : goal.returns
returns c =
    let flushed = c.flush.new.self.state in
    let first : IsFirst flushed = written c.args.group.now.state flushed c.requires c.flush.ensures.flushed in
    gone flushed c.let_go.new.self.state c.in_ok-agino.agino first c.let_go.ensures.gone
