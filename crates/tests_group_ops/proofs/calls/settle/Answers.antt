use Rattle.std.proofs.Common.{ℕ, subst, sym}
use Rattle.group_core.specs.GroupHistory.{IsInGroup}
use Rattle.tests_group_ops.specs.Standing.{IsFirst}
use Rattle.tests_group_ops.proofs.Standing.{changed, roomed}
use Rattle.tests_group_ops.proofs.Turning.{still_happens}
use Rattle.tests_group_ops.proofs.calls.settle.Goals as goal

pub take_commit-commit-requires : goal.take_commit-commit-requires
take_commit-commit-requires c = c.requires.may.commit

pub commit-requires-clause-legal : goal.commit-requires-clause-legal
commit-requires-clause-legal c =
    still_happens c.args.group.now.state c.reserve.new.self.state c.args.change c.take_commit-commit.new.self c.args.event c.reserve.ensures.table c.reserve.ensures.changes c.take_commit-commit.ensures.same c.requires.may

pub commit-requires-clause-own : goal.commit-requires-clause-own
commit-requires-clause-own c = subst (λ (g : ℕ). IsInGroup g c.args.event) (sym c.reserve.ensures.group) c.requires.may.own

pub returns : goal.returns
returns c =
    let s = c.args.group.now.state in
    let roomy = c.reserve.new.self.state in
    let first : IsFirst roomy = roomed s roomy roomy.room c.requires.stands c.reserve.ensures.same (c.reserve.ensures.represents c.requires.stands.represents) in
    let new = c.commit.new.self.state in
    changed roomy new c.take_commit-commit.new.self.delta new.room first c.commit.ensures.applied c.commit.ensures.represents

pub returns-in_err-reserve : goal.returns-in_err-reserve
returns-in_err-reserve c =
    let s = c.args.group.now.state in
    let roomy = c.reserve.new.self.state in
    roomed s roomy roomy.room c.requires.stands c.reserve.ensures.same (c.reserve.ensures.represents c.requires.stands.represents)
