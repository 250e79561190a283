use Rattle.image_rules.specs.Faults.{FaultIn, IsCaused}
use Rattle.image_rules.proofs.Outcomes.{passed_up}
use Rattle.image_rules.proofs.one_group.check_group.Goals as goal

pub returns-in_err-check_lists-clause-read_fault : goal.returns-in_err-check_lists-clause-read_fault
returns-in_err-check_lists-clause-read_fault g c =
    let before = g.V.View.fault_count c.args.view.now in
    let now = g.V.View.fault_count c.check_space.new.view in
    passed_up c.from_residual-in_err-check_lists.result c.in_err-check_lists.field-0.0 (IsCaused before now) c.from_residual-in_err-check_lists.ensures.1 (c.in_err-check_lists.ensures.no_read before now)

pub returns-in_err-check_lists-clause-damaged : goal.returns-in_err-check_lists-clause-damaged
returns-in_err-check_lists-clause-damaged g c known =
    let a = c.args in
    let image = g.V.View.image a.view.now in
    let right = c.in_ok-space.ensures.right known in
    passed_up c.from_residual-in_err-check_lists.result c.in_err-check_lists.field-0.0 (FaultIn a.g.now image a.group) c.from_residual-in_err-check_lists.ensures.1
    (c.in_err-check_lists.ensures.fault image right.0 right.1 right.2)
