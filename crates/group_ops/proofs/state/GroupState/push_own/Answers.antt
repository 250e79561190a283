use Rattle.std.proofs.Common.{Option, ap, arith, sym, subst, ◌∙◌}
use Rattle.std.specs.Prelude.{if◌then◌else◌, is_some}
use Rattle.group_ops.specs.declared.delta.Prior.{Prior}
use Rattle.group_ops.specs.Staging.{PushesPart, own_touched}
use Rattle.group_ops.proofs.Pushing.{own_long, part_higher, part_lower}
use Rattle.group_ops.proofs.state.GroupState.push_own.Goals as goal

pub push_changed-requires-clause-room : goal.push_changed-requires-clause-room
push_changed-requires-clause-room c =
    let one = own_long c.args.delta.now.agino c.args.delta.now.prior ∙ ap (λ (p : Option Prior). if is_some p then 2 else 1) c.in_default.is in
    omega (arith, c.requires.room, one)

pub returns-in_default : goal.returns-in_default
returns-in_default c =
    let s = c.args.self.now in
    let d = c.args.delta.now in
    subst (λ (p : Option Prior). PushesPart s d (own_touched d.agino p) c.args.staging.now c.push_changed.new.staging) (sym c.in_default.is) c.push_changed.ensures

pub returns-then-prior-delta : goal.returns-then-prior-delta
returns-then-prior-delta c =
    let s = c.args.self.now in
    let d = c.args.delta.now in
    subst (λ (p : Option Prior). PushesPart s d (own_touched d.agino p) c.args.staging.now c.push_changed-then-prior-delta.new.staging) (sym c.in-Some.is)
    (part_lower c.candidates_give_the_images.ensures.joined s d c.in-Some.prior.agino d.agino c.args.staging.now c.push_prior.new.staging c.push_changed-then-prior-delta.new.staging c.if-prior-delta.true
    c.push_prior.ensures c.push_changed-then-prior-delta.ensures)

pub returns-else-prior-delta : goal.returns-else-prior-delta
returns-else-prior-delta c =
    let s = c.args.self.now in
    let d = c.args.delta.now in
    subst (λ (p : Option Prior). PushesPart s d (own_touched d.agino p) c.args.staging.now c.push_prior-else-prior-delta.new.staging) (sym c.in-Some.is)
    (part_higher c.candidates_give_the_images.ensures.joined s d c.in-Some.prior.agino d.agino c.args.staging.now c.push_changed-else-prior-delta.new.staging c.push_prior-else-prior-delta.new.staging c.if-prior-delta.false
    c.push_changed-else-prior-delta.ensures c.push_prior-else-prior-delta.ensures)
