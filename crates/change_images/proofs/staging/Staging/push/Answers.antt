use Rattle.std.proofs.Common.{◌≡◌, ◌-◌, true, false, ◌∙◌, ap, arith}
use Rattle.change_images.proofs.Staged.{passed_over, pushed, tested}
use Rattle.change_images.proofs.staging.Staging.push.Goals as goal

pub returns-then-not-is_same : goal.returns-then-not-is_same
returns-then-not-is_same c =
    pushed _ c.args.self.now _ c.image_at-image.result _ _ c.self.view_is
    (tested c.is_same.result c.args.before.now.bytes c.args.after.now.bytes c.is_same.ensures ∙ c.if-not-is_same.true)
    c.image_at-image.ensures c.push_reserved.ensures.items (omega (arith, c.push_reserved.ensures.len, c.push_reserved.ensures.capacity))

pub returns-else-not-is_same : goal.returns-else-not-is_same
returns-else-not-is_same c =
    passed_over c.args.self.now _ (tested c.is_same.result c.args.before.now.bytes c.args.after.now.bytes c.is_same.ensures ∙ c.if-not-is_same.false)
