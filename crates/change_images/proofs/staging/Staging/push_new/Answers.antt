use Rattle.std.proofs.Common.{◌≡◌, ◌-◌, arith}
use Rattle.change_images.proofs.Staged.{is_new, pushed}
use Rattle.change_images.proofs.staging.Staging.push_new.Goals as goal

pub returns : goal.returns
returns c =
    pushed _ c.args.self.now _ c.image_at-added.result _ _ c.self.view_is (is_new c.args.after.now.bytes)
    c.image_at-added.ensures c.push_reserved.ensures.items (omega (arith, c.push_reserved.ensures.len, c.push_reserved.ensures.capacity))
