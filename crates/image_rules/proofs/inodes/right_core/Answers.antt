use Rattle.std.proofs.Common.{◌≡◌, ℕ, ap, sym, ◌∙◌, subst, rules}
use Rattle.inode_core.specs.declared.shape.Core.{Core}
use Rattle.inode_core.specs.Cores.{EncodesCore}
use Rattle.geometry.specs.Places.{number_in}
use Rattle.sound_image.specs.Reading.{core_of}
use Rattle.image_rules.proofs.Living.{core_right, core_read, core_encoded}
use Rattle.image_rules.proofs.inodes.right_core.Goals as goal

pub returns-in_err-core-clause-wrong : goal.returns-in_err-core-clause-wrong
returns-in_err-core-clause-wrong c image inode shown live =
    let a = c.args in
    rw c.from_residual.ensures (λ right.
    let encodes = core_encoded a.g.now image a.group a.agino a.sector.now.bytes inode shown right in
    let found = c.in_err-core.ensures.only (core_of a.g.now image a.group a.agino) (subst (λ (n : ℕ). EncodesCore a.sector.now.bytes n a.g.now.uuid (core_of a.g.now image a.group a.agino)) (sym c.number.ensures) encodes) in
    cc)

pub returns-then-core-live-clause-right : goal.returns-then-core-live-clause-right
returns-then-core-live-clause-right c image inode shown live =
    let a = c.args in
    let says : c.in_ok-core.core.live ≡ a.live = search rules in
    core_right c.encoded_cores_are_read.ensures a.g.now image a.group a.agino a.sector.now.bytes c.in_ok-core.core inode shown c.has_its_bytes.ensures c.requires.shape.uuid
    (subst (λ (n : ℕ). EncodesCore a.sector.now.bytes n a.g.now.uuid c.in_ok-core.core) c.number.ensures c.in_ok-core.ensures.found) (says ∙ sym live)

pub returns-else-core-live-clause-wrong : goal.returns-else-core-live-clause-wrong
returns-else-core-live-clause-wrong c image inode shown live right =
    let a = c.args in
    let same = core_read c.encoded_cores_are_read.ensures a.g.now image a.group a.agino a.sector.now.bytes c.in_ok-core.core shown c.has_its_bytes.ensures c.requires.shape.uuid
    (subst (λ (n : ℕ). EncodesCore a.sector.now.bytes n a.g.now.uuid c.in_ok-core.core) c.number.ensures c.in_ok-core.ensures.found) in
    let says : c.in_ok-core.core.live ≡ a.live = sym (ap (λ (x : Core). x.live) same) ∙ right.live ∙ live in
    search rules
