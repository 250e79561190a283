use Rattle.std.proofs.Common.{◌≡◌, ◌+◌, ◌*◌, ℕ, ap, ◌∙◌, sym, arith}
use Rattle.geometry.specs.declared.shape.Geometry.{Geometry}
use Rattle.geometry.specs.Places.{group_sectors}
use Rattle.life_bytes.specs.declared.sector.Sector.{Sector}
use Rattle.log_record.specs.declared.image.Image.{Image}
use Rattle.sound_image.specs.Places.{sector_in}
use Rattle.encoded_changes.specs.Carry.{image_for}
use Rattle.change_images.specs.Candidates.{StagingValue}
use Rattle.change_images.proofs.staging.Staging.image_at.Goals as goal

at : (g : Geometry) (group place : ℕ) (sector : Sector) (home : ℕ) → home ≡ group * group_sectors g + place
    → record { home = home; sector = sector } ≡ image_for g group place sector.bytes
unfolding sector_in
at g group place sector home e = ap (λ (h : ℕ). record { home = h; sector = sector }) e

pub returns : goal.returns
returns c =
    let g : c.self.inside.geometry ≡ c.args.self.now.geometry = ap (λ (v : StagingValue). v.geometry) c.self.view_is in
    let blocks : c.self.inside.geometry.blocks ≡ c.args.self.now.geometry.blocks = ap (λ (x : Geometry). x.blocks) g in
    let group : c.self.inside.group ≡ c.args.self.now.group = ap (λ (v : StagingValue). v.group) c.self.view_is in
    at c.args.self.now.geometry c.args.self.now.group c.args.place c.args.sector.now _ (cc)
