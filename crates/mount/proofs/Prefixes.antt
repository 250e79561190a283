-- What images represent that a store leaves.
use Rattle.std.proofs.Common.{◌≡◌, ◌<◌, ◌+◌, ℕ, List, length, take, sym, ap, subst, ◌∙◌, arith}
use Rattle.std.specs.List.{All}
use Rattle.life_bytes.specs.declared.sector.Sector.{Sector}
use Rattle.life_bytes.specs.Sectors.{zero_sector}
use Rattle.geometry.specs.declared.shape.Geometry.{Geometry}
use Rattle.geometry.specs.Places.{anchor_of}
use Rattle.life_table.specs.declared.table.Table.{Table}
use Rattle.life_table.specs.History.{closed}
use Rattle.sound_image.specs.Encoding.{Layouts, CanEncode, encoded}
use Rattle.sound_image.specs.Superblocks.{HasSuperblock}
use Rattle.log_record.specs.declared.image.Commit.{Commit}
use Rattle.log_image.specs.Log.{IsGroupImage, IsLog, Log, replayed}
use Rattle.log_image.specs.Overlay.{overlaid}
use Rattle.log_batch.specs.Newest.{IsCommit, commit_images}
use Rattle.log_store.specs.OnDisk.{Replays}
use Rattle.whole_image.specs.Damage.{HasFrontAndLog, groups_of}
use Rattle.whole_image.specs.Represents.{Represents}
use Rattle.commit_history.specs.Carried.{CommitsCarry, IsEncoding}
use Rattle.mount.specs.Prefixes.{IsPrefixLeft}
use Rattle.mount.proofs.Firsts.{first_under, same_superblock, some_sectors}
use Rattle.std.specs.Prelude.{slice_index_or}

-- the laws of the crates below that are used
pub record Carries : Type 0 where
  pub first : (image : List Sector) (anchor ring : ℕ) (log : Log) (d : Sector) → 0 < anchor → IsLog image anchor ring log
      → slice_index_or (replayed anchor image log.records) 0 d ≡ slice_index_or image 0 d
  pub all : (g : Geometry) (t u : Table) (layouts others : Layouts) (base : List Sector) (commits : List Commit) → IsEncoding g t layouts base
      → CommitsCarry g t layouts commits u others → IsEncoding g u others (overlaid base (commit_images commits))
  pub fits : (g : Geometry) (t u : Table) (layouts others : Layouts) (sectors : List Sector) (commits : List Commit) → CanEncode g t layouts sectors
      → CommitsCarry g t layouts commits u others → All IsCommit commits × All (IsGroupImage (anchor_of g)) (commit_images commits)
  pub represents : (g : Geometry) (t : Table) (layouts : Layouts) (base image : List Sector) (said : Log) → HasFrontAndLog g image said → CanEncode g t layouts base
      → groups_of g image said ≡ encoded g t layouts base → Represents image (closed t) said.next

pub represented : Carries → (g : Geometry) (t u : Table) (layouts others : Layouts) (most durable : ℕ) (base image : List Sector) (list : List Commit) → IsEncoding g t layouts base
    → HasSuperblock g base → (left : Replays (anchor_of g) g.ring most base list durable image) → CommitsCarry g t layouts (take left.count list) u others
    → Represents image (closed u) (durable + 1 + left.count)
represented laws g t u layouts others most durable base image list is has left carried =
    let commits : List Commit = take left.count list in
    let some = some_sectors g has.shape in
    let fit = laws.fits g t u layouts others base commits is.can carried in
    let then_is = laws.all g t u layouts others base commits is carried in
    let long : 0 < length base = omega (arith, some, is.can.size) in
    let same = sym (laws.first image (anchor_of g) g.ring left.log zero_sector some left.says)
    ∙ ap (λ (l : List Sector). slice_index_or l 0 zero_sector) left.groups
    ∙ first_under (anchor_of g) base (commit_images commits) zero_sector long fit.1 in
    let there : HasFrontAndLog g image left.log = record { superblock = same_superblock g base image same has; log = left.says } in
    subst (Represents image (closed u)) left.next
    (laws.represents g u others (overlaid base (commit_images commits)) image left.log there then_is.can (left.groups ∙ sym then_is.same))

pub is_prefix : Carries → (g : Geometry) (t : Table) (layouts : Layouts) (most durable : ℕ) (base image : List Sector) (list : List Commit) → IsEncoding g t layouts base
    → HasSuperblock g base → Replays (anchor_of g) g.ring most base list durable image → IsPrefixLeft g t layouts list (durable + 1) image
is_prefix laws g t layouts most durable base image list is has left = record {
  count = left.count;
  within = left.within;
  represents = λ u others carried. represented laws g t u layouts others most durable base image list is has left carried;
}
