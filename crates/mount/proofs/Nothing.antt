-- Mounts that did not come up and freed nothing.
use Rattle.std.proofs.Common.{◌≡◌, ◌≤◌, ◌<◌, ◌+◌, ℕ, Bool, List, [], Option, None, Some, Err, take, refl, sym, subst, arith}
use Rattle.std.specs.Prelude.{IsSomeAnd}
use Rattle.life_limits.specs.declared.TheConstants.{MOUNT_LIMIT}
use Rattle.life_bytes.specs.declared.sector.Sector.{Sector}
use Rattle.life_ports.specs.Faults.{NeverFalls}
use Rattle.disk_model.specs.Disk.{Arming, Cell, IsAfterWrites, IsImage, as_read}
use Rattle.disk_model.specs.DiskLaws.{IsAfterWrites-none, IsImage-one}
use Rattle.geometry.specs.declared.shape.Geometry.{Geometry}
use Rattle.life_table.specs.declared.key.Key.{Key}
use Rattle.life_table.specs.declared.types.MountRecord.{MountRecord}
use Rattle.life_table.specs.declared.table.Table.{Table}
use Rattle.recovery.specs.declared.start.Start.{Start}
use Rattle.sound_image.specs.Encoding.{Layouts}
use Rattle.whole_image.specs.Represents.{Represents}
use Rattle.orphan_frees.specs.Order.{keys_to_free}
use Rattle.mount.specs.Coming.{Comes, IsClean, IsDownOver, IsLateFault}
use Rattle.mount.specs.Faults.{IsDeviceCause}
use Rattle.mount.specs.Images.{HasFreed, after_frees}
use Rattle.mount.specs.Mounts.{IsBegun, IsStoryOf}
use Rattle.mount.specs.declared.fault.MountFault.{MountFault}
use Rattle.mount.specs.declared.mounted.NotMounted.{NotMounted}

no_keys : (keys : List Key) → take 0 keys ≡ []
no_keys keys = refl

-- over a table that the disk encodes
pub down_over : (t : Table) (layouts : Layouts) (base : ℕ) (begun : Option MountRecord) (fault : MountFault) (cells : List Cell) → IsSomeAnd begun (IsStoryOf base [] 0)
    → IsLateFault fault → ((image : List Sector) → IsImage cells image → HasFreed t layouts base 0 image) → IsSomeAnd begun (λ story. IsDownOver t layouts base fault story cells)
down_over t layouts base None fault cells is late left = absurd is
down_over t layouts base (Some story) fault cells is late left = record {
  late = late;
  begun = record {
    count = 0;
    within = omega arith;
    story_is = subst (λ (keys : List Key). IsStoryOf base keys 0 story) (sym (no_keys (keys_to_free t layouts))) is;
    left = left;
  };
}

begun_none : (begun : Option MountRecord) (base : ℕ) → IsSomeAnd begun (IsStoryOf base [] 0) → (1 ≤ base) × (base < MOUNT_LIMIT) → IsSomeAnd begun (λ story. IsBegun (Some story))
begun_none None base is number = is
begun_none (Some story) base is number =
    ([], subst (λ (n : ℕ). IsStoryOf n [] 0 story) (sym is.base) is, omega arith, omega (arith, is.base, number.0), omega (arith, is.base, number.1))

-- whatever tells of the disk, which was read at most
pub nothing_comes : {D : Type 0} (known : Bool) (cells : D → List Cell) (count faults : D → ℕ) (arming : D → Arming) (old : D) (down : NotMounted D) (base : ℕ)
    → count down.disk ≡ count old → arming down.disk ≡ arming old → NeverFalls (faults old) (faults down.disk) → IsDeviceCause (faults old) (faults down.disk) down.fault
    → IsSomeAnd down.begun (IsStoryOf base [] 0) → (1 ≤ base) × (base < MOUNT_LIMIT) → Comes known cells count faults arming old (Err down)
nothing_comes known cells count faults arming old down base sectors armed falls device is number = record {
  up = tt;
  begun = begun_none down.begun base is number;
  device = device;
  count = falls;
  sectors = sectors;
  writes = subst (λ (a : Arming). IsAfterWrites (arming old) a) (sym armed) (IsAfterWrites-none (arming old));
}

-- what a clean disk holds
pub clean_image : (g : Geometry) (t : Table) (layouts : Layouts) (start : Start) (cells : List Cell) (image : List Sector) → IsClean g t layouts start cells → IsImage cells image
    → (most : ℕ) → HasFreed t layouts start.next_commit most image
clean_image g t layouts start cells image clean on most =
    let same : image ≡ as_read cells = IsImage-one cells image clean.anew.one on in
    let here : Represents image t start.next_commit = subst (λ (l : List Sector). Represents l t start.next_commit) (sym same) clean.represents in
    let none : after_frees t layouts 0 ≡ t = clean.unheld in
    record {
      count = 0;
      within = omega arith;
      represents = subst (λ (u : Table). Represents image u (start.next_commit + 0)) (sym none) (subst (λ (n : ℕ). Represents image t n) (omega arith) here);
    }
