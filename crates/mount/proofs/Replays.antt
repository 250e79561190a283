-- What images represent that a replay leaves.
use Rattle.std.proofs.Common.{◌≡◌, ◌≤◌, ◌+◌, ◌*◌, ℕ, List, length, take, sym, ap, subst, ◌∙◌, arith}
use Rattle.life_bytes.specs.declared.sector.Sector.{Sector}
use Rattle.life_bytes.specs.Sectors.{zero_sector}
use Rattle.disk_model.specs.Disk.{Cell, as_read}
use Rattle.geometry.specs.declared.shape.Geometry.{Geometry}
use Rattle.geometry.specs.Places.{anchor_of, group_sectors}
use Rattle.geometry.specs.Shape.{IsGeometry}
use Rattle.life_table.specs.declared.table.Table.{Table}
use Rattle.sound_image.specs.Damage.{AreGroupsSound}
use Rattle.sound_image.specs.Places.{HasSameGroups}
use Rattle.sound_image.specs.Reading.{rows_of}
use Rattle.sound_image.specs.Encoding.{Layouts, CanEncode, encoded}
use Rattle.sound_image.specs.Superblocks.{HasSuperblock}
use Rattle.log_image.specs.Log.{Log, groups_part}
use Rattle.recovery.specs.declared.found.Found.{Found}
use Rattle.recovery.specs.declared.start.Start.{Start}
use Rattle.recovery.specs.Found.{HasGroupImages, LogIsFound}
use Rattle.recovery.specs.Replay.{BeginsAnew, IsBehind, IsOfReplay, groups_found}
use Rattle.whole_image.specs.Damage.{HasFrontAndLog, groups_of, of_groups}
use Rattle.whole_image.specs.Represents.{Represents}
use Rattle.commit_history.specs.Carried.{IsEncoding}
use Rattle.mount.specs.Same.{RepresentSame}
use Rattle.mount.specs.Recovered.{IsRecovered}
use Rattle.mount.proofs.Encodes.{first_encoded, same_groups}
use Rattle.mount.proofs.Firsts.{none_first, same_superblock, some_sectors}

-- the laws of the crates below that are used
pub record Lower : Type 0 where
  pub made : (g : Geometry) (image : List Sector) (said : Log) → HasFrontAndLog g image said → AreGroupsSound g (groups_of g image said)
      → Represents image (rows_of g (groups_of g image said)) said.next
  pub one : (image : List Sector) (t u : Table) (c d : ℕ) → Represents image t c → Represents image u d → (t ≡ u) × (c ≡ d)
  pub encodes : (g : Geometry) (image : List Sector) → IsGeometry g → AreGroupsSound g image → g.groups * group_sectors g ≤ length image
      → (layouts : Layouts) × CanEncode g (rows_of g image) layouts image × (encoded g (rows_of g image) layouts image ≡ image)
  pub sound : (g : Geometry) (image other : List Sector) → IsGeometry g → HasSameGroups g image other → AreGroupsSound g image → AreGroupsSound g other
  pub rows : (g : Geometry) (image other : List Sector) → IsGeometry g → HasSameGroups g image other → AreGroupsSound g image → rows_of g other ≡ rows_of g image

-- what is known of an image before the replay
pub record Before (g : Geometry) (old : List Sector) (found : Found) (t : Table) (c : ℕ) : Type 0 where
  pub superblock : HasSuperblock g old
  pub log : LogIsFound old (anchor_of g) g.ring found
  pub homes : HasGroupImages (anchor_of g) found
  pub is : Represents old t c

front : (g : Geometry) (old : List Sector) (found : Found) (t : Table) (c : ℕ) → (b : Before g old found t c) → HasFrontAndLog g old b.log.log
front g old found t c b = record { superblock = b.superblock; log = b.log.says }

are_sound : (g : Geometry) (old : List Sector) (found : Found) (t : Table) (c : ℕ) → (b : Before g old found t c) → AreGroupsSound g (groups_of g old b.log.log)
are_sound g old found t c b = λ rule. b.is.sound (of_groups rule) g b.log.log (front g old found t c b)

-- its table is the one of its replayed groups
table_is : Lower → (g : Geometry) (old : List Sector) (found : Found) (t : Table) (c : ℕ) → (b : Before g old found t c)
    → (t ≡ rows_of g (groups_of g old b.log.log)) × (c ≡ found.next_commit)
table_is laws g old found t c b =
    let said : Log = b.log.log in
    let same = laws.one old t (rows_of g (groups_of g old said)) c said.next b.is
    (laws.made g old said (front g old found t c b) (are_sound g old found t c b)) in
    (same.0, same.1 ∙ sym b.log.found_is.next)

superblock_stays : (g : Geometry) (old new : List Sector) (found : Found) (t : Table) (c : ℕ) → Before g old found t c → IsOfReplay (anchor_of g) g.ring found old new
    → HasSuperblock g new
superblock_stays g old new found t c b left =
    same_superblock g old new
    (left.others.others 0 zero_sector (omega (arith, some_sectors g b.superblock.shape)) (none_first (anchor_of g) found.images b.homes)) b.superblock

pub represents_still : Lower → (g : Geometry) (old new : List Sector) (found : Found) (t : Table) (c : ℕ) → Before g old found t c
    → IsOfReplay (anchor_of g) g.ring found old new → Represents new t c
represents_still laws g old new found t c b left =
    let was : Log = b.log.log in
    let now : Log = left.recovers.log in
    let is = table_is laws g old found t c b in
    let there : HasFrontAndLog g new now = record { superblock = superblock_stays g old new found t c b left; log = left.recovers.says } in
    let groups : groups_of g new now ≡ groups_of g old was = left.recovers.groups_are ∙ b.log.groups in
    let sound : AreGroupsSound g (groups_of g new now) = subst (AreGroupsSound g) (sym groups) (are_sound g old found t c b) in
    let rows : rows_of g (groups_of g new now) ≡ t = ap (rows_of g) groups ∙ sym is.0 in
    let next : now.next ≡ c = left.recovers.number ∙ sym is.1 in
    subst (λ (n : ℕ). Represents new t n) next (subst (λ (u : Table). Represents new u now.next) rows (laws.made g new now there sound))

pub still_same : Lower → (g : Geometry) (old new : List Sector) (found : Found) (t : Table) (c : ℕ) → Before g old found t c
    → IsOfReplay (anchor_of g) g.ring found old new → RepresentSame old new
still_same laws g old new found t c b left = (t, c, b.is, represents_still laws g old new found t c b left)

-- ---- where the log begins anew

-- the groups as they read
record Groups (g : Geometry) (t : Table) (image : List Sector) : Type 0 where
  layouts : Layouts
  whole : IsEncoding g t layouts image
  part : IsEncoding g t layouts (groups_part (anchor_of g) image)

groups_now : Lower → (g : Geometry) (old new : List Sector) (found : Found) (t : Table) (c : ℕ) → Before g old found t c
    → anchor_of g ≤ length new → groups_part (anchor_of g) new ≡ groups_found (anchor_of g) old found → Groups g t new
groups_now laws g old new found t c b size read =
    let anchor : ℕ = anchor_of g in
    let shape = b.superblock.shape in
    let is = table_is laws g old found t c b in
    let groups : groups_part anchor new ≡ groups_of g old b.log.log = read ∙ b.log.groups in
    let here : AreGroupsSound g (groups_part anchor new) = subst (AreGroupsSound g) (sym groups) (are_sound g old found t c b) in
    let same = same_groups g new size in
    let sound = laws.sound g (groups_part anchor new) new shape same here in
    let rows : rows_of g new ≡ t = laws.rows g (groups_part anchor new) new shape same here ∙ ap (rows_of g) groups ∙ sym is.0 in
    let made = laws.encodes g new shape sound size in
    let layouts : Layouts = made.0 in
    let can : CanEncode g t layouts new = subst (λ (u : Table). CanEncode g u layouts new) rows made.1 in
    let encodes : encoded g t layouts new ≡ new = subst (λ (u : Table). encoded g u layouts new ≡ new) rows made.2 in
    record {
      layouts = layouts;
      whole = record { can = can; same = encodes };
      part = record {
        can = record { shape = shape; table = can.table; groups = can.groups; blocks = can.blocks; layouts_of = can.layouts_of; size = same.size };
        same = first_encoded g t layouts new anchor size ∙ ap (take anchor) encodes;
      };
    }

pub is_recovered : Lower → (g : Geometry) (old : List Sector) (found : Found) (t : Table) (c : ℕ) (start : Start) (cells : List Cell) → Before g old found t c
    → IsOfReplay (anchor_of g) g.ring found old (as_read cells) → IsBehind g.ring found start
    → BeginsAnew (anchor_of g) g.ring (groups_found (anchor_of g) old found) cells start → IsRecovered old g start cells
is_recovered laws g old found t c start cells b left behind anew =
    let is = table_is laws g old found t c b in
    let next : c ≡ start.next_commit = is.1 ∙ sym behind.number in
    let groups = groups_now laws g old (as_read cells) found t c b (omega (arith, left.recovers.says.size)) anew.groups_read in
    record {
      table = t;
      layouts = groups.layouts;
      was = subst (Represents old t) next b.is;
      log = b.log.log;
      front = front g old found t c b;
      one = anew.one;
      superblock = superblock_stays g old (as_read cells) found t c b left;
      anchor = anew.anchor_is;
      below = anew.below;
      position = behind.position ∙ ap (λ (n : ℕ). n + g.ring) b.log.found_is.end;
      groups = anew.groups_read ∙ b.log.groups;
      encodes = groups.part;
      whole = groups.whole;
      represents = subst (Represents (as_read cells) t) next (represents_still laws g old (as_read cells) found t c b left);
    }
