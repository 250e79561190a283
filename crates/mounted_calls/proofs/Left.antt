-- What is left of a mount's log, and how the log moves on.
use Rattle.std.proofs.Common.{◌≡◌, ◌<◌, ◌+◌, ℕ, Bool, List, [], ◌∷◌, None, length, take, get_or, ap, sym, subst, ◌∙◌, arith}
use Rattle.std.specs.Prelude.{IsTrue, unwrap_or}
use Rattle.std.specs.List.{All}
use Rattle.std.proofs.lemmas.List.{length-drop, length-take-le}
use Rattle.std.proofs.lemmas.List.Elements.{All-head, All-tail}
use Rattle.std.proofs.Math.Nat.{mul-le-mul_right}
use Rattle.life_limits.specs.declared.TheConstants.{MAX_RECORD_SECTORS}
use Rattle.life_bytes.specs.declared.sector.Sector.{Sector}
use Rattle.life_bytes.specs.Sectors.{zero_sector}
use Rattle.disk_model.specs.Disk.{Cell}
use Rattle.disk_model.specs.DiskLaws.{Elapses-both, Elapses-weaker}
use Rattle.geometry.specs.declared.shape.Geometry.{Geometry}
use Rattle.geometry.specs.Places.{anchor_of, group_sectors}
use Rattle.geometry.specs.Shape.{IsGeometry}
use Rattle.log_record.specs.declared.image.Commit.{Commit}
use Rattle.log_record.specs.declared.image.Image.{Image}
use Rattle.log_image.specs.Log.{IsGroupImage, IsLog, replayed}
use Rattle.log_image.specs.Overlay.{newest, overlaid}
use Rattle.log_image.specs.OverlayLaws.{get_or-overlaid}
use Rattle.log_batch.specs.Newest.{IsCommit, commit_images}
use Rattle.log_batch.specs.NewestLaws.{newest-nil, newest_rest}
use Rattle.log_store.specs.OnDisk.{Replays, ReplaysUpTo, base_of}
use Rattle.log_store.specs.declared.store.Store.{Store}
use Rattle.log_store.specs.State.{State, state_of}
use Rattle.log_store.specs.Steps.{Goes, Moves}
use Rattle.life_table.specs.declared.types.MountRecord.{MountRecord}
use Rattle.life_table.specs.declared.table.Table.{Table}
use Rattle.life_table.specs.History.{After, closed}
use Rattle.sound_image.specs.Encoding.{CanEncode, Layouts}
use Rattle.sound_image.specs.Places.{bytes_at}
use Rattle.sound_image.specs.Superblocks.{HasSuperblock}
use Rattle.whole_image.specs.Represents.{Represents}
use Rattle.commit_history.specs.Carried.{CommitsCarry, IsEncoding}
use Rattle.mount.specs.Ending.{IsStoreOf, IsWholeLeft}
use Rattle.mount.specs.Prefixes.{IsPrefixLeft}
use Rattle.mounted_calls.specs.Commits.{AreOfChanges}
use Rattle.run_history.specs.CrashSafe as crash
use Rattle.run_history.specs.Mounts.{changes_made}
use Rattle.mounted_calls.specs.Running.{IsLeftBehind, IsLogOf, IsRecordOf, StoreMoves, story_of}
use Rattle.mounted_calls.proofs.Following.{of_carry, of_parted}

-- ---- what a store leaves

-- the law of stores that is used
pub record Leaves : Type 0 where
  pub prefixes : (g : Geometry) (t : Table) (layouts : Layouts) (most durable : ℕ) (base image : List Sector) (list : List Commit) → IsEncoding g t layouts base → HasSuperblock g base
      → Replays (anchor_of g) g.ring most base list durable image → IsPrefixLeft g t layouts list (durable + 1) image
  pub twice : (t : Table) → closed (closed t) ≡ closed t

-- the log lies where the geometry says
placed : (g : Geometry) (t : Table) (layouts : Layouts) (head : ℕ) (s : State) (cells : List Cell) (image : List Sector) → IsStoreOf g t layouts s cells
    → ReplaysUpTo head s cells image → Replays (anchor_of g) g.ring (head + MAX_RECORD_SECTORS) (base_of s cells) s.list s.durable image
placed g t layouts head s cells image of is = record {
  log = is.log;
  count = is.count;
  within = is.within;
  says = subst (λ (n : ℕ). IsLog image n g.ring is.log) of.anchor (subst (λ (n : ℕ). IsLog image s.anchor n is.log) of.ring is.says);
  groups = ap (λ (n : ℕ). replayed n image is.log.records) (sym of.anchor) ∙ is.groups;
  next = is.next;
  end = is.end;
}

pub left_behind : Leaves → (known : Bool) (g : Geometry) (start t : Table) (layouts : Layouts) (story : MountRecord) (head : ℕ) (s : State) (cells : List Cell) (image : List Sector) → IsTrue known
    → IsRecordOf start t story → IsLogOf known g start layouts story s cells → ReplaysUpTo head s cells image → IsLeftBehind start story image
left_behind laws known g start t layouts story head s cells image tells of is replays =
    let d : ℕ = is.durable in
    let base = is.base tells in
    let left = laws.prefixes g (After start story.entries d) is.lists (head + MAX_RECORD_SECTORS) s.durable (base_of s cells) image s.list base.encodes base.superblock
    (placed g (After start story.entries d) is.lists head s cells image base replays) in
    let parts = of_parted g start story.entries d is.lists layouts s.list left.count left.within is.commits in
    let size : length (take left.count s.list) ≡ left.count = length-take-le left.count s.list left.within in
    let carried : CommitsCarry g (After start story.entries d) is.lists (take left.count s.list) (After start story.entries (d + left.count)) parts.0 =
    subst (λ (n : ℕ). CommitsCarry g (After start story.entries d) is.lists (take left.count s.list) (After start story.entries (d + n)) parts.0) size
    (of_carry g start story.entries d is.lists parts.0 (take left.count s.list) parts.1) in
    let number : s.durable + 1 + left.count ≡ story.base + (d + left.count) = omega (arith, is.number) in
    let tells_table : Represents image (closed (After start story.entries (d + left.count))) (s.durable + 1 + left.count) = left.represents (After start story.entries (d + left.count)) parts.0 carried in
    let same : Represents image (After start story.entries (d + left.count)) (s.durable + 1 + left.count) = subst (λ (u : Table). Represents image u (s.durable + 1 + left.count)) (laws.twice _) tells_table in (
      d + left.count,
      record {
        acknowledged = omega (arith, is.acknowledged, of.acknowledged);
        made = omega (arith, is.made, left.within);
        represents = subst (λ (n : ℕ). Represents image (After start story.entries (d + left.count)) n) number same;
      },
    )

-- what is left of an end of the mount
pub left_ended : ((t : Table) → closed (closed t) ≡ closed t) → (known : Bool) (g : Geometry) (start t : Table) (layouts : Layouts) (story : MountRecord) (s : State) (cells : List Cell) (image : List Sector)
    → IsRecordOf start t story → (log : IsLogOf known g start layouts story s cells) → IsWholeLeft g (After start story.entries log.durable) log.lists s.list (s.durable + 1) image
    → crash.IsPrefixLeft (story_of start story) image (changes_made story)
left_ended twice known g start t layouts story s cells image of is left =
    let d : ℕ = is.durable in
    let all : ℕ = d + length s.list in
    let carried : CommitsCarry g (After start story.entries d) is.lists s.list (After start story.entries all) layouts = of_carry g start story.entries d is.lists layouts s.list is.commits in
    let number : s.durable + 1 + length s.list ≡ story.base + all = omega (arith, is.number) in
    let told : Represents image (closed (After start story.entries all)) (s.durable + 1 + length s.list) = left.represents (After start story.entries all) layouts carried in
    let same : Represents image (After start story.entries all) (s.durable + 1 + length s.list) = subst (λ (u : Table). Represents image u (s.durable + 1 + length s.list)) (twice _) told in
    let numbered : Represents image (After start story.entries all) (story.base + all) = subst (λ (n : ℕ). Represents image (After start story.entries all) n) number same in
    record {
      acknowledged = omega (arith, is.acknowledged, of.acknowledged, is.made);
      made = omega arith;
      represents = subst (λ (n : ℕ). Represents image (After start story.entries n) (story.base + n)) is.made numbered;
    }

-- ---- commits that came to be durable

-- the laws of commits that are used
pub record Lands : Type 0 where
  pub all : (g : Geometry) (t u : Table) (layouts others : Layouts) (base : List Sector) (commits : List Commit) → IsEncoding g t layouts base
      → CommitsCarry g t layouts commits u others → IsEncoding g u others (overlaid base (commit_images commits))
  pub fits : (g : Geometry) (t u : Table) (layouts others : Layouts) (sectors : List Sector) (commits : List Commit) → CanEncode g t layouts sectors
      → CommitsCarry g t layouts commits u others → All IsCommit commits × All (IsGroupImage (anchor_of g)) (commit_images commits)

some_sectors : (g : Geometry) → IsGeometry g → 0 < anchor_of g
some_sectors g shape = let more = mul-le-mul_right (group_sectors g) shape.groups.0 in omega (arith, more, shape.blocks.0)

none_first : (anchor : ℕ) (images : List Image) → All (IsGroupImage anchor) images → newest 0 images ≡ None
none_first anchor [] all = newest-nil 0
none_first anchor (image ∷ images) all =
    let here = All-head (IsGroupImage anchor) image images all in
    newest_rest 0 image images (omega (arith, here.0)) ∙ none_first anchor images (All-tail (IsGroupImage anchor) image images all)

first_under : (anchor : ℕ) (sectors : List Sector) (images : List Image) (d : Sector) → 0 < length sectors → All (IsGroupImage anchor) images
    → get_or (overlaid sectors images) 0 d ≡ get_or sectors 0 d
first_under anchor sectors images d some all =
    get_or-overlaid sectors images 0 d some ∙ ap (λ o. unwrap_or o (get_or sectors 0 d)) (none_first anchor images all)

same_superblock : (g : Geometry) (old new : List Sector) → get_or new 0 zero_sector ≡ get_or old 0 zero_sector → HasSuperblock g old → HasSuperblock g new
unfolding bytes_at
same_superblock g old new same has = record { shape = has.shape; encoded = ap (λ (s : Sector). s.bytes) same ∙ has.encoded }

landed : Lands → (g : Geometry) (t u : Table) (layouts others : Layouts) (s new : State) (cells after : List Cell) (commits : List Commit) → IsStoreOf g t layouts s cells
    → CommitsCarry g t layouts commits u others → new.anchor ≡ s.anchor → new.ring ≡ s.ring → base_of new after ≡ overlaid (base_of s cells) (commit_images commits)
    → IsStoreOf g u others new after
landed laws g t u layouts others s new cells after commits is carry anchor ring base =
    let there = laws.all g t u layouts others (base_of s cells) commits is.encodes carry in
    let fit = laws.fits g t u layouts others (base_of s cells) commits is.encodes.can carry in
    let long : 0 < length (base_of s cells) = omega (arith, some_sectors g is.superblock.shape, is.encodes.can.size) in
    let first = first_under (anchor_of g) (base_of s cells) (commit_images commits) zero_sector long fit.1 in
    record {
      anchor = anchor ∙ is.anchor;
      ring = ring ∙ is.ring;
      superblock = subst (HasSuperblock g) (sym base) (same_superblock g (base_of s cells) (overlaid (base_of s cells) (commit_images commits)) first is.superblock);
      encodes = subst (IsEncoding g u others) (sym base) there;
    }

pub moved_on : Lands → (known : Bool) (g : Geometry) (start t : Table) (layouts : Layouts) (story : MountRecord) (s new : State) (cells after : List Cell)
    → IsLogOf known g start layouts story s cells → Moves known s new cells after → IsLogOf known g start layouts story new after
moved_on laws known g start t layouts story s new cells after is moves =
    let d : ℕ = is.durable in
    let parts = of_parted g start story.entries d is.lists layouts s.list moves.count moves.within is.commits in
    let size : length (take moves.count s.list) ≡ moves.count = length-take-le moves.count s.list moves.within in
    let carried : CommitsCarry g (After start story.entries d) is.lists (take moves.count s.list) (After start story.entries (d + moves.count)) parts.0 =
    subst (λ (n : ℕ). CommitsCarry g (After start story.entries d) is.lists (take moves.count s.list) (After start story.entries (d + n)) parts.0) size
    (of_carry g start story.entries d is.lists parts.0 (take moves.count s.list) parts.1) in
    record {
      anchor = moves.anchor ∙ is.anchor;
      ring = moves.ring ∙ is.ring;
      durable = d + moves.count;
      acknowledged = omega (arith, is.acknowledged);
      number = omega (arith, is.number, moves.durable);
      made = omega (arith, is.made, moves.within, ap length moves.list, length-drop moves.count s.list);
      lists = parts.0;
      commits = subst (λ (l : List Commit). AreOfChanges g start story.entries (d + moves.count) parts.0 l layouts) (sym moves.list) parts.2;
      base = λ tells. landed laws g (After start story.entries d) (After start story.entries (d + moves.count)) is.lists parts.0 s new cells after (take moves.count s.list) (is.base tells) carried
          moves.anchor moves.ring (moves.base tells);
    }

-- ---- a store that went on

abbrev pub MovesOn : Type 0
MovesOn = (known : Bool) (g : Geometry) (start t : Table) (layouts : Layouts) (story : MountRecord) (s new : State) (cells after : List Cell)
    → IsRecordOf start t story → IsLogOf known g start layouts story s cells → Moves known s new cells after → IsLogOf known g start layouts story new after

abbrev pub LeavesFirst : Type 0
LeavesFirst = (known : Bool) (g : Geometry) (start t : Table) (layouts : Layouts) (story : MountRecord) (head : ℕ) (s : State) (cells : List Cell) (image : List Sector) → IsTrue known
    → IsRecordOf start t story → IsLogOf known g start layouts story s cells → ReplaysUpTo head s cells image → IsLeftBehind start story image

pub store_moves : {D : Type 0} → MovesOn → LeavesFirst → (known : Bool) (cells : D → List Cell) (sector_count moment : D → ℕ) (left : D → ℕ → List Sector → Type 0) (old new : Store D)
    → Goes known cells sector_count moment left old new → StoreMoves known cells sector_count moment left old new
store_moves moves leaves known cells sector_count moment left old new goes = record {
  store = goes.store;
  log = λ g start t layouts story told log. moves known g start t layouts story (state_of old) (state_of new) (cells old.disk) (cells new.disk) told log goes.moves;
  moments = λ tells g start t layouts story told log.
      Elapses-weaker (moment old.disk) (moment new.disk) (left old.disk) (left new.disk) (ReplaysUpTo new.positions.head (state_of old) (cells old.disk)) (IsLeftBehind start story)
      (λ image is. leaves known g start t layouts story new.positions.head (state_of old) (cells old.disk) image tells told log is) (goes.moments tells);
}

pub store_moves_both : {D : Type 0} (known : Bool) (cells : D → List Cell) (sector_count moment : D → ℕ) (left : D → ℕ → List Sector → Type 0) (first second third : Store D)
    → StoreMoves known cells sector_count moment left first second → StoreMoves known cells sector_count moment left second third → StoreMoves known cells sector_count moment left first third
store_moves_both known cells sector_count moment left first second third one two = record {
  store = two.store;
  log = λ g start t layouts story told log. two.log g start t layouts story told (one.log g start t layouts story told log);
  moments = λ tells g start t layouts story told log.
      Elapses-both (moment first.disk) (moment second.disk) (moment third.disk) (left first.disk) (left second.disk) (left third.disk) (IsLeftBehind start story)
      (one.moments tells g start t layouts story told log) (two.moments tells g start t layouts story told (one.log g start t layouts story told log));
}
