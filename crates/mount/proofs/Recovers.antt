-- What a recovery leaves, step by step.
use Rattle.std.proofs.Common.{◌≡◌, ℕ, List, refl, ap, subst, inl, inr, ◌∙◌}
use Rattle.std.specs.Prelude.{Err}
use Rattle.life_bytes.specs.declared.sector.Sector.{Sector}
use Rattle.disk_model.specs.Disk.{Cell, Elapses, IsImage, as_read, flushed}
use Rattle.disk_model.specs.DiskLaws.{Elapses-both, Elapses-weaker, as_read-flushed}
use Rattle.geometry.specs.declared.shape.Geometry.{Geometry}
use Rattle.geometry.specs.Places.{anchor_of}
use Rattle.life_table.specs.declared.table.Table.{Table}
use Rattle.sound_image.specs.Superblocks.{HasSuperblock}
use Rattle.image_rules.specs.declared.tables.Tables.{Tables}
use Rattle.recovery.specs.declared.found.Found.{Found}
use Rattle.recovery.specs.declared.start.ReplayFault.{ReplayFault}
use Rattle.recovery.specs.declared.start.ReplayFault.TheVariants as replay
use Rattle.recovery.specs.declared.start.Start.{Start}
use Rattle.recovery.specs.Found.{HasGroupImages, LogIsFound}
use Rattle.recovery.specs.Replay.{AreUsedUp, BeginsAnew, IsBehind, IsOfReplay, groups_found}
use Rattle.whole_image.specs.Represents.{Represents}
use Rattle.inspect.specs.Inspected.{IsSoundWith}
use Rattle.mount.specs.Faults.{IsMountCause, of_replay}
use Rattle.mount.specs.Positions.{ArePositionsUsedUp}
use Rattle.mount.specs.Left.{IsHandedBack}
use Rattle.mount.specs.Same.{AllSame, IsLeftBy, RepresentSame}
use Rattle.mount.specs.Recovered.{IsRecovered}

-- ---- moments

pub reads_only : (a b : ℕ) (past since : ℕ → List Sector → Type 0) (cells : List Cell) → Elapses a b past since (IsImage cells) → Elapses a b past since (IsLeftBy cells)
reads_only a b past since cells time = Elapses-weaker a b past since (IsImage cells) (IsLeftBy cells) (λ image is. inl is) time

pub flush_too : (a b d : ℕ) (past mid since : ℕ → List Sector → Type 0) (cells now : List Cell) → Elapses a b past mid (IsImage cells) → now ≡ cells
    → Elapses b d mid since (IsImage now) → Elapses a d past since (IsLeftBy cells)
flush_too a b d past mid since cells now first same second =
    Elapses-both a b d past mid since (IsLeftBy cells) (reads_only a b past mid cells first)
    (reads_only b d mid since cells (subst (λ (c : List Cell). Elapses b d mid since (IsImage c)) same second))

pub replay_too : (a b d e : ℕ) (past mid next since : ℕ → List Sector → Type 0) (cells now : List Cell) (P : List Sector → Type 0) → Elapses a b past mid (IsImage cells) → now ≡ cells
    → Elapses b d mid next (IsImage now) → Elapses d e next since P → ((image : List Sector) → P image → RepresentSame (as_read cells) image) → Elapses a e past since (IsLeftBy cells)
replay_too a b d e past mid next since cells now P first same second third has =
    Elapses-both a d e past next since (IsLeftBy cells) (flush_too a b d past mid next cells now first same second)
    (Elapses-weaker d e next since P (IsLeftBy cells) (λ image is. inr (has image is)) third)

-- ---- the replay

pub flushed_reads : (cells mid now : List Cell) → mid ≡ cells → now ≡ flushed mid → as_read now ≡ as_read cells
flushed_reads cells mid now same is = ap as_read is ∙ as_read-flushed mid ∙ ap as_read same

-- what was found in front of the replay
pub record Inspected (image : List Sector) (g : Geometry) (tables : Tables) (found : Found) : Type 0 where
  pub sound : IsSoundWith image g tables found.next_commit
  pub log : LogIsFound image (anchor_of g) g.ring found
  pub homes : HasGroupImages (anchor_of g) found

abbrev pub LeftLaw : Type 0
LeftLaw = (g : Geometry) (old image : List Sector) (found : Found) (t : Table) (c : ℕ) → HasSuperblock g old → LogIsFound old (anchor_of g) g.ring found
    → HasGroupImages (anchor_of g) found → Represents old t c → IsOfReplay (anchor_of g) g.ring found old image → RepresentSame old image

abbrev pub RecoveredLaw : Type 0
RecoveredLaw = (g : Geometry) (old : List Sector) (found : Found) (t : Table) (c : ℕ) (start : Start) (cells : List Cell) → HasSuperblock g old
    → LogIsFound old (anchor_of g) g.ring found → HasGroupImages (anchor_of g) found → Represents old t c → IsOfReplay (anchor_of g) g.ring found old (as_read cells)
    → IsBehind g.ring found start → BeginsAnew (anchor_of g) g.ring (groups_found (anchor_of g) old found) cells start → IsRecovered old g start cells

abbrev pub PositionsLaw : Type 0
PositionsLaw = (g : Geometry) (image : List Sector) (found : Found) → HasSuperblock g image → LogIsFound image (anchor_of g) g.ring found
    → (ArePositionsUsedUp image → AreUsedUp g.ring found) × (AreUsedUp g.ring found → ArePositionsUsedUp image)

pub same_as : LeftLaw → (image read other : List Sector) (g : Geometry) (tables : Tables) (found : Found) → Inspected image g tables found → read ≡ image
    → IsOfReplay (anchor_of g) g.ring found read other → RepresentSame image other
same_as law image read other g tables found is same left =
    law g image other found is.sound.table found.next_commit is.sound.superblock is.log is.homes is.sound.represents
    (subst (λ (l : List Sector). IsOfReplay (anchor_of g) g.ring found l other) same left)

pub recovered_as : RecoveredLaw → (image read : List Sector) (g : Geometry) (tables : Tables) (found : Found) (start : Start) (cells : List Cell) → Inspected image g tables found
    → read ≡ image → IsOfReplay (anchor_of g) g.ring found read (as_read cells) → IsBehind g.ring found start
    → BeginsAnew (anchor_of g) g.ring (groups_found (anchor_of g) read found) cells start → IsRecovered image g start cells
recovered_as law image read g tables found start cells is same left behind anew =
    law g image found is.sound.table found.next_commit start cells is.sound.superblock is.log is.homes is.sound.represents
    (subst (λ (l : List Sector). IsOfReplay (anchor_of g) g.ring found l (as_read cells)) same left) behind
    (subst (λ (l : List Sector). BeginsAnew (anchor_of g) g.ring (groups_found (anchor_of g) l found) cells start) same anew)

pub replayed_cause : PositionsLaw → (image : List Sector) (g : Geometry) (tables : Tables) (found : Found) (e : ReplayFault) → Inspected image g tables found
    → (e ≡ replay.PositionEnd → AreUsedUp g.ring found) → (AreUsedUp g.ring found → e ≡ replay.PositionEnd) → IsMountCause image (of_replay e)
replayed_cause law image g tables found replay.WriteFault is only all =
    (is.sound.represents.sound, λ used. let e = all ((law g image found is.sound.superblock is.log).0 used) in absurd (cc e))
replayed_cause law image g tables found replay.FlushFault is only all = is.sound.represents.sound
replayed_cause law image g tables found replay.PositionEnd is only all =
    (is.sound.represents.sound, (law g image found is.sound.superblock is.log).1 (only refl))

pub replayed_back : (T : Type 0) (e : ReplayFault) (old mid new : List Cell) → mid ≡ flushed old → (e ≡ replay.PositionEnd → new ≡ mid) → AllSame old new
    → IsHandedBack {T = T} (Err (of_replay e)) old new
replayed_back T replay.WriteFault old mid new is stays all = all
replayed_back T replay.FlushFault old mid new is stays all = inr all
replayed_back T replay.PositionEnd old mid new is stays all = stays refl ∙ is
