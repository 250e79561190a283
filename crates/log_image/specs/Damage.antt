-- Where an image's anchor and log are damaged. These are two rules of a sound image, the anchor's before the log's: the
-- log is checked where the anchor is right.
use Rattle.std.specs.Prelude.{ℕ, ◌≡◌, ◌≤◌, ◌<◌, ◌+◌, ◌⊎◌, List, length, slice_index_or}
use Rattle.life_bytes.specs.declared.sector.Sector.{Sector}
use Rattle.life_bytes.specs.Fields.{field}
use Rattle.log_record.specs.declared.record.LogRecord.{LogRecord}
use Rattle.log_image.specs.Anchor.{HasAnchor}
use Rattle.log_image.specs.Log.{HasNoLast, IsLast, IsLogTo, Log, record_end, ring_part}
use Rattle.log_image.specs.Step.{sector_of_position}

-- the numbers of the two rules
abbrev pub anchor_rule : ℕ
anchor_rule = 3

abbrev pub log_rule : ℕ
log_rule = 4

-- No anchor is right in front of this ring, and its sector is named.
abbrev pub AnchorBreaks : List Sector → ℕ → ℕ → ℕ → Type 0
AnchorBreaks image anchor ring s =
    (s ≡ anchor) × ((position next : ℕ) → HasAnchor image anchor ring position next → ⊥)

-- where the log of a ring goes on, whatever leads up to there: behind the last record, or where there is none at the
-- anchor's position
abbrev pub EndsAt : List Sector → ℕ → ℕ → Type 0
EndsAt ring position end =
    ((last : LogRecord) × IsLast ring position last × (end ≡ record_end last)) ⊎ (HasNoLast ring position × (end ≡ position))

-- No log leads up to the last record, whose first sector is named.
abbrev pub ChainBreaks : List Sector → ℕ → ℕ → ℕ → Type 0
ChainBreaks ring anchor position s =
    (last : LogRecord) × IsLast ring position last × ((log : Log) → IsLogTo ring anchor last log → ⊥)
    × (s ≡ sector_of_position anchor (length ring) last.position)

-- A sector of the ring is from beyond the log's end and one turn of the ring, and is named.
abbrev pub PositionBreaks : List Sector → ℕ → ℕ → ℕ → Type 0
PositionBreaks ring anchor position s =
    (end : ℕ) × (place : ℕ) × EndsAt ring position end × (place < length ring) × (s ≡ anchor + 1 + place)
    × ((d : Sector) → end + length ring ≤ field 8 0 (slice_index_or ring place d).bytes)

-- The log breaks at a sector, where the anchor has this position.
abbrev pub LogBreaks : List Sector → ℕ → ℕ → ℕ → Type 0
LogBreaks ring anchor position s = ChainBreaks ring anchor position s ⊎ PositionBreaks ring anchor position s

-- The log breaks at this sector, and at none before it.
abbrev pub LogBreaksFirst : List Sector → ℕ → ℕ → ℕ → Type 0
LogBreaksFirst ring anchor position s =
    LogBreaks ring anchor position s × ((other : ℕ) → LogBreaks ring anchor position other → s ≤ other)

-- the first damage of an image's anchor and log: the rule that is broken, and the least sector that is named for it
abbrev pub IsLogDamage : List Sector → ℕ → ℕ → ℕ → ℕ → Type 0
IsLogDamage image anchor ring rule s =
    ((rule ≡ anchor_rule) × AnchorBreaks image anchor ring s)
    ⊎ ((rule ≡ log_rule) × ((position : ℕ) × (next : ℕ) × HasAnchor image anchor ring position next
    × LogBreaksFirst (ring_part anchor ring image) anchor position s))
