-- The last record of a ring, found place by place.
use Rattle.std.specs.Prelude.{ℕ, ◌≡◌, ◌≤◌, ◌<◌, ◌%◌, List, length, Option, None, Some}
use Rattle.life_bytes.specs.declared.sector.Sector.{Sector}
use Rattle.log_record.specs.declared.record.LogRecord.{LogRecord}
use Rattle.log_record.specs.Whole.{IsWholeAt}

-- a whole record begins at this place of a ring
pub record BeginsAt (ring : List Sector) (place : ℕ) (item : LogRecord) : Type 0 where
  pub whole : IsWholeAt ring item.position item
  pub at : item.position % length ring ≡ place

-- no record that begins there has this position or one above it
abbrev pub NoneFrom : List Sector → ℕ → ℕ → Type 0
NoneFrom ring place position = (item : LogRecord) → BeginsAt ring place item → item.position < position

-- the record begins there, has this position or one above it, and is the only one
pub record IsFrom (ring : List Sector) (place position : ℕ) (item : LogRecord) : Type 0 where
  pub begins : BeginsAt ring place item
  pub counts : position ≤ item.position
  pub only : (other : LogRecord) → BeginsAt ring place other → other.position ≡ item.position

-- the greatest of the positions of the records that begin at the first places of a ring
pub record IsGreatest (ring : List Sector) (position count : ℕ) (item : LogRecord) : Type 0 where
  pub whole : IsWholeAt ring item.position item
  pub counts : position ≤ item.position
  pub greatest : (place : ℕ) (other : LogRecord) → place < count → BeginsAt ring place other → other.position ≤ item.position

-- what is known after so many places: the greatest record of this position or one above it, if there is one, and the
-- position from which on a record is a greater one
abbrev pub IsSeen : List Sector → ℕ → ℕ → ℕ → Option LogRecord → Type 0
IsSeen ring position count least None = (least ≡ position) × ((place : ℕ) → place < count → NoneFrom ring place position)
IsSeen ring position count least (Some item) = (least ≡ item.position) × IsGreatest ring position count item
