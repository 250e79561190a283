-- A ring whose log is read: what its records lead up to, and what breaks it.
use Rattle.std.specs.Prelude.{ℕ, ◌≡◌, ◌+◌, ◌⊎◌, List, length, min, Option, MatchOption}
use Rattle.life_bytes.specs.declared.sector.Sector.{Sector}
use Rattle.log_record.specs.declared.record.LogRecord.{LogRecord}
use Rattle.log_image.specs.Damage.{ChainBreaks, LogBreaksFirst, log_rule}
use Rattle.log_image.specs.Log.{HasNoLast, IsLast, IsLogTo, Log, empty_log, record_end}
use Rattle.recovery.specs.High.{IsFirstReaching}
use Rattle.recovery.specs.declared.fault.ScanFault.{ScanFault}
use Rattle.recovery.specs.declared.fault.ScanFault.TheVariants.{Damaged, ReadFault, NoMemory}

-- the last record of a ring, if there is one
abbrev pub IsLastOf : List Sector → ℕ → Option LogRecord → Type 0
IsLastOf ring position last = MatchOption last (HasNoLast ring position) (IsLast ring position)

-- the position behind it, and where there is none the anchor's
abbrev pub IsEndOf : ℕ → Option LogRecord → ℕ → Type 0
IsEndOf position last end = MatchOption last (end ≡ position) (λ item. end ≡ record_end item)

-- the log leads up to the last record, or where there is none it is empty
abbrev pub HasRecords : List Sector → ℕ → ℕ → ℕ → Log → Type 0
HasRecords ring anchor position next log =
    ((last : LogRecord) × IsLast ring position last × IsLogTo ring anchor last log)
    ⊎ (HasNoLast ring position × (log ≡ empty_log position next))

-- the least sector that is from beyond a log's end and one turn of the ring
pub record IsLeastHigh (ring : List Sector) (anchor end sector : ℕ) : Type 0 where
  pub place : ℕ
  pub first : IsFirstReaching ring (end + length ring) place
  pub at : sector ≡ anchor + 1 + place

-- what the fault says of the records alone
abbrev pub BreaksChain : List Sector → ℕ → ℕ → ScanFault → Type 0
BreaksChain ring anchor position (Damaged rule sector) = (rule ≡ log_rule) × ChainBreaks ring anchor position sector
BreaksChain ring anchor position ReadFault = ⊥
BreaksChain ring anchor position NoMemory = Unit {0}

-- what it says of the log
abbrev pub BreaksLog : List Sector → ℕ → ℕ → ScanFault → Type 0
BreaksLog ring anchor position (Damaged rule sector) = (rule ≡ log_rule) × LogBreaksFirst ring anchor position sector
BreaksLog ring anchor position ReadFault = ⊥
BreaksLog ring anchor position NoMemory = Unit {0}

-- a fault whose sector is no greater than another
abbrev pub lowered : ℕ → ScanFault → ScanFault
lowered high (Damaged rule sector) = Damaged rule (min sector high)
lowered high ReadFault = ReadFault
lowered high NoMemory = NoMemory
