-- What the answers of a run have told so far, which is what a loop over its lines keeps.
use Rattle.std.specs.Prelude.{◌≡◌, ℕ, List, [], ◌∷◌, Some, slice_get}
use Rattle.life_table.specs.declared.types.Entry.{Entry}
use Rattle.life_table.specs.declared.types.MountRecord.{MountRecord}
use Rattle.script.specs.declared.answers.Said.{Said}
use Rattle.run_faults.specs.News.{news_of}
use Rattle.run_faults.specs.Log.{KeepToLog, LogKnown, known_behind, no_mount}
use Rattle.run_faults.specs.Told.{TellsOfFaults}

-- Each entry of a record stays where it is.
abbrev pub EntriesStay : MountRecord → MountRecord → Type 0
EntriesStay old new = (place : ℕ) (entry : Entry) → slice_get old.entries place ≡ Some entry → slice_get new.entries place ≡ Some entry

-- The records of mounts stay in their places, and so do the entries of each.
abbrev pub RecordsGrow : List MountRecord → List MountRecord → Type 0
RecordsGrow old new = (mount : ℕ) (story : MountRecord) → slice_get old mount ≡ Some story
    → (later : MountRecord) × (slice_get new mount ≡ Some later) × EntriesStay story later

-- what is known behind all these answers
abbrev pub known_after : List MountRecord → LogKnown → List Said → LogKnown
known_after mounts known [] = known
known_after mounts known (one ∷ said) = known_after mounts (known_behind known (news_of mounts one)) said

-- The answers so far keep to what they tell of the log, which is known to be so now; and the device counted the faults that they tell.
pub record HasTold (mounts : List MountRecord) (said : List Said) (known : LogKnown) (before now : ℕ) : Type 0 where
  pub keeps : KeepToLog mounts no_mount said
  pub known_is : known_after mounts no_mount said ≡ known
  pub faults : TellsOfFaults mounts said before now
