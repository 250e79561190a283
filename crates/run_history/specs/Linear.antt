-- What happened in each mount is one legal history, in which each call's entry stands between its begin and its end.
use Rattle.std.specs.Prelude.{◌≡◌, ◌==◌, ◌<◌, ◌+◌, ◌&&◌, ⊤, ℕ, List, [], ◌∷◌, Some, Contains, is_none, if◌then◌else◌}
use Rattle.life_table.specs.declared.table.Table.{Table}
use Rattle.life_table.specs.History.{LegalHistory}
use Rattle.actor_world.specs.Licence.{Interval, Licensed, Unfinished}
use Rattle.run_history.specs.Mounts.{MountStory}
use Rattle.run_history.specs.States.{PastCall}

-- the calls of a mount that it ended before
abbrev pub unfinished_of : ℕ → List PastCall → List Unfinished
unfinished_of mount [] = []
unfinished_of mount (past ∷ calls) =
    if (past.mount == mount) && is_none past.last
    then record { actor = past.made.actor; call = past.made.call; begin = past.made.begin } ∷ unfinished_of mount calls
    else unfinished_of mount calls

-- The entries of a mount are legal from its start table on; each stands at or behind the begin of its call; and each free has its call and its reason, by the entries
-- and by the calls that the mount ended before.
pub record IsLegalMount (calls : List PastCall) (mount : ℕ) (m : MountStory) : Type 0 where
  pub last : Table
  pub legal : LegalHistory m.start m.story.entries last
  pub intervals : Interval m.story.entries m.story.froms
  pub licensed : Licensed m.start m.story.entries m.story.froms (unfinished_of mount calls)

-- so is each of these mounts, of which the first has this place
abbrev pub AreLegalFrom : List PastCall → ℕ → List MountStory → Type 0
AreLegalFrom calls mount [] = ⊤
AreLegalFrom calls mount (m ∷ later) = IsLegalMount calls mount m × AreLegalFrom calls (mount + 1) later

-- Where a call of a mount had its last line before the first line of another, its entry stands before the other's.
pub record AreBetween (calls : List PastCall) : Type 0 where
  pub between : (earlier later : PastCall) (end e f : ℕ) → Contains calls earlier → Contains calls later → earlier.mount ≡ later.mount
      → earlier.last ≡ Some end → end < later.made.first → earlier.made.entry ≡ Some e → later.made.entry ≡ Some f → e < f
