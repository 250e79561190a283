-- What each step on the versions tells the one who makes it.
use Rattle.std.specs.Prelude.{◌≡◌, ◌≤◌, ℕ}
use mathlib.Core.Option.{some}
use Rattle.atomic_table.specs.Table.{Step, Me}
use Rattle.life_table.specs.declared.types.Entry.{Entry}
use Rattle.version_table.specs.declared.story.Story.{Story}
use Rattle.version_table.specs.Story.{seen_of, saw, entered}

-- A load: the length is no less than what was seen before.
pub record Loaded (s : Step Entry) (v : Me Entry Story) (found : ℕ) (w : Me Entry Story) : Type 0 where
  pub slots : w.1 ≡ v.1
  pub view : w.0 ≡ saw s.word found v.0
  pub seen : seen_of s.word v.0.sights ≤ found

-- An entry of the keeper's: the history was as long as the keeper knew, and no sight that was told it was above that.
pub record Entered (s : Step Entry) (v : Me Entry Story) (found : ℕ) (w : Me Entry Story) : Type 0 where
  pub slots : w.1 ≡ v.1
  pub view : (e : Entry) → s.said ≡ some e → w.0 ≡ entered s.word e v.0
  pub seen : seen_of s.word v.0.sights ≤ s.first
