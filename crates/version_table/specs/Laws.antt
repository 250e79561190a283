-- What the rule says of all who know of histories, at any moment.
use Rattle.std.specs.Prelude.{◌≡◌, ◌≤◌, ℕ, length}
use mathlib.Core.List.{IsPrefix}
use mathlib.Core.Option.{some}
use lib.ListN.{get_elem?}
use Rattle.atomic_table.specs.Table.{State}
use Rattle.life_table.specs.declared.types.Entry.{Entry}
use Rattle.version_table.specs.declared.story.Story.{Story}
use Rattle.version_table.specs.Story.{seen_of, known_of, times, Keeps}
use Rattle.version_table.specs.Rule.{Told, total, owed}

-- nobody saw more of a history than its keeper knows, and what anybody knows of it begins what its keeper knows
abbrev pub NoSightIsAhead : Type 0
NoSightIsAhead = (count : ℕ) (s : State Entry Story) → Told count s → (i j group : ℕ) (v keeper : Story)
    → get_elem? s.views i ≡ some v → get_elem? s.views j ≡ some keeper → Keeps keeper group
    → (seen_of group v.sights ≤ length (known_of group keeper.lines))
    × IsPrefix (known_of group v.lines) (known_of group keeper.lines)

-- An entry of an actor is one's own alone, once, and no other entry is anybody's own. Who has an entry as its own knows the
-- history up to it. So those who have one are counted by the history that the keeper knows.
pub record EntriesHaveOneOwner (s : State Entry Story) : Type 0 where
  pub once : (i group at : ℕ) (v : Story) → get_elem? s.views i ≡ some v → times group at v.places ≤ 1
  pub alone : (i j group at : ℕ) (v w : Story) → get_elem? s.views i ≡ some v → get_elem? s.views j ≡ some w
      → 1 ≤ times group at v.places → 1 ≤ times group at w.places → i ≡ j
  pub known : (i group at : ℕ) (v : Story) → get_elem? s.views i ≡ some v → 1 ≤ times group at v.places
      → owed (known_of group v.lines) at ≡ 1
  pub counted : (j group at : ℕ) (keeper : Story) → get_elem? s.views j ≡ some keeper → Keeps keeper group
      → total (λ v. times group at v.places) s.views ≡ owed (known_of group keeper.lines) at
