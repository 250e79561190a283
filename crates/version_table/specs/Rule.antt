-- The rule of the versions.
use Rattle.std.specs.Prelude.{◌≡◌, ◌+◌, ◌<◌, ◌≤◌, ℕ, zero, suc, nat_lt, List, [], ◌∷◌, length, slice_index}
use mathlib.Core.List.{IsPrefix}
use mathlib.Core.Option.{some}
use lib.ListN.{get_elem?}
use Rattle.life_limits.specs.declared.TheConstants.{MAX_ACTORS}
use Rattle.life_table.specs.declared.types.Entry.{Entry}
use Rattle.atomic_table.specs.Table.{State}
use Rattle.version_table.specs.declared.story.Story.{Story}
use Rattle.version_table.specs.Story.{seen_of, known_of, times, one_if, Keeps}

-- a number of each, added up
abbrev pub total : (Story → ℕ) → List Story → ℕ
total f [] = 0
total f (v ∷ vs) = f v + total f vs

-- 1 at the place of an actor's entry, and 0 at each other place
abbrev pub owed : List Entry → ℕ → ℕ
owed [] at = 0
owed (e ∷ es) zero = one_if (nat_lt e.actor MAX_ACTORS)
owed (e ∷ es) (suc at) = owed es at

-- What one knows fits the histories: the keeper of a group knows its history whole, no sight is above its length, what is
-- known begins it and is no longer than what was seen, and each own place lies in what is known.
pub record Fits (story : ℕ → List Entry) (v : Story) : Type 0 where
  pub exact : (group : ℕ) → Keeps v group → known_of group v.lines ≡ story group
  pub seen : (group : ℕ) → seen_of group v.sights ≤ length (story group)
  pub known : (group : ℕ) → IsPrefix (known_of group v.lines) (story group)
  pub no_longer : (group : ℕ) → length (known_of group v.lines) ≤ seen_of group v.sights
  pub own : (group at : ℕ) → 1 ≤ times group at v.places → at < length (known_of group v.lines)

-- There are histories, whose lengths are the words. Each group has one keeper at most, what each knows fits them, and the
-- place of each entry of an actor is known to one alone, once.
pub record Told (count : ℕ) (s : State Entry Story) : Type 0 where
  pub counted : length s.words ≡ count
  pub story : ℕ → List Entry
  pub words : (group : ℕ) → slice_index s.words group ≡ length (story group)
  pub alone : (i j group : ℕ) (v w : Story) → get_elem? s.views i ≡ some v → get_elem? s.views j ≡ some w
      → Keeps v group → Keeps w group → i ≡ j
  pub fits : (id : ℕ) (v : Story) → get_elem? s.views id ≡ some v → Fits story v
  pub once : (group at : ℕ) → total (λ v. times group at v.places) s.views ≡ owed (story group) at
