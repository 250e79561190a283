-- Sectors that are to be written, as a map in any order and a heap of its keys.
use Rattle.std.specs.Prelude.{◌≡◌, ◌==◌, nat_eq, if◌then◌else◌, is_some, ℕ, List, [], ◌∷◌, count_by}
use Rattle.std.specs.BinaryHeap.{IsHeap}
use Rattle.std.specs.Map.{lookup}
use Rattle.std.specs.Ordering.{nat_cmp}
use Rattle.std.specs.declared.cmp.Reverse.{Reverse}
use Rattle.life_bytes.specs.declared.sector.Sector.{Sector}
use Rattle.log_record.specs.declared.image.Image.{Image}
use Rattle.log_batch.specs.Put.{put}

-- the images that are to be written, by ascending home, and for how many more there is room
pub record Dirty : Type 0 where
  pub images : List Image
  pub room : ℕ

-- the images of a map from homes to sectors
abbrev pub held : List (ℕ × Sector) → List Image
held [] = []
held (entry ∷ entries) = put (record { home = entry.0; sector = entry.1 }) (held entries)

-- the heap has each home of the map once, and no other
pub record Matches (entries : List (ℕ × Sector)) (homes : List (Reverse ℕ)) : Type 0 where
  pub ordered : IsHeap (λ x y. nat_cmp y.0 x.0) homes
  pub counts : (home : ℕ) → count_by (λ r. r.0 == home) homes ≡ (if is_some (lookup (nat_eq home) entries) then 1 else 0)
