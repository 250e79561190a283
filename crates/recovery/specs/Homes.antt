-- Images as the entries of a map from homes to sectors.
use Rattle.std.specs.Prelude.{ℕ, List, map}
use Rattle.life_bytes.specs.declared.sector.Sector.{Sector}
use Rattle.log_record.specs.declared.image.Image.{Image}

-- the images of a map's entries, in their order
abbrev pub images_in : List (ℕ × Sector) → List Image
images_in entries = map (λ entry. record { home = entry.0; sector = entry.1 }) entries
