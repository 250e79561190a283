-- What stands at paths, and what was given of it.
use Rattle.std.specs.Prelude.{ℕ, Bool, true, false, List}

-- a disk that was given: at which path, whether it was created there, and its count of faults then
pub record Given : Type 0 where
  pub path : List ℕ
  pub created : Bool
  pub faults : ℕ

-- the disk that stands at a path was given
abbrev pub attached : List ℕ → ℕ → Given
attached path faults = record { path = path; created = false; faults = faults }

-- a disk was made at a path and given
abbrev pub created : List ℕ → ℕ → Given
created path faults = record { path = path; created = true; faults = faults }
