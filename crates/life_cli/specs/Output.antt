-- What a call wrote to a sink, where the sink tells its bytes.
use Rattle.std.specs.Prelude.{◌≤◌, ℕ, List, Option, length, take}
use Rattle.std.specs.Io.KnownBytes.{Appends}

-- the first of these bytes were written, and no others
abbrev pub AppendsPrefix : Option (List ℕ) → Option (List ℕ) → List ℕ → Type 0
AppendsPrefix before after bytes = (count : ℕ) × (count ≤ length bytes) × Appends before after (take count bytes)
