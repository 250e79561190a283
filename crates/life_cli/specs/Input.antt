-- What a call took from a source, where the source tells its bytes.
use Rattle.std.specs.Prelude.{◌≡◌, ◌<◌, ◌≤◌, ⊤, ℕ, List, Option, None, Some, length}
use Rattle.std.specs.Io.KnownBytes.{Consumes}

-- exactly so many bytes were taken
abbrev pub Takes : ℕ → Option (List ℕ) → Option (List ℕ) → Type 0
Takes count before after = (taken : List ℕ) × (length taken ≡ count) × Consumes before after taken

-- no more bytes than this were taken
abbrev pub TakesAtMost : ℕ → Option (List ℕ) → Option (List ℕ) → Type 0
TakesAtMost most before after = (taken : List ℕ) × (length taken ≤ most) × Consumes before after taken

-- there are no more bytes than this
abbrev pub HasAtMost : ℕ → Option (List ℕ) → Type 0
HasAtMost most None = ⊤
HasAtMost most (Some bytes) = length bytes ≤ most

-- there are more bytes than this
abbrev pub HasMoreThan : ℕ → Option (List ℕ) → Type 0
HasMoreThan most None = ⊤
HasMoreThan most (Some bytes) = most < length bytes
