-- What the rule says of all who know of pins, at any moment.
use Rattle.std.specs.Prelude.{◌≡◌, ◌≤◌, ℕ, slice_index}
use mathlib.Core.Option.{some}
use lib.ListN.{get_elem?}
use Rattle.atomic_table.specs.Table.{State}
use Rattle.word_table.specs.declared.known.Known.{Known}
use Rattle.word_table.specs.Words.{parts_of, IsPinned}
use Rattle.word_table.specs.Known.{times}
use Rattle.word_table.specs.Rule.{Kept}

-- the word of a pin that is out is live, of the pin's generation, and has at least one pin
abbrev pub PinsHoldWords : Type 0
PinsHoldWords = (count : ℕ) (s : State ℕ Known) → Kept count s
    → (id place generation : ℕ) (v : Known) → get_elem? s.views id ≡ some v → 1 ≤ times place generation v.pins
    → IsPinned generation (parts_of (slice_index s.words place))
