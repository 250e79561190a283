-- The rule of the words.
use Rattle.std.specs.Prelude.{◌≡◌, ◌+◌, ℕ, List, [], ◌∷◌, length, slice_index}
use mathlib.Core.Option.{some}
use lib.ListN.{get_elem?}
use Rattle.atomic_table.specs.Table.{State}
use Rattle.word_table.specs.declared.known.Known.{Known}
use Rattle.word_table.specs.Words.{parts_of, pins_of, IsRight, Tells}
use Rattle.word_table.specs.Known.{times, last_of, Keeps}

-- a number of each, added up
abbrev pub total : (Known → ℕ) → List Known → ℕ
total f [] = 0
total f (v ∷ vs) = f v + total f vs

-- There are so many words, each of which is right. The pins of a word are those of all who know of some, and each of these
-- is of the word's generation. A word has one keeper at most, whose last look tells what it is.
pub record Kept (count : ℕ) (s : State ℕ Known) : Type 0 where
  pub counted : length s.words ≡ count
  pub right : (place : ℕ) → IsRight (parts_of (slice_index s.words place))
  pub pins : (place generation : ℕ)
      → total (λ v. times place generation v.pins) s.views ≡ pins_of generation (parts_of (slice_index s.words place))
  pub alone : (i j place : ℕ) (v w : Known) → get_elem? s.views i ≡ some v → get_elem? s.views j ≡ some w
      → Keeps v place → Keeps w place → i ≡ j
  pub tells : (id place : ℕ) (v : Known) → get_elem? s.views id ≡ some v
      → Keeps v place → Tells (slice_index s.words place) (last_of place v.looks)
