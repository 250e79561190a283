-- What the words of the cache say to those who step on them.
use Rattle.std.specs.Prelude.{◌≡◌, ◌≤◌, ◌==◌, ◌&&◌, ◌⊎◌, ℕ, true, false, if◌then◌else◌}
use Rattle.slot_words.specs.declared.word.Word.{Word}
use Rattle.slot_words.specs.Words.{word_of}

-- the parts of a word, by its number
unfoldable pub parts_of : ℕ → Word
parts_of number = word_of number

-- the inode of this generation is in the cache, and somebody holds it
pub record IsPinned (generation : ℕ) (word : Word) : Type 0 where
  pub live : word.live ≡ true
  pub same : word.generation ≡ generation
  pub pins : 1 ≤ word.pins

-- how many pins of a generation the word has
abbrev pub pins_of : ℕ → Word → ℕ
pins_of generation word = if word.live && (word.generation == generation) then word.pins else 0

-- The unused bits are zero, and an inode that is not in the cache has neither a pin nor the mark.
pub record IsRight (word : Word) : Type 0 where
  pub unused : word.unused ≡ 0
  pub no_pins : word.live ≡ false → word.pins ≡ 0
  pub no_mark : word.live ≡ false → word.unlinked ≡ false

-- Only its keeper changes such a word: the inode is not in the cache, or it waits to be freed.
abbrev pub IsStill : Word → Type 0
IsStill word = (word.live ≡ false) ⊎ ((word.unlinked ≡ true) × (word.pins ≡ 0))

-- What a word still has of the one that its keeper saw or left last: all but the pins, and of a still word those too.
pub record Tells (now last : ℕ) : Type 0 where
  pub live : (parts_of now).live ≡ (parts_of last).live
  pub unlinked : (parts_of now).unlinked ≡ (parts_of last).unlinked
  pub generation : (parts_of now).generation ≡ (parts_of last).generation
  pub still : IsStill (parts_of last) → now ≡ last
