-- A word of the cache as its parts.
use Rattle.std.specs.Prelude.{◌≡◌, ◌<◌, ◌+◌, ◌*◌, ◌/◌, ◌%◌, ◌^◌, ◌==◌, ℕ, Bool, if◌then◌else◌, Option}
use Rattle.std.specs.Option.{option_map}
use Rattle.slot_words.specs.declared.word.Word.{Word}

-- a bit as a number
abbrev pub digit : Bool → ℕ
digit b = if b then 1 else 0

-- From the top: 32 bits of generation, whether the inode is live, whether it is unlinked, two bits that are unused, 28 bits of pins.
abbrev pub number_of : Word → ℕ
number_of word = word.generation * 2 ^ 32 + digit word.live * 2 ^ 31 + digit word.unlinked * 2 ^ 30 + word.unused * 2 ^ 28 + word.pins

-- the same from a number: its bits from 32 on, bit 31, bit 30, bits 28 and 29, and the bits below
abbrev pub word_of : ℕ → Word
word_of number = record {
  generation = number / 2 ^ 32;
  live = number / 2 ^ 31 % 2 == 1;
  unlinked = number / 2 ^ 30 % 2 == 1;
  unused = number / 2 ^ 28 % 2 ^ 2;
  pins = number % 2 ^ 28;
}

-- the number of a word, where there is a word
abbrev pub numbered : Option Word → Option ℕ
numbered next = option_map number_of next

-- each part fits its bits
pub record IsWord (word : Word) : Type 0 where
  pub generation : word.generation < 2 ^ 32
  pub unused : word.unused < 2 ^ 2
  pub pins : word.pins < 2 ^ 28

-- Each number of 64 bits is one word, and each word is one number of 64 bits.
pub record WordsAreNumbers : Type 0 where
  pub fits : (number : ℕ) → number < 2 ^ 64 → IsWord (word_of number)
  pub written : (number : ℕ) → number < 2 ^ 64 → number_of (word_of number) ≡ number
  pub read : (word : Word) → IsWord word → word_of (number_of word) ≡ word
  pub small : (word : Word) → IsWord word → number_of word < 2 ^ 64
