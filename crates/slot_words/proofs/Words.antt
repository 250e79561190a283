-- Numbers and the parts of their words.
use Rattle.std.proofs.Common.{◌≡◌, ℕ, ◌+◌, ◌*◌, ◌/◌, ◌%◌, ◌^◌, ◌<◌, Bool, true, false, eqb, refl, sym, ap, ◌∙◌, inl, inr, arith}
use Rattle.std.proofs.lemmas.Bool.{cases_eq, eq-eqb, ne_eqb}
use Rattle.slot_words.specs.declared.word.Word.{Word}
use Rattle.slot_words.specs.Words.{IsWord, digit, number_of, word_of}

-- a bit that is read and written is that bit
digit-eqb : (n : ℕ) → n < 2 → digit (eqb n 1) ≡ n
digit-eqb n small = elim (cases_eq n 1) [
  | inl one ↦ ap digit (eq-eqb n 1 one) ∙ sym one
  | inr other ↦ ap digit (ne_eqb n 1 other) ∙ omega arith
]

-- and the other way round
eqb-digit : (b : Bool) (n : ℕ) → n ≡ digit b → eqb n 1 ≡ b
eqb-digit true n is = eq-eqb n 1 is
eqb-digit false n is = ne_eqb n 1 (omega arith)

small_digit : (b : Bool) → digit b < 2
small_digit true = omega arith
small_digit false = omega arith

parts_of : (n : ℕ) → n < 2 ^ 64 → (l u : ℕ) → l ≡ n / 2 ^ 31 % 2 → u ≡ n / 2 ^ 30 % 2 → n ≡ n / 2 ^ 32 * 2 ^ 32 + l * 2 ^ 31 + u * 2 ^ 30 + n / 2 ^ 28 % 2 ^ 2 * 2 ^ 28 + n % 2 ^ 28
parts_of n small l u live unlinked = omega arith

pub word_fits : (n : ℕ) → n < 2 ^ 64 → IsWord (word_of n)
word_fits n small = record { generation = omega arith; unused = omega arith; pins = omega arith }

pub number_of-word_of : (n : ℕ) → n < 2 ^ 64 → number_of (word_of n) ≡ n
number_of-word_of n small =
    sym (parts_of n small (digit (word_of n).live) (digit (word_of n).unlinked) (digit-eqb (n / 2 ^ 31 % 2) (omega arith)) (digit-eqb (n / 2 ^ 30 % 2) (omega arith)))

-- the parts of a sum of parts
record Parts (g l u r p : ℕ) (n : ℕ) : Type 0 where
  generation : n / 2 ^ 32 ≡ g
  live : n / 2 ^ 31 % 2 ≡ l
  unlinked : n / 2 ^ 30 % 2 ≡ u
  unused : n / 2 ^ 28 % 2 ^ 2 ≡ r
  pins : n % 2 ^ 28 ≡ p

parts : (g l u r p n : ℕ) → l < 2 → u < 2 → r < 2 ^ 2 → p < 2 ^ 28 → n ≡ g * 2 ^ 32 + l * 2 ^ 31 + u * 2 ^ 30 + r * 2 ^ 28 + p → Parts g l u r p n
parts g l u r p n live unlinked unused pins is = record {
  generation = omega arith;
  live = omega arith;
  unlinked = omega arith;
  unused = omega arith;
  pins = omega arith;
}

pub word_of-number_of : (word : Word) → IsWord word → word_of (number_of word) ≡ word
word_of-number_of word fits =
    let p = parts word.generation (digit word.live) (digit word.unlinked) word.unused word.pins (number_of word) (small_digit word.live) (small_digit word.unlinked) fits.unused fits.pins refl in
    rw (p.generation, eqb-digit word.live (number_of word / 2 ^ 31 % 2) p.live, eqb-digit word.unlinked (number_of word / 2 ^ 30 % 2) p.unlinked, p.unused, p.pins) refl

pub number_is_small : (word : Word) → IsWord word → number_of word < 2 ^ 64
number_is_small word fits = let live = small_digit word.live in let unlinked = small_digit word.unlinked in grind arith
