-- What the steps make of a word.
use Rattle.std.proofs.Common.{◌≡◌, ◌≢◌, ℕ, ◌+◌, ◌-◌, ◌*◌, ◌/◌, ◌%◌, ◌^◌, ◌<◌, ◌≤◌, Bool, true, false, true≢false, cond, eqb, eq-eqb, ne_eqb, ◌&&◌, not, refl, sym, ap, ◌∙◌, subst, inl, inr, ⊎_elim, arith, Some, None, nat_lt, lit<}
use Rattle.std.proofs.lemmas.Bool.{cases_Bool, and_parts, eqb-true, ltb-true, not-true, and_from, and_left, and_right, cases_eq, cond_both, lt-ltb}
use Rattle.std.proofs.lemmas.Nat.{and-not, and_comm}
use Rattle.std.proofs.lemmas.Nat.Bits.{and_pow}
use Rattle.std.specs.Int.{bit_at}
use Rattle.std.specs.Int.Bits.{bit_or, bit_and, or_add_and}
use Rattle.life_limits.specs.declared.TheConstants.{MAX_PINS}
use Rattle.slot_words.specs.declared.word.Word.{Word}
use Rattle.slot_words.specs.Words.{IsWord, WordsAreNumbers, digit, number_of, numbered, word_of}
use Rattle.slot_words.specs.Steps.{is_cached, is_awaiting, is_pinned, is_idle, can_open, after_open, after_close, after_mark, after_install, after_retire, after_kill}
use Rattle.word_table.specs.Words.{parts_of, IsPinned, pins_of, IsRight, IsStill, Tells}
use Rattle.word_table.specs.Steps.{CanChange, CanInstall}

pub parts-zero : parts_of 0 ≡ record { generation = 0; live = false; unlinked = false; unused = 0; pins = 0 }
unfolding parts_of
parts-zero = refl

pub parts_fit : (n : ℕ) → n < 2 ^ 64 → WordsAreNumbers → IsWord (parts_of n)
unfolding parts_of
parts_fit n small laws = laws.fits n small

pub parts-number : (laws : WordsAreNumbers) (word : Word) → IsWord word → parts_of (number_of word) ≡ word
unfolding parts_of
parts-number laws word fits = laws.read word fits

pub number-parts : (laws : WordsAreNumbers) (n : ℕ) → n < 2 ^ 64 → number_of (parts_of n) ≡ n
unfolding parts_of
number-parts laws n small = laws.written n small

pub Tells-same : (n : ℕ) → Tells n n
Tells-same n = record { live = refl; unlinked = refl; generation = refl; still = λ _. refl }

-- The parts of the number that a step gives.
pub given : (laws : WordsAreNumbers) (test : Bool) (word : Word) (next : ℕ) → (test ≡ true → IsWord word) → Some next ≡ numbered (cond test (Some word) None) → (test ≡ true) × (next ≡ number_of word) × (parts_of next ≡ word)
given laws true word next fits is =
    let e : next ≡ number_of word = cc in
    (refl, e, ap parts_of e ∙ parts-number laws word (fits refl))
given laws false word next fits is = let wrong : Some next ≡ None = is in absurd (cc)

pub refused : (test : Bool) (word : Word) → None ≡ numbered (cond test (Some word) None) → test ≡ false
refused true word is = let wrong : None ≡ Some (number_of word) = is in absurd (cc)
refused false word is = refl

-- an inode that can be opened
pub record CanOpen (generation : ℕ) (word : Word) : Type 0 where
  pub live : word.live ≡ true
  pub same : word.generation ≡ generation
  pub room : word.pins < MAX_PINS
  pub held : word.unlinked ≡ true → 1 ≤ word.pins

pub can_open-says : (generation : ℕ) (word : Word) → can_open generation word ≡ true → CanOpen generation word
can_open-says generation word can =
    let cached = is_cached generation word in
    let awaits = is_awaiting generation word in
    let outer = and_parts (cached && nat_lt word.pins MAX_PINS) (not awaits) can in
    let inner = and_parts cached (nat_lt word.pins MAX_PINS) outer.0 in
    let both = and_parts word.live (eqb word.generation generation) inner.0 in
    let not_yet : awaits ≡ false = not-true awaits outer.1 in
    record {
      live = both.0;
      same = eqb-true word.generation generation both.1;
      room = ltb-true word.pins MAX_PINS inner.1;
      held = λ mark. elim (cases_eq word.pins 0) [
        | inl none ↦ absurd (true≢false (sym (and_from (cached && word.unlinked) (eqb word.pins 0) (and_from cached word.unlinked inner.0 mark) (eq-eqb word.pins 0 none)) ∙ not_yet))
        | inr some_pin ↦ omega (arith, some_pin)
      ];
    }

-- what an open makes of a word
pub record Opens (generation seen next : ℕ) : Type 0 where
  pub can : CanOpen generation (parts_of seen)
  pub more : parts_of next ≡ record (parts_of seen) { pins = (parts_of seen).pins + 1 }

turn : (b : Bool) (word : Word) → numbered (cond b None (Some word)) ≡ numbered (cond (not b) (Some word) None)
turn true word = refl
turn false word = refl

pub opens : (laws : WordsAreNumbers) (seen generation next : ℕ) → seen < 2 ^ 64 → Some next ≡ numbered (after_open generation (parts_of seen)) → Opens generation seen next
unfolding parts_of
opens laws seen generation next small is =
    let word = word_of seen in
    let fits = laws.fits seen small in
    let all = given laws (can_open generation word) (record word { pins = word.pins + 1 }) next
    (λ can. let says = can_open-says generation word can in record { generation = fits.generation; unused = fits.unused; pins = omega (arith, says.room) }) is in
    record { can = can_open-says generation word all.0; more = all.2 }

-- a word with pins of a generation
pub pinned_word : (generation : ℕ) (word : Word) → 1 ≤ pins_of generation word → IsPinned generation word
pinned_word generation word some_pin = elim (cases_Bool (word.live && eqb word.generation generation)) [
  | inl yes_ ↦
      let both = and_parts word.live (eqb word.generation generation) yes_ in
      record { live = both.0; same = eqb-true word.generation generation both.1; pins = omega (arith, ap (λ (b : Bool). cond b word.pins 0) yes_, some_pin) }
  | inr no_ ↦ absurd (omega (arith, ap (λ (b : Bool). cond b word.pins 0) no_, some_pin))
]

pub pins_of-here : (generation : ℕ) (word : Word) → word.live ≡ true → word.generation ≡ generation → pins_of generation word ≡ word.pins
pins_of-here generation word live same = ap (λ (b : Bool). cond b word.pins 0) (and_from word.live (eqb word.generation generation) live (eq-eqb word.generation generation same))

pub pins_of-other : (generation : ℕ) (word : Word) → word.generation ≢ generation → pins_of generation word ≡ 0
pins_of-other generation word apart = ap (λ (b : Bool). cond b word.pins 0) (and_right word.live (eqb word.generation generation) (ne_eqb word.generation generation apart))

pub pins_of-dead : (generation : ℕ) (word : Word) → word.live ≡ false → pins_of generation word ≡ 0
pins_of-dead generation word dead = ap (λ (b : Bool). cond b word.pins 0) (and_left word.live (eqb word.generation generation) dead)

pub pins_of-none : (generation : ℕ) (word : Word) → word.pins ≡ 0 → pins_of generation word ≡ 0
pins_of-none generation word none = cond_both (word.live && eqb word.generation generation) word.pins 0 (λ n. n ≡ 0) (λ b. none) (λ b. refl)

-- a word of which the pins alone changed, and which was not still
pub Tells-pins : (old new last p : ℕ) → parts_of new ≡ record (parts_of old) { pins = p } → (IsStill (parts_of old) → ⊥) → Tells old last → Tells new last
Tells-pins old new last p is moves told = record {
  live = ap (λ (w : Word). w.live) is ∙ told.live;
  unlinked = ap (λ (w : Word). w.unlinked) is ∙ told.unlinked;
  generation = ap (λ (w : Word). w.generation) is ∙ told.generation;
  still = λ rests. absurd (moves (subst (λ (n : ℕ). IsStill (parts_of n)) (sym (told.still rests)) rests));
}

pub IsRight-pins : (old new p : ℕ) → parts_of new ≡ record (parts_of old) { pins = p } → (parts_of old).live ≡ true → IsRight (parts_of old) → IsRight (parts_of new)
IsRight-pins old new p is live right =
    let alive : (parts_of new).live ≡ true = ap (λ (w : Word). w.live) is ∙ live in
    record {
      unused = ap (λ (w : Word). w.unused) is ∙ right.unused;
      no_pins = λ dead. absurd (true≢false (sym alive ∙ dead));
      no_mark = λ dead. absurd (true≢false (sym alive ∙ dead));
    }

pub open_moves : (generation : ℕ) (word : Word) → CanOpen generation word → IsStill word → ⊥
open_moves generation word can still = ⊎_elim (λ dead. true≢false (sym can.live ∙ dead))
    (λ (waits : (word.unlinked ≡ true) × (word.pins ≡ 0)). let held = can.held waits.0 in let none = waits.1 in omega arith) still

pub pinned_moves : (generation : ℕ) (word : Word) → IsPinned generation word → IsStill word → ⊥
pinned_moves generation word is still = ⊎_elim (λ dead. true≢false (sym is.live ∙ dead))
    (λ (waits : (word.unlinked ≡ true) × (word.pins ≡ 0)). let none = waits.1 in let held = is.pins in omega arith) still

has_pins : (n : ℕ) → 1 ≤ (parts_of n).pins → 1 ≤ n
unfolding parts_of
has_pins n some_pin = omega arith

is_pinned-here : (generation : ℕ) (word : Word) → IsPinned generation word → is_pinned word ≡ true
is_pinned-here generation word is = and_from word.live (nat_lt 0 word.pins) is.live (lt-ltb 0 word.pins is.pins)

-- the number is at least 1
pub one_off : (n generation : ℕ) → n < 2 ^ 64 → IsPinned generation (parts_of n) → (n + (2 ^ 64 - 1)) % 2 ^ 64 ≡ n - 1
one_off n generation small is = let least : 1 ≤ n = has_pins n is.pins in omega arith

-- one pin is taken off by taking 1 off the number
pub record Closes (seen next : ℕ) : Type 0 where
  pub parts_are : parts_of next ≡ record (parts_of seen) { pins = (parts_of seen).pins - 1 }
  pub step_is : Some next ≡ numbered (after_close (parts_of seen))

pub closes : (laws : WordsAreNumbers) (n generation : ℕ) → n < 2 ^ 64 → IsPinned generation (parts_of n) → Closes n (n - 1)
closes laws n generation small is =
    let word = parts_of n in
    let some_pin = is.pins in
    let fits = parts_fit n small laws in
    let less : Word = record word { pins = word.pins - 1 } in
    let whole : number_of word ≡ n = number-parts laws n small in
    let one_less : n - 1 ≡ number_of less = omega (arith, whole, some_pin) in record {
      parts_are = ap parts_of one_less ∙ parts-number laws less (record { generation = fits.generation; unused = fits.unused; pins = omega (arith, fits.pins) });
      step_is = ap Some one_less ∙ sym (ap (λ (b : Bool). numbered (cond b (Some less) None)) (is_pinned-here generation word is));
    }

-- what a retire makes of a word
pub record Retires (seen next : ℕ) : Type 0 where
  pub live : (parts_of seen).live ≡ true
  pub no_mark : (parts_of seen).unlinked ≡ false
  pub no_pins : (parts_of seen).pins ≡ 0
  pub less : parts_of next ≡ record (parts_of seen) { live = false }

pub idle-says : (word : Word) → is_idle word ≡ true → (word.live ≡ true) × (word.unlinked ≡ false) × (word.pins ≡ 0)
idle-says word idle =
    let outer = and_parts (word.live && not word.unlinked) (eqb word.pins 0) idle in
    let inner = and_parts word.live (not word.unlinked) outer.0 in
    (inner.0, not-true word.unlinked inner.1, eqb-true word.pins 0 outer.1)

pub retires : (laws : WordsAreNumbers) (seen next : ℕ) → seen < 2 ^ 64 → Some next ≡ numbered (after_retire (parts_of seen)) → Retires seen next
retires laws seen next small is =
    let word = parts_of seen in
    let fits = parts_fit seen small laws in
    let all = given laws (is_idle word) (record word { live = false }) next (λ _. record { generation = fits.generation; unused = fits.unused; pins = fits.pins }) is in
    let says = idle-says word all.0 in
    record { live = says.0; no_mark = says.1; no_pins = says.2; less = all.2 }

pub retire_changes : (seen next : ℕ) → IsRight (parts_of seen) → Retires seen next → CanChange seen next
retire_changes seen next right is = record {
  none_before = is.no_pins;
  none_after = ap (λ (w : Word). w.pins) is.less ∙ is.no_pins;
  right = record {
    unused = ap (λ (w : Word). w.unused) is.less ∙ right.unused;
    no_pins = λ _. ap (λ (w : Word). w.pins) is.less ∙ is.no_pins;
    no_mark = λ _. ap (λ (w : Word). w.unlinked) is.less ∙ is.no_mark;
  };
}

-- what a kill makes of a word
pub record Kills (generation seen next : ℕ) : Type 0 where
  pub live : (parts_of seen).live ≡ true
  pub same : (parts_of seen).generation ≡ generation
  pub mark : (parts_of seen).unlinked ≡ true
  pub no_pins : (parts_of seen).pins ≡ 0
  pub less : parts_of next ≡ record (parts_of seen) { live = false; unlinked = false }

pub awaiting-says : (generation : ℕ) (word : Word) → is_awaiting generation word ≡ true → (word.live ≡ true) × (word.generation ≡ generation) × (word.unlinked ≡ true) × (word.pins ≡ 0)
awaiting-says generation word waits =
    let outer = and_parts (is_cached generation word && word.unlinked) (eqb word.pins 0) waits in
    let inner = and_parts (is_cached generation word) word.unlinked outer.0 in
    let both = and_parts word.live (eqb word.generation generation) inner.0 in
    (both.0, eqb-true word.generation generation both.1, inner.1, eqb-true word.pins 0 outer.1)

pub kills : (laws : WordsAreNumbers) (seen generation next : ℕ) → seen < 2 ^ 64 → Some next ≡ numbered (after_kill generation (parts_of seen)) → Kills generation seen next
kills laws seen generation next small is =
    let word = parts_of seen in
    let fits = parts_fit seen small laws in
    let all = given laws (is_awaiting generation word) (record word { live = false; unlinked = false }) next (λ _. record { generation = fits.generation; unused = fits.unused; pins = fits.pins }) is in
    let says = awaiting-says generation word all.0 in
    record { live = says.0; same = says.1; mark = says.2; no_pins = says.3; less = all.2 }

pub kill_changes : (generation seen next : ℕ) → IsRight (parts_of seen) → Kills generation seen next → CanChange seen next
kill_changes generation seen next right is = record {
  none_before = is.no_pins;
  none_after = ap (λ (w : Word). w.pins) is.less ∙ is.no_pins;
  right = record {
    unused = ap (λ (w : Word). w.unused) is.less ∙ right.unused;
    no_pins = λ _. ap (λ (w : Word). w.pins) is.less ∙ is.no_pins;
    no_mark = λ _. ap (λ (w : Word). w.unlinked) is.less;
  };
}

-- what an install makes of a word
pub record Installs (generation : ℕ) (unlinked : Bool) (seen next : ℕ) : Type 0 where
  pub away : (parts_of seen).live ≡ false
  pub more : parts_of next ≡ record (parts_of seen) { generation = generation; live = true; unlinked = unlinked; pins = 1 }

pub installs : (laws : WordsAreNumbers) (seen generation : ℕ) (unlinked : Bool) (next : ℕ) → seen < 2 ^ 64 → generation < 2 ^ 32 → Some next ≡ numbered (after_install generation unlinked (parts_of seen)) → Installs generation unlinked seen next
installs laws seen generation unlinked next small fits is =
    let word = parts_of seen in
    let parts = parts_fit seen small laws in
    let new : Word = record word { generation = generation; live = true; unlinked = unlinked; pins = 1 } in
    let turned : Some next ≡ numbered (cond (not word.live) (Some new) None) = is ∙ turn word.live new in
    let all = given laws (not word.live) new next (λ _. record { generation = fits; unused = parts.unused; pins = lit< tt }) turned in
    record { away = not-true word.live all.0; more = all.2 }

pub install_can : (generation : ℕ) (unlinked : Bool) (seen next : ℕ) → IsRight (parts_of seen) → Installs generation unlinked seen next → CanInstall seen next
install_can generation unlinked seen next right is =
    let here : (parts_of next).live ≡ true = ap (λ (w : Word). w.live) is.more in
    record {
      away = is.away;
      here = here;
      one = ap (λ (w : Word). w.pins) is.more;
      right = record {
        unused = ap (λ (w : Word). w.unused) is.more ∙ right.unused;
        no_pins = λ dead. absurd (true≢false (sym here ∙ dead));
        no_mark = λ dead. absurd (true≢false (sym here ∙ dead));
      };
    }

-- the mark by its bit
mark_bit : (n : ℕ) → digit (parts_of n).unlinked ≡ bit_at n 30
unfolding parts_of
mark_bit n = elim (cases_eq (n / 2 ^ 30 % 2) 1) [
  | inl one ↦ ap digit (eq-eqb (n / 2 ^ 30 % 2) 1 one) ∙ sym one
  | inr other ↦ let none : n / 2 ^ 30 % 2 ≡ 0 = omega (arith, other) in ap digit (ne_eqb (n / 2 ^ 30 % 2) 1 other) ∙ sym none
]

pub record Marks (unlinked : Bool) (seen next : ℕ) : Type 0 where
  pub parts_are : parts_of next ≡ record (parts_of seen) { unlinked = unlinked }
  pub step_is : Some next ≡ numbered (after_mark unlinked (parts_of seen))

-- a word with another mark
remark : (laws : WordsAreNumbers) (unlinked : Bool) (generation seen next : ℕ) → seen < 2 ^ 64 → IsPinned generation (parts_of seen)
    → next ≡ number_of (record (parts_of seen) { unlinked = unlinked }) → Marks unlinked seen next
remark laws unlinked generation seen next small is e =
    let word = parts_of seen in
    let fits = parts_fit seen small laws in
    let new : Word = record word { unlinked = unlinked } in record {
      parts_are = ap parts_of e ∙ parts-number laws new (record { generation = fits.generation; unused = fits.unused; pins = fits.pins });
      step_is = ap Some e ∙ sym (ap (λ (b : Bool). numbered (cond b (Some new) None)) (is_pinned-here generation word is));
    }

pub marks : (laws : WordsAreNumbers) (generation n : ℕ) → n < 2 ^ 64 → IsPinned generation (parts_of n) → Marks true n (bit_or n (2 ^ 30))
marks laws generation n small is =
    let word = parts_of n in
    let bit = mark_bit n in
    let whole : number_of word ≡ n = number-parts laws n small in
    let sum : bit_or n (2 ^ 30) + bit_and n (2 ^ 30) ≡ n + 2 ^ 30 = or_add_and n (2 ^ 30) in
    let same : bit_and n (2 ^ 30) ≡ bit_at n 30 * 2 ^ 30 = and_pow n 30 in
    let e : bit_or n (2 ^ 30) ≡ number_of (record word { unlinked = true }) = omega (arith, sum, same, bit, whole) in
    remark laws true generation n (bit_or n (2 ^ 30)) small is e

pub unmarks : (laws : WordsAreNumbers) (generation n : ℕ) → n < 2 ^ 64 → IsPinned generation (parts_of n) → Marks false n (bit_and n (2 ^ 64 - 1 - 2 ^ 30))
unmarks laws generation n small is =
    let word = parts_of n in
    let bit = mark_bit n in
    let mask : ℕ = 2 ^ 64 - 1 - 2 ^ 30 in
    let whole : number_of word ≡ n = number-parts laws n small in
    let sum : bit_and mask n + bit_and (2 ^ 30) n ≡ n = and-not 64 (2 ^ 30) n (lit< tt) small in
    let turned : bit_and n mask ≡ bit_and mask n = and_comm n mask in
    let turned_bit : bit_and (2 ^ 30) n ≡ bit_and n (2 ^ 30) = and_comm (2 ^ 30) n in
    let same : bit_and n (2 ^ 30) ≡ bit_at n 30 * 2 ^ 30 = and_pow n 30 in
    let e : bit_and n mask ≡ number_of (record word { unlinked = false }) = omega (arith, sum, turned, turned_bit, same, bit, whole) in
    remark laws false generation n (bit_and n mask) small is e
