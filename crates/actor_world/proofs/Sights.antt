-- What the tests of a word say.
use Rattle.std.proofs.Common.{◌≡◌, ◌<◌, ◌+◌, ◌-◌, ◌==◌, ◌&&◌, ℕ, Bool, true, false, not, None, Some, if◌then◌else◌, nat_lt, refl, sym, ap, ◌∙◌, arith}
use Rattle.std.proofs.lemmas.Bool.{and_parts, eqb-true, eq-eqb, ltb-true, true≢false, false≢true}
use Rattle.life_limits.specs.declared.TheConstants.{MAX_PINS}
use Rattle.slot_words.specs.declared.word.Word.{Word}
use Rattle.slot_words.specs.declared.sight.Sight.TheVariants.{Open, Crowded, Awaits, Other}
use Rattle.slot_words.specs.Steps.{after_close, after_install, after_kill, after_mark, after_open, after_retire, can_open, is_awaiting, is_cached, is_crowded, is_idle, is_pinned, sight_of}
use Rattle.actor_world.specs.Caches.{same_bit, same_word}

pub negated : (b : Bool) → not b ≡ true → b ≡ false
negated true is = absurd (false≢true is)
negated false is = refl

-- the inode of this generation is in the cache
pub record IsCached (generation : ℕ) (word : Word) : Type 0 where
  pub live : word.live ≡ true
  pub generation_is : word.generation ≡ generation

pub cached_is : (generation : ℕ) (word : Word) → is_cached generation word ≡ true → IsCached generation word
cached_is generation word is =
    let parts = and_parts word.live (word.generation == generation) is in
    record { live = parts.0; generation_is = eqb-true word.generation generation parts.1 }

pub is_cached_as : (generation : ℕ) (word : Word) → IsCached generation word → is_cached generation word ≡ true
is_cached_as generation word is = rw is.live (eq-eqb word.generation generation is.generation_is)

-- a word that can be opened
pub record CanOpen (generation : ℕ) (word : Word) : Type 0 where
  pub cached : IsCached generation word
  pub few : word.pins < MAX_PINS
  pub waits_not : word.unlinked ≡ true → word.pins ≡ 0 → ⊥

pub can_open_is : (generation : ℕ) (word : Word) → can_open generation word ≡ true → CanOpen generation word
can_open_is generation word is =
    let outer = and_parts (is_cached generation word && nat_lt word.pins MAX_PINS) (not (is_awaiting generation word)) is in
    let inner = and_parts (is_cached generation word) (nat_lt word.pins MAX_PINS) outer.0 in
    record {
      cached = cached_is generation word inner.0;
      few = ltb-true word.pins MAX_PINS inner.1;
      waits_not = λ marked unpinned.
          let none : (word.pins == 0) ≡ true = eq-eqb word.pins 0 unpinned in
          let awaiting : is_awaiting generation word ≡ true = rw (inner.0, marked, none) in
          true≢false (sym awaiting ∙ negated (is_awaiting generation word) outer.1);
    }

-- what each sight says
pub sees_open : (generation : ℕ) (word : Word) → sight_of generation word ≡ Open → can_open generation word ≡ true
sees_open generation word =
    elim (can_open generation word) as (λ b. (if b then Open else if is_crowded generation word then Crowded else if is_awaiting generation word then Awaits else Other) ≡ Open → b ≡ true) [
      | true ↦ λ is. refl
      | false ↦ elim (is_crowded generation word) as (λ c. (if c then Crowded else if is_awaiting generation word then Awaits else Other) ≡ Open → false ≡ true) [
        | true ↦ λ is. cc
        | false ↦ elim (is_awaiting generation word) as (λ w. (if w then Awaits else Other) ≡ Open → false ≡ true) [ true ↦ λ is. cc | false ↦ λ is. cc ]
      ]
    ]

pub sees_crowded : (generation : ℕ) (word : Word) → sight_of generation word ≡ Crowded → is_crowded generation word ≡ true
sees_crowded generation word =
    elim (can_open generation word) as (λ b. (if b then Open else if is_crowded generation word then Crowded else if is_awaiting generation word then Awaits else Other) ≡ Crowded → is_crowded generation word ≡ true) [
      | true ↦ λ is. cc
      | false ↦ elim (is_crowded generation word) as (λ c. (if c then Crowded else if is_awaiting generation word then Awaits else Other) ≡ Crowded → c ≡ true) [
        | true ↦ λ is. refl
        | false ↦ elim (is_awaiting generation word) as (λ w. (if w then Awaits else Other) ≡ Crowded → false ≡ true) [ true ↦ λ is. cc | false ↦ λ is. cc ]
      ]
    ]

pub sees_awaits : (generation : ℕ) (word : Word) → sight_of generation word ≡ Awaits → is_awaiting generation word ≡ true
sees_awaits generation word =
    elim (can_open generation word) as (λ b. (if b then Open else if is_crowded generation word then Crowded else if is_awaiting generation word then Awaits else Other) ≡ Awaits → is_awaiting generation word ≡ true) [
      | true ↦ λ is. cc
      | false ↦ elim (is_crowded generation word) as (λ c. (if c then Crowded else if is_awaiting generation word then Awaits else Other) ≡ Awaits → is_awaiting generation word ≡ true) [
        | true ↦ λ is. cc
        | false ↦ elim (is_awaiting generation word) as (λ w. (if w then Awaits else Other) ≡ Awaits → w ≡ true) [ true ↦ λ is. refl | false ↦ λ is. cc ]
      ]
    ]

-- a word that shows none of these is not of a row that is within the limits
pub record SeesOther (generation : ℕ) (word : Word) : Type 0 where
  pub open_ : can_open generation word ≡ false
  pub crowded : is_crowded generation word ≡ false
  pub awaits : is_awaiting generation word ≡ false

pub sees_other : (generation : ℕ) (word : Word) → sight_of generation word ≡ Other → SeesOther generation word
sees_other generation word is = record {
  open_ = elim (can_open generation word) as (λ b. (if b then Open else if is_crowded generation word then Crowded else if is_awaiting generation word then Awaits else Other) ≡ Other → b ≡ false) [
    | true ↦ λ is. cc
    | false ↦ λ is. refl
  ] is;
  crowded = elim (can_open generation word) as (λ b. (if b then Open else if is_crowded generation word then Crowded else if is_awaiting generation word then Awaits else Other) ≡ Other → is_crowded generation word ≡ false) [
    | true ↦ λ is. cc
    | false ↦ elim (is_crowded generation word) as (λ c. (if c then Crowded else if is_awaiting generation word then Awaits else Other) ≡ Other → c ≡ false) [ true ↦ λ is. cc | false ↦ λ is. refl ]
  ] is;
  awaits = elim (can_open generation word) as (λ b. (if b then Open else if is_crowded generation word then Crowded else if is_awaiting generation word then Awaits else Other) ≡ Other → is_awaiting generation word ≡ false) [
    | true ↦ λ is. cc
    | false ↦ elim (is_crowded generation word) as (λ c. (if c then Crowded else if is_awaiting generation word then Awaits else Other) ≡ Other → is_awaiting generation word ≡ false) [
      | true ↦ λ is. cc
      | false ↦ elim (is_awaiting generation word) as (λ w. (if w then Awaits else Other) ≡ Other → w ≡ false) [ true ↦ λ is. cc | false ↦ λ is. refl ]
    ]
  ] is;
}

-- an exchange finds the word that was seen
same_bits : (a b : Bool) → same_bit a b ≡ true → a ≡ b
same_bits true true is = refl
same_bits true false is = absurd (false≢true is)
same_bits false true is = absurd (false≢true is)
same_bits false false is = refl

pub same_words : (word seen : Word) → same_word word seen ≡ true → word ≡ seen
same_words word seen is =
    let first = and_parts (word.generation == seen.generation) (same_bit word.live seen.live && (same_bit word.unlinked seen.unlinked && ((word.unused == seen.unused) && (word.pins == seen.pins)))) is in
    let second = and_parts (same_bit word.live seen.live) (same_bit word.unlinked seen.unlinked && ((word.unused == seen.unused) && (word.pins == seen.pins))) first.1 in
    let third = and_parts (same_bit word.unlinked seen.unlinked) ((word.unused == seen.unused) && (word.pins == seen.pins)) second.1 in
    let fourth = and_parts (word.unused == seen.unused) (word.pins == seen.pins) third.1 in
    let g = eqb-true word.generation seen.generation first.0 in
    let l = same_bits word.live seen.live second.0 in
    let u = same_bits word.unlinked seen.unlinked third.0 in
    let n = eqb-true word.unused seen.unused fourth.0 in
    let p = eqb-true word.pins seen.pins fourth.1 in
    λ i. record { generation = g i; live = l i; unlinked = u i; unused = n i; pins = p i }

same_bit_self : (b : Bool) → same_bit b b ≡ true
same_bit_self true = refl
same_bit_self false = refl

pub same_word_self : (word : Word) → same_word word word ≡ true
same_word_self word =
    rw (eq-eqb word.generation word.generation refl, same_bit_self word.live, same_bit_self word.unlinked, eq-eqb word.unused word.unused refl, eq-eqb word.pins word.pins refl)

-- ---- the word after a step that can be made

pub opened_word : (generation : ℕ) (word : Word) → can_open generation word ≡ true → after_open generation word ≡ Some (record word { pins = word.pins + 1 })
opened_word generation word is = ap (λ b. if b then Some (record word { pins = word.pins + 1 }) else None) is

pub pinned_is : (word : Word) → word.live ≡ true → 0 < word.pins → is_pinned word ≡ true
pinned_is word live some = let pins : nat_lt 0 word.pins ≡ true = grind (arith, some) in rw (live, pins)

pub closed_word : (word : Word) → is_pinned word ≡ true → after_close word ≡ Some (record word { pins = word.pins - 1 })
closed_word word is = ap (λ b. if b then Some (record word { pins = word.pins - 1 }) else None) is

pub marked_word : (unlinked : Bool) (word : Word) → is_pinned word ≡ true → after_mark unlinked word ≡ Some (record word { unlinked = unlinked })
marked_word unlinked word is = ap (λ b. if b then Some (record word { unlinked = unlinked }) else None) is

pub installed_word : (generation : ℕ) (unlinked : Bool) (word : Word) → word.live ≡ false
    → after_install generation unlinked word ≡ Some (record word { generation = generation; live = true; unlinked = unlinked; pins = 1 })
installed_word generation unlinked word dead = ap (λ b. if b then None else Some (record word { generation = generation; live = true; unlinked = unlinked; pins = 1 })) dead

pub killed_word : (generation : ℕ) (word : Word) → is_awaiting generation word ≡ true → after_kill generation word ≡ Some (record word { live = false; unlinked = false })
killed_word generation word is = ap (λ b. if b then Some (record word { live = false; unlinked = false }) else None) is

pub retired_word : (word : Word) → is_idle word ≡ true → after_retire word ≡ Some (record word { live = false })
retired_word word is = ap (λ b. if b then Some (record word { live = false }) else None) is
