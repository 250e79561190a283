-- The steps of a word: when each may be made, and what the word is after it.
use Rattle.std.specs.Prelude.{◌≡◌, ◌<◌, ◌+◌, ◌-◌, ◌^◌, ◌==◌, ◌&&◌, ◌↔◌, ℕ, Bool, true, false, not, nat_lt, IsTrue, if◌then◌else◌, Option, None, Some, IfSome}
use Rattle.life_limits.specs.declared.TheConstants.{MAX_PINS}
use Rattle.slot_words.specs.declared.word.Word.{Word}
use Rattle.slot_words.specs.declared.sight.Sight.{Sight}
use Rattle.slot_words.specs.declared.sight.Sight.TheVariants.{Open, Crowded, Awaits, Other}
use Rattle.slot_words.specs.Words.{IsWord}

-- the inode of this generation is in the cache
abbrev pub is_cached : ℕ → Word → Bool
is_cached generation word = word.live && (word.generation == generation)

-- it has no links, and nobody holds it
abbrev pub is_awaiting : ℕ → Word → Bool
is_awaiting generation word = is_cached generation word && word.unlinked && (word.pins == 0)

-- it has as many pins as a word can have
abbrev pub is_crowded : ℕ → Word → Bool
is_crowded generation word = is_cached generation word && (word.pins == MAX_PINS)

-- one more may hold it
abbrev pub can_open : ℕ → Word → Bool
can_open generation word = is_cached generation word && nat_lt word.pins MAX_PINS && not (is_awaiting generation word)

-- some inode is in the cache, and somebody holds it
abbrev pub is_pinned : Word → Bool
is_pinned word = word.live && nat_lt 0 word.pins

-- some inode with links is in the cache, and nobody holds it
abbrev pub is_idle : Word → Bool
is_idle word = word.live && not word.unlinked && (word.pins == 0)

-- The word after each step, where the step may be made.
abbrev pub after_open : ℕ → Word → Option Word
after_open generation word = if can_open generation word then Some (record word { pins = word.pins + 1 }) else None

abbrev pub after_close : Word → Option Word
after_close word = if is_pinned word then Some (record word { pins = word.pins - 1 }) else None

abbrev pub after_mark : Bool → Word → Option Word
after_mark unlinked word = if is_pinned word then Some (record word { unlinked = unlinked }) else None

abbrev pub after_install : ℕ → Bool → Word → Option Word
after_install generation unlinked word =
    if word.live then None else Some (record word { generation = generation; live = true; unlinked = unlinked; pins = 1 })

abbrev pub after_retire : Word → Option Word
after_retire word = if is_idle word then Some (record word { live = false }) else None

abbrev pub after_kill : ℕ → Word → Option Word
after_kill generation word = if is_awaiting generation word then Some (record word { live = false; unlinked = false }) else None

-- what an open sees of a word
abbrev pub sight_of : ℕ → Word → Sight
sight_of generation word =
    if can_open generation word then Open
    else if is_crowded generation word then Crowded
    else if is_awaiting generation word then Awaits
    else Other

-- Each sight says one thing of a word, and no more than one of the three may be said of a word.
pub record SightsAreExact : Type 0 where
  pub open_ : (generation : ℕ) (word : Word) → (sight_of generation word ≡ Open) ↔ IsTrue (can_open generation word)
  pub crowded : (generation : ℕ) (word : Word) → (sight_of generation word ≡ Crowded) ↔ IsTrue (is_crowded generation word)
  pub awaits : (generation : ℕ) (word : Word) → (sight_of generation word ≡ Awaits) ↔ IsTrue (is_awaiting generation word)

-- What a step leaves is a word.
pub record StepsLeaveWords (word : Word) : Type 0 where
  pub opened : (generation : ℕ) → IfSome (after_open generation word) IsWord
  pub closed : IfSome (after_close word) IsWord
  pub marked : (unlinked : Bool) → IfSome (after_mark unlinked word) IsWord
  pub installed : (generation : ℕ) (unlinked : Bool) → generation < 2 ^ 32 → IfSome (after_install generation unlinked word) IsWord
  pub retired : IfSome (after_retire word) IsWord
  pub killed : (generation : ℕ) → IfSome (after_kill generation word) IsWord
