-- What each call answers, and what is known after it.
use Rattle.std.specs.Prelude.{◌≡◌, ◌≢◌, ◌==◌, ◌&&◌, ◌⊎◌, ℕ, Bool, true, false, Option, Some, None, if◌then◌else◌}
use Rattle.life_table.specs.declared.key.Key.{Key}
use Rattle.slot_words.specs.declared.word.Word.{Word}
use Rattle.slot_words.specs.declared.sight.Sight.TheVariants.{Open, Crowded as Crowded_word}
use Rattle.slot_words.specs.Words.{numbered}
use Rattle.slot_words.specs.Steps.{sight_of, after_close, after_install, after_mark, after_retire, after_kill}
use Rattle.word_table.specs.declared.known.Known.{Known}
use Rattle.word_table.specs.declared.cache.Duty.{Duty}
use Rattle.word_table.specs.declared.session.TryOpen.{TryOpen}
use Rattle.word_table.specs.declared.session.TryOpen.TheVariants.{Pinned, Ask, Raced, Crowded}
use Rattle.word_table.specs.Words.{parts_of, IsPinned, Tells}
use Rattle.word_table.specs.Known.{last_of, looked, pinned, unpinned}

-- A try to open an inode looks at the word once. Each answer says what that word showed, and what was found where it was
-- exchanged.
abbrev pub Tried : ℕ → Key → Known → TryOpen → Known → Type 0
Tried place key v (Pinned pin) w = (seen : ℕ) × (sight_of key.generation (parts_of seen) ≡ Open)
    × (pin ≡ key) × (w ≡ pinned place key.generation (looked place seen v))
Tried place key v (Ask seen) w = (sight_of key.generation (parts_of seen) ≢ Open)
    × (sight_of key.generation (parts_of seen) ≢ Crowded_word) × (w ≡ looked place seen v)
Tried place key v (Raced seen found) w = (sight_of key.generation (parts_of seen) ≡ Open)
    × (found ≢ seen) × (w ≡ looked place found (looked place seen v))
Tried place key v Crowded w = (seen : ℕ) × (sight_of key.generation (parts_of seen) ≡ Crowded_word)
    × (w ≡ looked place seen v)

-- a word that does not show an inode to be opened, and the answer
abbrev pub IsRefusal : ℕ → ℕ → TryOpen → Type 0
IsRefusal generation seen Crowded = sight_of generation (parts_of seen) ≡ Crowded_word
IsRefusal generation seen (Ask told) = (told ≡ seen) × (sight_of generation (parts_of seen) ≢ Crowded_word)
IsRefusal generation seen (Pinned pin) = ⊥
IsRefusal generation seen (Raced told found) = ⊥

-- the duty of who gave up a hold on such a word: it was the last one, and the inode has no links
abbrev pub duty_of : Key → Word → Option Duty
duty_of key word = if word.unlinked && (word.pins == 1) then Some (record { key = key }) else None

-- A release finds the inode in the cache, of the pin's generation, and held, and leaves its word with one pin less.
abbrev pub Released : ℕ → Key → Known → Option Duty → Known → Type 0
Released place key v duty w = (found left : ℕ) × IsPinned key.generation (parts_of found)
    × (Some left ≡ numbered (after_close (parts_of found)))
    × (w ≡ unpinned place key.generation (looked place left (looked place found v)))
    × (duty ≡ duty_of key (parts_of found))

-- The keeper takes a pin over, and looks at the word: it is held, in that life of the inode.
abbrev pub IsTaken : ℕ → ℕ → Known → Known → Type 0
IsTaken place generation v w = (found : ℕ) × IsPinned generation (parts_of found) × Tells found (last_of place v.looks)
    × (w ≡ looked place found (pinned place generation v))

-- The keeper brought an inode into the cache: the word that it saw or left last became the next one.
abbrev pub IsInstalled : ℕ → ℕ → Bool → Known → Known → Type 0
IsInstalled place generation unlinked v w = let seen = last_of place v.looks in
    (next : ℕ) × (Some next ≡ numbered (after_install generation unlinked (parts_of seen)))
    × (w ≡ looked place next (looked place seen v))

-- the same, while the keeper still has the pin
abbrev pub IsInstalledHeld : ℕ → ℕ → Bool → Known → Known → Type 0
IsInstalledHeld place generation unlinked v w = let seen = last_of place v.looks in
    (next : ℕ) × (Some next ≡ numbered (after_install generation unlinked (parts_of seen)))
    × (w ≡ pinned place generation (looked place next (looked place seen v)))

-- The keeper gave a held inode this mark: the word that was found became the next one.
abbrev pub IsRemarked : ℕ → ℕ → Bool → Known → Known → Type 0
IsRemarked place generation unlinked v w = (found next : ℕ) × IsPinned generation (parts_of found)
    × Tells found (last_of place v.looks) × (Some next ≡ numbered (after_mark unlinked (parts_of found)))
    × (w ≡ looked place next (looked place found v))

-- The word that was seen became the next one by such a step.
abbrev pub IsExchanged : (Word → Option Word) → ℕ → Known → Known → Type 0
IsExchanged after place v w = (seen next : ℕ) × Tells seen (last_of place v.looks)
    × (Some next ≡ numbered (after (parts_of seen))) × (w ≡ looked place next (looked place seen v))

-- The word that was seen has no next one by such a step.
abbrev pub HasNoNext : (Word → Option Word) → ℕ → Known → Known → Type 0
HasNoNext after place v w = (seen : ℕ) × Tells seen (last_of place v.looks)
    × (after (parts_of seen) ≡ None) × (w ≡ looked place seen v)

-- The word that was seen has a next one by such a step, and another was found in its place, which differs in its pins.
abbrev pub WasRaced : (Word → Option Word) → ℕ → Known → Known → Type 0
WasRaced after place v w = (seen found : ℕ) × Tells seen (last_of place v.looks)
    × (after (parts_of seen) ≢ None) × (found ≢ seen) × Tells found seen
    × (w ≡ looked place found (looked place seen v))

-- An inode with links and without pins is retired; one of which somebody took a pin in between is not.
abbrev pub Retired : ℕ → Known → Bool → Known → Type 0
Retired place v true w = IsExchanged after_retire place v w
Retired place v false w = HasNoNext after_retire place v w ⊎ WasRaced after_retire place v w

-- An inode that waits to be freed is killed, wherever the word shows it.
abbrev pub Killed : ℕ → ℕ → Known → Bool → Known → Type 0
Killed place generation v true w = IsExchanged (after_kill generation) place v w
Killed place generation v false w = HasNoNext (after_kill generation) place v w
