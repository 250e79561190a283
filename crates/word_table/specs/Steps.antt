-- What each step tells the one who makes it. The step says at which place it is made, and with which numbers.
use Rattle.std.specs.Prelude.{◌≡◌, ◌≢◌, ◌-◌, ◌≤◌, ℕ, Bool, true, false, Some, bit_or, bit_and}
use Rattle.slot_words.specs.Words.{numbered}
use Rattle.slot_words.specs.Steps.{after_close, after_mark}
use Rattle.atomic_table.specs.Table.{Step, Me}
use Rattle.word_table.specs.declared.known.Known.{Known}
use Rattle.word_table.specs.Words.{parts_of, IsPinned, IsRight, Tells}
use Rattle.word_table.specs.Known.{times, last_of, looked, pinned, unpinned, fronted, Keeps}

-- each own pin on the word is of its generation, and the word is live
abbrev pub Holds : ℕ → Known → ℕ → Type 0
Holds place v found = (generation : ℕ) → 1 ≤ times place generation v.pins → IsPinned generation (parts_of found)

-- A load: the word is in the log of looks. Each own pin shows in it, and its keeper sees what it last saw.
pub record Looked (s : Step ℕ) (v : Me ℕ Known) (found : ℕ) (w : Me ℕ Known) : Type 0 where
  pub slots : w.1 ≡ v.1
  pub view : w.0 ≡ looked s.word found v.0
  pub right : IsRight (parts_of found)
  pub holds : Holds s.word v.0 found
  pub tells : Keeps v.0 s.word → Tells found (last_of s.word v.0.looks)

-- A compare and exchange that puts one pin more: where it was made the pin is there, else the word is in the log.
pub record Pinned (s : Step ℕ) (v : Me ℕ Known) (found : ℕ) (w : Me ℕ Known) : Type 0 where
  pub slots : w.1 ≡ v.1
  pub hit : found ≡ s.first → w.0 ≡ pinned s.word (parts_of found).generation v.0
  pub miss : found ≢ s.first → w.0 ≡ looked s.word found v.0

-- One pin is taken off, whatever the word is by then: the word that was found and the one that is left are in the log.
pub record Unpinned (s : Step ℕ) (v : Me ℕ Known) (found : ℕ) (w : Me ℕ Known) : Type 0 where
  pub slots : w.1 ≡ v.1
  pub view : w.0 ≡ unpinned s.word (parts_of found).generation (looked s.word (found - s.first) (looked s.word found v.0))
  pub holds : Holds s.word v.0 found

-- A load that moves a pin on this word to the front, so that it can be given away.
pub record Fronted (s : Step ℕ) (v : Me ℕ Known) (found : ℕ) (w : Me ℕ Known) : Type 0 where
  pub slots : w.1 ≡ v.1
  pub view : w.0 ≡ fronted s.word (parts_of found).generation v.0
  pub holds : Holds s.word v.0 found

-- A compare and exchange by the keeper, which leaves the pins.
pub record WordChanged (s : Step ℕ) (v : Me ℕ Known) (found : ℕ) (w : Me ℕ Known) : Type 0 where
  pub slots : w.1 ≡ v.1
  pub hit : found ≡ s.first → w.0 ≡ looked s.word s.second v.0
  pub miss : found ≢ s.first → w.0 ≡ looked s.word found v.0
  pub tells : Keeps v.0 s.word → Tells found (last_of s.word v.0.looks)

-- A compare and exchange by the keeper, which brings an inode into the cache, with a pin of the keeper's.
pub record Installed (s : Step ℕ) (v : Me ℕ Known) (found : ℕ) (w : Me ℕ Known) : Type 0 where
  pub slots : w.1 ≡ v.1
  pub hit : found ≡ s.first → w.0 ≡ pinned s.word (parts_of s.second).generation (looked s.word s.second v.0)
  pub miss : found ≢ s.first → w.0 ≡ looked s.word found v.0
  pub tells : Keeps v.0 s.word → Tells found (last_of s.word v.0.looks)

-- The mark is set, or taken away: the word that was found and the one that is left are in the log.
pub record Marked (s : Step ℕ) (v : Me ℕ Known) (found : ℕ) (w : Me ℕ Known) : Type 0 where
  pub slots : w.1 ≡ v.1
  pub view : w.0 ≡ looked s.word (bit_or found s.first) (looked s.word found v.0)
  pub holds : Holds s.word v.0 found
  pub tells : Keeps v.0 s.word → Tells found (last_of s.word v.0.looks)

pub record Unmarked (s : Step ℕ) (v : Me ℕ Known) (found : ℕ) (w : Me ℕ Known) : Type 0 where
  pub slots : w.1 ≡ v.1
  pub view : w.0 ≡ looked s.word (bit_and found s.first) (looked s.word found v.0)
  pub holds : Holds s.word v.0 found
  pub tells : Keeps v.0 s.word → Tells found (last_of s.word v.0.looks)

-- What the keeper's exchanges ask of the word that was loaded and of the next one.
pub record CanChange (seen next : ℕ) : Type 0 where
  pub none_before : (parts_of seen).pins ≡ 0
  pub none_after : (parts_of next).pins ≡ 0
  pub right : IsRight (parts_of next)

pub record CanInstall (seen next : ℕ) : Type 0 where
  pub away : (parts_of seen).live ≡ false
  pub here : (parts_of next).live ≡ true
  pub one : (parts_of next).pins ≡ 1
  pub right : IsRight (parts_of next)

-- What one knows after a pin was taken off a held inode: the word that was found, and the one that is left.
pub record Closed (place generation : ℕ) (v : Me ℕ Known) (found left : ℕ) (w : Me ℕ Known) : Type 0 where
  pub slots : w.1 ≡ v.1
  pub held : IsPinned generation (parts_of found)
  pub step_is : Some left ≡ numbered (after_close (parts_of found))
  pub view : w.0 ≡ unpinned place generation (looked place left (looked place found v.0))

-- What the keeper knows after it gave a held inode this mark: the word that was found, and the next one.
pub record Remarked (unlinked : Bool) (place generation : ℕ) (v : Me ℕ Known) (found next : ℕ) (w : Me ℕ Known) : Type 0 where
  pub slots : w.1 ≡ v.1
  pub held : IsPinned generation (parts_of found)
  pub tells : Tells found (last_of place v.0.looks)
  pub step_is : Some next ≡ numbered (after_mark unlinked (parts_of found))
  pub view : w.0 ≡ looked place next (looked place found v.0)
