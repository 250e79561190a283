-- What the last look at a word tells.
use Rattle.std.proofs.Common.{◌≡◌, ℕ, Bool, false, cond, eq-eqb, refl, ap, ◌∙◌}
use Rattle.slot_words.specs.Words.{word_of}
use Rattle.word_table.specs.Words.{parts_of}
use Rattle.word_table.specs.Known.{last_of, looked}
use Rattle.word_table.specs.Ends.{SeatState}

-- an inode whose word was loaded and is not live is not there by the last look
pub away_now : (place n : ℕ) (before now : SeatState) → now ≡ record before { known = looked place n before.known } → (word_of n).live ≡ false
    → (parts_of (last_of place now.known.looks)).live ≡ false
unfolding parts_of
away_now place n before now is dead =
    ap (λ (s : SeatState). (word_of (last_of place s.known.looks)).live) is
    ∙ ap (λ (b : Bool). (word_of (cond b n (last_of place before.known.looks))).live) (eq-eqb place place refl)
    ∙ dead
