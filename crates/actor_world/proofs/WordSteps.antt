-- After a step no word lies but those that a holder is about to mend.
use Rattle.std.proofs.Common.{◌≡◌, ◌≢◌, ◌+◌, inl, inr, ℕ, true, false, Option, None, Some, IfSome, IsSomeAnd, refl, sym, ap, subst, ◌∙◌}
use Rattle.life_table.specs.declared.key.Key.{Key}
use Rattle.life_table.specs.declared.types.Row.{Row}
use Rattle.life_table.specs.declared.types.Call.{Call}
use Rattle.life_table.specs.declared.table.Inode.{Inode}
use Rattle.life_table.specs.declared.table.Table.{Table}
use Rattle.life_table.specs.Table.{inode_of, row_in_life, row_of, with_inode}
use Rattle.life_table.specs.Legal.{row_after, with_changed}
use Rattle.slot_words.specs.declared.word.Word.{Word}
use Rattle.actor_world.specs.declared.memory.Slot.{Slot}
use Rattle.actor_world.specs.declared.memory.Memory.{Memory}
use Rattle.actor_world.specs.Caches.{cached_word, with_slot}
use Rattle.actor_world.specs.Words.{DeadSays, LiveSays, WordSays, any_row, says}
use Rattle.actor_world.proofs.LiveWords.{has_inode}
use Rattle.actor_world.proofs.Looks.{inode_other, inode_same, row_same}
use Rattle.actor_world.proofs.Prepares.{StaysOrComes}
use Rattle.actor_world.proofs.Slots.{slot_same}
use Rattle.actor_world.proofs.Turns.{HasSlot}

-- ---- what a word says, at another table

-- where the inode of the number stays, or comes to be without a row
pub says_stays : (t u : Table) (word : Word) (number : ℕ) → StaysOrComes (inode_of t number) (inode_of u number) → WordSays t word number → WordSays u word number
says_stays t u word number (inl same) right =
    elim word.live as (λ b. says b t word number → says b u word number) [
      | true ↦ λ right. subst (λ (o : Option Inode). IsSomeAnd (row_in_life word.generation o) (LiveSays word)) (sym same) right
      | false ↦ λ right. subst (λ (o : Option Inode). IfSome (any_row o) DeadSays) (sym same) right
    ] right
says_stays t u word number (inr comes) right =
    elim word.live as (λ b. says b t word number → says b u word number) [
      | true ↦ λ right. absurd (subst (λ (o : Option Inode). IsSomeAnd (row_in_life word.generation o) (LiveSays word)) comes.0 right)
      | false ↦ λ right. subst (λ (o : Option Row). IfSome o DeadSays) (sym comes.1) tt
    ] right

-- a live word that is right
pub says_live : (t : Table) (word : Word) (key : Key) (row : Row) → word.live ≡ true → word.generation ≡ key.generation → row_of t key ≡ Some row → LiveSays word row → WordSays t word key.number
says_live t word key row live same is right =
    let at : row_of t (record { number = key.number; generation = word.generation }) ≡ Some row = ap (λ g. row_of t (record { number = key.number; generation = g })) same ∙ is in
    subst (λ b. says b t word key.number) (sym live) (subst (λ (o : Option Row). IsSomeAnd o (LiveSays word)) (sym at) right)

-- a word that is not live, of a number with this row or none
pub says_dead : (t : Table) (word : Word) (number : ℕ) → word.live ≡ false → IfSome (any_row (inode_of t number)) DeadSays → WordSays t word number
says_dead t word number dead right = subst (λ b. says b t word number) (sym dead) right

-- what a right word says of a key with a row
pub record SaysLive (word : Word) (key : Key) (row : Row) : Type 0 where
  pub generation : word.generation ≡ key.generation
  pub says_it : LiveSays word row

-- ---- what a call leaves of other numbers

pub changed_other : (t : Table) (key : Key) (o : Option Row) (made : Call) (number : ℕ) → number ≢ key.number → inode_of (with_changed t key o made) number ≡ inode_of t number
changed_other t key None made number apart = refl
changed_other t key (Some row) made number apart = inode_other t key.number number _ (λ e. apart (sym e))

pub changed_row : (t : Table) (key : Key) (row : Row) (made : Call) → row_of t key ≡ Some row → row_of (with_changed t key (row_of t key) made) key ≡ Some (row_after t row made)
changed_row t key row made is = ap (λ (o : Option Row). row_of (with_changed t key o made) key) is ∙ row_same t key row (row_after t row made) is

-- ---- what the slot of a number has after it was put

pub put_word_is : (m : Memory) (number : ℕ) (slot : Slot) → HasSlot m number → cached_word (with_slot number slot m) number ≡ slot.word
put_word_is m number slot has = ap (λ (s : Slot). s.word) (slot_same m number slot has)

-- no row is at the number of a key that was freed
pub freed_bare : (t : Table) (key : Key) (row : Row) → row_of t key ≡ Some row → any_row (inode_of (with_inode t key.number (record { generation = key.generation + 1; row = None })) key.number) ≡ None
freed_bare t key row is =
    let has = has_inode (inode_of t key.number) key.generation row is in
    ap any_row (inode_same t key.number has.inode (record { generation = key.generation + 1; row = None }) has.at)
