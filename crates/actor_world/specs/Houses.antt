-- What whole flushes and reclaims leave of a group.
use Rattle.std.specs.Prelude.{◌≡◌, ◌≤◌, ◌/◌, ◌⊎◌, ℕ, true}
use Rattle.life_limits.specs.declared.TheConstants.{GROUP_NUMBERS}
use Rattle.actor_world.specs.declared.memory.Residence.TheVariants.{Dirty}
use Rattle.actor_world.specs.declared.memory.Memory.{Memory}
use Rattle.actor_world.specs.Caches.{cached_word, slot_at}

-- none of a group's inodes in core is dirty
abbrev pub HasNoDirty : Memory → ℕ → Type 0
HasNoDirty m g = (number : ℕ) → number / GROUP_NUMBERS ≡ g → (slot_at m number).inode ≡ Dirty → ⊥

-- the word of a number has a pin or the mark, or its in-core inode is dirty
abbrev pub IsKept : Memory → ℕ → Type 0
IsKept m number = (1 ≤ (cached_word m number).pins) ⊎ (((cached_word m number).unlinked ≡ true) ⊎ ((slot_at m number).inode ≡ Dirty))

-- each live word of a group is such a one
abbrev pub IsReclaimed : Memory → ℕ → Type 0
IsReclaimed m g = (number : ℕ) → number / GROUP_NUMBERS ≡ g → (cached_word m number).live ≡ true → IsKept m number
