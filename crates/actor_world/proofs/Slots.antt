-- Slots, caches and locks after one of them changed.
use Rattle.std.proofs.Common.{◌≡◌, ◌≢◌, ◌<◌, ◌≤◌, ◌*◌, ◌/◌, ◌%◌, inl, inr, ℕ, true, List, Some, length, slice_index_or, slice_set, sym, ap, ◌∙◌, arith}
use Rattle.std.proofs.lemmas.Bool.{cases_eq, cases_lt, false≢true}
use Rattle.life_limits.specs.declared.TheConstants.{BLOCK_SECTORS, GROUP_NUMBERS}
use Rattle.life_table.specs.declared.table.Table.{Table}
use Rattle.slot_words.specs.declared.word.Word.{Word}
use Rattle.actor_world.specs.declared.memory.Slot.{Slot}
use Rattle.actor_world.specs.declared.memory.Residence.{Residence}
use Rattle.actor_world.specs.declared.memory.GroupCache.{GroupCache}
use Rattle.actor_world.specs.declared.memory.Memory.{Memory}
use Rattle.actor_world.specs.Caches.{cache_at, cached_word, first_slot, no_cache, put_inode, put_word, slot_at, with_cache, with_slot}
use Rattle.actor_world.specs.Invariant.{IsShaped}
use Rattle.actor_world.proofs.Geometry.{IsPlaced}
use Rattle.actor_world.proofs.Lists.{all_read, read_other, read_past, read_same, set_past, set_twice}
use Rattle.actor_world.proofs.Turns.{HasSlot}

pub cache_same : (m : Memory) (g : ℕ) (cache : GroupCache) → g < length m.groups → cache_at (with_cache g cache m) g ≡ cache
cache_same m g cache low = read_same m.groups g cache no_cache low

pub cache_other : (m : Memory) (g h : ℕ) (cache : GroupCache) → h ≢ g → cache_at (with_cache g cache m) h ≡ cache_at m h
cache_other m g h cache apart = read_other m.groups g h cache no_cache apart

-- a group that is not there has no cache
pub cache_past : (m : Memory) (g : ℕ) → length m.groups ≤ g → cache_at m g ≡ no_cache
cache_past m g high = read_past m.groups g no_cache high

pub with_cache_past : (m : Memory) (g : ℕ) (cache : GroupCache) → length m.groups ≤ g → with_cache g cache m ≡ m
with_cache_past m g cache high = ap (λ (groups : List GroupCache). record { actors = m.actors; groups = groups }) (set_past m.groups g cache high)

-- a live word is in a slot that is there
pub live_has_slot : (m : Memory) (number : ℕ) → (cached_word m number).live ≡ true → HasSlot m number
live_has_slot m number live =
    elim (cases_lt (number / GROUP_NUMBERS) (length m.groups)) [
      | inl group ↦ elim (cases_lt (number % GROUP_NUMBERS) (length (cache_at m (number / GROUP_NUMBERS)).slots)) [
        | inl slot ↦ record { group = group; slot = slot }
        | inr high ↦ absurd (false≢true (sym (ap (λ (s : Slot). s.word.live) (read_past (cache_at m (number / GROUP_NUMBERS)).slots (number % GROUP_NUMBERS) first_slot high)) ∙ live))
      ]
      | inr high ↦ absurd (false≢true (sym (ap (λ (c : GroupCache). (slice_index_or c.slots (number % GROUP_NUMBERS) first_slot).word.live) (cache_past m (number / GROUP_NUMBERS) high)) ∙ live))
    ]

-- so is that of a number of the table's geometry
pub placed_has_slot : (t : Table) (m : Memory) (number : ℕ) → IsShaped t m → IsPlaced t number → HasSlot m number
placed_has_slot t m number shaped placed =
    let group : number / GROUP_NUMBERS < length m.groups = omega (arith, shaped.groups, placed.group) in
    let long : length (cache_at m (number / GROUP_NUMBERS)).slots ≡ t.blocks * BLOCK_SECTORS =
    all_read (λ (cache : GroupCache). length cache.slots ≡ t.blocks * BLOCK_SECTORS) m.groups (number / GROUP_NUMBERS) no_cache shaped.slots group in
    record { group = group; slot = omega (arith, long, placed.sector) }

pub slot_same : (m : Memory) (number : ℕ) (slot : Slot) → HasSlot m number → slot_at (with_slot number slot m) number ≡ slot
slot_same m number slot has =
    ap (λ (cache : GroupCache). slice_index_or cache.slots (number % GROUP_NUMBERS) first_slot) (cache_same m (number / GROUP_NUMBERS) _ has.group)
    ∙ read_same (cache_at m (number / GROUP_NUMBERS)).slots (number % GROUP_NUMBERS) slot first_slot has.slot

pub same_number : (a b : ℕ) → a / GROUP_NUMBERS ≡ b / GROUP_NUMBERS → a % GROUP_NUMBERS ≡ b % GROUP_NUMBERS → a ≡ b
same_number a b groups aginos = omega arith

-- what a look at a group's cache finds after a slot was changed
abbrev pub slots_set : Memory → ℕ → Slot → GroupCache
slots_set m number slot = record {
  slots = slice_set (cache_at m (number / GROUP_NUMBERS)).slots (number % GROUP_NUMBERS) slot;
  holder = (cache_at m (number / GROUP_NUMBERS)).holder;
}

pub slot_other : (m : Memory) (number other : ℕ) (slot : Slot) → other ≢ number → slot_at (with_slot number slot m) other ≡ slot_at m other
slot_other m number other slot apart =
    elim (cases_eq (other / GROUP_NUMBERS) (number / GROUP_NUMBERS)) [
      | inl same ↦ elim (cases_lt (number / GROUP_NUMBERS) (length m.groups)) [
        | inl low ↦
            ap (λ g. slice_index_or (cache_at (with_slot number slot m) g).slots (other % GROUP_NUMBERS) first_slot) same
            ∙ ap (λ (cache : GroupCache). slice_index_or cache.slots (other % GROUP_NUMBERS) first_slot) (cache_same m (number / GROUP_NUMBERS) (slots_set m number slot) low)
            ∙ read_other (cache_at m (number / GROUP_NUMBERS)).slots (number % GROUP_NUMBERS) (other % GROUP_NUMBERS) slot first_slot (λ e. apart (same_number other number same e))
            ∙ ap (λ g. slice_index_or (cache_at m g).slots (other % GROUP_NUMBERS) first_slot) (sym same)
        | inr high ↦ ap (λ (n : Memory). slot_at n other) (with_cache_past m (number / GROUP_NUMBERS) (slots_set m number slot) high)
      ]
      | inr differ ↦ ap (λ (cache : GroupCache). slice_index_or cache.slots (other % GROUP_NUMBERS) first_slot) (cache_other m (number / GROUP_NUMBERS) (other / GROUP_NUMBERS) (slots_set m number slot) differ)
    ]

-- a slot that is changed twice
pub slot_twice : (m : Memory) (number : ℕ) (first second : Slot) → number / GROUP_NUMBERS < length m.groups → with_slot number second (with_slot number first m) ≡ with_slot number second m
slot_twice m number first second low =
    let g : ℕ = number / GROUP_NUMBERS in
    let there = cache_same m g (slots_set m number first) low in
    ap (λ (cache : GroupCache). record {
      actors = m.actors;
      groups = slice_set (slice_set m.groups g (slots_set m number first)) g (record { slots = slice_set cache.slots (number % GROUP_NUMBERS) second; holder = cache.holder });
    }) there
    ∙ ap (λ (slots : List Slot). record {
      actors = m.actors;
      groups = slice_set (slice_set m.groups g (slots_set m number first)) g (record { slots = slots; holder = (cache_at m g).holder });
    }) (set_twice (cache_at m g).slots (number % GROUP_NUMBERS) first second)
    ∙ ap (λ (groups : List GroupCache). record { actors = m.actors; groups = groups }) (set_twice m.groups g (slots_set m number first) (slots_set m number second))

-- a word that is put where an inode was brought in, and an inode that leaves with its word
pub word_over_inode : (m : Memory) (number : ℕ) (inode : Residence) (word : Word) → HasSlot m number
    → put_word number (Some word) (put_inode number inode m) ≡ with_slot number (record { word = word; inode = inode }) m
word_over_inode m number inode word has =
    let put : Slot = record { word = cached_word m number; inode = inode } in
    ap (λ (s : Slot). with_slot number (record { word = word; inode = s.inode }) (with_slot number put m)) (slot_same m number put has)
    ∙ slot_twice m number put (record { word = word; inode = inode }) has.group

pub inode_over_word : (m : Memory) (number : ℕ) (inode : Residence) (word : Word) → HasSlot m number
    → put_inode number inode (put_word number (Some word) m) ≡ with_slot number (record { word = word; inode = inode }) m
inode_over_word m number inode word has =
    let put : Slot = record { word = word; inode = (slot_at m number).inode } in
    ap (λ (s : Slot). with_slot number (record { word = s.word; inode = inode }) (with_slot number put m)) (slot_same m number put has)
    ∙ slot_twice m number put (record { word = word; inode = inode }) has.group

-- ---- holders

pub holder_slot : (m : Memory) (number g : ℕ) (slot : Slot) → (cache_at (with_slot number slot m) g).holder ≡ (cache_at m g).holder
holder_slot m number g slot =
    elim (cases_eq g (number / GROUP_NUMBERS)) [
      | inl same ↦ elim (cases_lt (number / GROUP_NUMBERS) (length m.groups)) [
        | inl low ↦
            ap (λ h. (cache_at (with_slot number slot m) h).holder) same
            ∙ ap (λ (cache : GroupCache). cache.holder) (cache_same m (number / GROUP_NUMBERS) (slots_set m number slot) low)
            ∙ ap (λ h. (cache_at m h).holder) (sym same)
        | inr high ↦ ap (λ (n : Memory). (cache_at n g).holder) (with_cache_past m (number / GROUP_NUMBERS) (slots_set m number slot) high)
      ]
      | inr differ ↦ ap (λ (cache : GroupCache). cache.holder) (cache_other m (number / GROUP_NUMBERS) g (slots_set m number slot) differ)
    ]
