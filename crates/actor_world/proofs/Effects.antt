-- What a turn does to the caches and their locks.
use Rattle.std.proofs.Common.{◌≡◌, ◌/◌, ◌%◌, ◌⊎◌, inl, inr, ℕ, zero, suc, Bool, true, false, List, [], ◌∷◌, Option, None, Some, length, map, slice_index_or, slice_set, refl, sym, ap, subst, ◌∙◌, arith}
use Rattle.std.proofs.lemmas.List.{length-map}
use Rattle.std.specs.List.{AllByRecursion}
use Rattle.std.proofs.lemmas.Bool.{cases_eq, cases_lt, false≢true}
use Rattle.life_limits.specs.declared.TheConstants.{GROUP_NUMBERS}
use Rattle.life_table.specs.declared.key.Key.{Key}
use Rattle.life_table.specs.declared.types.Call.{Call}
use Rattle.life_table.specs.declared.types.Event.{Event}
use Rattle.life_table.specs.declared.table.Table.{Table}
use Rattle.life_table.specs.Table.{group_number}
use Rattle.actor_world.specs.declared.memory.Place.{Place}
use Rattle.actor_world.specs.declared.memory.Residence.{Residence}
use Rattle.actor_world.specs.declared.memory.Residence.TheVariants.{Absent, Clean, Dirty}
use Rattle.actor_world.specs.declared.memory.Slot.{Slot}
use Rattle.actor_world.specs.declared.memory.GroupCache.{GroupCache}
use Rattle.actor_world.specs.declared.memory.Memory.{Memory}
use Rattle.actor_world.specs.Caches.{brought, cache_at, copied, copied_slot, copy_all, first_slot, locked, no_cache, slot_at, unlocked, with_cache, with_slot}
use Rattle.actor_world.proofs.Lists.{all_set, read_past, set-length}
use Rattle.actor_world.proofs.Slots.{cache_other, cache_same, slot_other, slot_same, slots_set, with_cache_past}
use Rattle.actor_world.proofs.Turns.{CanLock, Turn, changes, copies, ends_flush, ends_reclaim, finds_none, finds_row, frees_head, frees_one, grows, installs, installs_made, kills, kills_head, leaves, locks_change, locks_flush, locks_reclaim, locks_short, makes, marks, next_none, next_row, passes, passes_last, pins, pins_locked, reads, retires, unpins}

-- no live word is without an inode in core
abbrev pub IsCore : Slot → Type 0
IsCore slot = slot.word.live ≡ true → slot.inode ≡ Absent → ⊥

-- A turn leaves the caches; or it takes or gives back the lock of a group; or it changes one slot; or it copies the dirty
-- inodes of a group.
pub data Effect (m : Memory) (a : ℕ) : Memory → Type 0 where
  Same : Effect m a m
  Locks : (g : ℕ) → CanLock m g → Effect m a (locked a g m)
  Unlocks : (g : ℕ) → Effect m a (unlocked g m)
  Puts : (number : ℕ) → (slot : Slot) → IsCore slot → Effect m a (with_slot number slot m)
  Copies : (g : ℕ) → Effect m a (copy_all g m)

brought_in : (inode : Residence) → brought inode ≡ Absent → ⊥
brought_in Absent is = let clash : Clean ≡ Absent = is in cc
brought_in Clean is = let clash : Clean ≡ Absent = is in cc
brought_in Dirty is = let clash : Dirty ≡ Absent = is in cc

dirty_in : {live : Bool} → live ≡ true → Dirty ≡ Absent → ⊥
dirty_in live is = cc

not_live : false ≡ true → {inode : Residence} → inode ≡ Absent → ⊥
not_live is none = absurd (false≢true is)

pub effect_of : {t : Table} {m : Memory} {a : ℕ} {made : Call} {at : Place} {q later : List Key} {event : Option Event} {next : Option Place} {memory : Memory}
    → ((number : ℕ) → IsCore (slot_at m number)) → Turn t m a made at q event next later memory → Effect m a memory
effect_of core (pins key seen opened) = Puts key.number _ (core key.number)
effect_of core (pins_locked key seen opened) = Puts key.number _ (core key.number)
effect_of core (unpins key held) = Puts key.number _ (core key.number)
effect_of core (marks made key row answer is due) = Puts key.number _ (core key.number)
effect_of {m = m} core (installs key dead has) = Puts key.number _ (λ live none. brought_in (slot_at m key.number).inode none)
effect_of core (installs_made made g key row is due) = Puts key.number _ (λ live none. due.incore none)
effect_of core (changes made key is permits) = Puts key.number _ dirty_in
effect_of core (frees_one made g key others is group awaits) = Puts key.number _ dirty_in
effect_of core (grows key count permits) = Puts key.number _ dirty_in
effect_of core (makes made g key is permits) = Puts key.number _ dirty_in
effect_of core (frees_head key keys awaits) = Puts key.number _ dirty_in
effect_of core (kills made g key others is due) = Puts key.number _ (λ live none. not_live live none)
effect_of core (kills_head key keys due) = Puts key.number _ (λ live none. not_live live none)
effect_of core (retires g number others idle) = Puts number _ (λ live none. not_live live none)
effect_of core (finds_none key can is) = Locks (group_number key) can
effect_of core (finds_row key row can is) = Locks (group_number key) can
effect_of core (reads key answer can permits) = Locks (group_number key) can
effect_of core (locks_change made key is can) = Locks (group_number key) can
effect_of core (locks_short made g is can) = Locks g can
effect_of core (next_none key keys can is) = Locks (group_number key) can
effect_of core (next_row key keys row can is) = Locks (group_number key) can
effect_of core (locks_flush g can) = Locks g can
effect_of core (locks_reclaim g can) = Locks g can
effect_of core (leaves made answer g is) = Unlocks g
effect_of core (passes_last key) = Unlocks (group_number key)
effect_of core (passes key next keys) = Unlocks (group_number key)
effect_of core (ends_flush g) = Unlocks g
effect_of core (ends_reclaim g) = Unlocks g
effect_of core (copies g) = Copies g
effect_of core _ = Same

-- the actors stay
pub effect_actors : {m : Memory} {a : ℕ} {memory : Memory} → Effect m a memory → memory.actors ≡ m.actors
effect_actors Same = refl
effect_actors (Locks g can) = refl
effect_actors (Unlocks g) = refl
effect_actors (Puts number slot core) = refl
effect_actors (Copies g) = refl

-- ---- shape

-- as many groups, each with as many slots
pub record SameShape (m memory : Memory) : Type 0 where
  pub count : length memory.groups ≡ length m.groups
  pub slots : (n : ℕ) → AllByRecursion (λ (cache : GroupCache). length cache.slots ≡ n) m.groups → AllByRecursion (λ (cache : GroupCache). length cache.slots ≡ n) memory.groups

cache_shape : (m : Memory) (g : ℕ) (cache : GroupCache) → length cache.slots ≡ length (cache_at m g).slots → SameShape m (with_cache g cache m)
cache_shape m g cache same = record {
  count = set-length m.groups g cache;
  slots = λ n all. all_set (λ (c : GroupCache). length c.slots ≡ n) m.groups g cache no_cache all (λ old. same ∙ old);
}

pub effect_shape : {m : Memory} {a : ℕ} {memory : Memory} → Effect m a memory → SameShape m memory
effect_shape Same = record { count = refl; slots = λ n all. all }
effect_shape {m = m} (Locks g can) = cache_shape m g _ refl
effect_shape {m = m} (Unlocks g) = cache_shape m g _ refl
effect_shape {m = m} (Puts number slot core) = cache_shape m (number / GROUP_NUMBERS) _ (set-length (cache_at m (number / GROUP_NUMBERS)).slots (number % GROUP_NUMBERS) slot)
effect_shape {m = m} (Copies g) = cache_shape m g _ (length-map (cache_at m g).slots copied_slot)

-- ---- slots

-- a lock's turn leaves the slots
pub slots_stay : (m : Memory) (g : ℕ) (holder : Option ℕ) (number : ℕ) → slot_at (with_cache g (record { slots = (cache_at m g).slots; holder = holder }) m) number ≡ slot_at m number
slots_stay m g holder number =
    let cache : GroupCache = record { slots = (cache_at m g).slots; holder = holder } in
    elim (cases_eq (number / GROUP_NUMBERS) g) [
      | inl same ↦ elim (cases_lt g (length m.groups)) [
        | inl low ↦
            ap (λ h. slice_index_or (cache_at (with_cache g cache m) h).slots (number % GROUP_NUMBERS) first_slot) same
            ∙ ap (λ (c : GroupCache). slice_index_or c.slots (number % GROUP_NUMBERS) first_slot) (cache_same m g cache low)
            ∙ ap (λ h. slice_index_or (cache_at m h).slots (number % GROUP_NUMBERS) first_slot) (sym same)
        | inr high ↦ ap (λ (n : Memory). slot_at n number) (with_cache_past m g cache high)
      ]
      | inr differ ↦ ap (λ (c : GroupCache). slice_index_or c.slots (number % GROUP_NUMBERS) first_slot) (cache_other m g (number / GROUP_NUMBERS) cache differ)
    ]

pub read_copied : (slots : List Slot) (i : ℕ) → slice_index_or (map copied_slot slots) i first_slot ≡ copied_slot (slice_index_or slots i first_slot)
read_copied [] i = refl
read_copied (slot ∷ slots) zero = refl
read_copied (slot ∷ slots) (suc i) = read_copied slots i

-- a slot is copied, or stays
pub slots_copied : (m : Memory) (g number : ℕ) → (slot_at (copy_all g m) number ≡ copied_slot (slot_at m number)) ⊎ (slot_at (copy_all g m) number ≡ slot_at m number)
slots_copied m g number =
    let cache : GroupCache = record { slots = map copied_slot (cache_at m g).slots; holder = (cache_at m g).holder } in
    elim (cases_eq (number / GROUP_NUMBERS) g) [
      | inl same ↦ elim (cases_lt g (length m.groups)) [
        | inl low ↦ inl (
            ap (λ h. slice_index_or (cache_at (with_cache g cache m) h).slots (number % GROUP_NUMBERS) first_slot) same
            ∙ ap (λ (c : GroupCache). slice_index_or c.slots (number % GROUP_NUMBERS) first_slot) (cache_same m g cache low)
            ∙ read_copied (cache_at m g).slots (number % GROUP_NUMBERS)
            ∙ ap (λ h. copied_slot (slice_index_or (cache_at m h).slots (number % GROUP_NUMBERS) first_slot)) (sym same))
        | inr high ↦ inr (ap (λ (n : Memory). slot_at n number) (with_cache_past m g cache high))
      ]
      | inr differ ↦ inr (ap (λ (c : GroupCache). slice_index_or c.slots (number % GROUP_NUMBERS) first_slot) (cache_other m g (number / GROUP_NUMBERS) cache differ))
    ]

-- the slot that was put is there, or a slot stays
pub slots_put : (m : Memory) (number other : ℕ) (slot : Slot) → ((other ≡ number) × (slot_at (with_slot number slot m) other ≡ slot)) ⊎ (slot_at (with_slot number slot m) other ≡ slot_at m other)
slots_put m number other slot =
    elim (cases_eq other number) [
      | inl same ↦ elim (cases_lt (number / GROUP_NUMBERS) (length m.groups)) [
        | inl group ↦ elim (cases_lt (number % GROUP_NUMBERS) (length (cache_at m (number / GROUP_NUMBERS)).slots)) [
          | inl place ↦ inl (same, ap (λ n. slot_at (with_slot number slot m) n) same ∙ slot_same m number slot (record { group = group; slot = place }))
          | inr high ↦ inr (
              ap (λ n. slot_at (with_slot number slot m) n) same
              ∙ ap (λ (c : GroupCache). slice_index_or c.slots (number % GROUP_NUMBERS) first_slot) (cache_same m (number / GROUP_NUMBERS) (slots_set m number slot) group)
              ∙ read_past (slice_set (cache_at m (number / GROUP_NUMBERS)).slots (number % GROUP_NUMBERS) slot) (number % GROUP_NUMBERS) first_slot
              (let long = set-length (cache_at m (number / GROUP_NUMBERS)).slots (number % GROUP_NUMBERS) slot in omega (arith, long, high))
              ∙ sym (read_past (cache_at m (number / GROUP_NUMBERS)).slots (number % GROUP_NUMBERS) first_slot high)
              ∙ ap (λ n. slot_at m n) (sym same))
        ]
        | inr high ↦ inr (ap (λ (n : Memory). slot_at n other) (with_cache_past m (number / GROUP_NUMBERS) (slots_set m number slot) high))
      ]
      | inr apart ↦ inr (slot_other m number other slot apart)
    ]

core_copied : (slot : Slot) → IsCore slot → IsCore (copied_slot slot)
core_copied slot core = elim slot.inode as (λ inode. (slot.word.live ≡ true → inode ≡ Absent → ⊥) → slot.word.live ≡ true → copied inode ≡ Absent → ⊥) [
  | Absent ↦ λ is live none. is live refl
  | Clean ↦ λ is live none. is live none
  | Dirty ↦ λ is live none. let clash : Clean ≡ Absent = none in cc
] core

-- no live word is without an inode in core after a turn
pub effect_core : {m : Memory} {a : ℕ} {memory : Memory} → ((number : ℕ) → IsCore (slot_at m number)) → Effect m a memory → (number : ℕ) → IsCore (slot_at memory number)
effect_core core Same number = core number
effect_core {m = m} {a = a} core (Locks g can) number = subst IsCore (sym (slots_stay m g (Some a) number)) (core number)
effect_core {m = m} core (Unlocks g) number = subst IsCore (sym (slots_stay m g None number)) (core number)
effect_core {m = m} core (Puts at slot new) number = elim (slots_put m at number slot) [
  | inl here ↦ subst IsCore (sym here.1) new
  | inr there ↦ subst IsCore (sym there) (core number)
]
effect_core {m = m} core (Copies g) number = elim (slots_copied m g number) [
  | inl here ↦ subst IsCore (sym here) (core_copied (slot_at m number) (core number))
  | inr there ↦ subst IsCore (sym there) (core number)
]
