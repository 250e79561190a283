-- What a turn leaves of a number of a group whose lock the actor does not hold: all; or the row has one hold more or less,
-- and the word one pin.
use Rattle.std.proofs.Common.{◌≡◌, ◌≢◌, ◌+◌, ◌-◌, ◌%◌, ◌/◌, ◌⊎◌, inl, inr, ℕ, true, List, Option, None, Some, slice_index_or, refl, sym, ap, ◌∙◌, arith}
use Rattle.std.proofs.lemmas.Option.{none-some, same_Some}
use Rattle.std.proofs.lemmas.Bool.{cases_eq}
use Rattle.life_limits.specs.declared.TheConstants.{GROUP_NUMBERS}
use Rattle.life_table.specs.declared.key.Key.{Key}
use Rattle.life_table.specs.declared.types.Row.{Row}
use Rattle.life_table.specs.declared.types.Call.{Call}
use Rattle.life_table.specs.declared.types.Call.TheVariants as call
use Rattle.life_table.specs.declared.types.Reply.TheVariants as reply
use Rattle.life_table.specs.declared.types.Event.{Event}
use Rattle.life_table.specs.declared.table.Table.{Table}
use Rattle.life_table.specs.Table.{group_number, in_use, inode_in, inode_of, row_of, with_row}
use Rattle.life_table.specs.Legal.{Awaits, IsNextKey, Permits, after_call, made_row, prepare, row_after, with_changed}
use Rattle.life_table.specs.WellFormed.{IsTable}
use Rattle.actor_world.specs.declared.memory.Place.{Place}
use Rattle.actor_world.specs.declared.memory.Place.TheVariants as place
use Rattle.actor_world.specs.declared.memory.GroupCache.{GroupCache}
use Rattle.actor_world.specs.declared.memory.Memory.{Memory}
use Rattle.actor_world.specs.Caches.{cached_word, first_slot, slot_at, with_cache, with_slot}
use Rattle.actor_world.specs.Moves.{group_of_call}
use Rattle.actor_world.specs.Words.{due_at, due_number}
use Rattle.actor_world.specs.Invariant.{first_key}
use Rattle.actor_world.proofs.Effects.{slots_stay}
use Rattle.actor_world.proofs.Locks.{changer_group, lock_of, maker_call_group, room_call_group}
use Rattle.actor_world.proofs.LiveWords.{Opened, has_inode}
use Rattle.actor_world.proofs.Looks.{group_other, inode_other, inode_same}
use Rattle.actor_world.proofs.Slots.{cache_other, live_has_slot, slot_other, slot_same}
use Rattle.actor_world.proofs.Turns.{HeldWord, Turn, changer_key, changes, copies, ends_flush, ends_reclaim, finds_none, finds_row, frees_head, frees_one, grow_refuses, grows, installs, installs_made, is_answered, kills, kills_head, leaves, locks_change, locks_flush, locks_reclaim, locks_short, maker_group, makes, makes_none, marks, next_none, next_row, passes, passes_last, pins, pins_locked, reads, refuses, retires, unpins}
use Rattle.actor_world.proofs.WordSteps.{changed_other}
use Rattle.actor_world.proofs.WordsStill.{WordFacts, grow_same, log_same, maker_same, refused_same}
use Rattle.actor_world.proofs.WordTurns.{table_after}

-- One hold more or less on the row of a live word that tells its holds, and one pin more or less on the word. A row that
-- awaits has no such word.
pub record Repins (t u : Table) (m memory : Memory) (made : Call) (key : Key) : Type 0 where
  pub old : Row
  pub new : Row
  pub was : inode_of t key.number ≡ Some (in_use key old)
  pub is : inode_of u key.number ≡ Some (in_use key new)
  pub links : new.links ≡ old.links
  pub live : (cached_word m key.number).live ≡ true
  pub generation : (cached_word m key.number).generation ≡ key.generation
  pub pins : (cached_word m key.number).pins ≡ old.opens
  pub slot : slot_at memory key.number ≡ record { word = record (cached_word m key.number) { pins = new.opens }; inode = (slot_at m key.number).inode }
  pub stays : Awaits old → ⊥
  pub by : (new.opens ≡ old.opens + 1) ⊎ ((new.opens ≡ old.opens - 1) × (made ≡ call.CloseKey key))

pub data Framed (t u : Table) (m memory : Memory) (made : Call) (n : ℕ) : Type 0 where
  Stays : inode_of u n ≡ inode_of t n → slot_at memory n ≡ slot_at m n → Framed t u m memory made n
  Repinned : (key : Key) → key.number ≡ n → Repins t u m memory made key → Framed t u m memory made n

-- ---- one hold more or less

pub inode_is : (t : Table) (key : Key) (row : Row) → row_of t key ≡ Some row → inode_of t key.number ≡ Some (in_use key row)
inode_is t key row at =
    let has = has_inode (inode_of t key.number) key.generation row at in
    has.at ∙ (λ i. Some (record { generation = has.life i; row = has.is i }))

changed_inode : (t : Table) (key : Key) (row : Row) (made : Call) → row_of t key ≡ Some row → inode_of (with_changed t key (row_of t key) made) key.number ≡ Some (in_use key (row_after t row made))
changed_inode t key row made at =
    ap (λ (o : Option Row). inode_of (with_changed t key o made) key.number) at
    ∙ inode_same t key.number (in_use key row) (in_use key (row_after t row made)) (inode_is t key row at)

open_frame : (t : Table) (m : Memory) (key : Key) → Opened t m key
    → Repins t (after_call t (call.OpenKey key) reply.Done) m (with_slot key.number (record { word = record (cached_word m key.number) { pins = (cached_word m key.number).pins + 1 }; inode = (slot_at m key.number).inode }) m) (call.OpenKey key) key
open_frame t m key o = record {
  old = o.row;
  new = row_after t o.row (call.OpenKey key);
  was = inode_is t key o.row o.row_is;
  is = changed_inode t key o.row (call.OpenKey key) o.row_is;
  links = refl;
  live = o.live;
  generation = o.generation;
  pins = o.pins;
  slot = slot_same m key.number _ (live_has_slot m key.number o.live) ∙ ap (λ n. record { word = record (cached_word m key.number) { pins = n + 1 }; inode = (slot_at m key.number).inode }) o.pins;
  stays = o.stays;
  by = inl refl;
}

close_frame : (t : Table) (m : Memory) (key : Key) → HeldWord t m key
    → Repins t (after_call t (call.CloseKey key) reply.Done) m (with_slot key.number (record { word = record (cached_word m key.number) { pins = (cached_word m key.number).pins - 1 }; inode = (slot_at m key.number).inode }) m) (call.CloseKey key) key
close_frame t m key o = record {
  old = o.row;
  new = row_after t o.row (call.CloseKey key);
  was = inode_is t key o.row o.row_is;
  is = changed_inode t key o.row (call.CloseKey key) o.row_is;
  links = refl;
  live = o.live;
  generation = o.generation;
  pins = o.pins;
  slot = slot_same m key.number _ (live_has_slot m key.number o.live) ∙ ap (λ n. record { word = record (cached_word m key.number) { pins = n - 1 }; inode = (slot_at m key.number).inode }) o.pins;
  stays = λ awaits. let none = awaits.1 in let some = o.some in omega (arith, none, some);
  by = inr (refl, refl);
}

-- ---- what is changed under the lock is apart

far : (number n : ℕ) (g : Option ℕ) → g ≡ Some (number / GROUP_NUMBERS) → (g ≡ Some (n / GROUP_NUMBERS) → ⊥) → n ≢ number
far number n g is apart same = apart (is ∙ ap (λ k. Some (k / GROUP_NUMBERS)) (sym same))

far_group : (h n : ℕ) (g : Option ℕ) → g ≡ Some h → (g ≡ Some (n / GROUP_NUMBERS) → ⊥) → n / GROUP_NUMBERS ≢ h
far_group h n g is apart same = apart (is ∙ ap (λ k. Some k) (sym same))

change_far : (t : Table) (made : Call) (key : Key) (n : ℕ) → changer_key made ≡ Some key → n ≢ key.number → inode_of (after_call t made reply.Done) n ≡ inode_of t n
change_far t (call.Link other) key n is apart = changed_other t other (row_of t other) (call.Link other) n (λ e. apart (e ∙ ap (λ (k : Key). k.number) (same_Some other key is)))
change_far t (call.Unlink other) key n is apart = changed_other t other (row_of t other) (call.Unlink other) n (λ e. apart (e ∙ ap (λ (k : Key). k.number) (same_Some other key is)))
change_far t (call.Cut other count) key n is apart = changed_other t other (row_of t other) (call.Cut other count) n (λ e. apart (e ∙ ap (λ (k : Key). k.number) (same_Some other key is)))
change_far t _ key n is apart = absurd (none-some key is)

prepare_far : (t : Table) (g n : ℕ) → n / GROUP_NUMBERS ≢ g → inode_of (prepare t g) n ≡ inode_of t n
unfolding inode_of
prepare_far t g n apart = ap (λ group. inode_in group (n % GROUP_NUMBERS)) (group_other t g (n / GROUP_NUMBERS) _ apart)

made_far : (t : Table) (m : Memory) (g : ℕ) (key : Key) (links n : ℕ) → WordFacts t m → IsNextKey t g key → IsTable (with_row (prepare t g) key (made_row links)) → n / GROUP_NUMBERS ≢ g
    → inode_of (with_row (prepare t g) key (made_row links)) n ≡ inode_of t n
made_far t m g key links n facts next ok apart =
    inode_other (prepare t g) key.number n _ (λ e. apart (ap (λ k. k / GROUP_NUMBERS) (sym e) ∙ (facts.made g key links next ok).group)) ∙ prepare_far t g n apart

make_far : (t : Table) (m : Memory) (made : Call) (g : ℕ) (key : Key) (n : ℕ) → WordFacts t m → maker_group made ≡ Some g → Permits t made (reply.Made key) → n / GROUP_NUMBERS ≢ g
    → inode_of (after_call t made (reply.Made key)) n ≡ inode_of t n
make_far t m (call.Create h) g key n facts is permits apart = made_far t m h key 1 n facts permits (facts.legal (call.Create h) (reply.Made key) permits) (λ e. apart (e ∙ same_Some h g is))
make_far t m (call.Tmpfile h) g key n facts is permits apart = made_far t m h key 0 n facts permits (facts.legal (call.Tmpfile h) (reply.Made key) permits) (λ e. apart (e ∙ same_Some h g is))
make_far t m _ g key n facts is permits apart = absurd (none-some g is)

pub made_number : (t : Table) (m : Memory) (made : Call) (g : ℕ) (key : Key) → WordFacts t m → maker_group made ≡ Some g → Permits t made (reply.Made key) → key.number / GROUP_NUMBERS ≡ g
made_number t m (call.Create h) g key facts is permits = (facts.made h key 1 permits (facts.legal (call.Create h) (reply.Made key) permits)).group ∙ same_Some h g is
made_number t m (call.Tmpfile h) g key facts is permits = (facts.made h key 0 permits (facts.legal (call.Tmpfile h) (reply.Made key) permits)).group ∙ same_Some h g is
made_number t m _ g key facts is permits = absurd (none-some g is)

cache_far : (m : Memory) (g n : ℕ) (cache : GroupCache) → n / GROUP_NUMBERS ≢ g → slot_at (with_cache g cache m) n ≡ slot_at m n
cache_far m g n cache apart = ap (λ (c : GroupCache). slice_index_or c.slots (n % GROUP_NUMBERS) first_slot) (cache_other m g (n / GROUP_NUMBERS) cache apart)

-- ---- each turn

at_number : (t : Table) (m : Memory) (made : Call) (event : Option Event) (memory : Memory) (number n : ℕ) → (number ≡ n → Framed t (table_after t event) m memory made n)
    → (n ≢ number → Framed t (table_after t event) m memory made n) → Framed t (table_after t event) m memory made n
at_number t m made event memory number n here there = elim (cases_eq n number) [ inl same ↦ here (sym same) | inr apart ↦ there apart ]

-- the group of what is due, and of what a reclaim looks at
pub record LockFacts (made : Call) (at : Place) (q : List Key) : Type 0 where
  pub due_here : (number : ℕ) → due_number (due_at (first_key q) made at) ≡ Some number → group_of_call q made ≡ Some (number / GROUP_NUMBERS)
  pub retire : (number : ℕ) (others : List ℕ) → at ≡ place.Retire number others → group_of_call q made ≡ Some (number / GROUP_NUMBERS)

pub framed : {t : Table} {m : Memory} {a : ℕ} {made : Call} {at : Place} {q later : List Key} {event : Option Event} {next : Option Place} {memory : Memory}
    → WordFacts t m → LockFacts made at q → Turn t m a made at q event next later memory → (n : ℕ) → (lock_of (Some at) made q ≡ Some (n / GROUP_NUMBERS) → ⊥)
    → Framed t (table_after t event) m memory made n
framed {t = t} {m = m} {made = made} {event = event} {memory = memory} facts locks (pins key seen o) n apart = at_number t m (call.OpenKey key) event memory key.number n
    (λ same. Repinned key same (open_frame t m key o)) (λ differ. Stays (changed_other t key (row_of t key) (call.OpenKey key) n differ) (slot_other m key.number n _ differ))
framed {t = t} {m = m} {made = made} {event = event} {memory = memory} facts locks (unpins key o) n apart = at_number t m (call.CloseKey key) event memory key.number n
    (λ same. Repinned key same (close_frame t m key o)) (λ differ. Stays (changed_other t key (row_of t key) (call.CloseKey key) n differ) (slot_other m key.number n _ differ))
framed {t = t} {m = m} facts locks (pins_locked key seen o) n apart =
    let differ = far key.number n _ refl apart in Stays (changed_other t key (row_of t key) (call.OpenKey key) n differ) (slot_other m key.number n _ differ)
framed {t = t} {m = m} facts locks (installs key dead has) n apart =
    let differ = far key.number n _ refl apart in Stays (changed_other t key (row_of t key) (call.OpenKey key) n differ) (slot_other m key.number n _ differ)
framed {t = t} {m = m} {q = q} facts locks (changes made key is permits) n apart =
    let differ = far key.number n _ (changer_group made key q is) apart in Stays (change_far t made key n is differ) (slot_other m key.number n _ differ)
framed {m = m} {q = q} facts locks (marks made key row answer is due) n apart = Stays refl (slot_other m key.number n _ (far key.number n _ (changer_group made key q is) apart))
framed {t = t} {m = m} {q = q} facts locks (frees_one made g key others is group awaits) n apart =
    let differ = far key.number n _ (room_call_group made g q is ∙ ap (λ k. Some k) (sym group)) apart in Stays (inode_other t key.number n _ (λ e. differ (sym e))) (slot_other m key.number n _ differ)
framed {m = m} facts locks (kills made g key others is due) n apart = Stays refl (slot_other m key.number n _ (far key.number n _ (locks.due_here key.number refl) apart))
framed {t = t} {m = m} facts locks (grows key count permits) n apart =
    let differ = far key.number n _ refl apart in Stays (changed_other t key (row_of t key) (call.Grow key count) n differ) (slot_other m key.number n _ differ)
framed {t = t} {m = m} {q = q} facts locks (makes made g key is permits) n apart =
    let differ = far_group g n _ (maker_call_group made g q is) apart in
    Stays (make_far t m made g key n facts is permits differ) (slot_other m key.number n _ (λ e. differ (ap (λ k. k / GROUP_NUMBERS) e ∙ made_number t m made g key facts is permits)))
framed {m = m} facts locks (installs_made made g key row is due) n apart = Stays refl (slot_other m key.number n _ (far key.number n _ (locks.due_here key.number refl) apart))
framed {t = t} {m = m} facts locks (frees_head key keys awaits) n apart =
    let differ = far key.number n _ refl apart in Stays (inode_other t key.number n _ (λ e. differ (sym e))) (slot_other m key.number n _ differ)
framed {m = m} facts locks (kills_head key keys due) n apart = Stays refl (slot_other m key.number n _ (far key.number n _ refl apart))
framed {m = m} facts locks (retires g number others idle) n apart = Stays refl (slot_other m number n _ (far number n _ (locks.retire number others refl) apart))
framed {m = m} facts locks (copies g) n apart = Stays refl (cache_far m g n _ (far_group g n _ refl apart))
framed {m = m} {a = a} facts locks (finds_none key can is) n apart = Stays refl (slots_stay m (group_number key) (Some a) n)
framed {m = m} {a = a} facts locks (finds_row key row can is) n apart = Stays refl (slots_stay m (group_number key) (Some a) n)
framed {m = m} {a = a} facts locks (reads key answer can permits) n apart = Stays refl (slots_stay m (group_number key) (Some a) n)
framed {m = m} {a = a} facts locks (locks_change made key is can) n apart = Stays refl (slots_stay m (group_number key) (Some a) n)
framed {m = m} {a = a} facts locks (locks_short made g is can) n apart = Stays refl (slots_stay m g (Some a) n)
framed {m = m} {a = a} facts locks (next_none key keys can is) n apart = Stays refl (slots_stay m (group_number key) (Some a) n)
framed {m = m} {a = a} facts locks (next_row key keys row can is) n apart = Stays refl (slots_stay m (group_number key) (Some a) n)
framed {m = m} {a = a} facts locks (locks_flush g can) n apart = Stays refl (slots_stay m g (Some a) n)
framed {m = m} {a = a} facts locks (locks_reclaim g can) n apart = Stays refl (slots_stay m g (Some a) n)
framed {m = m} facts locks (leaves made answer g is) n apart = Stays refl (slots_stay m g None n)
framed {m = m} facts locks (passes_last key) n apart = Stays refl (slots_stay m (group_number key) None n)
framed {m = m} facts locks (passes key next keys) n apart = Stays refl (slots_stay m (group_number key) None n)
framed {m = m} facts locks (ends_flush g) n apart = Stays refl (slots_stay m g None n)
framed {m = m} facts locks (ends_reclaim g) n apart = Stays refl (slots_stay m g None n)
framed {t = t} facts locks (refuses made key answer is permits none) n apart = Stays (ap (λ u. inode_of u n) (refused_same t made key answer is none)) refl
framed {t = t} facts locks (grow_refuses key count answer permits none) n apart = Stays (ap (λ u. inode_of u n) (grow_same t key count answer none)) refl
framed {t = t} facts locks (makes_none made g is permits) n apart = Stays (ap (λ u. inode_of u n) (maker_same t made g is)) refl
framed {t = t} facts locks (is_answered made at answer is stands permits) n apart = Stays (ap (λ u. inode_of u n) (log_same t made answer is)) refl
framed facts locks _ n apart = Stays refl refl
