-- A step leaves each lock of a group with the actor whose place lies in it.
use Rattle.std.proofs.Common.{◌≡◌, ◌≢◌, ◌<◌, inl, inr, ℕ, Bool, true, false, List, [], ◌∷◌, Option, None, Some, if◌then◌else◌, length, refl, sym, ap, subst, ◌∙◌}
use Rattle.std.specs.Prelude.{◌↔◌}
use Rattle.std.proofs.lemmas.Option.{none-some, same_Some}
use Rattle.std.proofs.lemmas.Bool.{cases_eq, cases_lt, false≢true}
use Rattle.life_table.specs.declared.key.Key.{Key}
use Rattle.life_table.specs.declared.types.Call.{Call}
use Rattle.life_table.specs.declared.types.Call.TheVariants as call
use Rattle.life_table.specs.declared.types.Reply.{Reply}
use Rattle.life_table.specs.declared.types.Event.{Event}
use Rattle.life_table.specs.declared.table.Table.{Table}
use Rattle.life_table.specs.Table.{group_number}
use Rattle.actor_world.specs.declared.memory.Place.{Place}
use Rattle.actor_world.specs.declared.memory.Place.TheVariants as place
use Rattle.actor_world.specs.declared.memory.Actor.{Actor}
use Rattle.actor_world.specs.declared.memory.GroupCache.{GroupCache}
use Rattle.actor_world.specs.declared.memory.Memory.{Memory}
use Rattle.actor_world.specs.Caches.{actor_at, cache_at, idle_actor, locked, unlocked, with_actor, with_cache}
use Rattle.actor_world.specs.Moves.{group_of_call, is_mark_due, lies_in_group, place_after_change, stands_at, with_inodes, with_rows_to_free, is_log_call}
use Rattle.actor_world.specs.Invariant.{LiesInGroup}
use Rattle.actor_world.proofs.Lists.{read_other, read_same}
use Rattle.actor_world.proofs.Slots.{cache_other, cache_past, cache_same, holder_slot, with_cache_past}
use Rattle.actor_world.proofs.Turns.{CanLock, Turn, after_turn, changer_key, changes, copies, ends_flush, ends_reclaim, finds_none, finds_row, frees_head, frees_one, goes_on, grows, installs, installs_made, is_answered, kills, kills_head, leaves, locks_change, locks_flush, locks_reclaim, locks_short, maker_group, makes, marks, next_none, next_row, passes, passes_last, pins, pins_locked, reads, retires, retires_none, room_group, unpins}

-- ---- which lock a call at a place holds

abbrev pub lock_in : Bool → Option ℕ → Option ℕ
lock_in true g = g
lock_in false g = None

abbrev pub lock_of : Option Place → Call → List Key → Option ℕ
lock_of None made q = None
lock_of (Some at) made q = lock_in (lies_in_group at) (group_of_call q made)

pub changer_group : (made : Call) (key : Key) (q : List Key) → changer_key made ≡ Some key → group_of_call q made ≡ Some (group_number key)
changer_group (call.Link other) key q is = ap (λ k. Some (group_number k)) (same_Some other key is)
changer_group (call.Unlink other) key q is = ap (λ k. Some (group_number k)) (same_Some other key is)
changer_group (call.Cut other count) key q is = ap (λ k. Some (group_number k)) (same_Some other key is)
changer_group _ key q is = absurd (none-some key is)

pub room_call_group : (made : Call) (g : ℕ) (q : List Key) → room_group made ≡ Some g → group_of_call q made ≡ Some g
room_call_group (call.Create other) g q is = is
room_call_group (call.Tmpfile other) g q is = is
room_call_group (call.Grow key count) g q is = is
room_call_group _ g q is = absurd (none-some g is)

pub maker_call_group : (made : Call) (g : ℕ) (q : List Key) → maker_group made ≡ Some g → group_of_call q made ≡ Some g
maker_call_group (call.Create other) g q is = is
maker_call_group (call.Tmpfile other) g q is = is
maker_call_group _ g q is = absurd (none-some g is)

rows_lie : (keys : List Key) → lies_in_group (with_rows_to_free keys) ≡ true
rows_lie [] = refl
rows_lie (key ∷ keys) = refl

inodes_lie : (numbers : List ℕ) → lies_in_group (with_inodes numbers) ≡ true
inodes_lie [] = refl
inodes_lie (number ∷ numbers) = refl

change_lies : (made : Call) (answer : Reply) (links : ℕ) → lies_in_group (place_after_change made answer links) ≡ true
change_lies made answer links = elim (is_mark_due made answer links) as (λ b. lies_in_group (if b then place.Mark answer else place.Leave answer) ≡ true) [ true ↦ refl | false ↦ refl ]

-- no place of a sync or a home lies in a lock of a group
sync_lies : (at : Place) → stands_at call.Sync at ≡ true → lies_in_group at ≡ false
sync_lies place.Take stands = refl
sync_lies place.Force stands = refl
sync_lies _ stands = absurd (false≢true stands)

home_lies : (at : Place) → stands_at call.Home at ≡ true → lies_in_group at ≡ false
home_lies place.TakeLog stands = refl
home_lies place.WriteHome stands = refl
home_lies _ stands = absurd (false≢true stands)

pub log_lies : (made : Call) (at : Place) → is_log_call made ≡ true → stands_at made at ≡ true → lies_in_group at ≡ false
log_lies call.Sync at log stands = sync_lies at stands
log_lies call.Home at log stands = home_lies at stands
log_lies _ at log stands = absurd (false≢true log)

-- ---- holders

pub holder_same : (m : Memory) (g h : ℕ) (cache : GroupCache) → cache.holder ≡ (cache_at m g).holder → (cache_at (with_cache g cache m) h).holder ≡ (cache_at m h).holder
holder_same m g h cache same =
    elim (cases_eq h g) [
      | inl here ↦ elim (cases_lt g (length m.groups)) [
        | inl low ↦ ap (λ n. (cache_at (with_cache g cache m) n).holder) here ∙ ap (λ (c : GroupCache). c.holder) (cache_same m g cache low) ∙ same ∙ ap (λ n. (cache_at m n).holder) (sym here)
        | inr high ↦ ap (λ (n : Memory). (cache_at n h).holder) (with_cache_past m g cache high)
      ]
      | inr differ ↦ ap (λ (c : GroupCache). c.holder) (cache_other m g h cache differ)
    ]

-- What a turn of an actor does to locks: nothing; or it takes one, holding none; or it gives back the one that it holds.
pub data LockTurn (m : Memory) (a : ℕ) (old new : Option ℕ) : Memory → Type 0 where
  Keeps : {memory : Memory} → old ≡ new → ((h : ℕ) → (cache_at memory h).holder ≡ (cache_at m h).holder) → LockTurn m a old new memory
  Takes : (g : ℕ) → CanLock m g → old ≡ None → new ≡ Some g → LockTurn m a old new (locked a g m)
  Gives : (g : ℕ) → old ≡ Some g → new ≡ None → LockTurn m a old new (unlocked g m)

lock_kept : (b : Bool) (g h : Option ℕ) → b ≡ true → g ≡ h → h ≡ lock_in b g
lock_kept b g h lies same = sym same ∙ sym (ap (λ c. lock_in c g) lies)

lock_none : (b : Bool) (g : Option ℕ) → b ≡ false → lock_in b g ≡ None
lock_none b g lies = ap (λ c. lock_in c g) lies

lock_some : (b : Bool) (g : Option ℕ) (h : ℕ) → b ≡ true → g ≡ Some h → lock_in b g ≡ Some h
lock_some b g h lies is = ap (λ c. lock_in c g) lies ∙ is

pub lock_turn : {t : Table} {m : Memory} {a : ℕ} {made : Call} {at : Place} {q later : List Key} {event : Option Event} {next : Option Place} {memory : Memory}
    → Turn t m a made at q event next later memory → LockTurn m a (lock_of (Some at) made q) (lock_of next made later) memory
lock_turn (finds_none key can is) = Takes (group_number key) can refl refl
lock_turn (finds_row key row can is) = Takes (group_number key) can refl refl
lock_turn (reads key answer can permits) = Takes (group_number key) can refl refl
lock_turn {q = q} (locks_change made key is can) = Takes (group_number key) can refl (changer_group made key q is)
lock_turn {t = t} {q = q} (locks_short made g is can) = Takes g can refl (lock_some _ _ g (rows_lie _) (room_call_group made g q is))
lock_turn (next_none key keys can is) = Takes (group_number key) can refl refl
lock_turn (next_row key keys row can is) = Takes (group_number key) can refl refl
lock_turn (locks_flush g can) = Takes g can refl refl
lock_turn (locks_reclaim g can) = Takes g can refl (lock_some _ _ g (inodes_lie _) refl)
lock_turn (leaves made answer g is) = Gives g is refl
lock_turn (passes_last key) = Gives (group_number key) refl refl
lock_turn (passes key next keys) = Gives (group_number key) refl refl
lock_turn (ends_flush g) = Gives g refl refl
lock_turn (ends_reclaim g) = Gives g refl refl
lock_turn {m = m} (pins key seen opened) = Keeps refl (λ h. holder_slot m key.number h _)
lock_turn {m = m} (pins_locked key seen opened) = Keeps refl (λ h. holder_slot m key.number h _)
lock_turn {m = m} (installs key dead has) = Keeps refl (λ h. holder_slot m key.number h _)
lock_turn {m = m} (unpins key held) = Keeps refl (λ h. holder_slot m key.number h _)
lock_turn {m = m} (marks made key row answer is due) = Keeps refl (λ h. holder_slot m key.number h _)
lock_turn {m = m} (installs_made made g key row is due) = Keeps refl (λ h. holder_slot m key.number h _)
lock_turn {t = t} {m = m} {q = q} (changes made key is permits) = Keeps (lock_kept _ _ _ (change_lies made _ _) refl) (λ h. holder_slot m key.number h _)
lock_turn {m = m} (frees_one made g key others is group awaits) = Keeps refl (λ h. holder_slot m key.number h _)
lock_turn {m = m} (grows key count permits) = Keeps refl (λ h. holder_slot m key.number h _)
lock_turn {m = m} (makes made g key is permits) = Keeps refl (λ h. holder_slot m key.number h _)
lock_turn {m = m} (frees_head key keys awaits) = Keeps refl (λ h. holder_slot m key.number h _)
lock_turn {m = m} (kills made g key others is due) = Keeps (lock_kept _ _ _ (rows_lie others) refl) (λ h. holder_slot m key.number h _)
lock_turn {m = m} (kills_head key keys due) = Keeps refl (λ h. holder_slot m key.number h _)
lock_turn {m = m} (retires g number others idle) = Keeps (lock_kept _ _ _ (inodes_lie others) refl) (λ h. holder_slot m number h _)
lock_turn (retires_none g number others busy) = Keeps (lock_kept _ _ _ (inodes_lie others) refl) (λ h. refl)
lock_turn {m = m} (copies g) = Keeps refl (λ h. holder_same m g h _ refl)
lock_turn {q = q} (goes_on made at next is stands stands_next) = Keeps (lock_none _ _ (log_lies made at is stands) ∙ sym (lock_none _ _ (log_lies made next is stands_next))) (λ h. refl)
lock_turn {q = q} (is_answered made at answer is stands permits) = Keeps (lock_none _ _ (log_lies made at is stands)) (λ h. refl)
lock_turn _ = Keeps refl (λ h. refl)

-- ---- the invariant's locks

-- an actor lies in the lock that it holds
lies_from : (g : ℕ) (at : Option Place) (made : Call) (begin : ℕ) (q : List Key) → LiesInGroup g (after_turn made begin at q) → lock_of at made q ≡ Some g
lies_from g None made begin q lies = absurd lies
lies_from g (Some at) made begin q lies = lock_some (lies_in_group at) (group_of_call q made) g lies.0 lies.1

pub lies_to : (g : ℕ) (at : Option Place) (made : Call) (begin : ℕ) (q : List Key) → lock_of at made q ≡ Some g → LiesInGroup g (after_turn made begin at q)
lies_to g None made begin q is = absurd (none-some g is)
lies_to g (Some at) made begin q is =
    elim (lies_in_group at) as (λ b. lock_in b (group_of_call q made) ≡ Some g → (b ≡ true) × (group_of_call q made ≡ Some g)) [
      | true ↦ λ is. (refl, is)
      | false ↦ λ is. absurd (none-some g is)
    ] is

-- the holder of a lock after a turn of an actor: for the actor itself and for the others
own_lock : (m : Memory) (a : ℕ) (old new : Option ℕ) (memory : Memory) → LockTurn m a old new memory → ((g : ℕ) → (cache_at m g).holder ≡ Some a ↔ (old ≡ Some g))
    → (g : ℕ) → (cache_at memory g).holder ≡ Some a ↔ (new ≡ Some g)
own_lock m a old new memory (Keeps is holders) before g =
    (λ holds. sym is ∙ (before g).0 (sym (holders g) ∙ holds), λ lies. holders g ∙ (before g).1 (is ∙ lies))
own_lock m a old new _ (Takes h can was is) before g =
    elim (cases_eq g h) [
      | inl here ↦ (λ holds. is ∙ ap (λ n. Some n) (sym here), λ lies. ap (λ n. (cache_at (locked a h m) n).holder) here ∙ ap (λ (c : GroupCache). c.holder) (cache_same m h _ can.there))
      | inr differ ↦ (
        λ holds. absurd (none-some g (sym was ∙ (before g).0 (sym (ap (λ (c : GroupCache). c.holder) (cache_other m h g _ differ)) ∙ holds))),
        λ lies. absurd (differ (same_Some g h (sym lies ∙ is))),
      )
    ]
own_lock m a old new _ (Gives h was is) before g =
    elim (cases_eq g h) [
      | inl here ↦ (
        λ holds. elim (cases_lt h (length m.groups)) [
          | inl low ↦ absurd (none-some a (sym (ap (λ n. (cache_at (unlocked h m) n).holder) here ∙ ap (λ (c : GroupCache). c.holder) (cache_same m h _ low)) ∙ holds))
          | inr high ↦ absurd (none-some a (sym (ap (λ (c : GroupCache). c.holder) (cache_past m h high)) ∙ (before h).1 was))
        ],
        λ lies. absurd (none-some g (sym is ∙ lies)),
      )
      | inr differ ↦ (
        λ holds. absurd (differ (same_Some g h (sym ((before g).0 (sym (ap (λ (c : GroupCache). c.holder) (cache_other m h g _ differ)) ∙ holds)) ∙ was))),
        λ lies. absurd (none-some g (sym is ∙ lies)),
      )
    ]

-- whether another holds a lock stays
other_lock : (m : Memory) (a b : ℕ) (old new : Option ℕ) (memory : Memory) → LockTurn m a old new memory → ((g : ℕ) → (cache_at m g).holder ≡ Some a ↔ (old ≡ Some g)) → b ≢ a
    → (g : ℕ) → (cache_at memory g).holder ≡ Some b ↔ (cache_at m g).holder ≡ Some b
other_lock m a b old new memory (Keeps is holders) before apart g = (λ holds. sym (holders g) ∙ holds, λ holds. holders g ∙ holds)
other_lock m a b old new _ (Takes h can was is) before apart g =
    elim (cases_eq g h) [
      | inl here ↦ (
        λ holds. absurd (apart (same_Some b a (sym holds ∙ (ap (λ n. (cache_at (locked a h m) n).holder) here ∙ ap (λ (c : GroupCache). c.holder) (cache_same m h _ can.there))))),
        λ holds. absurd (none-some b (sym (ap (λ n. (cache_at m n).holder) here ∙ can.free) ∙ holds)),
      )
      | inr differ ↦ let there = ap (λ (c : GroupCache). c.holder) (cache_other m h g _ differ) in (λ holds. sym there ∙ holds, λ holds. there ∙ holds)
    ]
other_lock m a b old new _ (Gives h was is) before apart g =
    elim (cases_eq g h) [
      | inl here ↦
          let held : (cache_at m h).holder ≡ Some a = (before h).1 was in (
            λ holds. elim (cases_lt h (length m.groups)) [
              | inl low ↦ absurd (none-some b (sym (ap (λ n. (cache_at (unlocked h m) n).holder) here ∙ ap (λ (c : GroupCache). c.holder) (cache_same m h _ low)) ∙ holds))
              | inr high ↦ absurd (none-some a (sym (ap (λ (c : GroupCache). c.holder) (cache_past m h high)) ∙ held))
            ],
            λ holds. absurd (apart (same_Some b a (sym holds ∙ ap (λ n. (cache_at m n).holder) here ∙ held))),
          )
      | inr differ ↦ let there = ap (λ (c : GroupCache). c.holder) (cache_other m h g _ differ) in (λ holds. sym there ∙ holds, λ holds. there ∙ holds)
    ]

pub locks_kept : (m : Memory) (a : ℕ) (made : Call) (at : Place) (begin : ℕ) (q later : List Key) (next : Option Place) (memory : Memory)
    → ((g b : ℕ) → (cache_at m g).holder ≡ Some b ↔ LiesInGroup g (actor_at m b)) → actor_at m a ≡ after_turn made begin (Some at) q → a < length memory.actors → memory.actors ≡ m.actors
    → LockTurn m a (lock_of (Some at) made q) (lock_of next made later) memory
    → (g b : ℕ) → (cache_at (with_actor a (after_turn made begin next later) memory) g).holder ≡ Some b ↔ LiesInGroup g (actor_at (with_actor a (after_turn made begin next later) memory) b)
locks_kept m a made at begin q later next memory locks actor_is low actors turn g b =
    let before : (h : ℕ) → (cache_at m h).holder ≡ Some a ↔ (lock_of (Some at) made q ≡ Some h) = λ h. (
      λ holds. lies_from h (Some at) made begin q (subst (LiesInGroup h) actor_is ((locks h a).0 holds)),
      λ lies. (locks h a).1 (subst (LiesInGroup h) (sym actor_is) (lies_to h (Some at) made begin q lies)),
    ) in
    elim (cases_eq b a) [
      | inl here ↦
          let own = own_lock m a (lock_of (Some at) made q) (lock_of next made later) memory turn before g in
          let there : actor_at (with_actor a (after_turn made begin next later) memory) b ≡ after_turn made begin next later =
          ap (λ n. actor_at (with_actor a (after_turn made begin next later) memory) n) here ∙ read_same memory.actors a (after_turn made begin next later) idle_actor low in (
            λ holds. subst (LiesInGroup g) (sym there) (lies_to g next made begin later (own.0 (holds ∙ ap (λ n. Some n) here))),
            λ lies. own.1 (lies_from g next made begin later (subst (LiesInGroup g) there lies)) ∙ ap (λ n. Some n) (sym here),
          )
      | inr apart ↦
          let other = other_lock m a b (lock_of (Some at) made q) (lock_of next made later) memory turn before apart g in
          let there : actor_at (with_actor a (after_turn made begin next later) memory) b ≡ actor_at m b =
          read_other memory.actors a b (after_turn made begin next later) idle_actor apart ∙ ap (λ (xs : List Actor). actor_at (record { actors = xs; groups = m.groups }) b) actors in (
            λ holds. subst (LiesInGroup g) (sym there) ((locks g b).0 (other.0 holds)),
            λ lies. other.1 ((locks g b).1 (subst (LiesInGroup g) there lies)),
          )
    ]
