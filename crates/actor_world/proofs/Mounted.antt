-- A world as a mount gives it meets the invariant.
use Rattle.std.proofs.Common.{◌≡◌, ◌↔◌, ◌<◌, ◌≤◌, ◌+◌, ◌*◌, ◌/◌, ◌%◌, ◌==◌, inr, refl, sym, ap, ◌∙◌, subst, ℕ, zero, suc, Bool, true, false, List, [], ◌∷◌, ◌++◌, Option, None, Some, IfSome, if◌then◌else◌, nat_eq, length, take, replicate, slice_get, slice_index_or, arith}
use Rattle.std.specs.List.{AllByRecursion}
use Rattle.std.proofs.lemmas.List.{length-replicate}
use Rattle.std.proofs.lemmas.Option.{none-some, same_Some}
use Rattle.life_limits.specs.declared.TheConstants.{BLOCK_SECTORS, GROUP_NUMBERS, MAX_ACTORS}
use Rattle.log_store.specs.State.{state_of}
use Rattle.life_table.specs.declared.key.Key.{Key}
use Rattle.life_table.specs.declared.types.Row.{Row}
use Rattle.life_table.specs.declared.types.Call.{Call}
use Rattle.life_table.specs.declared.types.Reply.{Reply}
use Rattle.life_table.specs.declared.types.Event.{Event}
use Rattle.life_table.specs.declared.types.Event.TheVariants.{Called, Freed}
use Rattle.life_table.specs.declared.types.Entry.{Entry}
use Rattle.life_table.specs.declared.table.Inode.{Inode}
use Rattle.life_table.specs.declared.table.Table.{Table}
use Rattle.life_table.specs.Table.{inode_of, row_in_life, row_of}
use Rattle.life_table.specs.History.{AreByHolders, after_event, closed, closed_row, frees_of, recovered}
use Rattle.actor_world.specs.declared.memory.Actor.{Actor}
use Rattle.actor_world.specs.declared.memory.Slot.{Slot}
use Rattle.actor_world.specs.declared.memory.GroupCache.{GroupCache}
use Rattle.actor_world.specs.Caches.{cache_at, cached_word, first_slot, idle_actor, no_cache}
use Rattle.actor_world.specs.World.{World}
use Rattle.actor_world.specs.Steps.{Telling}
use Rattle.actor_world.specs.Words.{DeadSays, any_row, says}
use Rattle.actor_world.specs.Licence.{queue_from, refused_group}
use Rattle.actor_world.specs.Invariant.{ActorIsRight, Invariant, JobOfHolder, LiesInGroup, LiesInLog}
use Rattle.actor_world.specs.Mounted.{IsDead, IsUncached, IsMounted, own_places}

-- ---- what happened are frees

freed_at : (actor : ℕ) (keys : List Key) (i : ℕ) (entry : Entry) → slice_get (frees_of actor keys) i ≡ Some entry → (key : Key) × (entry ≡ record { actor = actor; event = Freed key })
freed_at actor [] i entry at = absurd (none-some entry at)
freed_at actor (key ∷ keys) zero entry at = (key, sym (same_Some _ entry at))
freed_at actor (key ∷ keys) (suc i) entry at = freed_at actor keys i entry at

OnlyFreed : Event → Type 0
OnlyFreed (Called made answer) = ⊥
OnlyFreed (Freed key) = Unit {0}

no_answer : (actor : ℕ) (keys : List Key) (i a : ℕ) (made : Call) (answer : Reply) → slice_get (frees_of actor keys) i ≡ Some (record { actor = a; event = Called made answer }) → ⊥
unfolding OnlyFreed
no_answer actor keys i a made answer at =
    let is = freed_at actor keys i (record { actor = a; event = Called made answer }) at in
    subst OnlyFreed (sym (ap (λ (e : Entry). e.event) is.1)) tt

by_recovery : (keys : List Key) (i a : ℕ) (key : Key) → a < MAX_ACTORS → slice_get (frees_of MAX_ACTORS keys) i ≡ Some (record { actor = a; event = Freed key }) → ⊥
by_recovery keys i a key below at =
    let is = freed_at MAX_ACTORS keys i (record { actor = a; event = Freed key }) at in
    let same : a ≡ MAX_ACTORS = ap (λ (e : Entry). e.actor) is.1 in
    omega (arith, below, same)

never_refused : (keys : List Key) (i g : ℕ) (entry : Entry) → slice_get (frees_of MAX_ACTORS keys) i ≡ Some entry → refused_group entry.event ≡ Some g → ⊥
never_refused keys i g entry at refused =
    let is = freed_at MAX_ACTORS keys i entry at in
    none-some g (sym (ap (λ (e : Entry). refused_group e.event) is.1) ∙ refused)

held_all : (actor : ℕ) (before : List Entry) (keys : List Key) → AreByHolders before (frees_of actor keys)
held_all actor before [] = tt
held_all actor before (key ∷ keys) = (tt, held_all actor (before ++ record { actor = actor; event = Freed key } ∷ []) keys)

if_same : (b : Bool) (xs : List Key) → (if b then xs else xs) ≡ xs
if_same true xs = refl
if_same false xs = refl

nothing_waits : (t : Table) (actor a : ℕ) (keys : List Key) (n : ℕ) → queue_from t (take n (frees_of actor keys)) a [] ≡ []
nothing_waits t actor a [] zero = refl
nothing_waits t actor a [] (suc n) = refl
nothing_waits t actor a (key ∷ keys) zero = refl
nothing_waits t actor a (key ∷ keys) (suc n) =
    ap (λ waiting. queue_from (after_event t (Freed key)) (take n (frees_of actor keys)) a waiting) (if_same (actor == a) [])
    ∙ nothing_waits (after_event t (Freed key)) actor a keys n

-- ---- each entry has its own place

places-length : (actor n : ℕ) (keys : List Key) → length (own_places n keys) ≡ length (frees_of actor keys)
places-length actor n [] = refl
places-length actor n (key ∷ keys) = ap (λ k. suc k) (places-length actor (n + 1) keys)

own : (n : ℕ) (keys : List Key) (i begin : ℕ) → slice_get (own_places n keys) i ≡ Some begin → begin ≤ n + i
own n [] i begin at = absurd (none-some begin at)
own n (key ∷ keys) zero begin at = let same : n ≡ begin = same_Some n begin at in omega (arith, same)
own n (key ∷ keys) (suc i) begin at = let below : begin ≤ n + 1 + i = own (n + 1) keys i begin at in omega (arith, below)

-- ---- caches

same_everywhere : (n i : ℕ) (actor : Actor) → slice_index_or (replicate n actor) i actor ≡ actor
same_everywhere zero i actor = refl
same_everywhere (suc n) zero actor = refl
same_everywhere (suc n) (suc i) actor = same_everywhere n i actor

dead_in : (slots : List Slot) → AllByRecursion IsDead slots → (i : ℕ) → (slice_index_or slots i first_slot).word.live ≡ false
dead_in [] all i = refl
dead_in (slot ∷ slots) all zero = all.0
dead_in (slot ∷ slots) all (suc i) = dead_in slots all.1 i

dead_at : (blocks : ℕ) (groups : List GroupCache) → AllByRecursion (IsUncached blocks) groups → (g i : ℕ)
    → (slice_index_or (slice_index_or groups g no_cache).slots i first_slot).word.live ≡ false
dead_at blocks [] all g i = refl
dead_at blocks (cache ∷ groups) all zero i = dead_in cache.slots all.0.words i
dead_at blocks (cache ∷ groups) all (suc g) i = dead_at blocks groups all.1 g i

free_at : (blocks : ℕ) (groups : List GroupCache) → AllByRecursion (IsUncached blocks) groups → (g : ℕ) → (slice_index_or groups g no_cache).holder ≡ None
free_at blocks [] all g = refl
free_at blocks (cache ∷ groups) all zero = all.0.holder
free_at blocks (cache ∷ groups) all (suc g) = free_at blocks groups all.1 g

long_all : (blocks : ℕ) (groups : List GroupCache) → AllByRecursion (IsUncached blocks) groups → AllByRecursion (λ (cache : GroupCache). length cache.slots ≡ blocks * BLOCK_SECTORS) groups
long_all blocks [] all = tt
long_all blocks (cache ∷ groups) all = (all.0.slots, long_all blocks groups all.1)

OnlyTrue : Bool → Type 0
OnlyTrue true = Unit {0}
OnlyTrue false = ⊥

not_both : (b : Bool) → b ≡ true → b ≡ false → ⊥
unfolding OnlyTrue
not_both b is is_not = subst OnlyTrue (sym is ∙ is_not) tt

-- ---- rows

same_as_itself : (n : ℕ) → nat_eq n n ≡ true
same_as_itself n = grind arith

row_from : (o : Option Inode) (row : Row) → any_row o ≡ Some row → (g : ℕ) × (row_in_life g o ≡ Some row)
row_from None row at = absurd (none-some row at)
row_from (Some inode) row at = (inode.generation, ap (λ b. if b then inode.row else None) (same_as_itself inode.generation) ∙ at)

-- The laws of the model that are used: recovery leaves no row without links, and a table without holds has none.
abbrev pub NoneLeft : Type 0
NoneLeft = (t : Table) (key : Key) (row : Row) → row_of (recovered t) key ≡ Some row → 1 ≤ row.links

abbrev pub ClosedRows : Type 0
ClosedRows = (t : Table) (key : Key) → row_of (closed t) key ≡ closed_row (row_of t key)

no_opens : ClosedRows → (t : Table) (key : Key) (row : Row) → closed t ≡ t → row_of t key ≡ Some row → row.opens ≡ 0
no_opens rows t key row no_holds at =
    ap (λ (r : Row). r.opens) (same_Some row (record { links = row.links; blocks = row.blocks; opens = 0 }) (sym at ∙ ap (λ u. row_of u key) (sym no_holds) ∙ rows t key ∙ ap closed_row at))

quiet : NoneLeft → ClosedRows → (t start : Table) (number : ℕ) (o : Option Row) → any_row (inode_of t number) ≡ o → t ≡ recovered start → closed t ≡ t → IfSome o DeadSays
quiet none rows t start number None is new no_holds = tt
quiet none rows t start number (Some row) is new no_holds =
    let has = row_from (inode_of t number) row is in
    record {
      links = none start (record { number = number; generation = has.0 }) row (ap (λ u. row_of u (record { number = number; generation = has.0 })) (sym new) ∙ has.1);
      opens = no_opens rows t (record { number = number; generation = has.0 }) row no_holds has.1;
    }

-- ---- the invariant

no_lock : (g a : ℕ) (holder : Option ℕ) (actor : Actor) → holder ≡ None → actor ≡ idle_actor → (holder ≡ Some a) ↔ LiesInGroup g actor
no_lock g a holder actor free idle = (λ at. absurd (none-some a (sym free ∙ at)), λ lies. absurd (subst (LiesInGroup g) idle lies))

no_log_lock : (a : ℕ) (holder : Option ℕ) (actor : Actor) → holder ≡ None → actor ≡ idle_actor → (holder ≡ Some a) ↔ LiesInLog actor
no_log_lock a holder actor free idle = (λ at. absurd (none-some a (sym free ∙ at)), λ lies. absurd (subst LiesInLog idle lies))

pub mounted_is_right : NoneLeft → ClosedRows → {D : Type 0} (tells : Telling) (start : Table) (w : World D) → IsMounted tells start w → Invariant tells start w
mounted_is_right none rows tells start w m =
    let idle : (a : ℕ) → slice_index_or w.memory.actors a idle_actor ≡ idle_actor =
    λ a. ap (λ (actors : List Actor). slice_index_or actors a idle_actor) m.actors ∙ same_everywhere MAX_ACTORS a idle_actor in
    let entry_at : (i : ℕ) (entry : Entry) → slice_get w.history.entries i ≡ Some entry → slice_get (frees_of MAX_ACTORS m.keys) i ≡ Some entry =
    λ i entry at. ap (λ (entries : List Entry). slice_get entries i) (sym m.entries) ∙ at in
    let dead : (number : ℕ) → (cached_word w.memory number).live ≡ false =
    λ number. dead_at w.history.table.blocks w.memory.groups m.fresh (number / GROUP_NUMBERS) (number % GROUP_NUMBERS) in
    record {
      table = m.table;
      shaped = record {
        actors = ap (λ (actors : List Actor). length actors) m.actors ∙ length-replicate MAX_ACTORS idle_actor;
        groups = m.groups;
        slots = long_all w.history.table.blocks w.memory.groups m.fresh;
      };
      legal = record { leads = m.leads; held = subst (λ (entries : List Entry). AreByHolders [] entries) (sym m.entries) (held_all MAX_ACTORS [] m.keys) };
      intervals = record {
        length_is = ap (λ (froms : List ℕ). length froms) m.froms ∙ places-length MAX_ACTORS 0 m.keys ∙ ap (λ (entries : List Entry). length entries) (sym m.entries);
        between = λ i begin at. let below : begin ≤ 0 + i = own 0 m.keys i begin (ap (λ (froms : List ℕ). slice_get froms i) (sym m.froms) ∙ at) in omega (arith, below);
      };
      licensed = record {
        frees = λ i a begin key below at begins. absurd (by_recovery m.keys i a key below (entry_at i _ at));
        gc = λ i a key answer at waits. absurd (no_answer MAX_ACTORS m.keys i a _ answer (entry_at i _ at));
        refused = λ i begin g entry key at begins refused group awaits. absurd (never_refused m.keys i g entry (entry_at i entry at) refused);
      };
      words = λ number. inr (subst (λ b. says b w.history.table (cached_word w.memory number) number) (sym (dead number))
          (quiet none rows w.history.table start number (any_row (inode_of w.history.table number)) refl m.recovered_is m.no_holds));
      cached = λ number live. absurd (not_both (cached_word w.memory number).live live (dead number));
      group_locks = λ g a. no_lock g a (cache_at w.memory g).holder _ (free_at w.history.table.blocks w.memory.groups m.fresh g) (idle a);
      log_lock = λ a. no_log_lock a w.holder _ m.holder (idle a);
      actors = λ a. subst (λ (actor : Actor). ActorIsRight start w.history w.memory a actor) (sym (idle a)) (record {
        there = tt;
        queue = sym (ap (λ (entries : List Entry). queue_from start (take (length w.history.entries) entries) a []) m.entries ∙ nothing_waits start MAX_ACTORS a m.keys (length w.history.entries));
        doing = tt;
      });
      commits = m.commits;
      job = record {
        job = subst (λ (holder : Option ℕ). JobOfHolder (state_of w.store) w.history w.memory w.first_commit w.store.job holder) (sym m.holder) (m.job, m.rest);
        covered = λ i a n made at. absurd (no_answer MAX_ACTORS m.keys i a made _ (entry_at i _ at));
      };
    }
