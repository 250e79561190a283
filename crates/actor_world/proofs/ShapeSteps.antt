-- A step leaves a shaped world, whose entries stand within their calls, and no live word without an inode in core.
use Rattle.std.proofs.Common.{◌≡◌, ◌≤◌, ◌+◌, ◌*◌, inl, inr, ℕ, List, Option, None, Some, length, refl, sym, ap, subst, ◌∙◌, arith}
use Rattle.std.specs.List.{AllByRecursion}
use Rattle.std.proofs.lemmas.Option.{same_Some}
use Rattle.life_limits.specs.declared.TheConstants.{BLOCK_SECTORS}
use Rattle.life_table.specs.declared.key.Key.{Key}
use Rattle.life_table.specs.declared.types.Row.{Row}
use Rattle.life_table.specs.declared.types.Call.{Call}
use Rattle.life_table.specs.declared.types.Call.TheVariants as call
use Rattle.life_table.specs.declared.types.Reply.{Reply}
use Rattle.life_table.specs.declared.types.Reply.TheVariants as reply
use Rattle.life_table.specs.declared.types.Event.{Event}
use Rattle.life_table.specs.declared.types.Event.TheVariants.{Called, Freed}
use Rattle.life_table.specs.declared.types.Entry.{Entry}
use Rattle.life_table.specs.declared.table.Inode.{Inode}
use Rattle.life_table.specs.declared.table.Table.{Table}
use Rattle.life_table.specs.Table.{Group, row_of, with_group, with_inode, with_row}
use Rattle.life_table.specs.Legal.{after_call, made_row, prepare, with_changed}
use Rattle.life_table.specs.History.{after_event}
use Rattle.actor_world.specs.declared.memory.Actor.{Actor}
use Rattle.actor_world.specs.declared.memory.GroupCache.{GroupCache}
use Rattle.actor_world.specs.declared.memory.Memory.{Memory}
use Rattle.actor_world.specs.Caches.{with_actor}
use Rattle.actor_world.specs.World.{History, told_if}
use Rattle.actor_world.specs.Licence.{Interval}
use Rattle.actor_world.specs.Invariant.{IsShaped}
use Rattle.actor_world.proofs.Effects.{SameShape}
use Rattle.actor_world.proofs.Lists.{get_push, length-push, set-length}

-- ---- tables

-- as many groups of as many blocks
pub record SameSize (t u : Table) : Type 0 where
  pub blocks : u.blocks ≡ t.blocks
  pub groups : length u.groups ≡ length t.groups

size_same : (t : Table) → SameSize t t
size_same t = record { blocks = refl; groups = refl }

size_group : (t : Table) (g : ℕ) (group : Group) → SameSize t (with_group t g group)
size_group t g group = record { blocks = refl; groups = set-length t.groups g group }

size_inode : (t : Table) (number : ℕ) (inode : Inode) → SameSize t (with_inode t number inode)
unfolding with_inode
size_inode t number inode = size_group t _ _

size_changed : (t : Table) (key : Key) (o : Option Row) (made : Call) → SameSize t (with_changed t key o made)
size_changed t key None made = size_same t
size_changed t key (Some row) made = size_inode t key.number _

pub size_made : (t : Table) (g : ℕ) (key : Key) (row : Row) → SameSize t (with_row (prepare t g) key row)
size_made t g key row =
    let outer = size_inode (prepare t g) key.number _ in
    record { blocks = outer.blocks; groups = outer.groups ∙ set-length t.groups g _ }

size_call : (t : Table) (made : Call) (answer : Reply) → SameSize t (after_call t made answer)
size_call t (call.Create g) (reply.Made key) = size_made t g key (made_row 1)
size_call t (call.Tmpfile g) (reply.Made key) = size_made t g key (made_row 0)
size_call t (call.OpenKey key) reply.Done = size_changed t key (row_of t key) (call.OpenKey key)
size_call t (call.CloseKey key) reply.Done = size_changed t key (row_of t key) (call.CloseKey key)
size_call t (call.Link key) reply.Done = size_changed t key (row_of t key) (call.Link key)
size_call t (call.Unlink key) reply.Done = size_changed t key (row_of t key) (call.Unlink key)
size_call t (call.Grow key count) reply.Done = size_changed t key (row_of t key) (call.Grow key count)
size_call t (call.Cut key count) reply.Done = size_changed t key (row_of t key) (call.Cut key count)
size_call t _ _ = size_same t

pub size_event : (t : Table) (event : Event) → SameSize t (after_event t event)
size_event t (Called made answer) = size_call t made answer
size_event t (Freed key) = size_inode t key.number _

size_told : (h : History) (a begin : ℕ) (event : Option Event) → SameSize h.table (told_if a begin event h).table
size_told h a begin None = size_same h.table
size_told h a begin (Some event) = size_event h.table event

pub shape_kept : (h : History) (m : Memory) (a begin : ℕ) (event : Option Event) (actor : Actor) (memory : Memory) → memory.actors ≡ m.actors → IsShaped h.table m → SameShape m memory
    → IsShaped (told_if a begin event h).table (with_actor a actor memory)
shape_kept h m a begin event actor memory actors shaped same =
    let size = size_told h a begin event in
    record {
      actors = set-length memory.actors a actor ∙ ap (λ (xs : List Actor). length xs) actors ∙ shaped.actors;
      groups = same.count ∙ shaped.groups ∙ sym size.groups;
      slots = subst (λ n. AllByRecursion (λ (cache : GroupCache). length cache.slots ≡ n * BLOCK_SECTORS) memory.groups) (sym size.blocks) (same.slots (h.table.blocks * BLOCK_SECTORS) shaped.slots);
    }

-- ---- intervals

pub intervals_kept : (h : History) (a begin : ℕ) (event : Option Event) → Interval h.entries h.froms → begin ≤ length h.entries
    → Interval (told_if a begin event h).entries (told_if a begin event h).froms
intervals_kept h a begin None between below = between
intervals_kept h a begin (Some event) between below =
    let entry : Entry = record { actor = a; event = event } in
    record {
      length_is = length-push h.froms begin ∙ ap (λ n. n + 1) between.length_is ∙ sym (length-push h.entries entry);
      between = λ i other at. elim (get_push h.froms begin other i at) [
        | inl here ↦ between.between i other here.1
        | inr last ↦ let same : begin ≡ other = same_Some begin other last.1 in omega (arith, same, below, last.0, between.length_is)
      ];
    }
