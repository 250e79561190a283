-- What a word says, whoever is about to mend it.
use Rattle.std.proofs.Common.{◌≡◌, ◌<◌, ◌≤◌, ◌==◌, ◌/◌, inl, inr, ℕ, true, false, List, Option, None, Some, if◌then◌else◌, refl, sym, ap, subst, ◌∙◌, arith}
use Rattle.std.proofs.lemmas.Option.{none-some, same_Some}
use Rattle.std.proofs.lemmas.Bool.{eq-eqb, eqb-true, true≢false}
use Rattle.life_limits.specs.declared.TheConstants.{GROUP_NUMBERS, MAX_PINS}
use Rattle.life_table.specs.declared.key.Key.{Key}
use Rattle.life_table.specs.declared.types.Row.{Row}
use Rattle.life_table.specs.declared.types.Call.{Call}
use Rattle.life_table.specs.declared.table.Inode.{Inode}
use Rattle.life_table.specs.declared.table.Table.{Table}
use Rattle.life_table.specs.Legal.{Awaits}
use Rattle.life_table.specs.Table.{inode_of, row_in_life, row_of}
use Rattle.actor_world.specs.declared.memory.Doing.{Doing}
use Rattle.actor_world.specs.declared.memory.Memory.{Memory}
use Rattle.actor_world.specs.Caches.{actor_at, cache_at, cached_word}
use Rattle.actor_world.specs.World.{History}
use Rattle.actor_world.specs.Words.{Due, DueHolds, LiveSays, WordSays, any_row, due_at, due_number, install, kill, mark, nothing, says}
use Rattle.actor_world.specs.Invariant.{ActorIsRight, DoingIsRight, LiesInGroup, due_of_actor, due_of_doing, due_of_holder, first_key}
use Rattle.actor_world.proofs.Lists.{the_some}
use Rattle.actor_world.proofs.Sights.{CanOpen, IsCached}
use Rattle.actor_world.proofs.Within.{Within}

-- the key of a number in the life of its word
abbrev pub life_of : Memory → ℕ → Key
life_of m number = record { number = number; generation = (cached_word m number).generation }

-- What a live word says: it is right; or its mark is due, and its pins are right; or it is to be killed.
pub data LiveIs (t : Table) (m : Memory) (number : ℕ) : Type 0 where
  Right : (row : Row) → row_of t (life_of m number) ≡ Some row → LiveSays (cached_word m number) row → LiveIs t m number
  MarkIsDue : (row : Row) → row_of t (life_of m number) ≡ Some row → (cached_word m number).pins ≡ row.opens → 1 ≤ row.opens → LiveIs t m number
  KillIsDue : (cached_word m number).unlinked ≡ true → (cached_word m number).pins ≡ 0 → any_row (inode_of t number) ≡ None → LiveIs t m number

in_life : (t : Table) (m : Memory) (key : Key) → (cached_word m key.number).generation ≡ key.generation → row_of t (life_of m key.number) ≡ row_of t key
in_life t m key same = ap (λ g. row_of t (record { number = key.number; generation = g })) same

from_due : (made : Call) (t : Table) (m : Memory) (due : Due) (number : ℕ) → due_number due ≡ Some number → DueHolds made t m due
    → (cached_word m number).live ≡ true → LiveIs t m number
from_due made t m nothing number is holds live = absurd (none-some number is)
from_due made t m (install key) number is holds live =
    absurd (true≢false (sym live ∙ subst (λ n. (cached_word m n).live ≡ false) (same_Some key.number number is) holds.1.dead))
from_due made t m (mark key) number is holds live =
    subst (LiveIs t m) (same_Some key.number number is)
    (MarkIsDue holds.0 (in_life t m key holds.1.generation ∙ holds.1.row_is) holds.1.pins holds.1.some)
from_due made t m (kill key) number is holds live =
    subst (LiveIs t m) (same_Some key.number number is) (KillIsDue holds.mark holds.pins holds.no_row)

from_doing : (start : Table) (h : History) (m : Memory) (a : ℕ) (queue : List Key) (doing : Option Doing) (number : ℕ)
    → due_number (due_of_doing queue doing) ≡ Some number → DoingIsRight start h m a queue doing → (cached_word m number).live ≡ true → LiveIs h.table m number
from_doing start h m a queue None number is right live = absurd (none-some number is)
from_doing start h m a queue (Some d) number is right live = from_due d.call h.table m (due_at (first_key queue) d.call d.place) number is right.due live

from_holder : (start : Table) (h : History) (m : Memory) (holder : Option ℕ) (number : ℕ) → due_number (due_of_holder m holder) ≡ Some number
    → ((a : ℕ) → ActorIsRight start h m a (actor_at m a)) → (cached_word m number).live ≡ true → LiveIs h.table m number
from_holder start h m None number is actors live = absurd (none-some number is)
from_holder start h m (Some a) number is actors live = from_doing start h m a (actor_at m a).queue (actor_at m a).doing number is (actors a).doing live

live_says : (t : Table) (m : Memory) (number : ℕ) → WordSays t (cached_word m number) number → (cached_word m number).live ≡ true → LiveIs t m number
live_says t m number is live =
    let some = the_some (LiveSays (cached_word m number)) (row_of t (life_of m number)) (subst (λ b. says b t (cached_word m number) number) live is) in
    Right some.0 some.1 some.2

pub live_is : (start : Table) (h : History) (m : Memory) → Within start h m → (number : ℕ) → (cached_word m number).live ≡ true → LiveIs h.table m number
live_is start h m inv number live =
    elim (inv.words number) [
      | inl due ↦ from_holder start h m (cache_at m (number / GROUP_NUMBERS)).holder number due inv.actors live
      | inr is ↦ live_says h.table m number is live
    ]

-- ---- a word that can be opened

-- The row of a word that can be opened.
pub record Opened (t : Table) (m : Memory) (key : Key) : Type 0 where
  pub row : Row
  pub row_is : row_of t key ≡ Some row
  pub live : (cached_word m key.number).live ≡ true
  pub generation : (cached_word m key.number).generation ≡ key.generation
  pub pins : (cached_word m key.number).pins ≡ row.opens
  pub few : (cached_word m key.number).pins < MAX_PINS
  pub stays : Awaits row → ⊥

opened_as : (t : Table) (m : Memory) (key : Key) → CanOpen key.generation (cached_word m key.number) → LiveIs t m key.number → Opened t m key
opened_as t m key can (Right row is right) = record {
  row = row;
  row_is = sym (in_life t m key can.cached.generation_is) ∙ is;
  live = can.cached.live;
  generation = can.cached.generation_is;
  pins = right.pins;
  few = can.few;
  stays = λ awaits. can.waits_not (right.mark ∙ eq-eqb row.links 0 awaits.0) (right.pins ∙ awaits.1);
}
opened_as t m key can (MarkIsDue row is pins some) = record {
  row = row;
  row_is = sym (in_life t m key can.cached.generation_is) ∙ is;
  live = can.cached.live;
  generation = can.cached.generation_is;
  pins = pins;
  few = can.few;
  stays = λ awaits. let none : row.opens ≡ 0 = awaits.1 in omega (arith, none, some);
}
opened_as t m key can (KillIsDue marked unpinned none) = absurd (can.waits_not marked unpinned)

pub opened : (start : Table) (h : History) (m : Memory) → Within start h m → (key : Key) → CanOpen key.generation (cached_word m key.number) → Opened h.table m key
opened start h m inv key can = opened_as h.table m key can (live_is start h m inv key.number can.cached.live)

-- a word with as many pins as it can have
crowded_as : (t : Table) (m : Memory) (key : Key) → IsCached key.generation (cached_word m key.number) → (cached_word m key.number).pins ≡ MAX_PINS
    → LiveIs t m key.number → (row : Row) × (row_of t key ≡ Some row) × (row.opens ≡ MAX_PINS)
crowded_as t m key cached full (Right row is right) = (row, sym (in_life t m key cached.generation_is) ∙ is, sym right.pins ∙ full)
crowded_as t m key cached full (MarkIsDue row is pins some) = (row, sym (in_life t m key cached.generation_is) ∙ is, sym pins ∙ full)
crowded_as t m key cached full (KillIsDue marked unpinned none) = let clash : 0 ≡ MAX_PINS = sym unpinned ∙ full in absurd (omega (arith, clash))

pub crowded : (start : Table) (h : History) (m : Memory) → Within start h m → (key : Key) → IsCached key.generation (cached_word m key.number)
    → (cached_word m key.number).pins ≡ MAX_PINS → (row : Row) × (row_of h.table key ≡ Some row) × (row.opens ≡ MAX_PINS)
crowded start h m inv key cached full = crowded_as h.table m key cached full (live_is start h m inv key.number cached.live)

-- ---- under the lock

-- where an actor holds the lock of a group, and is about to mend nothing in it, each word of the group is right
pub right_under : (start : Table) (h : History) (m : Memory) → Within start h m → (a g : ℕ) → LiesInGroup g (actor_at m a) → due_of_actor (actor_at m a) ≡ nothing
    → (number : ℕ) → number / GROUP_NUMBERS ≡ g → WordSays h.table (cached_word m number) number
right_under start h m inv a g lies nothing_due number inside =
    let holder : (cache_at m (number / GROUP_NUMBERS)).holder ≡ Some a = ap (λ n. (cache_at m n).holder) inside ∙ (inv.group_locks g a).1 lies in
    elim (inv.words number) [
      | inl due ↦ absurd (none-some number (sym (ap due_number (ap (due_of_holder m) holder ∙ nothing_due)) ∙ due))
      | inr is ↦ is
    ]

-- the inode of a key that has a row
pub record HasInode (o : Option Inode) (generation : ℕ) (row : Row) : Type 0 where
  pub inode : Inode
  pub at : o ≡ Some inode
  pub life : inode.generation ≡ generation
  pub is : inode.row ≡ Some row

pub has_inode : (o : Option Inode) (generation : ℕ) (row : Row) → row_in_life generation o ≡ Some row → HasInode o generation row
has_inode None generation row at = absurd (none-some row at)
has_inode (Some inode) generation row at =
    elim (inode.generation == generation) as (λ c. inode.generation == generation ≡ c → (if c then inode.row else None) ≡ Some row → HasInode (Some inode) generation row) [
      | true ↦ λ is here. record { inode = inode; at = refl; life = eqb-true inode.generation generation is; is = here }
      | false ↦ λ is here. absurd (none-some row here)
    ] refl at

pub any_row_is : (t : Table) (key : Key) (row : Row) → row_of t key ≡ Some row → any_row (inode_of t key.number) ≡ Some row
any_row_is t key row at =
    let has = has_inode (inode_of t key.number) key.generation row at in
    ap any_row has.at ∙ has.is

-- one number has a row in one life alone
pub one_life : (t : Table) (number g h : ℕ) (row other : Row) → row_of t (record { number = number; generation = g }) ≡ Some row
    → row_of t (record { number = number; generation = h }) ≡ Some other → g ≡ h
one_life t number g h row other first second =
    let a = has_inode (inode_of t number) g row first in
    let b = has_inode (inode_of t number) h other second in
    let same : a.inode ≡ b.inode = same_Some a.inode b.inode (sym a.at ∙ b.at) in
    sym a.life ∙ ap (λ (i : Inode). i.generation) same ∙ b.life
