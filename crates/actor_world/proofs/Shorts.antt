-- Whether a call is short, and that it stays so while another holds no lock of its group.
use Rattle.std.proofs.Common.{◌≡◌, ◌≢◌, ◌<◌, ◌≤◌, ◌/◌, ◌⊎◌, inl, inr, ℕ, true, false, List, Option, None, Some, is_none, nat_lt, length, refl, sym, ap, subst, ◌∙◌, arith}
use Rattle.std.specs.Prelude.{◌↔◌}
use Rattle.std.specs.Cmp.Derive.{both_true}
use Rattle.std.proofs.lemmas.Option.{none-some, same_Some}
use Rattle.std.proofs.lemmas.Bool.{and_parts, ltb-true, false≢true, true≢false}
use Rattle.life_limits.specs.declared.TheConstants.{GROUP_NUMBERS}
use Rattle.life_table.specs.declared.key.Key.{Key}
use Rattle.life_table.specs.declared.types.Row.{Row}
use Rattle.life_table.specs.declared.types.Call.{Call}
use Rattle.life_table.specs.declared.types.Call.TheVariants as call
use Rattle.life_table.specs.declared.types.Reply.{Reply}
use Rattle.life_table.specs.declared.types.Reply.TheVariants as reply
use Rattle.life_table.specs.declared.types.Event.{Event}
use Rattle.life_table.specs.declared.table.Inode.{Inode}
use Rattle.life_table.specs.declared.table.Table.{Table}
use Rattle.life_table.specs.Table.{group_at, group_number, row_of, with_inode, with_row}
use Rattle.life_table.specs.Space.{chunk_place, free_blocks, lowest_key}
use Rattle.life_table.specs.Legal.{IsNoHold, IsOpen, KeyReplies, Permits, Short, after_call, free_of, made_row, prepare, with_changed}
use Rattle.life_table.specs.History.{after_event, changed, closed, is_change}
use Rattle.actor_world.specs.declared.memory.Place.{Place}
use Rattle.actor_world.specs.declared.memory.Memory.{Memory}
use Rattle.actor_world.specs.Moves.{is_log_call, is_short}
use Rattle.actor_world.specs.Steps.{makes_change}
use Rattle.actor_world.proofs.LicenceSteps.{grow_short}
use Rattle.actor_world.proofs.Frames.{made_number}
use Rattle.actor_world.proofs.Lists.{the_some}
use Rattle.actor_world.proofs.Locks.{changer_group, lock_of, maker_call_group, room_call_group}
use Rattle.actor_world.proofs.Looks.{group_other}
use Rattle.actor_world.proofs.ShapeSteps.{size_event}
use Rattle.actor_world.proofs.Turns.{Turn, changer_key, changes, frees_head, frees_one, grow_refuses, grows, is_answered, maker_group, makes, makes_none, refuses, room_group}
use Rattle.actor_world.proofs.WordTurns.{table_after}
use Rattle.actor_world.proofs.WordsStill.{WordFacts}

-- ---- the test

none_of : {X : Type 0} (o : Option X) → is_none o ≡ true → o ≡ None
none_of None is = refl
none_of (Some x) is = absurd (false≢true is)

pub short_is : (t : Table) (made : Call) → is_short t made ≡ true → Short t made
short_is t (call.Create g) is =
    let parts = and_parts (is_none (lowest_key g (group_at t g))) (is_none (chunk_place t.blocks (group_at t g))) is in (none_of _ parts.0, none_of _ parts.1)
short_is t (call.Tmpfile g) is =
    let parts = and_parts (is_none (lowest_key g (group_at t g))) (is_none (chunk_place t.blocks (group_at t g))) is in (none_of _ parts.0, none_of _ parts.1)
short_is t (call.Grow key count) is = ltb-true (length (free_of t key)) count is
short_is t _ is = absurd (false≢true is)

pub short_not : (t : Table) (made : Call) → is_short t made ≡ false → Short t made → ⊥
short_not t (call.Create g) is short = true≢false (sym (both_true (ap is_none short.0) (ap is_none short.1)) ∙ is)
short_not t (call.Tmpfile g) is short = true≢false (sym (both_true (ap is_none short.0) (ap is_none short.1)) ∙ is)
short_not t (call.Grow key count) is short =
    let test : nat_lt (length (free_of t key)) count ≡ true = grind (arith, short) in true≢false (sym test ∙ is)
short_not t _ is short = short

-- ---- where the group stays

pub record GroupStays (t u : Table) (g : ℕ) : Type 0 where
  pub group : group_at u g ≡ group_at t g
  pub blocks : u.blocks ≡ t.blocks

group_back : (t u : Table) (g : ℕ) → GroupStays t u g → GroupStays u t g
group_back t u g stays = record { group = sym stays.group; blocks = sym stays.blocks }

number_short : (t u : Table) (g h : ℕ) → g ≡ h → GroupStays t u h → (lowest_key g (group_at t g) ≡ None) × (chunk_place t.blocks (group_at t g) ≡ None)
    → (lowest_key g (group_at u g) ≡ None) × (chunk_place u.blocks (group_at u g) ≡ None)
number_short t u g h same stays short =
    let group : group_at u g ≡ group_at t g = ap (λ n. group_at u n) same ∙ stays.group ∙ ap (λ n. group_at t n) (sym same) in
    (ap (lowest_key g) group ∙ short.0, (λ i. chunk_place (stays.blocks i) (group i)) ∙ short.1)

short_by_group : (t u : Table) (other : Call) (g : ℕ) → (Short t other → room_group other ≡ Some g) → GroupStays t u g → Short t other → Short u other
short_by_group t u (call.Create h) g is stays short = number_short t u h g (same_Some h g (is short)) stays short
short_by_group t u (call.Tmpfile h) g is stays short = number_short t u h g (same_Some h g (is short)) stays short
short_by_group t u (call.Grow key count) g is stays short =
    let same : group_number key ≡ g = same_Some (group_number key) g (is short) in
    let group : group_at u (group_number key) ≡ group_at t (group_number key) = ap (λ n. group_at u n) same ∙ stays.group ∙ ap (λ n. group_at t n) (sym same) in
    let free : free_of u key ≡ free_of t key = (λ i. free_blocks (stays.blocks i) (group i)) in
    let long : length (free_of u key) ≡ length (free_of t key) = ap (λ xs. length xs) free in
    omega (arith, long, short)
short_by_group t u _ g is stays short = absurd short

-- ---- where only holds change

-- The laws on holds that are used.
pub record HoldLaws : Type 0 where
  pub permits : (t : Table) (called : Call) (answer : Reply) → IsNoHold called → (Permits (closed t) called answer ↔ Permits t called answer)
  pub no_change : (t : Table) (event : Event) → is_change event ≡ false → closed (after_event t event) ≡ closed t

-- the group of the call is there, and its key has a row
abbrev pub CanBeShort : Table → Call → Type 0
CanBeShort t (call.Create g) = g < length t.groups
CanBeShort t (call.Tmpfile g) = g < length t.groups
CanBeShort t (call.Grow key count) = IsOpen (row_of t key)
CanBeShort t _ = Unit {0}

short_by_holds : HoldLaws → (t u : Table) (other : Call) → CanBeShort t other → closed u ≡ closed t → Short t other → Short u other
short_by_holds laws t u (call.Create g) there same short =
    ((laws.permits u (call.Create g) reply.NoInodes tt).0 (subst (λ v. Permits v (call.Create g) reply.NoInodes) (sym same) ((laws.permits t (call.Create g) reply.NoInodes tt).1 (there, short)))).1
short_by_holds laws t u (call.Tmpfile g) there same short =
    ((laws.permits u (call.Tmpfile g) reply.NoInodes tt).0 (subst (λ v. Permits v (call.Tmpfile g) reply.NoInodes) (sym same) ((laws.permits t (call.Tmpfile g) reply.NoInodes tt).1 (there, short)))).1
short_by_holds laws t u (call.Grow key count) there same short =
    let row = the_some (λ (r : Row). 1 ≤ r.opens) (row_of t key) there in
    let permits : Permits t (call.Grow key count) reply.NoSpace = subst (λ (o : Option Row). KeyReplies t o (call.Grow key count) reply.NoSpace) (sym row.1) short in
    grow_short u key count (row_of u key)
    ((laws.permits u (call.Grow key count) reply.NoSpace tt).0 (subst (λ v. Permits v (call.Grow key count) reply.NoSpace) (sym same) ((laws.permits t (call.Grow key count) reply.NoSpace tt).1 permits)))
short_by_holds laws t u _ there same short = absurd short

-- ---- a turn

refused_plain : (made : Call) (answer : Reply) → is_log_call made ≡ true → changed made answer ≡ false
refused_plain call.Sync answer is = refl
refused_plain call.Home answer is = refl
refused_plain _ answer is = absurd (false≢true is)

maker_none : (made : Call) (g : ℕ) → maker_group made ≡ Some g → changed made reply.NoInodes ≡ false
maker_none (call.Create h) g is = refl
maker_none (call.Tmpfile h) g is = refl
maker_none _ g is = absurd (none-some g is)

inode_group : (t : Table) (number g : ℕ) (inode : Inode) → number / GROUP_NUMBERS ≢ g → group_at (with_inode t number inode) g ≡ group_at t g
unfolding with_inode
inode_group t number g inode apart = group_other t (number / GROUP_NUMBERS) g _ (λ e. apart (sym e))

changed_group : (t : Table) (key : Key) (o : Option Row) (made : Call) (g : ℕ) → group_number key ≢ g → group_at (with_changed t key o made) g ≡ group_at t g
changed_group t key None made g apart = refl
changed_group t key (Some row) made g apart = inode_group t key.number g _ apart

apart_from : (h g : ℕ) (o : Option ℕ) → o ≡ Some h → (o ≡ Some g → ⊥) → h ≢ g
apart_from h g o is apart same = apart (is ∙ ap (λ n. Some n) same)

change_group : (t : Table) (made : Call) (key : Key) (g : ℕ) → changer_key made ≡ Some key → group_number key ≢ g → group_at (after_call t made reply.Done) g ≡ group_at t g
change_group t (call.Link other) key g is apart = changed_group t other (row_of t other) (call.Link other) g (λ e. apart (sym (ap (λ (k : Key). group_number k) (same_Some other key is)) ∙ e))
change_group t (call.Unlink other) key g is apart = changed_group t other (row_of t other) (call.Unlink other) g (λ e. apart (sym (ap (λ (k : Key). group_number k) (same_Some other key is)) ∙ e))
change_group t (call.Cut other count) key g is apart = changed_group t other (row_of t other) (call.Cut other count) g (λ e. apart (sym (ap (λ (k : Key). group_number k) (same_Some other key is)) ∙ e))
change_group t _ key g is apart = absurd (none-some key is)

made_group : (t : Table) (h g : ℕ) (key : Key) (links : ℕ) → key.number / GROUP_NUMBERS ≡ h → h ≢ g → group_at (with_row (prepare t h) key (made_row links)) g ≡ group_at t g
made_group t h g key links in_h apart = inode_group (prepare t h) key.number g _ (λ e. apart (sym in_h ∙ e)) ∙ group_other t h g _ (λ e. apart (sym e))

make_group : (t : Table) (made : Call) (h : ℕ) (key : Key) (g : ℕ) → maker_group made ≡ Some h → key.number / GROUP_NUMBERS ≡ h → h ≢ g → group_at (after_call t made (reply.Made key)) g ≡ group_at t g
make_group t (call.Create other) h key g is in_h apart = made_group t other g key 1 (in_h ∙ sym (same_Some other h is)) (λ e. apart (sym (same_Some other h is) ∙ e))
make_group t (call.Tmpfile other) h key g is in_h apart = made_group t other g key 0 (in_h ∙ sym (same_Some other h is)) (λ e. apart (sym (same_Some other h is) ∙ e))
make_group t _ h key g is in_h apart = absurd (none-some h is)

-- A turn makes no change, or it leaves each group but that of the actor's lock.
turn_group : {t : Table} {m : Memory} {a : ℕ} {made : Call} {at : Place} {q later : List Key} {event : Option Event} {next : Option Place} {memory : Memory}
    → WordFacts t m → Turn t m a made at q event next later memory → (g : ℕ) → (lock_of (Some at) made q ≡ Some g → ⊥)
    → (makes_change event ≡ false) ⊎ (group_at (table_after t event) g ≡ group_at t g)
turn_group {t = t} {q = q} facts (changes made key is permits) g apart = inr (change_group t made key g is (apart_from (group_number key) g _ (changer_group made key q is) apart))
turn_group {t = t} facts (grows key count permits) g apart = inr (changed_group t key (row_of t key) (call.Grow key count) g (apart_from (group_number key) g _ refl apart))
turn_group {t = t} {m = m} {q = q} facts (makes made h key is permits) g apart =
    inr (make_group t made h key g is (made_number t m made h key facts is permits) (apart_from h g _ (maker_call_group made h q is) apart))
turn_group {t = t} {q = q} facts (frees_one made h key others is group awaits) g apart =
    inr (inode_group t key.number g _ (λ e. apart_from h g _ (room_call_group made h q is) apart (sym group ∙ e)))
turn_group {t = t} facts (frees_head key keys awaits) g apart = inr (inode_group t key.number g _ (apart_from (group_number key) g _ refl apart))
turn_group facts (refuses made key answer is permits none) g apart = inl none
turn_group facts (grow_refuses key count answer permits none) g apart = inl none
turn_group facts (makes_none made h is permits) g apart = inl (maker_none made h is)
turn_group facts (is_answered made at answer is stands permits) g apart = inl (refused_plain made answer is)
turn_group facts _ g apart = inl refl

closed_after : HoldLaws → (t : Table) (event : Option Event) → makes_change event ≡ false → closed (table_after t event) ≡ closed t
closed_after laws t None none = refl
closed_after laws t (Some event) none = laws.no_change t event none

blocks_after : (t : Table) (event : Option Event) → (table_after t event).blocks ≡ t.blocks
blocks_after t None = refl
blocks_after t (Some event) = (size_event t event).blocks

-- whether a call is short stays so while another makes a turn without its group's lock
pub short_on : HoldLaws → {t : Table} {m : Memory} {a : ℕ} {made : Call} {at : Place} {q later : List Key} {event : Option Event} {next : Option Place} {memory : Memory}
    → WordFacts t m → Turn t m a made at q event next later memory → (other : Call) (g : ℕ) → (lock_of (Some at) made q ≡ Some g → ⊥) → room_group other ≡ Some g
    → CanBeShort t other → CanBeShort (table_after t event) other → Short (table_after t event) other ↔ Short t other
short_on laws {t = t} {event = event} facts turn other g apart group before after =
    let u : Table = table_after t event in
    elim (turn_group facts turn g apart) [
      | inl none ↦ let same = closed_after laws t event none in (short_by_holds laws u t other after (sym same), short_by_holds laws t u other before same)
      | inr stays ↦
          let both : GroupStays t u g = record { group = stays; blocks = blocks_after t event } in
          (short_by_group u t other g (λ short. group) (group_back t u g both), short_by_group t u other g (λ short. group) both)
    ]

-- a call that makes no room is never short
pub never_short : (t : Table) (other : Call) → room_group other ≡ None → Short t other → ⊥
never_short t (call.Create h) none short = none-some h (sym none)
never_short t (call.Tmpfile h) none short = none-some h (sym none)
never_short t (call.Grow key count) none short = none-some (group_number key) (sym none)
never_short t _ none short = short
