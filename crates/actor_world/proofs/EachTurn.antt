-- Each move of a call is one of the turns.
use Rattle.std.proofs.Common.{◌≡◌, ◌<◌, ◌/◌, inl, inr, ℕ, true, List, ◌∷◌, Option, None, Some, IfSome, is_some, if◌then◌else◌, length, refl, sym, ap, subst, ◌∙◌}
use Rattle.std.proofs.lemmas.Option.{none-some, same_Some}
use Rattle.std.proofs.lemmas.Bool.{cases_lt, false≢true}
use Rattle.life_limits.specs.declared.TheConstants.{GROUP_NUMBERS}
use Rattle.life_table.specs.declared.key.Key.{Key}
use Rattle.life_table.specs.declared.types.Row.{Row}
use Rattle.life_table.specs.declared.types.Call.{Call}
use Rattle.life_table.specs.declared.types.Call.TheVariants as call
use Rattle.life_table.specs.declared.types.Reply.{Reply}
use Rattle.life_table.specs.declared.table.Table.{Table}
use Rattle.life_table.specs.Table.{group_at, group_number, row_of}
use Rattle.life_table.specs.Space.{lowest_key, prepared}
use Rattle.life_table.specs.Legal.{IsOpen, Permits}
use Rattle.life_table.specs.Replies.{create_reply, reply_of}
use Rattle.life_table.specs.History.{IsHeld}
use Rattle.actor_world.specs.declared.memory.Place.{Place}
use Rattle.actor_world.specs.declared.memory.Place.TheVariants as place
use Rattle.actor_world.specs.declared.memory.Doing.{Doing}
use Rattle.actor_world.specs.declared.memory.Actor.{Actor}
use Rattle.actor_world.specs.declared.memory.Memory.{Memory}
use Rattle.actor_world.specs.Caches.{actor_at, cached_word, idle_actor}
use Rattle.actor_world.specs.Moves.{Move, answer_create, call_move, change_move, close_move, create_move, doing_move, gc_move, group_holder, group_of_call, grow_move, lies_in_group, move_of, open_move, stat_move, stands_at, takes_group, waits_in_group}
use Rattle.actor_world.specs.World.{History}
use Rattle.actor_world.specs.Words.{DueHolds, MarkDue, WordSays, due_at, nothing}
use Rattle.actor_world.specs.Invariant.{CallIsRight, DoingIsRight, LiesInGroup, PlaceKeeps, due_of_actor, first_key}
use Rattle.actor_world.proofs.HouseTurns.{HeadFacts, flush_turn, gc_turn, reclaim_turn}
use Rattle.actor_world.proofs.Lists.{read_past}
use Rattle.actor_world.proofs.LiveWords.{right_under}
use Rattle.actor_world.proofs.OpenTurns.{find_turn, first_turn, install_turn, look_turn, pin_locked_turn, pin_turn, read_turn, the_row, unpin_turn}
use Rattle.actor_world.proofs.RoomTurns.{RoomFacts, change_turn, create_answer, grow_answer, install_made_turn, mark_turn, room_turn}
use Rattle.actor_world.proofs.Turns.{CanLock, HeldWord, Turned, changer_key, leaves, locks_change, maker_group, room_group}
use Rattle.actor_world.proofs.TurnsFound.{Laws, dead_row, ends, goes}
use Rattle.actor_world.proofs.Within.{Within}

-- an actor in a call
abbrev pub in_call : Call → Place → ℕ → List Key → Actor
in_call made at begin queue = record { doing = Some (record { call = made; place = at; «from» = begin }); queue = queue }

-- What a move of an actor in a call rests on.
pub record Stands (start : Table) (h : History) (m : Memory) (a : ℕ) (made : Call) (at : Place) (begin : ℕ) (queue : List Key) : Type 0 where
  pub inv : Within start h m
  pub actor_is : actor_at m a ≡ in_call made at begin queue
  pub low : a < length m.actors
  pub queue_is : (actor_at m a).queue ≡ queue
  pub right : CallIsRight start h m a queue (record { call = made; place = at; «from» = begin })
  pub free : waits_in_group queue (record { call = made; place = at; «from» = begin }) m ≡ None
  pub held_word : (key : Key) → IsHeld h.entries a (Some key) → made ≡ call.CloseKey key → HeldWord h.table m key

-- under the lock, where nothing is due, the word of a number of the group is right
under : (start : Table) (h : History) (m : Memory) (a : ℕ) (made : Call) (at : Place) (begin : ℕ) (queue : List Key) → Stands start h m a made at begin queue
    → (g : ℕ) → lies_in_group at ≡ true → group_of_call queue made ≡ Some g → due_at (first_key queue) made at ≡ nothing
    → (number : ℕ) → number / GROUP_NUMBERS ≡ g → WordSays h.table (cached_word m number) number
under start h m a made at begin queue s g lies group no_due number inside =
    right_under start h m s.inv a g (subst (LiesInGroup g) (sym s.actor_is) (lies, group)) (ap due_of_actor s.actor_is ∙ no_due) number inside

-- a key that is held has a row that somebody holds
is_open : Laws → (start : Table) (h : History) (m : Memory) → Within start h m → (a : ℕ) (key : Key) → IsHeld h.entries a (Some key) → IsOpen (row_of h.table key)
is_open laws start h m inv a key held = laws.held start h.table h.entries a key inv.table inv.legal held

open_turn : Laws → (start : Table) (h : History) (m : Memory) (a : ℕ) (key : Key) (at : Place) (begin : ℕ) (queue : List Key) → Stands start h m a (call.OpenKey key) at begin queue
    → IfSome (open_move key at a (record { call = call.OpenKey key; place = at; «from» = begin }) h.table m) (Turned h.table m a (call.OpenKey key) at begin queue)
open_turn laws start h m a key place.Load begin queue s = first_turn laws start h m s.inv a queue begin s.queue_is key
open_turn laws start h m a key (place.Pin seen) begin queue s = pin_turn start h m s.inv a queue begin s.queue_is key seen s.right.keeps
open_turn laws start h m a key place.Find begin queue s =
    find_turn h m a queue begin s.queue_is key (record { there = s.right.group; free = s.free }) (row_of h.table key) refl
open_turn laws start h m a key place.LoadLocked begin queue s =
    let row = the_row (row_of h.table key) s.right.keeps in
    look_turn laws start h m s.inv a queue begin s.queue_is key (under start h m a (call.OpenKey key) place.LoadLocked begin queue s (group_number key) refl refl refl key.number refl) row.0 row.1 _ refl
open_turn laws start h m a key (place.PinLocked seen) begin queue s =
    let row = the_row (row_of h.table key) s.right.keeps.1 in
    pin_locked_turn start h m s.inv a queue begin s.queue_is key seen s.right.keeps.0 row.0 row.1
open_turn laws start h m a key place.Install begin queue s =
    let row = the_row (row_of h.table key) s.right.keeps.0 in
    install_turn laws start h m s.inv a queue begin s.queue_is key
    (dead_row h.table m key row.0 row.1 (under start h m a (call.OpenKey key) place.Install begin queue s (group_number key) refl refl refl key.number refl) s.right.keeps.1)
open_turn laws start h m a key (place.Leave answer) begin queue s = ends _ _ (leaves (call.OpenKey key) answer (group_number key) refl) s.queue_is
open_turn laws start h m a key _ begin queue s = tt

close_turn : Laws → (start : Table) (h : History) (m : Memory) (a : ℕ) (key : Key) (at : Place) (begin : ℕ) (queue : List Key) → Stands start h m a (call.CloseKey key) at begin queue
    → IfSome (close_move key at a (record { call = call.CloseKey key; place = at; «from» = begin }) h.table m) (Turned h.table m a (call.CloseKey key) at begin queue)
close_turn laws start h m a key place.Unpin begin queue s = unpin_turn h.table m a queue begin s.low s.queue_is key (s.held_word key s.right.held refl)
close_turn laws start h m a key _ begin queue s = tt

stat_turn : Laws → (start : Table) (h : History) (m : Memory) (a : ℕ) (key : Key) (at : Place) (begin : ℕ) (queue : List Key) → Stands start h m a (call.Stat key) at begin queue
    → IfSome (stat_move key at a (record { call = call.Stat key; place = at; «from» = begin }) h.table m) (Turned h.table m a (call.Stat key) at begin queue)
stat_turn laws start h m a key place.Read begin queue s =
    read_turn h.table m a queue begin s.queue_is key (record { there = s.right.group; free = s.free }) laws (is_open laws start h m s.inv a key s.right.held)
stat_turn laws start h m a key (place.Leave answer) begin queue s = ends _ _ (leaves (call.Stat key) answer (group_number key) refl) s.queue_is
stat_turn laws start h m a key _ begin queue s = tt

-- link, unlink and cut
link_turn : Laws → (start : Table) (h : History) (m : Memory) (a : ℕ) (made : Call) (key : Key) (at : Place) (begin : ℕ) (queue : List Key) → Stands start h m a made at begin queue
    → changer_key made ≡ Some key → group_of_call queue made ≡ Some (group_number key) → IsHeld h.entries a (Some key)
    → (at ≡ place.Lock → CanLock m (group_number key)) → Permits h.table made (reply_of h.table made)
    → ((answer : Reply) → at ≡ place.Mark answer → (row : Row) × MarkDue made h.table m key row)
    → IfSome (change_move key at a (record { call = made; place = at; «from» = begin }) h.table m) (Turned h.table m a made at begin queue)
link_turn laws start h m a made key place.Lock begin queue s is group held can permits due = goes _ _ _ (locks_change made key is (can refl)) s.queue_is
link_turn laws start h m a made key place.Change begin queue s is group held can permits due =
    change_turn h.table m a queue begin s.queue_is made key (reply_of h.table made) is permits
link_turn laws start h m a made key (place.Mark answer) begin queue s is group held can permits due =
    let marked = due answer refl in
    mark_turn h.table m a queue begin s.queue_is made key answer marked.0 is marked.1
link_turn laws start h m a made key (place.Leave answer) begin queue s is group held can permits due = ends _ _ (leaves made answer (group_number key) group) s.queue_is
link_turn laws start h m a made key _ begin queue s is group held can permits due = tt

-- what the move of a call that makes room rests on
room_facts : (start : Table) (h : History) (m : Memory) (a : ℕ) (made : Call) (at : Place) (begin : ℕ) (queue : List Key) → Stands start h m a made at begin queue
    → (at ≡ place.LockShort → (g : ℕ) → room_group made ≡ Some g → CanLock m g) → RoomFacts h.table m queue made at
room_facts start h m a made at begin queue s can = record {
  lock = λ g is here. can here g is;
  free = λ key others here.
      let kept : PlaceKeeps start h.entries h.table m queue (group_of_call queue made) begin made (place.Free key others) =
      subst (λ p. PlaceKeeps start h.entries h.table m queue (group_of_call queue made) begin made p) here s.right.keeps in
      kept.free.0;
  kill = λ key others here. subst (λ p. DueHolds made h.table m (due_at (first_key queue) made p)) here s.right.due;
}

grow_turn : Laws → (start : Table) (h : History) (m : Memory) (a : ℕ) (key : Key) (count : ℕ) (at : Place) (begin : ℕ) (queue : List Key) → Stands start h m a (call.Grow key count) at begin queue
    → RoomFacts h.table m queue (call.Grow key count) at
    → IfSome (grow_move key at a (record { call = call.Grow key count; place = at; «from» = begin }) h.table m) (Turned h.table m a (call.Grow key count) at begin queue)
grow_turn laws start h m a key count place.Answer begin queue s facts =
    grow_answer h.table m a queue begin s.queue_is key count (reply_of h.table (call.Grow key count))
    (laws.computed h.table (call.Grow key count) tt (is_open laws start h m s.inv a key s.right.held))
grow_turn laws start h m a key count at begin queue s facts = room_turn h.table m a queue begin s.queue_is (call.Grow key count) (group_number key) refl refl at facts

-- a group of the memory is one of the table
group_there : (start : Table) (h : History) (m : Memory) → Within start h m → (g : ℕ) → g < length m.groups → g < length h.table.groups
group_there start h m inv g low = subst (λ n. g < n) inv.shaped.groups low

create_turn : Laws → (start : Table) (h : History) (m : Memory) (a : ℕ) (made : Call) (g : ℕ) (at : Place) (begin : ℕ) (queue : List Key) → Stands start h m a made at begin queue
    → maker_group made ≡ Some g → room_group made ≡ Some g → group_of_call queue made ≡ Some g
    → reply_of h.table made ≡ create_reply (lowest_key g (prepared h.table.blocks g (group_at h.table g))) → Permits h.table made (reply_of h.table made)
    → RoomFacts h.table m queue made at
    → IfSome (create_move g at a (record { call = made; place = at; «from» = begin }) h.table m) (Turned h.table m a made at begin queue)
create_turn laws start h m a made g place.Answer begin queue s maker room group reply_is permits facts =
    subst (λ (r : Reply). Turned h.table m a made place.Answer begin queue (answer_create r a (record { call = made; place = place.Answer; «from» = begin }) m)) (sym reply_is)
    (create_answer h.table m a queue begin s.queue_is made g maker (lowest_key g (prepared h.table.blocks g (group_at h.table g))) (subst (Permits h.table made) reply_is permits))
create_turn laws start h m a made g (place.InstallMade key) begin queue s maker room group reply_is permits facts =
    install_made_turn h.table m a queue begin s.queue_is made g key s.right.due.0 maker s.right.due.1
create_turn laws start h m a made g at begin queue s maker room group reply_is permits facts = room_turn h.table m a queue begin s.queue_is made g room group at facts

-- the facts of a gc's place
head_facts : (start : Table) (h : History) (m : Memory) (a : ℕ) (at : Place) (begin : ℕ) (key : Key) (keys : List Key) → Stands start h m a call.Gc at begin (key ∷ keys)
    → HeadFacts h.table m key at
head_facts start h m a at begin key keys s = record {
  lock = λ here. record {
    there = s.right.group;
    free = subst (λ p. group_holder (Some (group_number key)) (takes_group p) m ≡ None) here s.free;
  };
  free = λ here. (subst (λ p. PlaceKeeps start h.entries h.table m (key ∷ keys) (Some (group_number key)) begin call.Gc p) here s.right.keeps).0;
  kill = λ here. subst (λ p. DueHolds call.Gc h.table m (due_at (Some key) call.Gc p)) here s.right.due;
}

gc_facts : (start : Table) (h : History) (m : Memory) (a : ℕ) (at : Place) (begin : ℕ) (queue : List Key) → Stands start h m a call.Gc at begin queue
    → (key : Key) (keys : List Key) → queue ≡ key ∷ keys → HeadFacts h.table m key at
gc_facts start h m a at begin queue s key keys is = head_facts start h m a at begin key keys (subst (λ q. Stands start h m a call.Gc at begin q) is s)

-- ---- any call

each_turn : Laws → (start : Table) (h : History) (m : Memory) (a : ℕ) (made : Call) (at : Place) (begin : ℕ) (queue : List Key) → Stands start h m a made at begin queue
    → IfSome (call_move made a (record { call = made; place = at; «from» = begin }) h.table m) (Turned h.table m a made at begin queue)
each_turn laws start h m a (call.Create g) at begin queue s =
    create_turn laws start h m a (call.Create g) g at begin queue s refl refl refl refl
    (laws.computed h.table (call.Create g) tt (group_there start h m s.inv g s.right.group))
    (room_facts start h m a (call.Create g) at begin queue s (λ here other is.
    subst (CanLock m) (same_Some g other is) (record { there = s.right.group; free = subst (λ p. group_holder (Some g) (takes_group p) m ≡ None) here s.free })))
each_turn laws start h m a (call.Tmpfile g) at begin queue s =
    create_turn laws start h m a (call.Tmpfile g) g at begin queue s refl refl refl refl
    (laws.computed h.table (call.Tmpfile g) tt (group_there start h m s.inv g s.right.group))
    (room_facts start h m a (call.Tmpfile g) at begin queue s (λ here other is.
    subst (CanLock m) (same_Some g other is) (record { there = s.right.group; free = subst (λ p. group_holder (Some g) (takes_group p) m ≡ None) here s.free })))
each_turn laws start h m a (call.OpenKey key) at begin queue s = open_turn laws start h m a key at begin queue s
each_turn laws start h m a (call.CloseKey key) at begin queue s = close_turn laws start h m a key at begin queue s
each_turn laws start h m a (call.Link key) at begin queue s =
    link_turn laws start h m a (call.Link key) key at begin queue s refl refl s.right.held
    (λ here. record { there = s.right.group; free = subst (λ p. group_holder (Some (group_number key)) (takes_group p) m ≡ None) here s.free })
    (laws.computed h.table (call.Link key) tt (is_open laws start h m s.inv a key s.right.held))
    (λ answer here. subst (λ p. DueHolds (call.Link key) h.table m (due_at (first_key queue) (call.Link key) p)) here s.right.due)
each_turn laws start h m a (call.Unlink key) at begin queue s =
    link_turn laws start h m a (call.Unlink key) key at begin queue s refl refl s.right.held
    (λ here. record { there = s.right.group; free = subst (λ p. group_holder (Some (group_number key)) (takes_group p) m ≡ None) here s.free })
    (laws.computed h.table (call.Unlink key) tt (is_open laws start h m s.inv a key s.right.held))
    (λ answer here. subst (λ p. DueHolds (call.Unlink key) h.table m (due_at (first_key queue) (call.Unlink key) p)) here s.right.due)
each_turn laws start h m a (call.Grow key count) at begin queue s =
    grow_turn laws start h m a key count at begin queue s (room_facts start h m a (call.Grow key count) at begin queue s (λ here g is.
    let same : group_number key ≡ g = same_Some (group_number key) g is in
    subst (CanLock m) same (record { there = s.right.group; free = subst (λ p. group_holder (Some (group_number key)) (takes_group p) m ≡ None) here s.free })))
each_turn laws start h m a (call.Cut key count) at begin queue s =
    link_turn laws start h m a (call.Cut key count) key at begin queue s refl refl s.right.held
    (λ here. record { there = s.right.group; free = subst (λ p. group_holder (Some (group_number key)) (takes_group p) m ≡ None) here s.free })
    (laws.computed h.table (call.Cut key count) tt (is_open laws start h m s.inv a key s.right.held))
    (λ answer here. absurd (false≢true (subst (λ p. stands_at (call.Cut key count) p ≡ true) here s.right.stands)))
each_turn laws start h m a (call.Stat key) at begin queue s = stat_turn laws start h m a key at begin queue s
each_turn laws start h m a call.Sync at begin queue s = tt
each_turn laws start h m a call.Home at begin queue s = tt
each_turn laws start h m a call.Gc at begin queue s =
    subst (λ (q : List Key). IfSome (gc_move q at a (record { call = call.Gc; place = at; «from» = begin }) h.table m) (Turned h.table m a call.Gc at begin queue)) (sym s.queue_is)
    (gc_turn h.table m a begin s.low queue s.queue_is at (gc_facts start h m a at begin queue s))
each_turn laws start h m a (call.FlushInodes g) at begin queue s =
    flush_turn h.table m a queue begin s.queue_is g at
    (λ here. record { there = s.right.group; free = subst (λ p. group_holder (Some g) (takes_group p) m ≡ None) here s.free })
each_turn laws start h m a (call.Reclaim g) at begin queue s =
    reclaim_turn h.table m a queue begin s.queue_is g at
    (λ here. record { there = s.right.group; free = subst (λ p. group_holder (Some g) (takes_group p) m ≡ None) here s.free })

-- ---- a step of a group

some_of : {X : Type 0} (P : X → Type 0) (o : Option X) (x : X) → IfSome o P → o ≡ Some x → P x
some_of P None x all is = absurd (none-some x is)
some_of P (Some y) x all is = subst P (same_Some y x is) all

-- an actor in a call is one of the actors
pub in_list : (m : Memory) (a : ℕ) (d : Doing) → (actor_at m a).doing ≡ Some d → a < length m.actors
in_list m a d inside =
    elim (cases_lt a (length m.actors)) [
      | inl low ↦ low
      | inr high ↦ absurd (none-some d (sym (ap (λ (x : Actor). x.doing) (read_past m.actors a idle_actor high)) ∙ inside))
    ]

-- where a step is made no lock is in its way
pub free_of_step : (waits : Option ℕ) (o : Option Move) (move : Move) → (if is_some waits then None else o) ≡ Some move → (waits ≡ None) × (o ≡ Some move)
free_of_step None o move is = (refl, is)
free_of_step (Some b) o move is = absurd (none-some move is)

pub stands_there : (start : Table) (h : History) (m : Memory) → Within start h m → (a : ℕ) (d : Doing) (inside : (actor_at m a).doing ≡ Some d)
    → waits_in_group (actor_at m a).queue d m ≡ None
    → ((key : Key) → IsHeld h.entries a (Some key) → d.call ≡ call.CloseKey key → HeldWord h.table m key)
    → Stands start h m a d.call d.place d.«from» (actor_at m a).queue
stands_there start h m inv a d inside free held_word = record {
  inv = inv;
  actor_is = ap (λ (o : Option Doing). record { doing = o; queue = (actor_at m a).queue }) inside;
  low = in_list m a d inside;
  queue_is = refl;
  right = subst (λ (o : Option Doing). DoingIsRight start h m a (actor_at m a).queue o) inside (inv.actors a).doing;
  free = free;
  held_word = held_word;
}

pub turn_of : Laws → (start : Table) (h : History) (m : Memory) → Within start h m → (a : ℕ) (d : Doing) (move : Move) → (actor_at m a).doing ≡ Some d → move_of a h.table m ≡ Some move
    → ((key : Key) → IsHeld h.entries a (Some key) → d.call ≡ call.CloseKey key → HeldWord h.table m key)
    → Turned h.table m a d.call d.place d.«from» (actor_at m a).queue move
turn_of laws start h m inv a d move inside made held_word =
    let step = free_of_step (waits_in_group (actor_at m a).queue d m) (call_move d.call a d h.table m) move (ap (λ (o : Option Doing). doing_move o a h.table m) (sym inside) ∙ made) in
    some_of (Turned h.table m a d.call d.place d.«from» (actor_at m a).queue) (call_move d.call a d h.table m) move
    (each_turn laws start h m a d.call d.place d.«from» (actor_at m a).queue (stands_there start h m inv a d inside step.0 held_word)) step.1
