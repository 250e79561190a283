-- A call that needs no lock that is held has a step.
use Rattle.std.proofs.Common.{◌≡◌, ℕ, Bool, true, false, List, [], ◌∷◌, Option, None, Some, IsSome, is_some, if◌then◌else◌, refl, sym, ap, subst, ◌∙◌}
use Rattle.std.proofs.lemmas.Option.{none-some}
use Rattle.std.proofs.lemmas.Bool.{false≢true, true≢false}
use Rattle.life_table.specs.declared.key.Key.{Key}
use Rattle.life_table.specs.declared.types.Call.{Call}
use Rattle.life_table.specs.declared.types.Call.TheVariants as call
use Rattle.life_table.specs.declared.table.Table.{Table}
use Rattle.actor_world.specs.declared.memory.Place.{Place}
use Rattle.actor_world.specs.declared.memory.Place.TheVariants as place
use Rattle.actor_world.specs.declared.memory.Doing.{Doing}
use Rattle.actor_world.specs.declared.memory.Memory.{Memory}
use Rattle.actor_world.specs.Caches.{actor_at}
use Rattle.actor_world.specs.Moves.{Move, call_move, change_move, create_move, doing_move, flush_move, gc_move, group_holder, group_of_call, grow_move, lies_in_group, move_of, open_move, reclaim_move, stands_at, stat_move, close_move, takes_group, waits_in_group, is_log_call}
use Rattle.actor_world.specs.World.{History}
use Rattle.actor_world.specs.Invariant.{PlaceKeeps}
use Rattle.actor_world.proofs.StepTurns.{call_of}
use Rattle.actor_world.proofs.Waits.{group_takes_none}
use Rattle.actor_world.proofs.Within.{Within}

module _ (a begin : ℕ) (t : Table) (m : Memory) where
  open_moves : (key : Key) (at : Place) → stands_at (call.OpenKey key) at ≡ true → IsSome (open_move key at a (record { call = call.OpenKey key; place = at; «from» = begin }) t m)
  open_moves key place.Load stands = refl
  open_moves key (place.Pin seen) stands = refl
  open_moves key place.Find stands = refl
  open_moves key place.LoadLocked stands = refl
  open_moves key (place.PinLocked seen) stands = refl
  open_moves key place.Install stands = refl
  open_moves key (place.Leave answer) stands = refl
  open_moves key _ stands = absurd (false≢true stands)

  close_moves : (key : Key) (at : Place) → stands_at (call.CloseKey key) at ≡ true → IsSome (close_move key at a (record { call = call.CloseKey key; place = at; «from» = begin }) t m)
  close_moves key place.Unpin stands = refl
  close_moves key _ stands = absurd (false≢true stands)

  stat_moves : (key : Key) (at : Place) → stands_at (call.Stat key) at ≡ true → IsSome (stat_move key at a (record { call = call.Stat key; place = at; «from» = begin }) t m)
  stat_moves key place.Read stands = refl
  stat_moves key (place.Leave answer) stands = refl
  stat_moves key _ stands = absurd (false≢true stands)

  change_moves : (key : Key) (made : Call) (at : Place) → stands_at (call.Link key) at ≡ true → IsSome (change_move key at a (record { call = made; place = at; «from» = begin }) t m)
  change_moves key made place.Lock stands = refl
  change_moves key made place.Change stands = refl
  change_moves key made (place.Mark answer) stands = refl
  change_moves key made (place.Leave answer) stands = refl
  change_moves key made _ stands = absurd (false≢true stands)

  cut_stands : (key : Key) (count : ℕ) (at : Place) → stands_at (call.Cut key count) at ≡ true → stands_at (call.Link key) at ≡ true
  cut_stands key count place.Lock stands = refl
  cut_stands key count place.Change stands = refl
  cut_stands key count (place.Leave answer) stands = refl
  cut_stands key count _ stands = absurd (false≢true stands)

  grow_moves : (key : Key) (count : ℕ) (at : Place) → stands_at (call.Grow key count) at ≡ true → IsSome (grow_move key at a (record { call = call.Grow key count; place = at; «from» = begin }) t m)
  grow_moves key count place.LockShort stands = refl
  grow_moves key count (place.Free gone others) stands = refl
  grow_moves key count (place.Kill gone others) stands = refl
  grow_moves key count place.Answer stands = refl
  grow_moves key count (place.Leave answer) stands = refl
  grow_moves key count _ stands = absurd (false≢true stands)

  create_moves : (g : ℕ) (made : Call) (at : Place) → stands_at (call.Create g) at ≡ true → IsSome (create_move g at a (record { call = made; place = at; «from» = begin }) t m)
  create_moves g made place.LockShort stands = refl
  create_moves g made (place.Free gone others) stands = refl
  create_moves g made (place.Kill gone others) stands = refl
  create_moves g made place.Answer stands = refl
  create_moves g made (place.InstallMade key) stands = refl
  create_moves g made (place.Leave answer) stands = refl
  create_moves g made _ stands = absurd (false≢true stands)

  flush_moves : (g : ℕ) (at : Place) → stands_at (call.FlushInodes g) at ≡ true → IsSome (flush_move g at a (record { call = call.FlushInodes g; place = at; «from» = begin }) t m)
  flush_moves g place.LockFlush stands = refl
  flush_moves g place.Copy stands = refl
  flush_moves g place.End stands = refl
  flush_moves g _ stands = absurd (false≢true stands)

  reclaim_moves : (g : ℕ) (at : Place) → stands_at (call.Reclaim g) at ≡ true → IsSome (reclaim_move g at a (record { call = call.Reclaim g; place = at; «from» = begin }) t m)
  reclaim_moves g place.LockReclaim stands = refl
  reclaim_moves g (place.Retire number others) stands = refl
  reclaim_moves g place.End stands = refl
  reclaim_moves g _ stands = absurd (false≢true stands)

  -- a gc has a key behind its first step
  gc_moves : (start : Table) (h : History) (g : Option ℕ) (queue : List Key) (at : Place) → stands_at call.Gc at ≡ true → PlaceKeeps start h.entries t m queue g begin call.Gc at
      → IsSome (gc_move queue at a (record { call = call.Gc; place = at; «from» = begin }) t m)
  gc_moves start h g [] place.Next stands keeps = refl
  gc_moves start h g [] place.FreeHead stands keeps = absurd keeps
  gc_moves start h g [] place.KillHead stands keeps = absurd keeps
  gc_moves start h g [] place.Pass stands keeps = absurd keeps
  gc_moves start h g [] _ stands keeps = absurd (false≢true stands)
  gc_moves start h g (key ∷ keys) place.Next stands keeps = refl
  gc_moves start h g (key ∷ keys) place.FreeHead stands keeps = refl
  gc_moves start h g (key ∷ keys) place.KillHead stands keeps = refl
  gc_moves start h g (key ∷ keys) place.Pass stands keeps = refl
  gc_moves start h g (key ∷ keys) _ stands keeps = absurd (false≢true stands)

  call_moves : (start : Table) (h : History) (g : Option ℕ) (made : Call) (at : Place) → is_log_call made ≡ false → stands_at made at ≡ true
      → PlaceKeeps start h.entries t m (actor_at m a).queue g begin made at → IsSome (call_move made a (record { call = made; place = at; «from» = begin }) t m)
  call_moves start h g (call.Create at_group) at log stands keeps = create_moves at_group (call.Create at_group) at stands
  call_moves start h g (call.Tmpfile at_group) at log stands keeps = create_moves at_group (call.Tmpfile at_group) at stands
  call_moves start h g (call.OpenKey key) at log stands keeps = open_moves key at stands
  call_moves start h g (call.CloseKey key) at log stands keeps = close_moves key at stands
  call_moves start h g (call.Link key) at log stands keeps = change_moves key (call.Link key) at stands
  call_moves start h g (call.Unlink key) at log stands keeps = change_moves key (call.Unlink key) at stands
  call_moves start h g (call.Grow key count) at log stands keeps = grow_moves key count at stands
  call_moves start h g (call.Cut key count) at log stands keeps = change_moves key (call.Cut key count) at (cut_stands key count at stands)
  call_moves start h g (call.Stat key) at log stands keeps = stat_moves key at stands
  call_moves start h g call.Sync at log stands keeps = absurd (true≢false log)
  call_moves start h g call.Home at log stands keeps = absurd (true≢false log)
  call_moves start h g call.Gc at log stands keeps = gc_moves start h g (actor_at m a).queue at stands keeps
  call_moves start h g (call.FlushInodes at_group) at log stands keeps = flush_moves at_group at stands
  call_moves start h g (call.Reclaim at_group) at log stands keeps = reclaim_moves at_group at stands

-- a step that waits for no lock is the call's move
free_move : (waits : Option ℕ) (o : Option Move) → waits ≡ None → IsSome o → IsSome (if is_some waits then None else o)
free_move None o free some = some
free_move (Some b) o free some = absurd (none-some b (sym free))

pub can_step : (start : Table) (h : History) (m : Memory) → Within start h m → (a : ℕ) (d : Doing) → (actor_at m a).doing ≡ Some d → is_log_call d.call ≡ false
    → waits_in_group (actor_at m a).queue d m ≡ None → IsSome (move_of a h.table m)
can_step start h m inv a d inside log free =
    let right = call_of start h m inv a d inside in
    subst (λ (o : Option Doing). IsSome (doing_move o a h.table m)) (sym inside)
    (free_move (waits_in_group (actor_at m a).queue d m) (call_move d.call a d h.table m) free
    (call_moves a d.«from» h.table m start h (group_of_call (actor_at m a).queue d.call) d.call d.place log right.stands right.keeps))

-- a call that waits for a holder has no step
waits_move : (waits : Option ℕ) (o : Option Move) (b : ℕ) → waits ≡ Some b → (if is_some waits then None else o) ≡ None
waits_move None o b is = absurd (none-some b is)
waits_move (Some other) o b is = refl

pub waits_there : (t : Table) (m : Memory) (a b : ℕ) (d : Doing) → (actor_at m a).doing ≡ Some d → waits_in_group (actor_at m a).queue d m ≡ Some b → move_of a t m ≡ None
waits_there t m a b d inside waits =
    ap (λ (o : Option Doing). doing_move o a t m) inside ∙ waits_move (waits_in_group (actor_at m a).queue d m) (call_move d.call a d t m) b waits

-- whoever holds a lock waits for none
no_lock_taken : (g : Option ℕ) (takes : Bool) (m : Memory) → takes ≡ false → group_holder g takes m ≡ None
no_lock_taken None takes m is = refl
no_lock_taken (Some g) takes m is = ap (λ b. group_holder (Some g) b m) is

pub holder_waits_not : (queue : List Key) (d : Doing) (m : Memory) → lies_in_group d.place ≡ true → waits_in_group queue d m ≡ None
holder_waits_not queue d m lies = no_lock_taken (group_of_call queue d.call) (takes_group d.place) m (group_takes_none d.place lies).0
