-- What is so of every world that a mount and steps of actors lead to.
use Rattle.std.specs.Prelude.{◌≡◌, ◌≤◌, ◌<◌, ◌+◌, ◌-◌, ◌*◌, ◌/◌, ◌++◌, ◌∷◌, ◌⊎◌, ◌↔◌, ⊤, ℕ, Bool, true, false, List, [], Option, None, Some, IsSome, IsSomeAnd, take, length, slice_get}
use Rattle.std.specs.List.{All, AllByRecursion, Contains}
use Rattle.life_limits.specs.declared.TheConstants.{BLOCK_SECTORS, GROUP_NUMBERS, MAX_ACTORS}
use Rattle.log_record.specs.declared.image.Commit.{Commit}
use Rattle.log_store.specs.declared.store.Job.{Job}
use Rattle.log_store.specs.declared.store.Job.TheVariants as job
use Rattle.log_store.specs.declared.store.Stage.{Stage}
use Rattle.log_store.specs.declared.store.Stage.TheVariants.{Down, Free, Half, Record}
use Rattle.log_store.specs.State.{State, state_of}
use Rattle.log_store.specs.Outcome.{down_count, goal_of}
use Rattle.life_table.specs.declared.key.Key.{Key}
use Rattle.life_table.specs.declared.types.Call.{Call}
use Rattle.life_table.specs.declared.types.Call.TheVariants as call
use Rattle.life_table.specs.declared.types.Reply.{Reply}
use Rattle.life_table.specs.declared.types.Reply.TheVariants as reply
use Rattle.life_table.specs.declared.types.Event.TheVariants.{Called, Freed}
use Rattle.life_table.specs.declared.types.Entry.{Entry}
use Rattle.life_table.specs.declared.table.Table.{Table}
use Rattle.life_table.specs.Table.{group_number, row_of}
use Rattle.life_table.specs.Legal.{Awaits, Short}
use Rattle.life_table.specs.History.{IsHeld, LegalHistory, changes, is_change, key_of}
use Rattle.life_table.specs.WellFormed.{IsTable}
use Rattle.slot_words.specs.declared.sight.Sight.TheVariants.{Open}
use Rattle.slot_words.specs.declared.word.Word.{Word}
use Rattle.slot_words.specs.Steps.{sight_of}
use Rattle.actor_world.specs.declared.memory.GroupCache.{GroupCache}
use Rattle.actor_world.specs.declared.memory.Residence.TheVariants.{Absent, Clean}
use Rattle.actor_world.specs.declared.memory.Place.{Place}
use Rattle.actor_world.specs.declared.memory.Place.TheVariants as place
use Rattle.actor_world.specs.declared.memory.Doing.{Doing}
use Rattle.actor_world.specs.declared.memory.Actor.{Actor}
use Rattle.actor_world.specs.declared.memory.Memory.{Memory}
use Rattle.actor_world.specs.Caches.{actor_at, cache_at, cached_word, slot_at}
use Rattle.actor_world.specs.Moves.{group_of_call, lies_in_group, lies_in_log, stands_at}
use Rattle.actor_world.specs.World.{History, World, told}
use Rattle.actor_world.specs.Steps.{Telling}
use Rattle.actor_world.specs.Words.{Due, DueHolds, WordSays, due_at, due_number, nothing}
use Rattle.actor_world.specs.Licence.{Interval, Licensed, Unfinished, queue_at, table_at}

-- ---- words and locks

abbrev pub first_key : List Key → Option Key
first_key [] = None
first_key (key ∷ keys) = Some key

abbrev pub due_of_doing : List Key → Option Doing → Due
due_of_doing queue None = nothing
due_of_doing queue (Some d) = due_at (first_key queue) d.call d.place

abbrev pub due_of_actor : Actor → Due
due_of_actor actor = due_of_doing actor.queue actor.doing

abbrev pub due_of_holder : Memory → Option ℕ → Due
due_of_holder m None = nothing
due_of_holder m (Some a) = due_of_actor (actor_at m a)

-- what the holder of a group's lock is about to mend
abbrev pub due_in : Memory → ℕ → Due
due_in m g = due_of_holder m (cache_at m g).holder

-- No word lies but the one that the holder of its group's lock is about to mend.
abbrev pub WordIsRight : Table → Memory → ℕ → Type 0
WordIsRight t m number = (due_number (due_in m (number / GROUP_NUMBERS)) ≡ Some number) ⊎ WordSays t (cached_word m number) number

-- what is so while an actor is about to mend a word
abbrev pub DueOfDoing : Table → Memory → List Key → Option Doing → Type 0
DueOfDoing t m queue None = ⊤
DueOfDoing t m queue (Some d) = DueHolds d.call t m (due_at (first_key queue) d.call d.place)

-- the actor's place lies between the taking and the giving back of the group's lock, or of the log's
abbrev pub LiesInGroup : ℕ → Actor → Type 0
LiesInGroup g actor = IsSomeAnd actor.doing (λ (d : Doing). (lies_in_group d.place ≡ true) × (group_of_call actor.queue d.call ≡ Some g))

abbrev pub LiesInLog : Actor → Type 0
LiesInLog actor = IsSomeAnd actor.doing (λ (d : Doing). lies_in_log d.place ≡ true)

-- ---- what a place keeps

-- the key that an open is of
abbrev pub opened_key : Call → Option Key
opened_key (call.OpenKey key) = Some key
opened_key _ = None

-- the word that an open keeps shows that it can be pinned
abbrev pub ShowsOpen : Word → Key → Type 0
ShowsOpen seen key = sight_of key.generation seen ≡ Open

abbrev pub HasRow : Table → Key → Type 0
HasRow t key = IsSome (row_of t key)

-- a row that a call has still to free awaits, and is of the call's group
abbrev pub MayBeFreed : Table → Option ℕ → Key → Type 0
MayBeFreed t g key = IsSomeAnd (row_of t key) Awaits × (Some (group_number key) ≡ g)

-- the keys ascend, so none stands there twice
abbrev pub KeysAscend : List Key → Type 0
KeysAscend [] = ⊤
KeysAscend (key ∷ keys) = AllByRecursion (λ (later : Key). key.number < later.number) keys × KeysAscend keys

-- The rows that are still to be freed; and no row of the group that awaited as the call began is passed: it is among
-- these, or it has no row any more.
pub record RowsLeft (start : Table) (entries : List Entry) (t : Table) (g : Option ℕ) (begin : ℕ) (keys : List Key) : Type 0 where
  pub free : AllByRecursion (MayBeFreed t g) keys
  pub ascend : KeysAscend keys
  pub passed : (key : Key) → Some (group_number key) ≡ g → IsSomeAnd (row_of (table_at start entries begin) key) Awaits → HasRow t key → Contains keys key

-- before its answer a call that is still short has passed none
abbrev pub NoneLeft : Table → List Entry → Table → Option ℕ → ℕ → Call → Type 0
NoneLeft start entries t g begin made = Short t made → RowsLeft start entries t g begin []

-- so do numbers
abbrev pub NumbersAscend : List ℕ → Type 0
NumbersAscend [] = ⊤
NumbersAscend (number ∷ numbers) = AllByRecursion (λ (later : ℕ). number < later) numbers × NumbersAscend numbers

-- what a reclaim has still to look at is in core and clean, in its group
abbrev pub IsCleanIn : Memory → Option ℕ → ℕ → Type 0
IsCleanIn m g number = ((slot_at m number).inode ≡ Clean) × (Some (number / GROUP_NUMBERS) ≡ g)

-- the head of an actor's queue has no row
abbrev pub HeadIsPassed : Table → Option Key → Type 0
HeadIsPassed t None = ⊥
HeadIsPassed t (Some key) = row_of t key ≡ None

-- what the place of a call keeps; `g` is the group of the call
abbrev pub PlaceKeeps : Table → List Entry → Table → Memory → List Key → Option ℕ → ℕ → Call → Place → Type 0
PlaceKeeps start entries t m queue g begin made (place.Pin seen) = IsSomeAnd (opened_key made) (ShowsOpen seen)
PlaceKeeps start entries t m queue g begin made place.LoadLocked = IsSomeAnd (opened_key made) (HasRow t)
PlaceKeeps start entries t m queue g begin made (place.PinLocked seen) = IsSomeAnd (opened_key made) (ShowsOpen seen) × IsSomeAnd (opened_key made) (HasRow t)
PlaceKeeps start entries t m queue g begin made place.Install = IsSomeAnd (opened_key made) (λ key. HasRow t key × ((cached_word m key.number).live ≡ false))
PlaceKeeps start entries t m queue g begin made (place.Free key others) = RowsLeft start entries t g begin (key ∷ others)
PlaceKeeps start entries t m queue g begin made (place.Kill key others) = RowsLeft start entries t g begin others
PlaceKeeps start entries t m queue g begin made place.Answer = NoneLeft start entries t g begin made
PlaceKeeps start entries t m queue g begin made place.FreeHead = IsSomeAnd (first_key queue) (MayBeFreed t g)
PlaceKeeps start entries t m queue g begin made place.KillHead = HeadIsPassed t (first_key queue)
PlaceKeeps start entries t m queue g begin made place.Pass = HeadIsPassed t (first_key queue)
PlaceKeeps start entries t m queue g begin made (place.Retire number others) = AllByRecursion (IsCleanIn m g) (number ∷ others) × NumbersAscend (number ∷ others)
PlaceKeeps start entries t m queue g begin made _ = ⊤

-- ---- entries of calls in progress

-- the reply of a call whose entry is made and which goes on
abbrev pub reply_at : Place → Option Reply
reply_at (place.Leave answer) = Some answer
reply_at (place.Mark answer) = Some answer
reply_at (place.InstallMade key) = Some (reply.Made key)
reply_at _ = None

-- The entry of a call of this actor that began at this entry: where its place has a reply there is one with that reply,
-- and no other; where it has none there is no entry.
abbrev pub HasEntry : List Entry → List ℕ → ℕ → ℕ → Call → Option Reply → Type 0
HasEntry entries froms a begin made None = (j : ℕ) (other : Call) (answer : Reply)
    → slice_get entries j ≡ Some (record { actor = a; event = Called other answer }) → slice_get froms j ≡ Some begin → ⊥
HasEntry entries froms a begin made (Some answer) =
    (i : ℕ) × (slice_get entries i ≡ Some (record { actor = a; event = Called made answer })) × (slice_get froms i ≡ Some begin)
    × ((j : ℕ) (other : Call) (reply : Reply) → slice_get entries j ≡ Some (record { actor = a; event = Called other reply })
    → slice_get froms j ≡ Some begin → j ≡ i)

-- a call has freed a key
abbrev pub HasFreed : List Entry → List ℕ → ℕ → ℕ → Key → Type 0
HasFreed entries froms a begin key = (i : ℕ) × (slice_get entries i ≡ Some (record { actor = a; event = Freed key })) × (slice_get froms i ≡ Some begin)

-- a call that is about to free is still short where it has freed nothing; one that is about to kill a word has freed its key
abbrev pub FreesAreRight : List Entry → List ℕ → Table → ℕ → ℕ → Call → Place → Type 0
FreesAreRight entries froms t a begin made (place.Free key others) = ((gone : Key) → HasFreed entries froms a begin gone → ⊥) → Short t made
FreesAreRight entries froms t a begin made (place.Kill key others) = HasFreed entries froms a begin key
FreesAreRight entries froms t a begin made _ = ⊤

-- a group of the image is there
abbrev pub IsThere : Memory → Option ℕ → Type 0
IsThere m None = ⊤
IsThere m (Some g) = g < length m.groups

-- the group of a call is there; an open has not looked for it at its first place
abbrev pub GroupIsThere : Memory → List Key → Call → Place → Type 0
GroupIsThere m queue (call.OpenKey key) place.Load = ⊤
GroupIsThere m queue made at = IsThere m (group_of_call queue made)

-- the key that a call made whose word is not in place yet
abbrev pub key_made : Place → Option Key
key_made (place.InstallMade key) = Some key
key_made _ = None

-- what is so of an actor in a call: the call began before now; it stands at one of its places; its group is there; it has
-- its hold, also on what it has made; its entry and its frees are as its place says; and what the place keeps is so. What is
-- due is in the group of the call.
pub record CallIsRight (start : Table) (h : History) (m : Memory) (a : ℕ) (queue : List Key) (d : Doing) : Type 0 where
  pub begun : d.«from» ≤ length h.entries
  pub stands : stands_at d.call d.place ≡ true
  pub group : GroupIsThere m queue d.call d.place
  pub held : IsHeld h.entries a (key_of d.call)
  pub made : IsHeld h.entries a (key_made d.place)
  pub entry : HasEntry h.entries h.froms a d.«from» d.call (reply_at d.place)
  pub frees : FreesAreRight h.entries h.froms h.table a d.«from» d.call d.place
  pub keeps : PlaceKeeps start h.entries h.table m queue (group_of_call queue d.call) d.«from» d.call d.place
  pub due : DueHolds d.call h.table m (due_at (first_key queue) d.call d.place)
  pub due_here : (number : ℕ) → due_number (due_at (first_key queue) d.call d.place) ≡ Some number → group_of_call queue d.call ≡ Some (number / GROUP_NUMBERS)

abbrev pub DoingIsRight : Table → History → Memory → ℕ → List Key → Option Doing → Type 0
DoingIsRight start h m a queue None = ⊤
DoingIsRight start h m a queue (Some d) = CallIsRight start h m a queue d

-- whether an actor is in a gc
abbrev pub is_gc_call : Call → Bool
is_gc_call call.Gc = true
is_gc_call _ = false

abbrev pub is_gc : Option Doing → Bool
is_gc None = false
is_gc (Some d) = is_gc_call d.call

-- the rest of a queue: what was passed has no row
pub record PartOfQueue (t : Table) (queue whole : List Key) : Type 0 where
  pub passed : List Key
  pub parts : whole ≡ passed ++ queue
  pub gone : All (λ (key : Key). row_of t key ≡ None) passed

-- The queue of an actor is what waits for its gc. Inside a gc it is the rest of that.
abbrev pub QueueIsRight : Bool → Table → List Key → List Key → Type 0
QueueIsRight true t queue whole = PartOfQueue t queue whole
QueueIsRight false t queue whole = queue ≡ whole

-- what is so of an actor: the groups of the keys that wait for it are there; they are those that its history left; and
-- its call is right
pub record ActorIsRight (start : Table) (h : History) (m : Memory) (a : ℕ) (actor : Actor) : Type 0 where
  pub there : AllByRecursion (λ (key : Key). group_number key < length m.groups) actor.queue
  pub queue : QueueIsRight (is_gc actor.doing) h.table actor.queue (queue_at start h.entries (length h.entries) a)
  pub doing : DoingIsRight start h m a actor.queue actor.doing

-- ---- calls in progress that are not answered yet

abbrev pub unanswered : ℕ → Doing → Option Reply → List Unfinished
unanswered a d None = record { actor = a; call = d.call; begin = d.«from» } ∷ []
unanswered a d (Some answer) = []

abbrev pub unfinished_of : ℕ → Option Doing → List Unfinished
unfinished_of a None = []
unfinished_of a (Some d) = unanswered a d (reply_at d.place)

-- those of these actors, which are numbered from here on
abbrev pub unfinished_from : ℕ → List Actor → List Unfinished
unfinished_from a [] = []
unfinished_from a (actor ∷ actors) = unfinished_of a actor.doing ++ unfinished_from (a + 1) actors

-- ---- commits and the store's job

-- a change has the first of these commits, which is told of it, and the others are right for what follows; where there is
-- no change, all are
abbrev pub CommitOf : Telling → History → History → Bool → (List Commit → Type 0) → List Commit → Type 0
CommitOf tells old new false Rest commits = Rest commits
CommitOf tells old new true Rest [] = ⊥
CommitOf tells old new true Rest (commit ∷ commits) = tells old new commit × Rest commits

-- These commits are told of the changes of these entries, one each, in order.
abbrev pub CommitsOf : Telling → History → List Entry → List ℕ → List Commit → Type 0
CommitsOf tells h [] froms commits = commits ≡ []
CommitsOf tells h (entry ∷ entries) [] commits = ⊥
CommitsOf tells h (entry ∷ entries) (begin ∷ froms) commits =
    CommitOf tells h (told entry.actor begin entry.event h) (is_change entry.event)
    (CommitsOf tells (told entry.actor begin entry.event h) entries froms) commits

-- the history from which a mount's entries begin
abbrev pub beginning_of : Table → History
beginning_of start = record { table = start; entries = []; froms = [] }

-- how many changes of the mount are durable
abbrev pub durable_changes : ℕ → State → ℕ
durable_changes first_commit s = (s.durable + 1) - first_commit

-- Behind the commits that are durable the store's list and then the queue tell the changes, one each, in order.
pub record CommitsAreRight {D : Type 0} (tells : Telling) (start : Table) (w : World D) : Type 0 where
  pub durable : List Commit
  pub first : w.first_commit ≤ (state_of w.store).durable + 1
  pub count : length durable ≡ durable_changes w.first_commit (state_of w.store)
  pub tell : CommitsOf tells (beginning_of start) w.history.entries w.history.froms (durable ++ (state_of w.store).list ++ w.queue)

-- a record that is being written takes no more commits than wait
abbrev pub TakenFits : Stage → State → Type 0
TakenFits Half s = s.taken ≤ length s.list
TakenFits Record s = s.taken ≤ length s.list
TakenFits _ s = ⊤

-- a store without a job has nothing in flight
abbrev pub IsAtRest : Stage → Type 0
IsAtRest Free = ⊤
IsAtRest (Down fault) = ⊤
IsAtRest _ = ⊥

-- what is so of the store's job at a place of the log's holder: at a sync it is a force, and reaches all changes from
-- before the call; at a home it is one
abbrev pub JobAt : State → ℕ → List Entry → Job → ℕ → Place → Type 0
JobAt s first_commit entries going begin place.Force =
    (goal_of going ≡ job.Force) × (0 < length s.list) × TakenFits s.stage s
    × (length (changes (take begin entries)) ≤ durable_changes first_commit s + length s.list)
JobAt s first_commit entries going begin place.WriteHome = (goal_of going ≡ job.Home) × TakenFits s.stage s
JobAt s first_commit entries going begin _ = ⊤

abbrev pub JobOfDoing : State → ℕ → List Entry → Job → Option Doing → Type 0
JobOfDoing s first_commit entries going None = ⊤
JobOfDoing s first_commit entries going (Some d) = JobAt s first_commit entries going d.«from» d.place

abbrev pub JobOfHolder : State → History → Memory → ℕ → Job → Option ℕ → Type 0
JobOfHolder s h m first_commit going None = (going ≡ job.Idle) × IsAtRest s.stage
JobOfHolder s h m first_commit going (Some a) = (down_count s.stage ≡ None) × JobOfDoing s first_commit h.entries going (actor_at m a).doing

-- The store has a job exactly where the holder of its lock is at one; and no sync was answered more than is durable.
pub record JobIsRight {D : Type 0} (w : World D) : Type 0 where
  pub job : JobOfHolder (state_of w.store) w.history w.memory w.first_commit w.store.job w.holder
  pub covered : (i a n : ℕ) (made : Call) → slice_get w.history.entries i ≡ Some (record { actor = a; event = Called made (reply.Covered n) })
      → n ≤ durable_changes w.first_commit (state_of w.store)

-- ---- the invariant

-- there are so many actors; a cache for each group of the table; and a slot for each sector of a group
pub record IsShaped (t : Table) (m : Memory) : Type 0 where
  pub actors : length m.actors ≡ MAX_ACTORS
  pub groups : length m.groups ≡ length t.groups
  pub slots : AllByRecursion (λ (cache : GroupCache). length cache.slots ≡ t.blocks * BLOCK_SECTORS) m.groups

-- What is so of a world for the table from which its history begins: the history is legal; entries stand within their
-- calls; each free has its licence; no word lies but the one that a lock's holder is about to mend; no live word is without
-- an inode in core; a lock is held exactly by the actor whose place lies in it; each actor's queue, hold, entry and place
-- are right; commits tell the changes; and the store's job is its lock holder's.
pub record Invariant {D : Type 0} (tells : Telling) (start : Table) (w : World D) : Type 0 where
  pub table : IsTable start
  pub shaped : IsShaped w.history.table w.memory
  pub legal : LegalHistory start w.history.entries w.history.table
  pub intervals : Interval w.history.entries w.history.froms
  pub licensed : Licensed start w.history.entries w.history.froms (unfinished_from 0 w.memory.actors)
  pub words : (number : ℕ) → WordIsRight w.history.table w.memory number
  pub cached : (number : ℕ) → (cached_word w.memory number).live ≡ true → (slot_at w.memory number).inode ≡ Absent → ⊥
  pub group_locks : (g a : ℕ) → (cache_at w.memory g).holder ≡ Some a ↔ LiesInGroup g (actor_at w.memory a)
  pub log_lock : (a : ℕ) → w.holder ≡ Some a ↔ LiesInLog (actor_at w.memory a)
  pub actors : (a : ℕ) → ActorIsRight start w.history w.memory a (actor_at w.memory a)
  pub commits : CommitsAreRight tells start w
  pub job : JobIsRight w
