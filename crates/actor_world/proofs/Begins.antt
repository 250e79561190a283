-- A call that begins leaves a world that meets the invariant.
use Rattle.std.proofs.Common.{◌≡◌, ◌≢◌, ◌<◌, ◌≤◌, ◌+◌, ◌/◌, inl, inr, ℕ, zero, suc, true, false, List, [], ◌∷◌, ◌++◌, Option, None, Some, IsSomeAnd, length, slice_index_or, slice_set, refl, sym, ap, subst, ◌∙◌, arith}
use Rattle.std.specs.Prelude.{◌↔◌}
use Rattle.std.specs.List.{AllByRecursion, Contains}
use Rattle.std.proofs.lemmas.List.Elements.{All-nil}
use Rattle.std.proofs.lemmas.Option.{none-some, slice_get_within}
use Rattle.std.proofs.lemmas.Bool.{cases_eq, true≢false}
use Rattle.life_limits.specs.declared.TheConstants.{GROUP_NUMBERS}
use Rattle.log_store.specs.declared.store.Job.{Job}
use Rattle.log_store.specs.State.{State, state_of}
use Rattle.life_table.specs.declared.key.Key.{Key}
use Rattle.life_table.specs.declared.types.Row.{Row}
use Rattle.life_table.specs.declared.types.Call.{Call}
use Rattle.life_table.specs.declared.types.Call.TheVariants as call
use Rattle.life_table.specs.declared.types.Reply.{Reply}
use Rattle.life_table.specs.declared.table.Table.{Table}
use Rattle.life_table.specs.Table.{group_number, inode_of, row_of}
use Rattle.life_table.specs.History.{IsHeld, key_of}
use Rattle.actor_world.specs.declared.memory.Place.TheVariants as place
use Rattle.actor_world.specs.declared.memory.Doing.{Doing}
use Rattle.actor_world.specs.declared.memory.Actor.{Actor}
use Rattle.actor_world.specs.declared.memory.Memory.{Memory}
use Rattle.actor_world.specs.Caches.{actor_at, cache_at, idle_actor, with_actor}
use Rattle.actor_world.specs.Moves.{first_place, group_of_call, lies_in_group, lies_in_log, stands_at}
use Rattle.actor_world.specs.World.{GroupExists, History, IsBegun, World, beginning}
use Rattle.actor_world.specs.Steps.{Telling}
use Rattle.actor_world.specs.Words.{Due, DueHolds, due_at, due_number, install, kill, mark, nothing}
use Rattle.actor_world.specs.Licence.{BelongsTo, Interval, Licensed, Unfinished, queue_at}
use Rattle.actor_world.specs.Invariant.{ActorIsRight, DoingIsRight, FreesAreRight, GroupIsThere, HasEntry, Invariant, JobOfDoing, JobOfHolder, LiesInGroup, LiesInLog, PlaceKeeps, QueueIsRight, WordIsRight, due_of_actor, due_of_doing, due_of_holder, first_key, is_gc, is_gc_call, key_made, reply_at, unanswered, unfinished_from, unfinished_of}
use Rattle.actor_world.proofs.Geometry.{is_placed}
use Rattle.actor_world.proofs.Lists.{contains_cons, read_other, read_same, set-length, the_some}
use Rattle.actor_world.proofs.LiveWords.{has_inode}
use Rattle.actor_world.proofs.TurnsFound.{Laws, table_now}
use Rattle.actor_world.proofs.Within.{Within, within}

-- ---- the first place of a call

first_stands : (made : Call) → stands_at made (first_place made) ≡ true
first_stands (call.Create g) = refl
first_stands (call.Tmpfile g) = refl
first_stands (call.OpenKey key) = refl
first_stands (call.CloseKey key) = refl
first_stands (call.Link key) = refl
first_stands (call.Unlink key) = refl
first_stands (call.Grow key count) = refl
first_stands (call.Cut key count) = refl
first_stands (call.Stat key) = refl
first_stands _ = refl

first_lies : (made : Call) → lies_in_group (first_place made) ≡ false
first_lies (call.Create g) = refl
first_lies _ = refl

first_log : (made : Call) → lies_in_log (first_place made) ≡ false
first_log (call.Create g) = refl
first_log _ = refl

first_due : (first : Option Key) (made : Call) → due_at first made (first_place made) ≡ nothing
first_due first (call.Create g) = refl
first_due first _ = refl

first_reply : (made : Call) → reply_at (first_place made) ≡ None
first_reply (call.Create g) = refl
first_reply _ = refl

first_made : (made : Call) → key_made (first_place made) ≡ None
first_made (call.Create g) = refl
first_made _ = refl

first_frees : (h : History) (a begin : ℕ) (made : Call) → FreesAreRight h.entries h.froms h.table a begin made (first_place made)
first_frees h a begin (call.Create g) = tt
first_frees h a begin _ = tt

first_keeps : (start : Table) (h : History) (m : Memory) (queue : List Key) (g : Option ℕ) (begin : ℕ) (made : Call) → PlaceKeeps start h.entries h.table m queue g begin made (first_place made)
first_keeps start h m queue g begin (call.Create h2) = tt
first_keeps start h m queue g begin _ = tt

-- ---- the group of a call

key_there : Laws → (start : Table) (h : History) (m : Memory) → Within start h m → (a : ℕ) (key : Key) → IsHeld h.entries a (Some key) → group_number key < length m.groups
key_there laws start h m inv a key held =
    let some = the_some (λ (r : Row). 1 ≤ r.opens) (row_of h.table key) (laws.held start h.table h.entries a key inv.table inv.legal held) in
    let has = has_inode (inode_of h.table key.number) key.generation some.0 some.1 in
    let placed = is_placed h.table key.number has.inode (table_now laws start h m inv) has.at in
    omega (arith, placed.group, inv.shaped.groups)

queue_there : (m : Memory) (queue : List Key) → AllByRecursion (λ (key : Key). group_number key < length m.groups) queue → GroupIsThere m queue call.Gc place.Next
queue_there m [] all = tt
queue_there m (key ∷ keys) all = all.0

group_there : Laws → (start : Table) (h : History) (m : Memory) → Within start h m → (a : ℕ) (queue : List Key) (made : Call) → IsHeld h.entries a (key_of made) → GroupExists m made
    → AllByRecursion (λ (key : Key). group_number key < length m.groups) queue → GroupIsThere m queue made (first_place made)
group_there laws start h m inv a queue (call.Create g) held there all = there
group_there laws start h m inv a queue (call.Tmpfile g) held there all = there
group_there laws start h m inv a queue (call.OpenKey key) held there all = tt
group_there laws start h m inv a queue (call.CloseKey key) held there all = key_there laws start h m inv a key held
group_there laws start h m inv a queue (call.Link key) held there all = key_there laws start h m inv a key held
group_there laws start h m inv a queue (call.Unlink key) held there all = key_there laws start h m inv a key held
group_there laws start h m inv a queue (call.Grow key count) held there all = key_there laws start h m inv a key held
group_there laws start h m inv a queue (call.Cut key count) held there all = key_there laws start h m inv a key held
group_there laws start h m inv a queue (call.Stat key) held there all = key_there laws start h m inv a key held
group_there laws start h m inv a queue call.Sync held there all = tt
group_there laws start h m inv a queue call.Home held there all = tt
group_there laws start h m inv a queue call.Gc held there all = queue_there m queue all
group_there laws start h m inv a queue (call.FlushInodes g) held there all = there
group_there laws start h m inv a queue (call.Reclaim g) held there all = there

-- ---- the actor itself

-- no entry is of a call that begins now
none_yet : (h : History) → Interval h.entries h.froms → (a : ℕ) (made : Call) → HasEntry h.entries h.froms a (length h.entries) made None
none_yet h between a made j other answer at began =
    let early : length h.entries ≤ j = between.between j (length h.entries) began in
    let late : j < length h.entries = slice_get_within h.entries j _ at in
    omega (arith, early, late)

queue_begins : (t : Table) (made : Call) (queue whole : List Key) → queue ≡ whole → QueueIsRight (is_gc_call made) t queue whole
queue_begins t call.Gc queue whole same = record { passed = []; parts = sym same; gone = All-nil _ }
queue_begins t _ queue whole same = same

module _ (laws : Laws) (start : Table) (h : History) (m : Memory) (inv : Within start h m) (a : ℕ) (made : Call) (low : a < length m.actors)
    (idle : (actor_at m a).doing ≡ None) (held : IsHeld h.entries a (key_of made)) (there : GroupExists m made) where
  begun_actor : Actor
  begun_actor = record { doing = Some (beginning made h); queue = (actor_at m a).queue }

  -- what was so of the idle actor
  idle_queue : (actor_at m a).queue ≡ queue_at start h.entries (length h.entries) a
  idle_queue = subst (λ (o : Option Doing). QueueIsRight (is_gc o) h.table (actor_at m a).queue (queue_at start h.entries (length h.entries) a)) idle (inv.actors a).queue

  begun_right : ActorIsRight start h m a begun_actor
  unfolding begun_actor
  begun_right = record {
    there = (inv.actors a).there;
    queue = queue_begins h.table made (actor_at m a).queue (queue_at start h.entries (length h.entries) a) idle_queue;
    doing = record {
      begun = omega arith;
      stands = first_stands made;
      group = group_there laws start h m inv a (actor_at m a).queue made held there (inv.actors a).there;
      held = held;
      made = subst (λ (o : Option Key). IsHeld h.entries a o) (sym (first_made made)) tt;
      entry = subst (λ (o : Option Reply). HasEntry h.entries h.froms a (length h.entries) made o) (sym (first_reply made)) (none_yet h inv.intervals a made);
      frees = first_frees h a (length h.entries) made;
      keeps = first_keeps start h m (actor_at m a).queue (group_of_call (actor_at m a).queue made) (length h.entries) made;
      due = subst (λ (d : Due). DueHolds made h.table m d) (sym (first_due (first_key (actor_at m a).queue) made)) tt;
      due_here = λ number is. absurd (none-some number (sym (ap due_number (first_due (first_key (actor_at m a).queue) made)) ∙ is));
    };
  }

  begun_memory : Memory
  begun_memory = with_actor a begun_actor m

  own : actor_at begun_memory a ≡ begun_actor
  unfolding begun_memory
  own = read_same m.actors a begun_actor idle_actor low

  other : (b : ℕ) → b ≢ a → actor_at begun_memory b ≡ actor_at m b
  unfolding begun_memory
  other b apart = read_other m.actors a b begun_actor idle_actor apart

  begun_actors : (b : ℕ) → ActorIsRight start h m b (actor_at begun_memory b)
  begun_actors b =
      elim (cases_eq b a) [
        | inl same ↦ subst (λ n. ActorIsRight start h m n (actor_at begun_memory n)) (sym same) (subst (λ (x : Actor). ActorIsRight start h m a x) (sym own) begun_right)
        | inr apart ↦ subst (λ (x : Actor). ActorIsRight start h m b x) (sym (other b apart)) (inv.actors b)
      ]

  -- nothing is due that was not
  due_same : (holder : Option ℕ) → due_of_holder begun_memory holder ≡ due_of_holder m holder
  unfolding begun_actor
  due_same None = refl
  due_same (Some b) =
      elim (cases_eq b a) [
        | inl same ↦
            ap (λ n. due_of_actor (actor_at begun_memory n)) same ∙ ap (λ (x : Actor). due_of_actor x) own ∙ first_due (first_key (actor_at m a).queue) made
            ∙ sym (ap (λ (o : Option Doing). due_of_doing (actor_at m a).queue o) idle) ∙ sym (ap (λ n. due_of_actor (actor_at m n)) same)
        | inr apart ↦ ap (λ (x : Actor). due_of_actor x) (other b apart)
      ]

  lies_not : (g : ℕ) → LiesInGroup g begun_actor → ⊥
  unfolding begun_actor
  lies_not g lies = true≢false (sym lies.0 ∙ first_lies made)

  log_lies_not : LiesInLog begun_actor → ⊥
  unfolding begun_actor
  log_lies_not lies = true≢false (sym lies ∙ first_log made)

  idle_lies_not : (g : ℕ) → LiesInGroup g (actor_at m a) → ⊥
  idle_lies_not g lies = subst (λ (o : Option Doing). IsSomeAnd o (λ (d : Doing). (lies_in_group d.place ≡ true) × (group_of_call (actor_at m a).queue d.call ≡ Some g))) idle lies

  idle_log_not : LiesInLog (actor_at m a) → ⊥
  idle_log_not lies = subst (λ (o : Option Doing). IsSomeAnd o (λ (d : Doing). lies_in_log d.place ≡ true)) idle lies

  begun_locks : (g b : ℕ) → (cache_at m g).holder ≡ Some b ↔ LiesInGroup g (actor_at begun_memory b)
  begun_locks g b =
      elim (cases_eq b a) [
        | inl same ↦ (
          λ holds. absurd (idle_lies_not g ((inv.group_locks g a).0 (holds ∙ ap (λ n. Some n) same))),
          λ lies. absurd (lies_not g (subst (λ (x : Actor). LiesInGroup g x) (ap (λ n. actor_at begun_memory n) same ∙ own) lies)),
        )
        | inr apart ↦ (
          λ holds. subst (λ (x : Actor). LiesInGroup g x) (sym (other b apart)) ((inv.group_locks g b).0 holds),
          λ lies. (inv.group_locks g b).1 (subst (λ (x : Actor). LiesInGroup g x) (other b apart) lies),
        )
      ]

  begun_log_lock : (holder : Option ℕ) → ((b : ℕ) → holder ≡ Some b ↔ LiesInLog (actor_at m b)) → (b : ℕ) → holder ≡ Some b ↔ LiesInLog (actor_at begun_memory b)
  begun_log_lock holder lock b =
      elim (cases_eq b a) [
        | inl same ↦ (
          λ holds. absurd (idle_log_not ((lock a).0 (holds ∙ ap (λ n. Some n) same))),
          λ lies. absurd (log_lies_not (subst LiesInLog (ap (λ n. actor_at begun_memory n) same ∙ own) lies)),
        )
        | inr apart ↦ (λ holds. subst LiesInLog (sym (other b apart)) ((lock b).0 holds), λ lies. (lock b).1 (subst LiesInLog (other b apart) lies))
      ]

  begun_job : (s : State) (first : ℕ) (going : Job) (holder : Option ℕ) → ((b : ℕ) → holder ≡ Some b ↔ LiesInLog (actor_at m b)) → JobOfHolder s h m first going holder → JobOfHolder s h begun_memory first going holder
  begun_job s first going None lock right = right
  begun_job s first going (Some b) lock right =
      elim (cases_eq b a) [
        | inl same ↦ absurd (idle_log_not ((lock a).0 (ap (λ n. Some n) same)))
        | inr apart ↦ (right.0, subst (λ (x : Actor). JobOfDoing s first h.entries going x.doing) (sym (other b apart)) right.1)
      ]

  begun_words : (number : ℕ) → WordIsRight h.table begun_memory number
  unfolding begun_memory
  begun_words number = elim (inv.words number) [
    | inl due ↦ inl (ap due_number (due_same (cache_at m (number / GROUP_NUMBERS)).holder) ∙ due)
    | inr right ↦ inr right
  ]

-- ---- calls in progress

contains_under : {X : Type 0} (y : X) (ys zs : List X) (x : X) → (Contains ys x → Contains zs x) → Contains (y ∷ ys) x → Contains (y ∷ zs) x
contains_under y ys zs x f (zero, low, at) = (zero, omega arith, at)
contains_under y ys zs x f (suc k, low, at) = contains_cons y zs x (f (k, omega (arith, low), at))

unanswered_under : (n : ℕ) (d : Doing) (o : Option Reply) (ys zs : List Unfinished) (x : Unfinished) → (Contains ys x → Contains zs x) → Contains (unanswered n d o ++ ys) x → Contains (unanswered n d o ++ zs) x
unanswered_under n d None ys zs x f there = contains_under _ ys zs x f there
unanswered_under n d (Some answer) ys zs x f there = f there

-- a call in progress is one of those behind it, too
behind_reply : (n : ℕ) (d : Doing) (o : Option Reply) (ys : List Unfinished) (x : Unfinished) → Contains ys x → Contains (unanswered n d o ++ ys) x
behind_reply n d None ys x there = contains_cons _ ys x there
behind_reply n d (Some answer) ys x there = there

pub behind : (n : ℕ) (o : Option Doing) (ys : List Unfinished) (x : Unfinished) → Contains ys x → Contains (unfinished_of n o ++ ys) x
behind n None ys x there = there
behind n (Some d) ys x there = behind_reply n d (reply_at d.place) ys x there

pub unfinished_under : (n : ℕ) (o : Option Doing) (ys zs : List Unfinished) (x : Unfinished) → (Contains ys x → Contains zs x) → Contains (unfinished_of n o ++ ys) x → Contains (unfinished_of n o ++ zs) x
unfinished_under n None ys zs x f there = f there
unfinished_under n (Some d) ys zs x f there = unanswered_under n d (reply_at d.place) ys zs x f there

-- calls in progress stay so where an idle actor begins one
unfinished_more : (n : ℕ) (actors : List Actor) (i : ℕ) (d : Doing) (queue : List Key) (x : Unfinished) → (slice_index_or actors i idle_actor).doing ≡ None
    → Contains (unfinished_from n actors) x → Contains (unfinished_from n (slice_set actors i (record { doing = Some d; queue = queue }))) x
unfinished_more n [] i d queue x idle there = there
unfinished_more n (actor ∷ actors) zero d queue x idle there =
    behind n (Some d) (unfinished_from (n + 1) actors) x (subst (λ (o : Option Doing). Contains (unfinished_of n o ++ unfinished_from (n + 1) actors) x) idle there)
unfinished_more n (actor ∷ actors) (suc i) d queue x idle there =
    unfinished_under n actor.doing (unfinished_from (n + 1) actors) _ x (unfinished_more (n + 1) actors i d queue x idle) there

-- what licenses a history licenses it with more calls in progress
pub licensed_more : (start : Table) (h : History) (before after : List Unfinished) → ((x : Unfinished) → Contains before x → Contains after x)
    → Licensed start h.entries h.froms before → Licensed start h.entries h.froms after
licensed_more start h before after more licensed = record {
  frees = λ i a begin key low at began.
      let free = licensed.frees i a begin key low at began in
      (free.0, belongs free.0 a i begin free.1, free.2);
  gc = licensed.gc;
  refused = licensed.refused;
}
  where
    belongs : (made : Call) (a i begin : ℕ) → BelongsTo h.entries h.froms before a i begin made → BelongsTo h.entries h.froms after a i begin made
    belongs made a i begin (inl answered) = inl answered
    belongs made a i begin (inr going) = inr (more _ going)

-- ---- the world

-- what is so of an actor looks at no other actor
pub due_moved : (made : Call) (t : Table) (m : Memory) (actors : List Actor) (due : Due) → DueHolds made t m due → DueHolds made t (record { actors = actors; groups = m.groups }) due
due_moved made t m actors nothing holds = tt
due_moved made t m actors (install key) holds =
    (holds.0, record { row_is = holds.1.row_is; opens = holds.1.opens; links = holds.1.links; dead = holds.1.dead; incore = holds.1.incore })
due_moved made t m actors (mark key) holds =
    (holds.0, record { row_is = holds.1.row_is; live = holds.1.live; generation = holds.1.generation; pins = holds.1.pins; some = holds.1.some; links = holds.1.links })
due_moved made t m actors (kill key) holds =
    record { live = holds.live; generation = holds.generation; mark = holds.mark; pins = holds.pins; no_row = holds.no_row }

doing_moved : (start : Table) (h : History) (m : Memory) (actors : List Actor) (a : ℕ) (queue : List Key) (o : Option Doing) → DoingIsRight start h m a queue o
    → DoingIsRight start h (record { actors = actors; groups = m.groups }) a queue o
doing_moved start h m actors a queue None right = tt
doing_moved start h m actors a queue (Some d) right = record {
  begun = right.begun;
  stands = right.stands;
  group = right.group;
  held = right.held;
  made = right.made;
  entry = right.entry;
  frees = right.frees;
  keeps = right.keeps;
  due = due_moved d.call h.table m actors (due_at (first_key queue) d.call d.place) right.due;
  due_here = right.due_here;
}

pub actor_moved : (start : Table) (h : History) (m : Memory) (actors : List Actor) (a : ℕ) (actor : Actor) → ActorIsRight start h m a actor
    → ActorIsRight start h (record { actors = actors; groups = m.groups }) a actor
actor_moved start h m actors a actor right = record {
  there = right.there;
  queue = right.queue;
  doing = doing_moved start h m actors a actor.queue actor.doing right.doing;
}

pub begin_kept : Laws → {D : Type 0} (tells : Telling) (start : Table) (a : ℕ) (made : Call) (old new : World D) → Invariant tells start old → IsBegun a made old new → Invariant tells start new
unfolding begun_memory begun_actor
begin_kept laws {D = D} tells start a made old new inv b =
    let h : History = old.history in
    let m : Memory = old.memory in
    let inside = within tells start old inv in
    let later : World D = record old { memory = begun_memory laws start h m inside a made b.actor b.idle b.held b.group } in
    let kept : Invariant tells start later = record {
      table = inv.table;
      shaped = record {
        actors = set-length m.actors a _ ∙ inv.shaped.actors;
        groups = inv.shaped.groups;
        slots = inv.shaped.slots;
      };
      legal = inv.legal;
      intervals = inv.intervals;
      licensed = licensed_more start h (unfinished_from 0 m.actors) _ (λ x. unfinished_more 0 m.actors a (beginning made h) (actor_at m a).queue x b.idle) inv.licensed;
      words = begun_words laws start h m inside a made b.actor b.idle b.held b.group;
      cached = inv.cached;
      group_locks = begun_locks laws start h m inside a made b.actor b.idle b.held b.group;
      log_lock = begun_log_lock laws start h m inside a made b.actor b.idle b.held b.group old.holder inv.log_lock;
      actors = λ n. actor_moved start h m _ n _ (begun_actors laws start h m inside a made b.actor b.idle b.held b.group n);
      commits = record { durable = inv.commits.durable; first = inv.commits.first; count = inv.commits.count; tell = inv.commits.tell };
      job = record {
        job = begun_job laws start h m inside a made b.actor b.idle b.held b.group (state_of old.store) old.first_commit old.store.job old.holder inv.log_lock inv.job.job;
        covered = inv.job.covered;
      };
    } in
    let is : new ≡ later = λ i. record {
      first_commit = b.first_commit i;
      history = b.history i;
      memory = b.memory i;
      queue = b.queue i;
      holder = b.holder i;
      store = b.store i;
    } in
    subst (λ (w : World D). Invariant tells start w) (sym is) kept
