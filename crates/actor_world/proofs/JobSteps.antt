-- After a step the store has a job exactly where the holder of its lock is at one, and no sync was answered too much.
use Rattle.std.proofs.Common.{◌≡◌, ◌<◌, ◌≤◌, ◌+◌, inl, inr, ℕ, zero, suc, Bool, true, false, cond, List, [], ◌∷◌, ◌++◌, length-append, Option, None, Some, IsSomeAnd, Result, Ok, Err, take, length, slice_get, refl, sym, ap, subst, ◌∙◌, arith}
use Rattle.std.proofs.lemmas.List.{take-append-le, length-drop}
use Rattle.std.proofs.lemmas.Option.{none-some, same_Some}
use Rattle.std.proofs.lemmas.Bool.{cases_eq, true≢false}
use Rattle.log_record.specs.declared.image.Commit.{Commit}
use Rattle.log_record.specs.declared.image.Image.{Image}
use Rattle.log_store.specs.declared.fault.Progress.{Progress}
use Rattle.log_store.specs.declared.fault.Progress.TheVariants.{More, Ended}
use Rattle.log_store.specs.declared.fault.StoreFault.{StoreFault}
use Rattle.log_store.specs.declared.fault.StoreFault.TheVariants as faults
use Rattle.log_store.specs.declared.store.Job.{Job}
use Rattle.log_store.specs.declared.store.Job.TheVariants as job
use Rattle.log_store.specs.declared.store.Stage.{Stage}
use Rattle.log_store.specs.declared.store.Stage.TheVariants.{Cover, Down, Free, Half, Record}
use Rattle.log_store.specs.declared.store.Store.{Store}
use Rattle.log_store.specs.State.{State, state_of}
use Rattle.log_store.specs.Outcome.{down_count, goal_of}
use Rattle.life_table.specs.declared.key.Key.{Key}
use Rattle.life_table.specs.declared.types.Call.{Call}
use Rattle.life_table.specs.declared.types.Call.TheVariants as call
use Rattle.life_table.specs.declared.types.Reply.{Reply}
use Rattle.life_table.specs.declared.types.Reply.TheVariants as reply
use Rattle.life_table.specs.declared.types.Row.{Row}
use Rattle.life_table.specs.declared.types.Event.{Event}
use Rattle.life_table.specs.declared.types.Event.TheVariants.{Called}
use Rattle.life_table.specs.declared.types.Entry.{Entry}
use Rattle.life_table.specs.declared.table.Table.{Table}
use Rattle.life_table.specs.Table.{row_of}
use Rattle.life_table.specs.Legal.{KeyReplies, Permits, RowReplies}
use Rattle.life_table.specs.History.{changes, is_change}
use Rattle.actor_world.specs.declared.memory.Place.{Place}
use Rattle.actor_world.specs.declared.memory.Place.TheVariants as place
use Rattle.actor_world.specs.declared.memory.Doing.{Doing}
use Rattle.actor_world.specs.declared.memory.Actor.{Actor}
use Rattle.actor_world.specs.declared.memory.Memory.{Memory}
use Rattle.actor_world.specs.Caches.{actor_at, idle_actor, with_actor}
use Rattle.actor_world.specs.Moves.{lies_in_log, is_log_call}
use Rattle.actor_world.specs.World.{History, World, told, told_if}
use Rattle.actor_world.specs.Steps.{DiskFace, HomeStep, IsGroupStep, IsLogTurn, Step, StepOf, SyncStep, Telling, answered, begun_job, dirty_answer, home_answer, or_down, pending_answer, progress_answer, take_answer}
use Rattle.actor_world.specs.Invariant.{CommitOf, CommitsOf, Invariant, IsAtRest, JobAt, JobIsRight, JobOfDoing, JobOfHolder, TakenFits, beginning_of, durable_changes}
use Rattle.actor_world.proofs.CommitSteps.{job_fits}
use Rattle.actor_world.proofs.EachTurn.{in_list}
use Rattle.actor_world.proofs.Effects.{effect_actors, effect_of}
use Rattle.actor_world.proofs.Lists.{get_push, read_other, read_same}
use Rattle.actor_world.proofs.LogLock.{has_lock, not_in_log}
use Rattle.actor_world.proofs.StepTurns.{call_of, group_step}
use Rattle.actor_world.proofs.StoreJobs.{JobSteps, job_steps}
use Rattle.actor_world.proofs.StoreMoves.{Kept, Landed, Moves, step_moves}
use Rattle.actor_world.proofs.Turns.{Turn, after_turn, grow_refuses, is_answered, reads, refuses}
use Rattle.actor_world.proofs.TurnsFound.{Laws}
use Rattle.actor_world.proofs.Within.{Within, within}

-- ---- counts of changes

count_of : (tells : Telling) (old new : History) (b : Bool) (Rest : List Commit → Type 0) (commits : List Commit) (entry : Entry) (more : List Entry)
    → ((cs : List Commit) → Rest cs → length cs ≡ length more) → CommitOf tells old new b Rest commits → length commits ≡ length (cond b (entry ∷ more) more)
count_of tells old new true Rest [] entry more f is = absurd is
count_of tells old new true Rest (commit ∷ commits) entry more f is = ap suc (f commits is.1)
count_of tells old new false Rest commits entry more f is = f commits is

-- as many commits as changes
pub commits_count : (tells : Telling) (h : History) (entries : List Entry) (froms : List ℕ) (commits : List Commit) → CommitsOf tells h entries froms commits → length commits ≡ length (changes entries)
commits_count tells h [] froms commits is = ap (λ (cs : List Commit). length cs) is
commits_count tells h (entry ∷ entries) [] commits is = absurd is
commits_count tells h (entry ∷ entries) (begin ∷ froms) commits is =
    count_of tells h (told entry.actor begin entry.event h) (is_change entry.event) _ commits entry (changes entries)
    (λ cs rest. commits_count tells (told entry.actor begin entry.event h) entries froms cs rest) is

cond_less : (b : Bool) (entry : Entry) (few many : List Entry) → length few ≤ length many → length (cond b (entry ∷ few) few) ≤ length (cond b (entry ∷ many) many)
cond_less true entry few many less = omega (arith, less)
cond_less false entry few many less = less

-- the first entries have no more changes than all
changes_less : (n : ℕ) (entries : List Entry) → length (changes (take n entries)) ≤ length (changes entries)
changes_less zero [] = omega arith
changes_less zero (entry ∷ entries) = omega arith
changes_less (suc n) [] = omega arith
changes_less (suc n) (entry ∷ entries) = cond_less (is_change entry.event) entry (changes (take n entries)) (changes entries) (changes_less n entries)

-- ---- what was covered

-- no call but a sync is answered how much is durable
row_covers : (t : Table) (row : Row) (made : Call) (n : ℕ) → RowReplies t row made (reply.Covered n) → ⊥
row_covers t row (call.OpenKey key) n permits = permits
row_covers t row (call.CloseKey key) n permits = permits
row_covers t row (call.Link key) n permits = permits
row_covers t row (call.Unlink key) n permits = permits
row_covers t row (call.Grow key count) n permits = permits
row_covers t row (call.Cut key count) n permits = permits
row_covers t row (call.Stat key) n permits = permits
row_covers t row _ n permits = permits

key_covers : (t : Table) (o : Option Row) (made : Call) (n : ℕ) → KeyReplies t o made (reply.Covered n) → ⊥
key_covers t None (call.OpenKey key) n permits = permits
key_covers t None _ n permits = permits
key_covers t (Some row) made n permits = row_covers t row made n permits

covers_not : (t : Table) (made : Call) (n : ℕ) → is_log_call made ≡ false → Permits t made (reply.Covered n) → ⊥
covers_not t (call.Create g) n log permits = permits
covers_not t (call.Tmpfile g) n log permits = permits
covers_not t (call.OpenKey key) n log permits = key_covers t (row_of t key) (call.OpenKey key) n permits
covers_not t (call.CloseKey key) n log permits = key_covers t (row_of t key) (call.CloseKey key) n permits
covers_not t (call.Link key) n log permits = key_covers t (row_of t key) (call.Link key) n permits
covers_not t (call.Unlink key) n log permits = key_covers t (row_of t key) (call.Unlink key) n permits
covers_not t (call.Grow key count) n log permits = key_covers t (row_of t key) (call.Grow key count) n permits
covers_not t (call.Cut key count) n log permits = key_covers t (row_of t key) (call.Cut key count) n permits
covers_not t (call.Stat key) n log permits = key_covers t (row_of t key) (call.Stat key) n permits
covers_not t call.Sync n log permits = true≢false log
covers_not t call.Home n log permits = true≢false log
covers_not t call.Gc n log permits = permits
covers_not t (call.FlushInodes g) n log permits = permits
covers_not t (call.Reclaim g) n log permits = permits

-- what is covered by what happens
abbrev pub CoversAtMost : ℕ → Event → Type 0
CoversAtMost most (Called made (reply.Covered n)) = n ≤ most
CoversAtMost most _ = Unit {0}

covers_at : (most : ℕ) (event : Event) (made : Call) (n : ℕ) → event ≡ Called made (reply.Covered n) → CoversAtMost most event → n ≤ most
covers_at most event made n is covers = subst (CoversAtMost most) is covers

-- a history in which each covered answer is at most this
abbrev pub Covers : ℕ → List Entry → Type 0
Covers most entries = (i a n : ℕ) (made : Call) → slice_get entries i ≡ Some (record { actor = a; event = Called made (reply.Covered n) }) → n ≤ most

covers_more : (h : History) (a begin before most : ℕ) (event : Option Event) → Covers before h.entries → before ≤ most → ((e : Event) → event ≡ Some e → CoversAtMost most e) → Covers most (told_if a begin event h).entries
covers_more h a begin before most None covers low new i b n made at = let few = covers i b n made at in omega (arith, few, low)
covers_more h a begin before most (Some event) covers low new i b n made at =
    elim (get_push h.entries (record { actor = a; event = event }) _ i at) [
      | inl here ↦ let few = covers i b n made here.1 in omega (arith, few, low)
      | inr last ↦ covers_at most event made n (ap (λ (e : Entry). e.event) (same_Some _ _ last.1)) (new event refl)
    ]

-- what an answer of the log covers
abbrev pub AnswerCovers : ℕ → Option Reply → Type 0
AnswerCovers most None = Unit {0}
AnswerCovers most (Some (reply.Covered n)) = n ≤ most
AnswerCovers most (Some _) = Unit {0}

pending_covers : (first : ℕ) (s : State) (list : List Commit) → AnswerCovers (durable_changes first s) (pending_answer first s list)
pending_covers first s [] = omega arith
pending_covers first s (commit ∷ list) = tt

take_covers : (first : ℕ) (s : State) (down : Option ℕ) (list : List Commit) → AnswerCovers (durable_changes first s) (or_down down (pending_answer first s list))
take_covers first s None list = pending_covers first s list
take_covers first s (Some fault) list = tt

home_covers : (most : ℕ) (down : Option ℕ) (images : List Image) → AnswerCovers most (or_down down (dirty_answer images))
home_covers most None [] = tt
home_covers most None (image ∷ images) = tt
home_covers most (Some fault) images = tt

sync_covers : (first : ℕ) (s : State) (result : Result Progress StoreFault) → AnswerCovers (durable_changes first s) (progress_answer call.Sync first s result)
sync_covers first s (Ok More) = tt
sync_covers first s (Ok Ended) = omega arith
sync_covers first s (Err faults.WriteFault) = tt
sync_covers first s (Err faults.FlushFault) = tt
sync_covers first s (Err faults.PositionEnd) = tt
sync_covers first s (Err (faults.Down fault)) = tt

write_covers : (most first : ℕ) (s : State) (result : Result Progress StoreFault) → AnswerCovers most (progress_answer call.Home first s result)
write_covers most first s (Ok More) = tt
write_covers most first s (Ok Ended) = tt
write_covers most first s (Err faults.WriteFault) = tt
write_covers most first s (Err faults.FlushFault) = tt
write_covers most first s (Err faults.PositionEnd) = tt
write_covers most first s (Err (faults.Down fault)) = tt

reply_covers : (most : ℕ) (made : Call) (answer : Reply) → AnswerCovers most (Some answer) → CoversAtMost most (Called made answer)
reply_covers most made (reply.Covered n) covers = covers
reply_covers most made _ covers = tt

answer_covers : (most : ℕ) (made : Call) (answer : Option Reply) → AnswerCovers most answer → (e : Event) → answered made answer ≡ Some e → CoversAtMost most e
answer_covers most made None covers e is = absurd (none-some e is)
answer_covers most made (Some answer) covers e is = subst (CoversAtMost most) (same_Some (Called made answer) e is) (reply_covers most made answer covers)

-- ---- a turn of the log

-- the job that a step with this answer leaves
abbrev pub TurnJob : Option Reply → State → ℕ → List Entry → Job → ℕ → Place → Type 0
TurnJob None s first entries going begin at = (down_count s.stage ≡ None) × JobAt s first entries going begin at
TurnJob (Some answer) s first entries going begin at = (going ≡ job.Idle) × IsAtRest s.stage

turn_job : {D : Type 0} (a : ℕ) (d : Doing) (made : Call) (answer : Option Reply) (onward : Place) (old new : World D) → a < length old.memory.actors → IsLogTurn a d made answer onward old new
    → TurnJob answer (state_of new.store) old.first_commit (told_if a d.«from» (answered made answer) old.history).entries new.store.job d.«from» onward
    → JobOfHolder (state_of new.store) new.history new.memory new.first_commit new.store.job new.holder
turn_job a d made None onward old new low turn is =
    let own : (actor_at new.memory a).doing ≡ Some (record { call = d.call; place = onward; «from» = d.«from» }) =
    ap (λ (m : Memory). (actor_at m a).doing) turn.memory ∙ ap (λ (x : Actor). x.doing) (read_same old.memory.actors a _ idle_actor low) in
    subst (λ (o : Option ℕ). JobOfHolder (state_of new.store) new.history new.memory new.first_commit new.store.job o) (sym turn.holder) (
      is.0,
      subst (λ (o : Option Doing). JobOfDoing (state_of new.store) new.first_commit new.history.entries new.store.job o) (sym own)
          (subst (λ (h : History). JobAt (state_of new.store) new.first_commit h.entries new.store.job d.«from» onward) (sym turn.history)
          (subst (λ n. JobAt (state_of new.store) n old.history.entries new.store.job d.«from» onward) (sym turn.first_commit) is.1)),
    )
turn_job a d made (Some answer) onward old new low turn is =
    subst (λ (o : Option ℕ). JobOfHolder (state_of new.store) new.history new.memory new.first_commit new.store.job o) (sym turn.holder) is

turn_right : {D : Type 0} (a : ℕ) (d : Doing) (made : Call) (answer : Option Reply) (onward : Place) (old new : World D) → a < length old.memory.actors → IsLogTurn a d made answer onward old new
    → Covers (durable_changes old.first_commit (state_of old.store)) old.history.entries → (state_of old.store).durable ≤ (state_of new.store).durable
    → AnswerCovers (durable_changes old.first_commit (state_of new.store)) answer
    → TurnJob answer (state_of new.store) old.first_commit (told_if a d.«from» (answered made answer) old.history).entries new.store.job d.«from» onward → JobIsRight new
turn_right a d made answer onward old new low turn covered more covers is = record {
  job = turn_job a d made answer onward old new low turn is;
  covered = subst (λ (h : History). Covers (durable_changes new.first_commit (state_of new.store)) h.entries) (sym turn.history)
      (subst (λ n. Covers (durable_changes n (state_of new.store)) (told_if a d.«from» (answered made answer) old.history).entries) (sym turn.first_commit)
      (covers_more old.history a d.«from» _ (durable_changes old.first_commit (state_of new.store)) (answered made answer) covered (omega (arith, more)) (answer_covers _ made answer covers)));
}

-- ---- steps of a sync and a home

rest_fits : (stage : Stage) (s : State) → IsAtRest stage → TakenFits stage s
rest_fits Free s rest = tt
rest_fits Half s rest = absurd rest
rest_fits Record s rest = absurd rest
rest_fits Cover s rest = absurd rest
rest_fits (Down fault) s rest = tt

take_turn : (h : History) (a first begin : ℕ) (s : State) (going : Job) (down : Option ℕ) (list : List Commit) → down_count s.stage ≡ down → s.list ≡ list → IsAtRest s.stage
    → going ≡ begun_job job.Force (or_down down (pending_answer first s list)) → length (changes (take begin h.entries)) ≤ durable_changes first s + length s.list
    → TurnJob (or_down down (pending_answer first s list)) s first (told_if a begin (answered call.Sync (or_down down (pending_answer first s list))) h).entries going begin place.Force
take_turn h a first begin s going (Some fault) list down_is list_is rest going_is reach = (going_is, rest)
take_turn h a first begin s going None [] down_is list_is rest going_is reach = (going_is, rest)
take_turn h a first begin s going None (commit ∷ list) down_is list_is rest going_is reach =
    let long : length s.list ≡ suc (length list) = ap (λ (cs : List Commit). length cs) list_is in
    (down_is, (ap goal_of going_is, omega (arith, long), rest_fits s.stage s rest, reach))

home_turn : (h : History) (a first begin : ℕ) (s : State) (going : Job) (down : Option ℕ) (images : List Image) → down_count s.stage ≡ down → IsAtRest s.stage
    → going ≡ begun_job job.Home (or_down down (dirty_answer images))
    → TurnJob (or_down down (dirty_answer images)) s first (told_if a begin (answered call.Home (or_down down (dirty_answer images))) h).entries going begin place.WriteHome
home_turn h a first begin s going (Some fault) images down_is rest going_is = (going_is, rest)
home_turn h a first begin s going None [] down_is rest going_is = (going_is, rest)
home_turn h a first begin s going None (image ∷ images) down_is rest going_is = (down_is, (ap goal_of going_is, rest_fits s.stage s rest))

-- what reaches all changes from before the call still does
moves_reach : (first reach : ℕ) (s new : State) → Moves s.list s.durable new.list new.durable → first ≤ s.durable + 1 → reach ≤ durable_changes first s + length s.list → reach ≤ durable_changes first new + length new.list
moves_reach first reach s new (Kept same still) low is = let long = ap (λ (cs : List Commit). length cs) same in omega (arith, long, still, is)
moves_reach first reach s new (Landed n few rest more) low is =
    let long = ap (λ (cs : List Commit). length cs) rest ∙ length-drop n s.list in
    omega (arith, long, few, more, low, is)

moves_durable : (list : List Commit) (durable : ℕ) (after : List Commit) (later : ℕ) → Moves list durable after later → durable ≤ later
moves_durable list durable after later (Kept same still) = omega (arith, still)
moves_durable list durable after later (Landed n few rest more) = omega (arith, more)

force_turn : (h : History) (a first begin : ℕ) (s new : State) (was going : Job) (result : Result Progress StoreFault) → JobAt s first h.entries was begin place.Force → first ≤ s.durable + 1
    → JobSteps result was s going new → Moves s.list s.durable new.list new.durable
    → TurnJob (progress_answer call.Sync first new result) new first (told_if a begin (answered call.Sync (progress_answer call.Sync first new result)) h).entries going begin place.Force
force_turn h a first begin s new was going (Ok More) at low steps moves =
    (steps.1, (steps.0 ∙ at.0, steps.3 at.1, steps.2, moves_reach first (length (changes (take begin h.entries))) s new moves low at.3))
force_turn h a first begin s new was going (Ok Ended) at low steps moves = steps
force_turn h a first begin s new was going (Err faults.WriteFault) at low steps moves = steps
force_turn h a first begin s new was going (Err faults.FlushFault) at low steps moves = steps
force_turn h a first begin s new was going (Err faults.PositionEnd) at low steps moves = steps
force_turn h a first begin s new was going (Err (faults.Down fault)) at low steps moves = steps

write_turn : (h : History) (a first begin : ℕ) (s new : State) (was going : Job) (result : Result Progress StoreFault) → JobAt s first h.entries was begin place.WriteHome
    → JobSteps result was s going new
    → TurnJob (progress_answer call.Home first new result) new first (told_if a begin (answered call.Home (progress_answer call.Home first new result)) h).entries going begin place.WriteHome
write_turn h a first begin s new was going (Ok More) at steps = (steps.1, (steps.0 ∙ at.0, steps.2))
write_turn h a first begin s new was going (Ok Ended) at steps = steps
write_turn h a first begin s new was going (Err faults.WriteFault) at steps = steps
write_turn h a first begin s new was going (Err faults.FlushFault) at steps = steps
write_turn h a first begin s new was going (Err faults.PositionEnd) at steps = steps
write_turn h a first begin s new was going (Err (faults.Down fault)) at steps = steps

-- a store whose lock is free is at rest
free_rest : {D : Type 0} (tells : Telling) (start : Table) (old : World D) → Invariant tells start old → old.holder ≡ None → IsAtRest (state_of old.store).stage
free_rest tells start old inv free =
    (subst (λ (o : Option ℕ). JobOfHolder (state_of old.store) old.history old.memory old.first_commit old.store.job o) free inv.job.job).1

-- all changes are durable or wait
all_reach : {D : Type 0} (tells : Telling) (start : Table) (old : World D) → Invariant tells start old → (begin : ℕ)
    → length (changes (take begin old.history.entries)) ≤ durable_changes old.first_commit (state_of old.store) + length ((state_of old.store).list ++ old.queue)
all_reach tells start old inv begin =
    let count = commits_count tells (beginning_of start) old.history.entries old.history.froms _ inv.commits.tell in
    let whole = length-append (inv.commits.durable ++ (state_of old.store).list) old.queue in
    let front = length-append inv.commits.durable (state_of old.store).list in
    let rest = length-append (state_of old.store).list old.queue in
    let less = changes_less begin old.history.entries in
    let durable = inv.commits.count in
    omega (arith, count, whole, front, rest, less, durable)

sync_job : {D : Type 0} (face : DiskFace D) (tells : Telling) (start : Table) (a : ℕ) (d : Doing) (at : Place) (old new : World D) → Invariant tells start old
    → (actor_at old.memory a).doing ≡ Some d → d.place ≡ at → SyncStep face a d at old new → JobIsRight new
sync_job face tells start a d place.Take old new inv inside here step =
    let s : State = state_of new.store in
    let durable : s.durable ≡ (state_of old.store).durable = ap (λ (x : State). x.durable) step.state in
    let rest : IsAtRest s.stage = subst IsAtRest (sym (ap (λ (x : State). x.stage) step.state)) (free_rest tells start old inv step.free) in
    let reach = all_reach tells start old inv d.«from» in
    let long : length s.list ≡ length ((state_of old.store).list ++ old.queue) = ap (λ (x : State). length x.list) step.state in
    turn_right a d call.Sync (take_answer old.first_commit s) place.Force old new (in_list old.memory a d inside) step.turn inv.job.covered (omega (arith, durable))
    (take_covers old.first_commit s (down_count s.stage) s.list)
    (take_turn old.history a old.first_commit d.«from» s new.store.job (down_count s.stage) s.list refl refl rest step.job (omega (arith, reach, long, durable)))
sync_job face tells start a d place.Force old new inv inside here step =
    let at = subst (λ p. JobAt (state_of old.store) old.first_commit old.history.entries old.store.job d.«from» p) here
    (job_fits tells start a d old inv inside (has_lock old.holder old.memory a d inside inv.log_lock (ap lies_in_log here))) in
    let moves = step_moves face step.result old.store new.store step.step at.2 in
    let steps = job_steps face step.result old.store new.store step.step at.2 (inl at.0) in
    turn_right a d call.Sync (progress_answer call.Sync old.first_commit (state_of new.store) step.result) d.place old new (in_list old.memory a d inside) step.turn inv.job.covered
    (moves_durable _ _ _ _ moves) (sync_covers old.first_commit (state_of new.store) step.result)
    (subst (λ p. TurnJob (progress_answer call.Sync old.first_commit (state_of new.store) step.result) (state_of new.store) old.first_commit
    (told_if a d.«from» (answered call.Sync (progress_answer call.Sync old.first_commit (state_of new.store) step.result)) old.history).entries new.store.job d.«from» p) (sym here)
    (force_turn old.history a old.first_commit d.«from» (state_of old.store) (state_of new.store) old.store.job new.store.job step.result at inv.commits.first steps moves))
sync_job face tells start a d _ old new inv inside here step = absurd step

home_job : {D : Type 0} (face : DiskFace D) (tells : Telling) (start : Table) (a : ℕ) (d : Doing) (at : Place) (old new : World D) → Invariant tells start old
    → (actor_at old.memory a).doing ≡ Some d → d.place ≡ at → HomeStep face a d at old new → JobIsRight new
home_job face tells start a d place.TakeLog old new inv inside here step =
    let s : State = state_of old.store in
    turn_right a d call.Home (home_answer s) place.WriteHome old new (in_list old.memory a d inside) step.turn inv.job.covered
    (let durable = ap (λ (x : State). x.durable) step.state in omega (arith, durable))
    (home_covers _ (down_count s.stage) s.dirty)
    (subst (λ (x : State). TurnJob (home_answer s) x old.first_commit (told_if a d.«from» (answered call.Home (home_answer s)) old.history).entries new.store.job d.«from» place.WriteHome) (sym step.state)
    (home_turn old.history a old.first_commit d.«from» s new.store.job (down_count s.stage) s.dirty refl (free_rest tells start old inv step.free) step.job))
home_job face tells start a d place.WriteHome old new inv inside here step =
    let at = subst (λ p. JobAt (state_of old.store) old.first_commit old.history.entries old.store.job d.«from» p) here
    (job_fits tells start a d old inv inside (has_lock old.holder old.memory a d inside inv.log_lock (ap lies_in_log here))) in
    let moves = step_moves face step.result old.store new.store step.step at.1 in
    let steps = job_steps face step.result old.store new.store step.step at.1 (inr at.0) in
    turn_right a d call.Home (progress_answer call.Home old.first_commit (state_of new.store) step.result) d.place old new (in_list old.memory a d inside) step.turn inv.job.covered
    (moves_durable _ _ _ _ moves) (write_covers _ old.first_commit (state_of new.store) step.result)
    (subst (λ p. TurnJob (progress_answer call.Home old.first_commit (state_of new.store) step.result) (state_of new.store) old.first_commit
    (told_if a d.«from» (answered call.Home (progress_answer call.Home old.first_commit (state_of new.store) step.result)) old.history).entries new.store.job d.«from» p) (sym here)
    (write_turn old.history a old.first_commit d.«from» (state_of old.store) (state_of new.store) old.store.job new.store.job step.result at steps))
home_job face tells start a d _ old new inv inside here step = absurd step

-- ---- steps of groups

permitted_covers : (t : Table) (made : Call) (answer : Reply) (most : ℕ) → is_log_call made ≡ false → Permits t made answer → CoversAtMost most (Called made answer)
permitted_covers t made (reply.Covered n) most log permits = absurd (covers_not t made n log permits)
permitted_covers t made _ most log permits = tt

happens_covers : {t : Table} {m : Memory} {a : ℕ} {made : Call} {at : Place} {q later : List Key} {event : Event} {next : Option Place} {memory : Memory}
    → Turn t m a made at q (Some event) next later memory → (most : ℕ) → is_log_call made ≡ false → CoversAtMost most event
happens_covers {t = t} (reads key answer can permits) most log = permitted_covers t (call.Stat key) answer most log permits
happens_covers {t = t} (refuses made key answer is permits none) most log = permitted_covers t made answer most log permits
happens_covers {t = t} (grow_refuses key count answer permits none) most log = permitted_covers t (call.Grow key count) answer most log permits
happens_covers {t = t} (is_answered made at answer is stands permits) most log = permitted_covers t made answer most log permits
happens_covers _ most log = tt

event_covers : {t : Table} {m : Memory} {a : ℕ} {made : Call} {at : Place} {q later : List Key} {next : Option Place} {memory : Memory} (event : Option Event)
    → Turn t m a made at q event next later memory → (most : ℕ) → is_log_call made ≡ false → (e : Event) → event ≡ Some e → CoversAtMost most e
event_covers None turn most log e is = absurd (none-some e is)
event_covers (Some event) turn most log e is = subst (CoversAtMost most) (same_Some event e is) (happens_covers turn most log)

-- a job that another is at stays as it is
job_at_kept : (s : State) (first : ℕ) (h : History) (a begin : ℕ) (event : Option Event) (going : Job) (d : Doing) → d.«from» ≤ length h.entries → JobAt s first h.entries going d.«from» d.place
    → JobAt s first (told_if a begin event h).entries going d.«from» d.place
job_at_kept s first h a begin None going d below at = at
job_at_kept s first h a begin (Some event) going d below at =
    let same : take d.«from» (h.entries ++ record { actor = a; event = event } ∷ []) ≡ take d.«from» h.entries = take-append-le d.«from» h.entries (record { actor = a; event = event } ∷ []) below in
    job_at_same s first d.«from» going d.place h.entries (h.entries ++ record { actor = a; event = event } ∷ []) same at
  where
    job_at_same : (s : State) (first begin : ℕ) (going : Job) (at : Place) (entries more : List Entry) → take begin more ≡ take begin entries → JobAt s first entries going begin at → JobAt s first more going begin at
    job_at_same s first begin going place.Force entries more same at =
        (at.0, at.1, at.2, subst (λ (es : List Entry). length (changes es) ≤ durable_changes first s + length s.list) (sym same) at.3)
    job_at_same s first begin going place.WriteHome entries more same at = at
    job_at_same s first begin going _ entries more same at = tt

doing_kept : (start : Table) (h : History) (m : Memory) → Within start h m → (b : ℕ) (s : State) (first a begin : ℕ) (event : Option Event) (going : Job) (o : Option Doing) → (actor_at m b).doing ≡ o
    → JobOfDoing s first h.entries going o → JobOfDoing s first (told_if a begin event h).entries going o
doing_kept start h m inv b s first a begin event going None is right = tt
doing_kept start h m inv b s first a begin event going (Some d) is right = job_at_kept s first h a begin event going d (call_of start h m inv b d is).begun right

group_job : Laws → {D : Type 0} (tells : Telling) (start : Table) (a : ℕ) (d : Doing) (old new : World D) → Invariant tells start old → (actor_at old.memory a).doing ≡ Some d
    → is_log_call d.call ≡ false → IsGroupStep tells a d old new → JobIsRight new
group_job laws {D = D} tells start a d old new inv inside log step =
    let inside_world = within tells start old inv in
    let s = group_step laws tells start a d old new inside_world inside step in
    let actors = effect_actors (effect_of inv.cached s.turn) in
    let x : Actor = after_turn d.call d.«from» s.next s.later in
    let kept : (holder : Option ℕ) → old.holder ≡ holder → JobOfHolder (state_of old.store) old.history old.memory old.first_commit old.store.job holder
    → JobOfHolder (state_of old.store) (told_if a d.«from» s.event old.history) (with_actor a x s.memory) old.first_commit old.store.job holder =
    λ holder. elim holder as (λ (o : Option ℕ). old.holder ≡ o → JobOfHolder (state_of old.store) old.history old.memory old.first_commit old.store.job o
    → JobOfHolder (state_of old.store) (told_if a d.«from» s.event old.history) (with_actor a x s.memory) old.first_commit old.store.job o) [
      | None ↦ λ is right. right
      | Some b ↦ λ is right.
          elim (cases_eq b a) [
            | inl same ↦
                let lies = (inv.log_lock a).0 (is ∙ ap (λ n. Some n) same) in
                absurd (not_in_log d.call d.place log (call_of start old.history old.memory inside_world a d inside).stands
                (subst (λ (o : Option Doing). IsSomeAnd o (λ (y : Doing). lies_in_log y.place ≡ true)) inside lies))
            | inr apart ↦
                let other : actor_at (with_actor a x s.memory) b ≡ actor_at old.memory b =
                read_other s.memory.actors a b x idle_actor apart ∙ ap (λ (xs : List Actor). actor_at (record { actors = xs; groups = old.memory.groups }) b) actors in (
                  right.0,
                  subst (λ (y : Actor). JobOfDoing (state_of old.store) old.first_commit (told_if a d.«from» s.event old.history).entries old.store.job y.doing) (sym other)
                      (doing_kept start old.history old.memory inside_world b (state_of old.store) old.first_commit a d.«from» s.event old.store.job (actor_at old.memory b).doing refl right.1),
                )
          ]
    ] in
    record {
      job = subst (λ (st : Store D). JobOfHolder (state_of st) new.history new.memory new.first_commit st.job new.holder) (sym step.store)
          (subst (λ n. JobOfHolder (state_of old.store) new.history new.memory n old.store.job new.holder) (sym step.first_commit)
          (subst (λ (o : Option ℕ). JobOfHolder (state_of old.store) new.history new.memory old.first_commit old.store.job o) (sym step.holder)
          (subst (λ (h : History). JobOfHolder (state_of old.store) h new.memory old.first_commit old.store.job old.holder) (sym s.history_is)
          (subst (λ (m : Memory). JobOfHolder (state_of old.store) (told_if a d.«from» s.event old.history) m old.first_commit old.store.job old.holder) (sym s.memory_is)
          (kept old.holder refl inv.job.job)))));
      covered = subst (λ (st : Store D). Covers (durable_changes new.first_commit (state_of st)) new.history.entries) (sym step.store)
          (subst (λ n. Covers (durable_changes n (state_of old.store)) new.history.entries) (sym step.first_commit)
          (subst (λ (h : History). Covers (durable_changes old.first_commit (state_of old.store)) h.entries) (sym s.history_is)
          (covers_more old.history a d.«from» _ _ s.event inv.job.covered (omega arith) (event_covers s.event s.turn _ log))));
    }

job_of_step : Laws → {D : Type 0} (face : DiskFace D) (tells : Telling) (start : Table) (a : ℕ) (d : Doing) (made : Call) (old new : World D) → Invariant tells start old
    → (actor_at old.memory a).doing ≡ Some d → d.call ≡ made → StepOf face tells a d made old new → JobIsRight new
job_of_step laws face tells start a d call.Sync old new inv inside is step = sync_job face tells start a d d.place old new inv inside refl step
job_of_step laws face tells start a d call.Home old new inv inside is step = home_job face tells start a d d.place old new inv inside refl step
job_of_step laws face tells start a d _ old new inv inside is step = group_job laws tells start a d old new inv inside (ap is_log_call is) step

pub job_kept : Laws → {D : Type 0} (face : DiskFace D) (tells : Telling) (start : Table) (a : ℕ) (old new : World D) → Invariant tells start old → Step face tells a old new → JobIsRight new
job_kept laws face tells start a old new inv step = job_of_step laws face tells start a step.doing step.doing.call old new inv step.inside refl step.step
