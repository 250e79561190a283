-- What the entry of a whole call tells of faults and of the log.
use Rattle.std.proofs.Common.{Vec, Global, ◌≡◌, ◌+◌, ◌⊎◌, ℕ, zero, suc, Bool, true, false, List, [], ◌∷◌, ◌++◌, Option, None, Some, inl, inr, length, refl, ap, sym, subst, ◌∙◌, arith, length-append}
use Rattle.std.specs.Prelude.{◌==◌, IsTrue, if◌then◌else◌, nat_lt, slice_get}
use Rattle.life_limits.specs.declared.TheConstants.{MAX_EXTENTS, MAX_LINKS}
use Rattle.extent_fork.specs.Runs.{runs}
use Rattle.std.proofs.lemmas.Option.{none-some}
use Rattle.life_ports.specs.Faults.{Rose}
use Rattle.disk_model.specs.Disk.{Cell}
use Rattle.log_store.specs.declared.store.Job.{Job}
use Rattle.log_store.specs.declared.store.Job.TheVariants as job
use Rattle.log_store.specs.declared.store.Stage.{Stage}
use Rattle.log_store.specs.declared.store.Stage.TheVariants.{Down}
use Rattle.log_store.specs.Outcome.{down_count}
use Rattle.log_store.specs.State.{State, state_of}
use Rattle.life_table.specs.declared.key.Key.{Key}
use Rattle.life_table.specs.declared.types.Row.{Row}
use Rattle.life_table.specs.declared.types.Call.{Call}
use Rattle.life_table.specs.declared.types.Call.TheVariants as call
use Rattle.life_table.specs.declared.types.Reply.{Reply}
use Rattle.life_table.specs.declared.types.Reply.TheVariants as reply
use Rattle.life_table.specs.declared.types.Event.TheVariants.{Called}
use Rattle.life_table.specs.declared.types.Entry.{Entry}
use Rattle.life_table.specs.declared.types.MountRecord.{MountRecord}
use Rattle.life_table.specs.declared.table.Table.{Table}
use Rattle.life_table.specs.Legal.{free_of, grown_blocks}
use Rattle.life_table.specs.Space.{lowest_key, prepared}
use Rattle.life_table.specs.Table.{group_at, row_of}
use Rattle.life_table.specs.Replies.{create_reply, key_reply, row_reply}
use Rattle.mount.specs.declared.mounted.Mounted.{Mounted}
use Rattle.mounted_calls.specs.Calls.{IsDownBehind, IsHomeAnswer, IsJobFault, IsLogUp, IsSyncAnswer, entry_of, with_call}
use Rattle.run_mounts.specs.Calls.{AnswersCall, IsCalled, IsInCore, IsWholeCall}
use Rattle.script.specs.declared.answers.Said.TheVariants.{Of}
use Rattle.script_names.specs.declared.names.Names.{Names}
use Rattle.actor_holds.specs.declared.holds.ActorHolds.{ActorHolds}
use Rattle.run_faults.specs.Log.{LogKnown, MaySay, known_behind}
use Rattle.run_faults.specs.Log as known
use Rattle.run_faults.specs.News.{News, news_in, news_of, news_of_entry, news_of_event, news_of_reply}
use Rattle.run_faults.specs.News as news
use Rattle.run_faults.specs.Progress.{EntriesStay}
use Rattle.run_faults.specs.Told.{is_fault}
use Rattle.script_runs.specs.Faults.{IsTold, LogOfMountIs, TellsOfLog}
use Rattle.script_runs.specs.declared.running.Comes.TheVariants.{Answered}
use Rattle.script_runs.specs.declared.running.Device.TheVariants as device
use Rattle.script_runs.specs.declared.running.Up.{Up}
use Rattle.script_runs.proofs.Noted.{slice_last}
use Rattle.script_runs.proofs.Tells.{last_record, nothing_told, same_stage}

-- ---- a log that is up

-- news of a log that is not down, which may come while it is known to be up or in doubt
abbrev IsOfUp : News → Type 0
IsOfUp told = MaySay known.log_is_up told × MaySay known.log_in_doubt told

pub not_both : (s : Stage) (count : ℕ) → down_count s ≡ None → s ≡ Down count → ⊥
not_both s count up down = none-some count (sym up ∙ ap down_count down)

up_may : {D : Type 0} (log : LogKnown) (told : News) (old : Mounted D) → IsOfUp told → IsLogUp (state_of old.store) → LogOfMountIs log old → MaySay log told
up_may known.no_mount told old may up is = absurd is
up_may known.log_is_up told old may up is = may.0
up_may known.log_in_doubt told old may up is = may.1
up_may known.log_is_down told old may up is = absurd (not_both old.store.stage is.0 up is.1)

-- what is known behind it does not depend on what was known
abbrev Leaves : News → LogKnown → Type 0
Leaves told behind = (known_behind known.log_is_up told ≡ behind) × (known_behind known.log_in_doubt told ≡ behind)

up_behind : {D : Type 0} (log behind : LogKnown) (told : News) (old new : Mounted D) → Leaves told behind → IsLogUp (state_of old.store) → LogOfMountIs behind new → LogOfMountIs log old
    → LogOfMountIs (known_behind log told) new
up_behind known.no_mount behind told old new leaves up now is = absurd is
up_behind known.log_is_up behind told old new leaves up now is = subst (λ (l : LogKnown). LogOfMountIs l new) (sym leaves.0) now
up_behind known.log_in_doubt behind told old new leaves up now is = subst (λ (l : LogKnown). LogOfMountIs l new) (sym leaves.1) now
up_behind known.log_is_down behind told old new leaves up now is = absurd (not_both old.store.stage is.0 up is.1)

pub told_of_up : {D : Type 0} (fault_count : D → ℕ) (told : News) (behind : LogKnown) (old new : Up D) → IsOfUp told → Leaves told behind → IsLogUp (state_of old.mounted.store) → LogOfMountIs behind new.mounted
    → (IsTrue (is_fault told) → Rose (fault_count old.mounted.store.disk) (fault_count new.mounted.store.disk)) → IsTold fault_count told (device.Mounted old) (device.Mounted new)
told_of_up fault_count told behind old new may leaves up now rose = record {
  may = λ log is. up_may log told old.mounted may up is;
  behind = λ log is. up_behind log behind told old.mounted new.mounted leaves up now is;
  fault = rose;
}

-- ---- a log that is down

found_may : {D : Type 0} (log : LogKnown) (old : Mounted D) (count : ℕ) → old.store.stage ≡ Down count → LogOfMountIs log old → MaySay log news.call_finds_down
found_may known.no_mount old count down is = absurd is
found_may known.log_is_up old count down is = absurd (not_both old.store.stage count is down)
found_may known.log_in_doubt old count down is = tt
found_may known.log_is_down old count down is = tt

found_behind : {D : Type 0} (log : LogKnown) (old new : Mounted D) (count : ℕ) → old.store.stage ≡ Down count → new.store.stage ≡ Down count → LogOfMountIs log old
    → LogOfMountIs (known_behind log news.call_finds_down) new
found_behind known.no_mount old new count down now is = absurd is
found_behind known.log_is_up old new count down now is = absurd (not_both old.store.stage count is down)
found_behind known.log_in_doubt old new count down now is = (count, now)
found_behind known.log_is_down old new count down now is = (count, now)

told_of_down : {D : Type 0} (fault_count : D → ℕ) (count : ℕ) (old new : Up D) → old.mounted.store.stage ≡ Down count → new.mounted.store.stage ≡ Down count
    → IsTold fault_count news.call_finds_down (device.Mounted old) (device.Mounted new)
told_of_down fault_count count old new down now = record {
  may = λ log is. found_may log old.mounted count down is;
  behind = λ log is. found_behind log old.mounted new.mounted count down now is;
  fault = λ none. absurd cc;
}

-- ---- calls on the device

-- where a job's fault is one of the device, its count rose
rose_in_job : (work : Job) (answer : Reply) (old new : State) (before now : ℕ) → IsJobFault work answer old new before now → IsTrue (is_fault (news_of_reply answer)) → Rose before now
rose_in_job work reply.Done old new before now fault told = absurd fault
rose_in_job work (reply.Made key) old new before now fault told = absurd fault
rose_in_job work (reply.Shown key links blocks shown) old new before now fault told = absurd fault
rose_in_job work (reply.Covered count) old new before now fault told = absurd fault
rose_in_job work reply.Stale old new before now fault told = absurd fault
rose_in_job work reply.Crowded old new before now fault told = absurd fault
rose_in_job work reply.NoInodes old new before now fault told = absurd fault
rose_in_job work reply.NoSpace old new before now fault told = absurd fault
rose_in_job work reply.TooManyLinks old new before now fault told = absurd fault
rose_in_job work reply.NoLinks old new before now fault told = absurd fault
rose_in_job work reply.TooManyExtents old new before now fault told = absurd fault
rose_in_job work reply.CutTooFar old new before now fault told = absurd fault
rose_in_job work reply.WriteFault old new before now fault told = fault.0
rose_in_job work reply.FlushFault old new before now fault told = fault.0
rose_in_job work reply.PositionEnd old new before now fault told = absurd cc
rose_in_job work (reply.Down count) old new before now fault told = absurd cc

-- what an answer of one tells
told_by : {D : Type 0} (fault_count : D → ℕ) (answer : Reply) (old new : Up D) → ¬ (answer ≡ reply.Done) → IsDownBehind answer (state_of old.mounted.store) (state_of new.mounted.store)
    → (IsTrue (is_fault (news_of_reply answer)) → Rose (fault_count old.mounted.store.disk) (fault_count new.mounted.store.disk))
    → IsTold fault_count (news_of_reply answer) (device.Mounted old) (device.Mounted new)
told_by fault_count reply.Done old new some behind rose = absurd (some refl)
told_by fault_count (reply.Made key) old new some behind rose = absurd behind
told_by fault_count (reply.Shown key links blocks shown) old new some behind rose = absurd behind
told_by fault_count (reply.Covered count) old new some behind rose = told_of_up fault_count news.log_works known.log_is_up old new (tt, tt) (refl, refl) behind.0 behind.1 rose
told_by fault_count reply.Stale old new some behind rose = absurd behind
told_by fault_count reply.Crowded old new some behind rose = absurd behind
told_by fault_count reply.NoInodes old new some behind rose = absurd behind
told_by fault_count reply.NoSpace old new some behind rose = absurd behind
told_by fault_count reply.TooManyLinks old new some behind rose = absurd behind
told_by fault_count reply.NoLinks old new some behind rose = absurd behind
told_by fault_count reply.TooManyExtents old new some behind rose = absurd behind
told_by fault_count reply.CutTooFar old new some behind rose = absurd behind
told_by fault_count reply.WriteFault old new some behind rose = told_of_up fault_count news.write_fails known.log_in_doubt old new (tt, tt) (refl, refl) behind tt rose
told_by fault_count reply.FlushFault old new some behind rose = told_of_up fault_count news.flush_fails known.log_is_down old new (tt, tt) (refl, refl) behind.0 behind.1 rose
told_by fault_count reply.PositionEnd old new some behind rose = told_of_up fault_count news.positions_end known.log_is_up old new (tt, tt) (refl, refl) behind.0 behind.1 rose
told_by fault_count (reply.Down count) old new some behind rose = told_of_down fault_count count old new behind.0 behind.1

-- no sync is answered that it is done
told_by_sync : {D : Type 0} (fault_count : D → ℕ) (story : MountRecord) (answer : Reply) (old new : Up D)
    → IsSyncAnswer story answer (state_of old.mounted.store) (state_of new.mounted.store) (fault_count old.mounted.store.disk) (fault_count new.mounted.store.disk)
    → IsDownBehind answer (state_of old.mounted.store) (state_of new.mounted.store) → IsTold fault_count (news_of_event (Called call.Sync answer)) (device.Mounted old) (device.Mounted new)
told_by_sync fault_count story (reply.Covered count) old new answers behind = told_by fault_count (reply.Covered count) old new (λ is. absurd cc) behind (λ none. absurd cc)
told_by_sync fault_count story reply.Done old new answers behind = absurd answers
told_by_sync fault_count story (reply.Made key) old new answers behind = absurd behind
told_by_sync fault_count story (reply.Shown key links blocks shown) old new answers behind = absurd behind
told_by_sync fault_count story reply.Stale old new answers behind = absurd behind
told_by_sync fault_count story reply.Crowded old new answers behind = absurd behind
told_by_sync fault_count story reply.NoInodes old new answers behind = absurd behind
told_by_sync fault_count story reply.NoSpace old new answers behind = absurd behind
told_by_sync fault_count story reply.TooManyLinks old new answers behind = absurd behind
told_by_sync fault_count story reply.NoLinks old new answers behind = absurd behind
told_by_sync fault_count story reply.TooManyExtents old new answers behind = absurd behind
told_by_sync fault_count story reply.CutTooFar old new answers behind = absurd behind
told_by_sync fault_count story reply.WriteFault old new answers behind = told_by fault_count reply.WriteFault old new (λ is. absurd cc) behind (λ told. answers.0)
told_by_sync fault_count story reply.FlushFault old new answers behind = told_by fault_count reply.FlushFault old new (λ is. absurd cc) behind (λ told. answers.0)
told_by_sync fault_count story reply.PositionEnd old new answers behind = told_by fault_count reply.PositionEnd old new (λ is. absurd cc) behind (λ none. absurd cc)
told_by_sync fault_count story (reply.Down count) old new answers behind = told_by fault_count (reply.Down count) old new (λ is. absurd cc) behind (λ none. absurd cc)

rose_either : (answer : Reply) (old new : State) (before now : ℕ) → IsJobFault job.WriteBack answer old new before now ⊎ IsJobFault job.Home answer old new before now → IsTrue (is_fault (news_of_reply answer))
    → Rose before now
rose_either answer old new before now (inl fault) told = rose_in_job job.WriteBack answer old new before now fault told
rose_either answer old new before now (inr fault) told = rose_in_job job.Home answer old new before now fault told

told_by_home : {D : Type 0} (known_is : Bool) (cells : List Cell) (fault_count : D → ℕ) (answer : Reply) (old new : Up D)
    → IsHomeAnswer known_is cells answer (state_of old.mounted.store) (state_of new.mounted.store) (fault_count old.mounted.store.disk) (fault_count new.mounted.store.disk)
    → IsDownBehind answer (state_of old.mounted.store) (state_of new.mounted.store) → IsTold fault_count (news_of_event (Called call.Home answer)) (device.Mounted old) (device.Mounted new)
told_by_home known_is cells fault_count reply.Done old new answers behind =
    told_of_up fault_count news.log_works known.log_is_up old new (tt, tt) (refl, refl) behind.0 behind.1 (λ none. absurd cc)
told_by_home known_is cells fault_count (reply.Covered count) old new answers behind = told_by fault_count (reply.Covered count) old new (λ is. absurd cc) behind (λ none. absurd cc)
told_by_home known_is cells fault_count (reply.Made key) old new answers behind = absurd behind
told_by_home known_is cells fault_count (reply.Shown key links blocks shown) old new answers behind = absurd behind
told_by_home known_is cells fault_count reply.Stale old new answers behind = absurd behind
told_by_home known_is cells fault_count reply.Crowded old new answers behind = absurd behind
told_by_home known_is cells fault_count reply.NoInodes old new answers behind = absurd behind
told_by_home known_is cells fault_count reply.NoSpace old new answers behind = absurd behind
told_by_home known_is cells fault_count reply.TooManyLinks old new answers behind = absurd behind
told_by_home known_is cells fault_count reply.NoLinks old new answers behind = absurd behind
told_by_home known_is cells fault_count reply.TooManyExtents old new answers behind = absurd behind
told_by_home known_is cells fault_count reply.CutTooFar old new answers behind = absurd behind
told_by_home known_is cells fault_count reply.WriteFault old new answers behind =
    told_by fault_count reply.WriteFault old new (λ is. absurd cc) behind
    (rose_either reply.WriteFault (state_of old.mounted.store) (state_of new.mounted.store) (fault_count old.mounted.store.disk) (fault_count new.mounted.store.disk) answers)
told_by_home known_is cells fault_count reply.FlushFault old new answers behind =
    told_by fault_count reply.FlushFault old new (λ is. absurd cc) behind
    (rose_either reply.FlushFault (state_of old.mounted.store) (state_of new.mounted.store) (fault_count old.mounted.store.disk) (fault_count new.mounted.store.disk) answers)
told_by_home known_is cells fault_count reply.PositionEnd old new answers behind = told_by fault_count reply.PositionEnd old new (λ is. absurd cc) behind (λ none. absurd cc)
told_by_home known_is cells fault_count (reply.Down count) old new answers behind = told_by fault_count (reply.Down count) old new (λ is. absurd cc) behind (λ none. absurd cc)

-- ---- calls on a group

abbrev TellsNothing : Reply → Type 0
TellsNothing answer = news_of_reply answer ≡ news.other_news

either_nothing : (b : Bool) (one other : Reply) → TellsNothing one → TellsNothing other → TellsNothing (if b then one else other)
either_nothing true one other a b = a
either_nothing false one other a b = b

create_nothing : (o : Option Key) → TellsNothing (create_reply o)
create_nothing None = refl
create_nothing (Some key) = refl

key_nothing : (t : Table) (o : Option Row) (made : Call) → ((row : Row) → TellsNothing (row_reply t row made)) → TellsNothing (key_reply t o made)
key_nothing t None made each = refl
key_nothing t (Some row) made each = each row

told_in_core : {D : Type 0} (fault_count : D → ℕ) (told : News) (old new : Up D) → told ≡ news.other_news → IsInCore old.mounted new.mounted
    → IsTold fault_count told (device.Mounted old) (device.Mounted new)
told_in_core fault_count told old new nothing core =
    subst (λ (n : News). IsTold fault_count n (device.Mounted old) (device.Mounted new)) (sym nothing)
    (nothing_told fault_count (device.Mounted old) (device.Mounted new) (λ log is. same_stage log old.mounted new.mounted core.stage is))

-- ---- each call

told_by_call : {D : Type 0} (known_is : Bool) (cells : D → List Cell) (fault_count : D → ℕ) (t : Table) (made : Call) (answer : Reply) (old new : Up D) → IsWholeCall made
    → AnswersCall known_is cells fault_count t made answer old.mounted new.mounted → IsTold fault_count (news_of_event (Called made answer)) (device.Mounted old) (device.Mounted new)
told_by_call known_is cells fault_count t (call.Create group) answer old new whole answers =
    told_in_core fault_count (news_of_reply answer) old new (subst TellsNothing (sym answers.0) (create_nothing (lowest_key group (prepared t.blocks group (group_at t group))))) answers.1
told_by_call known_is cells fault_count t (call.Tmpfile group) answer old new whole answers =
    told_in_core fault_count (news_of_reply answer) old new (subst TellsNothing (sym answers.0) (create_nothing (lowest_key group (prepared t.blocks group (group_at t group))))) answers.1
told_by_call known_is cells fault_count t (call.Link key) answer old new whole answers =
    told_in_core fault_count (news_of_reply answer) old new (subst TellsNothing (sym answers.0) (key_nothing t (row_of t key) (call.Link key) (λ row. either_nothing (row.links == MAX_LINKS) reply.TooManyLinks reply.Done refl refl))) answers.1
told_by_call known_is cells fault_count t (call.Unlink key) answer old new whole answers =
    told_in_core fault_count (news_of_reply answer) old new (subst TellsNothing (sym answers.0) (key_nothing t (row_of t key) (call.Unlink key) (λ row. either_nothing (row.links == 0) reply.NoLinks reply.Done refl refl))) answers.1
told_by_call known_is cells fault_count t (call.Grow key count) answer old new whole answers =
    told_in_core fault_count (news_of_reply answer) old new (subst TellsNothing (sym answers.0) (key_nothing t (row_of t key) (call.Grow key count) (λ row. either_nothing (nat_lt (length (free_of t key)) count) reply.NoSpace (if nat_lt MAX_EXTENTS (length (runs (grown_blocks t key count row))) then reply.TooManyExtents else reply.Done) refl
    (either_nothing (nat_lt MAX_EXTENTS (length (runs (grown_blocks t key count row)))) reply.TooManyExtents reply.Done refl refl)))) answers.1
told_by_call known_is cells fault_count t (call.Cut key count) answer old new whole answers =
    told_in_core fault_count (news_of_reply answer) old new (subst TellsNothing (sym answers.0) (key_nothing t (row_of t key) (call.Cut key count) (λ row. either_nothing (nat_lt (length row.blocks) count) reply.CutTooFar reply.Done refl refl))) answers.1
told_by_call known_is cells fault_count t (call.Stat key) answer old new whole answers =
    told_in_core fault_count (news_of_reply answer) old new (subst TellsNothing (sym answers.0) (key_nothing t (row_of t key) (call.Stat key) (λ row. refl))) answers.1
told_by_call known_is cells fault_count t call.Sync answer old new whole answers = told_by_sync fault_count old.mounted.story answer old new answers.0 answers.1
told_by_call known_is cells fault_count t call.Home answer old new whole answers = told_by_home known_is (cells new.mounted.store.disk) fault_count answer old new answers.0 answers.1
told_by_call known_is cells fault_count t _ answer old new whole answers = absurd whole

pub called_tells : {D : Type 0} (known_is : Bool) (cells : D → List Cell) (sector_count fault_count : D → ℕ) (start t : Table) (actor : ℕ) (made : Call) (old new : Up D) → IsWholeCall made
    → (called : IsCalled known_is cells sector_count fault_count start t actor made old.mounted new.mounted)
    → IsTold fault_count (news_of_event (Called made called.answer)) (device.Mounted old) (device.Mounted new)
called_tells known_is cells sector_count fault_count start t actor made old new whole called = told_by_call known_is cells fault_count t made called.answer old new whole called.answers

-- ---- the line of a call

entry_within : (entries more : List Entry) (i : ℕ) (entry : Entry) → slice_get entries i ≡ Some entry → slice_get (entries ++ more) i ≡ Some entry
entry_within [] more i entry at = absurd cc
entry_within (first ∷ entries) more zero entry at = at
entry_within (first ∷ entries) more (suc i) entry at = entry_within entries more i entry at

pub call_stays : (old new : MountRecord) (actor : ℕ) (made : Call) (answer : Reply) → new ≡ with_call old actor made answer → EntriesStay old new
call_stays old new actor made answer is =
    subst (EntriesStay old) (sym is) (λ place entry at. entry_within old.entries (entry_of actor made answer ∷ []) place entry at)

-- the last entry of a record with a call more is the call's
last_entry : (old new : MountRecord) (actor place : ℕ) (made : Call) (answer : Reply) → new ≡ with_call old actor made answer → place + 1 ≡ length new.entries
    → slice_get new.entries place ≡ Some (entry_of actor made answer)
last_entry old new actor place made answer is at =
    let size : length new.entries ≡ length old.entries + 1 = ap (λ (x : MountRecord). length x.entries) is ∙ length-append old.entries (entry_of actor made answer ∷ []) in
    let here : place ≡ length old.entries = omega (arith, at, size) in
    ap (λ (x : MountRecord). slice_get x.entries place) is ∙ ap (slice_get (old.entries ++ entry_of actor made answer ∷ [])) here ∙ slice_last old.entries (entry_of actor made answer)

last_of_records : (past : List MountRecord) (story : MountRecord) → slice_get (past ++ story ∷ []) (length past) ≡ Some story
last_of_records [] story = refl
last_of_records (first ∷ past) story = last_of_records past story

pub entry_told : (past : List MountRecord) (old new : MountRecord) (mount actor place : ℕ) (made : Call) (answer : Reply) → new ≡ with_call old actor made answer → mount ≡ length past
    → place + 1 ≡ length new.entries → news_of (past ++ new ∷ []) (Of mount place) ≡ news_of_event (Called made answer)
entry_told past old new mount actor place made answer is mount_is at =
    ap (λ (n : ℕ). news_in (slice_get (past ++ new ∷ []) n) place) mount_is ∙ ap (λ (o : Option MountRecord). news_in o place) (last_of_records past new)
    ∙ ap news_of_entry (last_entry old new actor place made answer is at)

-- a line that is answered by its call's entry
pub call_tells : {D : Type 0} (fault_count : D → ℕ) (old up : Up D) (holds : ActorHolds) (names : Names) (past : Vec MountRecord Global) (mount actor place : ℕ) (made : Call) (answer : Reply)
    → up.mounted.story ≡ with_call old.mounted.story actor made answer → mount ≡ length past.items → place + 1 ≡ length up.mounted.story.entries
    → IsTold fault_count (news_of_event (Called made answer)) (device.Mounted old) (device.Mounted up)
    → TellsOfLog fault_count past.items (device.Mounted old)
    (Answered (record { names = names; past = past; device = device.Mounted (record { mounted = up.mounted; holds = holds }) }) (Of mount place))
call_tells fault_count old up holds names past mount actor place made answer is mount_is at told =
    let here : news_of (past.items ++ up.mounted.story ∷ []) (Of mount place) ≡ news_of_event (Called made answer) =
    entry_told past.items old.mounted.story up.mounted.story mount actor place made answer is mount_is at in (
      last_record past.items old.mounted.story up.mounted.story (call_stays old.mounted.story up.mounted.story actor made answer is),
      subst (λ (n : News). IsTold fault_count n (device.Mounted old) (device.Mounted (record { mounted = up.mounted; holds = holds }))) (sym here)
          (record { may = told.may; behind = told.behind; fault = told.fault }),
    )
