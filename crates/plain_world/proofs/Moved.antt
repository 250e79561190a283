-- A step that was found is one that the model allows, and so its event may happen.
use Rattle.std.proofs.Common.{◌≡◌, ℕ, Bool, true, false, List, Option, None, Some, true≢false, refl, sym, ap, ◌∙◌, subst}
use Rattle.log_record.specs.declared.image.Commit.{Commit}
use Rattle.life_table.specs.declared.types.Call.{Call}
use Rattle.life_table.specs.declared.types.Call.TheVariants as call
use Rattle.life_table.specs.declared.types.Event.{Event}
use Rattle.life_table.specs.declared.table.Table.{Table}
use Rattle.actor_world.specs.declared.memory.Doing.{Doing}
use Rattle.actor_world.specs.Caches.{actor_at}
use Rattle.actor_world.specs.Moves.{Move, is_log_call, move_of, waits_in_group}
use Rattle.actor_world.specs.World.{History, World}
use Rattle.actor_world.specs.Steps.{DiskFace, IsGroupStep, Pushes, Step, StepOf, makes_change}
use Rattle.actor_world.specs.Invariant.{Invariant}
use Rattle.life_table.specs.declared.key.Key.{Key}
use Rattle.actor_world.specs.declared.memory.Memory.{Memory}
use Rattle.plain_world.specs.declared.step.StepAnswer.TheVariants.{Idle, Went}
use Rattle.plain_world.specs.Answers.{answer_at, answer_of, from_at, from_of_doing, unless_waits}
use Rattle.plain_world.specs.Telling.{any_telling}
use Rattle.plain_world.specs.Worlds.{after_move, empty_commit, pushed}
use Rattle.plain_world.specs.Happenings.{MayHappenIf}
use Rattle.plain_world.proofs.Leading.{HoldersLaw, next_may_happen}

pushes : (changes : Bool) (old new : History) (queue : List Commit) → Pushes any_telling changes old new queue (pushed changes queue)
pushes true old new queue = (empty_commit, tt, refl)
pushes false old new queue = refl

step_of : {D : Type 0} (face : DiskFace D) (a : ℕ) (d : Doing) (made : Call) (old new : World D) → is_log_call made ≡ false
    → IsGroupStep any_telling a d old new → StepOf face any_telling a d made old new
step_of face a d (call.Create g) old new log step = step
step_of face a d (call.Tmpfile g) old new log step = step
step_of face a d (call.OpenKey key) old new log step = step
step_of face a d (call.CloseKey key) old new log step = step
step_of face a d (call.Link key) old new log step = step
step_of face a d (call.Unlink key) old new log step = step
step_of face a d (call.Grow key count) old new log step = step
step_of face a d (call.Cut key count) old new log step = step
step_of face a d (call.Stat key) old new log step = step
step_of face a d call.Sync old new log step = absurd (true≢false log)
step_of face a d call.Home old new log step = absurd (true≢false log)
step_of face a d call.Gc old new log step = step
step_of face a d (call.FlushInodes g) old new log step = step
step_of face a d (call.Reclaim g) old new log step = step

-- the step that the table and the memory determine
pub made_step : {D : Type 0} (face : DiskFace D) (a : ℕ) (d : Doing) (move : Move) (w : World D) → (actor_at w.memory a).doing ≡ Some d
    → is_log_call d.call ≡ false → move_of a w.history.table w.memory ≡ Some move → Step face any_telling a w (after_move a d.«from» move w)
made_step face a d move w inside log made = record {
  doing = d;
  inside = inside;
  step = step_of face a d d.call w (after_move a d.«from» move w) log (record {
    move = move;
    made = made;
    history = refl;
    memory = refl;
    queue = pushes (makes_change move.event) w.history (after_move a d.«from» move w).history w.queue;
    holder = refl;
    store = refl;
    first_commit = refl;
  });
}

-- the law that a step keeps what is always so
abbrev pub KeepsLaw : Type 0 → Type 0
KeepsLaw D = (face : DiskFace D) (start : Table) (a : ℕ) (old new : World D) → Invariant any_telling start old
    → Step face any_telling a old new → Invariant any_telling start new

move_may : {D : Type 0} (holders : HoldersLaw) (start : Table) (a begin : ℕ) (event : Option Event) (move : Move) (w : World D) → move.event ≡ event
    → Invariant any_telling start w → Invariant any_telling start (after_move a begin move w) → MayHappenIf w.history.table event
move_may holders start a begin None move w is right later = tt
move_may holders start a begin (Some event) move w is right later =
    let moved : Invariant any_telling start (after_move a begin (record { event = Some event; memory = move.memory }) w) =
    subst (λ e. Invariant any_telling start (after_move a begin (record { event = e; memory = move.memory }) w)) is later in
    next_may_happen holders start w.history.table w.history.entries a event right.table right.legal moved.legal

-- what happens by it may happen
pub made_may_happen : {D : Type 0} (face : DiskFace D) (keeps : KeepsLaw D) (holders : HoldersLaw) (start : Table) (a : ℕ) (d : Doing) (move : Move) (w : World D)
    → Invariant any_telling start w → (actor_at w.memory a).doing ≡ Some d → is_log_call d.call ≡ false
    → move_of a w.history.table w.memory ≡ Some move → MayHappenIf w.history.table move.event
made_may_happen face keeps holders start a d move w right inside log made =
    move_may holders start a d.«from» move.event move w refl right (keeps face start a w (after_move a d.«from» move w) right (made_step face a d move w inside log made))

-- ---- what the answer of a step says

goes_alone : (by : Option ℕ) (log : Bool) → unless_waits by log ≡ Went → log ≡ false
goes_alone (Some by) log e = cc
goes_alone None true e = cc
goes_alone None false e = refl

no_idle : Idle ≡ Went → ⊥
no_idle e = cc

-- where a step is made, the actor has a call that the log does not answer
went_in : (queue : List Key) (m : Memory) (o : Option Doing) → answer_of queue m o ≡ Went
    → (d : Doing) × (o ≡ Some d) × (is_log_call d.call ≡ false)
went_in queue m None e = absurd (no_idle e)
went_in queue m (Some d) e = (d, refl, goes_alone (waits_in_group queue d m) (is_log_call d.call) e)

pub step_may_happen : {D : Type 0} (face : DiskFace D) (keeps : KeepsLaw D) (holders : HoldersLaw) (start : Table) (a : ℕ) (move : Move) (w : World D)
    → Invariant any_telling start w → answer_at a w ≡ Went → move_of a w.history.table w.memory ≡ Some move → MayHappenIf w.history.table move.event
step_may_happen face keeps holders start a move w right went made =
    let inside = went_in (actor_at w.memory a).queue w.memory (actor_at w.memory a).doing went in
    made_may_happen face keeps holders start a inside.0 move w right inside.1 inside.2 made

pub step_goes : {D : Type 0} (face : DiskFace D) (a begin : ℕ) (move : Move) (w new : World D) → answer_at a w ≡ Went → begin ≡ from_at a w
    → move_of a w.history.table w.memory ≡ Some move → new ≡ after_move a begin move w → Step face any_telling a w new
step_goes face a begin move w new went from_is made new_is =
    let inside = went_in (actor_at w.memory a).queue w.memory (actor_at w.memory a).doing went in
    let same : begin ≡ inside.0.«from» = from_is ∙ ap from_of_doing inside.1 in
    subst (λ n. Step face any_telling a w n) (sym (new_is ∙ ap (λ f. after_move a f move w) same)) (made_step face a inside.0 move w inside.1 inside.2 made)
