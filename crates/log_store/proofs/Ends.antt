-- A step after which the job goes on leaves fewer.
use Rattle.std.proofs.Common.{Bool, true, false, Ok, ◌≡◌, ◌≢◌, ◌+◌, ◌-◌, ◌*◌, ◌%◌, ◌^◌, ◌<◌, ◌≤◌, ℕ, List, [], ◌∷◌, length, cond, refl, sym, ap, ◌∙◌, subst, arith, length-drop}
use Rattle.std.specs.Prelude.{nat_le, nat_lt}
use Rattle.std.proofs.lemmas.Bool.Decides.{nat_tests}
use Rattle.life_bytes.specs.declared.sector.Sector.{Sector}
use Rattle.life_limits.specs.declared.TheConstants.{MAX_RECORD_SECTORS}
use Rattle.disk_model.specs.Disk.{Arming, Cell}
use Rattle.log_record.specs.declared.image.Image.{Image}
use Rattle.log_record.specs.declared.image.Commit.{Commit}
use Rattle.log_record.specs.Encoding.{sector_count}
use Rattle.log_store.specs.declared.fault.Progress.TheVariants.{Ended, More}
use Rattle.log_store.specs.declared.store.Job.{Job}
use Rattle.log_store.specs.declared.store.Job.TheVariants.{Clear, Force, Home, Idle, Nothing, WriteBack}
use Rattle.log_store.specs.declared.store.Stage.{Stage}
use Rattle.log_store.specs.declared.store.Stage.TheVariants.{Cover, Down, Free, Half, Record}
use Rattle.log_store.specs.declared.store.Store.{Store}
use Rattle.log_store.specs.Calls.{has_room, with_batch}
use Rattle.log_store.specs.Actions
use Rattle.log_store.specs.Actions.{Action, IsGathered, IsStep, MaySucceed, action_at, done_state, force_action, gathers, gathers_at_rest, home_action, next_job, progress_of, room_action, step_action, step_job, turned_force, within_positions}
use Rattle.log_store.specs.Outcome.{steps_at, steps_at_rest, steps_left}
use Rattle.log_store.specs.State.{State, state_of}
use Rattle.log_store.specs.Steps.{IsConsistent, IsInFlight, StageFits}
use Rattle.log_store.proofs.Done.{record_action, some_gathers, with_batch_same}
use Rattle.log_store.proofs.Launch.{length-put_all-le}

-- an action leaves fewer steps than this beside those of the commits and the dirty images
abbrev pub Lowers : Action → Job → State → ℕ → Type 0
Lowers action job s top = steps_left (done_state action s) (next_job action job) < 600 * length s.list + 2 * length s.dirty + top

ended_more : More ≡ Ended → ⊥
ended_more is = cc

few_if : (b : Bool) (x y : ℕ) → x ≤ 10 → y ≤ 10 → cond b x y ≤ 10
few_if true x y one other = one
few_if false x y one other = other

rest_few : (job : Job) (s : State) → steps_at_rest job s ≤ 10
rest_few Force s = few_if (nat_lt s.ring ((s.head - s.tail) + MAX_RECORD_SECTORS + 1)) 10 5 (omega arith) (omega arith)
rest_few Clear s = few_if s.unflushed 8 7 (omega arith) (omega arith)
rest_few Home s = few_if s.unflushed 8 7 (omega arith) (omega arith)
rest_few WriteBack s = few_if s.unflushed 8 7 (omega arith) (omega arith)
rest_few Nothing s = omega arith
rest_few Idle s = omega arith

-- ---- home

-- the jobs of which a dirty image is written home, or what was written is flushed
abbrev pub GoesHome : Job → Type 0
GoesHome Clear = Unit {0}
GoesHome Home = Unit {0}
GoesHome WriteBack = Unit {0}
GoesHome Force = ⊥
GoesHome Nothing = ⊥
GoesHome Idle = ⊥

home_steps : (job : Job) (s : State) (b : Bool) → GoesHome job → s.unflushed ≡ b → steps_at_rest job s ≡ cond b 8 7
home_steps Clear s b home is = ap (λ (u : Bool). cond u 8 7) is
home_steps Home s b home is = ap (λ (u : Bool). cond u 8 7) is
home_steps WriteBack s b home is = ap (λ (u : Bool). cond u 8 7) is
home_steps Force s b home is = absurd home
home_steps Nothing s b home is = absurd home
home_steps Idle s b home is = absurd home

at_free : (stage : Stage) (job : Job) (s : State) → stage ≡ Free → steps_at stage job s ≡ steps_at_rest job s
at_free stage job s is = ap (λ (st : Stage). steps_at st job s) is

written_lowers : (job : Job) (s : State) (image : Image) (rest : List Image) (top : ℕ) → GoesHome job → s.stage ≡ Free → s.dirty ≡ image ∷ rest → 7 ≤ top
    → Lowers (Actions.write_home image rest) job s top
written_lowers job s image rest top home free dirty le =
    let after : State = done_state (Actions.write_home image rest) s in
    let steps : steps_at s.stage job after ≡ 8 = at_free s.stage job after free ∙ home_steps job after true home refl in
    let size : length s.dirty ≡ length (image ∷ rest) = ap length dirty in
    omega (arith, steps, size, le)

flushed_lowers : (job : Job) (s : State) (top : ℕ) → GoesHome job → s.stage ≡ Free → 8 ≤ top → Lowers Actions.flush_home job s top
flushed_lowers job s top home free le =
    let after : State = done_state Actions.flush_home s in
    let steps : steps_at s.stage job after ≡ 7 = at_free s.stage job after free ∙ home_steps job after false home refl in
    omega (arith, steps, le)

cover_lowers : (job : Job) (s : State) (top : ℕ) (past : Bool) → 7 ≤ top → MaySucceed (cond past Actions.end_positions Actions.write_cover)
    → Lowers (cond past Actions.end_positions Actions.write_cover) job s top
cover_lowers job s top true le may = absurd may
cover_lowers job s top false le may = omega (arith, le)

room_lowers : (job : Job) (s : State) (dirty : List Image) (unflushed : Bool) (top : ℕ) → GoesHome job → s.stage ≡ Free → s.dirty ≡ dirty → s.unflushed ≡ unflushed
    → cond unflushed 8 7 ≤ top → MaySucceed (home_action dirty unflushed (within_positions (s.head + 1) Actions.write_cover))
    → Lowers (home_action dirty unflushed (within_positions (s.head + 1) Actions.write_cover)) job s top
room_lowers job s (image ∷ rest) true top home free dirty_is flushed_is le may = written_lowers job s image rest top home free dirty_is (omega (arith, le))
room_lowers job s (image ∷ rest) false top home free dirty_is flushed_is le may = written_lowers job s image rest top home free dirty_is le
room_lowers job s [] true top home free dirty_is flushed_is le may = flushed_lowers job s top home free le
room_lowers job s [] false top home free dirty_is flushed_is le may = cover_lowers job s top (nat_lt (2 ^ 63) (s.head + 1)) le may

back_lowers : (s : State) (dirty : List Image) (unflushed : Bool) → s.stage ≡ Free → s.dirty ≡ dirty → s.unflushed ≡ unflushed
    → More ≡ progress_of (home_action dirty unflushed Actions.end_job) WriteBack s
    → Lowers (home_action dirty unflushed Actions.end_job) WriteBack s (cond unflushed 8 7)
back_lowers s (image ∷ rest) true free dirty_is flushed_is more = written_lowers WriteBack s image rest 8 tt free dirty_is (omega arith)
back_lowers s (image ∷ rest) false free dirty_is flushed_is more = written_lowers WriteBack s image rest 7 tt free dirty_is (omega arith)
back_lowers s [] true free dirty_is flushed_is more = absurd (ended_more more)
back_lowers s [] false free dirty_is flushed_is more = absurd (ended_more more)

-- ---- a force

cons_nil : (commit : Commit) (list : List Commit) → commit ∷ list ≡ [] → ⊥
cons_nil commit list is = cc

five : (b : Bool) → 5 ≤ cond b 10 5
five true = omega arith
five false = omega arith

lt_true : (a b : ℕ) → a < b → nat_lt a b ≡ true
lt_true a b h = grind (arith, nat_tests)

lt_false : (a b : ℕ) → b ≤ a → nat_lt a b ≡ false
lt_false a b h = grind (arith, nat_tests)

le_is_false : (a b : ℕ) → nat_le a b ≡ false → b < a
le_is_false a b h = grind (arith, nat_tests)

staged_few : (b : Bool) (s : State) → steps_at (cond b Record Half) Force s ≤ 4
staged_few true s = omega arith
staged_few false s = omega arith

record_lowers : (s : State) (past : Bool) → MaySucceed (cond past Actions.end_positions Actions.write_record)
    → Lowers (cond past Actions.end_positions Actions.write_record) Force s 5
record_lowers s true may = absurd may
record_lowers s false may =
    let after : State = done_state Actions.write_record s in
    omega (arith, staged_few (nat_le (sector_count (length s.batch)) (s.ring - s.head % s.ring)) after)

pub lowers_more : (action : Action) (job : Job) (s : State) (top more : ℕ) → top ≤ more → Lowers action job s top → Lowers action job s more
lowers_more action job s top more le lowers = omega (arith, le, lowers)

short_force : (s : State) → length s.batch ≤ 128 → has_room s (length s.batch) ≡ false → steps_at_rest Force s ≡ 10
short_force s few short =
    let full : s.ring < (s.head - s.tail) + sector_count (length s.batch) + 1 = le_is_false _ _ short in
    let test : nat_lt s.ring ((s.head - s.tail) + MAX_RECORD_SECTORS + 1) ≡ true = lt_true _ _ (omega (arith, full, few)) in
    ap (λ (b : Bool). cond b 10 5) test

force_more : (s : State) → 5 ≤ steps_at_rest Force s
force_more s = five (nat_lt s.ring ((s.head - s.tail) + MAX_RECORD_SECTORS + 1))

force_lowers : (list : List Commit) (s : State) (room : Bool) → s.stage ≡ Free → s.list ≡ list → has_room s (length s.batch) ≡ room
    → (list ≢ [] → length s.batch ≤ 128) → MaySucceed (action_at Free (turned_force list s) s)
    → More ≡ progress_of (action_at Free (turned_force list s) s) (turned_force list s) s
    → Lowers (action_at Free (turned_force list s) s) (turned_force list s) s (steps_at_rest Force s)
force_lowers [] s room free list_is room_is few may more =
    absurd (ended_more (more ∙ ap (λ (l : List Commit). progress_of (force_action l s) Force s) list_is))
force_lowers (commit ∷ list) s true free list_is room_is few may more =
    let jobs : turned_force (commit ∷ list) s ≡ Force = ap (λ (b : Bool). cond b Force Clear) room_is in
    let some : s.list ≢ [] = λ none. cons_nil commit list (sym list_is ∙ none) in
    let action : force_action s.list s ≡ within_positions (s.head + sector_count (length s.batch)) Actions.write_record = record_action s.list s some in
    let may_record : MaySucceed (within_positions (s.head + sector_count (length s.batch)) Actions.write_record) =
    subst MaySucceed action (subst (λ (j : Job). MaySucceed (action_at Free j s)) jobs may) in
    subst (λ (j : Job). Lowers (action_at Free j s) j s (steps_at_rest Force s)) (sym jobs)
    (subst (λ (a : Action). Lowers a Force s (steps_at_rest Force s)) (sym action)
    (lowers_more _ Force s 5 (steps_at_rest Force s) (force_more s) (record_lowers s (nat_lt (2 ^ 63) (s.head + sector_count (length s.batch))) may_record)))
force_lowers (commit ∷ list) s false free list_is room_is few may more =
    let jobs : turned_force (commit ∷ list) s ≡ Clear = ap (λ (b : Bool). cond b Force Clear) room_is in
    let ten : steps_at_rest Force s ≡ 10 = short_force s (few (cons_nil commit list)) room_is in
    subst (λ (j : Job). Lowers (action_at Free j s) j s (steps_at_rest Force s)) (sym jobs)
    (room_lowers Clear s s.dirty s.unflushed (steps_at_rest Force s) tt free refl refl
    (subst (λ (n : ℕ). cond s.unflushed 8 7 ≤ n) (sym ten) (few_if s.unflushed 8 7 (omega arith) (omega arith)))
    (subst (λ (j : Job). MaySucceed (action_at Free j s)) jobs may))

-- ---- flushes of the log

landed_lowers : (job : Job) (s : State) (sectors : List Sector) (count : ℕ) → IsInFlight s sectors count → Lowers Actions.flush_record job s 3
landed_lowers job s sectors count flight =
    omega (
      arith,
      rest_few job (done_state Actions.flush_record s),
      flight.some,
      flight.batch.within,
      flight.batch.few,
      length-drop s.taken s.list,
      length-put_all-le s.batch s.dirty,
    )

covered_lowers : (job : Job) (s : State) → 256 ≤ s.ring → Lowers Actions.flush_cover job s 6
covered_lowers job s least =
    let test : nat_lt s.ring (((s.head + 1) - s.head) + MAX_RECORD_SECTORS + 1) ≡ false = lt_false _ _ (omega (arith, least)) in
    let five : steps_at_rest Force (done_state Actions.flush_cover s) ≡ 5 = ap (λ (b : Bool). cond b 10 5) test in
    omega (arith, five)

-- ---- each stage

rest_lowers : (job : Job) (s : State) → s.stage ≡ Free → (job ≡ Force → s.list ≢ [] → length s.batch ≤ 128)
    → MaySucceed (step_action Free job s) → More ≡ progress_of (step_action Free job s) (step_job Free job s) s
    → Lowers (step_action Free job s) (step_job Free job s) s (steps_at_rest job s)
rest_lowers Force s free few may more = force_lowers s.list s (has_room s (length s.batch)) free refl refl (few refl) may more
rest_lowers Clear s free few may more = room_lowers Clear s s.dirty s.unflushed (steps_at_rest Clear s) tt free refl refl (omega arith) may
rest_lowers Home s free few may more = room_lowers Home s s.dirty s.unflushed (steps_at_rest Home s) tt free refl refl (omega arith) may
rest_lowers WriteBack s free few may more = back_lowers s s.dirty s.unflushed free refl refl more
rest_lowers Nothing s free few may more = absurd (ended_more more)
rest_lowers Idle s free few may more = absurd (ended_more more)

stage_lowers : (stage : Stage) (job : Job) (s : State) (sectors : List Sector) (count : ℕ) → s.stage ≡ stage → StageFits stage s sectors count → 256 ≤ s.ring
    → (stage ≡ Free → job ≡ Force → s.list ≢ [] → length s.batch ≤ 128)
    → MaySucceed (step_action stage job s) → More ≡ progress_of (step_action stage job s) (step_job stage job s) s
    → Lowers (step_action stage job s) (step_job stage job s) s (steps_at stage job s)
stage_lowers Free job s sectors count is fits least few may more = rest_lowers job s is (few refl) may more
stage_lowers Half job s sectors count is fits least few may more = omega arith
stage_lowers Record job s sectors count is fits least few may more = landed_lowers job s sectors count fits
stage_lowers Cover job s sectors count is fits least few may more = covered_lowers job s least
stage_lowers (Down fault) job s sectors count is fits least few may more = absurd may

-- ---- a step

pub fits_gathered : (stage : Stage) (job : Job) (list : List Commit) (s n : State) (sectors : List Sector) (count : ℕ) → IsGathered (gathers stage job list) s n
    → StageFits stage s sectors count → StageFits stage (with_batch s n) sectors count
fits_gathered Free job list s n sectors count keeps fits = tt
fits_gathered Half job list s n sectors count keeps fits = subst (λ (x : State). StageFits Half x sectors count) (sym (with_batch_same s n keeps)) fits
fits_gathered Record job list s n sectors count keeps fits = subst (λ (x : State). StageFits Record x sectors count) (sym (with_batch_same s n keeps)) fits
fits_gathered Cover job list s n sectors count keeps fits = fits
fits_gathered (Down fault) job list s n sectors count keeps fits = tt

same_rest : (job : Job) (s n : State) → steps_at_rest job (with_batch s n) ≡ steps_at_rest job s
same_rest Force s n = refl
same_rest Clear s n = refl
same_rest Home s n = refl
same_rest WriteBack s n = refl
same_rest Nothing s n = refl
same_rest Idle s n = refl

same_steps : (stage : Stage) (job : Job) (s n : State) → steps_at stage job (with_batch s n) ≡ steps_at stage job s
same_steps Free job s n = same_rest job s n
same_steps Half job s n = refl
same_steps Record job s n = refl
same_steps Cover job s n = refl
same_steps (Down fault) job s n = refl

batch_few : (stage : Stage) (job : Job) (list : List Commit) (s n : State) → IsGathered (gathers stage job list) s n
    → stage ≡ Free → job ≡ Force → list ≢ [] → length n.batch ≤ 128
batch_few stage job list s n gathered free force some =
    let is : gathers stage job list ≡ true =
    ap (λ (st : Stage). gathers st job list) free ∙ ap (λ (j : Job). gathers_at_rest j list) force ∙ some_gathers list some in
    (subst (λ (b : Bool). IsGathered b s n) is gathered).few

pub step_lowers : {D : Type 0} (known : Bool) (cells : D → List Cell) (sectors : D → ℕ) (arming : D → Arming) (count : D → ℕ) (size : ℕ) (old new : Store D)
    → IsConsistent size old → IsStep known cells sectors arming count (Ok More) old new → steps_left (state_of new) new.job < steps_left (state_of old) old.job
step_lowers known cells sectors arming count size old new sound step =
    let s : State = state_of old in
    let n : State = state_of new in
    let g : State = with_batch s n in
    let job : Job = step_job old.stage old.job g in
    let action : Action = step_action old.stage old.job g in
    let least : 256 ≤ old.ring = omega (arith, old.positions.least_ring, sound.ring) in
    let lowers = stage_lowers old.stage old.job g old.sectors.items old.count refl
    (fits_gathered old.stage old.job old.queue.items s n old.sectors.items old.count step.batch sound.stage) least
    (λ free force some. batch_few old.stage old.job old.queue.items s n step.batch free force some) step.done.answer.0 step.done.answer.1 in
    let left : steps_left n new.job ≡ steps_left (done_state action g) (next_job action job) =
    ap (λ (x : State). steps_left x new.job) step.done.state ∙ ap (λ (j : Job). steps_left (done_state action g) j) step.done.job in
    let same : steps_at old.stage old.job g ≡ steps_at old.stage old.job s = same_steps old.stage old.job s n in
    omega (arith, left, lowers, same)
