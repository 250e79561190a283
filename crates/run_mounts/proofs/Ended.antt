-- A mount of a run that was to end.
use Rattle.std.proofs.Common.{◌≡◌, ◌≤◌, ◌+◌, ◌-◌, ◌++◌, ℕ, Bool, List, [], ◌∷◌, Some, length, refl, ap, sym, subst, ◌∙◌, arith}
use Rattle.std.specs.Prelude.{IsTrue}
use Rattle.life_bytes.specs.declared.sector.Sector.{Sector}
use Rattle.disk_model.specs.Disk.{Cell, IsImage}
use Rattle.geometry.specs.declared.shape.Geometry.{Geometry}
use Rattle.log_store.specs.declared.store.Job.TheVariants.{Idle}
use Rattle.log_store.specs.OnDisk.{ReplaysTo, ReplaysUpTo}
use Rattle.log_store.specs.State.{State, state_of}
use Rattle.log_store.specs.Steps.{Goes, Moves}
use Rattle.life_table.specs.declared.types.MountRecord.{MountRecord}
use Rattle.life_table.specs.declared.table.Table.{Table}
use Rattle.life_table.specs.History.{After}
use Rattle.sound_image.specs.Encoding.{Layouts}
use Rattle.group_core.specs.Value.{GroupValue}
use Rattle.group_ops.specs.Values.{StateValue}
use Rattle.mount.specs.Ending.{IsStoreOf, IsWholeLeft}
use Rattle.mount.specs.declared.mounted.Mounted.{Mounted}
use Rattle.mount.specs.declared.mounted.StillMounted.{StillMounted}
use Rattle.run_history.specs.CrashSafe.{IsLeftSafe, IsPrefixLeft, last_mount, last_of}
use Rattle.run_history.specs.Mounts.{MountStory, changes_made, left, unmounted}
use Rattle.mounted_calls.specs.Running.{AreRunning, IsLeftBehind, IsLogOf, IsRecordOf, IsRunning, story_of}
use Rattle.run_mounts.specs.Ends.{IsStillUp, all_acknowledged}
use Rattle.run_mounts.specs.Safe.{StandsBehind, story_as}

-- ---- how many changes it made

pub base_before : {D : Type 0} (known : Bool) (cells : D → List Cell) (sector_count : D → ℕ) (start t : Table) (m : Mounted D) (next : ℕ) → IsRunning known cells sector_count start t m
    → next ≡ m.store.durable + length m.store.queue.items + 1 → m.story.base ≤ next
base_before known cells sector_count start t m next run is = omega (arith, run.parts.log.number, is)

pub counted : {D : Type 0} (known : Bool) (cells : D → List Cell) (sector_count : D → ℕ) (start t : Table) (m : Mounted D) (next : ℕ) → IsRunning known cells sector_count start t m
    → next ≡ m.store.durable + length m.store.queue.items + 1 → next - m.story.base ≡ changes_made m.story
counted known cells sector_count start t m next run is = omega (arith, run.parts.log.number, run.parts.log.made, is)

pub acknowledges_all : (story new : MountRecord) (changes : ℕ) → changes ≡ changes_made story → new ≡ record story { acknowledged = changes } → new ≡ all_acknowledged story
acknowledges_all story new changes same is =
    let whole : ℕ → MountRecord = λ n. record story { acknowledged = n } in is ∙ ap whole same

-- ---- a mount that goes on

-- with its record put back
pub put_back : {D : Type 0} (now new : StillMounted D) (story : MountRecord) → new ≡ record now { mounted = record now.mounted { story = story } } → new.mounted ≡ record now.mounted { story = story }
put_back {D} now new story is = ap (λ (s : StillMounted D). s.mounted) is

-- the law that is used
abbrev pub MovesOn : Type 0
MovesOn = (known : Bool) (g : Geometry) (start t : Table) (layouts : Layouts) (story : MountRecord) (s new : State) (cells after : List Cell)
    → IsRecordOf start t story → IsLogOf known g start layouts story s cells → Moves known s new cells after → IsLogOf known g start layouts story new after

pub runs_on : {D : Type 0} → MovesOn → (known : Bool) (cells : D → List Cell) (sector_count moment : D → ℕ) (left_since : D → ℕ → List Sector → Type 0) (start t : Table) (old now : Mounted D)
    → now.groups ≡ old.groups → now.geometry ≡ old.geometry → Goes known cells sector_count moment left_since old.store now.store → now.store.job ≡ Idle
    → IsRunning known cells sector_count start t old → IsRunning known cells sector_count start t (record now { story = old.story })
runs_on {D} moves known cells sector_count moment left_since start t old now groups geometry goes idle run =
    let log = moves known old.geometry start t run.layouts old.story (state_of old.store) (state_of now.store) (cells old.store.disk) (cells now.store.disk) run.parts.told run.parts.log goes.moves in
    let parts : AreRunning known old.geometry start t run.layouts old.story old.groups.items (state_of now.store) (cells now.store.disk) =
    record { told = run.parts.told; groups_of = run.parts.groups_of; log = log } in
    let in_groups : AreRunning known old.geometry start t run.layouts old.story now.groups.items (state_of now.store) (cells now.store.disk) =
    subst (λ (gs : List (GroupValue StateValue)). AreRunning known old.geometry start t run.layouts old.story gs (state_of now.store) (cells now.store.disk)) (sym (ap (λ x. x.items) groups)) parts in
    record {
      layouts = run.layouts;
      parts = subst (λ (g : Geometry). AreRunning known g start t run.layouts old.story now.groups.items (state_of now.store) (cells now.store.disk)) (sym geometry) in_groups;
      store = goes.store;
      idle = idle;
    }

pub still_up : {D : Type 0} → MovesOn → (known : Bool) (cells : D → List Cell) (sector_count moment : D → ℕ) (left_since : D → ℕ → List Sector → Type 0) (old now new : Mounted D)
    → now.groups ≡ old.groups → now.geometry ≡ old.geometry → Goes known cells sector_count moment left_since old.store now.store → now.store.job ≡ Idle
    → new ≡ record now { story = old.story } → IsStillUp known cells sector_count old new
still_up {D} moves known cells sector_count moment left_since old now new groups geometry goes idle is = record {
  story = ap (λ (m : Mounted D). m.story) is;
  groups = ap (λ (m : Mounted D). m.groups) is ∙ groups;
  geometry = ap (λ (m : Mounted D). m.geometry) is ∙ geometry;
  running = λ start t run.
      subst (λ (m : Mounted D). IsRunning known cells sector_count start t m) (sym is)
      (runs_on moves known cells sector_count moment left_since start t old now groups geometry goes idle run);
}

-- ---- what the run stands on

last_of_behind : (p : MountStory) (past : List MountStory) (m : MountStory) → last_of p (past ++ m ∷ []) ≡ m
last_of_behind p [] m = refl
last_of_behind p (next ∷ later) m = last_of_behind next later m

pub last_behind : (past : List MountStory) (m : MountStory) → last_mount (past ++ m ∷ []) ≡ Some m
last_behind [] m = refl
last_behind (p ∷ later) m = ap (λ (x : MountStory). Some x) (last_of_behind p later m)

abbrev pub LeavesFirst : Type 0
LeavesFirst = (known : Bool) (g : Geometry) (start t : Table) (layouts : Layouts) (story : MountRecord) (head : ℕ) (s : State) (cells : List Cell) (image : List Sector) → IsTrue known
    → IsRecordOf start t story → IsLogOf known g start layouts story s cells → ReplaysUpTo head s cells image → IsLeftBehind start story image

-- each image that a crash may leave of it is one of the mount as it goes on
pub still_safe : {D : Type 0} → LeavesFirst → (known : Bool) (cells : D → List Cell) (sector_count : D → ℕ) (first : Table) (number : ℕ) (past : List MountStory) (start t : Table) (old new : Mounted D) → IsTrue known
    → IsStillUp known cells sector_count old new → IsRunning known cells sector_count start t old
    → ((image : List Sector) → IsImage (cells new.store.disk) image → ReplaysTo (state_of new.store) (cells new.store.disk) image)
    → StandsBehind first number past left start old.story (cells old.store.disk) → StandsBehind first number past left start new.story (cells new.store.disk)
still_safe leaves known cells sector_count first number past start t old new tells still run replays safe =
    let on = still.running start t run in
    let images : (image : List Sector) → IsImage (cells new.store.disk) image → IsLeftBehind start new.story image =
    λ image of. leaves known new.geometry start t on.layouts new.story new.store.positions.head (state_of new.store) (cells new.store.disk) image tells on.parts.told on.parts.log (replays image of) in
    let same : StandsBehind first number past left start new.story (cells old.store.disk) =
    subst (λ (s : MountRecord). StandsBehind first number past left start s (cells old.store.disk)) (sym still.story) safe in
    record {
      legal = same.legal;
      next_mount = same.next_mount;
      crash_safe = λ image of. subst (λ o. IsLeftSafe first number o image) (sym (last_behind past (story_as left start new.story))) (images image of);
    }

-- what the store tells of its disk it tells with the record put back
pub same_replays : {D : Type 0} (cells : D → List Cell) (now new : Mounted D) (story : MountRecord) → new ≡ record now { story = story }
    → ((image : List Sector) → IsImage (cells now.store.disk) image → ReplaysTo (state_of now.store) (cells now.store.disk) image)
    → (image : List Sector) → IsImage (cells new.store.disk) image → ReplaysTo (state_of new.store) (cells new.store.disk) image
same_replays {D} cells now new story is replays =
    subst (λ (m : Mounted D). (image : List Sector) → IsImage (cells m.store.disk) image → ReplaysTo (state_of m.store) (cells m.store.disk) image) (sym is) replays

abbrev pub EndedStand : Type 0
EndedStand = (first : Table) (number : ℕ) (past : List MountStory) (start : Table) (story : MountRecord) (old new : List Cell) → StandsBehind first number past left start story old
    → ((image : List Sector) → IsImage new image → IsPrefixLeft (story_as left start story) image (changes_made story))
    → StandsBehind first number past unmounted start (all_acknowledged story) new

abbrev pub LeavesAll : Type 0
LeavesAll = (known : Bool) (g : Geometry) (start t : Table) (layouts : Layouts) (story : MountRecord) (s : State) (cells : List Cell) (image : List Sector)
    → IsRecordOf start t story → (log : IsLogOf known g start layouts story s cells) → IsWholeLeft g (After start story.entries log.durable) log.lists s.list (s.durable + 1) image
    → IsPrefixLeft (story_of start story) image (changes_made story)

pub ended_safe : {D : Type 0} → EndedStand → LeavesAll → (known : Bool) (cells : D → List Cell) (sector_count : D → ℕ) (first : Table) (number : ℕ) (past : List MountStory) (start t : Table) (m : Mounted D) (story : MountRecord) (after : List Cell)
    → IsTrue known → story ≡ all_acknowledged m.story
    → ((g : Geometry) (u : Table) (layouts : Layouts) → IsStoreOf g u layouts (state_of m.store) (cells m.store.disk)
    → (image : List Sector) → IsImage after image → IsWholeLeft g u layouts m.store.queue.items (m.store.durable + 1) image)
    → IsRunning known cells sector_count start t m → StandsBehind first number past left start m.story (cells m.store.disk) → StandsBehind first number past unmounted start story after
ended_safe stand leaves known cells sector_count first number past start t m story after tells same whole run safe =
    let log = run.parts.log in
    let images : (image : List Sector) → IsImage after image → IsPrefixLeft (story_as left start m.story) image (changes_made m.story) =
    λ image of. leaves known m.geometry start t run.layouts m.story (state_of m.store) (cells m.store.disk) image run.parts.told log
    (whole m.geometry (After start m.story.entries log.durable) log.lists (log.base tells) image of) in
    subst (λ (s : MountRecord). StandsBehind first number past unmounted start s after) (sym same)
    (stand first number past start m.story (cells m.store.disk) after safe images)
