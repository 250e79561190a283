-- What a store leaves in which the commits of frees waited.
use Rattle.std.proofs.Common.{◌≡◌, ◌≤◌, ◌<◌, ◌+◌, ◌*◌, ℕ, Bool, List, [], length, take, refl, sym, ap, subst, ◌∙◌, arith}
use Rattle.std.specs.Prelude.{IsTrue}
use Rattle.std.proofs.lemmas.List.{take_all}
use Rattle.life_limits.specs.declared.TheConstants.{MAX_RECORD_SECTORS, MOUNT_LIMIT}
use Rattle.life_bytes.specs.declared.sector.Sector.{Sector}
use Rattle.disk_model.specs.Disk.{Cell, Elapses, IsImage}
use Rattle.disk_model.specs.DiskLaws.{Elapses-weaker}
use Rattle.geometry.specs.declared.shape.Geometry.{Geometry}
use Rattle.life_table.specs.declared.key.Key.{Key}
use Rattle.life_table.specs.declared.table.Table.{Table}
use Rattle.life_table.specs.History.{closed, recovered}
use Rattle.log_record.specs.declared.image.Commit.{Commit}
use Rattle.log_store.specs.declared.store.Store.{Store}
use Rattle.log_store.specs.OnDisk.{ReplaysTo, ReplaysUpTo}
use Rattle.log_store.specs.Outcome.{Rises}
use Rattle.log_store.specs.State.{State, state_of}
use Rattle.log_store.specs.Steps.{Goes, Moves}
use Rattle.sound_image.specs.Encoding.{Layouts}
use Rattle.whole_image.specs.Represents.{Represents}
use Rattle.commit_history.specs.Carried.{CommitsCarry}
use Rattle.orphan_frees.specs.Frees.{freed_first, unlisted_first}
use Rattle.orphan_frees.specs.Order.{keys_to_free, unlisted_all}
use Rattle.mount.specs.Coming.{AreFreed, IsDownOver, IsForceFault, IsLateFault, LeftByForce}
use Rattle.mount.specs.Ending.{IsStoreOf}
use Rattle.mount.specs.Images.{HasFreed, after_frees}
use Rattle.mount.specs.Mounts.{IsStoryOf}
use Rattle.mount.specs.Prefixes.{IsPrefixLeft}
use Rattle.mount.specs.declared.fault.MountFault.{MountFault}
use Rattle.mount.specs.declared.fault.MountFault.TheVariants.{Damaged, ReadFault, WriteFault, FlushFault, PositionEnd, NoMemory}
use Rattle.mount.specs.declared.freeing.Freed.{Freed}
use Rattle.mount.proofs.Ends.{Laws}

-- ---- positions

-- how far the head rose
pub head_after : (old new : State) (count : ℕ) → Rises 0 0 old new → old.head < MOUNT_LIMIT → old.tail ≡ old.head → new.durable ≡ old.durable + count
    → new.head < MOUNT_LIMIT + (MAX_RECORD_SECTORS + 1) * count
head_after old new count rises low tail durable = omega (arith, rises, low, tail, durable)

-- ---- images

-- the first so many commits of the frees lead to the table after so many frees
pub prefix_freed : (g : Geometry) (t : Table) (layouts : Layouts) (base number : ℕ) (list : List Commit) (freed : Freed) (image : List Sector) → AreFreed g t layouts base list freed
    → number ≡ base → IsPrefixLeft g t layouts list number image → HasFreed t layouts base (length (keys_to_free t layouts)) image
prefix_freed g t layouts base number list freed image are same left = record {
  count = left.count;
  within = omega (arith, left.within, are.one_each);
  represents = subst (λ (n : ℕ). Represents image (after_frees t layouts left.count) (n + left.count)) same
      (subst (λ (u : Table). Represents image u (number + left.count)) (are.after left.count)
      (left.represents (freed_first t layouts left.count) (unlisted_first t layouts left.count) (are.each left.count left.within)));
}

carries_none : (g : Geometry) (t : Table) (layouts : Layouts) → CommitsCarry g t layouts [] t layouts
unfolding CommitsCarry
carries_none g t layouts = (refl, refl)

take-nothing : (count : ℕ) (list : List Commit) → list ≡ [] → take count list ≡ []
take-nothing count list none = ap (λ (l : List Commit). take count l) none ∙ take_all count [] (omega arith)

-- where none waits, nothing was freed
pub nothing_left : (g : Geometry) (t : Table) (layouts : Layouts) (base number : ℕ) (list : List Commit) (image : List Sector) → closed t ≡ t → list ≡ []
    → number ≡ base → IsPrefixLeft g t layouts list number image → HasFreed t layouts base 0 image
nothing_left g t layouts base number list image unheld none same left =
    let count : left.count ≡ 0 = omega (arith, left.within, ap length none) in
    let carried : CommitsCarry g t layouts (take left.count list) t layouts =
    subst (λ (l : List Commit). CommitsCarry g t layouts l t layouts) (sym (take-nothing left.count list none)) (carries_none g t layouts) in
    record {
      count = 0;
      within = omega arith;
      represents = subst (λ (n : ℕ). Represents image (closed t) (n + 0)) same
          (subst (λ (n : ℕ). Represents image (closed t) (number + n)) count (left.represents t layouts carried));
    }

pub more_freed : (t : Table) (layouts : Layouts) (next most more : ℕ) (image : List Sector) → most ≤ more → HasFreed t layouts next most image → HasFreed t layouts next more image
more_freed t layouts next most more image le is = record { count = is.count; within = omega (arith, is.within, le); represents = is.represents }

-- ---- what a force comes to

pub late : (fault : MountFault) → IsForceFault fault → IsLateFault fault
late (Damaged rule sector) is = is
late PositionEnd is = is
late ReadFault is = tt
late WriteFault is = tt
late FlushFault is = tt
late NoMemory is = tt

take_keys : (keys : List Key) → take (length keys) keys ≡ keys
take_keys keys = take_all (length keys) keys (omega arith)

-- all frees were made, and maybe some of them are durable
pub down_after : (g : Geometry) (t : Table) (layouts : Layouts) (base : ℕ) (list : List Commit) (freed : Freed) (fault : MountFault) (cells : List Cell) → AreFreed g t layouts base list freed
    → IsForceFault fault → ((image : List Sector) → IsImage cells image → IsPrefixLeft g t layouts list base image) → IsDownOver t layouts base fault freed.story cells
down_after g t layouts base list freed fault cells are is left = record {
  late = late fault is;
  begun = record {
    count = length (keys_to_free t layouts);
    within = omega arith;
    story_is = subst (λ (keys : List Key). IsStoryOf base keys 0 freed.story) (sym (take_keys (keys_to_free t layouts))) are.story;
    left = λ image on. prefix_freed g t layouts base base list freed image are refl (left image on);
  };
}

-- all frees are durable
pub represents_all : Laws → (known : Bool) (g : Geometry) (t : Table) (layouts : Layouts) (base : ℕ) (s new : State) (cells after : List Cell) (freed : Freed) (image : List Sector) → IsTrue known
    → Moves known s new cells after → IsStoreOf g t layouts s cells → ReplaysTo new after image → new.list ≡ [] → s.durable + 1 ≡ base → AreFreed g t layouts base s.list freed
    → Represents image (recovered t) (base + length (keys_to_free t layouts))
represents_all laws known g t layouts base s new cells after freed image tells moves of replays none number are =
    let all = laws.all known g t (recovered t) layouts (unlisted_all layouts (keys_to_free t layouts)) new.head s new cells after image tells moves of replays none are.carry in
    let same : s.durable + 1 + length s.list ≡ base + length (keys_to_free t layouts) = omega (arith, number, are.one_each) in
    subst (λ (n : ℕ). Represents image (recovered t) n) same (subst (λ (u : Table). Represents image u (s.durable + 1 + length s.list)) are.unheld all)

-- ---- moments

pub moments_forced : Laws → {D : Type 0} (known : Bool) (cells : D → List Cell) (count moment : D → ℕ) (left : D → ℕ → List Sector → Type 0) (g : Geometry) (base : ℕ) (old new : Store D)
    (disk : D) (freed : Freed) → disk ≡ new.disk → Goes known cells count moment left old new → IsTrue known → old.durable + 1 ≡ base
    → Elapses (moment old.disk) (moment disk) (left old.disk) (left disk) (LeftByForce cells g base old freed)
moments_forced laws {D} known cells count moment left g base old new disk freed is goes tells number =
    subst (λ (d : D). Elapses (moment old.disk) (moment d) (left old.disk) (left d) (LeftByForce cells g base old freed)) (sym is)
    (Elapses-weaker (moment old.disk) (moment new.disk) (left old.disk) (left new.disk) (ReplaysUpTo new.positions.head (state_of old) (cells old.disk))
    (LeftByForce cells g base old freed)
    (λ image replays t layouts of are. prefix_freed g t layouts base (old.durable + 1) old.queue.items freed image are number
    (laws.same g t layouts new.positions.head (state_of old) (cells old.disk) image of replays))
    (goes.moments tells))
