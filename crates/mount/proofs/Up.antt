-- A mount that came up, or one whose force failed, whatever tells of the disk.
use Rattle.std.proofs.Common.{◌≡◌, ◌≤◌, ◌<◌, ◌+◌, ◌*◌, ℕ, Bool, List, [], Some, Err, length, sym, ap, subst, ◌∙◌, arith}
use Rattle.life_limits.specs.declared.TheConstants.{MAX_RECORD_SECTORS, MOUNT_LIMIT}
use Rattle.life_bytes.specs.declared.sector.Sector.{Sector}
use Rattle.life_ports.specs.Faults.{NeverFalls}
use Rattle.disk_model.specs.Disk.{Arming, Cell, IsAfterWrites}
use Rattle.geometry.specs.declared.shape.Geometry.{Geometry}
use Rattle.life_table.specs.declared.key.Key.{Key}
use Rattle.life_table.specs.declared.types.MountRecord.{MountRecord}
use Rattle.life_table.specs.declared.table.Table.{Table}
use Rattle.log_store.specs.declared.store.Store.{Store}
use Rattle.log_store.specs.declared.store.Job.TheVariants.{Idle}
use Rattle.log_store.specs.declared.store.Stage.TheVariants.{Free}
use Rattle.log_store.specs.Outcome.{Rises}
use Rattle.log_store.specs.State.{state_of}
use Rattle.log_store.specs.Steps.{Goes}
use Rattle.orphan_frees.specs.Order.{keys_to_free}
use Rattle.mount.specs.Coming.{Comes, IsReady}
use Rattle.mount.specs.Faults.{IsDeviceCause}
use Rattle.mount.specs.Mounts.{IsBegun, IsStoryOf, IsUp}
use Rattle.mount.specs.declared.fault.MountFault.{MountFault}
use Rattle.mount.specs.declared.freeing.Freed.{Freed}
use Rattle.mount.proofs.Bringing.{all_durable}
use Rattle.mount.proofs.Forced.{head_after}

-- the record once its frees are durable
pub acknowledged_story : (base : ℕ) (keys : List Key) (old new : MountRecord) → new ≡ record old { acknowledged = old.freed } → IsStoryOf base keys 0 old → IsStoryOf base keys (length keys) new
acknowledged_story base keys old new same is = record {
  base = ap (λ (s : MountRecord). s.base) same ∙ is.base;
  kept = ap (λ (s : MountRecord). s.kept) same ∙ is.kept;
  freed = ap (λ (s : MountRecord). s.freed) same ∙ is.freed;
  entries = ap (λ (s : MountRecord). s.entries) same ∙ is.entries;
  froms = ap (λ (s : MountRecord). s.froms) same ∙ is.froms;
  acknowledged_is = ap (λ (s : MountRecord). s.acknowledged) same ∙ is.freed;
}

pub is_up : {D : Type 0} (known : Bool) (cells : D → List Cell) (count moment : D → ℕ) (left : D → ℕ → List Sector → Type 0) (g : Geometry) (old new : Store D) (freed : Freed)
    (story : MountRecord) → IsReady known cells count g freed.story.base old freed → Goes known cells count moment left old new → new.job ≡ Idle → new.queue.items ≡ []
    → new.stage ≡ Free → Rises 0 0 (state_of old) (state_of new) → story ≡ record freed.story { acknowledged = freed.story.freed }
    → IsUp known cells count (record { groups = freed.groups; store = new; geometry = g; story = story })
is_up known cells count moment left g old new freed story ready goes idle none free rises same =
    let over = ready.over in
    let t : Table = over.0 in
    let layouts = over.1 in
    let sectors = over.2 in
    let can = over.3 in
    let are = over.5 in
    let start = ready.start in
    let moves = goes.moves in
    let keys : List Key = keys_to_free t layouts in
    let durable = all_durable moves.count old.queue.items new.queue.items moves.within moves.list none in
    let all : moves.count ≡ length keys = durable ∙ are.one_each in
    let base : story.base ≡ freed.story.base = ap (λ (s : MountRecord). s.base) same in
    let said = acknowledged_story freed.story.base keys freed.story story same are.story in
    let high = head_after (state_of old) (state_of new) moves.count rises start.position.0 start.position.1 moves.durable in
    let count : moves.count ≡ story.freed = all ∙ sym said.freed in
    record {
      start = t;
      lists = layouts;
      sectors = sectors;
      can = can;
      unheld = over.4;
      groups = are.groups;
      fresh = are.fresh;
      story = subst (λ (n : ℕ). IsStoryOf n keys (length keys) story) (sym base) said;
      few = omega (arith, are.few, said.freed);
      store = goes.store;
      place = (moves.anchor ∙ start.place.0, moves.ring ∙ start.place.1);
      rests = (idle, free);
      list = none;
      durable = omega (arith, moves.durable, count, start.durable, base);
      number = (omega (arith, start.number.0, base), omega (arith, start.number.1, base));
      position = subst (λ (n : ℕ). new.positions.head < MOUNT_LIMIT + (MAX_RECORD_SECTORS + 1) * n) count high;
    }

pub is_begun : {D : Type 0} (known : Bool) (cells : D → List Cell) (count : D → ℕ) (g : Geometry) (old : Store D) (freed : Freed) → IsReady known cells count g freed.story.base old freed
    → IsBegun (Some freed.story)
is_begun known cells count g old freed ready =
    let are = ready.over.5 in
    (keys_to_free ready.over.0 ready.over.1, are.story, are.few, ready.start.number.0, ready.start.number.1)

-- the force failed
pub force_failed : {D : Type 0} (known : Bool) (cells : D → List Cell) (count faults : D → ℕ) (arming : D → Arming) (g : Geometry) (old new : Store D) (freed : Freed) (fault : MountFault)
    (disk : D) → disk ≡ new.disk → IsReady known cells count g freed.story.base old freed → IsDeviceCause (faults old.disk) (faults new.disk) fault
    → faults old.disk ≤ faults new.disk → count new.disk ≡ count old.disk → IsAfterWrites (arming old.disk) (arming new.disk)
    → Comes known cells count faults arming old.disk (Err (record { disk = disk; fault = fault; begun = Some freed.story }))
force_failed {D} known cells count faults arming g old new freed fault disk is ready device falls sectors writes = record {
  up = tt;
  begun = is_begun known cells count g old freed ready;
  device = subst (λ (d : D). IsDeviceCause (faults old.disk) (faults d) fault) (sym is) device;
  count = subst (λ (d : D). NeverFalls (faults old.disk) (faults d)) (sym is) falls;
  sectors = ap count is ∙ sectors;
  writes = subst (λ (d : D). IsAfterWrites (arming old.disk) (arming d)) (sym is) writes;
}
