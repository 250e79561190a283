-- From a store that has just begun to one in which the frees wait.
use Rattle.std.proofs.Common.{◌≡◌, ℕ, Bool, List, length, sym, ap, subst}
use Rattle.std.specs.Prelude.{Result}
use Rattle.life_bytes.specs.declared.sector.Sector.{Sector}
use Rattle.disk_model.specs.Disk.{Cell, Elapses}
use Rattle.disk_model.specs.DiskLaws.{Elapses-weaker}
use Rattle.geometry.specs.declared.shape.Geometry.{Geometry}
use Rattle.life_table.specs.declared.table.Table.{Table}
use Rattle.life_table.specs.History.{closed}
use Rattle.log_record.specs.declared.image.Commit.{Commit}
use Rattle.log_store.specs.declared.store.Store.{Store}
use Rattle.log_store.specs.State.{state_of}
use Rattle.log_store.specs.Steps.{IsStore}
use Rattle.sound_image.specs.Encoding.{CanEncode, Layouts}
use Rattle.group_ops.specs.Values.{StateValue}
use Rattle.orphan_frees.specs.Loaded.{AreGroups, AreGroupsOf}
use Rattle.orphan_frees.specs.Order.{keys_to_free}
use Rattle.mount.specs.Coming.{AreFreed, ComesTo, IsAtStart, IsReady, LeftByForce, LeftByFrees}
use Rattle.mount.specs.Ending.{IsStoreOf}
use Rattle.mount.specs.Images.{HasFreed}
use Rattle.mount.specs.declared.freeing.Freed.{Freed}
use Rattle.mount.specs.declared.mounted.Mounted.{Mounted}
use Rattle.mount.specs.declared.mounted.NotMounted.{NotMounted}
use Rattle.mount.proofs.Starts.{start_still, store_still}

-- what the frees of the groups say
abbrev pub TellsFreed : Geometry → List StateValue → ℕ → List Commit → Freed → Type 0
TellsFreed g states base list freed = (t : Table) (layouts : Layouts) (sectors : List Sector) → AreGroupsOf g t layouts states → CanEncode g t layouts sectors → closed t ≡ t
    → AreFreed g t layouts base list freed

with_base : (g : Geometry) (t : Table) (layouts : Layouts) (base : ℕ) (list : List Commit) (freed : Freed) → AreFreed g t layouts base list freed
    → AreFreed g t layouts freed.story.base list freed
with_base g t layouts base list freed are = subst (λ (n : ℕ). AreFreed g t layouts n list freed) (sym are.story.base) are

pub is_ready : {D : Type 0} (known : Bool) (cells : D → List Cell) (count : D → ℕ) (g : Geometry) (base : ℕ) (old mid : Store D) (states : List StateValue) (freed : Freed)
    → IsAtStart known cells count g base old → state_of mid ≡ record (state_of old) { list = mid.queue.items } → mid.job ≡ old.job → IsStore known cells count mid
    → AreGroups g states → TellsFreed g states base mid.queue.items freed → IsReady known cells count g freed.story.base mid freed
is_ready known cells count g base old mid states freed start same job is (t, layouts, sectors, groups, can, unheld) tells =
    let are = tells t layouts sectors groups can unheld in
    record {
      start = subst (λ (n : ℕ). IsAtStart known cells count g n mid) (sym are.story.base)
          (start_still known cells count g base old mid mid.queue.items same job is start);
      over = (t, layouts, sectors, can, unheld, with_base g t layouts base mid.queue.items freed are);
    }

-- what the force comes to is what the frees come to
pub frees_come_to : {D : Type 0} (cells : D → List Cell) (g : Geometry) (base : ℕ) (old mid : Store D) (states : List StateValue) (freed : Freed) (result : Result (Mounted D) (NotMounted D))
    → state_of mid ≡ record (state_of old) { list = mid.queue.items } → mid.disk ≡ old.disk → TellsFreed g states base mid.queue.items freed
    → ((t : Table) (layouts : Layouts) → IsStoreOf g t layouts (state_of mid) (cells mid.disk) → AreFreed g t layouts freed.story.base mid.queue.items freed
    → ComesTo cells g t layouts freed.story.base result)
    → (t : Table) (layouts : Layouts) → IsStoreOf g t layouts (state_of old) (cells old.disk) → closed t ≡ t → AreGroupsOf g t layouts states → ComesTo cells g t layouts base result
frees_come_to {D} cells g base old mid states freed result same disk tells comes t layouts of unheld groups =
    let are = tells t layouts _ groups of.encodes.can unheld in
    let here = store_still g t layouts (state_of old) (state_of mid) mid.queue.items (cells old.disk) (cells mid.disk) same (ap cells disk) of in
    subst (λ (n : ℕ). ComesTo cells g t layouts n result) are.story.base (comes t layouts here (with_base g t layouts base mid.queue.items freed are))

-- and so with what a stop leaves
pub frees_leave : {D : Type 0} (cells : D → List Cell) (g : Geometry) (base : ℕ) (old mid : Store D) (states : List StateValue) (freed : Freed)
    → state_of mid ≡ record (state_of old) { list = mid.queue.items } → mid.disk ≡ old.disk → TellsFreed g states base mid.queue.items freed
    → (image : List Sector) → LeftByForce cells g freed.story.base mid freed image → LeftByFrees cells g base old states image
frees_leave {D} cells g base old mid states freed same disk tells image left t layouts of unheld groups =
    let are = tells t layouts _ groups of.encodes.can unheld in
    let here = store_still g t layouts (state_of old) (state_of mid) mid.queue.items (cells old.disk) (cells mid.disk) same (ap cells disk) of in
    subst (λ (n : ℕ). HasFreed t layouts n (length (keys_to_free t layouts)) image) are.story.base (left t layouts here (with_base g t layouts base mid.queue.items freed are))

-- moments that are counted from an equal disk, and may leave less
pub moments_from : {D : Type 0} (moment : D → ℕ) (left : D → ℕ → List Sector → Type 0) (old mid new : D) (P Q : List Sector → Type 0) → mid ≡ old
    → ((image : List Sector) → P image → Q image) → Elapses (moment mid) (moment new) (left mid) (left new) P → Elapses (moment old) (moment new) (left old) (left new) Q
moments_from {D} moment left old mid new P Q same weaker time =
    subst (λ (d : D). Elapses (moment d) (moment new) (left d) (left new) Q) same (Elapses-weaker (moment mid) (moment new) (left mid) (left new) P Q weaker time)
