-- A mount with room for a call, and after one.
use Rattle.std.proofs.Common.{◌≡◌, ◌+◌, ℕ, Bool, List, [], ◌∷◌, ◌++◌, length, refl, ap, sym, subst, ◌∙◌, arith}
use Rattle.std.specs.Prelude.{Err, Ok, OnErr, Result}
use Rattle.std.specs.Prelude.{max}
use Rattle.disk_model.specs.Disk.{Cell}
use Rattle.geometry.specs.declared.shape.Geometry.{Geometry}
use Rattle.log_store.specs.State.{State, state_of}
use Rattle.log_store.specs.Steps.{IsStore}
use Rattle.life_ports.specs.declared.errors.NoMemory.{NoMemory}
use Rattle.life_table.specs.declared.types.Call.{Call}
use Rattle.life_table.specs.declared.types.Reply.{Reply}
use Rattle.life_table.specs.declared.types.Event.TheVariants.{Called}
use Rattle.life_table.specs.declared.types.Entry.{Entry}
use Rattle.life_table.specs.declared.types.MountRecord.{MountRecord}
use Rattle.life_table.specs.declared.table.Table.{Table}
use Rattle.life_table.specs.Legal.{after_call}
use Rattle.sound_image.specs.Encoding.{Layouts}
use Rattle.group_core.specs.Value.{GroupValue}
use Rattle.group_ops.specs.Values.{StateValue}
use Rattle.mount.specs.declared.mounted.Mounted.{Mounted}
use Rattle.run_history.specs.Mounts.{changes_made, covered}
use Rattle.mounted_calls.specs.Calls.{IsMade, IsUnmade, entry_of, roomless, with_call}
use Rattle.mounted_calls.specs.Decisions.{IsCallIn}
use Rattle.mounted_calls.specs.Running.{AreRunning, IsRecordOf, IsRunning}
use Rattle.mounted_calls.proofs.Devices.{recorded}
use Rattle.mounted_calls.proofs.Groups.{same_roomless}

-- the same parts, room aside
pub still_running : (known : Bool) (g h : Geometry) (start t : Table) (layouts : Layouts) (story told : MountRecord) (groups others : List (GroupValue StateValue)) (s new : State) (cells after : List Cell)
    → h ≡ g → told ≡ story → roomless others ≡ roomless groups → new ≡ s → after ≡ cells → AreRunning known g start t layouts story groups s cells → AreRunning known h start t layouts told others new after
still_running known g h start t layouts story told groups others s new cells after geometry record_is room state disk are =
    let here : AreRunning known g start t layouts story others s cells =
    record { told = are.told; groups_of = same_roomless g t layouts story groups others room are.groups_of; log = are.log } in
    subst (λ (x : Geometry). AreRunning known x start t layouts told others new after) (sym geometry)
    (subst (λ (x : MountRecord). AreRunning known g start t layouts x others new after) (sym record_is)
    (subst (λ (x : State). AreRunning known g start t layouts story others x after) (sym state)
    (subst (λ (x : List Cell). AreRunning known g start t layouts story others s x) (sym disk) here)))

-- the number of the next commit is that of the next change
pub next_number : (known : Bool) (g : Geometry) (start t : Table) (layouts : Layouts) (story : MountRecord) (groups : List (GroupValue StateValue)) (s : State) (cells : List Cell)
    → AreRunning known g start t layouts story groups s cells → s.durable + length s.list + 1 ≡ story.base + changes_made story
next_number known g start t layouts story groups s cells are = omega (arith, are.log.number, are.log.made)

-- ---- room for a call

-- all but room is as before
pub record IsRoomier {D : Type 0} (known : Bool) (cells : D → List Cell) (sector_count : D → ℕ) (old new : Mounted D) : Type 0 where
  pub groups : roomless new.groups.items ≡ roomless old.groups.items
  pub store : IsStore known cells sector_count new.store
  pub state : state_of new.store ≡ state_of old.store
  pub disk : new.store.disk ≡ old.store.disk
  pub job : new.store.job ≡ old.store.job
  pub geometry : new.geometry ≡ old.geometry
  pub story : new.story ≡ old.story

pub ready : {D : Type 0} (known : Bool) (cells : D → List Cell) (sector_count : D → ℕ) (start t : Table) (old new : Mounted D) → (run : IsRunning known cells sector_count start t old)
    → IsRoomier known cells sector_count old new → AreRunning known new.geometry start t run.layouts new.story new.groups.items (state_of new.store) (cells new.store.disk)
ready known cells sector_count start t old new run is =
    still_running known old.geometry new.geometry start t run.layouts old.story new.story old.groups.items new.groups.items (state_of old.store) (state_of new.store) (cells old.store.disk) (cells new.store.disk)
    is.geometry is.story is.groups is.state (ap cells is.disk) run.parts

pub still_asks : {D : Type 0} (known : Bool) (cells : D → List Cell) (sector_count : D → ℕ) (k actor : ℕ) (made : Call) (old new : Mounted D) → IsRoomier known cells sector_count old new
    → IsCallIn old.geometry.groups k old.story.entries actor made → IsCallIn new.geometry.groups k new.story.entries actor made
still_asks known cells sector_count k actor made old new is asks =
    subst (λ (x : Geometry). IsCallIn x.groups k new.story.entries actor made) (sym is.geometry)
    (subst (λ (x : MountRecord). IsCallIn old.geometry.groups k x.entries actor made) (sym is.story) asks)

pub unmade : {D : Type 0} (known : Bool) (cells : D → List Cell) (sector_count : D → ℕ) (start t : Table) (old new : Mounted D) → IsRunning known cells sector_count start t old
    → IsRoomier known cells sector_count old new → IsUnmade known cells sector_count start t old new
unmade known cells sector_count start t old new run is = record {
  story = is.story;
  groups = is.groups;
  geometry = is.geometry;
  store = is.state;
  disk = is.disk;
  running = record { layouts = run.layouts; parts = ready known cells sector_count start t old new run is; store = is.store; idle = is.job ∙ run.idle };
}

pub on_err : (P : Type 0) (r : Result (Unit {0}) NoMemory) → P → OnErr r P
on_err P (Ok value) p = tt
on_err P (Err fault) p = p

-- ---- a call that was made

-- the record with one entry and with the same one
pub with_entry : (story : MountRecord) (one same : Entry) → one ≡ same
    → record story { entries = story.entries ++ one ∷ []; froms = story.froms ++ length story.entries ∷ []; acknowledged = max story.acknowledged (covered one.event) }
    ≡ record story { entries = story.entries ++ same ∷ []; froms = story.froms ++ length story.entries ∷ []; acknowledged = max story.acknowledged (covered same.event) }
with_entry story one same is =
    ap (λ (x : Entry). record story { entries = story.entries ++ x ∷ []; froms = story.froms ++ length story.entries ∷ []; acknowledged = max story.acknowledged (covered x.event) }) is

-- the record as the code leaves it, with the table's reply
pub told_call : (start t : Table) (story : MountRecord) (actor : ℕ) (made : Call) (answer reply : Reply) → IsRecordOf start t story → answer ≡ reply
    → record story { entries = story.entries ++ entry_of actor made answer ∷ []; froms = story.froms ++ length story.entries ∷ []; acknowledged = max story.acknowledged (covered (Called made answer)) }
    ≡ with_call story actor made reply
told_call start t story actor made answer reply is same = recorded start t story actor made answer is ∙ ap (λ (a : Reply). with_call story actor made a) same

pub made_whole : {D : Type 0} (known : Bool) (cells : D → List Cell) (sector_count : D → ℕ) (start t : Table) (actor : ℕ) (made : Call) (answer : Reply) (old roomy new : Mounted D) (s : State) (layouts : Layouts)
    → IsRunning known cells sector_count start t old → IsRoomier known cells sector_count old roomy → new.geometry ≡ roomy.geometry → new.story ≡ with_call roomy.story actor made answer
    → AreRunning known roomy.geometry start (after_call t made answer) layouts (with_call roomy.story actor made answer) new.groups.items s (cells roomy.store.disk)
    → state_of new.store ≡ s → s.stage ≡ roomy.store.stage → new.store.disk ≡ roomy.store.disk → new.store.job ≡ roomy.store.job → IsStore known cells sector_count new.store
    → IsMade known cells sector_count start t actor made answer old new
made_whole known cells sector_count start t actor made answer old roomy new s layouts run is geometry story are state stage disk job store = record {
  story = story ∙ ap (λ (x : MountRecord). with_call x actor made answer) is.story;
  running = record {
    layouts = layouts;
    parts = still_running known roomy.geometry new.geometry start (after_call t made answer) layouts (with_call roomy.story actor made answer) new.story new.groups.items new.groups.items s (state_of new.store)
        (cells roomy.store.disk) (cells new.store.disk) geometry story refl state (ap cells disk) are;
    store = store;
    idle = job ∙ is.job ∙ run.idle;
  };
  geometry = geometry ∙ is.geometry;
  disk = disk ∙ is.disk;
  stage = ap (λ (x : State). x.stage) state ∙ stage ∙ ap (λ (x : State). x.stage) is.state;
}
