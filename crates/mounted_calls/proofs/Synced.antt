-- A mount after a sync or a home.
use Rattle.std.proofs.Common.{◌≡◌, ◌≢◌, ◌≤◌, ◌+◌, ◌⊎◌, ℕ, Bool, true, false, None, List, [], ◌∷◌, ◌++◌, length, inl, inr, refl, ap, sym, subst, ◌∙◌, arith}
use Rattle.std.specs.Prelude.{Err, IsTrue, Ok, OnErr, Result, max}
use Rattle.life_ports.specs.declared.errors.NoMemory.{NoMemory}
use Rattle.life_table.specs.declared.types.Entry.{Entry}
use Rattle.life_bytes.specs.declared.sector.Sector.{Sector}
use Rattle.life_ports.specs.Faults.{Rose}
use Rattle.disk_model.specs.Disk.{Cell, IsImage}
use Rattle.log_record.specs.declared.image.Image.{Image}
use Rattle.std.proofs.lemmas.Bool.{true≢false}
use Rattle.std.proofs.lemmas.Option.{none-some}
use Rattle.log_store.specs.declared.store.Job.{Job}
use Rattle.log_store.specs.declared.store.Job.TheVariants as job
use Rattle.log_store.specs.declared.store.Job.TheVariants.{Idle}
use Rattle.log_store.specs.declared.store.Stage.{Stage}
use Rattle.log_store.specs.declared.store.Stage.TheVariants.{Down}
use Rattle.log_store.specs.OnDisk.{HasCover}
use Rattle.log_store.specs.Outcome.{Covered, down_count}
use Rattle.log_store.specs.State.{State, state_of}
use Rattle.life_table.specs.declared.types.Call.{Call}
use Rattle.life_table.specs.declared.types.Call.TheVariants as call
use Rattle.life_table.specs.declared.types.Reply.{Reply}
use Rattle.life_table.specs.declared.types.Reply.TheVariants as reply
use Rattle.life_table.specs.declared.types.Event.TheVariants.{Called}
use Rattle.life_table.specs.declared.types.MountRecord.{MountRecord}
use Rattle.life_table.specs.declared.table.Table.{Table}
use Rattle.life_table.specs.Legal.{Permits}
use Rattle.mount.specs.declared.mounted.Mounted.{Mounted}
use Rattle.run_history.specs.Mounts.{changes_made, covered}
use Rattle.mounted_calls.specs.Calls.{IsAnswered, IsCoverAnswer, IsCovered, IsDownBehind, IsForced, IsHomeAnswer, IsJobFault, idle_reply, IsSyncAnswer, entry_of, roomless, with_call}
use Rattle.mounted_calls.specs.Running.{AreRunning, IsRunning, StoreMoves}
use Rattle.mounted_calls.proofs.Devices.{AsksDevice, answered_on}
use Rattle.mounted_calls.proofs.Whole.{still_running, told_call}

-- the parts once the store went on
pub parts_moved : {D : Type 0} (known : Bool) (cells : D → List Cell) (sector_count moment : D → ℕ) (left : D → ℕ → List Sector → Type 0) (start t : Table) (old new : Mounted D)
    → (run : IsRunning known cells sector_count start t old) → StoreMoves known cells sector_count moment left old.store new.store
    → AreRunning known old.geometry start t run.layouts old.story old.groups.items (state_of new.store) (cells new.store.disk)
parts_moved known cells sector_count moment left start t old new run moves = record {
  told = run.parts.told;
  groups_of = run.parts.groups_of;
  log = moves.log old.geometry start t run.layouts old.story run.parts.told run.parts.log;
}

pub answered_whole : {D : Type 0} (known : Bool) (cells : D → List Cell) (sector_count moment : D → ℕ) (left : D → ℕ → List Sector → Type 0) (start t : Table) (actor : ℕ) (made : Call) (answer : Reply) (old new : Mounted D)
    → (run : IsRunning known cells sector_count start t old) → AsksDevice made → (moves : StoreMoves known cells sector_count moment left old.store new.store) → new.groups ≡ old.groups → new.geometry ≡ old.geometry
    → new.story ≡ record old.story { entries = old.story.entries ++ entry_of actor made answer ∷ []; froms = old.story.froms ++ length old.story.entries ∷ []; acknowledged = max old.story.acknowledged (covered (Called made answer)) }
    → new.store.job ≡ Idle → Permits t made answer → covered (Called made answer) ≤ (parts_moved known cells sector_count moment left start t old new run moves).log.durable
    → IsAnswered known cells sector_count moment left start t actor made answer old new
answered_whole known cells sector_count moment left start t actor made answer old new run asks moves groups geometry story idle permits covers =
    let parts = parts_moved known cells sector_count moment left start t old new run moves in
    let after = answered_on known old.geometry start t run.layouts old.story old.groups.items (state_of new.store) (cells new.store.disk) actor made answer asks parts permits covers in
    let told : new.story ≡ with_call old.story actor made answer = story ∙ told_call start t old.story actor made answer answer run.parts.told refl in
    record {
      story = told;
      running = record {
        layouts = run.layouts;
        parts = still_running known old.geometry new.geometry start t run.layouts (with_call old.story actor made answer) new.story old.groups.items new.groups.items (state_of new.store) (state_of new.store)
            (cells new.store.disk) (cells new.store.disk) geometry told (ap (λ x. roomless x.items) groups) refl refl after;
        store = moves.store;
        idle = idle;
      };
      groups = groups;
      geometry = geometry;
      moments = λ tells. moves.moments tells old.geometry start t run.layouts old.story run.parts.told run.parts.log;
    }

-- ---- a sync

pub permits_forced : (t : Table) (base : ℕ) (answer : Reply) (old new : State) (before now : ℕ) → IsForced base answer old new before now → Permits t call.Sync answer
permits_forced t base (reply.Covered count) old new before now forced = tt
permits_forced t base reply.WriteFault old new before now forced = tt
permits_forced t base reply.FlushFault old new before now forced = tt
permits_forced t base reply.PositionEnd old new before now forced = tt
permits_forced t base (reply.Down count) old new before now forced = tt
permits_forced t base answer old new before now forced = absurd forced

pub covers_forced : (base durable : ℕ) (answer : Reply) (old new : State) (before now : ℕ) → new.durable + 1 ≡ base + durable → IsForced base answer old new before now
    → covered (Called call.Sync answer) ≤ durable
covers_forced base durable (reply.Covered count) old new before now number forced = omega (arith, number, forced.0)
covers_forced base durable answer old new before now number forced = omega arith

pub synced : (story : MountRecord) (durable : ℕ) (answer : Reply) (old new : State) (before now : ℕ) → new.durable + 1 ≡ story.base + durable → durable + length new.list ≡ changes_made story
    → IsForced story.base answer old new before now → IsSyncAnswer story answer old new before now
synced story durable (reply.Covered count) old new before now number made forced =
    (omega (arith, number, made, forced.0, ap (λ l. length l) forced.1), forced.1)
synced story durable answer old new before now number made forced = forced

-- ---- a home

permits_fault : (t : Table) (kind : Job) (answer : Reply) (old new : State) (before now : ℕ) → IsJobFault kind answer old new before now → Permits t call.Home answer
permits_fault t kind reply.WriteFault old new before now is = tt
permits_fault t kind reply.FlushFault old new before now is = tt
permits_fault t kind reply.PositionEnd old new before now is = tt
permits_fault t kind (reply.Down count) old new before now is = tt
permits_fault t kind answer old new before now is = absurd is

permits_either : (t : Table) (answer : Reply) (old new : State) (before now : ℕ) → IsJobFault job.WriteBack answer old new before now ⊎ IsJobFault job.Home answer old new before now → Permits t call.Home answer
permits_either t answer old new before now (inl is) = permits_fault t job.WriteBack answer old new before now is
permits_either t answer old new before now (inr is) = permits_fault t job.Home answer old new before now is

pub permits_home : (t : Table) (known : Bool) (cells : List Cell) (answer : Reply) (old new : State) (before now : ℕ) → IsHomeAnswer known cells answer old new before now → Permits t call.Home answer
permits_home t known cells reply.Done old new before now home = tt
permits_home t known cells answer old new before now home = permits_either t answer old new before now home

pub covers_home : (durable : ℕ) (known : Bool) (cells : List Cell) (answer : Reply) (old new : State) (before now : ℕ) → IsHomeAnswer known cells answer old new before now → covered (Called call.Home answer) ≤ durable
covers_home durable known cells (reply.Covered count) old new before now (inl bad) = absurd bad
covers_home durable known cells (reply.Covered count) old new before now (inr bad) = absurd bad
covers_home durable known cells answer old new before now home = omega arith

-- a count that rose since a later moment rose since an earlier one
rose_since : (first second now : ℕ) → first ≤ second → Rose second now → Rose first now
rose_since first second now le rose = omega (arith, le, rose)

-- the cover, after every sector went home
pub home_after : (known : Bool) (cells : List Cell) (answer : Reply) (old middle new : State) (before between now : ℕ) → before ≤ between → down_count middle.stage ≡ None
    → IsCoverAnswer known cells answer middle new between now → IsHomeAnswer known cells answer old new before now
home_after known cells reply.Done old middle new before between now le up is = inr is
home_after known cells reply.WriteFault old middle new before between now le up is = inr (rose_since before between now le is.0, is.1)
home_after known cells reply.FlushFault old middle new before between now le up is = inr (rose_since before between now le is.0, is.1)
home_after known cells reply.PositionEnd old middle new before between now le up is = inr is
home_after known cells (reply.Down count) old middle new before between now le up is = absurd (none-some count (sym up ∙ ap down_count is))
home_after known cells answer old middle new before between now le up is = absurd is

-- nothing is away from home
pub none_dirty : (images : List Image) (b : Bool) → b ≡ false → (images ≢ [] → b ≡ true) → images ≡ []
none_dirty [] b off some = refl
none_dirty (image ∷ images) b off some = absurd (true≢false (sym (some (λ e. cc)) ∙ off))

idle_at : (known : Bool) (cells : List Cell) (s : State) (kept : Stage) (before now : ℕ) → s.stage ≡ kept → s.dirty ≡ [] → IsHomeAnswer known cells (idle_reply (down_count kept)) s s before now
idle_at known cells s (Down count) before now at none = inl at
idle_at known cells s kept before now at none = inl none

pub idle_home : (known : Bool) (cells : List Cell) (s : State) (answer : Reply) (before now : ℕ) → s.dirty ≡ [] → answer ≡ idle_reply (down_count s.stage) → IsHomeAnswer known cells answer s s before now
idle_home known cells s answer before now none is =
    subst (λ (a : Reply). IsHomeAnswer known cells a s s before now) (sym is) (idle_at known cells s s.stage before now refl none)

rests_at : (s : State) (kept : Stage) → s.stage ≡ kept → IsDownBehind (idle_reply (down_count kept)) s s
rests_at s (Down count) at = (at, at)
rests_at s kept at = (ap down_count at, ap down_count at)

pub idle_behind : (s : State) (answer : Reply) → answer ≡ idle_reply (down_count s.stage) → IsDownBehind answer s s
idle_behind s answer is = subst (λ (a : Reply). IsDownBehind a s s) (sym is) (rests_at s s.stage refl)

pub covered_now : (known : Bool) (old new : State) (cells : List Cell) → new.anchor ≡ old.anchor → new.ring ≡ old.ring → Covered old new
    → (IsTrue known → (image : List Sector) → IsImage cells image → HasCover old.anchor old.ring old.head (old.durable + 1) image) → IsCovered known new cells
covered_now known old new cells anchor ring is cover = record {
  alone = omega (arith, is.head, is.tail);
  cover = λ tells image of.
      subst (λ (a : ℕ). HasCover a new.ring new.tail (new.durable + 1) image) (sym anchor)
      (subst (λ (r : ℕ). HasCover old.anchor r new.tail (new.durable + 1) image) (sym ring)
      (subst (λ (p : ℕ). HasCover old.anchor old.ring p (new.durable + 1) image) (sym is.tail)
      (subst (λ (n : ℕ). HasCover old.anchor old.ring old.head (n + 1) image) (sym is.durable) (cover tells image of))));
}

-- ---- the record, taken out and put back

pub closed_story : (old opened new : MountRecord) (es : List Entry) (fs : List ℕ) (entry same : Entry) → opened ≡ record old { entries = opened.entries; froms = opened.froms } → es ≡ old.entries → fs ≡ old.froms
    → new ≡ record opened { entries = es ++ entry ∷ []; froms = fs ++ length es ∷ []; acknowledged = max opened.acknowledged (covered entry.event) } → entry ≡ same
    → new ≡ record old { entries = old.entries ++ same ∷ []; froms = old.froms ++ length old.entries ∷ []; acknowledged = max old.acknowledged (covered same.event) }
closed_story old opened new es fs entry same rest entries froms put is =
    put
    ∙ ap (λ (x : MountRecord). record x { entries = es ++ entry ∷ []; froms = fs ++ length es ∷ []; acknowledged = max x.acknowledged (covered entry.event) }) rest
    ∙ (λ i. record old { entries = entries i ++ is i ∷ []; froms = froms i ++ length (entries i) ∷ []; acknowledged = max old.acknowledged (covered (is i).event) })

-- how far a log's number is from its mount's first change
pub numbered : {D : Type 0} (known : Bool) (cells : D → List Cell) (sector_count : D → ℕ) (start t : Table) (m : Mounted D) (base : ℕ) → IsRunning known cells sector_count start t m → base ≡ m.story.base → base ≤ m.store.durable + 1
numbered known cells sector_count start t m base run same = omega (arith, run.parts.log.number, same)

pub on_err_same : (P : Type 0) (r : Result (Unit {0}) NoMemory) → P → OnErr r P
on_err_same P (Ok value) p = tt
on_err_same P (Err fault) p = p
