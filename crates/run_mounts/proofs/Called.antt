-- A mount of a run once a whole call is answered.
use Rattle.std.proofs.Common.{◌≡◌, ◌≢◌, ◌≤◌, ℕ, Bool, true, false, List, Option, None, Some, inl, inr, refl, ap, sym, subst, ◌∙◌, arith}
use Rattle.std.specs.Prelude.{⊤, Err, IsTrue, Ok, OnErr, OnOk, Result, if◌then◌else◌, length, nat_lt, ◌==◌, ◌&&◌}
use Rattle.life_limits.specs.declared.TheConstants.{MAX_LINKS, MAX_PINS}
use Rattle.life_ports.specs.declared.errors.NoMemory.{NoMemory}
use Rattle.life_bytes.specs.declared.sector.Sector.{Sector}
use Rattle.disk_model.specs.Disk.{Arming, Cell, IsAfterWrites, IsImage}
use Rattle.geometry.specs.declared.shape.Geometry.{Geometry}
use Rattle.log_store.specs.OnDisk.{ReplaysTo, ReplaysUpTo}
use Rattle.log_store.specs.State.{State, state_of}
use Rattle.log_store.specs.Steps.{IsStore}
use Rattle.life_table.specs.declared.key.Key.{Key}
use Rattle.life_table.specs.declared.types.Call.{Call}
use Rattle.life_table.specs.declared.types.Call.TheVariants as call
use Rattle.life_table.specs.declared.types.MountRecord.{MountRecord}
use Rattle.life_table.specs.declared.types.Reply.{Reply}
use Rattle.life_table.specs.declared.types.Reply.TheVariants as reply
use Rattle.life_table.specs.declared.types.Row.{Row}
use Rattle.life_table.specs.declared.table.Table.{Table}
use Rattle.life_table.specs.Legal.{after_call, free_of}
use Rattle.life_table.specs.Replies.{create_reply, key_reply, reply_of, row_reply}
use Rattle.life_table.specs.Space.{lowest_key, prepared}
use Rattle.life_table.specs.Table.{group_at, row_of}
use Rattle.sound_image.specs.Encoding.{Layouts}
use Rattle.mount.specs.declared.mounted.Mounted.{Mounted}
use Rattle.run_history.specs.Mounts.{MountStory, changes_made, left}
use Rattle.mounted_calls.specs.Calls.{IsAnswered, IsDownBehind, IsHomeAnswer, IsMade, IsOnGroup, IsSyncAnswer, IsUnmade, with_call}
use Rattle.mounted_calls.specs.Running.{IsLeftBehind, IsLogOf, IsRecordOf, IsRunning}
use Rattle.run_mounts.specs.Calls.{AnswersCall, IsCalled, IsInCore, IsUncalled, IsWholeCall}
use Rattle.run_mounts.specs.Safe.{StandsBehind}

-- ---- what a call covers

-- a reply that acknowledges no change
abbrev Uncovering : Reply → Type 0
Uncovering (reply.Covered count) = ⊥
Uncovering answer = ⊤

either_uncovering : (b : Bool) (one other : Reply) → Uncovering one → Uncovering other → Uncovering (if b then one else other)
either_uncovering true one other first second = first
either_uncovering false one other first second = second

row_uncovering : (t : Table) (row : Row) (made : Call) → Uncovering (row_reply t row made)
row_uncovering t row (call.OpenKey key) =
    either_uncovering (row.links == 0 && row.opens == 0) reply.Stale (if row.opens == MAX_PINS then reply.Crowded else reply.Done) tt
    (either_uncovering (row.opens == MAX_PINS) reply.Crowded reply.Done tt tt)
row_uncovering t row (call.Link key) = either_uncovering (row.links == MAX_LINKS) reply.TooManyLinks reply.Done tt tt
row_uncovering t row (call.Unlink key) = either_uncovering (row.links == 0) reply.NoLinks reply.Done tt tt
row_uncovering t row (call.Grow key count) =
    either_uncovering (nat_lt (length (free_of t key)) count) reply.NoSpace _ tt (either_uncovering _ reply.TooManyExtents reply.Done tt tt)
row_uncovering t row (call.Cut key count) = either_uncovering (nat_lt (length row.blocks) count) reply.CutTooFar reply.Done tt tt
row_uncovering t row (call.Stat key) = tt
row_uncovering t row made = tt

key_uncovering : (t : Table) (o : Option Row) (made : Call) → Uncovering (key_reply t o made)
key_uncovering t None made = tt
key_uncovering t (Some row) made = row_uncovering t row made

create_uncovering : (o : Option Key) → Uncovering (create_reply o)
create_uncovering None = tt
create_uncovering (Some key) = tt

uncovering : (t : Table) (made : Call) → Uncovering (reply_of t made)
uncovering t (call.Create g) = create_uncovering (lowest_key g (prepared t.blocks g (group_at t g)))
uncovering t (call.Tmpfile g) = create_uncovering (lowest_key g (prepared t.blocks g (group_at t g)))
uncovering t (call.OpenKey key) = key_uncovering t (row_of t key) (call.OpenKey key)
uncovering t (call.CloseKey key) = key_uncovering t (row_of t key) (call.CloseKey key)
uncovering t (call.Link key) = key_uncovering t (row_of t key) (call.Link key)
uncovering t (call.Unlink key) = key_uncovering t (row_of t key) (call.Unlink key)
uncovering t (call.Grow key count) = key_uncovering t (row_of t key) (call.Grow key count)
uncovering t (call.Cut key count) = key_uncovering t (row_of t key) (call.Cut key count)
uncovering t (call.Stat key) = key_uncovering t (row_of t key) (call.Stat key)
uncovering t made = tt

-- a sync that covers so many changes covers all
covers_sync : (story : MountRecord) (answer : Reply) (old new : State) (before now count : ℕ) → IsSyncAnswer story answer old new before now → answer ≡ reply.Covered count → count ≡ changes_made story
covers_sync story answer old new before now count is same =
    let covers : IsSyncAnswer story (reply.Covered count) old new before now = subst (λ (a : Reply). IsSyncAnswer story a old new before now) same is in covers.0

-- a home covers none
home_uncovering : (known : Bool) (cells : List Cell) (old new : State) (before now count : ℕ) → IsHomeAnswer known cells (reply.Covered count) old new before now → ⊥
home_uncovering known cells old new before now count (inl bad) = bad
home_uncovering known cells old new before now count (inr bad) = bad

covers_home : (P : Type 0) (known : Bool) (cells : List Cell) (answer : Reply) (old new : State) (before now count : ℕ) → IsHomeAnswer known cells answer old new before now → answer ≡ reply.Covered count → P
covers_home P known cells answer old new before now count is same =
    absurd (home_uncovering known cells old new before now count (subst (λ (a : Reply). IsHomeAnswer known cells a old new before now) same is))

-- a call on a group covers none
covers_none : (P : Type 0) (t : Table) (made : Call) (answer : Reply) (count : ℕ) → answer ≡ reply_of t made → answer ≡ reply.Covered count → P
covers_none P t made answer count is same = absurd (subst Uncovering (sym is ∙ same) (uncovering t made))

pub covers : {D : Type 0} (known : Bool) (cells : D → List Cell) (fault_count : D → ℕ) (t : Table) (made : Call) (answer : Reply) (old new : Mounted D) (count : ℕ)
    → AnswersCall known cells fault_count t made answer old new → answer ≡ reply.Covered count → count ≡ changes_made old.story
covers known cells fault_count t call.Sync answer old new count is same =
    covers_sync old.story answer (state_of old.store) (state_of new.store) (fault_count old.store.disk) (fault_count new.store.disk) count is.0 same
covers known cells fault_count t call.Home answer old new count is same =
    covers_home (count ≡ changes_made old.story) known (cells new.store.disk) answer (state_of old.store) (state_of new.store) (fault_count old.store.disk) (fault_count new.store.disk) count is.0 same
covers known cells fault_count t made answer old new count is same = covers_none (count ≡ changes_made old.story) t made answer count is.0 same

-- ---- what a call leaves

pub on_ok_more : (P Q : Type 0) (r : Result (Unit {0}) NoMemory) → (P → Q) → OnOk r P → OnOk r Q
on_ok_more P Q (Ok value) more p = more p
on_ok_more P Q (Err fault) more p = tt

pub on_err_more : (P Q : Type 0) (r : Result (Unit {0}) NoMemory) → (P → Q) → OnErr r P → OnErr r Q
on_err_more P Q (Ok value) more p = tt
on_err_more P Q (Err fault) more p = more p

pub either_way : (P Q R : Type 0) (r : Result (Unit {0}) NoMemory) → OnOk r P → OnErr r Q → (P → R) → (Q → R) → R
either_way P Q R (Ok value) p q first second = first p
either_way P Q R (Err fault) p q first second = second q

pub sync_called : {D : Type 0} (known : Bool) (cells : D → List Cell) (sector_count fault_count moment : D → ℕ) (left_since : D → ℕ → List Sector → Type 0) (start t : Table) (actor : ℕ) (made : Call) (old new : Mounted D) → made ≡ call.Sync
    → (answer : Reply) × IsAnswered known cells sector_count moment left_since start t actor call.Sync answer old new
    × IsSyncAnswer old.story answer (state_of old.store) (state_of new.store) (fault_count old.store.disk) (fault_count new.store.disk)
    × IsDownBehind answer (state_of old.store) (state_of new.store)
    → IsCalled known cells sector_count fault_count start t actor made old new
sync_called known cells sector_count fault_count moment left_since start t actor made old new same is =
    let whole : IsCalled known cells sector_count fault_count start t actor call.Sync old new =
    record {
      answer = is.0;
      story = is.1.story;
      running = is.1.running;
      geometry = is.1.geometry;
      answers = (is.2, is.3);
    } in
    subst (λ (k : Call). IsCalled known cells sector_count fault_count start t actor k old new) (sym same) whole

pub home_called : {D : Type 0} (known : Bool) (cells : D → List Cell) (sector_count fault_count moment : D → ℕ) (left_since : D → ℕ → List Sector → Type 0) (start t : Table) (actor : ℕ) (made : Call) (old new : Mounted D) → made ≡ call.Home
    → (answer : Reply) × IsAnswered known cells sector_count moment left_since start t actor call.Home answer old new
    × IsHomeAnswer known (cells new.store.disk) answer (state_of old.store) (state_of new.store) (fault_count old.store.disk) (fault_count new.store.disk)
    × IsDownBehind answer (state_of old.store) (state_of new.store)
    → IsCalled known cells sector_count fault_count start t actor made old new
home_called known cells sector_count fault_count moment left_since start t actor made old new same is =
    let whole : IsCalled known cells sector_count fault_count start t actor call.Home old new =
    record {
      answer = is.0;
      story = is.1.story;
      running = is.1.running;
      geometry = is.1.geometry;
      answers = (is.2, is.3);
    } in
    subst (λ (k : Call). IsCalled known cells sector_count fault_count start t actor k old new) (sym same) whole

-- a call that asks one group
pub group_kind : (made : Call) → IsWholeCall made → made ≢ call.Sync → made ≢ call.Home → IsOnGroup made
group_kind call.Sync kind sync home = absurd (sync refl)
group_kind call.Home kind sync home = absurd (home refl)
group_kind made kind sync home = kind

pub group_answers : {D : Type 0} (known : Bool) (cells : D → List Cell) (fault_count : D → ℕ) (t : Table) (made : Call) (answer : Reply) (old new : Mounted D) → IsOnGroup made
    → answer ≡ reply_of t made → IsInCore old new → AnswersCall known cells fault_count t made answer old new
group_answers known cells fault_count t call.Sync answer old new kind is core = absurd kind
group_answers known cells fault_count t call.Home answer old new kind is core = absurd kind
group_answers known cells fault_count t made answer old new kind is core = (is, core)

pub group_called : {D : Type 0} (known : Bool) (cells : D → List Cell) (sector_count fault_count : D → ℕ) (start t : Table) (actor : ℕ) (made : Call) (old new : Mounted D) → IsOnGroup made
    → IsMade known cells sector_count start t actor made (reply_of t made) old new → IsCalled known cells sector_count fault_count start t actor made old new
group_called known cells sector_count fault_count start t actor made old new kind is = record {
  answer = reply_of t made;
  story = is.story;
  running = is.running;
  geometry = is.geometry;
  answers = group_answers known cells fault_count t made (reply_of t made) old new kind refl (record { disk = is.disk; stage = is.stage });
}

pub same_uncalled : {D : Type 0} (known : Bool) (cells : D → List Cell) (sector_count : D → ℕ) (start t : Table) (old new : Mounted D) → IsRunning known cells sector_count start t old
    → new ≡ old → IsUncalled known cells sector_count start t old new
same_uncalled {D} known cells sector_count start t old new run same = record {
  story = ap (λ (m : Mounted D). m.story) same;
  running = subst (λ (m : Mounted D). IsRunning known cells sector_count start t m) (sym same) run;
  geometry = ap (λ (m : Mounted D). m.geometry) same;
  in_core = record { disk = ap (λ (m : Mounted D). m.store.disk) same; stage = ap (λ (m : Mounted D). m.store.stage) same };
}

pub group_uncalled : {D : Type 0} (known : Bool) (cells : D → List Cell) (sector_count : D → ℕ) (start t : Table) (old new : Mounted D) → IsUnmade known cells sector_count start t old new
    → IsUncalled known cells sector_count start t old new
group_uncalled known cells sector_count start t old new is = record {
  story = is.story;
  running = is.running;
  geometry = is.geometry;
  in_core = record { disk = is.disk; stage = ap (λ (s : State). s.stage) is.store };
}

-- ---- the disk of a call that asks one group

pub group_disk : {D : Type 0} (known : Bool) (cells : D → List Cell) (sector_count : D → ℕ) (start t : Table) (actor : ℕ) (made : Call) (answer : Reply) (old new : Mounted D) (r : Result (Unit {0}) NoMemory)
    → OnOk r (IsMade known cells sector_count start t actor made answer old new) → OnErr r (IsUnmade known cells sector_count start t old new) → new.store.disk ≡ old.store.disk
group_disk known cells sector_count start t actor made answer old new (Ok value) is unmade = is.disk
group_disk known cells sector_count start t actor made answer old new (Err fault) is unmade = unmade.disk

pub same_count : {D : Type 0} (count : D → ℕ) (old new : D) → new ≡ old → count old ≤ count new
same_count count old new same = let e = ap count same in omega (arith, e)

pub same_sectors : {D : Type 0} (count : D → ℕ) (old new : D) → new ≡ old → count new ≡ count old
same_sectors count old new same = ap count same

pub same_arming : {D : Type 0} (arming : D → Arming) (old new : D) → new ≡ old → IsAfterWrites (arming old) (arming new)
same_arming arming old new same = (0, ap arming same)

-- ---- what the run stands on

pub store_after : {D : Type 0} (known : Bool) (cells : D → List Cell) (sector_count fault_count : D → ℕ) (start t : Table) (actor : ℕ) (made : Call) (old new : Mounted D) (r : Result (Unit {0}) NoMemory)
    → OnOk r (IsCalled known cells sector_count fault_count start t actor made old new) → OnErr r (IsUncalled known cells sector_count start t old new) → IsStore known cells sector_count new.store
store_after known cells sector_count fault_count start t actor made old new (Ok value) is unmade = is.running.store
store_after known cells sector_count fault_count start t actor made old new (Err fault) is unmade = unmade.running.store

-- the laws that are used
abbrev pub CallsStand : Type 0
CallsStand = (first : Table) (number : ℕ) (past : List MountStory) (start t u : Table) (actor : ℕ) (made : Call) (answer : Reply) (story : MountRecord) (old new : List Cell)
    → IsWholeCall made → IsRecordOf start t story → IsRecordOf start u (with_call story actor made answer)
    → ((count : ℕ) → answer ≡ reply.Covered count → count ≡ changes_made story)
    → ((image : List Sector) → IsImage new image → IsLeftBehind start (with_call story actor made answer) image)
    → StandsBehind first number past left start story old → StandsBehind first number past left start (with_call story actor made answer) new

abbrev pub LeavesFirst : Type 0
LeavesFirst = (known : Bool) (g : Geometry) (start t : Table) (layouts : Layouts) (story : MountRecord) (head : ℕ) (s : State) (cells : List Cell) (image : List Sector) → IsTrue known
    → IsRecordOf start t story → IsLogOf known g start layouts story s cells → ReplaysUpTo head s cells image → IsLeftBehind start story image

-- each image that a crash may leave of a mount that is up
pub leaves : {D : Type 0} → LeavesFirst → (known : Bool) (cells : D → List Cell) (sector_count : D → ℕ) (start t : Table) (m : Mounted D) → IsTrue known
    → ((image : List Sector) → IsImage (cells m.store.disk) image → ReplaysTo (state_of m.store) (cells m.store.disk) image) → IsRunning known cells sector_count start t m
    → (image : List Sector) → IsImage (cells m.store.disk) image → IsLeftBehind start m.story image
leaves first known cells sector_count start t m tells replays run image of =
    first known m.geometry start t run.layouts m.story m.store.positions.head (state_of m.store) (cells m.store.disk) image tells run.parts.told run.parts.log (replays image of)

pub called_safe : {D : Type 0} → CallsStand → LeavesFirst → (known : Bool) (cells : D → List Cell) (sector_count fault_count : D → ℕ) (first : Table) (number : ℕ) (past : List MountStory) (start t : Table) (actor : ℕ) (made : Call)
    (old new : Mounted D) → IsWholeCall made → IsTrue known → ((image : List Sector) → IsImage (cells new.store.disk) image → ReplaysTo (state_of new.store) (cells new.store.disk) image)
    → IsRunning known cells sector_count start t old → IsCalled known cells sector_count fault_count start t actor made old new
    → StandsBehind first number past left start old.story (cells old.store.disk) → StandsBehind first number past left start new.story (cells new.store.disk)
called_safe stand behind known cells sector_count fault_count first number past start t actor made old new kind tells replays run is safe =
    let u : Table = after_call t made is.answer in
    let whole : MountRecord = with_call old.story actor made is.answer in
    let told : IsRecordOf start u whole = subst (λ (s : MountRecord). IsRecordOf start u s) is.story is.running.parts.told in
    let images : (image : List Sector) → IsImage (cells new.store.disk) image → IsLeftBehind start whole image =
    λ image of. subst (λ (s : MountRecord). IsLeftBehind start s image) is.story (leaves behind known cells sector_count start u new tells replays is.running image of) in
    let stands : StandsBehind first number past left start whole (cells new.store.disk) =
    stand first number past start t u actor made is.answer old.story (cells old.store.disk) (cells new.store.disk) kind run.parts.told told
    (λ count same. covers known cells fault_count t made is.answer old new count is.answers same) images safe in
    subst (λ (s : MountRecord). StandsBehind first number past left start s (cells new.store.disk)) (sym is.story) stands

pub uncalled_safe : {D : Type 0} (known : Bool) (cells : D → List Cell) (sector_count : D → ℕ) (first : Table) (number : ℕ) (past : List MountStory) (start t : Table) (old new : Mounted D)
    → IsUncalled known cells sector_count start t old new
    → StandsBehind first number past left start old.story (cells old.store.disk) → StandsBehind first number past left start new.story (cells new.store.disk)
uncalled_safe known cells sector_count first number past start t old new unmade safe =
    subst (λ (s : MountRecord). StandsBehind first number past left start s (cells new.store.disk)) (sym unmade.story)
    (subst (λ (cs : List Cell). StandsBehind first number past left start old.story cs) (sym (ap cells unmade.in_core.disk)) safe)

pub safe_after : {D : Type 0} → CallsStand → LeavesFirst → (known : Bool) (cells : D → List Cell) (sector_count fault_count : D → ℕ) (first : Table) (number : ℕ) (past : List MountStory) (start t : Table) (actor : ℕ) (made : Call)
    (old new : Mounted D) (r : Result (Unit {0}) NoMemory) → IsWholeCall made → IsTrue known
    → ((image : List Sector) → IsImage (cells new.store.disk) image → ReplaysTo (state_of new.store) (cells new.store.disk) image)
    → IsRunning known cells sector_count start t old → OnOk r (IsCalled known cells sector_count fault_count start t actor made old new) → OnErr r (IsUncalled known cells sector_count start t old new)
    → StandsBehind first number past left start old.story (cells old.store.disk) → StandsBehind first number past left start new.story (cells new.store.disk)
safe_after stand behind known cells sector_count fault_count first number past start t actor made old new (Ok value) kind tells replays run is unmade safe =
    called_safe stand behind known cells sector_count fault_count first number past start t actor made old new kind tells replays run is safe
safe_after stand behind known cells sector_count fault_count first number past start t actor made old new (Err fault) kind tells replays run is unmade safe =
    uncalled_safe known cells sector_count first number past start t old new unmade safe
