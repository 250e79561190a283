-- What a line comes to that stops the device, or arms a stop.
use Rattle.std.proofs.Common.{Vec, Global, ◌≡◌, ◌∙◌, ◌≤◌, ◌+◌, ℕ, Bool, true, false, List, [], ◌∷◌, ◌++◌, refl, sym, ap, subst, inr, arith}
use Rattle.std.specs.Prelude.{Option, None, Some, is_some}
use Rattle.life_bytes.specs.declared.sector.Sector.{Sector}
use Rattle.disk_model.specs.Disk.{Arming, Cell, IsImage, Stopping}
use Rattle.life_table.specs.declared.key.Key.{Key}
use Rattle.life_table.specs.declared.types.MountRecord.{MountRecord}
use Rattle.life_table.specs.declared.table.Table.{Table}
use Rattle.script.specs.declared.types.Command.{Command}
use Rattle.script.specs.declared.types.Command.TheVariants as command
use Rattle.script.specs.declared.answers.LineReply.{LineReply}
use Rattle.script.specs.declared.answers.LineReply.TheVariants as line
use Rattle.script.specs.declared.answers.Said.{Said}
use Rattle.run_history.specs.Answers.{line_said, stopped_now}
use Rattle.run_history.specs.Mounts.{left}
use Rattle.run_history.specs.States.{RunState, UpMount, disarmed, down_now, ends_as, mounts_of, next_line, table_now, with_up}
use Rattle.script_names.specs.Bindings.{AreNames}
use Rattle.actor_holds.specs.Holds.{AreHolds}
use Rattle.run_mounts.specs.Safe.{StandsSafe}
use Rattle.script_runs.specs.Running.{ComesTo, HasRoom, IsAnswer, IsDeviceAs, IsRun, IsUntouched, IsUpAs, SaysNoDamage, SaysOfUntouched, StandsWhereKnown, StaysUntouched, disk_of_device, disk_of_run, records_of, records_with, run_of}
use Rattle.script_runs.specs.Stopping.{ComesToStop, IsArmedDevice, IsArmedOn, IsLeftIn}
use Rattle.script_runs.specs.declared.running.Comes.{Comes}
use Rattle.script_runs.specs.declared.running.Comes.TheVariants.{Answered, Unanswered}
use Rattle.script_runs.specs.declared.running.Device.{Device}
use Rattle.script_runs.specs.declared.running.Device.TheVariants as device
use Rattle.script_runs.specs.declared.running.Run.{Run}
use Rattle.script_runs.specs.declared.running.Up.{Up}
use Rattle.script_runs.proofs.Made.{tells_up, up_mount}

-- ---- no mount is up

-- the device stopped where no mount is up
pub stopped_idle : {D : Type 0} (known sure : Bool) (cells : D → List Cell) (sector_count : D → ℕ) (arming : D → Arming) (first : Table) (number : ℕ) (s : RunState)
    (names : List (List ℕ × Key)) (past : Vec MountRecord Global) (old new : D) → IsRun known cells sector_count arming s (record { names = names; past = past; device = device.Idle old })
    → s.up ≡ None → StandsWhereKnown sure first number s (cells old) → (arming new).stopped ≡ false → (arming new).armed ≡ None → cells new ≡ cells old
    → ComesTo known sure cells sector_count arming first number s command.Stop (Answered (record { names = names; past = past; device = device.Idle new }) (line_said line.Stopped))
stopped_idle known sure cells sector_count arming first number s names past old new is none stands goes_on unarmed same = record {
  next = next_line (disarmed s);
  run_is = record {
    names = is.names;
    past = is.past;
    device = subst (λ (o : Option UpMount). IsDeviceAs known cells sector_count (s.lines + 1) o (device.Idle new)) (sym none) tt;
    room = tt;
    armed = record { goes_on = goes_on; told = ap (λ (o : Option Stopping). is_some o) unarmed };
  };
  lines = refl;
  answers = λ told. (refl, ap (λ (o : Option UpMount). stopped_now o (disarmed s)) (sym none));
  safe = λ told. subst (StandsSafe first number (mounts_of s)) (sym same) (stands told);
}

-- what a line says that is no mount line and tells no damage
abbrev IsPlain : LineReply → Type 0
IsPlain (line.Damaged rule sector) = ⊥
IsPlain reply = Unit {0}

no_damage : (reply : LineReply) → IsPlain reply → (rule sector : ℕ) → line_said reply ≡ line_said (line.Damaged rule sector) → ⊥
no_damage reply plain rule sector same =
    let e : reply ≡ line.Damaged rule sector = cc in subst IsPlain e plain

abbrev IsMountLine : Command → Type 0
IsMountLine command.Mount = Unit {0}
IsMountLine other = ⊥

pub says_plain : (before : List Sector) (asked : Command) (reply : LineReply) → IsPlain reply → (IsMountLine asked → ⊥) → SaysOfUntouched before asked (line_said reply)
says_plain before asked reply plain other = (λ mount. absurd (other (subst IsMountLine (sym mount) tt)), λ rule sector same. absurd (no_damage reply plain rule sector same))

pub untouched_idle : {D : Type 0} (cells : D → List Cell) (before : List Sector) (names : List (List ℕ × Key)) (past : Vec MountRecord Global) (old new : D)
    → IsUntouched cells before (record { names = names; past = past; device = device.Idle old }) → cells new ≡ cells old
    → StaysUntouched cells before command.Stop (Answered (record { names = names; past = past; device = device.Idle new }) (line_said line.Stopped))
untouched_idle cells before names past old new is same =
    inr (record { none = is.none; left = λ image at. is.left image (subst (λ (c : List Cell). IsImage c image) same at) }, says_plain before command.Stop line.Stopped tt (λ e. e))

pub plain_says : {D : Type 0} (run : Run D) (reply : LineReply) → IsPlain reply → SaysNoDamage (Answered run (line_said reply))
plain_says run reply plain = λ rule sector same. no_damage reply plain rule sector same

-- ---- a mount is up

stopped_by : {D : Type 0} (known sure : Bool) (cells : D → List Cell) (sector_count : D → ℕ) (arming : D → Arming) (fault_count : D → ℕ) (first : Table) (number : ℕ) (s : RunState) (m : UpMount)
    (names : List (List ℕ × Key)) (past : Vec MountRecord Global) (up : Up D) (run : Run D) (said : Said) → IsRun known cells sector_count arming s (record { names = names; past = past; device = device.Mounted up })
    → s.up ≡ Some m → IsUpAs known cells sector_count s.lines m up → StandsWhereKnown sure first number s (cells up.mounted.store.disk)
    → IsLeftIn cells arming fault_count names past.items up.mounted run said → IsAnswer known sure cells sector_count arming first number s command.Stop said run
stopped_by {D = D} known sure cells sector_count arming fault_count first number s m names past up run said is up_is stand stands stopped = record {
  next = down_now left m (disarmed s);
  run_is = record {
    names = subst (λ n. AreNames s.names n) (sym stopped.names_are) is.names;
    past = stopped.records ∙ tells_up known cells sector_count s.lines s m past.items up up.mounted.story up_is is.past stand refl ∙ ap (λ (o : Option UpMount). records_of (with_up s.past o)) up_is;
    device = subst (λ (d : Device D). IsDeviceAs known cells sector_count (s.lines + 1) None d) (sym stopped.idle) tt;
    room = subst (HasRoom run) (sym stopped.idle) tt;
    armed = record { goes_on = stopped.goes_on; told = ap (λ (o : Option Stopping). is_some o) stopped.unarmed };
  };
  lines = refl;
  answers = λ told. (stopped.said_is, ap (λ (o : Option UpMount). stopped_now o (disarmed s)) (sym up_is));
  safe = λ told. subst (StandsSafe first number (s.past ++ ends_as left m ∷ [])) (sym stopped.cells_are)
      (subst (λ (o : Option UpMount). StandsSafe first number (with_up s.past o) (cells up.mounted.store.disk)) up_is (stands told));
}

pub stopped_mount : {D : Type 0} (known sure : Bool) (cells : D → List Cell) (sector_count : D → ℕ) (arming : D → Arming) (fault_count : D → ℕ) (first : Table) (number : ℕ) (s : RunState)
    (names : List (List ℕ × Key)) (past : Vec MountRecord Global) (up : Up D) (comes : Comes D) → IsRun known cells sector_count arming s (record { names = names; past = past; device = device.Mounted up })
    → StandsWhereKnown sure first number s (cells up.mounted.store.disk) → ComesToStop cells arming fault_count names past.items up.mounted comes
    → ComesTo known sure cells sector_count arming first number s command.Stop comes
stopped_mount known sure cells sector_count arming fault_count first number s names past up (Unanswered run) is stands stopped = absurd stopped
stopped_mount known sure cells sector_count arming fault_count first number s names past up (Answered run said) is stands stopped =
    let m = up_mount known cells sector_count s.lines s.up up is.device in
    stopped_by known sure cells sector_count arming fault_count first number s m.0 names past up run said is m.1 m.2 stands stopped

pub stopped_says : {D : Type 0} (cells : D → List Cell) (arming : D → Arming) (fault_count : D → ℕ) (names : List (List ℕ × Key)) (past : Vec MountRecord Global) (up : Up D) (comes : Comes D)
    → ComesToStop cells arming fault_count names past.items up.mounted comes → SaysNoDamage comes
stopped_says cells arming fault_count names past up (Unanswered run) stopped = absurd stopped
stopped_says cells arming fault_count names past up (Answered run said) stopped =
    λ rule sector same. no_damage line.Stopped tt rule sector (sym stopped.said_is ∙ same)

pub stopped_count : {D : Type 0} (cells : D → List Cell) (arming : D → Arming) (fault_count : D → ℕ) (names : List (List ℕ × Key)) (past : Vec MountRecord Global) (up : Up D) (comes : Comes D)
    → ComesToStop cells arming fault_count names past.items up.mounted comes → fault_count up.mounted.store.disk ≤ fault_count (disk_of_run (run_of comes))
stopped_count cells arming fault_count names past up (Unanswered run) stopped = absurd stopped
stopped_count cells arming fault_count names past up (Answered run said) stopped = let e = stopped.count in omega (arith, e)

-- ---- a stop that is armed

armed_up : {D : Type 0} (known : Bool) (cells : D → List Cell) (sector_count fault_count : D → ℕ) (arming : D → Arming) (lines : ℕ) (o : Option UpMount) (old new : Device D)
    → IsDeviceAs known cells sector_count lines o old → IsArmedOn known cells sector_count fault_count arming old new → IsDeviceAs known cells sector_count (lines + 1) o new
armed_up known cells sector_count fault_count arming lines None (device.Idle old) (device.Idle new) is on = tt
armed_up known cells sector_count fault_count arming lines None (device.Idle old) (device.Mounted new) is on = absurd on
armed_up known cells sector_count fault_count arming lines None (device.Mounted old) new is on = absurd is
armed_up known cells sector_count fault_count arming lines (Some m) (device.Idle old) new is on = absurd is
armed_up known cells sector_count fault_count arming lines (Some m) (device.Mounted old) (device.Idle new) is on = absurd on
armed_up known cells sector_count fault_count arming lines (Some m) (device.Mounted old) (device.Mounted new) is on = record {
  story = is.story ∙ sym on.story;
  going = is.going;
  unheld = is.unheld;
  running = on.running m.start (table_now m) is.running;
  holds = subst (AreHolds m.story.entries) (sym on.holds) is.holds;
  steady = is.steady;
  number = is.number;
  few = let f = is.few in omega (arith, f);
}

armed_room : {D : Type 0} (known : Bool) (cells : D → List Cell) (sector_count fault_count : D → ℕ) (arming : D → Arming) (names : List (List ℕ × Key)) (past : Vec MountRecord Global) (old new : Device D)
    → HasRoom (record { names = names; past = past; device = old }) old → IsArmedOn known cells sector_count fault_count arming old new → HasRoom (record { names = names; past = past; device = new }) new
armed_room known cells sector_count fault_count arming names past (device.Idle old) (device.Idle new) room on = tt
armed_room known cells sector_count fault_count arming names past (device.Idle old) (device.Mounted new) room on = absurd on
armed_room known cells sector_count fault_count arming names past (device.Mounted old) (device.Idle new) room on = absurd on
armed_room known cells sector_count fault_count arming names past (device.Mounted old) (device.Mounted new) room on = room

armed_records : {D : Type 0} (known : Bool) (cells : D → List Cell) (sector_count fault_count : D → ℕ) (arming : D → Arming) (past : List MountRecord) (old new : Device D)
    → IsArmedOn known cells sector_count fault_count arming old new → records_with past new ≡ records_with past old
armed_records known cells sector_count fault_count arming past (device.Idle old) (device.Idle new) on = refl
armed_records known cells sector_count fault_count arming past (device.Idle old) (device.Mounted new) on = absurd on
armed_records known cells sector_count fault_count arming past (device.Mounted old) (device.Idle new) on = absurd on
armed_records known cells sector_count fault_count arming past (device.Mounted old) (device.Mounted new) on = ap (λ (r : MountRecord). past ++ r ∷ []) on.story

pub armed_line : {D : Type 0} (known sure : Bool) (cells : D → List Cell) (sector_count fault_count : D → ℕ) (arming : D → Arming) (first : Table) (number : ℕ) (s : RunState) (count sectors : ℕ)
    (names : List (List ℕ × Key)) (past : Vec MountRecord Global) (old new : Device D) → IsRun known cells sector_count arming s (record { names = names; past = past; device = old })
    → StandsWhereKnown sure first number s (cells (disk_of_device old)) → IsArmedDevice known cells sector_count fault_count arming count sectors old new
    → ComesTo known sure cells sector_count arming first number s (command.Arm count sectors) (Answered (record { names = names; past = past; device = new }) (line_said line.Armed))
armed_line known sure cells sector_count fault_count arming first number s count sectors names past old new is stands armed = record {
  next = record (next_line s) { armed = true };
  run_is = record {
    names = is.names;
    past = is.past;
    device = armed_up known cells sector_count fault_count arming s.lines s.up old new is.device armed.on;
    room = armed_room known cells sector_count fault_count arming names past old new is.room armed.on;
    armed = record { goes_on = ap (λ (a : Arming). a.stopped) armed.armed ∙ is.armed.goes_on; told = ap (λ (a : Arming). is_some a.armed) armed.armed };
  };
  lines = refl;
  answers = λ told. (refl, refl);
  safe = λ told. subst (StandsSafe first number (mounts_of s)) (sym armed.cells_are) (stands told);
}

pub untouched_armed : {D : Type 0} (known : Bool) (cells : D → List Cell) (sector_count fault_count : D → ℕ) (arming : D → Arming) (before : List Sector) (count sectors : ℕ)
    (names : List (List ℕ × Key)) (past : Vec MountRecord Global) (old new : Device D) → IsUntouched cells before (record { names = names; past = past; device = old })
    → IsArmedDevice known cells sector_count fault_count arming count sectors old new
    → StaysUntouched cells before (command.Arm count sectors) (Answered (record { names = names; past = past; device = new }) (line_said line.Armed))
untouched_armed known cells sector_count fault_count arming before count sectors names past old new is armed =
    inr (
      record {
        none = armed_records known cells sector_count fault_count arming past.items old new armed.on ∙ is.none;
        left = λ image at. is.left image (subst (λ (c : List Cell). IsImage c image) armed.cells_are at);
      },
      says_plain before (command.Arm count sectors) line.Armed tt (λ e. e),
    )
