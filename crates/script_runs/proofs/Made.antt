-- What a line owes whose call was made, or was not.
use Rattle.std.proofs.Common.{◌≡◌, ◌≤◌, ◌<◌, ◌+◌, inl, inr, ℕ, Bool, true, false, List, [], ◌∷◌, ◌++◌, Option, None, Some, length, refl, ap, sym, subst, ◌∙◌, arith}
use Rattle.std.specs.Prelude.{IsTrue, MatchOption, MatchResult, Ok, Err, Result, slice_get, vec_capacity, vec_len, Option, is_some}
use Rattle.std.proofs.lemmas.List.{length-append, length-map, map-append}
use Rattle.std.proofs.lemmas.List.Sums.{count_by-le-length, length-filter}
use Rattle.life_limits.specs.declared.TheConstants.{MAX_NUMBERS, MAX_SCRIPT_BYTES, MOUNT_LIMIT}
use Rattle.disk_model.specs.Disk.{Arming, Cell, IsAfterWrites, Stopping}
use Rattle.life_table.specs.declared.types.Call.{Call}
use Rattle.life_table.specs.declared.types.Call.TheVariants as call
use Rattle.life_table.specs.declared.types.Reply.{Reply}
use Rattle.life_table.specs.declared.types.Event.TheVariants.{Called}
use Rattle.life_table.specs.declared.types.Entry.{Entry}
use Rattle.life_table.specs.declared.types.MountRecord.{MountRecord}
use Rattle.life_table.specs.declared.table.Table.{Table}
use Rattle.life_table.specs.History.{changes, is_change}
use Rattle.script.specs.declared.types.Command.TheVariants as command
use Rattle.script.specs.declared.types.Spoken.{Spoken}
use Rattle.script.specs.declared.answers.LineReply.{LineReply}
use Rattle.script.specs.declared.answers.LineReply.TheVariants as line
use Rattle.script.specs.declared.answers.Said.{Said}
use Rattle.script.specs.declared.answers.Said.TheVariants.{Of}
use Rattle.run_history.specs.Answers.{AnswersLine, BreaksOff, OnlySays, RunsCall, StopsIn, Works, line_said}
use Rattle.run_history.specs.Mounts.{MountStory, acknowledged_by, changes_made, left}
use Rattle.run_history.specs.States.{LineCall, PastCall, RunState, UpMount, beginning, begun, disarmed, down_now, ends_as, going_of, mounts_of, names_after, next_line, of_others, table_now, up_now, went_on, went_to_end, with_up}
use Rattle.mount.specs.declared.mounted.Mounted.{Mounted}
use Rattle.mounted_calls.specs.Calls.{entry_of, with_call}
use Rattle.mounted_calls.specs.Running.{IsRecordOf, IsRunning}
use Rattle.script_names.specs.Bindings.{AreNames}
use Rattle.script_names.specs.declared.names.Names.{Names}
use Rattle.actor_holds.specs.Holds.{AreHolds, IsSteady}
use Rattle.actor_holds.specs.declared.holds.ActorHolds.{ActorHolds}
use Rattle.run_mounts.specs.Calls.{IsCalled, IsUncalled, IsWholeCall}
use Rattle.run_mounts.specs.Safe.{StandsBehind, StandsSafe, story_as}
use Rattle.script_runs.specs.Running.{ComesTo, HasRoom, IsAnswer, IsArmedAs, IsBroken, IsDeviceAs, IsRun, IsUpAs, SaysNoDamage, StandsWhereKnown, disk_of_device, disk_of_run, records_of, records_with, run_of}
use Rattle.script_runs.specs.Stopping.{ComesToStop, IsLeftIn}
use Rattle.script_runs.specs.Calling.{IsMadeIn}
use Rattle.script_runs.specs.declared.running.Comes.{Comes}
use Rattle.script_runs.specs.declared.running.Comes.TheVariants.{Answered, Unanswered}
use Rattle.script_runs.specs.declared.running.Device.{Device}
use Rattle.script_runs.specs.declared.running.Device.TheVariants as device
use Rattle.script_runs.specs.declared.running.Run.{Run}
use Rattle.script_runs.specs.declared.running.Up.{Up}
use Rattle.script_runs.proofs.Armed.{armed_behind}
use Rattle.script_runs.proofs.GroupCounts.{after_one, first_count}
use Rattle.script_runs.proofs.Noted.{slice_last}

-- ---- records

one_more : (past : List MountStory) (m : MountStory) → records_of (past ++ m ∷ []) ≡ records_of past ++ m.story ∷ []
one_more past m = map-append (λ (x : MountStory). x.story) past (m ∷ [])

-- a mount that is left now is recorded as it is
pub left_as : (m : UpMount) (t : Table) (story : MountRecord) → m.story ≡ story → IsRecordOf m.start t story → ends_as left m ≡ story_as left m.start story
left_as m t story same told =
    let kept : record m.story { acknowledged = acknowledged_by left m.story } ≡ record story { acknowledged = acknowledged_by left story } =
    ap (λ (x : MountRecord). record x { acknowledged = acknowledged_by left x }) same in
    let is : record story { acknowledged = acknowledged_by left story } ≡ story = ap (λ (n : ℕ). record story { acknowledged = n }) (sym told.acknowledged) in
    ap (λ (x : MountRecord). story_as left m.start x) (kept ∙ is)

-- ---- a mount that is up

pub up_as : {D : Type 0} (known : Bool) (cells : D → List Cell) (sector_count : D → ℕ) (lines : ℕ) (o : Option UpMount) (m : UpMount) (up : Up D) → o ≡ Some m
    → IsDeviceAs known cells sector_count lines o (device.Mounted up) → IsUpAs known cells sector_count lines m up
up_as known cells sector_count lines o m up is stand = subst (λ (x : Option UpMount). IsDeviceAs known cells sector_count lines x (device.Mounted up)) is stand

pub up_mount : {D : Type 0} (known : Bool) (cells : D → List Cell) (sector_count : D → ℕ) (lines : ℕ) (o : Option UpMount) (up : Up D)
    → IsDeviceAs known cells sector_count lines o (device.Mounted up) → (m : UpMount) × (o ≡ Some m) × IsUpAs known cells sector_count lines m up
up_mount known cells sector_count lines None up stand = absurd stand
up_mount known cells sector_count lines (Some m) up stand = (m, refl, stand)

pub none_up : {D : Type 0} (known : Bool) (cells : D → List Cell) (sector_count : D → ℕ) (lines : ℕ) (o : Option UpMount) (disk : D)
    → IsDeviceAs known cells sector_count lines o (device.Idle disk) → o ≡ None
none_up known cells sector_count lines None disk stand = refl
none_up known cells sector_count lines (Some m) disk stand = absurd stand

later : {D : Type 0} (known : Bool) (cells : D → List Cell) (sector_count : D → ℕ) (lines : ℕ) (o : Option UpMount) (d : Device D)
    → IsDeviceAs known cells sector_count lines o d → IsDeviceAs known cells sector_count (lines + 1) o d
later known cells sector_count lines None (device.Idle disk) stand = tt
later known cells sector_count lines None (device.Mounted up) stand = absurd stand
later known cells sector_count lines (Some m) (device.Idle disk) stand = absurd stand
later known cells sector_count lines (Some m) (device.Mounted up) stand = record {
  story = stand.story;
  going = stand.going;
  unheld = stand.unheld;
  running = stand.running;
  holds = stand.holds;
  steady = stand.steady;
  number = stand.number;
  few = omega (arith, stand.few);
}

-- the run goes on as it is, one line later
pub next_run : {D : Type 0} (known : Bool) (cells : D → List Cell) (sector_count : D → ℕ) (arming : D → Arming) (s : RunState) (run : Run D)
    → IsRun known cells sector_count arming s run → IsRun known cells sector_count arming (next_line s) run
next_run known cells sector_count arming s run is = record {
  names = is.names;
  past = is.past;
  device = later known cells sector_count s.lines s.up run.device is.device;
  room = is.room;
  armed = is.armed;
}

-- what is recorded of a run on which a mount is up
pub tells_up : {D : Type 0} (known : Bool) (cells : D → List Cell) (sector_count : D → ℕ) (lines : ℕ) (s : RunState) (m : UpMount) (past : List MountRecord) (up : Up D) (story : MountRecord) → s.up ≡ Some m
    → past ≡ records_of s.past → IsUpAs known cells sector_count lines m up → story ≡ up.mounted.story → past ++ story ∷ [] ≡ records_of (mounts_of s)
tells_up known cells sector_count lines s m past up story is records stand same =
    ap (λ (x : MountRecord). past ++ x ∷ []) same
    ∙ ap (λ (l : List MountRecord). l ++ up.mounted.story ∷ []) records
    ∙ ap (λ (x : MountStory). records_of s.past ++ x.story ∷ []) (sym (left_as m (table_now m) up.mounted.story stand.story stand.running.parts.told))
    ∙ sym (one_more s.past (ends_as left m))
    ∙ ap (λ (o : Option UpMount). records_of (with_up s.past o)) (sym is)

-- where the run stands safe, it does with the mount that is left now
pub stands_left : {D : Type 0} (known : Bool) (cells : D → List Cell) (sector_count : D → ℕ) (lines : ℕ) (first : Table) (number : ℕ) (s : RunState) (m : UpMount) (up : Up D) (held : List Cell) → s.up ≡ Some m
    → IsUpAs known cells sector_count lines m up → StandsSafe first number (mounts_of s) held → StandsBehind first number s.past left m.start up.mounted.story held
stands_left known cells sector_count lines first number s m up held is stand safe =
    let here : StandsSafe first number (with_up s.past (Some m)) held = subst (λ (o : Option UpMount). StandsSafe first number (with_up s.past o) held) is safe in
    subst (λ (x : MountStory). StandsSafe first number (s.past ++ x ∷ []) held) (left_as m (table_now m) up.mounted.story stand.story stand.running.parts.told) here

-- ---- the answer of a line

-- a line is answered as the call that it begins
answers_begun : (first : Table) (s : RunState) (m : UpMount) (actor : ℕ) (words : Spoken) (said : Said) (next : RunState) (r : Result LineCall LineReply) → s.up ≡ Some m → m.going ≡ []
    → begun s m actor words None ≡ r → MatchResult r (λ made. RunsCall s m made said next) (λ refusal. OnlySays refusal s said next) → AnswersLine first s (command.Whole actor words) said next
answers_begun first s m actor words said next r is going begins answers =
    let same : begun s m actor words (going_of actor m.going) ≡ r = ap (λ (g : List LineCall). begun s m actor words (going_of actor g)) going ∙ begins in
    let here : MatchResult (begun s m actor words (going_of actor m.going)) (λ made. RunsCall s m made said next) (λ refusal. OnlySays refusal s said next) =
    subst (λ (x : Result LineCall LineReply). MatchResult x (λ made. RunsCall s m made said next) (λ refusal. OnlySays refusal s said next)) (sym same) answers in
    subst (λ (o : Option UpMount). MatchOption o (OnlySays line.NotMounted s said next)
    (λ (up : UpMount). MatchResult (begun s up actor words (going_of actor up.going)) (λ made. RunsCall s up made said next) (λ refusal. OnlySays refusal s said next))) (sym is) here

breaks_begun : (first : Table) (s : RunState) (m : UpMount) (actor : ℕ) (words : Spoken) (made : LineCall) (last : RunState) → s.up ≡ Some m → m.going ≡ [] → begun s m actor words None ≡ Ok made
    → StopsIn s m made last → BreaksOff first s s.up (command.Whole actor words) last
breaks_begun first s m actor words made last is going begins stops =
    let same : begun s m actor words (going_of actor m.going) ≡ Ok made = ap (λ (g : List LineCall). begun s m actor words (going_of actor g)) going ∙ begins in
    let here : MatchResult (begun s m actor words (going_of actor m.going)) (λ one. StopsIn s m one last) (λ refusal. ⊥) =
    subst (λ (x : Result LineCall LineReply). MatchResult x (λ one. StopsIn s m one last) (λ refusal. ⊥)) (sym same) stops in
    subst (λ (o : Option UpMount). BreaksOff first s o (command.Whole actor words) last) (sym is) here

-- ---- the call once it is made

-- the call as it ends
abbrev pub ended_call : RunState → UpMount → ℕ → Spoken → Call → LineCall
ended_call s m actor words made = record (beginning s m actor words made) { entry = Some (length m.story.entries) }

works : (s : RunState) (m : UpMount) (actor : ℕ) (words : Spoken) (made : Call) (answer : Reply)
    → Works m (beginning s m actor words made) (entry_of actor made answer ∷ []) (ended_call s m actor words made)
works s m actor words made answer = (refl, (ended_call s m actor words made, (refl, refl, refl), refl))

-- the mount where the line was broken off behind the call
abbrev pub broken_up : RunState → UpMount → ℕ → Spoken → Call → Reply → UpMount
broken_up s m actor words made answer = went_on (ended_call s m actor words made) (entry_of actor made answer ∷ []) m

abbrev pub answered_up : RunState → UpMount → ℕ → Spoken → Call → Reply → UpMount
answered_up s m actor words made answer = went_to_end (ended_call s m actor words made) (entry_of actor made answer ∷ []) m

broken_is : (s : RunState) (m : UpMount) (actor : ℕ) (words : Spoken) (made : Call) (answer : Reply)
    → ends_as left (broken_up s m actor words made answer) ≡ story_as left m.start (with_call m.story actor made answer)
broken_is s m actor words made answer = refl

-- it stands so
broken_safe : (first : Table) (number : ℕ) (s : RunState) (m : UpMount) (actor : ℕ) (words : Spoken) (made : Call) (answer : Reply) (story : MountRecord) (held : List Cell) → story ≡ with_call m.story actor made answer
    → StandsBehind first number s.past left m.start story held → StandsSafe first number (s.past ++ ends_as left (broken_up s m actor words made answer) ∷ []) held
broken_safe first number s m actor words made answer story held same stands = subst (λ (x : MountRecord). StandsBehind first number s.past left m.start x held) same stands

broken_records : (s : RunState) (m : UpMount) (actor : ℕ) (words : Spoken) (made : Call) (answer : Reply) (past : List MountRecord) (story : MountRecord) → past ≡ records_of s.past
    → story ≡ with_call m.story actor made answer → past ++ story ∷ [] ≡ records_of (s.past ++ ends_as left (broken_up s m actor words made answer) ∷ [])
broken_records s m actor words made answer past story records same =
    ap (λ (l : List MountRecord). l ++ story ∷ []) records ∙ ap (λ (x : MountRecord). records_of s.past ++ x ∷ []) same
    ∙ sym (one_more s.past (ends_as left (broken_up s m actor words made answer)))

-- ---- a line in which the device stopped

pub stopped_line : {D : Type 0} (known sure : Bool) (cells : D → List Cell) (sector_count : D → ℕ) (arming : D → Arming) (fault_count : D → ℕ) (first : Table) (number : ℕ) (s : RunState) (actor : ℕ) (words : Spoken)
    (names : Names) (past : List MountRecord) (up : Up D) (run : Run D) (said : Said) → IsMadeIn known sure cells sector_count arming first number s actor words names past up
    → IsLeftIn cells arming fault_count names past up.mounted run said → (arming up.mounted.store.disk).stopped ≡ true
    → IsAnswer known sure cells sector_count arming first number s (command.Whole actor words) said run
stopped_line {D = D} known sure cells sector_count arming fault_count first number s actor words names past up run said made is stopped =
    let m : UpMount = made.before in
    let next : RunState = down_now left (broken_up s m actor words made.made made.answer) (disarmed s) in
    record {
      next = next;
      run_is = record {
        names = subst (AreNames s.names) (sym is.names_are) made.bound;
        past = is.records ∙ broken_records s m actor words made.made made.answer past up.mounted.story made.records made.story;
        device = subst (λ (d : Device D). IsDeviceAs known cells sector_count (s.lines + 1) None d) (sym is.idle) tt;
        room = subst (λ (d : Device D). HasRoom run d) (sym is.idle) tt;
        armed = record { goes_on = is.goes_on; told = ap (λ (o : Option Stopping). is_some o) is.unarmed };
      };
      lines = refl;
      answers = λ here.
          subst (λ (one : Said). AnswersLine first s (command.Whole actor words) one next) (sym is.said_is)
          (answers_begun first s m actor words (line_said line.Stopped) next (Ok (beginning s m actor words made.made)) made.is_up made.going (made.begins here)
          (made.armed.stopped stopped, (entry_of actor made.made made.answer ∷ [], ended_call s m actor words made.made, works s m actor words made.made made.answer, refl)));
      safe = λ here.
          subst (λ (held : List Cell). StandsSafe first number (mounts_of next) held) (sym is.cells_are)
          (broken_safe first number s m actor words made.made made.answer up.mounted.story (cells up.mounted.store.disk) made.story (made.safe here));
    }

pub comes_stopped : {D : Type 0} (known sure : Bool) (cells : D → List Cell) (sector_count : D → ℕ) (arming : D → Arming) (fault_count : D → ℕ) (first : Table) (number : ℕ) (s : RunState) (actor : ℕ) (words : Spoken)
    (names : Names) (past : List MountRecord) (up : Up D) (x : Comes D) → IsMadeIn known sure cells sector_count arming first number s actor words names past up
    → ComesToStop cells arming fault_count names past up.mounted x → (arming up.mounted.store.disk).stopped ≡ true
    → ComesTo known sure cells sector_count arming first number s (command.Whole actor words) x
comes_stopped known sure cells sector_count arming fault_count first number s actor words names past up (Answered run said) made is stopped =
    stopped_line known sure cells sector_count arming fault_count first number s actor words names past up run said made is stopped
comes_stopped known sure cells sector_count arming fault_count first number s actor words names past up (Unanswered run) made is stopped = absurd is

pub stop_no_damage : {D : Type 0} (cells : D → List Cell) (arming : D → Arming) (fault_count : D → ℕ) (names : Names) (past : List MountRecord) (m : Mounted D) (x : Comes D)
    → ComesToStop cells arming fault_count names past m x → SaysNoDamage x
stop_no_damage cells arming fault_count names past m (Answered run said) is = λ rule sector damaged. let same = is.said_is in cc
stop_no_damage cells arming fault_count names past m (Unanswered run) is = absurd is

pub stop_count : {D : Type 0} (cells : D → List Cell) (arming : D → Arming) (fault_count : D → ℕ) (names : Names) (past : List MountRecord) (m : Mounted D) (x : Comes D)
    → ComesToStop cells arming fault_count names past m x → fault_count m.store.disk ≤ fault_count (disk_of_run (run_of x))
stop_count cells arming fault_count names past m (Answered run said) is = let same = is.count in omega arith
stop_count cells arming fault_count names past m (Unanswered run) is = absurd is

-- ---- a line that is answered by the call's entry

pub made_line : {D : Type 0} (known sure : Bool) (cells : D → List Cell) (sector_count : D → ℕ) (arming : D → Arming) (first : Table) (number : ℕ) (s : RunState) (actor : ℕ) (words : Spoken) (names : Names) (past : List MountRecord)
    (up : Up D) (run : Run D) (holds : ActorHolds) (mount place : ℕ) → (made : IsMadeIn known sure cells sector_count arming first number s actor words names past up)
    → run.device ≡ device.Mounted (record { mounted = up.mounted; holds = holds }) → run.past.items ≡ past → vec_len run.past < vec_capacity run.past
    → AreNames (names_after s.names words (Some (entry_of actor made.made made.answer))) run.names → AreHolds (made.before.story.entries ++ entry_of actor made.made made.answer ∷ []) holds
    → (arming up.mounted.store.disk).stopped ≡ false → mount ≡ length past → place + 1 ≡ length up.mounted.story.entries
    → IsAnswer known sure cells sector_count arming first number s (command.Whole actor words) (Of mount place) run
made_line {D = D} known sure cells sector_count arming first number s actor words names past up run holds mount place made is past_is room bound held goes_on mount_is place_is =
    let m : UpMount = made.before in
    let entry : Entry = entry_of actor made.made made.answer in
    let now : Up D = record { mounted = up.mounted; holds = holds } in
    let told : up.mounted.story ≡ with_call m.story actor made.made made.answer = made.story in
    let size : length up.mounted.story.entries ≡ length m.story.entries + 1 = ap (λ (x : MountRecord). length x.entries) told ∙ length-append m.story.entries (entry ∷ []) in
    let at : place ≡ length m.story.entries = omega (arith, place_is, size) in
    let after : UpMount = answered_up s m actor words made.made made.answer in
    let last : slice_get (m.story.entries ++ entry ∷ []) place ≡ Some entry = ap (slice_get (m.story.entries ++ entry ∷ [])) at ∙ slice_last m.story.entries entry in
    let over : List PastCall = s.over ++ record { mount = mount; made = ended_call s m actor words made.made; last = Some s.lines } ∷ [] in
    let next : RunState = record (up_now after s) { names = names_after s.names words (slice_get (m.story.entries ++ entry ∷ []) place); over = over } in
    let many : mount ≡ length s.past = mount_is ∙ ap length made.records ∙ length-map s.past (λ (x : MountStory). x.story) in
    let up_is : IsUpAs known cells sector_count (s.lines + 1) after now = record {
      story = sym told;
      going = ap (of_others actor) made.going;
      unheld = made.unheld;
      running = subst (λ (t : Table). IsRunning known cells sector_count m.start t up.mounted) (sym (after_one m.start m.story.entries entry)) made.running;
      holds = held;
      steady = held.steady;
      number = made.base;
      few = let few = made.few in let long = length-append m.story.entries (entry ∷ []) in omega (arith, few, long);
    } in
    let where_it_is : disk_of_run run ≡ up.mounted.store.disk = ap disk_of_device is in
    record {
      next = next;
      run_is = record {
        names = subst (λ (o : Option Entry). AreNames (names_after s.names words o) run.names) (sym last) bound;
        past = past_is ∙ made.records;
        device = subst (λ (d : Device D). IsDeviceAs known cells sector_count (s.lines + 1) (Some after) d) (sym is) up_is;
        room = subst (λ (d : Device D). HasRoom run d) (sym is) room;
        armed = subst (λ (d : D). IsArmedAs s.armed (arming d)) (sym where_it_is) (record { goes_on = goes_on; told = made.armed.told });
      };
      lines = refl;
      answers = λ here.
          answers_begun first s m actor words (Of mount place) next (Ok (beginning s m actor words made.made)) made.is_up made.going (made.begins here)
          (entry ∷ [], ended_call s m actor words made.made, works s m actor words made.made made.answer, many, ap (λ (n : ℕ). Some n) (sym at), refl);
      safe = λ here.
          subst (λ (d : D). StandsSafe first number (mounts_of next) (cells d)) (sym where_it_is)
          (broken_safe first number s m actor words made.made made.answer up.mounted.story (cells up.mounted.store.disk) told (made.safe here));
    }

-- ---- a line for whose answer there was no memory

pub made_broken : {D : Type 0} (known sure : Bool) (cells : D → List Cell) (sector_count : D → ℕ) (arming : D → Arming) (first : Table) (number : ℕ) (s : RunState) (actor : ℕ) (words : Spoken) (names : Names) (past : List MountRecord)
    (up : Up D) (run : Run D) (holds : ActorHolds) → (made : IsMadeIn known sure cells sector_count arming first number s actor words names past up)
    → run.device ≡ device.Mounted (record { mounted = up.mounted; holds = holds }) → run.past.items ≡ past → vec_len run.past < vec_capacity run.past
    → IsBroken sure cells first number s (command.Whole actor words) run
made_broken {D = D} known sure cells sector_count arming first number s actor words names past up run holds made is past_is room =
    let m : UpMount = made.before in
    let entry : Entry = entry_of actor made.made made.answer in
    let last : RunState = down_now left (broken_up s m actor words made.made made.answer) s in
    let where_it_is : disk_of_run run ≡ up.mounted.store.disk = ap disk_of_device is in
    record {
      last = last;
      tells = record {
        records = ap (records_with run.past.items) is ∙ ap (λ (l : List MountRecord). l ++ up.mounted.story ∷ []) past_is
            ∙ broken_records s m actor words made.made made.answer past up.mounted.story made.records made.story;
        room = subst (λ (d : Device D). HasRoom run d) (sym is) room;
      };
      breaks = λ here.
          inr (breaks_begun first s m actor words (beginning s m actor words made.made) last made.is_up made.going (made.begins here)
          (entry ∷ [], ended_call s m actor words made.made, works s m actor words made.made made.answer, refl));
      safe = λ here.
          subst (λ (d : D). StandsSafe first number (mounts_of last) (cells d)) (sym where_it_is)
          (broken_safe first number s m actor words made.made made.answer up.mounted.story (cells up.mounted.store.disk) made.story (made.safe here));
    }

-- ---- a line that is refused

pub refused_line : {D : Type 0} (known sure : Bool) (cells : D → List Cell) (sector_count : D → ℕ) (arming : D → Arming) (first : Table) (number : ℕ) (s : RunState) (m : UpMount) (actor : ℕ) (words : Spoken) (refusal : LineReply) (run : Run D)
    → IsRun known cells sector_count arming s run → s.up ≡ Some m → m.going ≡ [] → (IsTrue sure → begun s m actor words None ≡ Err refusal) → StandsWhereKnown sure first number s (cells (disk_of_run run))
    → IsAnswer known sure cells sector_count arming first number s (command.Whole actor words) (line_said refusal) run
refused_line known sure cells sector_count arming first number s m actor words refusal run is up going begins stands = record {
  next = next_line s;
  run_is = next_run known cells sector_count arming s run is;
  lines = refl;
  answers = λ here. answers_begun first s m actor words (line_said refusal) (next_line s) (Err refusal) up going (begins here) (refl, refl);
  safe = stands;
}

-- no mount is up
pub unmounted_line : {D : Type 0} (known sure : Bool) (cells : D → List Cell) (sector_count : D → ℕ) (arming : D → Arming) (first : Table) (number : ℕ) (s : RunState) (actor : ℕ) (words : Spoken) (run : Run D)
    → IsRun known cells sector_count arming s run → s.up ≡ None → StandsWhereKnown sure first number s (cells (disk_of_run run))
    → IsAnswer known sure cells sector_count arming first number s (command.Whole actor words) (line_said line.NotMounted) run
unmounted_line known sure cells sector_count arming first number s actor words run is down stands = record {
  next = next_line s;
  run_is = next_run known cells sector_count arming s run is;
  lines = refl;
  answers = λ here.
      subst (λ (o : Option UpMount). MatchOption o (OnlySays line.NotMounted s (line_said line.NotMounted) (next_line s))
      (λ (up : UpMount). MatchResult (begun s up actor words (going_of actor up.going)) (λ made. RunsCall s up made (line_said line.NotMounted) (next_line s))
      (λ refusal. OnlySays refusal s (line_said line.NotMounted) (next_line s)))) (sym down) (refl, refl);
  safe = stands;
}

-- ---- the call behind call_on

pub is_made : {D : Type 0} (known sure : Bool) (cells : D → List Cell) (sector_count fault_count : D → ℕ) (arming : D → Arming) (first : Table) (number : ℕ) (s : RunState) (m : UpMount) (actor : ℕ) (words : Spoken) (made : Call)
    (names : Names) (past : List MountRecord) (up : Up D) (new : Mounted D) → AreNames s.names names → past ≡ records_of s.past → s.up ≡ Some m → IsUpAs known cells sector_count s.lines m up
    → IsArmedAs s.armed (arming up.mounted.store.disk) → IsWholeCall made → (IsTrue sure → begun s m actor words None ≡ Ok (beginning s m actor words made))
    → IsCalled known cells sector_count fault_count m.start (table_now m) actor made up.mounted new → IsAfterWrites (arming up.mounted.store.disk) (arming new.store.disk)
    → (IsTrue sure → StandsBehind first number s.past left m.start new.story (cells new.store.disk))
    → IsMadeIn known sure cells sector_count arming first number s actor words names past (record { mounted = new; holds = up.holds })
is_made known sure cells sector_count fault_count arming first number s m actor words made names past up new bound records is stand armed whole begins called after safe = record {
  before = m;
  is_up = is;
  going = stand.going;
  bound = bound;
  records = records;
  holds = stand.holds;
  unheld = stand.unheld;
  base = stand.number;
  few = stand.few;
  made = made;
  whole = whole;
  begins = begins;
  answer = called.answer;
  story = called.story ∙ ap (λ (x : MountRecord). with_call x actor made called.answer) (sym stand.story);
  running = called.running;
  armed = armed_behind s.armed (arming up.mounted.store.disk) (arming new.store.disk) armed after;
  safe = safe;
}

pub uncalled_broken : {D : Type 0} (known sure : Bool) (cells : D → List Cell) (sector_count : D → ℕ) (arming : D → Arming) (first : Table) (number : ℕ) (s : RunState) (m : UpMount) (actor : ℕ) (words : Spoken)
    (up : Up D) (run : Run D) (new : Mounted D) → s.up ≡ Some m → run.past.items ≡ records_of s.past → IsUpAs known cells sector_count s.lines m up
    → IsUncalled known cells sector_count m.start (table_now m) up.mounted new → run.device ≡ device.Mounted (record { mounted = new; holds = up.holds }) → vec_len run.past < vec_capacity run.past
    → StandsWhereKnown sure first number s (cells up.mounted.store.disk) → IsBroken sure cells first number s (command.Whole actor words) run
uncalled_broken {D = D} known sure cells sector_count arming first number s m actor words up run new is records stand uncalled now room stands = record {
  last = s;
  tells = record {
    records = ap (records_with run.past.items) now ∙ tells_up known cells sector_count s.lines s m run.past.items up new.story is records stand uncalled.story;
    room = subst (λ (d : Device D). HasRoom run d) (sym now) room;
  };
  breaks = λ here. inl refl;
  safe = λ here. subst (λ (d : D). StandsSafe first number (mounts_of s) (cells d)) (sym (ap disk_of_device now ∙ uncalled.in_core.disk)) (stands here);
}

-- ---- the groups of the mount

-- the run's definitions count the groups of the table from which the mount began
pub groups_are : {D : Type 0} (cells : D → List Cell) (sector_count : D → ℕ) (known : Bool) (start t : Table) (m : Mounted D) → IsTrue known → IsRunning known cells sector_count start t m
    → length start.groups ≡ m.geometry.groups
groups_are cells sector_count known start t m here run =
    let log = run.parts.log in
    sym (first_count start m.story.entries log.durable) ∙ (log.base here).encodes.can.groups

-- a call that is taken as a whole opens and closes nothing
pub steady_call : (made : Call) (answer : Reply) → IsWholeCall made → IsSteady (Called made answer)
steady_call (call.Create group) answer whole = tt
steady_call (call.Tmpfile group) answer whole = tt
steady_call (call.Link key) answer whole = tt
steady_call (call.Unlink key) answer whole = tt
steady_call (call.Grow key count) answer whole = tt
steady_call (call.Cut key count) answer whole = tt
steady_call (call.Stat key) answer whole = tt
steady_call call.Sync answer whole = tt
steady_call call.Home answer whole = tt
steady_call _ answer whole = absurd whole

-- changes are some of the entries
few_changes : (entries : List Entry) → length (changes entries) ≤ length entries
few_changes entries =
    let many = length-filter (λ (entry : Entry). is_change entry.event) entries in
    let few = count_by-le-length (λ (entry : Entry). is_change entry.event) entries in
    omega (arith, many, few)

pub no_more_records : (past : List MountRecord) (story : MountRecord) → past ++ story ∷ [] ≡ [] → ⊥
no_more_records [] story e = cc
no_more_records (x ∷ past) story e = cc

-- ---- room for the call

-- the number of the next change is within its limit
pub within : (story : MountRecord) (lines : ℕ) → story.base < MOUNT_LIMIT → length story.entries ≤ MAX_NUMBERS + lines → lines < MAX_SCRIPT_BYTES
    → story.base + changes_made story < 18446744073709551615
within story lines base few less = omega (arith, few_changes story.entries)

pub same_reply : (a b : LineReply) → line_said a ≡ line_said b → a ≡ b
same_reply a b e = cc

-- a record with a call has an entry
pub one_entry : (story new : MountRecord) (actor : ℕ) (made : Call) (answer : Reply) → new ≡ with_call story actor made answer → 1 ≤ length new.entries
one_entry story new actor made answer is =
    let size : length new.entries ≡ length story.entries + 1 = ap (λ (x : MountRecord). length x.entries) is ∙ length-append story.entries (entry_of actor made answer ∷ []) in
    omega arith
