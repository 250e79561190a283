-- What a mount line comes to whose mount came up.
use Rattle.std.proofs.Common.{Vec, Global, ◌≡◌, ◌∙◌, ◌<◌, ◌≤◌, ◌+◌, ℕ, Bool, true, false, List, [], ◌∷◌, ◌++◌, length, refl, sym, ap, subst, inr, arith}
use Rattle.std.specs.Prelude.{IsTrue, MatchOption, Option, None, vec_len, vec_capacity, is_some}
use Rattle.std.proofs.lemmas.Bool.{false≢true}
use Rattle.std.proofs.lemmas.List.{length-map, map-append}
use Rattle.life_limits.specs.declared.TheConstants.{MAX_ACTORS, MAX_NUMBERS}
use Rattle.disk_model.specs.Disk.{Arming, Cell, Stopping}
use Rattle.life_table.specs.declared.key.Key.{Key}
use Rattle.life_table.specs.declared.types.Event.TheVariants.{Freed}
use Rattle.life_table.specs.declared.types.Entry.{Entry}
use Rattle.life_table.specs.declared.types.MountRecord.{MountRecord}
use Rattle.life_table.specs.declared.table.Table.{Table}
use Rattle.life_table.specs.History.{closed, frees_of, recovered}
use Rattle.mount.specs.declared.mounted.Mounted.{Mounted}
use Rattle.script.specs.declared.types.Command.TheVariants as command
use Rattle.script.specs.declared.answers.LineReply.TheVariants as line
use Rattle.script.specs.declared.answers.Said.{Said}
use Rattle.run_history.specs.Answers.{AnswersLine, AnswersMount, IsFresh, OnlySays, line_said}
use Rattle.run_history.specs.Mounts.{MountStory, left, never_up, start_behind}
use Rattle.run_history.specs.States.{RunState, UpMount, disarmed, down_now, ends_as, up_now}
use Rattle.mounted_calls.specs.Running.{IsRunning}
use Rattle.actor_holds.specs.Holds.{AreHolds, AreSteady}
use Rattle.script_runs.specs.Mounting.{CameUp, IsIdle}
use Rattle.script_runs.specs.Running.{IsAnswer, records_of}
use Rattle.run_mounts.specs.Safe.{IsUpBehind, StandsBehind, StandsSafe}
use Rattle.script_runs.specs.declared.running.Device.TheVariants as device
use Rattle.script_runs.proofs.Freed.{frees_are_held, frees_are_steady, leads_after}

-- ---- where no mount is up

-- an answer of a mount line then is one of the line
pub answers_idle : (first : Table) (s : RunState) (said : Said) (next : RunState) → s.up ≡ None → AnswersMount first s said next → AnswersLine first s command.Mount said next
answers_idle first s said next none answers =
    subst (λ (u : Option UpMount). MatchOption u (AnswersMount first s said next) (λ up. OnlySays line.AlreadyMounted s said next)) (sym none) answers

-- the records with one more
pub records_more : (past : List MountStory) (m : MountStory) (items : List MountRecord) → items ≡ records_of past → items ++ m.story ∷ [] ≡ records_of (past ++ m ∷ [])
records_more past m items are =
    ap (λ (r : List MountRecord). r ++ m.story ∷ []) are ∙ sym (map-append (λ (x : MountStory). x.story) past (m ∷ []))

-- ---- it came up

-- the table from which it began: where it is sure that the run stood safe, that behind the mounts before
record Begins {D : Type 0} (known sure : Bool) (cells : D → List Cell) (sector_count : D → ℕ) (first : Table) (number : ℕ) (past : List MountStory) (m : Mounted D) : Type 0 where
  start : Table
  unheld : closed start ≡ start
  running : IsRunning known cells sector_count start (recovered start) m
  starts : IsTrue sure → start ≡ start_behind first past m.story.kept
  safe : IsTrue sure → StandsBehind first number past left start m.story (cells m.store.disk)

begins : {D : Type 0} (known sure : Bool) (cells : D → List Cell) (sector_count : D → ℕ) (first : Table) (number : ℕ) (past : List MountStory) (m : Mounted D)
    → (IsTrue sure → IsUpBehind known cells sector_count first number past m) → ((start : Table) × (closed start ≡ start) × IsRunning known cells sector_count start (recovered start) m)
    → Begins known sure cells sector_count first number past m
begins known true cells sector_count first number past m up running =
    let is = up refl in record { start = is.start; unheld = is.unheld; running = is.running; starts = λ told. is.starts; safe = λ told. is.safe }
begins known false cells sector_count first number past m up running = record { start = running.0; unheld = running.1; running = running.2; starts = λ told. absurd (false≢true told); safe = λ told. absurd (false≢true told) }

few_entries : (lines freed : ℕ) (entries : List Entry) (keys : List Key) → entries ≡ frees_of MAX_ACTORS keys → freed ≡ length keys → freed ≤ MAX_NUMBERS → length entries ≤ MAX_NUMBERS + lines
few_entries lines freed entries keys are count few =
    let e : length entries ≡ length keys = ap length are ∙ length-map keys (λ (key : Key). record { actor = MAX_ACTORS; event = Freed key }) in
    omega (arith, e, count, few)

-- The mount is up.
pub comes_up : {D : Type 0} (known sure : Bool) (cells : D → List Cell) (sector_count : D → ℕ) (arming : D → Arming) (first : Table) (number : ℕ) (s : RunState) (m : Mounted D)
    (names : List (List ℕ × Key)) (past : Vec MountRecord Global) (holds : List (ℕ × ℕ × ℕ)) (answer : Bool) → IsIdle s names past.items → CameUp known sure cells sector_count arming first number s m
    → AreHolds [] holds → answer ≡ (arming m.store.disk).stopped → answer ≡ false → vec_len past < vec_capacity past
    → IsAnswer known sure cells sector_count arming first number s command.Mount (line_said (line.Mounted m.story.kept m.story.freed))
    (record { names = names; past = past; device = device.Mounted (record { mounted = m; holds = holds }) })
comes_up known sure cells sector_count arming first number s m names past holds answer idle came none asked goes_on room =
    let z = begins known sure cells sector_count first number s.past m came.behind came.running in
    let fresh : IsFresh m.story = came.fresh.0 in
    let told = z.running.parts.told in
    let up : UpMount = record { start = z.start; story = m.story; going = [] } in
    let next : RunState = up_now up s in
    let same : ends_as left up ≡ record { start = z.start; story = m.story; ending = left } =
    ap (λ (n : ℕ). record { start = z.start; story = record m.story { acknowledged = n }; ending = left }) (sym told.acknowledged) in
    record {
      next = next;
      run_is = record {
        names = idle.bound;
        past = idle.records;
        device = record {
          story = refl;
          going = refl;
          unheld = z.unheld;
          running = subst (λ (t : Table). IsRunning known cells sector_count z.start t m) (sym (leads_after z.start (recovered z.start) m.story.entries told.legal.leads)) z.running;
          holds = subst (λ (entries : List Entry). AreHolds entries holds) (sym fresh.entries) (frees_are_held MAX_ACTORS fresh.keys holds none);
          steady = subst AreSteady (sym fresh.entries) (frees_are_steady MAX_ACTORS fresh.keys);
          number = came.base;
          few = few_entries (s.lines + 1) m.story.freed m.story.entries fresh.keys fresh.entries fresh.freed came.few;
        };
        room = room;
        armed = record { goes_on = sym asked ∙ goes_on; told = came.behind_writes.told };
      };
      lines = refl;
      answers = λ known_is. answers_idle first s (line_said (line.Mounted m.story.kept m.story.freed)) next idle.down (
        m.story,
        fresh,
        refl,
        refl,
        came.fresh.1,
        ap (λ (t : Table). up_now (record { start = t; story = m.story; going = [] }) s) (z.starts known_is),
      );
      safe = λ known_is. subst (λ (x : MountStory). StandsSafe first number (s.past ++ x ∷ []) (cells m.store.disk)) (sym same) (z.safe known_is);
    }

-- ---- the armed write came meanwhile

-- a mount that had only freed rows, cut off
abbrev pub NeverUpLaw : Type 0
NeverUpLaw = (first : Table) (number : ℕ) (past : List MountStory) (start : Table) (story : MountRecord) (acknowledged : ℕ) (cells : List Cell) → IsFresh story
    → StandsBehind first number past left start story cells → StandsBehind first number past never_up start (record story { acknowledged = acknowledged }) cells

pub cut_off : {D : Type 0} → NeverUpLaw → (known sure : Bool) (cells : D → List Cell) (sector_count : D → ℕ) (arming : D → Arming) (first : Table) (number : ℕ) (s : RunState) (m : Mounted D)
    (names : List (List ℕ × Key)) (old : List MountRecord) (past : Vec MountRecord Global) (pushed : MountRecord) (taken disk : D) (answer : Bool) → IsIdle s names old
    → CameUp known sure cells sector_count arming first number s m → answer ≡ (arming m.store.disk).stopped → answer ≡ true → pushed ≡ record m.story { acknowledged = 0 }
    → past.items ≡ old ++ pushed ∷ [] → taken ≡ m.store.disk → cells disk ≡ cells taken → (arming disk).stopped ≡ false → (arming disk).armed ≡ None
    → IsAnswer known sure cells sector_count arming first number s command.Mount (line_said line.Stopped) (record { names = names; past = past; device = device.Idle disk })
cut_off law known sure cells sector_count arming first number s m names old past pushed taken disk answer idle came asked stopped unacknowledged items inside same goes_on unarmed =
    let start : Table = start_behind first s.past m.story.kept in
    let up : UpMount = record { start = start; story = m.story; going = [] } in
    let next : RunState = down_now never_up up (disarmed s) in
    record {
      next = next;
      run_is = record {
        names = idle.bound;
        past = items ∙ ap (λ (r : MountRecord). old ++ r ∷ []) unacknowledged ∙ records_more s.past (ends_as never_up up) old idle.records;
        device = tt;
        room = tt;
        armed = record { goes_on = goes_on; told = ap (λ (o : Option Stopping). is_some o) unarmed };
      };
      lines = refl;
      answers = λ told. answers_idle first s (line_said line.Stopped) next idle.down (came.behind_writes.stopped (sym asked ∙ stopped), inr (m.story, came.fresh.0, refl));
      safe = λ told.
          let is = came.behind told in
          subst (StandsSafe first number (s.past ++ ends_as never_up up ∷ [])) (sym (same ∙ ap cells inside))
          (law first number s.past start m.story 0 (cells m.store.disk) came.fresh.0
          (subst (λ (t : Table). StandsBehind first number s.past left t m.story (cells m.store.disk)) is.starts is.safe));
    }
