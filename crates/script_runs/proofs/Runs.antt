-- A run that has come so far, and one that is over.
use Rattle.std.proofs.Common.{◌≡◌, ◌⊎◌, ◌∙◌, ◌<◌, ◌≤◌, ◌+◌, ℕ, zero, suc, Bool, false, List, [], ◌∷◌, ◌++◌, length, refl, sym, ap, subst, inl, inr, arith, length-append}
use Rattle.std.specs.Prelude.{IsTrue, Option, None, Some, slice_get, is_some}
use Rattle.std.proofs.lemmas.Bool.{false≢true}
use Rattle.std.proofs.lemmas.Option.{slice_get-get_or, slice_get_within}
use Rattle.std.specs.Prelude.{get_or}
use Rattle.life_limits.specs.declared.TheConstants.{MAX_SCRIPT_BYTES}
use Rattle.life_bytes.specs.declared.sector.Sector.{Sector}
use Rattle.disk_model.specs.Disk.{Arming, Cell, IsImage, settled_as, Stopping}
use Rattle.disk_model.specs.DiskLaws.{IsImage-settled_as}
use Rattle.life_table.specs.declared.types.MountRecord.{MountRecord}
use Rattle.life_table.specs.declared.table.Table.{Table}
use Rattle.whole_image.specs.Damage.{IsSound}
use Rattle.whole_image.specs.Represents.{Represents}
use Rattle.script.specs.declared.types.Command.TheVariants as command
use Rattle.script.specs.declared.types.Line.{Line}
use Rattle.script.specs.declared.answers.LineReply.TheVariants as line
use Rattle.script.specs.declared.answers.Said.{Said}
use Rattle.script.specs.declared.status.Status.{Status}
use Rattle.script.specs.declared.status.Status.TheVariants as status
use Rattle.run_history.specs.Answers.{AnswersLine, line_said}
use Rattle.run_history.specs.CrashSafe.{CrashSafe}
use Rattle.run_history.specs.FirstImage.{FitsFirstImage}
use Rattle.run_history.specs.Headline.{EndsRun, Headline, Replies}
use Rattle.run_history.specs.Linear.{AreBetween}
use Rattle.run_history.specs.Mounts.{MountStory}
use Rattle.run_history.specs.Progress.{HasCome}
use Rattle.run_history.specs.States.{RunState, UpMount, calls_of, mounts_of, run_begins, with_up}
use Rattle.run_mounts.specs.Safe.{StandsSafe}
use Rattle.script_names.specs.Bindings.{AreNames}
use Rattle.script_runs.specs.Running.{ComesTo, HasRoom, IsAnswer, IsDeviceAs, IsRun, IsUntouched, SaysNoDamage, SaysOfUntouched, StandsWhereKnown, StaysUntouched, disk_of_device, disk_of_run, records_of, records_with, run_of}
use Rattle.script_runs.specs.declared.running.Comes.{Comes}
use Rattle.script_runs.specs.declared.running.Comes.TheVariants.{Answered, Unanswered}
use Rattle.script_runs.specs.declared.running.Device.{Device}
use Rattle.script_runs.specs.declared.running.Device.TheVariants as device
use Rattle.script_runs.specs.declared.running.Run.{Run}
use Rattle.script_runs.proofs.Made.{none_up, tells_up, up_mount}

-- ---- so far

-- The first lines have these answers; where it was sure that the run stood safe as it began, they are answered right, and it still does.
pub record IsCome {D : Type 0} (known sure : Bool) (cells : D → List Cell) (sector_count : D → ℕ) (arming : D → Arming) (first : Table) (number : ℕ) (lines : List Line) (said : List Said) (run : Run D) : Type 0 where
  pub s : RunState
  pub run_is : IsRun known cells sector_count arming s run
  pub count : s.lines ≡ length said
  pub come : IsTrue sure → HasCome first lines said s
  pub safe : StandsWhereKnown sure first number s (cells (disk_of_run run))

-- what the answers say of a first image of which no mount was begun
abbrev pub SaySoFar : List Sector → List Line → List Said → Type 0
SaySoFar before lines said = (i : ℕ) (asked : Line) (one : Said) → slice_get lines i ≡ Some asked → slice_get said i ≡ Some one → SaysOfUntouched before asked.command one

abbrev pub SayNoDamage : List Said → Type 0
SayNoDamage said = (i rule sector : ℕ) → slice_get said i ≡ Some (line_said (line.Damaged rule sector)) → ⊥

-- where it is sure that the run stands safe as it begins
abbrev pub BeginsSafe : Bool → Table → ℕ → List Cell → Type 0
BeginsSafe sure first number cells = IsTrue sure → StandsSafe first number [] cells

pub record RunsSoFar {D : Type 0} (known : Bool) (cells : D → List Cell) (sector_count fault_count : D → ℕ) (arming : D → Arming) (lines : List Line) (old : D) (said : List Said) (run : Run D) : Type 0 where
  pub come : (sure : Bool) → (IsTrue sure → IsTrue known) → (first : Table) (number : ℕ) → BeginsSafe sure first number (cells old)
      → IsCome known sure cells sector_count arming first number lines said run
  pub untouched : IsTrue known → (before : List Sector) → cells old ≡ settled_as before → IsSound before ⊎ (IsUntouched cells before run × SaySoFar before lines said)
  pub no_damage : IsTrue known → (first : Table) (number : ℕ) → StandsSafe first number [] (cells old) → SayNoDamage said
  pub count : fault_count old ≤ fault_count (disk_of_run run)

-- ---- before the first line

abbrev no-said : List Said
no-said = []

none-at : (i : ℕ) (one : Said) → slice_get no-said i ≡ Some one → ⊥
none-at i one at = let low = slice_get_within no-said i one at in absurd (omega (arith, low))

pub begins : {D : Type 0} (known : Bool) (cells : D → List Cell) (sector_count fault_count : D → ℕ) (arming : D → Arming) (lines : List Line) (old : D) (said : List Said) (run : Run D)
    → ((first : Table) (lines : List Line) → HasCome first lines [] run_begins) → said ≡ [] → AreNames [] run.names → run.past.items ≡ [] → run.device ≡ device.Idle old
    → (arming old).stopped ≡ false → (arming old).armed ≡ None → RunsSoFar known cells sector_count fault_count arming lines old said run
begins {D = D} known cells sector_count fault_count arming lines old said run come none names past idle goes_on unarmed =
    let same : disk_of_run run ≡ old = ap disk_of_device idle in
    record {
      come = λ sure tells first number safe. record {
        s = run_begins;
        run_is = record {
          names = names;
          past = past;
          device = subst (λ (d : Device D). IsDeviceAs known cells sector_count 0 None d) (sym idle) tt;
          room = subst (HasRoom run) (sym idle) tt;
          armed = record { goes_on = ap (λ (x : D). (arming x).stopped) same ∙ goes_on; told = ap (λ (x : D). is_some (arming x).armed) same ∙ ap (λ (o : Option Stopping). is_some o) unarmed };
        };
        count = sym (ap length none);
        come = λ told. subst (λ (l : List Said). HasCome first lines l run_begins) (sym none) (come first lines);
        safe = λ told. subst (StandsSafe first number []) (ap cells (sym same)) (safe told);
      };
      untouched = λ told before is. inr (
        record {
          none = ap (λ (d : Device D). records_with run.past.items d) idle ∙ past;
          left = λ image at. IsImage-settled_as before image (subst (λ (c : List Cell). IsImage c image) (ap cells same ∙ is) at);
        },
        λ i asked one at said_at. absurd (none-at i one (subst (λ (l : List Said). slice_get l i ≡ Some one) none said_at)),
      );
      no_damage = λ told first number safe i rule sector at. none-at i (line_said (line.Damaged rule sector)) (subst (λ (l : List Said). slice_get l i ≡ Some (line_said (line.Damaged rule sector))) none at);
      count = let e = ap fault_count same in omega (arith, e);
    }

-- ---- one line more

-- an answer of a list with one more is one of the list, or the last one
said-more : (said : List Said) (one other : Said) (i : ℕ) → slice_get (said ++ one ∷ []) i ≡ Some other → ((i < length said) × (slice_get said i ≡ Some other)) ⊎ ((i ≡ length said) × (one ≡ other))
said-more [] one other zero is = let e : one ≡ other = cc in inr (refl, e)
said-more [] one other (suc i) is = absurd cc
said-more (first ∷ said) one other zero is = inl (omega arith, is)
said-more (first ∷ said) one other (suc i) is =
    elim (said-more said one other i is) [
      | inl here ↦ let low = here.0 in inl (omega (arith, low), here.1)
      | inr last ↦ let low = last.0 in inr (omega (arith, low), last.1)
    ]

abbrev GoesOnLaw : Type 0
GoesOnLaw = (first : Table) (lines : List Line) (said : List Said) (s : RunState) (asked : Line) (one : Said) (next : RunState) → HasCome first lines said s
    → slice_get lines (length said) ≡ Some asked → AnswersLine first s asked.command one next → HasCome first lines (said ++ one ∷ []) next

-- what a line's function says of it
pub record LineClauses {D : Type 0} (known : Bool) (cells : D → List Cell) (sector_count fault_count : D → ℕ) (arming : D → Arming) (asked : Line) (run : Run D) (comes : Comes D) : Type 0 where
  pub runs : (sure : Bool) → (IsTrue sure → IsTrue known) → (first : Table) (number : ℕ) (s : RunState) → IsRun known cells sector_count arming s run → s.lines < MAX_SCRIPT_BYTES
      → StandsWhereKnown sure first number s (cells (disk_of_run run)) → ComesTo known sure cells sector_count arming first number s asked.command comes
  pub untouched : IsTrue known → (before : List Sector) → IsUntouched cells before run → StaysUntouched cells before asked.command comes
  pub sound : IsTrue known → (first : Table) (number : ℕ) (mounts : List MountStory) → StandsSafe first number mounts (cells (disk_of_run run)) → SaysNoDamage comes
  pub count : fault_count (disk_of_run run) ≤ fault_count (disk_of_run (run_of comes))

-- the next line was answered
come-more : {D : Type 0} (known sure : Bool) (cells : D → List Cell) (sector_count : D → ℕ) (arming : D → Arming) (first : Table) (number : ℕ) (lines : List Line) (said : List Said) (run next : Run D) (asked : Line) (one : Said)
    → GoesOnLaw → slice_get lines (length said) ≡ Some asked → (come : IsCome known sure cells sector_count arming first number lines said run)
    → IsAnswer known sure cells sector_count arming first number come.s asked.command one next → IsCome known sure cells sector_count arming first number lines (said ++ one ∷ []) next
come-more known sure cells sector_count arming first number lines said run next asked one law at come answer = record {
  s = answer.next;
  run_is = answer.run_is;
  count = answer.lines ∙ ap (λ (n : ℕ). n + 1) come.count ∙ sym (length-append said (one ∷ []));
  come = λ told. law first lines said come.s asked one answer.next (come.come told) at (answer.answers told);
  safe = answer.safe;
}

pub goes-on : {D : Type 0} (known : Bool) (cells : D → List Cell) (sector_count fault_count : D → ℕ) (arming : D → Arming) (lines : List Line) (old : D) (said : List Said) (run next : Run D) (asked : Line) (one : Said)
    → GoesOnLaw → length lines ≤ MAX_SCRIPT_BYTES → slice_get lines (length said) ≡ Some asked → RunsSoFar known cells sector_count fault_count arming lines old said run
    → LineClauses known cells sector_count fault_count arming asked run (Answered next one) → RunsSoFar known cells sector_count fault_count arming lines old (said ++ one ∷ []) next
goes-on known cells sector_count fault_count arming lines old said run next asked one law few at so clauses =
    let low = slice_get_within lines (length said) asked at in
    record {
      come = λ sure tells first number safe.
          let come = so.come sure tells first number safe in
          let size = come.count in
          come-more known sure cells sector_count arming first number lines said run next asked one law at come
          (clauses.runs sure tells first number come.s come.run_is (omega (arith, low, few, size)) come.safe);
      untouched = λ told before is.
          elim (so.untouched told before is) [
            | inl sound ↦ inl sound
            | inr here ↦ elim (clauses.untouched told before here.0) [
              | inl sound ↦ inl sound
              | inr stays ↦ inr (
                stays.0,
                λ i other answer line_at said_at. elim (said-more said one answer i said_at) [
                  | inl earlier ↦ here.1 i other answer line_at earlier.1
                  | inr last ↦
                      let same : Some asked ≡ Some other = sym at ∙ ap (slice_get lines) (sym last.0) ∙ line_at in
                      let line_is : asked ≡ other = cc in
                      subst (λ (l : Line). SaysOfUntouched before l.command answer) line_is (subst (SaysOfUntouched before asked.command) last.1 stays.1)
                ],
              )
            ]
          ];
      no_damage = λ told first number safe i rule sector said_at.
          let come = so.come known (λ e. e) first number (λ e. safe) in
          let none = clauses.sound told first number (mounts_of come.s) (come.safe told) in
          elim (said-more said one (line_said (line.Damaged rule sector)) i said_at) [
            | inl earlier ↦ so.no_damage told first number safe i rule sector earlier.1
            | inr last ↦ none rule sector last.1
          ];
      count = let a = so.count in let b = clauses.count in omega (arith, a, b);
    }

-- ---- the end

-- what is recorded of a run that stands so
pub tells-run : {D : Type 0} (known : Bool) (cells : D → List Cell) (sector_count : D → ℕ) (arming : D → Arming) (s : RunState) (run : Run D) (d : Device D) → run.device ≡ d → IsRun known cells sector_count arming s run
    → records_with run.past.items d ≡ records_of (mounts_of s)
tells-run known cells sector_count arming s run (device.Idle disk) at is =
    let none = none_up known cells sector_count s.lines s.up disk (subst (λ d. IsDeviceAs known cells sector_count s.lines s.up d) at is.device) in
    is.past ∙ ap (λ (o : Option UpMount). records_of (with_up s.past o)) (sym none)
tells-run known cells sector_count arming s run (device.Mounted up) at is =
    let m = up_mount known cells sector_count s.lines s.up up (subst (λ d. IsDeviceAs known cells sector_count s.lines s.up d) at is.device) in
    tells_up known cells sector_count s.lines s m.0 run.past.items up up.mounted.story m.1 is.past m.2 refl

-- a run that is over
pub record IsOver (known : Bool) (lines : List Line) (old new : List Cell) (ended : Status) (said : List Said) (mounts : List MountRecord) : Type 0 where
  pub few : length said ≤ length lines
  pub come : IsTrue known → (first : Table) (number : ℕ) → StandsSafe first number [] old
      → (last : RunState) × Replies first lines ended said mounts last × StandsSafe first number (mounts_of last) new
  pub untouched : IsTrue known → (before : List Sector) → old ≡ settled_as before
      → IsSound before ⊎ ((mounts ≡ []) × ((image : List Sector) → IsImage new image → image ≡ before) × SaySoFar before lines said)
  pub no_damage : IsTrue known → (first : Table) (number : ℕ) → StandsSafe first number [] old → SayNoDamage said

-- the count of lines
pub few-lines : {D : Type 0} (known : Bool) (cells : D → List Cell) (sector_count fault_count : D → ℕ) (arming : D → Arming) (lines : List Line) (old : D) (said : List Said) (run : Run D) (count : ℕ)
    → RunsSoFar known cells sector_count fault_count arming lines old said run → length said ≡ count → count ≤ length lines → length said ≤ length lines
few-lines known cells sector_count fault_count arming lines old said run count so same low = omega (arith, same, low)

-- it ended between two lines
pub over-at : {D : Type 0} (known : Bool) (cells : D → List Cell) (sector_count fault_count : D → ℕ) (arming : D → Arming) (lines : List Line) (old : D) (said : List Said) (run : Run D) (ended : Status)
    → length said ≤ length lines → ((first : Table) (s : RunState) → EndsRun first lines said s ended s) → RunsSoFar known cells sector_count fault_count arming lines old said run
    → IsOver known lines (cells old) (cells (disk_of_run run)) ended said (records_with run.past.items run.device)
over-at known cells sector_count fault_count arming lines old said run ended few ends so = record {
  few = few;
  come = λ told first number safe.
      let come = so.come known (λ e. e) first number (λ e. safe) in (
        come.s,
        record { answered = come.s; answers = (come.come told).answers; ends = ends first come.s; records = tells-run known cells sector_count arming come.s run run.device refl come.run_is },
        come.safe told,
      );
  untouched = λ told before is.
      elim (so.untouched told before is) [
        | inl sound ↦ inl sound
        | inr here ↦ inr (here.0.none, here.0.left, here.1)
      ];
  no_damage = so.no_damage;
}

-- the last line was broken off
pub over-within : {D : Type 0} (known : Bool) (cells : D → List Cell) (sector_count fault_count : D → ℕ) (arming : D → Arming) (lines : List Line) (old : D) (said : List Said) (run broken : Run D) (asked : Line)
    → length lines ≤ MAX_SCRIPT_BYTES → slice_get lines (length said) ≡ Some asked → RunsSoFar known cells sector_count fault_count arming lines old said run
    → LineClauses known cells sector_count fault_count arming asked run (Unanswered broken)
    → IsOver known lines (cells old) (cells (disk_of_run broken)) status.NoMemory said (records_with broken.past.items broken.device)
over-within known cells sector_count fault_count arming lines old said run broken asked few at so clauses =
    let low = slice_get_within lines (length said) asked at in
    record {
      few = omega (arith, low);
      come = λ told first number safe.
          let come = so.come known (λ e. e) first number (λ e. safe) in
          let size = come.count in
          let break = clauses.runs known (λ e. e) first number come.s come.run_is (omega (arith, low, few, size)) come.safe in (
            break.last,
            record {
              answered = come.s;
              answers = (come.come told).answers;
              ends = (
                omega (arith, low),
                elim (break.breaks told) [
                  | inl same ↦ inl same
                  | inr off ↦ inr (asked, at, off)
                ],
              );
              records = break.tells.records;
            },
            break.safe told,
          );
      untouched = λ told before is.
          elim (so.untouched told before is) [
            | inl sound ↦ inl sound
            | inr here ↦ elim (clauses.untouched told before here.0) [
              | inl sound ↦ inl sound
              | inr stays ↦ inr (stays.none, stays.left, here.1)
            ]
          ];
      no_damage = so.no_damage;
    }

-- room for what is handed back
pub room-broken : {D : Type 0} (known : Bool) (cells : D → List Cell) (sector_count fault_count : D → ℕ) (arming : D → Arming) (lines : List Line) (old : D) (said : List Said) (run broken : Run D) (asked : Line) (t : Table)
    → length lines ≤ MAX_SCRIPT_BYTES → slice_get lines (length said) ≡ Some asked → RunsSoFar known cells sector_count fault_count arming lines old said run
    → LineClauses known cells sector_count fault_count arming asked run (Unanswered broken) → HasRoom broken broken.device
room-broken known cells sector_count fault_count arming lines old said run broken asked t few at so clauses =
    let low = slice_get_within lines (length said) asked at in
    let come = so.come false (λ e. absurd (false≢true e)) t 0 (λ e. absurd (false≢true e)) in
    let size = come.count in
    (clauses.runs false (λ e. absurd (false≢true e)) t 0 come.s come.run_is (omega (arith, low, few, size)) come.safe).tells.room

-- ---- what is told of it

abbrev pub CrashSafeLaw : Type 0
CrashSafeLaw = (image : List Sector) (first : Table) (number : ℕ) → Represents image first number → StandsSafe first number [] (settled_as image)

pub headline-of : CrashSafeLaw → ((image : List Sector) → IsSound image → (t : Table) × (c : ℕ) × Represents image t c)
    → ((first : Table) (lines : List Line) (ended : Status) (said : List Said) (mounts : List MountRecord) (last : RunState) → Replies first lines ended said mounts last → AreBetween (calls_of last))
    → (known : Bool) (lines : List Line) (old new : List Cell) (ended : Status) (said : List Said) (mounts : List MountRecord) → IsOver known lines old new ended said mounts
    → IsTrue known → (before : List Sector) → old ≡ settled_as before → IsSound before → Headline before lines ended said mounts new
headline-of law represents between known lines old new ended said mounts over told before is sound =
    let r = represents before sound in
    let safe : StandsSafe r.0 r.1 [] old = subst (StandsSafe r.0 r.1 []) (sym is) (law before r.0 r.1 r.2) in
    let come = over.come told r.0 r.1 safe in
    record {
      first = r.0;
      number = r.1;
      represents = r.2;
      last = come.0;
      history = record {
        replies = come.1;
        legal = come.2.legal (calls_of come.0);
        between = between r.0 lines ended said mounts come.0 come.1;
        next_mount = come.2.next_mount;
      };
      crash_safe = come.2.crash_safe;
    }

none-recorded : (mounts : List MountRecord) → mounts ≡ [] → 1 ≤ length mounts → ⊥
none-recorded mounts none some = let e = ap length none in omega (arith, e, some)

pub first-image-of : CrashSafeLaw → ((image : List Sector) → IsSound image → (t : Table) × (c : ℕ) × Represents image t c)
    → (known : Bool) (lines : List Line) (old new : List Cell) (ended : Status) (said : List Said) (mounts : List MountRecord) → IsOver known lines old new ended said mounts
    → IsTrue known → (before : List Sector) → old ≡ settled_as before → FitsFirstImage before lines said mounts new
first-image-of law represents known lines old new ended said mounts over told before is =
    let few = over.few in
    elim (over.untouched told before is) [
      | inl sound ↦
          let r = represents before sound in
          let safe : StandsSafe r.0 r.1 [] old = subst (StandsSafe r.0 r.1 []) (sym is) (law before r.0 r.1 r.2) in
          record {
            damaged = λ i rule sector at. absurd (over.no_damage told r.0 r.1 safe i rule sector at);
            sound = λ some. sound;
            refused = λ unsound i asked one at mount said_at. absurd (unsound sound);
            untouched = λ unsound image at. absurd (unsound sound);
          }
      | inr here ↦ record {
        damaged = λ i rule sector at.
            let low = slice_get_within said i (line_said (line.Damaged rule sector)) at in
            let asked = get_or lines i (record { number = 0; command = command.Mount }) in
            let line_at : slice_get lines i ≡ Some asked = slice_get-get_or lines i (record { number = 0; command = command.Mount }) (omega (arith, low, few)) in
            (here.2 i asked (line_said (line.Damaged rule sector)) line_at at).1 rule sector refl;
        sound = λ some. absurd (none-recorded mounts here.0 some);
        refused = λ unsound i asked one at mount said_at. (here.2 i asked one at said_at).0 mount;
        untouched = λ unsound. here.1;
      }
    ]

-- an image is crash safe as it stands
pub safe-begin : ((image : List Sector) (first : Table) (number : ℕ) → Represents image first number → CrashSafe first number [] (settled_as image)) → CrashSafeLaw
safe-begin law image first number represents = record { legal = λ calls. tt; next_mount = record { follow = tt; recover = tt; durable = tt }; crash_safe = law image first number represents }

-- what was handed back is what the run left
pub handed-over : (known : Bool) (lines : List Line) (old new cells : List Cell) (ended status_is : Status) (said said_is : List Said) (mounts mounts_are : List MountRecord)
    → IsOver known lines old new ended said mounts → cells ≡ new → status_is ≡ ended → said_is ≡ said → mounts_are ≡ mounts → IsOver known lines old cells status_is said_is mounts_are
handed-over known lines old new cells ended status_is said said_is mounts mounts_are over same_cells same_status same_said same_mounts =
    subst (λ (x : List Cell). IsOver known lines old x status_is said_is mounts_are) (sym same_cells)
    (subst (λ (x : Status). IsOver known lines old new x said_is mounts_are) (sym same_status)
    (subst (λ (x : List Said). IsOver known lines old new ended x mounts_are) (sym same_said)
    (subst (λ (x : List MountRecord). IsOver known lines old new ended said x) (sym same_mounts) over)))

-- the line behind as many answers
pub item-at : (lines : List Line) (i n : ℕ) (asked : Line) → n ≡ i → i < length lines → asked ≡ get_or lines i asked → slice_get lines n ≡ Some asked
item-at lines i n asked same low is = ap (slice_get lines) same ∙ slice_get-get_or lines i asked low ∙ ap Some (sym is)
