-- A run between two lines, whose device is idle or not.
use Rattle.std.proofs.Common.{Vec, Global, ◌≡◌, ◌∙◌, ◌+◌, ◌-◌, ℕ, Bool, List, [], ◌∷◌, length, refl, ap, subst, arith}
use Rattle.std.specs.Prelude.{MatchOption, Option, None, Some, slice_get}
use Rattle.std.specs.Option.{option_map}
use Rattle.disk_model.specs.Disk.{Arming, Cell}
use Rattle.life_table.specs.declared.key.Key.{Key}
use Rattle.life_table.specs.declared.types.MountRecord.{MountRecord}
use Rattle.life_table.specs.declared.table.Table.{Table}
use Rattle.script.specs.declared.types.Command.TheVariants as command
use Rattle.script.specs.declared.answers.LineReply.TheVariants as line
use Rattle.run_history.specs.Answers.{AnswersMount, OnlySays, line_said}
use Rattle.run_history.specs.CrashSafe.{last_of}
use Rattle.run_history.specs.Mounts.{MountStory}
use Rattle.run_history.specs.States.{RunState, UpMount, mounts_of, next_line, with_up}
use Rattle.script_runs.specs.Running.{IsAnswer, IsDeviceAs, IsRun, StandsWhereKnown, records_of}
use Rattle.run_mounts.specs.Safe.{StandsSafe, base_behind}
use Rattle.script_runs.specs.declared.running.Device.TheVariants as device
use Rattle.script_runs.specs.declared.running.Up.{Up}

-- where the device is idle no mount is up
pub idle_down : {D : Type 0} (known : Bool) (cells : D → List Cell) (sector_count : D → ℕ) (lines : ℕ) (u : Option UpMount) (disk : D) → IsDeviceAs known cells sector_count lines u (device.Idle disk)
    → u ≡ None
idle_down known cells sector_count lines None disk is = refl
idle_down known cells sector_count lines (Some m) disk is = absurd is

-- so the mounts are those that are over
pub stands_idle : (first : Table) (number : ℕ) (s : RunState) (cells : List Cell) → s.up ≡ None → StandsSafe first number (mounts_of s) cells → StandsSafe first number s.past cells
stands_idle first number s cells down stands = subst (λ (u : Option UpMount). StandsSafe first number (with_up s.past u) cells) down stands

-- one line more
pub one_line_more : {D : Type 0} (known : Bool) (cells : D → List Cell) (sector_count : D → ℕ) (lines : ℕ) (u : Option UpMount) (up : Up D) → IsDeviceAs known cells sector_count lines u (device.Mounted up)
    → IsDeviceAs known cells sector_count (lines + 1) u (device.Mounted up)
one_line_more known cells sector_count lines None up is = absurd is
one_line_more known cells sector_count lines (Some m) up is = record {
  story = is.story;
  going = is.going;
  unheld = is.unheld;
  running = is.running;
  holds = is.holds;
  steady = is.steady;
  number = is.number;
  few = omega (arith, is.few);
}

says_mounted : {D : Type 0} (known : Bool) (cells : D → List Cell) (sector_count : D → ℕ) (lines : ℕ) (u : Option UpMount) (up : Up D) (none : Type 0) (said : Type 0)
    → IsDeviceAs known cells sector_count lines u (device.Mounted up) → said → MatchOption u none (λ m. said)
says_mounted known cells sector_count lines None up none said is holds = absurd is
says_mounted known cells sector_count lines (Some m) up none said is holds = holds

-- a mount line where a mount is up
pub already : {D : Type 0} (known sure : Bool) (cells : D → List Cell) (sector_count : D → ℕ) (arming : D → Arming) (first : Table) (number : ℕ) (s : RunState) (names : List (List ℕ × Key))
    (past : Vec MountRecord Global) (up : Up D) → IsRun known cells sector_count arming s (record { names = names; past = past; device = device.Mounted up })
    → StandsWhereKnown sure first number s (cells up.mounted.store.disk)
    → IsAnswer known sure cells sector_count arming first number s command.Mount (line_said line.AlreadyMounted) (record { names = names; past = past; device = device.Mounted up })
already known sure cells sector_count arming first number s names past up is stands = record {
  next = next_line s;
  run_is = record {
    names = is.names;
    past = is.past;
    device = one_line_more known cells sector_count s.lines s.up up is.device;
    room = is.room;
    armed = is.armed;
  };
  lines = refl;
  answers = λ told. says_mounted known cells sector_count s.lines s.up up (AnswersMount first s (line_said line.AlreadyMounted) (next_line s))
      (OnlySays line.AlreadyMounted s (line_said line.AlreadyMounted) (next_line s)) is.device (refl, refl);
  safe = stands;
}

-- ---- the last mount

last_story : (m : MountStory) (later : List MountStory) → slice_get (records_of (m ∷ later)) (length (records_of later)) ≡ Some (last_of m later).story
last_story m [] = refl
last_story m (next ∷ later) = last_story next later

pub base_last : (mounts : List MountStory) (past : List MountRecord) (found : Option MountRecord) → past ≡ records_of mounts → found ≡ slice_get past (length past - 1)
    → option_map (λ (story : MountRecord). story.base) found ≡ base_behind mounts
base_last [] past found are is = ap (option_map (λ (story : MountRecord). story.base)) (is ∙ ap (λ (r : List MountRecord). slice_get r (length r - 1)) are)
base_last (m ∷ later) past found are is =
    let e : length (records_of (m ∷ later)) - 1 ≡ length (records_of later) = omega arith in
    ap (option_map (λ (story : MountRecord). story.base))
    (is ∙ ap (λ (r : List MountRecord). slice_get r (length r - 1)) are ∙ ap (slice_get (records_of (m ∷ later))) e ∙ last_story m later)
