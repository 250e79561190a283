-- What a mount line comes to whose mount did not come up.
use Rattle.std.proofs.Common.{Vec, Global, ◌≡◌, ◌∙◌, ◌+◌, ℕ, Bool, true, false, List, [], ◌∷◌, ◌++◌, refl, sym, ap, subst, inl, inr}
use Rattle.std.specs.Prelude.{IsTrue, IfSome, Option, None, Some, is_some}
use Rattle.std.proofs.lemmas.Option.{none-some, same_Some}
use Rattle.disk_model.specs.Disk.{Arming, Cell, Stopping}
use Rattle.life_table.specs.declared.key.Key.{Key}
use Rattle.life_table.specs.declared.types.MountRecord.{MountRecord}
use Rattle.life_table.specs.declared.table.Table.{Table}
use Rattle.mount.specs.declared.fault.MountFault.{MountFault}
use Rattle.mount.specs.declared.fault.MountFault.TheVariants.{Damaged, ReadFault, WriteFault, FlushFault, PositionEnd, NoMemory}
use Rattle.mount.specs.declared.mounted.NotMounted.{NotMounted}
use Rattle.script.specs.declared.types.Command.TheVariants as command
use Rattle.script.specs.declared.answers.LineReply.{LineReply}
use Rattle.script.specs.declared.answers.LineReply.TheVariants as line
use Rattle.run_history.specs.Answers.{AnswersMount, BreaksOff, FailsToMount, line_said}
use Rattle.run_history.specs.Mounts.{never_up, start_behind}
use Rattle.run_history.specs.States.{RunState, UpMount, disarmed, ends_as, mounts_of, with_up}
use Rattle.script_runs.specs.Mounting.{IsIdle, StayedDown, failed_mount, records_begun, refusal_of}
use Rattle.script_runs.specs.Running.{IsAnswer, IsArmedAs, IsBroken, IsDeviceAs, IsRun, records_of}
use Rattle.run_mounts.specs.Safe.{IsFreshWith, StandsBehind, StandsDown, StandsSafe}
use Rattle.script_runs.specs.declared.running.Device.TheVariants as device
use Rattle.script_runs.proofs.ComeUp.{answers_idle, records_more}

-- ---- a mount that had begun

-- of which nothing is acknowledged
none_acknowledged : (story : MountRecord) → story.acknowledged ≡ 0 → story ≡ record story { acknowledged = 0 }
none_acknowledged story none = ap (λ (n : ℕ). record story { acknowledged = n }) none

-- the line may fail so
fails : (first : Table) (s : RunState) (begun : Option MountRecord) → IfSome begun (IsFreshWith 0) → FailsToMount first s (failed_mount first begun s)
fails first s None fresh = inl refl
fails first s (Some story) fresh = inr (story, fresh.0, refl)

-- the records behind it
records_failed : (first : Table) (s : RunState) (begun : Option MountRecord) (old : List MountRecord) → IfSome begun (IsFreshWith 0) → old ≡ records_of s.past
    → records_begun old begun ≡ records_of (failed_mount first begun s).past
records_failed first s None old fresh are = are
records_failed first s (Some story) old fresh are =
    ap (λ (r : MountRecord). old ++ r ∷ []) (none_acknowledged story fresh.1) ∙ records_more s.past (ends_as never_up (record { start = start_behind first s.past story.kept; story = story; going = [] })) old are

-- how the run stands behind it
stands_failed : (first : Table) (number : ℕ) (s : RunState) (begun : Option MountRecord) (cells : List Cell) → s.up ≡ None → IfSome begun (IsFreshWith 0) → StandsDown first number s.past begun cells
    → StandsSafe first number (mounts_of (failed_mount first begun s)) cells
stands_failed first number s None cells down fresh stands = subst (λ (u : Option UpMount). StandsSafe first number (with_up s.past u) cells) (sym down) stands
stands_failed first number s (Some story) cells down fresh stands =
    subst (λ (r : MountRecord). StandsBehind first number s.past never_up (start_behind first s.past story.kept) r cells) (none_acknowledged story fresh.1) stands

-- no mount is up behind it
still_down : (first : Table) (s : RunState) (begun : Option MountRecord) → s.up ≡ None → (failed_mount first begun s).up ≡ None
still_down first s None down = down
still_down first s (Some story) down = refl

run_failed : {D : Type 0} (known : Bool) (cells : D → List Cell) (sector_count : D → ℕ) (arming : D → Arming) (first : Table) (s : RunState) (begun : Option MountRecord)
    (names : List (List ℕ × Key)) (old : List MountRecord) (past : Vec MountRecord Global) (disk : D) → IsIdle s names old → IfSome begun (IsFreshWith 0)
    → past.items ≡ records_begun old begun → IsArmedAs s.armed (arming disk)
    → IsRun known cells sector_count arming (failed_mount first begun s) (record { names = names; past = past; device = device.Idle disk })
run_failed known cells sector_count arming first s None names old past disk idle fresh items armed = record {
  names = idle.bound;
  past = items ∙ idle.records;
  device = subst (λ (u : Option UpMount). IsDeviceAs known cells sector_count (s.lines + 1) u (device.Idle disk)) (sym idle.down) tt;
  room = tt;
  armed = armed;
}
run_failed known cells sector_count arming first s (Some story) names old past disk idle fresh items armed = record {
  names = idle.bound;
  past = items ∙ records_failed first s (Some story) old fresh idle.records;
  device = tt;
  room = tt;
  armed = armed;
}

lines_failed : (first : Table) (s : RunState) (begun : Option MountRecord) → (failed_mount first begun s).lines ≡ s.lines + 1
lines_failed first s None = refl
lines_failed first s (Some story) = refl

-- ---- it was refused

answers_refused : (first : Table) (s : RunState) (fault : MountFault) (begun : Option MountRecord) (reply : LineReply) → refusal_of fault ≡ Some reply → IfSome begun (IsFreshWith 0)
    → ((rule sector : ℕ) → fault ≡ Damaged rule sector → begun ≡ None) → AnswersMount first s (line_said reply) (failed_mount first begun s)
answers_refused first s (Damaged rule sector) begun reply is fresh unbegun =
    subst (λ (r : LineReply). AnswersMount first s (line_said r) (failed_mount first begun s)) (same_Some (line.Damaged rule sector) reply is)
    (ap (λ (b : Option MountRecord). failed_mount first b s) (unbegun rule sector refl))
answers_refused first s ReadFault begun reply is fresh unbegun =
    subst (λ (r : LineReply). AnswersMount first s (line_said r) (failed_mount first begun s)) (same_Some line.ReadFault reply is) (fails first s begun fresh)
answers_refused first s WriteFault begun reply is fresh unbegun =
    subst (λ (r : LineReply). AnswersMount first s (line_said r) (failed_mount first begun s)) (same_Some line.WriteFault reply is) (fails first s begun fresh)
answers_refused first s FlushFault begun reply is fresh unbegun =
    subst (λ (r : LineReply). AnswersMount first s (line_said r) (failed_mount first begun s)) (same_Some line.FlushFault reply is) (fails first s begun fresh)
answers_refused first s PositionEnd begun reply is fresh unbegun =
    subst (λ (r : LineReply). AnswersMount first s (line_said r) (failed_mount first begun s)) (same_Some line.PositionEnd reply is) (fails first s begun fresh)
answers_refused first s NoMemory begun reply is fresh unbegun = absurd (none-some reply is)

pub refused : {D : Type 0} (known sure : Bool) (cells : D → List Cell) (sector_count : D → ℕ) (arming : D → Arming) (first : Table) (number : ℕ) (s : RunState) (m : NotMounted D)
    (names : List (List ℕ × Key)) (old : List MountRecord) (past : Vec MountRecord Global) (reply : LineReply) (told : Option LineReply) (answer : Bool) → IsIdle s names old
    → StayedDown sure cells arming first number s m → past.items ≡ records_begun old m.begun → told ≡ refusal_of m.fault → told ≡ Some reply
    → answer ≡ (arming m.disk).stopped → answer ≡ false
    → IsAnswer known sure cells sector_count arming first number s command.Mount (line_said reply) (record { names = names; past = past; device = device.Idle m.disk })
refused known sure cells sector_count arming first number s m names old past reply told answer idle stayed items refusal is asked goes_on = record {
  next = failed_mount first m.begun s;
  run_is = run_failed known cells sector_count arming first s m.begun names old past m.disk idle stayed.fresh items (record { goes_on = sym asked ∙ goes_on; told = stayed.behind_writes.told });
  lines = lines_failed first s m.begun;
  answers = λ known_is. answers_idle first s (line_said reply) (failed_mount first m.begun s) idle.down
      (answers_refused first s m.fault m.begun reply (sym refusal ∙ is) stayed.fresh (stayed.unbegun known_is));
  safe = λ known_is. stands_failed first number s m.begun (cells m.disk) idle.down stayed.fresh (stayed.stands known_is);
}

-- ---- the armed write came

pub stopped_down : {D : Type 0} (known sure : Bool) (cells : D → List Cell) (sector_count : D → ℕ) (arming : D → Arming) (first : Table) (number : ℕ) (s : RunState) (m : NotMounted D)
    (names : List (List ℕ × Key)) (old : List MountRecord) (past : Vec MountRecord Global) (disk : D) (answer : Bool) → IsIdle s names old
    → StayedDown sure cells arming first number s m → past.items ≡ records_begun old m.begun → answer ≡ (arming m.disk).stopped → answer ≡ true
    → cells disk ≡ cells m.disk → (arming disk).stopped ≡ false → (arming disk).armed ≡ None
    → IsAnswer known sure cells sector_count arming first number s command.Mount (line_said line.Stopped) (record { names = names; past = past; device = device.Idle disk })
stopped_down known sure cells sector_count arming first number s m names old past disk answer idle stayed items asked stopped same goes_on unarmed =
    let idle_now : IsIdle (disarmed s) names old = record { down = idle.down; bound = idle.bound; records = idle.records } in
    record {
      next = failed_mount first m.begun (disarmed s);
      run_is = run_failed known cells sector_count arming first (disarmed s) m.begun names old past disk idle_now stayed.fresh items (record { goes_on = goes_on; told = ap (λ (o : Option Stopping). is_some o) unarmed });
      lines = lines_failed first (disarmed s) m.begun;
      answers = λ told. answers_idle first s (line_said line.Stopped) (failed_mount first m.begun (disarmed s)) idle.down
          (stayed.behind_writes.stopped (sym asked ∙ stopped), fails first (disarmed s) m.begun stayed.fresh);
      safe = λ told. stands_failed first number (disarmed s) m.begun (cells disk) idle.down stayed.fresh
          (subst (StandsDown first number s.past m.begun) (sym same) (stayed.stands told));
    }

-- ---- there was no memory

broken : {D : Type 0} (sure : Bool) (cells : D → List Cell) (first : Table) (number : ℕ) (s : RunState) (begun : Option MountRecord) (names : List (List ℕ × Key)) (old : List MountRecord)
    (past : Vec MountRecord Global) (disk : D) → IsIdle s names old → IfSome begun (IsFreshWith 0) → (IsTrue sure → StandsDown first number s.past begun (cells disk))
    → past.items ≡ records_begun old begun → IsBroken sure cells first number s command.Mount (record { names = names; past = past; device = device.Idle disk })
broken sure cells first number s None names old past disk idle fresh stands items = record {
  last = s;
  tells = record { records = items ∙ subst (λ (u : Option UpMount). old ≡ records_of (with_up s.past u)) (sym idle.down) idle.records; room = tt };
  breaks = λ told. inl refl;
  safe = λ told. subst (λ (u : Option UpMount). StandsSafe first number (with_up s.past u) (cells disk)) (sym idle.down) (stands told);
}
broken sure cells first number s (Some story) names old past disk idle fresh stands items = record {
  last = failed_mount first (Some story) s;
  tells = record { records = items ∙ records_failed first s (Some story) old fresh idle.records; room = tt };
  breaks = λ told. inr (subst (λ (u : Option UpMount). BreaksOff first s u command.Mount (failed_mount first (Some story) s)) (sym idle.down) (fails first s (Some story) fresh));
  safe = λ told. stands_failed first number s (Some story) (cells disk) idle.down fresh (stands told);
}

pub broken_down : {D : Type 0} (sure : Bool) (cells : D → List Cell) (arming : D → Arming) (first : Table) (number : ℕ) (s : RunState) (m : NotMounted D) (names : List (List ℕ × Key))
    (old : List MountRecord) (past : Vec MountRecord Global) → IsIdle s names old → StayedDown sure cells arming first number s m → past.items ≡ records_begun old m.begun
    → IsBroken sure cells first number s command.Mount (record { names = names; past = past; device = device.Idle m.disk })
broken_down sure cells arming first number s m names old past idle stayed items = broken sure cells first number s m.begun names old past m.disk idle stayed.fresh stayed.stands items

-- none even to begin
pub broken_idle : {D : Type 0} (sure : Bool) (cells : D → List Cell) (first : Table) (number : ℕ) (s : RunState) (names : List (List ℕ × Key)) (old : List MountRecord)
    (past : Vec MountRecord Global) (disk : D) → IsIdle s names old → (IsTrue sure → StandsSafe first number (mounts_of s) (cells disk)) → past.items ≡ old
    → IsBroken sure cells first number s command.Mount (record { names = names; past = past; device = device.Idle disk })
broken_idle sure cells first number s names old past disk idle stands items =
    broken sure cells first number s None names old past disk idle tt (λ told. subst (λ (u : Option UpMount). StandsSafe first number (with_up s.past u) (cells disk)) idle.down (stands told)) items
