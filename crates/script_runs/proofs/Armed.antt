-- What is armed behind writes.
use Rattle.std.proofs.Common.{◌≡◌, ◌∙◌, ℕ, zero, suc, Bool, true, false, refl, sym, ap, subst}
use Rattle.std.specs.Prelude.{Option, None, Some, is_some}
use Rattle.std.proofs.lemmas.Bool.{true≢false}
use Rattle.disk_model.specs.Disk.{Arming, IsAfterWrites, Stopping, after_write, after_write_by, after_writes, brought_nearer}
use Rattle.life_table.specs.declared.types.MountRecord.{MountRecord}
use Rattle.mount.specs.Mounts.{ArmsDown}
use Rattle.mount.specs.declared.fault.MountFault.{MountFault}
use Rattle.mount.specs.declared.fault.MountFault.TheVariants.{Damaged, ReadFault, WriteFault, FlushFault, PositionEnd, NoMemory}
use Rattle.script_runs.specs.Running.{IsArmedAs, IsArmedBehind}

written_unarmed : (stopped : Bool) (armed : Option Stopping) (arming : Arming) → armed ≡ None → after_write_by stopped armed arming ≡ arming
written_unarmed true armed arming none = refl
written_unarmed false armed arming none = ap (λ (a : Option Stopping). after_write_by false a arming) none

-- where nothing is armed, writes leave it so
stays_unarmed : (writes : ℕ) (arming : Arming) → arming.armed ≡ None → after_writes writes arming ≡ arming
stays_unarmed zero arming none = refl
stays_unarmed (suc writes) arming none =
    ap (λ (a : Arming). after_writes writes a) (written_unarmed arming.stopped arming.armed arming none) ∙ stays_unarmed writes arming none

-- and where a stop is armed, one is
kept_by : (stopped : Bool) (armed : Option Stopping) (arming : Arming) → arming.armed ≡ armed → is_some (after_write_by stopped armed arming).armed ≡ is_some armed
kept_by true armed arming is = ap (λ (o : Option Stopping). is_some o) is
kept_by false None arming is = ap (λ (o : Option Stopping). is_some o) is
kept_by false (Some stopping) arming is = nearer stopping.writes stopping.sectors arming
  where
    nearer : (writes sectors : ℕ) (before : Arming) → is_some (brought_nearer writes sectors before).armed ≡ true
    nearer zero sectors before = refl
    nearer (suc zero) sectors before = refl
    nearer (suc (suc writes)) sectors before = refl

stays_armed : (writes : ℕ) (arming : Arming) → is_some (after_writes writes arming).armed ≡ is_some arming.armed
stays_armed zero arming = refl
stays_armed (suc writes) arming = stays_armed writes (after_write arming) ∙ kept_by arming.stopped arming.armed arming refl

none_of : (o : Option Stopping) → is_some o ≡ false → o ≡ None
none_of None is = refl
none_of (Some stopping) is = absurd (true≢false is)

armed_same : (armed : Bool) (old new : Arming) → IsArmedAs armed old → new ≡ old → IsArmedBehind armed new
armed_same armed old new is same = subst (λ (a : Arming). IsArmedBehind armed a) (sym same) (record {
  told = is.told;
  stopped = λ stopped. absurd (true≢false (sym stopped ∙ is.goes_on));
})

armed_written : (armed : Bool) (old new : Arming) (writes : ℕ) → IsArmedAs armed old → new ≡ after_writes writes old → IsArmedBehind armed new
armed_written true old new writes is after = record { told = ap (λ (a : Arming). is_some a.armed) after ∙ stays_armed writes old ∙ is.told; stopped = λ stopped. refl }
armed_written false old new writes is after = armed_same false old new is (after ∙ stays_unarmed writes old (none_of old.armed is.told))

-- what writes leave armed, or of which a device stopped, a line armed
pub armed_behind : (armed : Bool) (old new : Arming) → IsArmedAs armed old → IsAfterWrites old new → IsArmedBehind armed new
armed_behind armed old new is (writes, after) = armed_written armed old new writes is after

-- so does a mount that did not come up
pub armed_down : (armed : Bool) (begun : Option MountRecord) (fault : MountFault) (old new : Arming) → IsArmedAs armed old → ArmsDown begun fault old new → IsArmedBehind armed new
armed_down armed (Some story) fault old new is arms = armed_behind armed old new is arms
armed_down armed None (Damaged rule sector) old new is arms = armed_same armed old new is arms
armed_down armed None ReadFault old new is arms = armed_same armed old new is arms
armed_down armed None NoMemory old new is arms = armed_same armed old new is arms
armed_down armed None PositionEnd old new is arms = armed_same armed old new is arms
armed_down armed None FlushFault old new is arms = armed_behind armed old new is arms
armed_down armed None WriteFault old new is arms = armed_behind armed old new is arms
