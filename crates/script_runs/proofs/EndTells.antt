-- What the end of a mount tells of faults and of the log, by why it did not end.
use Rattle.std.proofs.Common.{Vec, Global, ◌≡◌, ℕ, List, [], ◌∷◌, ◌++◌, None, Some, refl, ap, sym, subst, ◌∙◌}
use Rattle.std.specs.Prelude.{slice_get}
use Rattle.log_store.specs.declared.store.Stage.{Stage}
use Rattle.log_store.specs.declared.store.Stage.TheVariants.{Free, Half, Record, Cover, Down}
use Rattle.log_store.specs.Outcome.{down_count}
use Rattle.log_store.specs.State.{state_of}
use Rattle.life_table.specs.declared.types.Entry.{Entry}
use Rattle.life_table.specs.declared.types.MountRecord.{MountRecord}
use Rattle.mount.specs.Still.{IsEndCause}
use Rattle.mount.specs.declared.fault.EndFault.{EndFault}
use Rattle.mount.specs.declared.fault.EndFault.TheVariants as end
use Rattle.mount.specs.declared.mounted.Mounted.{Mounted}
use Rattle.mount.specs.declared.mounted.StillMounted.{StillMounted}
use Rattle.run_mounts.specs.declared.ending.EndedMount.{EndedMount}
use Rattle.script.specs.declared.answers.LineReply.TheVariants as line
use Rattle.script.specs.declared.answers.LineReply.{LineReply}
use Rattle.script_names.specs.declared.names.Names.{Names}
use Rattle.run_faults.specs.Log.{LogKnown, MaySay, known_behind}
use Rattle.run_faults.specs.Log as known
use Rattle.run_faults.specs.News.{news_of_line}
use Rattle.run_faults.specs.News as news
use Rattle.run_faults.specs.Progress.{EntriesStay, RecordsGrow}
use Rattle.run_history.specs.Answers.{line_said}
use Rattle.script_runs.specs.Faults.{IsNoMount, IsTold, LogOfMountIs, TellsOfLog}
use Rattle.script_runs.specs.Unmounting.{EndTells, IsNotDown, StillTells}
use Rattle.script_runs.specs.declared.running.Comes.TheVariants.{Answered}
use Rattle.script_runs.specs.declared.running.Device.TheVariants as device
use Rattle.script_runs.specs.declared.running.Up.{Up}
use Rattle.script_runs.proofs.CallTells.{not_both, told_of_up}
use Rattle.script_runs.specs.declared.running.Run.{Run}
use Rattle.script_runs.proofs.Tells.{last_record, stop_told}

not_down_up : (s : Stage) → ((count : ℕ) → ¬ (s ≡ Down count)) → down_count s ≡ None
not_down_up Free none = refl
not_down_up Half none = refl
not_down_up Record none = refl
not_down_up Cover none = refl
not_down_up (Down count) none = absurd (none count refl)

is_up : {D : Type 0} (m : Mounted D) → IsNotDown m → down_count m.store.stage ≡ None
is_up m none = not_down_up m.store.stage none

-- ---- the mount ended

end_may : {D : Type 0} (m : Mounted D) (log : LogKnown) → IsNotDown m → LogOfMountIs log m → MaySay log news.ends_well
end_may m known.no_mount none is = absurd is
end_may m known.log_is_up none is = tt
end_may m known.log_in_doubt none is = tt
end_may m known.log_is_down none is = absurd (none is.0 is.1)

end_behind : (log : LogKnown) → known_behind log news.ends_well ≡ known.no_mount
end_behind known.no_mount = refl
end_behind known.log_is_up = refl
end_behind known.log_in_doubt = refl
end_behind known.log_is_down = refl

pub ended_told : {D : Type 0} (fault_count : D → ℕ) (old : Up D) (disk : D) → IsNotDown old.mounted → IsTold fault_count news.ends_well (device.Mounted old) (device.Idle disk)
ended_told fault_count old disk none = record {
  may = λ log is. end_may old.mounted log none is;
  behind = λ log is. subst IsNoMount (sym (end_behind log)) tt;
  fault = λ told. absurd cc;
}

-- ---- it was left, since its log was down

left_may : {D : Type 0} (m : Mounted D) (log : LogKnown) (count : ℕ) → m.store.stage ≡ Down count → LogOfMountIs log m → MaySay log news.end_finds_down
left_may m known.no_mount count down is = absurd is
left_may m known.log_is_up count down is = absurd (not_both m.store.stage count is down)
left_may m known.log_in_doubt count down is = tt
left_may m known.log_is_down count down is = tt

left_behind : (log : LogKnown) → known_behind log news.end_finds_down ≡ known.no_mount
left_behind known.no_mount = refl
left_behind known.log_is_up = refl
left_behind known.log_in_doubt = refl
left_behind known.log_is_down = refl

pub left_told : {D : Type 0} (fault_count : D → ℕ) (count : ℕ) (old : Up D) (disk : D) → old.mounted.store.stage ≡ Down count
    → IsTold fault_count news.end_finds_down (device.Mounted old) (device.Idle disk)
left_told fault_count count old disk down = record {
  may = λ log is. left_may old.mounted log count down is;
  behind = λ log is. subst IsNoMount (sym (left_behind log)) tt;
  fault = λ told. absurd cc;
}

-- ---- it goes on behind a fault

pub write_told : {D : Type 0} (fault_count : D → ℕ) (old new : Up D) → IsNotDown old.mounted
    → IsEndCause end.WriteFault (state_of old.mounted.store) (state_of new.mounted.store) (fault_count old.mounted.store.disk) (fault_count new.mounted.store.disk)
    → IsTold fault_count news.write_fails (device.Mounted old) (device.Mounted new)
write_told fault_count old new none cause = told_of_up fault_count news.write_fails known.log_in_doubt old new (tt, tt) (refl, refl) (is_up old.mounted none) tt (λ told. cause)

pub flush_told : {D : Type 0} (fault_count : D → ℕ) (old new : Up D) → IsNotDown old.mounted
    → IsEndCause end.FlushFault (state_of old.mounted.store) (state_of new.mounted.store) (fault_count old.mounted.store.disk) (fault_count new.mounted.store.disk)
    → IsTold fault_count news.flush_fails (device.Mounted old) (device.Mounted new)
flush_told fault_count old new none cause =
    told_of_up fault_count news.flush_fails known.log_is_down old new (tt, tt) (refl, refl) (is_up old.mounted none) (fault_count new.mounted.store.disk, cause.1) (λ told. cause.0)

pub positions_told : {D : Type 0} (fault_count : D → ℕ) (old new : Up D) → IsNotDown old.mounted
    → IsEndCause end.PositionEnd (state_of old.mounted.store) (state_of new.mounted.store) (fault_count old.mounted.store.disk) (fault_count new.mounted.store.disk)
    → IsTold fault_count news.positions_end (device.Mounted old) (device.Mounted new)
positions_told fault_count old new none cause =
    told_of_up fault_count news.positions_end known.log_is_up old new (tt, tt) (refl, refl) (is_up old.mounted none) (ap down_count cause.0) (λ told. absurd cc)

-- ---- the line

-- The mount is over: its record is the last one, with all entries that it had.
pub over_line : {D : Type 0} (fault_count : D → ℕ) (old_past : List MountRecord) (old : Up D) (disk : D) (names : Names) (past : Vec MountRecord Global) (story : MountRecord) (reply : LineReply)
    → past.items ≡ old_past ++ story ∷ [] → EntriesStay old.mounted.story story → IsTold fault_count (news_of_line reply) (device.Mounted old) (device.Idle disk)
    → TellsOfLog fault_count old_past (device.Mounted old) (Answered (record { names = names; past = past; device = device.Idle disk }) (line_said reply))
over_line fault_count old_past old disk names past story reply items stay told =
    (subst (RecordsGrow (old_past ++ old.mounted.story ∷ [])) (sym items) (last_record old_past old.mounted.story story stay), told)

-- The mount goes on.
pub still_line : {D : Type 0} (fault_count : D → ℕ) (old new : Up D) (names : Names) (past : Vec MountRecord Global) (reply : LineReply) → EntriesStay old.mounted.story new.mounted.story
    → IsTold fault_count (news_of_line reply) (device.Mounted old) (device.Mounted new)
    → TellsOfLog fault_count past.items (device.Mounted old) (Answered (record { names = names; past = past; device = device.Mounted new }) (line_said reply))
still_line fault_count old new names past reply stay told = (last_record past.items old.mounted.story new.mounted.story stay, told)

-- ---- by its answer

pub tells_stopped : {D : Type 0} (fault_count : D → ℕ) (old_past : List MountRecord) (old : Up D) (ended : EndedMount D) (disk : D) (names : Names) (past : Vec MountRecord Global) (story : MountRecord) (acknowledged : ℕ)
    → EndTells old ended → story ≡ record ended.story { acknowledged = acknowledged } → past.items ≡ old_past ++ story ∷ []
    → TellsOfLog fault_count old_past (device.Mounted old) (Answered (record { names = names; past = past; device = device.Idle disk }) (line_said line.Stopped))
tells_stopped fault_count old_past old ended disk names past story acknowledged tells same items =
    over_line fault_count old_past old disk names past story line.Stopped items (subst (EntriesStay old.mounted.story) (sym same) tells.entries) (stop_told fault_count (device.Mounted old) disk)

pub tells_ended : {D : Type 0} (fault_count : D → ℕ) (old_past : List MountRecord) (old : Up D) (ended : EndedMount D) (names : Names) (past : Vec MountRecord Global) → EndTells old ended
    → past.items ≡ old_past ++ ended.story ∷ []
    → TellsOfLog fault_count old_past (device.Mounted old) (Answered (record { names = names; past = past; device = device.Idle ended.disk }) (line_said line.Unmounted))
tells_ended fault_count old_past old ended names past tells items =
    over_line fault_count old_past old ended.disk names past ended.story line.Unmounted items tells.entries (ended_told fault_count old ended.disk tells.was_up)

pub tells_down : {D : Type 0} (fault_count : D → ℕ) (old_past : List MountRecord) (old : Up D) (still : StillMounted D) (disk : D) (names : Names) (past : Vec MountRecord Global) (story : MountRecord) (count : ℕ)
    → StillTells fault_count old still → still.fault ≡ end.Down count → story ≡ still.mounted.story → past.items ≡ old_past ++ story ∷ []
    → TellsOfLog fault_count old_past (device.Mounted old) (Answered (record { names = names; past = past; device = device.Idle disk }) (line_said (line.Down count)))
tells_down fault_count old_past old still disk names past story count tells is same items =
    let cause = subst (λ (fault : EndFault). IsEndCause fault (state_of old.mounted.store) (state_of still.mounted.store) (fault_count old.mounted.store.disk) (fault_count still.mounted.store.disk)) is tells.cause in
    over_line fault_count old_past old disk names past story (line.Down count) items (subst (EntriesStay old.mounted.story) (sym same) tells.entries) (left_told fault_count count old disk cause.0)

-- a fault that is not that of a log that is down comes of one that was not
not_down : {D : Type 0} (fault_count : D → ℕ) (old : Up D) (still : StillMounted D) (fault : EndFault) → StillTells fault_count old still → still.fault ≡ fault
    → ((count : ℕ) → ¬ (fault ≡ end.Down count)) → IsNotDown old.mounted
not_down fault_count old still fault tells is other = λ count down. other count (sym is ∙ tells.down count down)

cause_is : {D : Type 0} (fault_count : D → ℕ) (old : Up D) (still : StillMounted D) (fault : EndFault) → StillTells fault_count old still → still.fault ≡ fault
    → IsEndCause fault (state_of old.mounted.store) (state_of still.mounted.store) (fault_count old.mounted.store.disk) (fault_count still.mounted.store.disk)
cause_is fault_count old still fault tells is =
    subst (λ (x : EndFault). IsEndCause x (state_of old.mounted.store) (state_of still.mounted.store) (fault_count old.mounted.store.disk) (fault_count still.mounted.store.disk)) is tells.cause

-- the mount as it goes on
abbrev pub still_run : {D : Type 0} → Names → Vec MountRecord Global → List (ℕ × ℕ × ℕ) → StillMounted D → Run D
still_run names past holds still = record { names = names; past = past; device = device.Mounted (record { mounted = still.mounted; holds = holds }) }

pub tells_write : {D : Type 0} (fault_count : D → ℕ) (old : Up D) (still : StillMounted D) (names : Names) (past : Vec MountRecord Global) (holds : List (ℕ × ℕ × ℕ)) → StillTells fault_count old still
    → still.fault ≡ end.WriteFault → TellsOfLog fault_count past.items (device.Mounted old) (Answered (still_run names past holds still) (line_said line.WriteFault))
tells_write fault_count old still names past holds tells is =
    still_line fault_count old (record { mounted = still.mounted; holds = holds }) names past line.WriteFault tells.entries
    (write_told fault_count old (record { mounted = still.mounted; holds = holds }) (not_down fault_count old still end.WriteFault tells is (λ count e. cc)) (cause_is fault_count old still end.WriteFault tells is))

pub tells_flush : {D : Type 0} (fault_count : D → ℕ) (old : Up D) (still : StillMounted D) (names : Names) (past : Vec MountRecord Global) (holds : List (ℕ × ℕ × ℕ)) → StillTells fault_count old still
    → still.fault ≡ end.FlushFault → TellsOfLog fault_count past.items (device.Mounted old) (Answered (still_run names past holds still) (line_said line.FlushFault))
tells_flush fault_count old still names past holds tells is =
    still_line fault_count old (record { mounted = still.mounted; holds = holds }) names past line.FlushFault tells.entries
    (flush_told fault_count old (record { mounted = still.mounted; holds = holds }) (not_down fault_count old still end.FlushFault tells is (λ count e. cc)) (cause_is fault_count old still end.FlushFault tells is))

pub tells_positions : {D : Type 0} (fault_count : D → ℕ) (old : Up D) (still : StillMounted D) (names : Names) (past : Vec MountRecord Global) (holds : List (ℕ × ℕ × ℕ)) → StillTells fault_count old still
    → still.fault ≡ end.PositionEnd → TellsOfLog fault_count past.items (device.Mounted old) (Answered (still_run names past holds still) (line_said line.PositionEnd))
tells_positions fault_count old still names past holds tells is =
    still_line fault_count old (record { mounted = still.mounted; holds = holds }) names past line.PositionEnd tells.entries
    (positions_told fault_count old (record { mounted = still.mounted; holds = holds }) (not_down fault_count old still end.PositionEnd tells is (λ count e. cc)) (cause_is fault_count old still end.PositionEnd tells is))

-- its entries stay where its record is the same
pub entries_same : (old new : MountRecord) → new.entries ≡ old.entries → EntriesStay old new
entries_same old new same = λ place entry is. subst (λ (entries : List Entry). slice_get entries place ≡ Some entry) (sym same) is
