-- What the answers of lines tell of faults and of the log, apart from those of calls.
use Rattle.std.proofs.Common.{Vec, Global, ◌≡◌, ℕ, zero, suc, Bool, List, [], ◌∷◌, ◌++◌, Option, None, Some, refl, ap, sym, subst, ◌∙◌}
use Rattle.std.specs.Prelude.{IsTrue, slice_get}
use Rattle.std.proofs.lemmas.Option.{none-some, same_Some}
use Rattle.life_ports.specs.Faults.{Rose}
use Rattle.disk_model.specs.Disk.{Arming, Cell}
use Rattle.log_store.specs.declared.store.Stage.TheVariants.{Free}
use Rattle.log_store.specs.Outcome.{down_count}
use Rattle.life_table.specs.declared.types.MountRecord.{MountRecord}
use Rattle.mount.specs.Faults.{IsDeviceCause}
use Rattle.mount.specs.declared.fault.MountFault.{MountFault}
use Rattle.mount.specs.declared.fault.MountFault.TheVariants.{Damaged, ReadFault, WriteFault, FlushFault, PositionEnd, NoMemory}
use Rattle.mount.specs.declared.mounted.Mounted.{Mounted}
use Rattle.script.specs.declared.answers.LineReply.{LineReply}
use Rattle.script.specs.declared.answers.LineReply.TheVariants as line
use Rattle.script.specs.declared.answers.Said.{Said}
use Rattle.script_names.specs.declared.names.Names.{Names}
use Rattle.run_faults.specs.Log.{LogKnown, MaySay, known_behind}
use Rattle.run_faults.specs.Log as known
use Rattle.run_faults.specs.News.{News, news_of, news_of_line}
use Rattle.run_faults.specs.News as news
use Rattle.run_faults.specs.Progress.{EntriesStay, RecordsGrow}
use Rattle.run_faults.specs.Told.{is_fault}
use Rattle.run_history.specs.Answers.{line_said}
use Rattle.script_runs.specs.Faults.{IsNoMount, IsTold, LogIs, LogOfMountIs, TellsOfLog}
use Rattle.script_runs.specs.Mounting.{records_begun, refusal_of}
use Rattle.script_runs.specs.Running.{disk_of_run, records_with}
use Rattle.script_runs.specs.Stopping.{ComesToStop, IsArmedDevice, IsArmedOn}
use Rattle.script_runs.specs.declared.running.Comes.{Comes}
use Rattle.script_runs.specs.declared.running.Comes.TheVariants.{Answered, Unanswered}
use Rattle.script_runs.specs.declared.running.Device.{Device}
use Rattle.script_runs.specs.declared.running.Device.TheVariants as device
use Rattle.script_runs.specs.declared.running.Up.{Up}

-- ---- records

pub same_records : (past : List MountRecord) → RecordsGrow past past
same_records past mount story at = (story, at, λ place entry is. is)

pub equal_records : (old new : List MountRecord) → new ≡ old → RecordsGrow old new
equal_records old new same = subst (RecordsGrow old) (sym same) (same_records old)

at_within : (past more : List MountRecord) (i : ℕ) (story : MountRecord) → slice_get past i ≡ Some story → slice_get (past ++ more) i ≡ Some story
at_within [] more i story at = absurd cc
at_within (first ∷ past) more zero story at = at
at_within (first ∷ past) more (suc i) story at = at_within past more i story at

pub more_records : (past more : List MountRecord) → RecordsGrow past (past ++ more)
more_records past more mount story at = (story, at_within past more mount story at, λ place entry is. is)

pub last_record : (past : List MountRecord) (old new : MountRecord) → EntriesStay old new → RecordsGrow (past ++ old ∷ []) (past ++ new ∷ [])
last_record [] old new stay zero story at = let same : old ≡ story = cc in (new, refl, subst (λ (x : MountRecord). EntriesStay x new) same stay)
last_record [] old new stay (suc i) story at = absurd cc
last_record (first ∷ past) old new stay zero story at = (story, at, λ place entry is. is)
last_record (first ∷ past) old new stay (suc i) story at = last_record past old new stay i story at

pub begun_records : (past : List MountRecord) (begun : Option MountRecord) → RecordsGrow past (records_begun past begun)
begun_records past None = same_records past
begun_records past (Some story) = more_records past (story ∷ [])

-- ---- what may be told

other_may : (log : LogKnown) → MaySay log news.other_news
other_may known.no_mount = tt
other_may known.log_is_up = tt
other_may known.log_in_doubt = tt
other_may known.log_is_down = tt

other_behind : (log : LogKnown) → known_behind log news.other_news ≡ log
other_behind known.no_mount = refl
other_behind known.log_is_up = refl
other_behind known.log_in_doubt = refl
other_behind known.log_is_down = refl

stop_may : (log : LogKnown) → MaySay log news.stops
stop_may known.no_mount = tt
stop_may known.log_is_up = tt
stop_may known.log_in_doubt = tt
stop_may known.log_is_down = tt

stop_behind : (log : LogKnown) → known_behind log news.stops ≡ known.no_mount
stop_behind known.no_mount = refl
stop_behind known.log_is_up = refl
stop_behind known.log_in_doubt = refl
stop_behind known.log_is_down = refl

-- nothing is told, and the log is as it was
pub nothing_told : {D : Type 0} (fault_count : D → ℕ) (old new : Device D) → ((log : LogKnown) → LogIs log old → LogIs log new) → IsTold fault_count news.other_news old new
nothing_told fault_count old new same = record {
  may = λ log is. other_may log;
  behind = λ log is. subst (λ (l : LogKnown). LogIs l new) (sym (other_behind log)) (same log is);
  fault = λ none. absurd cc;
}

-- a stop leaves no mount up
pub stop_told : {D : Type 0} (fault_count : D → ℕ) (old : Device D) (disk : D) → IsTold fault_count news.stops old (device.Idle disk)
stop_told fault_count old disk = record {
  may = λ log is. stop_may log;
  behind = λ log is. subst (λ (l : LogKnown). IsNoMount l) (sym (stop_behind log)) tt;
  fault = λ none. absurd cc;
}

-- ---- mount lines

-- a mount came up
up_may : (log : LogKnown) → IsNoMount log → MaySay log news.comes_up
up_may known.no_mount is = tt
up_may known.log_is_up is = absurd is
up_may known.log_in_doubt is = absurd is
up_may known.log_is_down is = absurd is

up_behind : {D : Type 0} (m : Mounted D) (log : LogKnown) → IsNoMount log → m.store.stage ≡ Free → LogOfMountIs (known_behind log news.comes_up) m
up_behind m known.no_mount is free = ap down_count free
up_behind m known.log_is_up is free = absurd is
up_behind m known.log_in_doubt is free = absurd is
up_behind m known.log_is_down is free = absurd is

pub up_told : {D : Type 0} (fault_count : D → ℕ) (disk : D) (up : Up D) → up.mounted.store.stage ≡ Free → IsTold fault_count news.comes_up (device.Idle disk) (device.Mounted up)
up_told fault_count disk up free = record {
  may = λ log is. up_may log is;
  behind = λ log is. up_behind up.mounted log is free;
  fault = λ none. absurd cc;
}

-- a mount did not: what is told while no mount is up leaves none up
stays_idle : (log : LogKnown) (told : News) → IsNoMount log → (MaySay known.no_mount told × (known_behind known.no_mount told ≡ known.no_mount)) → MaySay log told × IsNoMount (known_behind log told)
stays_idle known.no_mount told is may = (may.0, subst IsNoMount (sym may.1) tt)
stays_idle known.log_is_up told is may = absurd is
stays_idle known.log_in_doubt told is may = absurd is
stays_idle known.log_is_down told is may = absurd is

idle_told : {D : Type 0} (fault_count : D → ℕ) (told : News) (old new : D) → (MaySay known.no_mount told × (known_behind known.no_mount told ≡ known.no_mount))
    → (IsTrue (is_fault told) → Rose (fault_count old) (fault_count new)) → IsTold fault_count told (device.Idle old) (device.Idle new)
idle_told fault_count told old new may rose = record {
  may = λ log is. (stays_idle log told is may).0;
  behind = λ log is. (stays_idle log told is may).1;
  fault = rose;
}

down_told : {D : Type 0} (fault_count : D → ℕ) (fault : MountFault) (reply : LineReply) (old new : D) → refusal_of fault ≡ Some reply → IsDeviceCause (fault_count old) (fault_count new) fault
    → IsTold fault_count (news_of_line reply) (device.Idle old) (device.Idle new)
down_told fault_count (Damaged rule sector) reply old new is cause =
    subst (λ (r : LineReply). IsTold fault_count (news_of_line r) (device.Idle old) (device.Idle new)) (same_Some (line.Damaged rule sector) reply is) (idle_told fault_count news.other_news old new (tt, refl) (λ none. absurd cc))
down_told fault_count ReadFault reply old new is cause =
    subst (λ (r : LineReply). IsTold fault_count (news_of_line r) (device.Idle old) (device.Idle new)) (same_Some line.ReadFault reply is) (idle_told fault_count news.read_fails old new (tt, refl) (λ told. cause))
down_told fault_count WriteFault reply old new is cause =
    subst (λ (r : LineReply). IsTold fault_count (news_of_line r) (device.Idle old) (device.Idle new)) (same_Some line.WriteFault reply is) (idle_told fault_count news.write_fails old new (tt, refl) (λ told. cause))
down_told fault_count FlushFault reply old new is cause =
    subst (λ (r : LineReply). IsTold fault_count (news_of_line r) (device.Idle old) (device.Idle new)) (same_Some line.FlushFault reply is) (idle_told fault_count news.flush_fails old new (tt, refl) (λ told. cause))
down_told fault_count PositionEnd reply old new is cause =
    subst (λ (r : LineReply). IsTold fault_count (news_of_line r) (device.Idle old) (device.Idle new)) (same_Some line.PositionEnd reply is) (idle_told fault_count news.positions_end old new (tt, refl) (λ none. absurd cc))
down_told fault_count NoMemory reply old new is cause = absurd (none-some reply is)

-- what the answers of a mount line tell
pub mount_stopped : {D : Type 0} (fault_count : D → ℕ) (old_past : List MountRecord) (old new : D) (names : Names) (past : Vec MountRecord Global) (more : List MountRecord) → past.items ≡ old_past ++ more
    → TellsOfLog fault_count old_past (device.Idle old) (Answered (record { names = names; past = past; device = device.Idle new }) (line_said line.Stopped))
mount_stopped fault_count old_past old new names past more items =
    (subst (RecordsGrow old_past) (sym items) (more_records old_past more), stop_told fault_count (device.Idle old) new)

pub mount_up : {D : Type 0} (fault_count : D → ℕ) (old_past : List MountRecord) (old : D) (names : Names) (past : Vec MountRecord Global) (up : Up D) (kept freed : ℕ) → past.items ≡ old_past
    → up.mounted.store.stage ≡ Free
    → TellsOfLog fault_count old_past (device.Idle old) (Answered (record { names = names; past = past; device = device.Mounted up }) (line_said (line.Mounted kept freed)))
mount_up fault_count old_past old names past up kept freed items free =
    (subst (λ (l : List MountRecord). RecordsGrow old_past (l ++ up.mounted.story ∷ [])) (sym items) (more_records old_past (up.mounted.story ∷ [])), up_told fault_count old up free)

pub begun_stopped : {D : Type 0} (fault_count : D → ℕ) (old_past : List MountRecord) (begun : Option MountRecord) (old new : D) (names : Names) (past : Vec MountRecord Global)
    → past.items ≡ records_begun old_past begun
    → TellsOfLog fault_count old_past (device.Idle old) (Answered (record { names = names; past = past; device = device.Idle new }) (line_said line.Stopped))
begun_stopped fault_count old_past begun old new names past items =
    (subst (RecordsGrow old_past) (sym items) (begun_records old_past begun), stop_told fault_count (device.Idle old) new)

pub begun_refused : {D : Type 0} (fault_count : D → ℕ) (old_past : List MountRecord) (begun : Option MountRecord) (fault : MountFault) (reply : LineReply) (old new : D) (names : Names)
    (past : Vec MountRecord Global) → past.items ≡ records_begun old_past begun → refusal_of fault ≡ Some reply → IsDeviceCause (fault_count old) (fault_count new) fault
    → TellsOfLog fault_count old_past (device.Idle old) (Answered (record { names = names; past = past; device = device.Idle new }) (line_said reply))
begun_refused fault_count old_past begun fault reply old new names past items is cause =
    (subst (RecordsGrow old_past) (sym items) (begun_records old_past begun), down_told fault_count fault reply old new is cause)

-- ---- an answer that leaves the records as they are

pub same_line : {D : Type 0} (fault_count : D → ℕ) (old_past : List MountRecord) (old new : Device D) (names : Names) (past : Vec MountRecord Global) (reply : LineReply)
    → records_with past.items new ≡ records_with old_past old → IsTold fault_count (news_of_line reply) old new
    → TellsOfLog fault_count old_past old (Answered (record { names = names; past = past; device = new }) (line_said reply))
same_line fault_count old_past old new names past reply same told = (equal_records (records_with old_past old) (records_with past.items new) same, told)

-- one that tells nothing, over the device as it was
pub plain_line : {D : Type 0} (fault_count : D → ℕ) (old : Device D) (names : Names) (past : Vec MountRecord Global) (reply : LineReply) → news_of_line reply ≡ news.other_news
    → TellsOfLog fault_count past.items old (Answered (record { names = names; past = past; device = old }) (line_said reply))
plain_line fault_count old names past reply nothing =
    same_line fault_count past.items old old names past reply refl
    (subst (λ (told : News). IsTold fault_count told old old) (sym nothing) (nothing_told fault_count old old (λ log is. is)))

-- ---- lines that stop the device

pub stops_mount : {D : Type 0} (cells : D → List Cell) (arming : D → Arming) (fault_count : D → ℕ) (names : Names) (past : List MountRecord) (old new : Up D) (comes : Comes D)
    → EntriesStay old.mounted.story new.mounted.story → ComesToStop cells arming fault_count names past new.mounted comes → TellsOfLog fault_count past (device.Mounted old) comes
stops_mount cells arming fault_count names past old new (Unanswered run) stay stopped = absurd stopped
stops_mount {D = D} cells arming fault_count names past old new (Answered run said) stay stopped =
    let records : records_with run.past.items run.device ≡ past ++ new.mounted.story ∷ [] = ap (λ (d : Device D). records_with run.past.items d) stopped.idle ∙ stopped.records in (
      subst (RecordsGrow (past ++ old.mounted.story ∷ [])) (sym records) (last_record past old.mounted.story new.mounted.story stay),
      subst (λ (x : Said). IsTold fault_count (news_of (records_with run.past.items run.device) x) (device.Mounted old) run.device) (sym stopped.said_is)
          (subst (IsTold fault_count news.stops (device.Mounted old)) (sym stopped.idle) (stop_told fault_count (device.Mounted old) (disk_of_run run))),
    )

-- ---- a stop that is armed

armed_records : {D : Type 0} (known : Bool) (cells : D → List Cell) (sector_count fault_count : D → ℕ) (arming : D → Arming) (past : List MountRecord) (old new : Device D)
    → IsArmedOn known cells sector_count fault_count arming old new → records_with past new ≡ records_with past old
armed_records known cells sector_count fault_count arming past (device.Idle old) (device.Idle new) on = refl
armed_records known cells sector_count fault_count arming past (device.Idle old) (device.Mounted new) on = absurd on
armed_records known cells sector_count fault_count arming past (device.Mounted old) (device.Idle new) on = absurd on
armed_records known cells sector_count fault_count arming past (device.Mounted old) (device.Mounted new) on = ap (λ (r : MountRecord). past ++ r ∷ []) on.story

pub same_stage : {D : Type 0} (log : LogKnown) (old new : Mounted D) → new.store.stage ≡ old.store.stage → LogOfMountIs log old → LogOfMountIs log new
same_stage known.no_mount old new same is = is
same_stage known.log_is_up old new same is = ap down_count same ∙ is
same_stage known.log_in_doubt old new same is = tt
same_stage known.log_is_down old new same is = (is.0, same ∙ is.1)

armed_log : {D : Type 0} (known : Bool) (cells : D → List Cell) (sector_count fault_count : D → ℕ) (arming : D → Arming) (log : LogKnown) (old new : Device D)
    → IsArmedOn known cells sector_count fault_count arming old new → LogIs log old → LogIs log new
armed_log known cells sector_count fault_count arming log (device.Idle old) (device.Idle new) on is = is
armed_log known cells sector_count fault_count arming log (device.Idle old) (device.Mounted new) on is = absurd on
armed_log known cells sector_count fault_count arming log (device.Mounted old) (device.Idle new) on is = absurd on
armed_log known cells sector_count fault_count arming log (device.Mounted old) (device.Mounted new) on is = same_stage log old.mounted new.mounted on.stage is

pub armed_tells : {D : Type 0} (known : Bool) (cells : D → List Cell) (sector_count fault_count : D → ℕ) (arming : D → Arming) (count sectors : ℕ) (old new : Device D) (names : Names)
    (past : Vec MountRecord Global) → IsArmedDevice known cells sector_count fault_count arming count sectors old new
    → TellsOfLog fault_count past.items old (Answered (record { names = names; past = past; device = new }) (line_said line.Armed))
armed_tells known cells sector_count fault_count arming count sectors old new names past armed =
    same_line fault_count past.items old new names past line.Armed (armed_records known cells sector_count fault_count arming past.items old new armed.on)
    (nothing_told fault_count old new (λ log is. armed_log known cells sector_count fault_count arming log old new armed.on is))
