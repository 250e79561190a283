-- A disk that stops within a chosen write: the disk beneath it, what is armed, and how many of its calls failed by a stop.
use Rattle.std.specs.Prelude.{◌≡◌, ◌≤◌, ◌⊎◌, ℕ, ◌+◌, ◌-◌, ◌^◌, true, false, Option, None, Some, List, min}
use Rattle.std.proofs.Common.{ap, ◌∙◌, arith}
use Rattle.life_bytes.specs.declared.sector.Sector.{Sector}
use Rattle.life_ports.specs.Faults.{Rose}
use Rattle.disk_model.specs.declared.stop_disk.Stop.{Stop}
use Rattle.disk_model.specs.declared.stop_disk.StopDisk.{StopDisk}
use Rattle.disk_model.specs.Disk.{Arming, Cell, Stopping, written, IsPartlyWritten}

abbrev pub stopping_of : Option Stop → Option Stopping
stopping_of None = None
stopping_of (Some stop) = Some (record { writes = stop.writes; sectors = stop.sectors })

abbrev pub inner_of : {D : Type 0} → StopDisk D → D
inner_of disk = disk.inner

abbrev pub arming_of : {D : Type 0} → StopDisk D → Arming
arming_of disk = record { armed = stopping_of disk.armed; stopped = disk.stopped; earlier = disk.earlier }

-- how many calls failed since it stopped
abbrev pub failures_of : {D : Type 0} → StopDisk D → ℕ
failures_of disk = disk.failures

-- a count and so many faults more, up to the last value of a count
abbrev pub count_with : ℕ → ℕ → ℕ
count_with count more = count + min more (2 ^ 64 - 1 - count)

-- all its faults: those of the disk beneath, by that one's count, of earlier stops, and since it stopped
abbrev pub faults_of : {D : Type 0} → (D → ℕ) → StopDisk D → ℕ
faults_of fault_count disk = count_with (count_with (fault_count disk.inner) disk.earlier) disk.failures

-- a disk that has stopped, or has not
abbrev pub HasStopped : Arming → Type 0
HasStopped arming = arming.stopped ≡ true

abbrev pub IsRunning : Arming → Type 0
IsRunning arming = arming.stopped ≡ false

-- the disk stops within its next write, behind so many sectors of it
pub record StopsNext (arming : Arming) (sectors : ℕ) : Type 0 where
  pub goes_on : IsRunning arming
  pub writes : ℕ
  pub last : writes ≤ 1
  pub armed : arming.armed ≡ Some (record { writes = writes; sectors = sectors })

-- Of a write only these pieces passed to the disk beneath, whose counts before and after are these: it took them, or failed.
abbrev pub Passes : ℕ → List Sector → ℕ → ℕ → List Cell → List Cell → Type 0
Passes at pieces before now old new = (new ≡ written at pieces old) ⊎ (Rose before now × IsPartlyWritten at pieces old new)

pub count_with-none : (count : ℕ) → count_with count 0 ≡ count
count_with-none count = omega arith

-- a disk that goes on has the faults of the disk beneath and of earlier stops
pub faults_of-going_on : {D : Type 0} (fault_count : D → ℕ) (disk : StopDisk D) → IsRunning (arming_of disk) → faults_of fault_count disk ≡ count_with (fault_count (inner_of disk)) (arming_of disk).earlier
faults_of-going_on fault_count disk goes_on = ap (λ n. count_with (count_with (fault_count disk.inner) disk.earlier) n) (disk.none_yet goes_on) ∙ count_with-none (count_with (fault_count disk.inner) disk.earlier)
