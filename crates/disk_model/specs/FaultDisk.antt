-- A disk that fails at chosen calls: the disk beneath it, and the plan of its faults.
use Rattle.std.specs.Prelude.{◌⊎◌, ℕ}
use Rattle.life_ports.specs.FaultPlan.{Plan, FailsNext}
use Rattle.life_ports.specs.Faults.{Rose}
use Rattle.disk_model.specs.declared.fault_disk.FaultDisk.{FaultDisk}

abbrev pub inner_of : {D : Type 0} → FaultDisk D → D
inner_of disk = disk.inner

abbrev pub plan_of : {D : Type 0} → FaultDisk D → Plan
plan_of disk = disk.plan

-- a call fails only where the plan says so, or where the disk beneath failed
abbrev pub FailsHere : Plan → ℕ → ℕ → Type 0
FailsHere plan before now = FailsNext plan ⊎ Rose before now
