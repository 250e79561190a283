-- What tests of stores ask of one.
use Rattle.std.specs.Prelude.{ℕ, ◌≡◌, Bool, List}
use Rattle.disk_model.specs.Disk.{Cell}
use Rattle.log_store.specs.declared.store.Job.TheVariants.{Idle}
use Rattle.log_store.specs.declared.store.Store.{Store}
use Rattle.log_store.specs.Steps.{IsStore}

-- a store on a disk with 512 sectors of groups
pub record IsSet {D : Type 0} (known : Bool) (cells : D → List Cell) (sector_count : D → ℕ) (store : Store D) : Type 0 where
  pub is : IsStore known cells sector_count store
  pub anchor : store.anchor ≡ 512

-- the same where no job is going
pub record IsReady {D : Type 0} (known : Bool) (cells : D → List Cell) (sector_count : D → ℕ) (store : Store D) : Type 0 where
  pub is : IsStore known cells sector_count store
  pub anchor : store.anchor ≡ 512
  pub idle : store.job ≡ Idle
