-- The fields of a store after a step.
use Rattle.std.proofs.Common.{◌≡◌, ◌≢◌, ℕ, ◌+◌, List, [], ◌∷◌, None, refl, sym, subst, arith}
use Rattle.std.specs.List.{All}
use Rattle.std.specs.Prelude.{slice_get}
use Rattle.std.proofs.lemmas.List.Elements.{All-head}
use Rattle.life_bytes.specs.declared.sector.Sector.{Sector}
use Rattle.disk_model.specs.Disk.{Cell}
use Rattle.log_record.specs.declared.image.Image.{Image}
use Rattle.log_image.specs.Log.{IsGroupImage}
use Rattle.log_batch.specs.NewestLaws.{none_some}
use Rattle.log_batch.specs.Put.{KeysRise}
use Rattle.log_batch.specs.PutLaws.{rises_lower}
use Rattle.log_store.specs.declared.store.Stage.{Stage}
use Rattle.log_store.specs.declared.store.Stage.TheVariants.{Free}
use Rattle.log_store.specs.OnDisk.{AtRest, HoldsAtStage}
use Rattle.log_store.specs.State.{State}
use Rattle.log_store.specs.declared.store.Job.{Job}
use Rattle.log_store.specs.Steps.{JobFits, StageFits}

pub stage_free : (stage : Stage) (s : State) (sectors : List Sector) (count : ℕ) → stage ≡ Free → StageFits stage s sectors count
stage_free stage s sectors count free = subst (λ (st : Stage). StageFits st s sectors count) (sym free) tt

pub job_free : (stage : Stage) (job : Job) → stage ≡ Free → JobFits stage job
job_free stage job free = subst (λ (st : Stage). JobFits st job) (sym free) tt

pub rest_of : (stage : Stage) (s : State) (cells : List Cell) → stage ≡ Free → HoldsAtStage stage s cells → AtRest s cells
rest_of stage s cells free holds = subst (λ (st : Stage). HoldsAtStage st s cells) free holds

pub held_of : (stage : Stage) (s : State) (cells : List Cell) → stage ≡ Free → AtRest s cells → HoldsAtStage stage s cells
held_of stage s cells free rest = subst (λ (st : Stage). HoldsAtStage st s cells) (sym free) rest

pub rises_rest : (xs : List Image) (x : Image) (rest : List Image) → xs ≡ x ∷ rest → KeysRise (λ i. i.home) 0 xs → KeysRise (λ i. i.home) 0 rest
rises_rest xs x rest is rises =
    let all : KeysRise (λ i. i.home) 0 (x ∷ rest) = subst (λ (l : List Image). KeysRise (λ (i : Image). i.home) 0 l) is rises in
    rises_lower (λ (i : Image). i.home) (x.home + 1) 0 rest (omega arith) all.1

pub first_group : (anchor : ℕ) (xs : List Image) (x : Image) (rest : List Image) → xs ≡ x ∷ rest → All (IsGroupImage anchor) xs → IsGroupImage anchor x
first_group anchor xs x rest is all = All-head (IsGroupImage anchor) x rest (subst (λ (l : List Image). All (IsGroupImage anchor) l) is all)

-- what is not empty has a first
pub some_first : (xs : List Image) → xs ≢ [] → slice_get xs 0 ≡ None → ⊥
some_first [] some none = some refl
some_first (x ∷ xs) some none = none_some (sym none)
