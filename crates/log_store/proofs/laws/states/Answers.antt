use Rattle.std.proofs.Common.{◌≡◌, ◌+◌, ◌≤◌, ◌^◌, List, length, refl, sym, ap, ◌∙◌, subst, arith}
use Rattle.life_limits.specs.declared.TheConstants.{MAX_RECORD_SECTORS}
use Rattle.life_bytes.specs.declared.sector.Sector.{Sector}
use Rattle.disk_model.specs.Disk.{Cell, IsImage}
use Rattle.disk_model.specs.DiskLaws.{length-written}
use Rattle.log_record.specs.Encoding.{encoded_record}
use Rattle.log_image.specs.Step.{sector_of_position}
use Rattle.log_image.specs.Writes.{first_part, rest_part}
use Rattle.log_store.specs.declared.store.Stage.{Stage}
use Rattle.log_store.specs.declared.store.Stage.TheVariants.{Free, Half, Record, Cover, Down}
use Rattle.log_store.specs.Landed.{RingFits}
use Rattle.log_store.specs.OnDisk.{HoldsAtStage, Replays, ReplaysTo, base_of, cover_record, half_written, item_of}
use Rattle.log_store.specs.State.{State}
use Rattle.log_store.proofs.Base.{rest_replays}
use Rattle.log_store.proofs.laws.states.Goals as goal

fits_before : (s : State) (cells before : List Cell) → length cells ≡ length before → RingFits s cells → RingFits s before
fits_before s cells before same fits = record { some = fits.some; place = omega (arith, fits.place) }

-- what replays to the base before replays to the base now
moved : (s : State) (cells before : List Cell) (image : List Sector) → base_of s cells ≡ base_of s before → ReplaysTo s before image → ReplaysTo s cells image
moved s cells before image same is = subst (λ (b : List Sector). Replays s.anchor s.ring (s.head + MAX_RECORD_SECTORS) b s.list s.durable image) (sym same) is

by_stage : (c : goal.After-cover_flights) (s : State) (cells : List Cell) (image : List Sector) (stage : Stage) → (stage ≡ Cover → s.head + 1 ≤ 2 ^ 63) → RingFits s cells
    → IsImage cells image → HoldsAtStage stage s cells → ReplaysTo s cells image
by_stage c s cells image Free end fits is rest = rest_replays s cells image rest is
by_stage c s cells image Half end fits is (before, flies, at) =
    let size : length cells ≡ length before = ap length at ∙ length-written (sector_of_position s.anchor s.ring s.head) (first_part s.ring (item_of s)) before in
    let room = fits_before s cells before size fits in
    moved s cells before image (ap (base_of s) at ∙ c.flights.ensures.half_base s before room)
    (c.flights.ensures.half s before image flies room (subst (λ (cs : List Cell). IsImage cs image) at is))
by_stage c s cells image Record end fits is (before, flies, at) =
    let size : length cells ≡ length before = ap length at ∙ length-written (s.anchor + 1) (rest_part s.ring (item_of s)) (half_written s before)
    ∙ length-written (sector_of_position s.anchor s.ring s.head) (first_part s.ring (item_of s)) before in
    let room = fits_before s cells before size fits in
    moved s cells before image (ap (base_of s) at ∙ c.flights.ensures.full_base s before flies room)
    (c.flights.ensures.full s before image flies room (subst (λ (cs : List Cell). IsImage cs image) at is))
by_stage c s cells image Cover end fits is (before, covers, at) =
    let size : length cells ≡ length before = ap length at ∙ length-written (sector_of_position s.anchor s.ring s.head) (encoded_record (cover_record s)) before in
    let room = fits_before s cells before size fits in
    moved s cells before image (ap (base_of s) at ∙ c.cover_flights.ensures.written_base s before room)
    (c.cover_flights.ensures.written s before image covers room (end refl) (subst (λ (cs : List Cell). IsImage cs image) at is))
by_stage c s cells image (Down fault) end fits is holds = holds image is

pub returns : goal.returns
returns c = record { replays = λ s cells image holds fits end is. by_stage c s cells image s.stage end fits is holds }
