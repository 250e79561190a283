-- What a mount line may say of an image that no mount was begun of.
use Rattle.std.proofs.Common.{Vec, Global, ◌≡◌, ◌⊎◌, ◌∙◌, ℕ, Bool, true, false, List, [], ◌∷◌, ◌++◌, length, sym, ap, subst, inl, inr, arith, length-append}
use Rattle.std.specs.Prelude.{Option, None, Some}
use Rattle.std.proofs.lemmas.Bool.{false≢true, true≢false}
use Rattle.std.proofs.lemmas.Option.{none-some, same_Some}
use Rattle.life_bytes.specs.declared.sector.Sector.{Sector}
use Rattle.geometry.specs.declared.shape.Damaged.{Damaged as Damage}
use Rattle.disk_model.specs.Disk.{Arming, Cell, IsImage, as_read}
use Rattle.disk_model.specs.DiskLaws.{IsImage-as_read}
use Rattle.life_table.specs.declared.key.Key.{Key}
use Rattle.life_table.specs.declared.types.MountRecord.{MountRecord}
use Rattle.life_table.specs.declared.table.Table.{Table}
use Rattle.whole_image.specs.Damage.{FirstDamage, ImageRule, IsFirstDamage, IsSound}
use Rattle.mount.specs.Faults.{IsMountCause}
use Rattle.mount.specs.Mounts.{ArmsDown}
use Rattle.mount.specs.declared.fault.MountFault.{MountFault}
use Rattle.mount.specs.declared.fault.MountFault.TheVariants.{Damaged, ReadFault, WriteFault, FlushFault, PositionEnd, NoMemory}
use Rattle.mount.specs.declared.mounted.NotMounted.{NotMounted}
use Rattle.script.specs.declared.types.Command.{Command}
use Rattle.script.specs.declared.types.Command.TheVariants as command
use Rattle.script.specs.declared.answers.LineReply.{LineReply}
use Rattle.script.specs.declared.answers.LineReply.TheVariants as line
use Rattle.script.specs.declared.answers.Said.{Said}
use Rattle.script.specs.declared.answers.Said.TheVariants.{Line}
use Rattle.run_history.specs.Answers.{line_said}
use Rattle.run_history.specs.CrashSafe.{IsLeftSafe, last_mount}
use Rattle.run_history.specs.Mounts.{MountStory}
use Rattle.script_runs.specs.Mounting.{IsRefused, records_begun, refusal_of}
use Rattle.script_runs.specs.Running.{IsUntouched, SaysOfUntouched, StaysUntouched}
use Rattle.run_mounts.specs.Safe.{StandsSafe}
use Rattle.script_runs.specs.declared.running.Comes.{Comes}
use Rattle.script_runs.specs.declared.running.Comes.TheVariants.{Answered, Unanswered}
use Rattle.script_runs.specs.declared.running.Device.TheVariants as device

-- ---- a sound image

pub sound_stays : {D : Type 0} (cells : D → List Cell) (before : List Sector) (asked : Command) (result : Comes D) → IsSound before → StaysUntouched cells before asked result
sound_stays cells before asked (Answered run said) sound = inl sound
sound_stays cells before asked (Unanswered run) sound = inl sound

-- a crash may leave a sound image of a run alone, so the disk reads as one
sound_left : (first : Table) (number : ℕ) (last : Option MountStory) (image : List Sector) → IsLeftSafe first number last image → IsSound image
sound_left first number None image left = left.sound
sound_left first number (Some m) image (n, left) = left.represents.sound

pub sound_read : (first : Table) (number : ℕ) (mounts : List MountStory) (cells : List Cell) → StandsSafe first number mounts cells → IsSound (as_read cells)
sound_read first number mounts cells stands = sound_left first number (last_mount mounts) (as_read cells) (stands.crash_safe (as_read cells) (IsImage-as_read cells))

-- it has no first damage
pub unbegun_damaged : ((image : List Sector) (a : ImageRule) (s : ℕ) → IsSound image → ¬ FirstDamage image a s) → (image : List Sector) (fault : MountFault) (begun : Option MountRecord) {Same : Type 0}
    → IsMountCause image fault → IsSound image ⊎ ((begun ≡ None) × Same) → (rule sector : ℕ) → fault ≡ Damaged rule sector → begun ≡ None
unbegun_damaged law image fault begun cause (inr untouched) rule sector is = untouched.0
unbegun_damaged law image fault begun cause (inl sound) rule sector is =
    let damage : IsFirstDamage image (record { rule = rule; sector = sector }) = subst (IsMountCause image) is cause in
    absurd (law image damage.0 sector sound damage.2)

-- ---- one that was only read

-- the damage that an answer names
abbrev damage_of_reply : LineReply → Damage
damage_of_reply (line.Damaged rule sector) = record { rule = rule; sector = sector }
damage_of_reply reply = record { rule = 0; sector = 0 }

abbrev damage_of : Said → Damage
damage_of (Line actor reply) = damage_of_reply reply
damage_of said = record { rule = 0; sector = 0 }

abbrev is_damage_reply : LineReply → Bool
is_damage_reply (line.Damaged rule sector) = true
is_damage_reply reply = false

abbrev is_damage : Said → Bool
is_damage (Line actor reply) = is_damage_reply reply
is_damage said = false

-- what is said of it
says : (before : List Sector) (fault : MountFault) (reply : LineReply) → IsMountCause before fault → refusal_of fault ≡ Some reply
    → IsSound before ⊎ SaysOfUntouched before command.Mount (line_said reply)
says before (Damaged rule sector) reply cause is =
    inr (subst (λ (r : LineReply). SaysOfUntouched before command.Mount (line_said r)) (same_Some (line.Damaged rule sector) reply is) (
      λ mount. tt,
      λ other_rule other_sector same. subst (IsFirstDamage before) (ap damage_of same) cause,
    ))
says before ReadFault reply cause is =
    inr (subst (λ (r : LineReply). SaysOfUntouched before command.Mount (line_said r)) (same_Some line.ReadFault reply is) (
      λ mount. tt,
      λ other_rule other_sector same. absurd (false≢true (ap is_damage same)),
    ))
says before WriteFault reply cause is = inl cause.0
says before FlushFault reply cause is = inl cause
says before PositionEnd reply cause is = inl cause.0
says before NoMemory reply cause is = absurd (none-some reply is)

untouched_records : (old : List MountRecord) (begun : Option MountRecord) → old ≡ [] → begun ≡ None → records_begun old begun ≡ []
untouched_records old begun none unbegun = ap (records_begun old) unbegun ∙ none

pub untouched_refused : {D : Type 0} (cells : D → List Cell) (arming : D → Arming) (before : List Sector) (m : NotMounted D) (names : List (List ℕ × Key)) (old : List MountRecord)
    (past : Vec MountRecord Global) (reply : LineReply) (told : Option LineReply) → old ≡ [] → IsRefused cells arming before m → past.items ≡ records_begun old m.begun → told ≡ refusal_of m.fault
    → told ≡ Some reply
    → IsSound before ⊎ (IsUntouched cells before (record { names = names; past = past; device = device.Idle m.disk }) × SaysOfUntouched before command.Mount (line_said reply))
untouched_refused cells arming before m names old past reply told none refused items refusal is =
    elim refused.kept [
      | inl sound ↦ inl sound
      | inr kept ↦ elim (says before m.fault reply refused.cause (sym refusal ∙ is)) [
        | inl sound ↦ inl sound
        | inr said ↦ inr (record { none = items ∙ untouched_records old m.begun none kept.0; left = kept.1 }, said)
      ]
    ]

pub untouched_broken : {D : Type 0} (cells : D → List Cell) (arming : D → Arming) (before : List Sector) (m : NotMounted D) (names : List (List ℕ × Key)) (old : List MountRecord)
    (past : Vec MountRecord Global) → old ≡ [] → IsRefused cells arming before m → past.items ≡ records_begun old m.begun
    → IsSound before ⊎ IsUntouched cells before (record { names = names; past = past; device = device.Idle m.disk })
untouched_broken cells arming before m names old past none refused items =
    elim refused.kept [
      | inl sound ↦ inl sound
      | inr kept ↦ inr (record { none = items ∙ untouched_records old m.begun none kept.0; left = kept.1 })
    ]

-- a device stops in no read
sound_written : (before : List Sector) (fault : MountFault) (earlier arming : Arming) → IsMountCause before fault → ArmsDown None fault earlier arming → earlier.stopped ≡ false → arming.stopped ≡ true
    → IsSound before
sound_written before (Damaged rule sector) earlier arming cause arms goes_on stopped = absurd (true≢false (sym stopped ∙ ap (λ (a : Arming). a.stopped) arms ∙ goes_on))
sound_written before ReadFault earlier arming cause arms goes_on stopped = absurd (true≢false (sym stopped ∙ ap (λ (a : Arming). a.stopped) arms ∙ goes_on))
sound_written before NoMemory earlier arming cause arms goes_on stopped = absurd (true≢false (sym stopped ∙ ap (λ (a : Arming). a.stopped) arms ∙ goes_on))
sound_written before WriteFault earlier arming cause arms goes_on stopped = cause.0
sound_written before FlushFault earlier arming cause arms goes_on stopped = cause
sound_written before PositionEnd earlier arming cause arms goes_on stopped = cause.0

pub sound_stopped : {D : Type 0} (cells : D → List Cell) (arming : D → Arming) (before : List Sector) (m : NotMounted D) (answer : Bool) → IsRefused cells arming before m
    → answer ≡ (arming m.disk).stopped → answer ≡ true → IsSound before
sound_stopped cells arming before m answer refused asked stopped =
    elim refused.kept [
      | inl sound ↦ sound
      | inr kept ↦ sound_written before m.fault refused.earlier (arming m.disk) refused.cause
          (subst (λ (b : Option MountRecord). ArmsDown b m.fault refused.earlier (arming m.disk)) kept.0 refused.arms) refused.goes_on (sym asked ∙ stopped)
    ]

-- ---- before it

-- the image that it reads as
pub image_before : (cells : List Cell) (before : List Sector) → ((image : List Sector) → IsImage cells image → image ≡ before) → as_read cells ≡ before
image_before cells before left = left (as_read cells) (IsImage-as_read cells)

-- it was sound, or was only read
pub kept_before : (old new : List Cell) (before : List Sector) (begun : Option MountRecord) → ((image : List Sector) → IsImage old image → image ≡ before)
    → IsSound (as_read old) ⊎ ((begun ≡ None) × (new ≡ old)) → IsSound before ⊎ ((begun ≡ None) × ((image : List Sector) → IsImage new image → image ≡ before))
kept_before old new before begun left (inl sound) = inl (subst IsSound (image_before old before left) sound)
kept_before old new before begun left (inr (none, same)) = inr (none, λ image is. left image (subst (λ (cells : List Cell). IsImage cells image) same is))

-- a mount that is up has a record
pub no_record : (past : List MountRecord) (story : MountRecord) → past ++ story ∷ [] ≡ [] → ⊥
no_record past story none = let e : length (past ++ story ∷ []) ≡ 0 = ap length none in omega (arith, e, length-append past (story ∷ []))
