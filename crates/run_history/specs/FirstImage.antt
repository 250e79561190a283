-- What the first image decides of a run: whether a mount may come up, and what a mount line says of an image that is not sound.
use Rattle.std.specs.Prelude.{◌≡◌, ◌≤◌, ⊤, ℕ, List, None, Some, length, slice_get}
use Rattle.life_bytes.specs.declared.sector.Sector.{Sector}
use Rattle.disk_model.specs.Disk.{Cell, IsImage}
use Rattle.life_table.specs.declared.types.MountRecord.{MountRecord}
use Rattle.whole_image.specs.Damage.{IsFirstDamage, IsSound}
use Rattle.script.specs.declared.types.Command.TheVariants as command
use Rattle.script.specs.declared.types.Line.{Line as ScriptLine}
use Rattle.script.specs.declared.answers.LineReply.TheVariants as line
use Rattle.script.specs.declared.answers.Said.{Said}
use Rattle.script.specs.declared.answers.Said.TheVariants.{Line}
use Rattle.run_history.specs.Answers.{line_said}

-- an answer that an image has damage, or that a read of it failed
abbrev pub TellsDamage : Said → Type 0
TellsDamage (Line None (line.Damaged rule sector)) = ⊤
TellsDamage (Line None line.ReadFault) = ⊤
TellsDamage said = ⊥

-- A mount line that says damage names the first damage of the first image. A mount is begun of a sound one alone. Of another each mount line tells its damage, or that
-- a read failed; and a crash leaves it as it was.
pub record FitsFirstImage (before : List Sector) (lines : List ScriptLine) (said : List Said) (mounts : List MountRecord) (cells : List Cell) : Type 0 where
  pub damaged : (i rule sector : ℕ) → slice_get said i ≡ Some (line_said (line.Damaged rule sector)) → IsFirstDamage before (record { rule = rule; sector = sector })
  pub sound : 1 ≤ length mounts → IsSound before
  pub refused : (IsSound before → ⊥) → (i : ℕ) (asked : ScriptLine) (one : Said) → slice_get lines i ≡ Some asked → asked.command ≡ command.Mount
      → slice_get said i ≡ Some one → TellsDamage one
  pub untouched : (IsSound before → ⊥) → (image : List Sector) → IsImage cells image → image ≡ before
