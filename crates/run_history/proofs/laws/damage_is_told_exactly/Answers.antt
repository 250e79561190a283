use Rattle.std.proofs.Common.{◌≡◌, ◌≤◌, List, [], ◌∷◌, length, refl, arith}
use Rattle.life_table.specs.declared.types.MountRecord.{MountRecord}
use Rattle.run_history.proofs.laws.damage_is_told_exactly.Goals as goal

empty_or_not : (P : Type 0) (mounts : List MountRecord) → (1 ≤ length mounts → P) → (P → ⊥) → mounts ≡ []
empty_or_not P [] sound not = refl
empty_or_not P (m ∷ mounts) sound not = absurd (not (sound (omega arith)))

pub returns-clause-never : goal.returns-clause-never
returns-clause-never c = λ before lines said mounts cells i rule sector fits sound says.
    let d = fits.damaged i rule sector says in c.one_first_damage.ensures.none before d.0 sector sound d.2

pub returns-clause-none : goal.returns-clause-none
returns-clause-none c = λ before lines said mounts cells fits not. empty_or_not _ mounts fits.sound not
