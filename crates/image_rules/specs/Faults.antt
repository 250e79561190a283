-- What an answer says of a group.
use Rattle.std.specs.Prelude.{◌≡◌, ◌<◌, ◌≤◌, ℕ, List, Option, None, Some, ⊤}
use Rattle.life_bytes.specs.declared.sector.Sector.{Sector}
use Rattle.life_ports.specs.Faults.{Rose}
use Rattle.geometry.specs.declared.shape.Geometry.{Geometry}
use Rattle.sound_image.specs.Damage.{Rule, groups_rule_number, HoldsIn, BreaksIn, FirstGroupsDamage}
use Rattle.image_rules.specs.declared.fault.CheckFault.{CheckFault}
use Rattle.image_rules.specs.declared.fault.Damage.{Damage}
use Rattle.image_rules.specs.declared.fault.CheckFault.TheVariants.{Damaged, ReadFault, NoMemory}

-- the first damage of one group: the least rule that is broken in it, by its number, and the least sector at which it is
pub record IsFirstIn (g : Geometry) (image : List Sector) (group number s : ℕ) : Type 0 where
  pub rule : Rule
  pub numbered : groups_rule_number rule ≡ number
  pub before : (other : Rule) → groups_rule_number other < number → HoldsIn g image other group
  pub broken : BreaksIn g image rule group s
  pub least : (other : ℕ) → BreaksIn g image rule group other → s ≤ other

-- damage is the first of the group; other faults say nothing of it
abbrev pub FaultIn : Geometry → List Sector → ℕ → CheckFault → Type 0
FaultIn g image group (Damaged number s) = IsFirstIn g image group number s
FaultIn g image group ReadFault = ⊤
FaultIn g image group NoMemory = ⊤

-- no damage: a read failed, which the count of faults tells, or memory lacked
abbrev pub IsOutside : ℕ → ℕ → CheckFault → Type 0
IsOutside before now (Damaged number s) = ⊥
IsOutside before now ReadFault = Rose before now
IsOutside before now NoMemory = ⊤

-- a read fault comes only where the count of faults rose
abbrev pub IsCaused : ℕ → ℕ → CheckFault → Type 0
IsCaused before now (Damaged number s) = ⊤
IsCaused before now ReadFault = Rose before now
IsCaused before now NoMemory = ⊤

-- all rules up to that of the bitmap hold in a group
abbrev pub SpaceHolds : Geometry → List Sector → ℕ → Type 0
SpaceHolds g image group = (rule : Rule) → groups_rule_number rule ≤ 10 → HoldsIn g image rule group

-- all rules hold in a group
abbrev pub AllHold : Geometry → List Sector → ℕ → Type 0
AllHold g image group = (rule : Rule) → HoldsIn g image rule group

-- what a check of a group finds in it: nothing, or its first damage
abbrev pub IsChecked : Geometry → List Sector → ℕ → Option Damage → Type 0
IsChecked g image group None = AllHold g image group
IsChecked g image group (Some damage) = IsFirstIn g image group damage.rule damage.sector

-- the first damage of the first groups: the least rule that is broken in one of them, and the least sector at which it is
pub record IsFirstBelow (g : Geometry) (image : List Sector) (bound number s : ℕ) : Type 0 where
  pub rule : Rule
  pub numbered : groups_rule_number rule ≡ number
  pub before : (other : Rule) → groups_rule_number other < number → (group : ℕ) → group < bound → HoldsIn g image other group
  pub group : ℕ
  pub low : group < bound
  pub broken : BreaksIn g image rule group s
  pub least : (k other : ℕ) → k < bound → BreaksIn g image rule k other → s ≤ other

-- the first groups are sound, or this is their first damage
abbrev pub AreChecked : Geometry → List Sector → ℕ → Option Damage → Type 0
AreChecked g image bound None = (group : ℕ) → group < bound → AllHold g image group
AreChecked g image bound (Some damage) = IsFirstBelow g image bound damage.rule damage.sector

-- damage is the first of all groups of the image; other faults say nothing of it
abbrev pub IsDamage : Geometry → List Sector → CheckFault → Type 0
IsDamage g image (Damaged number s) = (rule : Rule) × (groups_rule_number rule ≡ number) × FirstGroupsDamage g image rule s
IsDamage g image ReadFault = ⊤
IsDamage g image NoMemory = ⊤

-- of two damages the one by the lesser rule, and by one rule the one at the lesser sector
pub data IsEarlier : Damage → Damage → Damage → Type 0 where
  first_rule : (a b : Damage) → a.rule < b.rule → IsEarlier a b a
  second_rule : (a b : Damage) → b.rule < a.rule → IsEarlier a b b
  first_sector : (a b : Damage) → a.rule ≡ b.rule → a.sector ≤ b.sector → IsEarlier a b a
  second_sector : (a b : Damage) → a.rule ≡ b.rule → b.sector ≤ a.sector → IsEarlier a b b
