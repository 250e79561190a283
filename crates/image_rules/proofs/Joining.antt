-- The first damage of several groups.
use Rattle.std.proofs.Common.{◌≡◌, ◌<◌, ◌≤◌, ◌+◌, ℕ, List, Option, None, Some, inl, inr, sym, subst, ◌∙◌, arith}
use Rattle.std.proofs.lemmas.Bool.{cases_lt}
use Rattle.life_bytes.specs.declared.sector.Sector.{Sector}
use Rattle.geometry.specs.declared.shape.Geometry.{Geometry}
use Rattle.sound_image.specs.Damage.{Rule, groups_rule_number, HoldsIn, BreaksIn, FirstGroupsDamage}
use Rattle.image_rules.specs.declared.fault.Damage.{Damage}
use Rattle.image_rules.specs.Faults.{AllHold, AreChecked, IsFirstBelow, IsFirstIn, IsChecked, IsEarlier, first_rule, second_rule, first_sector, second_sector}

-- what the law says
abbrev pub NotBoth : Type 0
NotBoth = (g : Geometry) (image : List Sector) (rule : Rule) (group s : ℕ) → HoldsIn g image rule group → BreaksIn g image rule group s → ⊥

abbrev pub OneRule : Type 0
OneRule = (a b : Rule) → groups_rule_number a ≡ groups_rule_number b → a ≡ b

-- up to and with a group
up_to : (P : ℕ → Type 0) (n k : ℕ) → ((j : ℕ) → j < n → P j) → P n → k < n + 1 → P k
up_to P n k below at lt = elim (cases_lt k n) [ inl l ↦ below k l | inr ge ↦ let e : n ≡ k = omega arith in subst P e at ]

-- the groups before hold where damage of theirs is by a later rule, or there is none
BelowHolds : Geometry → List Sector → ℕ → ℕ → Type 0
BelowHolds g image n number = (other : Rule) → groups_rule_number other < number → (group : ℕ) → group < n → HoldsIn g image other group

-- the damage of the groups before stays the first
keep : NotBoth → (g : Geometry) (image : List Sector) (n number s : ℕ) (x : IsFirstBelow g image n number s) → ((other : Rule) → groups_rule_number other < number → HoldsIn g image other n)
    → ((other : ℕ) → BreaksIn g image x.rule n other → s ≤ other) → IsFirstBelow g image (n + 1) number s
keep not_both g image n number s x holds low = record {
  rule = x.rule;
  numbered = x.numbered;
  before = λ other lt group small. up_to (HoldsIn g image other) n group (x.before other lt) (holds other lt) small;
  group = x.group;
  low = omega (arith, x.low);
  broken = x.broken;
  least = λ k other small b. up_to (λ (j : ℕ). BreaksIn g image x.rule j other → s ≤ other) n k (λ j l. x.least j other l) (low other) small b;
}

-- that of the group becomes the first
change : (g : Geometry) (image : List Sector) (n number s : ℕ) (y : IsFirstIn g image n number s) → ((other : Rule) → groups_rule_number other < number → (group : ℕ) → group < n → HoldsIn g image other group)
    → ((k other : ℕ) → k < n → BreaksIn g image y.rule k other → s ≤ other) → IsFirstBelow g image (n + 1) number s
change g image n number s y holds low = record {
  rule = y.rule;
  numbered = y.numbered;
  before = λ other lt group small. up_to (HoldsIn g image other) n group (holds other lt) (y.before other lt) small;
  group = n;
  low = omega arith;
  broken = y.broken;
  least = λ k other small b. up_to (λ (j : ℕ). BreaksIn g image y.rule j other → s ≤ other) n k (λ j l. low j other l) (y.least other) small b;
}

joined : NotBoth → OneRule → (g : Geometry) (image : List Sector) (n : ℕ) (a b c : Damage) → IsEarlier a b c → IsFirstBelow g image n a.rule a.sector → IsFirstIn g image n b.rule b.sector
    → IsFirstBelow g image (n + 1) c.rule c.sector
joined not_both one g image n _ _ _ (first_rule a b lt) x y =
    keep not_both g image n a.rule a.sector x (λ other less. y.before other (omega arith)) (λ other bad. absurd (not_both g image x.rule n other (y.before x.rule (omega (arith, lt, x.numbered))) bad))
joined not_both one g image n _ _ _ (second_rule a b lt) x y =
    change g image n b.rule b.sector y (λ other less. x.before other (omega arith))
    (λ k other small bad. absurd (not_both g image y.rule k other (x.before y.rule (omega (arith, lt, y.numbered)) k small) bad))
joined not_both one g image n _ _ _ (first_sector a b same le) x y =
    let e : x.rule ≡ y.rule = one x.rule y.rule (x.numbered ∙ same ∙ sym y.numbered) in
    keep not_both g image n a.rule a.sector x (λ other less. y.before other (omega arith))
    (λ other bad. omega (arith, le, y.least other (subst (λ (rule : Rule). BreaksIn g image rule n other) e bad)))
joined not_both one g image n _ _ _ (second_sector a b same le) x y =
    let e : y.rule ≡ x.rule = one y.rule x.rule (y.numbered ∙ sym same ∙ sym x.numbered) in
    change g image n b.rule b.sector y (λ other less. x.before other (omega arith))
    (λ k other small bad. omega (arith, le, x.least k other small (subst (λ (rule : Rule). BreaksIn g image rule k other) e bad)))

pub both : NotBoth → OneRule → (g : Geometry) (image : List Sector) (n : ℕ) (a b c : Damage) → IsEarlier a b c → AreChecked g image n (Some a) → IsChecked g image n (Some b) → AreChecked g image (n + 1) (Some c)
both not_both one g image n a b c is x y = joined not_both one g image n a b c is x y

pub none_in : NotBoth → (g : Geometry) (image : List Sector) (n : ℕ) (first : Option Damage) → AreChecked g image n first → IsChecked g image n None → AreChecked g image (n + 1) first
none_in not_both g image n None x y = λ group lt. up_to (AllHold g image) n group x y lt
none_in not_both g image n (Some a) x y = keep not_both g image n a.rule a.sector x (λ other less. y other) (λ other bad. absurd (not_both g image x.rule n other (y x.rule) bad))

pub none_before : NotBoth → (g : Geometry) (image : List Sector) (n : ℕ) (second : Option Damage) → AreChecked g image n None → IsChecked g image n second → AreChecked g image (n + 1) second
none_before not_both g image n None x y = λ group lt. up_to (AllHold g image) n group x y lt
none_before not_both g image n (Some b) x y =
    change g image n b.rule b.sector y (λ other less group small. x group small other) (λ k other small bad. absurd (not_both g image y.rule k other (x k small y.rule) bad))

-- all groups
pub whole : (g : Geometry) (image : List Sector) (number s : ℕ) → IsFirstBelow g image g.groups number s → (rule : Rule) × (groups_rule_number rule ≡ number) × FirstGroupsDamage g image rule s
whole g image number s x = (
  x.rule,
  x.numbered,
  record {
    before = λ other lt group small. x.before other (omega (arith, lt, x.numbered)) group small;
    broken = (x.group, x.low, x.broken);
    least = λ other b. x.least b.0 other b.1 b.2;
  },
)
