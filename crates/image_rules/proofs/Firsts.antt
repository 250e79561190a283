-- The first damage of a group, where all rules before it hold.
use Rattle.std.proofs.Common.{◌≡◌, ◌<◌, ◌≤◌, ◌+◌, ℕ, Bool, List, Option, None, inl, inr, refl, subst, sym, arith}
use Rattle.std.proofs.lemmas.Bool.{cases_lt}
use Rattle.life_bytes.specs.declared.sector.Sector.{Sector}
use Rattle.geometry.specs.declared.shape.Geometry.{Geometry}
use Rattle.sound_image.specs.Damage.{Rule, header, tree, core, fork, blocks, bitmap, pointers, lists, groups_rule_number, HoldsIn}
use Rattle.sound_image.specs.Places.{sector_in}
use Rattle.sound_image.specs.Reading.{page_sector}
use Rattle.sound_image.specs.Rules.{IsHeaderRight, IsPageRight, AreCountsRight, IsBitmapRight}
use Rattle.image_rules.specs.Faults.{FaultIn, IsFirstIn}
use Rattle.image_rules.specs.declared.fault.CheckFault.{CheckFault}
use Rattle.image_rules.specs.declared.fault.CheckFault.TheVariants.{Damaged, ReadFault, NoMemory}
use Rattle.image_rules.specs.Gathered.{AllGathered, BitmapFault, CoreFault, FirstCore, FirstFork, FirstShared}
use Rattle.image_rules.proofs.Gathering.{row_none}

-- the rules before one
before_header : (P : Rule → Type 0) (other : Rule) → groups_rule_number other < 5 → P other
before_header P header lt = absurd (omega arith)
before_header P tree lt = absurd (omega arith)
before_header P core lt = absurd (omega arith)
before_header P fork lt = absurd (omega arith)
before_header P blocks lt = absurd (omega arith)
before_header P bitmap lt = absurd (omega arith)
before_header P pointers lt = absurd (omega arith)
before_header P lists lt = absurd (omega arith)

before_tree : (P : Rule → Type 0) → P header → (other : Rule) → groups_rule_number other < 6 → P other
before_tree P a header lt = a
before_tree P a tree lt = absurd (omega arith)
before_tree P a core lt = absurd (omega arith)
before_tree P a fork lt = absurd (omega arith)
before_tree P a blocks lt = absurd (omega arith)
before_tree P a bitmap lt = absurd (omega arith)
before_tree P a pointers lt = absurd (omega arith)
before_tree P a lists lt = absurd (omega arith)

pub header_first : (g : Geometry) (image : List Sector) (group s : ℕ) → s ≡ sector_in g group 2 → (IsHeaderRight g image group → ⊥) → IsFirstIn g image group 5 s
header_first g image group s place wrong = record {
  rule = header;
  numbered = refl;
  before = before_header (λ (rule : Rule). HoldsIn g image rule group);
  broken = (place, wrong);
  least = λ other b. omega (arith, place, b.0);
}

pub page_first : (g : Geometry) (image : List Sector) (group s : ℕ) → IsHeaderRight g image group → s ≡ page_sector g image group → (IsPageRight g image group → ⊥) → IsFirstIn g image group 6 s
page_first g image group s right place wrong = record {
  rule = tree;
  numbered = refl;
  before = before_tree (λ (rule : Rule). HoldsIn g image rule group) right;
  broken = inl (place, wrong);
  least = λ other b. elim b [ inl x ↦ omega (arith, place, x.0) | inr x ↦ absurd (wrong x.1) ];
}

pub counts_first : (g : Geometry) (image : List Sector) (group s : ℕ) → IsHeaderRight g image group → IsPageRight g image group → s ≡ sector_in g group 2 → (AreCountsRight g image group → ⊥)
    → IsFirstIn g image group 6 s
counts_first g image group s right page place wrong = record {
  rule = tree;
  numbered = refl;
  before = before_tree (λ (rule : Rule). HoldsIn g image rule group) right;
  broken = inr (place, page, wrong);
  least = λ other b. elim b [ inl x ↦ absurd (x.1 page) | inr x ↦ omega (arith, place, x.0) ];
}

-- ---- the inodes

before_core : (P : Rule → Type 0) → P header → P tree → (other : Rule) → groups_rule_number other < 7 → P other
before_core P a b header lt = a
before_core P a b tree lt = b
before_core P a b core lt = absurd (omega arith)
before_core P a b fork lt = absurd (omega arith)
before_core P a b blocks lt = absurd (omega arith)
before_core P a b bitmap lt = absurd (omega arith)
before_core P a b pointers lt = absurd (omega arith)
before_core P a b lists lt = absurd (omega arith)

before_fork : (P : Rule → Type 0) → P header → P tree → P core → (other : Rule) → groups_rule_number other < 8 → P other
before_fork P a b c header lt = a
before_fork P a b c tree lt = b
before_fork P a b c core lt = c
before_fork P a b c fork lt = absurd (omega arith)
before_fork P a b c blocks lt = absurd (omega arith)
before_fork P a b c bitmap lt = absurd (omega arith)
before_fork P a b c pointers lt = absurd (omega arith)
before_fork P a b c lists lt = absurd (omega arith)

before_blocks : (P : Rule → Type 0) → P header → P tree → P core → P fork → (other : Rule) → groups_rule_number other < 9 → P other
before_blocks P a b c d header lt = a
before_blocks P a b c d tree lt = b
before_blocks P a b c d core lt = c
before_blocks P a b c d fork lt = d
before_blocks P a b c d blocks lt = absurd (omega arith)
before_blocks P a b c d bitmap lt = absurd (omega arith)
before_blocks P a b c d pointers lt = absurd (omega arith)
before_blocks P a b c d lists lt = absurd (omega arith)

before_bitmap : (P : Rule → Type 0) → P header → P tree → P core → P fork → P blocks → (other : Rule) → groups_rule_number other < 10 → P other
before_bitmap P a b c d e header lt = a
before_bitmap P a b c d e tree lt = b
before_bitmap P a b c d e core lt = c
before_bitmap P a b c d e fork lt = d
before_bitmap P a b c d e blocks lt = e
before_bitmap P a b c d e bitmap lt = absurd (omega arith)
before_bitmap P a b c d e pointers lt = absurd (omega arith)
before_bitmap P a b c d e lists lt = absurd (omega arith)

pub in_order : (g : Geometry) (group a b : ℕ) → a ≤ b → sector_in g group a ≤ sector_in g group b
unfolding sector_in
in_order g group a b le = omega arith

pub core_first : (g : Geometry) (image : List Sector) (group s : ℕ) → HoldsIn g image header group → HoldsIn g image tree group → FirstCore g image group s → IsFirstIn g image group 7 s
core_first g image group s one two first = record {
  rule = core;
  numbered = refl;
  before = before_core (λ (rule : Rule). HoldsIn g image rule group) one two;
  broken = (first.agino, first.inode, first.place, first.found, first.wrong);
  least = λ other b. elim (cases_lt b.0 first.agino) [
    | inl lt ↦ absurd (b.4 (first.before b.0 lt b.1 b.3))
    | inr ge ↦ omega (arith, first.place, b.2, in_order g group first.agino b.0 ge)
  ];
}

pub fork_first : (g : Geometry) (image : List Sector) (group s : ℕ) → HoldsIn g image header group → HoldsIn g image tree group → HoldsIn g image core group → FirstFork g image group s
    → IsFirstIn g image group 8 s
fork_first g image group s one two three first = record {
  rule = fork;
  numbered = refl;
  before = before_fork (λ (rule : Rule). HoldsIn g image rule group) one two three;
  broken = (first.agino, first.row, first.place, first.found, first.wrong);
  least = λ other b. elim (cases_lt b.0 first.agino) [
    | inl lt ↦ absurd (b.4 (first.before b.0 lt b.1 b.3))
    | inr ge ↦ omega (arith, first.place, b.2, in_order g group first.agino b.0 ge)
  ];
}

pub blocks_first : (g : Geometry) (image : List Sector) (group s : ℕ) → HoldsIn g image header group → HoldsIn g image tree group → HoldsIn g image core group → HoldsIn g image fork group
    → FirstShared g image group s → IsFirstIn g image group 9 s
blocks_first g image group s one two three four first = record {
  rule = blocks;
  numbered = refl;
  before = before_blocks (λ (rule : Rule). HoldsIn g image rule group) one two three four;
  broken = (first.agino, first.row, first.place, first.found, first.wrong);
  least = λ other b. elim (cases_lt b.0 first.agino) [
    | inl lt ↦ absurd (b.4 (first.before b.0 lt b.1 b.3))
    | inr ge ↦ omega (arith, first.place, b.2, in_order g group first.agino b.0 ge)
  ];
}

-- the first sector of the bitmap that is wrong, where those before it are right
pub bitmap_first : (g : Geometry) (image : List Sector) (group s k : ℕ) → HoldsIn g image header group → HoldsIn g image tree group → HoldsIn g image core group → HoldsIn g image fork group
    → HoldsIn g image blocks group → s ≡ sector_in g group (8 + k) → k < 4 → ((j : ℕ) → j < k → IsBitmapRight g image group j) → (IsBitmapRight g image group k → ⊥) → IsFirstIn g image group 10 s
bitmap_first g image group s k one two three four five place low right wrong = record {
  rule = bitmap;
  numbered = refl;
  before = before_bitmap (λ (rule : Rule). HoldsIn g image rule group) one two three four five;
  broken = (k, low, place, wrong);
  least = λ other b. elim (cases_lt b.0 k) [
    | inl lt ↦ absurd (b.3 (right b.0 lt))
    | inr ge ↦ omega (arith, place, b.2, in_order g group (8 + k) (8 + b.0) (omega arith))
  ];
}

-- ---- what all inodes together say

pub cores_hold : (g : Geometry) (image : List Sector) (group : ℕ) (map : List Bool) (first shared : Option ℕ) → AllGathered g image group map first shared → HoldsIn g image core group
cores_hold g image group map first shared all agino inode e =
    elim (cases_lt agino all.bound) [ inl lt ↦ all.gathered.cores agino lt inode e | inr ge ↦ let no = all.none agino ge in cc (no, e) ]

pub forks_hold : (g : Geometry) (image : List Sector) (group : ℕ) (map : List Bool) (shared : Option ℕ) → AllGathered g image group map None shared → HoldsIn g image fork group
forks_hold g image group map shared all agino row e =
    elim (cases_lt agino all.bound) [ inl lt ↦ all.gathered.forks agino lt row e | inr ge ↦ let no = row_none g image group agino (all.none agino ge) in cc (no, e) ]

pub blocks_hold : (g : Geometry) (image : List Sector) (group : ℕ) (map : List Bool) → AllGathered g image group map None None → HoldsIn g image blocks group
blocks_hold g image group map all agino row e =
    elim (cases_lt agino all.bound) [ inl lt ↦ all.gathered.blocks refl agino lt row e | inr ge ↦ let no = row_none g image group agino (all.none agino ge) in cc (no, e) ]

pub up_to_bitmap : (P : Rule → Type 0) → P header → P tree → P core → P fork → P blocks → P bitmap → (other : Rule) → groups_rule_number other ≤ 10 → P other
up_to_bitmap P u v w x y z header le = u
up_to_bitmap P u v w x y z tree le = v
up_to_bitmap P u v w x y z core le = w
up_to_bitmap P u v w x y z fork le = x
up_to_bitmap P u v w x y z blocks le = y
up_to_bitmap P u v w x y z bitmap le = z
up_to_bitmap P u v w x y z pointers le = absurd (omega arith)
up_to_bitmap P u v w x y z lists le = absurd (omega arith)

-- ---- faults

pub core_fault : (g : Geometry) (image : List Sector) (group : ℕ) (fault : CheckFault) → HoldsIn g image header group → HoldsIn g image tree group → CoreFault g image group fault → FaultIn g image group fault
core_fault g image group (Damaged number s) one two is = subst (λ (n : ℕ). IsFirstIn g image group n s) (sym is.0) (core_first g image group s one two is.1)
core_fault g image group ReadFault one two is = tt
core_fault g image group NoMemory one two is = tt

pub bitmap_fault : (g : Geometry) (image : List Sector) (group : ℕ) (fault : CheckFault) → HoldsIn g image header group → HoldsIn g image tree group → HoldsIn g image core group → HoldsIn g image fork group
    → HoldsIn g image blocks group → BitmapFault g image group fault → FaultIn g image group fault
bitmap_fault g image group (Damaged number s) one two three four five is =
    subst (λ (n : ℕ). IsFirstIn g image group n s) (sym is.0) (bitmap_first g image group s is.1.place one two three four five is.1.at is.1.low is.1.before is.1.wrong)
bitmap_fault g image group ReadFault one two three four five is = tt
bitmap_fault g image group NoMemory one two three four five is = tt
