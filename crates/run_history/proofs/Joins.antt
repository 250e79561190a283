-- How runs join, and runs without lines.
use Rattle.std.proofs.Common.{◌≡◌, ℕ, List, [], Option, Some, refl, sym, subst, arith}
use Rattle.life_bytes.specs.declared.sector.Sector.{Sector}
use Rattle.disk_model.specs.Disk.{Cell, IsImage, settled_as}
use Rattle.disk_model.specs.DiskLaws.{IsImage-settled_as}
use Rattle.life_table.specs.declared.table.Table.{Table}
use Rattle.whole_image.specs.Represents.{Represents}
use Rattle.script.specs.declared.status.Status.TheVariants as status
use Rattle.run_history.specs.Mounts.{MountStory}
use Rattle.run_history.specs.States.{run_begins}
use Rattle.run_history.specs.CrashSafe.{CrashSafe, IsLeftSafe, IsPrefixLeft, last_mount}
use Rattle.run_history.specs.Headline.{Headline}

pub OneTable : Type 0
OneTable = (image : List Sector) (t u : Table) (c d : ℕ) → Represents image t c → Represents image u d → (t ≡ u) × (c ≡ d)

pub left_of : (first : Table) (number : ℕ) (mounts : List MountStory) (m : MountStory) (cells : List Cell) (image : List Sector) → CrashSafe first number mounts cells
    → last_mount mounts ≡ Some m → IsImage cells image → (n : ℕ) × IsPrefixLeft m image n
left_of first number mounts m cells image safe last is = subst (λ (o : Option MountStory). IsLeftSafe first number o image) last (safe image is)

pub settled_safe : (image : List Sector) (first : Table) (number : ℕ) → Represents image first number → CrashSafe first number [] (settled_as image)
settled_safe image first number represents other is = subst (λ (i : List Sector). Represents i first number) (sym (IsImage-settled_as image other is)) represents

pub nothing_said : (image : List Sector) (first : Table) (number : ℕ) → Represents image first number → Headline image [] status.Good [] [] (settled_as image)
nothing_said image first number represents = record {
  first = first;
  number = number;
  represents = represents;
  last = run_begins;
  history = record {
    replies = record { answered = run_begins; answers = refl; ends = (refl, refl); records = refl };
    legal = tt;
    between = record { between = λ earlier later end e f (k, below, is). absurd (omega arith) };
    next_mount = record { follow = tt; recover = tt; durable = tt };
  };
  crash_safe = settled_safe image first number represents;
}
