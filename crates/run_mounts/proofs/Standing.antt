-- The mounts of a run with one mount more, or with another last one.
use Rattle.std.proofs.Common.{◌≡◌, ◌≤◌, ◌+◌, ℕ, List, [], ◌∷◌, ◌++◌, Option, Some, refl, ap, sym, subst, ◌∙◌}
use Rattle.std.specs.List.{AllByRecursion}
use Rattle.life_bytes.specs.declared.sector.Sector.{Sector}
use Rattle.disk_model.specs.Disk.{Cell, IsImage}
use Rattle.life_table.specs.declared.table.Table.{Table}
use Rattle.run_history.specs.CrashSafe.{CrashSafe, IsLeftSafe, IsPrefixLeft, last_mount, last_of}
use Rattle.run_history.specs.Linear.{AreLegalFrom, IsLegalMount}
use Rattle.run_history.specs.Mounts.{MountStory, acknowledged, changes_made, table_after}
use Rattle.run_history.specs.NextMount.{BeginsBehind, Follow, FollowOn, IsAcknowledgedRight, Recovers}
use Rattle.run_history.specs.States.{PastCall}
use Rattle.run_mounts.specs.Safe.{StandsSafe}
use Rattle.run_mounts.proofs.Lists.{all-last, all-more}

-- ---- the last mount

legal-more : (calls : List PastCall) (mount : ℕ) (past : List MountStory) (m : MountStory) → ((k : ℕ) → IsLegalMount calls k m) → AreLegalFrom calls mount past
    → AreLegalFrom calls mount (past ++ m ∷ [])
legal-more calls mount [] m here legal = (here mount, tt)
legal-more calls mount (p ∷ past) m here legal = (legal.0, legal-more calls (mount + 1) past m here legal.1)

legal-last : (calls : List PastCall) (mount : ℕ) (past : List MountStory) (m n : MountStory) → ((k : ℕ) → IsLegalMount calls k m → IsLegalMount calls k n)
    → AreLegalFrom calls mount (past ++ m ∷ []) → AreLegalFrom calls mount (past ++ n ∷ [])
legal-last calls mount [] m n go legal = (go mount legal.0, tt)
legal-last calls mount (p ∷ past) m n go legal = (legal.0, legal-last calls (mount + 1) past m n go legal.1)

legal-at : (calls : List PastCall) (mount : ℕ) (past : List MountStory) (m : MountStory) → AreLegalFrom calls mount (past ++ m ∷ []) → (k : ℕ) × IsLegalMount calls k m
legal-at calls mount [] m legal = (mount, legal.0)
legal-at calls mount (p ∷ past) m legal = legal-at calls (mount + 1) past m legal.1

last-of-more : (p m : MountStory) (past : List MountStory) → last_of p (past ++ m ∷ []) ≡ m
last-of-more p m [] = refl
last-of-more p m (q ∷ past) = last-of-more q m past

last-more : (past : List MountStory) (m : MountStory) → last_mount (past ++ m ∷ []) ≡ Some m
last-more [] m = refl
last-more (p ∷ past) m = ap Some (last-of-more p m past)

all-at-last : (P : MountStory → Type 0) (past : List MountStory) (m : MountStory) → AllByRecursion P (past ++ m ∷ []) → P m
all-at-last P [] m all = all.0
all-at-last P (p ∷ past) m all = all-at-last P past m all.1

-- ---- mounts that begin alike

pub record BeginAlike (m n : MountStory) : Type 0 where
  pub start : n.start ≡ m.start
  pub kept : n.story.kept ≡ m.story.kept
  pub base : n.story.base ≡ m.story.base

behind-alike : (p m n : MountStory) → BeginAlike m n → BeginsBehind p m → BeginsBehind p n
behind-alike p m n alike behind = record {
  start = alike.start ∙ behind.start ∙ ap (table_after p) (sym alike.kept);
  acknowledged = subst (λ (k : ℕ). acknowledged p ≤ k) (sym alike.kept) behind.acknowledged;
  made = subst (λ (k : ℕ). k ≤ changes_made p.story) (sym alike.kept) behind.made;
  base = alike.base ∙ behind.base ∙ ap (λ (k : ℕ). p.story.base + k) (sym alike.kept);
}

follow-on-last : (p : MountStory) (past : List MountStory) (m n : MountStory) → BeginAlike m n → FollowOn p (past ++ m ∷ []) → FollowOn p (past ++ n ∷ [])
follow-on-last p [] m n alike follow = (behind-alike p m n alike follow.0, tt)
follow-on-last p (q ∷ past) m n alike follow = (follow.0, follow-on-last q past m n alike follow.1)

follow-last : (first : Table) (number : ℕ) (past : List MountStory) (m n : MountStory) → BeginAlike m n → Follow first number (past ++ m ∷ []) → Follow first number (past ++ n ∷ [])
follow-last first number [] m n alike follow =
    let begins = follow.0 in (
      record {
        start = alike.start ∙ begins.start;
        kept = alike.kept ∙ begins.kept;
        base = alike.base ∙ begins.base;
      },
      tt,
    )
follow-last first number (p ∷ past) m n alike follow = (follow.0, follow-on-last p past m n alike follow.1)

-- ---- runs

-- each image that a crash may leave is one of a mount
unfoldable pub LeavesPrefixes : MountStory → List Cell → Type 0
LeavesPrefixes m cells = (image : List Sector) → IsImage cells image → (n : ℕ) × IsPrefixLeft m image n

crash-safe : (first : Table) (number : ℕ) (past : List MountStory) (m : MountStory) (cells : List Cell) → LeavesPrefixes m cells → CrashSafe first number (past ++ m ∷ []) cells
unfolding LeavesPrefixes
crash-safe first number past m cells leaves = λ image is. subst (λ (o : Option MountStory). IsLeftSafe first number o image) (sym (last-more past m)) (leaves image is)

-- what a run that stands safe says of its last mount
pub legal-of : (first : Table) (number : ℕ) (past : List MountStory) (m : MountStory) (cells : List Cell) → StandsSafe first number (past ++ m ∷ []) cells
    → (calls : List PastCall) → (k : ℕ) × IsLegalMount calls k m
legal-of first number past m cells safe = λ calls. legal-at calls 0 past m (safe.legal calls)

pub recovers-of : (first : Table) (number : ℕ) (past : List MountStory) (m : MountStory) (cells : List Cell) → StandsSafe first number (past ++ m ∷ []) cells → Recovers m
recovers-of first number past m cells safe = all-at-last Recovers past m safe.next_mount.recover

pub durable-of : (first : Table) (number : ℕ) (past : List MountStory) (m : MountStory) (cells : List Cell) → StandsSafe first number (past ++ m ∷ []) cells → IsAcknowledgedRight m.story
durable-of first number past m cells safe = all-at-last (λ (x : MountStory). IsAcknowledgedRight x.story) past m safe.next_mount.durable

pub leaves-of : (first : Table) (number : ℕ) (past : List MountStory) (m : MountStory) (cells : List Cell) → StandsSafe first number (past ++ m ∷ []) cells → LeavesPrefixes m cells
unfolding LeavesPrefixes
leaves-of first number past m cells safe = λ image is. subst (λ (o : Option MountStory). IsLeftSafe first number o image) (last-more past m) (safe.crash_safe image is)

-- A run with one mount more.
pub safe-more : (first : Table) (number : ℕ) (past : List MountStory) (m : MountStory) (old new : List Cell) → StandsSafe first number past old
    → ((calls : List PastCall) (k : ℕ) → IsLegalMount calls k m) → Follow first number (past ++ m ∷ []) → Recovers m → IsAcknowledgedRight m.story → LeavesPrefixes m new
    → StandsSafe first number (past ++ m ∷ []) new
safe-more first number past m old new safe legal follow recovers durable leaves = record {
  legal = λ calls. legal-more calls 0 past m (legal calls) (safe.legal calls);
  next_mount = record {
    follow = follow;
    recover = all-more Recovers past m safe.next_mount.recover recovers;
    durable = all-more (λ (x : MountStory). IsAcknowledgedRight x.story) past m safe.next_mount.durable durable;
  };
  crash_safe = crash-safe first number past m new leaves;
}

-- A run with another last mount.
pub record Replaces (m n : MountStory) : Type 0 where
  pub alike : BeginAlike m n
  pub legal : (calls : List PastCall) (k : ℕ) → IsLegalMount calls k m → IsLegalMount calls k n
  pub recovers : Recovers m → Recovers n
  pub durable : IsAcknowledgedRight m.story → IsAcknowledgedRight n.story

pub safe-last : (first : Table) (number : ℕ) (past : List MountStory) (m n : MountStory) (old new : List Cell) → StandsSafe first number (past ++ m ∷ []) old → Replaces m n → LeavesPrefixes n new
    → StandsSafe first number (past ++ n ∷ []) new
safe-last first number past m n old new safe by leaves = record {
  legal = λ calls. legal-last calls 0 past m n (by.legal calls) (safe.legal calls);
  next_mount = record {
    follow = follow-last first number past m n by.alike safe.next_mount.follow;
    recover = all-last Recovers past m n by.recovers safe.next_mount.recover;
    durable = all-last (λ (x : MountStory). IsAcknowledgedRight x.story) past m n by.durable safe.next_mount.durable;
  };
  crash_safe = crash-safe first number past n new leaves;
}
