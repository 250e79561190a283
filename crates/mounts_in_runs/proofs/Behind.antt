-- Where the next mount of a run begins.
use Rattle.std.proofs.Common.{◌≡◌, ◌≤◌, ◌+◌, ◌++◌, ℕ, List, [], ◌∷◌, Option, None, Some, refl, ap, sym, subst, ◌∙◌}
use Rattle.life_bytes.specs.declared.sector.Sector.{Sector}
use Rattle.disk_model.specs.Disk.{Cell, IsImage}
use Rattle.life_table.specs.declared.table.Table.{Table}
use Rattle.whole_image.specs.Represents.{Represents}
use Rattle.run_history.specs.Mounts.{MountStory, acknowledged, changes_made, start_behind, table_after}
use Rattle.run_history.specs.NextMount.{BeginsBehind, BeginsFirst, Follow, FollowOn}
use Rattle.run_history.specs.CrashSafe.{CrashSafe, last_mount, last_of}
use Rattle.mounts_in_runs.specs.Stories.{BeginsWhere}

-- what the laws below say: an image represents one table, and what an image that was left represents by the last mount
abbrev pub OneTable : Type 0
OneTable = (image : List Sector) (t u : Table) (c d : ℕ) → Represents image t c → Represents image u d → (t ≡ u) × (c ≡ d)

abbrev pub Kept : Type 0
Kept = (first : Table) (number : ℕ) (mounts : List MountStory) (m : MountStory) (cells : List Cell) (image : List Sector) (t : Table) (c : ℕ)
    → CrashSafe first number mounts cells → last_mount mounts ≡ Some m → IsImage cells image → Represents image t c
    → (n : ℕ) × (c ≡ m.story.base + n) × (t ≡ table_after m n) × (acknowledged m ≤ n) × (n ≤ changes_made m.story)

start_is : (first : Table) (m : MountStory) (later : List MountStory) (n : ℕ) → start_behind first (m ∷ later) n ≡ table_after (last_of m later) n
start_is first m [] n = refl
start_is first m (next ∷ later) n = start_is (table_after m n) next later n

pub begins : OneTable → Kept → (first t : Table) (number next : ℕ) (past : List MountStory) (cells : List Cell) (image : List Sector) → CrashSafe first number past cells
    → IsImage cells image → Represents image t next → (kept : ℕ) × BeginsWhere first number past t next kept
begins one kept first t number next [] cells image safe is represents =
    let same = one image t first next number represents (safe image is) in
    (0, record { start = same.0; keeps = (same.1, refl) })
begins one kept first t number next (m ∷ later) cells image safe is represents =
    let n = kept first number (m ∷ later) (last_of m later) cells image t next safe refl is represents in
    (n.0, record { start = n.2 ∙ sym (start_is first m later n.0); keeps = (n.1, n.3, n.4) })

follow_on : (m next : MountStory) (later : List MountStory) → FollowOn m later → BeginsBehind (last_of m later) next → FollowOn m (later ++ next ∷ [])
follow_on m next [] follow behind = (behind, tt)
follow_on m next (x ∷ later) follow behind = (follow.0, follow_on x next later follow.1 behind)

pub follows : (first : Table) (number kept : ℕ) (past : List MountStory) (m : MountStory) → Follow first number past → BeginsWhere first number past m.start m.story.base kept
    → m.story.kept ≡ kept → Follow first number (past ++ m ∷ [])
follows first number kept [] m follow stands same =
    (record { start = stands.start; kept = same ∙ stands.keeps.1; base = stands.keeps.0 }, tt)
follows first number kept (p ∷ later) m follow stands same =
    let keeps = stands.keeps in (
      follow.0,
      follow_on p m later follow.1 (record {
        start = stands.start ∙ start_is first p later kept ∙ ap (table_after (last_of p later)) (sym same);
        acknowledged = subst (λ (n : ℕ). acknowledged (last_of p later) ≤ n) (sym same) keeps.1;
        made = subst (λ (n : ℕ). n ≤ changes_made (last_of p later).story) (sym same) keeps.2;
        base = keeps.0 ∙ ap (λ (n : ℕ). (last_of p later).story.base + n) (sym same);
      }),
    )
