-- Commits of the changes of a history, taken apart and put together.
use Rattle.std.proofs.Common.{◌≡◌, ◌≤◌, ◌+◌, ℕ, zero, suc, List, [], ◌∷◌, ◌++◌, length, take, drop, refl, sym, ap, subst, arith}
use Rattle.geometry.specs.declared.shape.Geometry.{Geometry}
use Rattle.log_record.specs.declared.image.Commit.{Commit}
use Rattle.life_table.specs.declared.types.Entry.{Entry}
use Rattle.life_table.specs.declared.table.Table.{Table}
use Rattle.life_table.specs.History.{After, changes}
use Rattle.sound_image.specs.Encoding.{Layouts}
use Rattle.commit_history.specs.Carried.{CommitCarries, CommitsCarry}
use Rattle.mounted_calls.specs.Commits.{AreOfChanges}
use Rattle.mounted_calls.proofs.Histories.{after_more}

-- a history with more entries at its end
pub of_more : (g : Geometry) (start : Table) (entries more : List Entry) (n : ℕ) (layouts last : Layouts) (commits : List Commit) → n + length commits ≤ length (changes entries)
    → AreOfChanges g start entries n layouts commits last → AreOfChanges g start (entries ++ more) n layouts commits last
unfolding AreOfChanges
of_more g start entries more n layouts last [] few are = are
of_more g start entries more n layouts last (commit ∷ commits) few (next, here, rest) = (
  next,
  subst (λ (t : Table). CommitCarries g t layouts (After start (entries ++ more) (n + 1)) next commit) (sym (after_more start entries more n (omega (arith, few))))
      (subst (λ (u : Table). CommitCarries g (After start entries n) layouts u next commit) (sym (after_more start entries more (n + 1) (omega (arith, few)))) here),
  of_more g start entries more (n + 1) next last commits (omega (arith, few)) rest,
)

-- one commit more
pub of_added : (g : Geometry) (start : Table) (entries : List Entry) (n : ℕ) (layouts middle last : Layouts) (commits : List Commit) (commit : Commit)
    → AreOfChanges g start entries n layouts commits middle
    → CommitCarries g (After start entries (n + length commits)) middle (After start entries (n + length commits + 1)) last commit
    → AreOfChanges g start entries n layouts (commits ++ commit ∷ []) last
unfolding AreOfChanges
of_added g start entries n layouts middle last [] commit same carries =
    let e : n + 0 ≡ n = omega arith in
    let one : CommitCarries g (After start entries n) middle (After start entries (n + 1)) last commit =
    subst (λ (m : ℕ). CommitCarries g (After start entries m) middle (After start entries (m + 1)) last commit) e carries in
    (last, subst (λ (l : Layouts). CommitCarries g (After start entries n) l (After start entries (n + 1)) last commit) same one, refl)
of_added g start entries n layouts middle last (first ∷ commits) commit (next, here, rest) carries =
    let e : n + suc (length commits) ≡ n + 1 + length commits = omega arith in (
      next,
      here,
      of_added g start entries (n + 1) next middle last commits commit rest
          (subst (λ (m : ℕ). CommitCarries g (After start entries m) middle (After start entries (m + 1)) last commit) e carries),
    )

-- so many first ones, and the others
pub of_parted : (g : Geometry) (start : Table) (entries : List Entry) (n : ℕ) (layouts last : Layouts) (commits : List Commit) (count : ℕ) → count ≤ length commits
    → AreOfChanges g start entries n layouts commits last
    → (middle : Layouts) × AreOfChanges g start entries n layouts (take count commits) middle × AreOfChanges g start entries (n + count) middle (drop count commits) last
unfolding AreOfChanges
of_parted g start entries n layouts last commits zero within are =
    let e : n ≡ n + 0 = omega arith in
    (layouts, refl, subst (λ (m : ℕ). AreOfChanges g start entries m layouts commits last) e are)
of_parted g start entries n layouts last [] (suc count) within are = absurd (omega (arith, within))
of_parted g start entries n layouts last (first ∷ commits) (suc count) within (next, here, rest) =
    let parts = of_parted g start entries (n + 1) next last commits count (omega (arith, within)) rest in
    let e : n + 1 + count ≡ n + suc count = omega arith in
    (parts.0, (next, here, parts.1), subst (λ (m : ℕ). AreOfChanges g start entries m parts.0 (drop count commits) last) e parts.2)

-- they carry the table on
pub of_carry : (g : Geometry) (start : Table) (entries : List Entry) (n : ℕ) (layouts last : Layouts) (commits : List Commit) → AreOfChanges g start entries n layouts commits last
    → CommitsCarry g (After start entries n) layouts commits (After start entries (n + length commits)) last
unfolding AreOfChanges CommitsCarry
of_carry g start entries n layouts last [] same =
    let e : n + 0 ≡ n = omega arith in
    (ap (λ (m : ℕ). After start entries m) e, same)
of_carry g start entries n layouts last (first ∷ commits) (next, here, rest) =
    let e : n + 1 + length commits ≡ n + suc (length commits) = omega arith in (
      After start entries (n + 1),
      next,
      here,
      subst (λ (m : ℕ). CommitsCarry g (After start entries (n + 1)) next commits (After start entries m) last) e (of_carry g start entries (n + 1) next last commits rest),
    )
