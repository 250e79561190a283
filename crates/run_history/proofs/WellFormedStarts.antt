-- The tables of the mounts of a run are well formed.
use Rattle.std.proofs.Common.{◌≡◌, ◌+◌, ℕ, List, [], ◌∷◌, sym, subst}
use Rattle.std.specs.List.{AllByRecursion}
use Rattle.life_table.specs.declared.types.Entry.{Entry}
use Rattle.life_table.specs.declared.table.Table.{Table}
use Rattle.life_table.specs.History.{After, Leads, closed}
use Rattle.life_table.specs.WellFormed.{IsTable}
use Rattle.std.specs.Prelude.{take}
use Rattle.run_history.specs.Mounts.{MountStory, table_after}
use Rattle.run_history.specs.States.{PastCall}
use Rattle.run_history.specs.Linear.{AreLegalFrom, IsLegalMount}
use Rattle.run_history.specs.NextMount.{Follow, FollowOn}

-- what the laws of tables say
pub record TableLaws : Type 0 where
  pub history : (t u : Table) (entries : List Entry) → IsTable t → Leads t entries u → IsTable u
  pub without_holds : (t : Table) → IsTable t → IsTable (closed t)
  pub between : (t u : Table) (entries : List Entry) (n : ℕ) → Leads t entries u → (count : ℕ) × (middle : Table) × Leads t (take count entries) middle × (After t entries n ≡ closed middle)

abbrev pub IsRight : MountStory → Type 0
IsRight m = IsTable m.start × ((n : ℕ) → IsTable (table_after m n))

after_right : TableLaws → (calls : List PastCall) (mount : ℕ) (m : MountStory) → IsTable m.start → IsLegalMount calls mount m → (n : ℕ) → IsTable (table_after m n)
after_right laws calls mount m start legal n =
    let b = laws.between m.start legal.last m.story.entries n legal.legal.leads in
    subst IsTable (sym b.3) (laws.without_holds b.1 (laws.history m.start b.1 (take b.0 m.story.entries) start b.2))

behind_right : TableLaws → (calls : List PastCall) (mount : ℕ) (m : MountStory) (later : List MountStory) → IsRight m → AreLegalFrom calls mount later → FollowOn m later
    → AllByRecursion IsRight later
behind_right laws calls mount m [] right legal follow = tt
behind_right laws calls mount m (next ∷ later) right legal follow =
    let start : IsTable next.start = subst IsTable (sym follow.0.start) (right.1 next.story.kept) in
    let now : IsRight next = (start, after_right laws calls mount next start legal.0) in
    (now, behind_right laws calls (mount + 1) next later now legal.1 follow.1)

pub all_right : TableLaws → (first : Table) (number : ℕ) (calls : List PastCall) (mounts : List MountStory) → IsTable first → AreLegalFrom calls 0 mounts
    → Follow first number mounts → AllByRecursion IsRight mounts
all_right laws first number calls [] table legal follow = tt
all_right laws first number calls (m ∷ later) table legal follow =
    let start : IsTable m.start = subst IsTable (sym follow.0.start) table in
    let now : IsRight m = (start, after_right laws calls 0 m start legal.0) in
    (now, behind_right laws calls (0 + 1) m later now legal.1 follow.1)
