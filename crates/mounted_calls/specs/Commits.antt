-- Commits of the changes of a history.
use Rattle.std.specs.Prelude.{◌≡◌, ◌+◌, ℕ, List, [], ◌∷◌}
use Rattle.geometry.specs.declared.shape.Geometry.{Geometry}
use Rattle.log_record.specs.declared.image.Commit.{Commit}
use Rattle.life_table.specs.declared.types.Entry.{Entry}
use Rattle.life_table.specs.declared.table.Table.{Table}
use Rattle.life_table.specs.History.{After}
use Rattle.sound_image.specs.Encoding.{Layouts}
use Rattle.commit_history.specs.Carried.{CommitCarries}

-- The commits are those of a history's changes behind the first so many, one each and in their order: each carries the table after the changes before its own to the
-- table after its own too.
unfoldable pub AreOfChanges : Geometry → Table → List Entry → ℕ → Layouts → List Commit → Layouts → Type 0
AreOfChanges g start entries n layouts [] last = last ≡ layouts
AreOfChanges g start entries n layouts (commit ∷ commits) last =
    (next : Layouts) × CommitCarries g (After start entries n) layouts (After start entries (n + 1)) next commit
    × AreOfChanges g start entries (n + 1) next commits last
