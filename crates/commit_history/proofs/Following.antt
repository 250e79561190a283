-- Lists of commits, one after the other.
use Rattle.std.proofs.Common.{◌≡◌, ℕ, zero, suc, List, [], ◌∷◌, ◌++◌, take, drop, refl, sym, subst}
use Rattle.geometry.specs.declared.shape.Geometry.{Geometry}
use Rattle.log_record.specs.declared.image.Commit.{Commit}
use Rattle.life_table.specs.declared.table.Table.{Table}
use Rattle.sound_image.specs.Encoding.{Layouts}
use Rattle.commit_history.specs.Carried.{CommitCarries, CommitsCarry}

pub none : (g : Geometry) (t : Table) (layouts : Layouts) → CommitsCarry g t layouts [] t layouts
unfolding CommitsCarry
none g t layouts = (refl, refl)

pub more : (g : Geometry) (t u v : Table) (layouts others last : Layouts) (commit : Commit) (commits : List Commit) → CommitCarries g t layouts u others commit
    → CommitsCarry g u others commits v last → CommitsCarry g t layouts (commit ∷ commits) v last
unfolding CommitsCarry
more g t u v layouts others last commit commits one rest = (u, others, one, rest)

pub joined : (g : Geometry) (t u v : Table) (layouts others last : Layouts) (first second : List Commit) → CommitsCarry g t layouts first u others
    → CommitsCarry g u others second v last → CommitsCarry g t layouts (first ++ second) v last
unfolding CommitsCarry
joined g t u v layouts others last [] second a b =
    subst (λ (x : Table). CommitsCarry g x layouts second v last) a.0 (subst (λ (l : Layouts). CommitsCarry g u l second v last) a.1 b)
joined g t u v layouts others last (commit ∷ first) second a b =
    (a.0, a.1, a.2, joined g a.0 u v a.1 others last first second a.3 b)

pub added : (g : Geometry) (t u v : Table) (layouts others last : Layouts) (commits : List Commit) (commit : Commit) → CommitsCarry g t layouts commits u others
    → CommitCarries g u others v last commit → CommitsCarry g t layouts (commits ++ commit ∷ []) v last
added g t u v layouts others last commits commit a b = joined g t u v layouts others last commits (commit ∷ []) a (more g u v v others last last commit [] b (none g v last))

pub record Parted (g : Geometry) (t v : Table) (layouts last : Layouts) (commits : List Commit) (count : ℕ) : Type 0 where
  pub table : Table
  pub layouts_of : Layouts
  pub before : CommitsCarry g t layouts (take count commits) table layouts_of
  pub after : CommitsCarry g table layouts_of (drop count commits) v last

pub parted : (g : Geometry) (t v : Table) (layouts last : Layouts) (commits : List Commit) (count : ℕ) → CommitsCarry g t layouts commits v last → Parted g t v layouts last commits count
unfolding CommitsCarry
parted g t v layouts last commits zero a = record { table = t; layouts_of = layouts; before = none g t layouts; after = a }
parted g t v layouts last [] (suc count) a = record { table = t; layouts_of = layouts; before = none g t layouts; after = a }
parted g t v layouts last (commit ∷ commits) (suc count) a =
    let rest = parted g a.0 v a.1 last commits count a.3 in
    record { table = rest.table; layouts_of = rest.layouts_of; before = more g t a.0 rest.table layouts a.1 rest.layouts_of commit (take count commits) a.2 rest.before; after = rest.after }
