-- A table with one group alone.
use Rattle.std.proofs.Common.{◌≡◌, ◌≢◌, ◌<◌, ◌≤◌, ℕ, zero, suc, List, [], ◌∷◌, length, map, replicate, slice_set, slice_index_or, refl, sym, ap, subst, ◌∙◌, arith, length-set}
use Rattle.std.specs.List.{AllByRecursion}
use Rattle.std.proofs.lemmas.List.{get_or-set_same, get_or-set_other, length-replicate, map-set}
use Rattle.std.proofs.Math.ListN.{get_or-map}
use Rattle.life_table.specs.declared.table.Table.{Table}
use Rattle.life_table.specs.Table.{Group, group_at, map_group}
use Rattle.life_table.specs.Space.{times, used}
use Rattle.life_table.specs.WellFormed.{IsGroup, IsTable}
use Rattle.life_table.specs.History.{closed, closed_inode}
use Rattle.group_frame.specs.Frames.{AgreesAt, alone}

alone_length : (t : Table) (g : ℕ) → length (alone t g).groups ≡ length t.groups
alone_length t g = length-set (replicate (length t.groups) []) g (group_at t g) ∙ length-replicate (length t.groups) []

pub alone_agrees : (t : Table) (g : ℕ) → g < length t.groups → AgreesAt g t (alone t g)
alone_agrees t g inside = record {
  blocks = refl;
  groups = alone_length t g;
  group = get_or-set_same (replicate (length t.groups) []) g (group_at t g) [] (subst (λ n. g < n) (sym (length-replicate (length t.groups) [])) inside);
}

replicated : {X : Type 0} (n i : ℕ) (x : X) → slice_index_or (replicate n x) i x ≡ x
replicated zero i x = refl
replicated (suc n) zero x = refl
replicated (suc n) (suc i) x = replicated n i x

pub alone_empty : (t : Table) (g other : ℕ) → other ≢ g → group_at (alone t g) other ≡ []
alone_empty t g other apart =
    get_or-set_other (replicate (length t.groups) []) g other (group_at t g) [] apart ∙ replicated (length t.groups) other []

-- each group is well formed
empty_group : (blocks : ℕ) → IsGroup blocks []
unfolding used times
empty_group blocks = record {
  few = omega arith;
  ascends = tt;
  chunks = tt;
  data_blocks = λ block has. absurd (omega (arith, has));
  once = λ block. omega arith;
}

all_replicated : {X : Type 0} (P : X → Type 0) (n : ℕ) (x : X) → P x → AllByRecursion P (replicate n x)
all_replicated P zero x here = tt
all_replicated P (suc n) x here = (here, all_replicated P n x here)

all_set : {X : Type 0} (P : X → Type 0) (xs : List X) (i : ℕ) (x : X) → AllByRecursion P xs → P x → AllByRecursion P (slice_set xs i x)
all_set P [] i x all here = tt
all_set P (y ∷ xs) zero x all here = (here, all.1)
all_set P (y ∷ xs) (suc i) x all here = (all.0, all_set P xs i x all.1 here)

all_at : {X : Type 0} (P : X → Type 0) (xs : List X) (i : ℕ) (x : X) → AllByRecursion P xs → P x → P (slice_index_or xs i x)
all_at P [] i x all here = here
all_at P (y ∷ xs) zero x all here = all.0
all_at P (y ∷ xs) (suc i) x all here = all_at P xs i x all.1 here

pub alone_is_table : (t : Table) (g : ℕ) → IsTable t → IsTable (alone t g)
alone_is_table t g is = record {
  version = is.version;
  least = is.least;
  most = is.most;
  some = subst (λ n. 1 ≤ n) (sym (alone_length t g)) is.some;
  many = subst (λ n. n ≤ 16) (sym (alone_length t g)) is.many;
  groups =
      all_set (IsGroup t.blocks) (replicate (length t.groups) []) g (group_at t g)
      (all_replicated (IsGroup t.blocks) (length t.groups) [] (empty_group t.blocks))
      (all_at (IsGroup t.blocks) t.groups g [] is.groups (empty_group t.blocks));
}

-- without holds
map_replicated : {X Y : Type 0} (f : X → Y) (n : ℕ) (x : X) → map f (replicate n x) ≡ replicate n (f x)
map_replicated f zero x = refl
map_replicated f (suc n) x = ap (λ xs. f x ∷ xs) (map_replicated f n x)

length_mapped : {X Y : Type 0} (f : X → Y) (xs : List X) → length (map f xs) ≡ length xs
length_mapped f [] = refl
length_mapped f (x ∷ xs) = ap suc (length_mapped f xs)

pub alone_closed : (t : Table) (g : ℕ) → closed (alone t g) ≡ alone (closed t) g
alone_closed t g =
    ap (λ (groups : List Group). record { version = t.version; blocks = t.blocks; groups = groups })
    (map-set (map_group closed_inode) (replicate (length t.groups) []) g (group_at t g)
    ∙ (λ i. slice_set (map_replicated (map_group closed_inode) (length t.groups) [] i) g (sym (get_or-map (map_group closed_inode) t.groups g []) i))
    ∙ ap (λ n. slice_set (replicate n []) g (group_at (closed t) g)) (sym (length_mapped (map_group closed_inode) t.groups)))
