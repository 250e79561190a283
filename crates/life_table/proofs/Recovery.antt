-- What recovery leaves.
use Rattle.std.proofs.Common.{◌≡◌, ◌≢◌, ◌==◌, ◌+◌, ◌≤◌, ℕ, Bool, true, false, Option, None, Some, IsSomeAnd, option_map, if◌then◌else◌, refl, sym, ap, ◌∙◌, inl, inr, arith}
use Rattle.std.proofs.lemmas.Option.{none-some, same_Some}
use Rattle.std.proofs.lemmas.Bool.{eqb-false, eq-eqb, cases_lt}
use Rattle.life_table.specs.declared.key.Key.{Key}
use Rattle.life_table.specs.declared.types.Row.{Row}
use Rattle.life_table.specs.declared.table.Inode.{Inode}
use Rattle.life_table.specs.declared.table.Table.{Table}
use Rattle.life_table.specs.Table.{inode_of, row_of}
use Rattle.life_table.specs.Legal.{Awaits, freed, Frees}
use Rattle.life_table.specs.History.{recovered_as, recovered_inode, recovered}
use Rattle.life_table.proofs.Mapped.{inode_of-map, with_inode-map, with_inode-itself, map_inodes-twice}
use Rattle.life_table.proofs.Moves.{HasRow-from}

-- a second recovery changes nothing
as_twice : (generation : ℕ) (o : Option Row) → recovered_inode (recovered_as generation o) ≡ recovered_as generation o
as_twice generation None = refl
as_twice generation (Some row) =
    elim (row.links == 0) as (λ c. row.links == 0 ≡ c
    → recovered_inode (if c then record { generation = generation + 1; row = None } else record { generation = generation; row = Some row })
    ≡ (if c then record { generation = generation + 1; row = None } else record { generation = generation; row = Some row })) [
      | true ↦ λ is. refl
      | false ↦ λ is. rw is
    ] refl

pub recovered-twice : (t : Table) → recovered (recovered t) ≡ recovered t
recovered-twice t = map_inodes-twice recovered_inode recovered_inode recovered_inode (λ i. as_twice i.generation i.row) t

-- each inode of the recovered table is what recovery makes of the inode
pub inode_of-recovered : (t : Table) (number : ℕ) → inode_of (recovered t) number ≡ option_map recovered_inode (inode_of t number)
inode_of-recovered t number = inode_of-map recovered_inode t number

-- what recovery makes of a row, by whether it has no link
abbrev pub by_links : ℕ → Row → Bool → Inode
by_links generation row c = if c then record { generation = generation + 1; row = None } else record { generation = generation; row = Some row }

-- an inode that recovery left in use has a link
has_link : (generation : ℕ) (o : Option Row) (row : Row) → (recovered_as generation o).row ≡ Some row → 1 ≤ row.links
has_link generation None row at = absurd (none-some row at)
has_link generation (Some first) row at =
    elim (first.links == 0) as (λ c. first.links == 0 ≡ c
    → (by_links generation first c).row ≡ Some row → 1 ≤ row.links) [
      | true ↦ λ is here. absurd (none-some row here)
      | false ↦ λ is here.
          let apart : first.links ≢ 0 = eqb-false first.links 0 is in
          let same : first.links ≡ row.links = ap (λ (r : Row). r.links) (same_Some first row here) in
          elim (cases_lt 0 row.links) [ inl some ↦ omega (arith, some) | inr none ↦ absurd (apart (omega (arith, none, same))) ]
    ] refl at

map_some : (o : Option Inode) (inode : Inode) → option_map recovered_inode o ≡ Some inode → (i : Inode) × (o ≡ Some i) × (recovered_inode i ≡ inode)
map_some None inode at = absurd (none-some inode at)
map_some (Some i) inode at = (i, refl, same_Some (recovered_inode i) inode at)

pub none_without_links : (t : Table) (key : Key) (row : Row) → row_of (recovered t) key ≡ Some row → 1 ≤ row.links
none_without_links t key row at =
    let has = HasRow-from (inode_of (recovered t) key.number) key.generation row at in
    let was = map_some (inode_of t key.number) has.inode (sym (inode_of-recovered t key.number) ∙ has.at) in
    has_link was.0.generation was.0.row row (ap (λ (i : Inode). i.row) was.2 ∙ has.is)

-- to free a row and then to recover is to recover
freed_as : (generation : ℕ) (o : Option Row) (row : Row) → o ≡ Some row → row.links ≡ 0 → recovered_as generation o ≡ record { generation = generation + 1; row = None }
freed_as generation o row is none =
    let test : (row.links == 0) ≡ true = eq-eqb row.links 0 none in
    ap (recovered_as generation) is ∙ ap (by_links generation row) test

recovered-freed : (t : Table) (key : Key) (o : Option Row) → row_of t key ≡ o → IsSomeAnd o Awaits → recovered (freed t key) ≡ recovered t
recovered-freed t key None at awaits = absurd awaits
recovered-freed t key (Some row) at awaits =
    let has = HasRow-from (inode_of t key.number) key.generation row at in
    let gone : Inode = record { generation = key.generation + 1; row = None } in
    let same : recovered_inode has.inode ≡ gone = freed_as has.inode.generation has.inode.row row has.is awaits.0 ∙ ap (λ n. record { generation = n + 1; row = None }) has.life in
    with_inode-map recovered_inode t key.number gone
    ∙ with_inode-itself (recovered t) key.number gone (inode_of-recovered t key.number ∙ ap (option_map recovered_inode) has.at ∙ ap Some same)

pub recovered-frees : (t : Table) (key : Key) (u : Table) → Frees t key u → recovered u ≡ recovered t
recovered-frees t key u frees = ap recovered frees.1 ∙ recovered-freed t key (row_of t key) refl frees.0
