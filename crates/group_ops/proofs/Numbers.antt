-- The lowest free number of a group, as a walk over the numbers in no use finds it.
use Rattle.std.proofs.Common.{◌≡◌, ◌<◌, ◌≤◌, ◌+◌, ◌&&◌, ℕ, true, Option, Some, None, inl, inr, refl, ap, sym, subst, ◌∙◌, arith}
use Rattle.std.specs.Prelude.{IfSome, IsSomeAnd, IsTrue, is_none, nat_lt}
use Rattle.std.specs.List.{AllByRecursion}
use Rattle.std.proofs.lemmas.Bool.{and_parts, cases_lt, lt-ltb, ltb-true}
use Rattle.std.proofs.lemmas.Option.{same_Some}
use Rattle.life_limits.specs.declared.TheConstants.{MAX_GENERATION}
use Rattle.geometry.specs.Places.{number_in}
use Rattle.geometry.specs.Shape.{IsGeometry}
use Rattle.inode_core.specs.declared.shape.Core.{Core}
use Rattle.life_table.specs.declared.key.Key.{Key}
use Rattle.life_table.specs.declared.types.Row.{Row}
use Rattle.life_table.specs.declared.table.Inode.{Inode}
use Rattle.life_table.specs.declared.table.Table.{Table}
use Rattle.life_table.specs.Space.{is_free, lowest_key}
use Rattle.life_table.specs.Table.{Group, group_at, inode_in}
use Rattle.life_table.specs.WellFormed.{ChunksAscend, IsChunk, IsGroup}
use Rattle.sound_image.specs.Encoding.{Layouts, core_for}
use Rattle.group_space.specs.Space.{IsFreeIn, IsSpaceOf, IsUnused, Space}
use Rattle.group_ops.specs.Represents.{IsGroupOf, incore_for}
use Rattle.group_ops.specs.Telling.{core_told}
use Rattle.group_ops.specs.Values.{StateValue}
use Rattle.group_ops.proofs.Incores.{PlacesStand, agino_small}
use Rattle.group_ops.proofs.Inodes.{group_of}

-- no number below this one is free
abbrev pub NoneBelow : StateValue → ℕ → Type 0
NoneBelow s from = (t : Table) (layouts : Layouts) → IsGroupOf s t layouts → (n : ℕ) → n < from → ¬ IsFreeIn (group_at t s.group) n

-- what is said of the next number in no use, from one on
abbrev pub IsNextUnused : Space → ℕ → Option ℕ → Type 0
IsNextUnused space from found = (blocks : ℕ) (chunks : Group) → IsSpaceOf blocks chunks space → IfSome found (λ agino. (from ≤ agino) × IsUnused chunks agino)

abbrev pub IsLeastUnused : Space → ℕ → Option ℕ → Type 0
IsLeastUnused space from found = (blocks : ℕ) (chunks : Group) (agino : ℕ) → IsSpaceOf blocks chunks space → from ≤ agino → IsUnused chunks agino → IsSomeAnd found (λ least. least ≤ agino)

pub record UnusedAt (chunks : Group) (agino : ℕ) : Type 0 where
  pub inode : Inode
  pub at : inode_in chunks agino ≡ Some inode
  pub row : inode.row ≡ None

unused_of : (chunks : Group) (agino : ℕ) (o : Option Inode) → inode_in chunks agino ≡ o → IsSomeAnd o (λ (inode : Inode). inode.row ≡ None) → UnusedAt chunks agino
unused_of chunks agino None at is = absurd is
unused_of chunks agino (Some inode) at is = record { inode = inode; at = at; row = is }

pub unused_at : (chunks : Group) (agino : ℕ) → IsUnused chunks agino → UnusedAt chunks agino
unused_at chunks agino is = unused_of chunks agino (inode_in chunks agino) refl is

-- a free number is one in no use
no_row : (row : Option Row) → is_none row ≡ true → row ≡ None
no_row None e = refl
no_row (Some row) e = cc

free_of : (o : Option Inode) → IsSomeAnd o (λ inode. IsTrue (is_free inode)) → IsSomeAnd o (λ (inode : Inode). inode.row ≡ None)
free_of None is = is
free_of (Some inode) is = no_row inode.row (and_parts (is_none inode.row) (nat_lt inode.generation MAX_GENERATION) is).0

free_unused : (chunks : Group) (agino : ℕ) → IsFreeIn chunks agino → IsUnused chunks agino
free_unused chunks agino is = free_of (inode_in chunks agino) is

-- the generation of a number, as its core tells it
generation_of : (generation next : ℕ) (row : Option Row) → (core_for generation row next).generation ≡ generation
unfolding core_for
generation_of generation next None = refl
generation_of generation next (Some row) = refl

told_some : (layouts : Layouts) (group agino : ℕ) (core : Core) (inode : Inode) (o : Option Inode) → o ≡ Some inode → Some core ≡ core_told layouts group agino o → core.generation ≡ inode.generation
told_some layouts group agino core inode o at told =
    let both : Some core ≡ Some (incore_for layouts group agino inode).core = told ∙ ap (core_told layouts group agino) at in
    ap (λ (c : Core). c.generation) (same_Some core (incore_for layouts group agino inode).core both) ∙ generation_of inode.generation _ inode.row

told_none : (layouts : Layouts) (group agino : ℕ) (inode : Inode) (o : Option Inode) → o ≡ Some inode → None ≡ core_told layouts group agino o → ⊥
told_none layouts group agino inode o at told = let both : None ≡ Some (incore_for layouts group agino inode).core = told ∙ ap (core_told layouts group agino) at in cc

-- a number that is found has a core
pub has_core : (s : StateValue) (t : Table) (layouts : Layouts) (from agino : ℕ) → IsGroupOf s t layouts → IsNextUnused s.space from (Some agino)
    → None ≡ core_told layouts s.group agino (inode_in (group_at t s.group) agino) → ⊥
has_core s t layouts from agino is found told =
    let at = unused_at (group_at t s.group) agino (found s.geometry.blocks (group_at t s.group) is.space).1 in
    told_none layouts s.group agino at.inode (inode_in (group_at t s.group) agino) at.at told

-- and is one of the group
pub found_small : PlacesStand → (s : StateValue) (t : Table) (layouts : Layouts) (from agino : ℕ) → IsGeometry s.geometry → s.group < s.geometry.groups → IsGroupOf s t layouts
    → IsNextUnused s.space from (Some agino) → agino < 131072
found_small places s t layouts from agino shape inside is found =
    let at = unused_at (group_at t s.group) agino (found s.geometry.blocks (group_at t s.group) is.space).1 in
    agino_small places s t layouts agino at.inode shape inside is at.at

-- one whose generations are used up is passed over
used_up : (o : Option Inode) (inode : Inode) → o ≡ Some inode → IsSomeAnd o (λ inode. IsTrue (is_free inode)) → inode.generation < MAX_GENERATION
used_up None inode at is = absurd is
used_up (Some x) inode at is =
    let same = same_Some x inode at in
    subst (λ (i : Inode). i.generation < MAX_GENERATION) same (ltb-true x.generation MAX_GENERATION (and_parts (is_none x.row) (nat_lt x.generation MAX_GENERATION) is).1)

pub none_more : (s : StateValue) (from agino : ℕ) (core : Core) → NoneBelow s from → IsNextUnused s.space from (Some agino) → IsLeastUnused s.space from (Some agino)
    → ((t : Table) (layouts : Layouts) → IsGroupOf s t layouts → Some core ≡ core_told layouts s.group agino (inode_in (group_at t s.group) agino))
    → (core.generation < MAX_GENERATION → ⊥) → NoneBelow s (agino + 1)
none_more s from agino core below found least told over t layouts is n low free =
    elim (cases_lt n from) [
      | inl under ↦ below t layouts is n under free
      | inr past ↦
          let first : agino ≤ n = least s.geometry.blocks (group_at t s.group) n is.space past (free_unused (group_at t s.group) n free) in
          let same : n ≡ agino = omega (arith, first, low) in
          let at = unused_at (group_at t s.group) agino (found s.geometry.blocks (group_at t s.group) is.space).1 in
          let here : IsFreeIn (group_at t s.group) agino = subst (λ (k : ℕ). IsFreeIn (group_at t s.group) k) same free in
          over (subst (λ (g : ℕ). g < MAX_GENERATION) (sym (told_some layouts s.group agino core at.inode (inode_in (group_at t s.group) agino) at.at (told t layouts is)))
          (used_up (inode_in (group_at t s.group) agino) at.inode at.at here))
    ]

-- ---- the keys

abbrev pub LowestByNumber : Type 0
LowestByNumber = (group : ℕ) (chunks : Group) (agino : ℕ) (inode : Inode) → ChunksAscend chunks
    → AllByRecursion IsChunk chunks → inode_in chunks agino ≡ Some inode → is_free inode ≡ true
    → ((n : ℕ) → n < agino → ¬ IsFreeIn chunks n)
    → lowest_key group chunks ≡ Some (record { number = number_in group agino; generation = inode.generation })

abbrev pub NoLowest : Type 0
NoLowest = (group : ℕ) (chunks : Group) → ChunksAscend chunks → AllByRecursion IsChunk chunks → ((n : ℕ) → ¬ IsFreeIn chunks n) → lowest_key group chunks ≡ None

pub well_formed : (s : StateValue) (t : Table) (layouts : Layouts) → s.group < s.geometry.groups → IsGroupOf s t layouts → IsGroup t.blocks (group_at t s.group)
well_formed s t layouts inside is = group_of t.blocks t.groups s.group is.table.groups (omega (arith, inside, is.groups))

both_true : (row : Option Row) (generation : ℕ) → row ≡ None → generation < MAX_GENERATION → (is_none row && nat_lt generation MAX_GENERATION) ≡ true
both_true None generation e low = lt-ltb generation MAX_GENERATION low
both_true (Some row) generation e low = cc

pub lowest_found : LowestByNumber → (s : StateValue) (t : Table) (layouts : Layouts) (from agino : ℕ) (core : Core) → s.group < s.geometry.groups → IsGroupOf s t layouts → NoneBelow s from
    → IsNextUnused s.space from (Some agino) → IsLeastUnused s.space from (Some agino)
    → Some core ≡ core_told layouts s.group agino (inode_in (group_at t s.group) agino) → core.generation < MAX_GENERATION
    → Some (let k : Key = record { number = number_in s.group agino; generation = core.generation } in k) ≡ lowest_key s.group (group_at t s.group)
lowest_found law s t layouts from agino core inside is below found least told low =
    let chunks : Group = group_at t s.group in
    let well = well_formed s t layouts inside is in
    let at = unused_at chunks agino (found s.geometry.blocks chunks is.space).1 in
    let generation = told_some layouts s.group agino core at.inode (inode_in chunks agino) at.at told in
    let free : is_free at.inode ≡ true = both_true at.inode.row at.inode.generation at.row (subst (λ (g : ℕ). g < MAX_GENERATION) generation low) in
    ap (λ (g : ℕ). Some (let k : Key = record { number = number_in s.group agino; generation = g } in k)) generation
    ∙ sym (law s.group chunks agino at.inode well.ascends well.chunks at.at free (λ n under is_free_there.
    elim (cases_lt n from) [
      | inl early ↦ below t layouts is n early is_free_there
      | inr past ↦
          let first : agino ≤ n = least s.geometry.blocks chunks n is.space past (free_unused chunks n is_free_there) in
          absurd (omega (arith, first, under))
    ]))

pub lowest_none : NoLowest → (s : StateValue) (t : Table) (layouts : Layouts) (from : ℕ) → s.group < s.geometry.groups → IsGroupOf s t layouts → NoneBelow s from
    → IsLeastUnused s.space from None → None ≡ lowest_key s.group (group_at t s.group)
lowest_none law s t layouts from inside is below least =
    let chunks : Group = group_at t s.group in
    let well = well_formed s t layouts inside is in
    sym (law s.group chunks well.ascends well.chunks (λ n free.
    elim (cases_lt n from) [
      | inl early ↦ below t layouts is n early free
      | inr past ↦ absurd (least s.geometry.blocks chunks n is.space past (free_unused chunks n free))
    ]))
