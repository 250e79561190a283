-- The inodes of a well formed table have numbers of its geometry.
use Rattle.std.proofs.Common.{◌≡◌, ◌+◌, ◌-◌, ◌*◌, ◌/◌, ◌%◌, ◌<◌, ◌≤◌, ◌==◌, inl, inr, ℕ, zero, suc, true, false, List, [], ◌∷◌, ◌++◌, Some, if◌then◌else◌, length, slice_get, refl, sym, ap, ◌∙◌, arith}
use Rattle.std.specs.List.{AllByRecursion, range_with_len}
use Rattle.std.proofs.lemmas.Option.{none-some}
use Rattle.std.proofs.lemmas.Bool.{cases_lt, eqb-true, eq-eqb}
use Rattle.life_limits.specs.declared.TheConstants.{BLOCK_SECTORS, CHUNK_INODES, GROUP_NUMBERS}
use Rattle.life_table.specs.declared.table.Inode.{Inode}
use Rattle.life_table.specs.declared.table.Table.{Table}
use Rattle.life_table.specs.Table.{Group, group_at, inode_in, inode_of, start_of}
use Rattle.life_table.specs.Space.{chunk_blocks, inode_blocks, times, used}
use Rattle.life_table.specs.WellFormed.{IsChunk, IsGroup, IsTable}
use Rattle.actor_world.proofs.Lists.{all_read, read_past}

pub times-append : (b : ℕ) (xs ys : List ℕ) → times b (xs ++ ys) ≡ times b xs + times b ys
unfolding times
times-append b [] ys = omega arith
times-append b (x ∷ xs) ys = let rest = times-append b xs ys in omega (arith, rest)

pub times-range : (a n b : ℕ) → a ≤ b → b < a + n → 1 ≤ times b (range_with_len a n)
unfolding times
times-range a zero b low high = absurd (omega arith)
times-range a (suc n) b low high =
    elim (b == a) as (λ c. b == a ≡ c → 1 ≤ (if c then 1 else 0) + times b (range_with_len (a + 1) n)) [
      | true ↦ λ is. omega arith
      | false ↦ λ is. elim (cases_lt a b) [
        | inl below ↦ let rest = times-range (a + 1) n b (omega arith) (omega arith) in omega (arith, rest)
        | inr above ↦ let same : (b == a) ≡ true = eq-eqb b a (omega arith) in absurd (true-false same is)
      ]
    ] refl
  where
    true-false : (b == a) ≡ true → (b == a) ≡ false → ⊥
    true-false p q = let clash : true ≡ false = sym p ∙ q in cc

-- a block of the chunk in which an inode stands
record Lies (group : Group) (agino : ℕ) : Type 0 where
  block : ℕ
  used_is : 1 ≤ times block (used group)
  below : agino < (block + 1) * BLOCK_SECTORS

lies : (group : Group) (agino : ℕ) (inode : Inode) → AllByRecursion IsChunk group → inode_in group agino ≡ Some inode → Lies group agino
unfolding inode_in used chunk_blocks
lies [] agino inode all at = absurd (none-some inode at)
lies (chunk ∷ chunks) agino inode all at =
    elim (chunk.start == start_of agino) as (λ c. chunk.start == start_of agino ≡ c → (if c then slice_get chunk.inodes (agino % CHUNK_INODES) else inode_in chunks agino) ≡ Some inode → Lies (chunk ∷ chunks) agino) [
      | true ↦ λ is _.
          let here : chunk.start ≡ agino - agino % 64 = eqb-true chunk.start (start_of agino) is in
          let block : ℕ = chunk.start / 8 + 7 in
          let some : 1 ≤ times block (range_with_len (chunk.start / 8) 8) = times-range (chunk.start / 8) 8 block (omega arith) (omega arith) in
          let first = times-append block (chunk_blocks chunk) (inode_blocks chunk.inodes) in
          let whole = times-append block (chunk_blocks chunk ++ inode_blocks chunk.inodes) (used chunks) in
          record { block = block; used_is = omega (arith, some, first, whole); below = omega (arith, here, all.0.start) }
      | false ↦ λ is there.
          let rest = lies chunks agino inode all.1 there in
          let whole = times-append rest.block (chunk_blocks chunk ++ inode_blocks chunk.inodes) (used chunks) in
          record { block = rest.block; used_is = omega (arith, whole, rest.used_is); below = rest.below }
    ] refl at

-- a number of an inode is of a group that there is, and of a sector of the group
pub record IsPlaced (t : Table) (number : ℕ) : Type 0 where
  pub group : number / GROUP_NUMBERS < length t.groups
  pub sector : number % GROUP_NUMBERS < t.blocks * BLOCK_SECTORS

pub is_placed : (t : Table) (number : ℕ) (inode : Inode) → IsTable t → inode_of t number ≡ Some inode → IsPlaced t number
unfolding inode_of inode_in
is_placed t number inode ok at =
    elim (cases_lt (number / GROUP_NUMBERS) (length t.groups)) [
      | inl low ↦
          let group = all_read (IsGroup t.blocks) t.groups (number / GROUP_NUMBERS) [] ok.groups low in
          let lies_there = lies (group_at t (number / GROUP_NUMBERS)) (number % GROUP_NUMBERS) inode group.chunks at in
          let data_block = group.data_blocks lies_there.block lies_there.used_is in
          record { group = low; sector = omega (arith, lies_there.below, data_block.1) }
      | inr high ↦ absurd (none-some inode (sym (ap (λ group. inode_in group (number % GROUP_NUMBERS)) (read_past t.groups (number / GROUP_NUMBERS) [] high)) ∙ at))
    ]
