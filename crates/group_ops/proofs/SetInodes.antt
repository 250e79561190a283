-- Another inode at a number of a group.
use Rattle.std.proofs.Common.{◌≡◌, ◌%◌, ℕ, zero, suc, true, false, cond, List, [], ◌∷◌, Some, map, eqb, refl, ap, sym, ◌∙◌, arith}
use Rattle.std.specs.Prelude.{◌≢◌, slice_get, slice_set}
use Rattle.std.proofs.lemmas.Bool.{eqb-true}
use Rattle.std.proofs.lemmas.Option.{none-some}
use Rattle.life_limits.specs.declared.TheConstants.{CHUNK_INODES}
use Rattle.life_table.specs.declared.table.Inode.{Inode}
use Rattle.life_table.specs.declared.table.Chunk.{Chunk}
use Rattle.life_table.specs.Table.{Group, inode_in, set_inode, start_of}

-- ---- an element of a list

get_other : {X : Type 0} (xs : List X) (i j : ℕ) (new : X) → i ≢ j → slice_get (slice_set xs i new) j ≡ slice_get xs j
get_other [] i j new apart = refl
get_other (x ∷ xs) zero zero new apart = absurd (apart refl)
get_other (x ∷ xs) zero (suc j) new apart = refl
get_other (x ∷ xs) (suc i) zero new apart = refl
get_other (x ∷ xs) (suc i) (suc j) new apart = get_other xs i j new (λ e. apart (ap suc e))

get_same : {X : Type 0} (xs : List X) (i : ℕ) (old new : X) → slice_get xs i ≡ Some old → slice_get (slice_set xs i new) i ≡ Some new
get_same [] i old new at = absurd (none-some old at)
get_same (x ∷ xs) zero old new at = refl
get_same (x ∷ xs) (suc i) old new at = get_same xs i old new at

same_agino : (a b : ℕ) → start_of a ≡ start_of b → a % CHUNK_INODES ≡ b % CHUNK_INODES → a ≡ b
same_agino a b starts places = omega arith

-- ---- an inode

pub inode_other : (group : Group) (agino other : ℕ) (new : Inode) → agino ≢ other → inode_in (set_inode group agino new) other ≡ inode_in group other
unfolding inode_in set_inode
inode_other [] agino other new apart = refl
inode_other (chunk ∷ chunks) agino other new apart =
    elim (eqb chunk.start (start_of agino)) as (λ c. eqb chunk.start (start_of agino) ≡ c
    → inode_in (cond c (record { start = chunk.start; inodes = slice_set chunk.inodes (agino % CHUNK_INODES) new } ∷ chunks) (chunk ∷ set_inode chunks agino new)) other
    ≡ cond (eqb chunk.start (start_of other)) (slice_get chunk.inodes (other % CHUNK_INODES)) (inode_in chunks other)) [
      | true ↦ λ is.
          elim (eqb chunk.start (start_of other)) as (λ d. eqb chunk.start (start_of other) ≡ d
          → cond d (slice_get (slice_set chunk.inodes (agino % CHUNK_INODES) new) (other % CHUNK_INODES)) (inode_in chunks other)
          ≡ cond d (slice_get chunk.inodes (other % CHUNK_INODES)) (inode_in chunks other)) [
            | true ↦ λ also. get_other chunk.inodes (agino % CHUNK_INODES) (other % CHUNK_INODES) new
                (λ places. apart (same_agino agino other (sym (eqb-true chunk.start (start_of agino) is) ∙ eqb-true chunk.start (start_of other) also) places))
            | false ↦ λ also. refl
          ] refl
      | false ↦ λ is. ap (λ o. cond (eqb chunk.start (start_of other)) (slice_get chunk.inodes (other % CHUNK_INODES)) o) (inode_other chunks agino other new apart)
    ] refl

pub inode_same : (group : Group) (agino : ℕ) (old new : Inode) → inode_in group agino ≡ Some old → inode_in (set_inode group agino new) agino ≡ Some new
unfolding inode_in set_inode
inode_same [] agino old new at = absurd (none-some old at)
inode_same (chunk ∷ chunks) agino old new at =
    elim (eqb chunk.start (start_of agino)) as (λ c. eqb chunk.start (start_of agino) ≡ c
    → cond c (slice_get chunk.inodes (agino % CHUNK_INODES)) (inode_in chunks agino) ≡ Some old
    → inode_in (cond c (record { start = chunk.start; inodes = slice_set chunk.inodes (agino % CHUNK_INODES) new } ∷ chunks) (chunk ∷ set_inode chunks agino new)) agino ≡ Some new) [
      | true ↦ λ is here. rw is (get_same chunk.inodes (agino % CHUNK_INODES) old new here)
      | false ↦ λ is here. rw is (inode_same chunks agino old new here)
    ] refl at

pub starts_stay : (group : Group) (agino : ℕ) (new : Inode) → map (λ (chunk : Chunk). chunk.start) (set_inode group agino new) ≡ map (λ (chunk : Chunk). chunk.start) group
unfolding set_inode
starts_stay [] agino new = refl
starts_stay (chunk ∷ chunks) agino new =
    elim (eqb chunk.start (start_of agino)) as (λ c.
    map (λ (x : Chunk). x.start) (cond c (record { start = chunk.start; inodes = slice_set chunk.inodes (agino % CHUNK_INODES) new } ∷ chunks) (chunk ∷ set_inode chunks agino new))
    ≡ chunk.start ∷ map (λ (x : Chunk). x.start) chunks) [
      | true ↦ refl
      | false ↦ ap (λ (l : List ℕ). chunk.start ∷ l) (starts_stay chunks agino new)
    ]
