-- The inode of a number, by the place of its chunk.
use Rattle.std.proofs.Common.{◌≡◌, ◌==◌, ◌%◌, ℕ, zero, suc, true, false, [], ◌∷◌, None, Some, take, slice_get, slice_set, refl, sym, ap, ◌∙◌}
use Rattle.std.proofs.lemmas.Option.{none-some, same_Some}
use Rattle.std.proofs.lemmas.Bool.{eq-eqb, ne_eqb}
use Rattle.life_limits.specs.declared.TheConstants.{CHUNK_INODES}
use Rattle.life_table.specs.declared.table.Inode.{Inode}
use Rattle.life_table.specs.declared.table.Chunk.{Chunk}
use Rattle.life_table.specs.Table.{Group, start_of, inode_in, set_inode}
use Rattle.plain_table.specs.Parts.{IsAbsent, IsFirstAt}

pub inode_in-absent : (group : Group) (agino : ℕ) → IsAbsent (start_of agino) group → inode_in group agino ≡ None
unfolding inode_in
inode_in-absent [] agino absent = refl
inode_in-absent (chunk ∷ chunks) agino absent =
    let other : (chunk.start == start_of agino) ≡ false = ne_eqb chunk.start (start_of agino) absent.0 in
    rw other (inode_in-absent chunks agino absent.1)

pub set_inode-absent : (group : Group) (agino : ℕ) (inode : Inode) → IsAbsent (start_of agino) group → set_inode group agino inode ≡ group
unfolding set_inode
set_inode-absent [] agino inode absent = refl
set_inode-absent (chunk ∷ chunks) agino inode absent =
    let other : (chunk.start == start_of agino) ≡ false = ne_eqb chunk.start (start_of agino) absent.0 in
    rw other (ap (λ others. chunk ∷ others) (set_inode-absent chunks agino inode absent.1))

-- the first chunk that starts there has it
first_in : (group : Group) (agino place : ℕ) (chunk : Chunk) → slice_get group place ≡ Some chunk → chunk.start ≡ start_of agino → IsAbsent (start_of agino) (take place group)
    → inode_in group agino ≡ slice_get chunk.inodes (agino % CHUNK_INODES)
unfolding inode_in
first_in [] agino place chunk at starts earlier = absurd (none-some chunk at)
first_in (first ∷ chunks) agino zero chunk at starts earlier =
    let same : first ≡ chunk = same_Some first chunk at in
    let here : (first.start == start_of agino) ≡ true = eq-eqb first.start (start_of agino) (ap (λ (c : Chunk). c.start) same ∙ starts) in
    rw here (ap (λ (c : Chunk). slice_get c.inodes (agino % CHUNK_INODES)) same)
first_in (first ∷ chunks) agino (suc place) chunk at starts earlier =
    let other : (first.start == start_of agino) ≡ false = ne_eqb first.start (start_of agino) earlier.0 in
    rw other (first_in chunks agino place chunk at starts earlier.1)

pub inode_in-first : (group : Group) (agino place : ℕ) (chunk : Chunk) → slice_get group place ≡ Some chunk → IsFirstAt (start_of agino) group place
    → inode_in group agino ≡ slice_get chunk.inodes (agino % CHUNK_INODES)
inode_in-first group agino place chunk at first =
    let same : first.chunk ≡ chunk = same_Some first.chunk chunk (sym first.at ∙ at) in
    first_in group agino place chunk at (ap (λ (c : Chunk). c.start) (sym same) ∙ first.starts) first.earlier

first_set : (group : Group) (agino place : ℕ) (chunk : Chunk) (inode : Inode) → slice_get group place ≡ Some chunk → chunk.start ≡ start_of agino → IsAbsent (start_of agino) (take place group)
    → set_inode group agino inode ≡ slice_set group place (record { start = chunk.start; inodes = slice_set chunk.inodes (agino % CHUNK_INODES) inode })
unfolding set_inode
first_set [] agino place chunk inode at starts earlier = absurd (none-some chunk at)
first_set (first ∷ chunks) agino zero chunk inode at starts earlier =
    let same : first ≡ chunk = same_Some first chunk at in
    let here : (first.start == start_of agino) ≡ true = eq-eqb first.start (start_of agino) (ap (λ (c : Chunk). c.start) same ∙ starts) in
    let whole : Chunk → Group = λ c. record { start = c.start; inodes = slice_set c.inodes (agino % CHUNK_INODES) inode } ∷ chunks in
    rw here (ap whole same)
first_set (first ∷ chunks) agino (suc place) chunk inode at starts earlier =
    let other : (first.start == start_of agino) ≡ false = ne_eqb first.start (start_of agino) earlier.0 in
    rw other (ap (λ others. first ∷ others) (first_set chunks agino place chunk inode at starts earlier.1))

pub set_inode-first : (group : Group) (agino place : ℕ) (chunk : Chunk) (inode : Inode) → slice_get group place ≡ Some chunk → IsFirstAt (start_of agino) group place
    → set_inode group agino inode ≡ slice_set group place (record { start = chunk.start; inodes = slice_set chunk.inodes (agino % CHUNK_INODES) inode })
set_inode-first group agino place chunk inode at first =
    let same : first.chunk ≡ chunk = same_Some first.chunk chunk (sym first.at ∙ at) in
    first_set group agino place chunk inode at (ap (λ (c : Chunk). c.start) (sym same) ∙ first.starts) first.earlier
