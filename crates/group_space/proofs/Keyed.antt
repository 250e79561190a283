-- The lowest key of a group, by its numbers.
use Rattle.std.proofs.Common.{◌≡◌, ◌+◌, ◌*◌, ◌%◌, ◌<◌, ℕ, zero, suc, true, false, cond, eqb, List, [], ◌∷◌, ◌++◌, Option, None, Some, length, append-nil, refl, sym, ap, subst, ◌∙◌, inl, inr, arith}
use Rattle.std.specs.Prelude.{IsSomeAnd, IsTrue, nat_lt, slice_get}
use Rattle.std.specs.List.{AllByRecursion}
use Rattle.std.proofs.lemmas.Bool.{cases_Bool, cond-true, cond-false, eq-eqb, eqb-true, ne_eqb}
use Rattle.std.proofs.lemmas.Option.{none-some, same_Some, slice_get_within}
use Rattle.life_limits.specs.declared.TheConstants.{BLOCK_SECTORS, CHUNK_INODES, GROUP_NUMBERS}
use Rattle.life_table.specs.declared.key.Key.{Key}
use Rattle.life_table.specs.declared.table.Inode.{Inode}
use Rattle.life_table.specs.declared.table.Chunk.{Chunk}
use Rattle.life_table.specs.Table.{Group, inode_in, start_of}
use Rattle.life_table.specs.Space.{free_keys, insert_chunk, is_free, keys_from, lowest_key, new_chunk}
use Rattle.life_table.specs.WellFormed.{ChunksAscend, IsChunk}
use Rattle.group_space.specs.Space.{IsFreeIn}

abbrev pub key_at : ℕ → ℕ → Key
key_at number generation = record { number = number; generation = generation }

-- ---- the keys of a chunk

no_keys : (number : ℕ) (xs : List Inode) → ((i : ℕ) (x : Inode) → slice_get xs i ≡ Some x → is_free x ≡ true → ⊥) → keys_from number xs ≡ []
unfolding keys_from
no_keys number [] none = refl
no_keys number (x ∷ xs) none =
    elim (cases_Bool (is_free x)) [
      | inl free ↦ absurd (none 0 x refl free)
      | inr busy ↦ cond-false (is_free x) (key_at number x.generation ∷ keys_from (number + 1) xs) (keys_from (number + 1) xs) busy ∙ no_keys (number + 1) xs (λ i y at. none (suc i) y at)
    ]

first_key : (number i : ℕ) (xs : List Inode) (x : Inode) → slice_get xs i ≡ Some x → is_free x ≡ true → ((j : ℕ) (y : Inode) → j < i → slice_get xs j ≡ Some y → is_free y ≡ true → ⊥)
    → slice_get (keys_from number xs) 0 ≡ Some (key_at (number + i) x.generation)
unfolding keys_from
first_key number i [] x at free none = absurd (none-some x at)
first_key number zero (y ∷ ys) x at free none =
    let same : y ≡ x = same_Some y x at in
    let first : number ≡ number + zero = omega arith in
    ap (λ (ks : List Key). slice_get ks 0) (cond-true (is_free y) (key_at number y.generation ∷ keys_from (number + 1) ys) (keys_from (number + 1) ys) (ap is_free same ∙ free))
    ∙ (λ k. Some (key_at (first k) (same k).generation))
first_key number (suc i) (y ∷ ys) x at free none =
    elim (cases_Bool (is_free y)) [
      | inl here ↦ absurd (none 0 y (omega arith) refl here)
      | inr busy ↦
          let next : number + 1 + i ≡ number + suc i = omega arith in
          ap (λ (ks : List Key). slice_get ks 0) (cond-false (is_free y) (key_at number y.generation ∷ keys_from (number + 1) ys) (keys_from (number + 1) ys) busy)
          ∙ first_key (number + 1) i ys x at free (λ j z low. none (suc j) z (omega arith))
          ∙ ap (λ (n : ℕ). Some (key_at n x.generation)) next
    ]

head_some : (xs ys : List Key) (x : Key) → slice_get xs 0 ≡ Some x → slice_get (xs ++ ys) 0 ≡ Some x
head_some [] ys x at = absurd (none-some x at)
head_some (y ∷ xs) ys x at = at

-- ---- numbers of a group

-- a number of a later chunk starts later
later_start : (s : ℕ) (cs : Group) (agino : ℕ) (inode : Inode) → AllByRecursion (λ (later : Chunk). s < later.start) cs → inode_in cs agino ≡ Some inode → s < start_of agino
unfolding inode_in
later_start s [] agino inode all at = absurd (none-some inode at)
later_start s (c ∷ cs) agino inode all at =
    elim (cases_Bool (eqb c.start (start_of agino))) [
      | inl same ↦ let e = eqb-true c.start (start_of agino) same in let here = all.0 in omega arith
      | inr other ↦ later_start s cs agino inode all.1 (sym (cond-false (eqb c.start (start_of agino)) (slice_get c.inodes (agino % CHUNK_INODES)) (inode_in cs agino) other) ∙ at)
    ]

-- the number of an inode of the first chunk, and of one of the others
first_number : (c : Chunk) (cs : Group) (i : ℕ) (x : Inode) → IsChunk c → slice_get c.inodes i ≡ Some x → inode_in (c ∷ cs) (c.start + i) ≡ Some x
unfolding inode_in
first_number c cs i x is at =
    let aligned = is.start in
    let whole = is.whole in
    let low : i < length c.inodes = slice_get_within c.inodes i x at in
    let same : c.start ≡ start_of (c.start + i) = omega arith in
    let place : (c.start + i) % 64 ≡ i = omega arith in
    cond-true (eqb c.start (start_of (c.start + i))) (slice_get c.inodes ((c.start + i) % CHUNK_INODES)) (inode_in cs (c.start + i)) (eq-eqb c.start (start_of (c.start + i)) same)
    ∙ ap (slice_get c.inodes) place ∙ at

later_number : (c : Chunk) (cs : Group) (agino : ℕ) (x : Inode) → ChunksAscend (c ∷ cs) → inode_in cs agino ≡ Some x → inode_in (c ∷ cs) agino ≡ Some x
unfolding inode_in
later_number c cs agino x ascends at =
    let later = later_start c.start cs agino x ascends.0 at in
    cond-false (eqb c.start (start_of agino)) (slice_get c.inodes (agino % CHUNK_INODES)) (inode_in cs agino) (ne_eqb c.start (start_of agino) (λ e. omega (arith, later, e))) ∙ at

-- what is free in a group, as an inode
free_inode : (o : Option Inode) → IsSomeAnd o (λ inode. IsTrue (is_free inode)) → (inode : Inode) × (o ≡ Some inode) × (is_free inode ≡ true)
free_inode None h = absurd h
free_inode (Some inode) h = (inode, refl, h)

and_free : (o : Option Inode) (inode : Inode) → o ≡ Some inode → is_free inode ≡ true → IsSomeAnd o (λ inode. IsTrue (is_free inode))
and_free o inode e free = subst (λ (x : Option Inode). IsSomeAnd x (λ inode. IsTrue (is_free inode))) (sym e) free

later_free : (c : Chunk) (cs : Group) (n : ℕ) → ChunksAscend (c ∷ cs) → IsFreeIn cs n → IsFreeIn (c ∷ cs) n
later_free c cs n ascends free = let f = free_inode (inode_in cs n) free in and_free (inode_in (c ∷ cs) n) f.0 (later_number c cs n f.0 ascends f.1) f.2

-- ---- the lowest key

pub no_lowest : (g : ℕ) (cs : Group) → ChunksAscend cs → AllByRecursion IsChunk cs → ((n : ℕ) → IsFreeIn cs n → ⊥) → free_keys g cs ≡ []
unfolding free_keys
no_lowest g [] ascends all none = refl
no_lowest g (c ∷ cs) ascends all none =
    (λ i.
    no_keys (g * GROUP_NUMBERS + c.start) c.inodes (λ j x at free. none (c.start + j) (and_free (inode_in (c ∷ cs) (c.start + j)) x (first_number c cs j x all.0 at) free)) i
    ++ no_lowest g cs ascends.1 all.1 (λ n free. none n (later_free c cs n ascends free)) i)

pub lowest_is : (g : ℕ) (cs : Group) (agino : ℕ) (inode : Inode) → ChunksAscend cs → AllByRecursion IsChunk cs → inode_in cs agino ≡ Some inode → is_free inode ≡ true
    → ((n : ℕ) → n < agino → IsFreeIn cs n → ⊥) → lowest_key g cs ≡ Some (key_at (g * GROUP_NUMBERS + agino) inode.generation)
unfolding free_keys inode_in
lowest_is g [] agino inode ascends all at free none = absurd (none-some inode at)
lowest_is g (c ∷ cs) agino inode ascends all at free none =
    let aligned = all.0.start in
    let whole = all.0.whole in
    elim (cases_Bool (eqb c.start (start_of agino))) [
      | inl same ↦
          let start : c.start ≡ start_of agino = eqb-true c.start (start_of agino) same in
          let here = sym (cond-true (eqb c.start (start_of agino)) (slice_get c.inodes (agino % CHUNK_INODES)) (inode_in cs agino) same) ∙ at in
          let number : g * GROUP_NUMBERS + c.start + agino % 64 ≡ g * GROUP_NUMBERS + agino = omega arith in
          head_some (keys_from (g * GROUP_NUMBERS + c.start) c.inodes) (free_keys g cs) (key_at (g * GROUP_NUMBERS + c.start + agino % 64) inode.generation)
          (first_key (g * GROUP_NUMBERS + c.start) (agino % 64) c.inodes inode here free
          (λ j y low at' free'. none (c.start + j) (omega arith) (and_free (inode_in (c ∷ cs) (c.start + j)) y (first_number c cs j y all.0 at') free')))
          ∙ ap (λ (n : ℕ). Some (key_at n inode.generation)) number
      | inr other ↦
          let there = sym (cond-false (eqb c.start (start_of agino)) (slice_get c.inodes (agino % CHUNK_INODES)) (inode_in cs agino) other) ∙ at in
          let later = later_start c.start cs agino inode ascends.0 there in
          let empty : keys_from (g * GROUP_NUMBERS + c.start) c.inodes ≡ [] =
          no_keys (g * GROUP_NUMBERS + c.start) c.inodes
          (λ j y at' free'. none (c.start + j) (let low = slice_get_within c.inodes j y at' in omega arith) (and_free (inode_in (c ∷ cs) (c.start + j)) y (first_number c cs j y all.0 at') free')) in
          ap (λ (ks : List Key). slice_get (ks ++ free_keys g cs) 0) empty
          ∙ lowest_is g cs agino inode ascends.1 all.1 there free (λ n low free'. none n low (later_free c cs n ascends free'))
    ]

-- ---- a chunk that is added

none_at_head : (ks : List Key) → slice_get ks 0 ≡ None → ks ≡ []
none_at_head [] none = refl
none_at_head (k ∷ ks) none = absurd (none-some k (sym none))

front_nil : (xs ys : List Key) → xs ++ ys ≡ [] → xs ≡ []
front_nil [] ys e = refl
front_nil (x ∷ xs) ys e = cc

back_nil : (xs ys : List Key) → xs ++ ys ≡ [] → ys ≡ []
back_nil [] ys e = e
back_nil (x ∷ xs) ys e = cc

own_keys : (g : ℕ) (new : Chunk) (cs : Group) → free_keys g cs ≡ [] → free_keys g (insert_chunk new cs) ≡ keys_from (g * GROUP_NUMBERS + new.start) new.inodes
unfolding free_keys insert_chunk
own_keys g new [] none = append-nil (keys_from (g * GROUP_NUMBERS + new.start) new.inodes)
own_keys g new (c ∷ cs) none =
    let own : List Key = keys_from (g * GROUP_NUMBERS + c.start) c.inodes in
    elim (nat_lt new.start c.start) as (λ t. free_keys g (cond t (new ∷ c ∷ cs) (c ∷ insert_chunk new cs)) ≡ keys_from (g * GROUP_NUMBERS + new.start) new.inodes) [
      | true ↦ ap (λ (ks : List Key). keys_from (g * GROUP_NUMBERS + new.start) new.inodes ++ ks) none ∙ append-nil (keys_from (g * GROUP_NUMBERS + new.start) new.inodes)
      | false ↦ ap (λ (ks : List Key). ks ++ free_keys g (insert_chunk new cs)) (front_nil own (free_keys g cs) none) ∙ own_keys g new cs (back_nil own (free_keys g cs) none)
    ]

new_key : (g block : ℕ) → slice_get (keys_from (g * GROUP_NUMBERS + (new_chunk block).start) (new_chunk block).inodes) 0 ≡ Some (key_at (g * GROUP_NUMBERS + BLOCK_SECTORS * block) 1)
unfolding keys_from new_chunk
new_key g block = let e : g * GROUP_NUMBERS + block * 8 ≡ g * GROUP_NUMBERS + 8 * block = omega arith in ap (λ (n : ℕ). Some (key_at n 1)) e

pub added_lowest : (g : ℕ) (cs : Group) (block : ℕ) → lowest_key g cs ≡ None → lowest_key g (insert_chunk (new_chunk block) cs) ≡ Some (key_at (g * GROUP_NUMBERS + BLOCK_SECTORS * block) 1)
added_lowest g cs block none = ap (λ (ks : List Key). slice_get ks 0) (own_keys g (new_chunk block) cs (none_at_head (free_keys g cs) none)) ∙ new_key g block
