-- Buffers stand where a group's chunks do.
use Rattle.std.proofs.Common.{◌≡◌, ◌<◌, ◌%◌, ℕ, eqb, zero, suc, List, [], ◌∷◌, None, length, map, inl, inr, sym, ◌∙◌, arith}
use Rattle.std.specs.List.{AllByRecursion, slice_get}
use Rattle.std.proofs.lemmas.Bool.{cases_Bool, cond-true, cond-false, eq-eqb, false≢true}
use Rattle.std.proofs.lemmas.Option.{none-some}
use Rattle.life_table.specs.declared.table.Chunk.{Chunk}
use Rattle.life_table.specs.Table.{Group, start_of, inode_in}
use Rattle.life_table.specs.WellFormed.{IsChunk}
use Rattle.group_ops.specs.Buffers.{Buffers, buffer_in}
use Rattle.group_ops.proofs.Finding.{buffer_later, buffer_nil}

-- an element below a list's length is there
some_within : {X : Type 0} (xs : List X) (i : ℕ) → i < length xs → slice_get xs i ≡ None → ⊥
some_within [] i low e = absurd (omega arith)
some_within (x ∷ xs) zero low e = none-some x (sym e)
some_within (x ∷ xs) (suc i) low e = some_within xs i (omega arith) e

-- a number without an inode has no chunk, and so no buffer
pub none_there : (chunks : Group) (buffers : List Buffers) (agino : ℕ) → AllByRecursion IsChunk chunks
    → map (λ (chunk : Buffers). chunk.start) buffers ≡ map (λ (chunk : Chunk). chunk.start) chunks → inode_in chunks agino ≡ None → buffer_in buffers agino ≡ None
unfolding inode_in
none_there [] [] agino all same none = buffer_nil agino
none_there [] (b ∷ bs) agino all same none = cc
none_there (c ∷ cs) [] agino all same none = cc
none_there (c ∷ cs) (b ∷ bs) agino all same none =
    let first : b.start ≡ c.start = cc in
    let rest : map (λ (chunk : Buffers). chunk.start) bs ≡ map (λ (chunk : Chunk). chunk.start) cs = cc in
    elim (cases_Bool (eqb c.start (start_of agino))) [
      | inl here ↦
          let gone = sym (cond-true (eqb c.start (start_of agino)) (slice_get c.inodes (agino % 64)) (inode_in cs agino) here) ∙ none in
          absurd (some_within c.inodes (agino % 64) (omega (arith, all.0.whole)) gone)
      | inr other ↦
          let later = sym (cond-false (eqb c.start (start_of agino)) (slice_get c.inodes (agino % 64)) (inode_in cs agino) other) ∙ none in
          buffer_later b bs agino (λ e. absurd (false≢true (sym other ∙ eq-eqb c.start (start_of agino) (sym first ∙ e))))
          ∙ none_there cs bs agino all.1 rest later
    ]
