-- The lines of rows, one inode and one chunk after the other.
use Rattle.std.proofs.Common.{◌≡◌, ◌<◌, ◌+◌, ◌++◌, ◌%◌, ℕ, zero, suc, Bool, true, false, not, List, [], ◌∷◌, Some, None, Option, length, map, get_or, take, refl, ap, sym, ◌∙◌, arith, append_assoc}
use Rattle.std.specs.List.{AllByRecursion, flat_map, slice_get}
use Rattle.std.proofs.lemmas.Bool.{false≢true}
use Rattle.std.proofs.lemmas.Grind.{flat_map-append}
use Rattle.std.proofs.lemmas.List.{take_more, length-take-le, append-nil}
use Rattle.std.proofs.lemmas.Option.{slice_get_within, get_or_from_slice_get}
use Rattle.geometry.specs.Places.{number_in}
use Rattle.inode_core.specs.declared.shape.Core.{Core}
use Rattle.life_table.specs.declared.types.Row.{Row}
use Rattle.life_table.specs.declared.table.Inode.{Inode}
use Rattle.life_table.specs.declared.table.Chunk.{Chunk}
use Rattle.life_table.specs.Table.{Group}
use Rattle.life_table.specs.WellFormed.{ChunksAscend, IsChunk, IsGroup}
use Rattle.life_limits.specs.declared.TheConstants.{BUCKETS}
use Rattle.sound_image.specs.Encoding.{Layouts, bucket_list, core_for, next_in}
use Rattle.group_ops.specs.declared.rows.RowLine.{RowLine}
use Rattle.group_ops.specs.Buffers.{Buffers}
use Rattle.group_ops.specs.Rows.{HasInodes, line_in_life, line_of, row_lines, rows_from}
use Rattle.group_ops.specs.Telling.{core_told}
use Rattle.group_ops.proofs.Inodes.{inode_at_chunk, all_get}

rows_from-append : (number : ℕ) (xs ys : List Inode) → rows_from number (xs ++ ys) ≡ rows_from number xs ++ rows_from (number + length xs) ys
unfolding rows_from
rows_from-append number [] ys = let e : number ≡ number + 0 = omega arith in ap (λ (n : ℕ). rows_from n ys) e
rows_from-append number (x ∷ xs) ys =
    let e : number + 1 + length xs ≡ number + suc (length xs) = omega arith in
    ap (λ (l : List RowLine). line_of number x ++ l) (rows_from-append (number + 1) xs ys ∙ ap (λ (n : ℕ). rows_from (number + 1) xs ++ rows_from n ys) e)
    ∙ sym (append_assoc (line_of number x) (rows_from (number + 1) xs) (rows_from (number + suc (length xs)) ys))

one_row : (number : ℕ) (x : Inode) → rows_from number (x ∷ []) ≡ line_of number x
unfolding rows_from
one_row number x = append-nil (line_of number x)

pub rows_none : (number : ℕ) → rows_from number [] ≡ []
unfolding rows_from
rows_none number = refl

-- one inode more
pub rows_more : (number : ℕ) (inodes : List Inode) (i : ℕ) (x : Inode) → slice_get inodes i ≡ Some x → rows_from number (take (i + 1) inodes) ≡ rows_from number (take i inodes) ++ line_of (number + i) x
rows_more number inodes i x at =
    let low : i < length inodes = slice_get_within inodes i x at in
    let here : get_or inodes i x ≡ x = get_or_from_slice_get inodes i x x at in
    ap (rows_from number) (take_more inodes i x low)
    ∙ rows_from-append number (take i inodes) (get_or inodes i x ∷ [])
    ∙ ap (λ (n : ℕ). rows_from number (take i inodes) ++ rows_from (number + n) (get_or inodes i x ∷ [])) (length-take-le i inodes (omega arith))
    ∙ ap (λ (l : List RowLine). rows_from number (take i inodes) ++ l) (ap (λ (y : Inode). rows_from (number + i) (y ∷ [])) here ∙ one_row (number + i) x)

pub chunks_none : (group : ℕ) → row_lines group [] ≡ []
unfolding row_lines
chunks_none group = refl

-- one chunk more
pub chunks_more : (group : ℕ) (chunks : Group) (k : ℕ) (d : Chunk) → k < length chunks
    → row_lines group (take (k + 1) chunks) ≡ row_lines group (take k chunks) ++ rows_from (number_in group (get_or chunks k d).start) (get_or chunks k d).inodes
unfolding row_lines
chunks_more group chunks k d low =
    let f : Chunk → List RowLine = λ (chunk : Chunk). rows_from (number_in group chunk.start) chunk.inodes in
    ap (λ (l : Group). flat_map f l) (take_more chunks k d low)
    ∙ flat_map-append f (take k chunks) (get_or chunks k d ∷ [])
    ∙ ap (λ (l : List RowLine). flat_map f (take k chunks) ++ l) (append-nil (f (get_or chunks k d)))

-- a chunk of a well-formed group has its inodes there
pub has_inodes : (chunks : Group) (k : ℕ) (d : Chunk) → AllByRecursion IsChunk chunks → ChunksAscend chunks → k < length chunks
    → HasInodes chunks (get_or chunks k d).start (get_or chunks k d).inodes
has_inodes chunks k d all ascends low =
    let own = all_get IsChunk chunks k d all low in
    record {
      whole = own.whole;
      each = λ i inode at. let small = slice_get_within (get_or chunks k d).inodes i inode at in inode_at_chunk chunks k i d all ascends low (omega (arith, small, own.whole)) ∙ at;
    }

line_of_life : (number generation next : ℕ) (row : Option Row) → (core_for generation row next).live ≡ true
    → line_in_life number generation row
    ≡ record { key = record { number = number; generation = (core_for generation row next).generation }; links = (core_for generation row next).links; blocks = (core_for generation row next).blocks } ∷ []
unfolding core_for
line_of_life number generation next None live = absurd (false≢true live)
line_of_life number generation next (Some row) live = refl

no_line_of_life : (number generation next : ℕ) (row : Option Row) → (core_for generation row next).live ≡ false → line_in_life number generation row ≡ []
unfolding core_for
no_line_of_life number generation next None live = refl
no_line_of_life number generation next (Some row) live = absurd (false≢true (sym live))

pub line_seen : (layouts : Layouts) (group agino number : ℕ) (inode : Inode) (core : Core) → Some core ≡ core_told layouts group agino (Some inode) → core.live ≡ true
    → line_of number inode ≡ record { key = record { number = number; generation = core.generation }; links = core.links; blocks = core.blocks } ∷ []
line_seen layouts group agino number inode core told live =
    let next : ℕ = next_in (bucket_list layouts group (agino % BUCKETS)) agino in
    let same : core ≡ core_for inode.generation inode.row next = cc in
    line_of_life number inode.generation next inode.row (ap (λ (c : Core). c.live) (sym same) ∙ live)
    ∙ ap (λ (c : Core). record { key = record { number = number; generation = c.generation }; links = c.links; blocks = c.blocks } ∷ []) (sym same)

pub no_line_seen : (layouts : Layouts) (group agino number : ℕ) (inode : Inode) (core : Core) → Some core ≡ core_told layouts group agino (Some inode) → core.live ≡ false → line_of number inode ≡ []
no_line_seen layouts group agino number inode core told live =
    let next : ℕ = next_in (bucket_list layouts group (agino % BUCKETS)) agino in
    let same : core ≡ core_for inode.generation inode.row next = cc in
    no_line_of_life number inode.generation next inode.row (ap (λ (c : Core). c.live) (sym same) ∙ live)

-- ---- chunks and their buffers, one for one

pub start_of_chunk : (buffers : List Buffers) (chunks : Group) (k : ℕ) (x : Buffers) (d : Chunk) → map (λ (chunk : Buffers). chunk.start) buffers ≡ map (λ (chunk : Chunk). chunk.start) chunks
    → k < length buffers → (get_or chunks k d).start ≡ (get_or buffers k x).start
start_of_chunk [] chunks k x d same low = absurd (omega arith)
start_of_chunk (b ∷ bs) [] k x d same low = cc
start_of_chunk (b ∷ bs) (c ∷ cs) zero x d same low = cc
start_of_chunk (b ∷ bs) (c ∷ cs) (suc k) x d same low =
    let rest : map (λ (chunk : Buffers). chunk.start) bs ≡ map (λ (chunk : Chunk). chunk.start) cs = cc in start_of_chunk bs cs k x d rest (omega arith)

pub as_many_buffers : (buffers : List Buffers) (chunks : Group) → map (λ (chunk : Buffers). chunk.start) buffers ≡ map (λ (chunk : Chunk). chunk.start) chunks → length buffers ≡ length chunks
as_many_buffers [] [] same = refl
as_many_buffers [] (c ∷ cs) same = cc
as_many_buffers (b ∷ bs) [] same = cc
as_many_buffers (b ∷ bs) (c ∷ cs) same =
    let rest : map (λ (chunk : Buffers). chunk.start) bs ≡ map (λ (chunk : Chunk). chunk.start) cs = cc in ap (λ (n : ℕ). suc n) (as_many_buffers bs cs rest)

-- the chunks of a group of a well-formed table ascend
pub groups_ascend : (blocks : ℕ) (groups : List Group) (group : ℕ) → AllByRecursion (IsGroup blocks) groups → ChunksAscend (get_or groups group [])
groups_ascend blocks [] group all = tt
groups_ascend blocks (g ∷ gs) zero all = all.0.ascends
groups_ascend blocks (g ∷ gs) (suc n) all = groups_ascend blocks gs n all.1

pub not_true : (b : Bool) → not b ≡ true → b ≡ false
not_true true e = absurd (false≢true e)
not_true false e = refl

pub not_false : (b : Bool) → not b ≡ false → b ≡ true
not_false true e = refl
not_false false e = absurd (false≢true (sym e))
