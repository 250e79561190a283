use Rattle.std.proofs.Common.{◌≡◌, ◌<◌, ◌≤◌, ◌++◌, ℕ, [], List, length, map, get_or, take, sym, subst, ap, ◌∙◌, arith}
use Rattle.std.proofs.lemmas.List.{take_all}
use Rattle.geometry.specs.Places.{number_in}
use Rattle.life_table.specs.declared.table.Inode.{Inode}
use Rattle.life_table.specs.declared.table.Chunk.{Chunk}
use Rattle.life_table.specs.Table.{Group, group_at}
use Rattle.group_ops.specs.declared.rows.RowLine.{RowLine}
use Rattle.group_ops.specs.Buffers.{Buffers}
use Rattle.group_ops.specs.Rows.{HasInodes, row_lines, rows_from}
use Rattle.group_ops.proofs.RowLines.{as_many_buffers, chunks_more, chunks_none, groups_ascend, has_inodes, start_of_chunk}
use Rattle.group_ops.proofs.Told.{chunks_of}
use Rattle.group_ops.proofs.state.GroupState.rows.Goals as goal

pub loop-chunk-init : goal.loop-chunk-init
loop-chunk-init c t layouts is = let none = chunks_none c.args.self.now.group in cc (none)

pub loop-chunk-preserved : goal.loop-chunk-preserved
loop-chunk-preserved c t layouts is =
    let s = c.args.self.now in
    let k : ℕ = c.loop-chunk.chunk-index in
    let chunks : Group = group_at t s.group in
    let d : Chunk = record { start = 0; inodes = [] } in
    let x : Buffers = c.chunk-item.result in
    let buffers : List Buffers = c.chunks-chunks.result.now in
    let same = ap (λ (l : List Buffers). map (λ (chunk : Buffers). chunk.start) l) c.chunks-chunks.ensures ∙ is.starts in
    let low : k < length buffers = c.loop-chunk-test.true in
    let below : k < length chunks = omega (arith, low, as_many_buffers buffers chunks same) in
    let start : (get_or chunks k d).start ≡ c.start-start.result =
    start_of_chunk buffers chunks k x d same low ∙ ap (λ (b : Buffers). b.start) (sym c.chunk-item.is) ∙ sym c.start-start.ensures.own in
    let has = has_inodes chunks k d (chunks_of t s.group is.table.groups) (groups_ascend t.blocks t.groups s.group is.table.groups) below in
    let inodes : List Inode = (get_or chunks k d).inodes in
    let added = c.in_ok-add_lines.ensures t layouts inodes is (subst (λ (n : ℕ). HasInodes chunks n inodes) start has) in
    added
    ∙ ap (λ (l : List RowLine). l ++ rows_from (number_in s.group c.start-start.result) inodes) (c.loop-chunk.invariant t layouts is)
    ∙ ap (λ (n : ℕ). row_lines s.group (take k chunks) ++ rows_from (number_in s.group n) inodes) (sym start)
    ∙ sym (chunks_more s.group chunks k d below)

pub returns : goal.returns
returns c t layouts is =
    let s = c.args.self.now in
    let chunks : Group = group_at t s.group in
    let buffers : List Buffers = c.chunks-chunks.result.now in
    let same = ap (λ (l : List Buffers). map (λ (chunk : Buffers). chunk.start) l) c.chunks-chunks.ensures ∙ is.starts in
    let past : length buffers ≤ c.loop-chunk.chunk-index = c.loop-chunk-test.false in
    let whole : take c.loop-chunk.chunk-index chunks ≡ chunks = take_all c.loop-chunk.chunk-index chunks (omega (arith, past, as_many_buffers buffers chunks same)) in
    c.loop-chunk.invariant t layouts is ∙ ap (λ (l : Group). row_lines s.group l) whole
