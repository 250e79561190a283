use Rattle.std.proofs.Common.{◌*◌, [], subst, length, List, ◌<◌, arith}
use Rattle.group_ops.specs.Buffers.{Buffers}
use Rattle.group_ops.proofs.Finding.{buffer-none}
use Rattle.group_ops.proofs.Flushed.{found_flushed, found_start, gone_some, starts_found, whole_found}
use Rattle.group_ops.proofs.buffers.flush_buffers.Goals as goal

pub unreachable-requires : goal.unreachable-requires
unreachable-requires c =
    let d : Buffers = record { start = 0; sectors = [] } in
    let none = rw c.as_slice.ensures.value at c.in_default.ensures.none in
    gone_some _ (buffer-none c.args.chunks.now.items (c.args.cluster * 32) d (λ k low. none k d low)) c.requires.there

pub flush-requires-clause-from : goal.flush-requires-clause-from
flush-requires-clause-from c =
    let own = found_start c.args.chunks.now.items c.as_slice.result.now c.in-Some.place (c.args.cluster * 32) c.index_mut.result.now c.as_slice.ensures.value c.in-Some.ensures.found c.index_mut.ensures.value in
    omega (arith, own)

pub flush-requires-clause-below : goal.flush-requires-clause-below
flush-requires-clause-below c =
    let own = found_start c.args.chunks.now.items c.as_slice.result.now c.in-Some.place (c.args.cluster * 32) c.index_mut.result.now c.as_slice.ensures.value c.in-Some.ensures.found c.index_mut.ensures.value in
    omega (arith, own)

pub returns-clause-starts : goal.returns-clause-starts
returns-clause-starts c = starts_found c.args.chunks.now.items c.in-Some.place c.index_mut.result.now c.flush.new.self c.index_mut.ensures.value c.flush.ensures.start

pub returns-clause-whole : goal.returns-clause-whole
returns-clause-whole c =
    whole_found c.args.chunks.now.items c.in-Some.place c.index_mut.result.now c.flush.new.self c.index.result.now c.requires.whole
    (subst (λ (l : List Buffers). c.in-Some.place < length l) c.as_slice.ensures.value c.in-Some.ensures.within) c.index.ensures c.hold.ensures

pub returns-clause-buffers : goal.returns-clause-buffers
returns-clause-buffers c =
    found_flushed c.args.chunks.now.items c.as_slice.result.now c.in-Some.place c.args.cluster c.args.cache.now c.index_mut.result.now c.flush.new.self c.as_slice.ensures.value c.requires.ascend
    c.in-Some.ensures.within c.in-Some.ensures.found c.index_mut.ensures.value c.flush.ensures.start c.flush.ensures.sectors
