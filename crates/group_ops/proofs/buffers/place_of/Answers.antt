use Rattle.std.proofs.Common.{◌≡◌, ◌-◌, ◌≤◌, arith}
use Rattle.group_ops.specs.Buffers.{Buffers}
use Rattle.group_ops.proofs.Finding.{past_all, placed_here, placed_nowhere}
use Rattle.group_ops.proofs.buffers.place_of.Goals as goal

pub returns-in_err-place-clause-none : goal.returns-in_err-place-clause-none
returns-in_err-place-clause-none c =
    let count = c.count_up_to.ensures in
    let none : c.count_up_to.result ≡ 0 = omega (arith, c.in_err-place.ensures) in
    rw c.from_residual.ensures (past_all c.args.chunks.now c.args.agino (λ k e up low. count.after k e (omega (arith, none)) low))

pub returns-then-agino-start-lt-CHUNK_INODES-clause-found : goal.returns-then-agino-start-lt-CHUNK_INODES-clause-found
returns-then-agino-start-lt-CHUNK_INODES-clause-found c =
    let count = c.count_up_to.ensures in
    let x : Buffers = c.index-chunks-place.result in
    let place : (1 ≤ c.count_up_to.result) × (c.in_ok-place.place ≡ c.count_up_to.result - 1) = c.in_ok-place.ensures in
    placed_here c.args.chunks.now c.args.agino c.in_ok-place.place c.start-start.result x (omega (arith, place, count.within)) c.index-chunks-place.is
    c.start-start.ensures.own c.start-start.ensures.aligned (λ d. count.before c.in_ok-place.place d (omega (arith, place))) c.if-agino-start-lt-CHUNK_INODES.true

pub returns-else-agino-start-lt-CHUNK_INODES-clause-none : goal.returns-else-agino-start-lt-CHUNK_INODES-clause-none
returns-else-agino-start-lt-CHUNK_INODES-clause-none c =
    let count = c.count_up_to.ensures in
    let x : Buffers = c.index-chunks-place.result in
    let place : (1 ≤ c.count_up_to.result) × (c.in_ok-place.place ≡ c.count_up_to.result - 1) = c.in_ok-place.ensures in
    placed_nowhere c.args.chunks.now c.args.agino c.count_up_to.result c.in_ok-place.place c.start-start.result x c.requires (omega (arith, place)) count.within c.index-chunks-place.is
    c.start-start.ensures.own c.start-start.ensures.aligned (omega (arith, c.if-agino-start-lt-CHUNK_INODES.false)) count.after
