use Rattle.std.proofs.Common.{arith}
use Rattle.std.proofs.lemmas.List.Sums.{sum_by_more_le}
use Rattle.group_space.proofs.Unused.{free_of, sum_few}
use Rattle.group_space.proofs.numbers.sum_free.Goals as goal

pub overflow_add-sum : goal.overflow_add-sum
overflow_add-sum c =
    let few = c.requires.few in
    let all = sum_few c.args.records.now c.requires.each in
    let more = sum_by_more_le free_of c.args.records.now c.loop-chunk.chunk-index (record { start = 0; free = 0; mask = 0 }) c.loop-chunk-test.true in
    omega (arith, c.loop-chunk.invariant)
