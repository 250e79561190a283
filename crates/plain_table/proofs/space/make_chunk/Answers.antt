use Rattle.std.proofs.Common.{◌≡◌, ◌*◌, sym, ap, ◌∙◌, replicate, None, arith}
use Rattle.plain_table.proofs.Spaces.{new_chunk-is}
use Rattle.plain_table.proofs.space.make_chunk.Goals as goal

pub returns : goal.returns
returns c =
    let end : c.loop.counter ≡ 64 = omega arith in
    (λ i. record { start = c.args.block * 8; inodes = (c.from_vec.ensures ∙ c.loop.invariant ∙ ap (λ n. replicate n (record { generation = 1; row = None })) end) i })
    ∙ sym (new_chunk-is c.args.block)
