use Rattle.std.proofs.Common.{sym, ◌∙◌, insert}
use Rattle.plain_table.proofs.Spaces.{insert_chunk-insert}
use Rattle.plain_table.proofs.space.with_chunk_in_order.Goals as goal

pub returns : goal.returns
returns c =
    c.in_ok-insert.ensures.items
    ∙ (λ i. insert (c.in_ok-copy.ensures i) (c.place_in_order-place.ensures.first i) c.args.chunk)
    ∙ sym (insert_chunk-insert c.args.chunk c.args.group.now)
