use Rattle.std.proofs.Common.{◌%◌, [], ap, sym, ◌∙◌}
use Rattle.std.specs.List.{slice_get}
use Rattle.group_ops.specs.Buffers.{Buffers}
use Rattle.group_ops.proofs.Finding.{buffer-at, buffer-none}
use Rattle.group_ops.proofs.buffers.find_buffer.Goals as goal

pub returns-in_err-place : goal.returns-in_err-place
returns-in_err-place c =
    let d : Buffers = record { start = 0; sectors = [] } in
    rw c.from_residual.ensures (sym (buffer-none c.args.chunks.now c.args.agino d (λ k low. c.in_err-place.ensures.none k d low)))

pub returns : goal.returns
returns c =
    let x : Buffers = c.index-chunks-place.result in
    sym (buffer-at c.args.chunks.now c.args.agino c.in_ok-place.place x c.requires c.in_ok-place.ensures.within (c.in_ok-place.ensures.found x)
    ∙ ap (λ (b : Buffers). slice_get b.sectors (c.args.agino % 64)) (sym c.index-chunks-place.is) ∙ c.at.ensures)
