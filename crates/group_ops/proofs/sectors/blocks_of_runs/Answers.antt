use Rattle.std.proofs.Common.{◌≡◌, ◌<◌, ◌+◌, ◌++◌, ℕ, List, [], ◌∷◌, length, get_or, take, ap, sym, ◌∙◌}
use Rattle.std.specs.List.{flat_map}
use Rattle.std.proofs.lemmas.Grind.{flat_map-append}
use Rattle.std.proofs.lemmas.List.{append-nil, take_all, take_more}
use Rattle.extent_fork.specs.declared.extent.Extent.{Extent}
use Rattle.extent_fork.specs.Forks.{IsRun}
use Rattle.extent_fork.specs.Runs.{blocks_of}
use Rattle.group_ops.proofs.Inodes.{all_get}
use Rattle.group_ops.proofs.sectors.blocks_of_runs.Goals as goal

more : (runs : List Extent) (k : ℕ) (d : Extent) → k < length runs → flat_map blocks_of (take (k + 1) runs) ≡ flat_map blocks_of (take k runs) ++ blocks_of (get_or runs k d)
more runs k d low =
    ap (λ (l : List Extent). flat_map blocks_of l) (take_more runs k d low)
    ∙ flat_map-append blocks_of (take k runs) (get_or runs k d ∷ [])
    ∙ ap (λ (l : List ℕ). flat_map blocks_of (take k runs) ++ l) (append-nil (blocks_of (get_or runs k d)))

pub push_blocks-requires : goal.push_blocks-requires
push_blocks-requires c = all_get IsRun c.args.runs.now c.loop-run.run-index (record { start = 0; count = 0 }) c.requires c.loop-run-test.true

pub loop-run-preserved : goal.loop-run-preserved
loop-run-preserved c =
    let d : Extent = record { start = 0; count = 0 } in
    let k : ℕ = c.loop-run.run-index in
    c.in_ok-push_blocks.ensures ∙ ap (λ (l : List ℕ). l ++ blocks_of (get_or c.args.runs.now k d)) c.loop-run.invariant ∙ sym (more c.args.runs.now k d c.loop-run-test.true)

pub returns : goal.returns
returns c = c.loop-run.invariant ∙ ap (λ (l : List Extent). flat_map blocks_of l) (take_all c.loop-run.run-index c.args.runs.now c.loop-run-test.false)
