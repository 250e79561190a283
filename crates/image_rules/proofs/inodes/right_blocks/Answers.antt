use Rattle.std.proofs.Common.{◌≡◌, ◌<◌, ◌≤◌, All, ℕ, List, length, ap, sym, ◌∙◌, subst}
use Rattle.std.specs.List.{flat_map}
use Rattle.std.proofs.lemmas.Bool.{false≢true}
use Rattle.std.proofs.lemmas.List.Elements.{All-from_recursion}
use Rattle.extent_fork.specs.declared.extent.Extent.{Extent}
use Rattle.extent_fork.specs.Forks.{IsRun}
use Rattle.extent_fork.specs.Reading.{runs_in}
use Rattle.extent_fork.specs.Runs.{blocks_of}
use Rattle.sound_image.specs.Places.{bytes_at, sector_in}
use Rattle.sound_image.specs.Reading.{core_of}
use Rattle.image_rules.proofs.Living.{blocks_are, fork_right, fork_of_sector, fork_counts}
use Rattle.image_rules.proofs.Blocking.{from_data}
use Rattle.image_rules.proofs.Outcomes.{IfOk-weaker}
use Rattle.image_rules.proofs.inodes.right_blocks.Goals as goal
use Rattle.image_rules.proofs.inodes.right_blocks.Goals.{then-not-are_within-via-then-not-are_within, then-not-are_within-via-else-not-are_within+then-count_blocks-core}

pub returns-in_err-runs-clause-wrong : goal.returns-in_err-runs-clause-wrong
returns-in_err-runs-clause-wrong c image agino shown same malformed right =
    let a = c.args in
    let runs : List Extent = runs_in (core_of a.g.now image a.group agino).extents (bytes_at image (sector_in a.g.now a.group agino)) in
    let fault = c.in_err-runs.ensures.only runs (fork_of_sector a.g.now image a.group agino a.sector.now.bytes a.core.now runs shown same right.runs) in
    let back = rw malformed at c.from_residual.ensures.1 in
    cc (fault, back)

pub returns-then-not-are_within-clause-wrong : goal.returns-then-not-are_within-clause-wrong
returns-then-not-are_within-clause-wrong c image agino shown same _ right =
    let a = c.args in
    let runs = c.in_ok-runs.runs.items in
    let has = c.in_ok-runs.ensures.found in
    let counts = fork_counts c.encoded_forks_are_read.ensures a.g.now image a.group agino a.sector.now.bytes a.core.now runs shown same c.requires.group_small c.requires.few has right in
    elim c.then-not-are_within.branch [
      | then-not-are_within-via-then-not-are_within w ↦
          let passes = c.are_within.ensures.complete (subst (λ (rs : List Extent). All (λ (block : ℕ). block < a.g.now.blocks) (flat_map blocks_of rs)) (sym c.deref.ensures.value) counts.0) in
          absurd (false≢true (sym w.if-not-are_within.true ∙ passes))
      | then-not-are_within-via-else-not-are_within+then-count_blocks-core w ↦
          w.if-count_blocks-core.true (w.count_blocks.ensures ∙ ap (λ (rs : List Extent). length (flat_map blocks_of rs)) w.deref-else-not-are_within.ensures.value ∙ sym counts.1)
    ]

pub returns-clause-right : goal.returns-clause-right
returns-clause-right c image agino shown same =
    let a = c.args in
    let runs = c.in_ok-runs.runs.items in
    let has = c.in_ok-runs.ensures.found in
    let within = subst (λ (rs : List Extent). All (λ (block : ℕ). block < a.g.now.blocks) (flat_map blocks_of rs)) c.deref.ensures.value (c.are_within.ensures.sound c.if-not-are_within.false) in
    let count : length (flat_map blocks_of runs) ≡ a.core.now.blocks =
    ap (λ (rs : List Extent). length (flat_map blocks_of rs)) (sym c.deref-else-not-are_within.ensures.value) ∙ sym c.count_blocks.ensures ∙ c.if-count_blocks-core.false in
    let right = fork_right c.encoded_forks_are_read.ensures a.g.now image a.group agino a.sector.now.bytes a.core.now runs shown same c.requires.group_small c.requires.few has within count in
    let blocks = blocks_are c.encoded_forks_are_read.ensures a.g.now image a.group agino a.sector.now.bytes a.core.now runs shown same c.requires.group_small c.requires.few has in
    let listed = ap (λ (rs : List Extent). flat_map blocks_of rs) c.deref-2.ensures.value in
    IfOk-weaker c.list_blocks.result c.list_blocks.ensures.all (λ v e. (right, blocks ∙ sym (e ∙ listed)))

pub returns-clause-in_data : goal.returns-clause-in_data
returns-clause-in_data c =
    let a = c.args in
    let within : All (λ (block : ℕ). block < a.g.now.blocks) (flat_map blocks_of c.in_ok-runs.runs.items) =
    subst (λ (rs : List Extent). All (λ (block : ℕ). block < a.g.now.blocks) (flat_map blocks_of rs)) c.deref.ensures.value (c.are_within.ensures.sound c.if-not-are_within.false) in
    let from = from_data c.in_ok-runs.runs.items (All-from_recursion IsRun c.in_ok-runs.runs.items c.in_ok-runs.ensures.found.runs.each) in
    let listed = ap (λ (rs : List Extent). flat_map blocks_of rs) c.deref-2.ensures.value in
    IfOk-weaker c.list_blocks.result c.list_blocks.ensures.all (λ v e. subst (All (λ (block : ℕ). (24 ≤ block) × (block < a.g.now.blocks))) (sym (e ∙ listed)) (λ k d low. (from k d low, within k d low)))
