use Rattle.std.proofs.Common.{◌≤◌, ◌<◌, ◌+◌, ℕ, List, Option, Some, All, sym, subst, ◌∙◌}
use Rattle.life_table.specs.declared.types.Row.{Row}
use Rattle.sound_image.specs.Reading.{core_of, blocks_in}
use Rattle.image_rules.specs.Gathered.{Gathered}
use Rattle.image_rules.specs.Taking.{Adds}
use Rattle.image_rules.proofs.Gathering.{Gathered-blocks, Gathered-misformed}
use Rattle.image_rules.proofs.found.Found.add_live.Goals as goal

pub returns-in-Ok-clause-taken : goal.returns-in-Ok-clause-taken
returns-in-Ok-clause-taken c image inode shown same found in_use core was =
    let a = c.args in
    let g = a.g.now in
    let s = a.self.now in
    let row : Row = record { links = (core_of g image a.group a.agino).links; blocks = blocks_in g image a.group a.agino; opens = 0 } in
    let right = c.in-Ok.ensures.right image a.agino shown same in
    let now = c.add_blocks.new.self in
    let adds : Adds s.map s.shared c.sector_at-at.result row.blocks now.map now.shared =
    subst (λ (blocks : List ℕ). Adds s.map s.shared c.sector_at-at.result blocks now.map now.shared) (c.deref.ensures.value ∙ sym right.1) c.add_blocks.ensures.blocks in
    let inside : All (λ (block : ℕ). (24 ≤ block) × (block < g.blocks)) row.blocks =
    subst (All (λ (block : ℕ). (24 ≤ block) × (block < g.blocks))) (sym right.1) c.in-Ok.ensures.in_data in
    subst (λ (fork : Option ℕ). Gathered g image a.group (a.agino + 1) now.map fork now.shared) (sym c.add_blocks.ensures.fork)
    (Gathered-blocks g image a.group a.agino c.sector_at-at.result s.map now.map s.fork s.shared now.shared inode row was found in_use core c.sector_at-at.ensures.place right.0 inside adds)

pub returns-in-Err-Malformed-clause-taken : goal.returns-in-Err-Malformed-clause-taken
returns-in-Err-Malformed-clause-taken c image inode shown same found in_use core was =
    let a = c.args in
    let g = a.g.now in
    let s = a.self.now in
    let row : Row = record { links = (core_of g image a.group a.agino).links; blocks = blocks_in g image a.group a.agino; opens = 0 } in
    subst (λ (n : ℕ). Gathered g image a.group (a.agino + 1) s.map (Some n) s.shared) (sym c.unwrap_or.ensures)
    (Gathered-misformed g image a.group a.agino c.sector_at-at.result s.map s.fork s.shared inode row was found in_use core c.sector_at-at.ensures.place
    (c.in-Err-Malformed.ensures.wrong image a.agino shown same (cc)))
