use Rattle.std.proofs.Common.{◌+◌, ℕ, ap, subst, ◌∙◌, arith}
use Rattle.mount.specs.Kept.{Has}
use Rattle.mount.proofs.Keeps.{sector_more}
use Rattle.mount.proofs.keeping.keep_chunk.Goals as goal

pub returns-clause-has : goal.returns-clause-has
returns-clause-has g c i small inside =
    let a = c.args in
    let low = c.requires.shape.blocks.0 in
    subst (Has c.keep_sectors.new.kept) (ap (λ (n : ℕ). n + i) c.sector_at-at.ensures.place ∙ sector_more a.g.now a.group a.start i)
    (c.in_ok-keep_sectors.ensures.has i (omega (arith, small, inside, c.from.ensures)))

pub keep_sectors-requires-clause-within : goal.keep_sectors-requires-clause-within
keep_sectors-requires-clause-within g c =
    let low = c.requires.shape.blocks.0 in
    let room = c.sector_at-at.ensures.room c.from.result (omega (arith, c.from.ensures, c.if-sectors-start.false)) in
    omega (arith, c.requires.size, room)
