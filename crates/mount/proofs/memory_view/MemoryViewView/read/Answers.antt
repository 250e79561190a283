use Rattle.std.proofs.Common.{Some, ap, sym, ◌∙◌}
use Rattle.life_bytes.specs.declared.sector.Sector.{Sector}
use Rattle.mount.specs.KeptLaws.{slice_get-kept_image}
use Rattle.mount.proofs.memory_view.MemoryViewView.read.Goals as goal

pub returns-clause-read : goal.returns-clause-read
returns-clause-read c known =
    let view = c.args.self.now in
    slice_get-kept_image view.kept.now view.count c.args.at c.requires ∙ ap (λ (s : Sector). Some s) (sym c.sector_of.ensures)
