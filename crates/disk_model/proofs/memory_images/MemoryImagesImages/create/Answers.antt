use Rattle.std.proofs.Common.{◌≡◌, true, false, sym, ◌∙◌, inr}
use Rattle.disk_model.proofs.ByPath.{lookup-by_path}
use Rattle.disk_model.proofs.memory_images.MemoryImagesImages.create.Goals as goal

pub returns-then-contains_key-clause-failed : goal.returns-then-contains_key-clause-failed
returns-then-contains_key-clause-failed g c failed =
    inr (rw (← c.self.view_is, lookup-by_path c.self.inside.disks.entries c.args.path.now) (sym c.if-contains_key.ensures))

pub returns-clause-taken : goal.returns-clause-taken
returns-clause-taken g c stands =
    let both : false ≡ true = c.if-contains_key.ensures ∙ (rw (← c.self.view_is, lookup-by_path c.self.inside.disks.entries c.args.path.now) at stands) in cc

pub returns-in_err-disk-clause-taken : goal.returns-in_err-disk-clause-taken
returns-in_err-disk-clause-taken g c stands =
    let both : false ≡ true = c.if-contains_key.ensures ∙ (rw (← c.self.view_is, lookup-by_path c.self.inside.disks.entries c.args.path.now) at stands) in cc

pub returns-in_err-note-clause-taken : goal.returns-in_err-note-clause-taken
returns-in_err-note-clause-taken g c stands =
    let both : false ≡ true = c.if-contains_key.ensures ∙ (rw (← c.self.view_is, lookup-by_path c.self.inside.disks.entries c.args.path.now) at stands) in cc
