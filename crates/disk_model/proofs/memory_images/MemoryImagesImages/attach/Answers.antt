use Rattle.std.proofs.Common.{◌≡◌, ◌∙◌, None, Some, sym, inr}
use Rattle.std.proofs.lemmas.Map.Views.{All-map-remove_entry}
use Rattle.disk_model.specs.Disk.{HasOneImage}
use Rattle.disk_model.specs.MemoryImages.{disk_at}
use Rattle.disk_model.proofs.ByPath.{lookup-by_path, by_path-same, by_path-others, IfSome-image_of, known_of_found}
use Rattle.disk_model.proofs.memory_images.MemoryImagesImages.attach.Goals as goal

pub returns-in_default-clause-failed : goal.returns-in_default-clause-failed
returns-in_default-clause-failed g c failed =
    inr (rw (← c.self.view_is) (lookup-by_path c.self.inside.disks.entries c.args.path.now ∙ sym c.in_default.ensures.value))

pub invariant_of-self-2 : goal.invariant_of-self-2
invariant_of-self-2 g c known =
    rw c.in-Some-remove.ensures.entries
    (All-map-remove_entry _ (λ entry. entry.1) (λ disk. HasOneImage (g.D.Disk.cells disk)) c.self.inside.disks.entries (c.self.invariant known))

pub returns-clause-disk : goal.returns-clause-disk
returns-clause-disk g c =
    rw (← c.self.view_is) (lookup-by_path c.self.inside.disks.entries c.args.path.now ∙ sym c.in-Some-remove.ensures.value)

pub returns-clause-absent : goal.returns-clause-absent
returns-clause-absent g c absent = let found = returns-clause-disk g c in cc

pub returns-clause-taken : goal.returns-clause-taken
returns-clause-taken g c = by_path-same c.self.inside.disks c.remove.new.self c.args.path.now None c.in-Some-remove.ensures.updates

pub returns-clause-apart : goal.returns-clause-apart
returns-clause-apart g c other differs =
    rw (← c.self.view_is) (by_path-others c.self.inside.disks c.remove.new.self c.args.path.now None c.in-Some-remove.ensures.updates other differs)

pub returns-clause-image : goal.returns-clause-image
returns-clause-image g c known =
    IfSome-image_of g.D.Disk.known g.D.Disk.cells (disk_at c.args.self.now c.args.path.now) c.in-Some-remove.disk (returns-clause-disk g c)
    (known_of_found (λ disk. HasOneImage (g.D.Disk.cells disk)) _ c.self.inside.disks.entries c.in-Some-remove.disk (c.self.invariant known) (sym c.in-Some-remove.ensures.value))

pub returns-in_err-note-clause-absent : goal.returns-in_err-note-clause-absent
returns-in_err-note-clause-absent g c absent =
    let found : disk_at c.args.self.now c.args.path.now ≡ Some c.in-Some.disk.now =
    rw (← c.self.view_is) (lookup-by_path c.self.inside.disks.entries c.args.path.now ∙ sym c.in-Some.ensures.value) in
    cc
