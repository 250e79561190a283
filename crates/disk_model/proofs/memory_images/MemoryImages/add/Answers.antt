use Rattle.std.proofs.Common.{◌≢◌, ◌∙◌, Some}
use Rattle.std.specs.String.{string_cmp, string_bytes}
use Rattle.std.proofs.lemmas.Map.Views.{All-values-insert_entry}
use Rattle.disk_model.specs.Disk.{HasOneImage}
use Rattle.disk_model.proofs.ByPath.{by_path-same, by_path-others}
use Rattle.disk_model.proofs.memory_images.MemoryImages.add.Goals as goal

pub invariant_of-self : goal.invariant_of-self
invariant_of-self g c known =
    rw c.in-Ok-insert.ensures.entries
    (All-values-insert_entry string_cmp c.in-Ok.key c.args.disk (λ disk. HasOneImage (g.D.Disk.cells disk)) _ (c.self.invariant known) (c.requires.one_image known))

pub returns-in-Ok-insert-clause-stands : goal.returns-in-Ok-insert-clause-stands
returns-in-Ok-insert-clause-stands g c =
    rw (← c.in-Ok.ensures.ok) (by_path-same c.self.inside.disks c.insert.new.self (string_bytes c.in-Ok.key) (Some c.args.disk) c.in-Ok-insert.ensures.updates)

pub returns-in-Ok-insert-clause-others : goal.returns-in-Ok-insert-clause-others
returns-in-Ok-insert-clause-others g c other differs =
    let apart : other ≢ string_bytes c.in-Ok.key = λ same. differs (same ∙ c.in-Ok.ensures.ok) in
    rw (← c.self.view_is) (by_path-others c.self.inside.disks c.insert.new.self (string_bytes c.in-Ok.key) (Some c.args.disk) c.in-Ok-insert.ensures.updates other apart)
