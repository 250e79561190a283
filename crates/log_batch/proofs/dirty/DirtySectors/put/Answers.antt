use Rattle.std.proofs.Common.{◌≡◌, IsOk, ap, sym, ◌∙◌, arith}
use Rattle.log_batch.specs.Dirty.{Dirty, held}
use Rattle.log_batch.specs.Put.{put}
use Rattle.log_batch.proofs.Held.{held_put, on_ok, Matches_new}
use Rattle.log_batch.proofs.dirty.DirtySectors.put.Goals as goal

pub invariant_of-self : goal.invariant_of-self
invariant_of-self c =
    let facts = c.in-Ok-None.ensures in
    let absent = sym facts.old ∙ c.in-Ok-None.field-0-is in
    let room = ap (λ (d : Dirty). d.room) c.self.view_is in
    let ok : IsOk c.push.result = c.push.ensures.succeeds (omega (arith, c.requires)) in
    Matches_new c.self.inside.sectors.entries c.insert.new.self.entries c.self.inside.homes.data.items c.push.new.self.data.items c.args.image.now.home c.args.image.now.sector
    c.self.invariant absent facts.updates.0 (on_ok c.push.result _ ok c.push.ensures.permutation) (on_ok c.push.result _ ok c.push.ensures.heap_order c.self.invariant.ordered)

pub returns-in-Ok-None-clause-images : goal.returns-in-Ok-None-clause-images
returns-in-Ok-None-clause-images c =
    let seen : held c.self.inside.sectors.entries ≡ c.args.self.now.images = ap (λ (d : Dirty). d.images) c.self.view_is in
    let facts = c.in-Ok-None.ensures in
    held_put c.self.inside.sectors.entries c.insert.new.self.entries c.args.image.now.home c.args.image.now.sector facts.updates.0 ∙ ap (put c.args.image.now) seen

pub returns-clause-images : goal.returns-clause-images
returns-clause-images c =
    let seen : held c.self.inside.sectors.entries ≡ c.args.self.now.images = ap (λ (d : Dirty). d.images) c.self.view_is in
    let room = ap (λ (d : Dirty). d.room) c.self.view_is in
    let ok : IsOk c.insert.result = c.insert.ensures.succeeds (omega (arith, c.requires)) in
    held_put c.self.inside.sectors.entries c.insert.new.self.entries c.args.image.now.home c.args.image.now.sector (on_ok c.insert.result _ ok c.insert.ensures.updates).0 ∙ ap (put c.args.image.now) seen
