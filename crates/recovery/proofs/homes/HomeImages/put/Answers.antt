use Rattle.std.proofs.Common.{◌≡◌, ap, sym, subst, ◌∙◌, List, arith}
use Rattle.log_record.specs.declared.image.Image.{Image}
use Rattle.log_batch.specs.Put.{put, KeysRise}
use Rattle.log_batch.specs.PutLaws.{Rises-put}
use Rattle.recovery.specs.Homes.{images_in}
use Rattle.recovery.proofs.Entries.{images_in-insert}
use Rattle.recovery.proofs.homes.HomeImages.put.Goals as goal

pub invariant_of-self-2 : goal.invariant_of-self-2
invariant_of-self-2 c =
    let old = c.self.inside.sectors.entries in
    let is : images_in c.insert.new.self.entries ≡ put c.args.image.now (images_in old) =
    ap images_in c.in_ok-insert.ensures.entries ∙ images_in-insert old c.args.image.now.home c.args.image.now.sector in
    subst (λ (l : List Image). KeysRise (λ (i : Image). i.home) 0 l) (sym is) (Rises-put (λ (i : Image). i.home) c.args.image.now 0 (images_in old) c.self.invariant (omega arith))

pub returns-clause-ok : goal.returns-clause-ok
returns-clause-ok c =
    ap images_in c.in_ok-insert.ensures.entries ∙ images_in-insert c.self.inside.sectors.entries c.args.image.now.home c.args.image.now.sector
    ∙ ap (put c.args.image.now) c.self.view_is
