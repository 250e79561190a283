use Rattle.std.proofs.Common.{◌≡◌, ◌<◌, ◌+◌, ◌-◌, ℕ, List, length, replicate, slice_set, slice_get, take, Some, sym, ap, ◌∙◌, subst, arith, get_or-set_same, length-set}
use Rattle.std.proofs.lemmas.List.{drop-set-lt, drop-replicate, take-replicate, length-replicate}
use Rattle.std.proofs.lemmas.Option.{slice_get-get_or}
use Rattle.life_bytes.specs.declared.sector.Sector.{Sector}
use Rattle.life_bytes.specs.Sectors.{zero_sector}
use Rattle.disk_model.specs.Disk.{Cell, HasOneImage, as_read}
use Rattle.disk_model.specs.DiskLaws.{HasOneImage-settled_as, as_read-settled_as}
use Rattle.log_image.specs.Anchor.{HasAnchor, anchor_sector}
use Rattle.log_image.specs.Log.{AreBelow, ring_part}
use Rattle.tests_log.proofs.stores.store_on.Goals as goal

-- the ring is of zero bytes
zero_ring : (groups ring : ℕ) (anchor : Sector)
    → ring_part groups ring (slice_set (replicate (groups + 1 + ring) zero_sector) groups anchor) ≡ replicate ring zero_sector
zero_ring groups ring anchor =
    let zeros : List Sector = replicate (groups + 1 + ring) zero_sector in
    let behind : (groups + 1 + ring) - (groups + 1) ≡ ring = omega arith in
    ap (λ (sectors : List Sector). take ring sectors)
    (drop-set-lt (groups + 1) zeros groups anchor (omega arith) ∙ drop-replicate (groups + 1) (groups + 1 + ring) zero_sector
    ∙ ap (λ (count : ℕ). replicate count zero_sector) behind)
    ∙ take-replicate ring ring zero_sector (omega arith)

-- the anchor stands in its place
placed : (groups ring : ℕ) (anchor : Sector)
    → slice_get (slice_set (replicate (groups + 1 + ring) zero_sector) groups anchor) groups ≡ Some anchor
placed groups ring anchor =
    let zeros : List Sector = replicate (groups + 1 + ring) zero_sector in
    let inside : groups < length zeros = omega (arith, length-replicate (groups + 1 + ring) zero_sector) in
    slice_get-get_or (slice_set zeros groups anchor) groups anchor (omega (arith, inside, length-set zeros groups anchor))
    ∙ ap (λ (sector : Sector). Some sector) (get_or-set_same zeros groups anchor anchor inside)

-- the zero ring reaches no position
pub begin_store-requires-clause-below : goal.begin_store-requires-clause-below
begin_store-requires-clause-below g c = λ tells.
    let ring : ℕ = c.args.ring in
    let groups : ℕ = c.args.groups in
    let anchor : Sector = anchor_sector ring 1 in
    let reads : as_read (g.D.Disk.cells c.args.disk) ≡ slice_set (replicate (groups + 1 + ring) zero_sector) groups anchor =
    ap as_read (c.requires.cells tells) ∙ as_read-settled_as (slice_set (replicate (groups + 1 + ring) zero_sector) groups anchor) in
    subst (λ (sectors : List Sector). AreBelow sectors ring)
    (sym (ap (λ (sectors : List Sector). ring_part groups ring sectors) reads ∙ zero_ring groups ring anchor))
    (c.logs.ensures.zeros ring ring (omega (arith, c.requires.least)))

pub begin_store-requires-clause-one : goal.begin_store-requires-clause-one
begin_store-requires-clause-one g c = λ tells.
    subst (λ (cells : List Cell). HasOneImage cells) (sym (c.requires.cells tells))
    (HasOneImage-settled_as (slice_set (replicate (c.args.groups + 1 + c.args.ring) zero_sector) c.args.groups (anchor_sector c.args.ring 1)))

pub begin_store-requires-clause-anchor : goal.begin_store-requires-clause-anchor
begin_store-requires-clause-anchor g c = λ tells.
    let ring : ℕ = c.args.ring in
    let groups : ℕ = c.args.groups in
    let anchor : Sector = anchor_sector ring 1 in
    let reads : as_read (g.D.Disk.cells c.args.disk) ≡ slice_set (replicate (groups + 1 + ring) zero_sector) groups anchor =
    ap as_read (c.requires.cells tells) ∙ as_read-settled_as (slice_set (replicate (groups + 1 + ring) zero_sector) groups anchor) in
    let right : HasAnchor (slice_set (replicate (groups + 1 + ring) zero_sector) groups anchor) groups ring ring 1 = record {
      sector = placed groups ring anchor;
      start = (omega arith, omega (arith, c.requires.most));
      number = (omega arith, omega arith);
    } in
    subst (λ (sectors : List Sector). HasAnchor sectors groups ring ring 1) (sym reads) right
