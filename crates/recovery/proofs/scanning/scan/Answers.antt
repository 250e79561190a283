use Rattle.std.proofs.Common.{◌≡◌, ◌+◌, ℕ, List, Some, take, drop, slice_get, sym, ap, ◌∙◌}
use Rattle.geometry.specs.Places.{anchor_of}
use Rattle.life_bytes.specs.declared.sector.Sector.{Sector}
use Rattle.disk_model.specs.Disk.{as_read}
use Rattle.log_image.specs.Anchor.{HasAnchor}
use Rattle.log_image.specs.Log.{ring_part}
use Rattle.recovery.proofs.Read.{tells}
use Rattle.recovery.proofs.scanning.scan.Goals as goal

pub returns-clause-damaged : goal.returns-clause-damaged
returns-clause-damaged g c known =
    let image = as_read (g.D.Disk.cells c.args.disk.now) in
    let anchor = anchor_of c.args.g.now in
    let ring = c.args.g.now.ring in
    let start = c.in-Some.start in
    let at = c.anchor_of-anchor.ensures.at in
    let has : HasAnchor image anchor ring start.position start.next_commit = record {
      sector = ap (slice_get image) (sym at) ∙ c.in_ok-read.ensures.read known ∙ ap (λ (s : Sector). Some s) c.in-Some.ensures.encoded;
      start = c.in-Some.ensures.position;
      number = c.in-Some.ensures.number;
    } in
    let part : c.deref.result.now ≡ ring_part anchor ring image =
    c.deref.ensures.value ∙ c.in_ok-ring.ensures.sectors known
    ∙ ap (λ (l : List Sector). take ring (drop (c.anchor_of-anchor.result + 1) l)) (ap as_read c.read.ensures.cells)
    ∙ ap (λ (n : ℕ). take ring (drop (n + 1) image)) at in
    tells image anchor c.anchor_of-anchor.result ring start.position start.next_commit c.deref.result.now c.read_log.result has at part c.read_log.ensures.broken
