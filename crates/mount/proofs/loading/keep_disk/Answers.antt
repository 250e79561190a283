use Rattle.std.proofs.Common.{◌≡◌, ℕ, List, IfOk, length, ap, sym, subst, ◌∙◌, arith}
use Rattle.std.specs.BTreeMap.{BTreeMap}
use Rattle.life_bytes.specs.declared.sector.Sector.{Sector}
use Rattle.disk_model.specs.Disk.{as_read}
use Rattle.disk_model.specs.DiskLaws.{length-as_read}
use Rattle.commit_history.specs.Carried.{IsEncoding}
use Rattle.mount.specs.Kept.{Agrees}
use Rattle.mount.proofs.Keeps.{kept_encodes, whole_encodes}
use Rattle.mount.proofs.Outcomes.{IfOk-two}
use Rattle.mount.proofs.loading.keep_disk.Goals as goal

pub returns-clause-encodes : goal.returns-clause-encodes
returns-clause-encodes g c known t layouts is =
    let a = c.args in
    let d = g.D.Disk in
    let image : List Sector = as_read (d.cells a.disk.now) in
    let shown : as_read (d.cells c.new-view.result.disk.now) ≡ image = ap (λ m. as_read (d.cells m.now)) c.new-view.ensures in
    let size : length image ≡ d.sector_count a.disk.now = length-as_read (d.cells a.disk.now) ∙ g.met.D.Disk.cells_fit known a.disk.now in
    let whole : IsEncoding a.g.now t layouts image = whole_encodes a.g.now t layouts image (omega (arith, size, c.requires.size)) is in
    let agrees = subst (λ (l : List Sector). IfOk c.keep_groups.result (Agrees l)) shown (c.keep_groups.ensures.agrees known) in
    let has = c.keep_groups.ensures.has known t layouts image whole.can (shown ∙ sym whole.same) in
    IfOk-two c.keep_groups.result agrees has (λ (kept : BTreeMap ℕ Sector) one all. kept_encodes a.g.now t layouts image kept whole one all)
