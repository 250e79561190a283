use Rattle.std.proofs.Common.{◌≡◌, ◌∷◌, [], ◌++◌, ◌+◌, ℕ, List, Some, length, slice_get, sym, ap, ◌∙◌, subst, length-append}
use Rattle.life_bytes.specs.declared.sector.Sector.{Sector}
use Rattle.disk_model.specs.Disk.{Cell, as_read}
use Rattle.disk_model.specs.View.{OnlyRead-both}
use Rattle.recovery.proofs.Read.{one_more}
use Rattle.recovery.proofs.scanning.read_sectors.Goals as goal

pub loop-i-preserved : goal.loop-i-preserved
loop-i-preserved g c =
    let inv = c.loop-i.invariant in
    let d = g.D.Disk in
    let items : c.push.new.self.items ≡ c.loop-i.read.items ++ c.read.new.into ∷ [] = c.in_ok-push.ensures.items in
    record {
      only = OnlyRead-both d.known d.cells d.sector_count d.fault_count d.arming d.moment d.left_since c.args.disk.now c.loop-i.disk c.read.new.self inv.only
          (record { cells_stay = c.read.ensures.cells; sectors = c.read.ensures.sectors; armed = c.read.ensures.arming; count = c.read.ensures.cause.never_falls; time = c.read.ensures.time });
      size = ap length items ∙ length-append c.loop-i.read.items (c.read.new.into ∷ []) ∙ ap (λ (n : ℕ). n + 1) inv.size;
      read = λ known. items ∙ ap (λ (l : List Sector). l ++ c.read.new.into ∷ []) (inv.read known)
          ∙ sym (one_more (as_read (d.cells c.args.disk.now)) c.args.from c.loop-i.i c.read.new.into
          (subst (λ (cells : List Cell). slice_get (as_read cells) (c.args.from + c.loop-i.i) ≡ Some c.read.new.into) inv.only.cells_stay (c.in_ok-read-2.ensures.read known)));
    }
