use Rattle.std.proofs.Common.{◌≡◌, ◌+◌, ◌++◌, ◌∷◌, [], ℕ, List, length, ap, sym, subst, ◌∙◌, length-append}
use Rattle.life_bytes.specs.declared.sector.Sector.{Sector}
use Rattle.sound_image.specs.Places.{bytes_at}
use Rattle.group_ops.specs.Loading.{Shows}
use Rattle.group_ops.proofs.Sights.{Shows-push}
use Rattle.group_ops.proofs.reading.read_sectors.Goals as goal

pub loop-index-preserved : goal.loop-index-preserved
loop-index-preserved g c =
    let inv = c.loop-index.invariant in
    let laws = g.met.V.View in
    let image : List Sector = g.V.View.image c.args.view.now in
    let sector = c.in_ok-read_sector.field-0 in
    let items : c.push.new.self.items ≡ c.loop-index.sectors.items ++ sector ∷ [] = c.in_ok-push.ensures.items in
    record {
      read = laws.both_read c.args.view.now c.loop-index.view c.read_sector.new.view inv.read c.read_sector.ensures.only_read;
      many = ap (λ (l : List Sector). length l) items ∙ length-append c.loop-index.sectors.items (sector ∷ []) ∙ ap (λ (n : ℕ). n + 1) inv.many;
      shown = λ known.
          let same = laws.image_stays c.args.view.now c.loop-index.view inv.read in
          let here : bytes_at image (c.args.at + c.loop-index.index) ≡ sector.bytes =
          ap (λ (l : List Sector). bytes_at l (c.args.at + c.loop-index.index)) (sym same) ∙ c.in_ok-read_sector.ensures.shown known in
          subst (Shows image c.args.at) (sym items)
          (Shows-push image c.args.at c.loop-index.sectors.items sector (inv.shown known) (ap (λ (n : ℕ). bytes_at image (c.args.at + n)) inv.many ∙ here));
    }
