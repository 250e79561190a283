use Rattle.std.proofs.Common.{◌≡◌, ◌+◌, ◌++◌, ◌∷◌, [], ℕ, List, length, inl, inr, ap, sym, subst, ◌∙◌, arith, length-append}
use Rattle.std.proofs.lemmas.Bool.{cases_lt}
use Rattle.life_bytes.specs.declared.sector.Sector.{Sector}
use Rattle.sound_image.specs.Places.{bytes_at}
use Rattle.group_ops.specs.Loading.{Shows}
use Rattle.mount.specs.Kept.{Has, StillAgrees}
use Rattle.mount.proofs.Sights.{Shows-push}
use Rattle.mount.proofs.keeping.keep_sectors.Goals as goal

pub loop-index-preserved : goal.loop-index-preserved
loop-index-preserved g c =
    let inv = c.loop-index.invariant in
    let laws = g.met.V.View in
    let image : List Sector = g.V.View.image c.args.view.now in
    let sector = c.in_ok-keep_sector.field-0 in
    let items : c.push.new.self.items ≡ c.loop-index.sectors.items ++ sector ∷ [] = c.in_ok-push.ensures.items in
    let same : g.V.View.image c.loop-index.view ≡ image = laws.image_stays c.args.view.now c.loop-index.view inv.read in
    record {
      read = laws.both_read c.args.view.now c.loop-index.view c.keep_sector.new.view inv.read c.keep_sector.ensures.only_read;
      many = ap (λ (l : List Sector). length l) items ∙ length-append c.loop-index.sectors.items (sector ∷ []) ∙ ap (λ (n : ℕ). n + 1) inv.many;
      shown = λ known.
          let here : bytes_at image (c.args.at + c.loop-index.index) ≡ sector.bytes =
          ap (λ (l : List Sector). bytes_at l (c.args.at + c.loop-index.index)) (sym same) ∙ c.in_ok-keep_sector.ensures.shown known in
          subst (Shows image c.args.at) (sym items)
          (Shows-push image c.args.at c.loop-index.sectors.items sector (inv.shown known) (ap (λ (n : ℕ). bytes_at image (c.args.at + n)) inv.many ∙ here));
      agrees = λ known was. subst (λ (l : List Sector). StillAgrees l c.loop-index.kept c.keep_sector.new.kept) same (c.keep_sector.ensures.agrees known) (inv.agrees known was);
      has = λ k low. elim (cases_lt k c.loop-index.index) [
        | inl front ↦ c.keep_sector.ensures.grows (c.args.at + k) (inv.has k front)
        | inr past ↦
            let last : c.loop-index.index ≡ k = omega (arith, low, past) in
            subst (λ (n : ℕ). Has c.keep_sector.new.kept (c.args.at + n)) last c.in_ok-keep_sector.ensures.has
      ];
      grows = λ s was. c.keep_sector.ensures.grows s (inv.grows s was);
    }
