use Rattle.std.proofs.Common.{◌≡◌, List, inl, inr, subst, ◌∙◌, arith}
use Rattle.std.proofs.lemmas.Bool.{cases_lt}
use Rattle.life_bytes.specs.declared.sector.Sector.{Sector}
use Rattle.sound_image.specs.Places.{sector_in}
use Rattle.mount.specs.Kept.{HasGroup, StillAgrees}
use Rattle.mount.proofs.keeping.keep_groups.Goals as goal

pub loop-group-preserved : goal.loop-group-preserved
loop-group-preserved g c =
    let a = c.args in
    let l = c.loop-group in
    let inv = l.invariant in
    let laws = g.met.V.View in
    let same = laws.image_stays a.view.now l.view inv.read in
    record {
      read = laws.both_read a.view.now l.view c.keep_group.new.view inv.read c.keep_group.ensures.only_read;
      agrees = λ known. subst (λ (s : List Sector). StillAgrees s l.kept c.keep_group.new.kept) same (c.keep_group.ensures.agrees known) (inv.agrees known);
      has = λ known t layouts rest can image group low. elim (cases_lt group l.group) [
        | inl front ↦ λ place bytes e. c.keep_group.ensures.grows (sector_in a.g.now group place) (inv.has known t layouts rest can image group front place bytes e)
        | inr past ↦
            let here : l.group ≡ group = omega (arith, low, past) in
            subst (HasGroup a.g.now t layouts c.keep_group.new.kept) here (c.in_ok-keep_group.ensures.has known t layouts rest can (same ∙ image))
      ];
    }
