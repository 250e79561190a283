use Rattle.std.proofs.Common.{◌+◌, ℕ, List, length, refl, ap, sym, subst, ◌∙◌, arith, rules}
use Rattle.life_bytes.specs.declared.sector.Sector.{Sector}
use Rattle.image_rules.specs.Shown.{Shows}
use Rattle.image_rules.proofs.Bitmapping.{Compares, right_from, right_to}
use Rattle.image_rules.proofs.Gathering.{sector_next}
use Rattle.image_rules.proofs.bitmaps.check_bitmap.Goals as goal

pub returns-in-None-clause-right : goal.returns-in-None-clause-right
returns-in-None-clause-right g c known free k low =
    let a = c.args in
    let image : List Sector = g.V.View.image a.view.now in
    let sectors : List Sector = c.deref.result.now in
    let others : List Sector = c.write_map.new.into in
    let compares : Compares a.g.now image a.group sectors others a.map.now = record {
      shows = subst (λ (s : ℕ). Shows image s sectors) c.sector_at-at.ensures.place (subst (Shows image c.sector_at-at.result) (sym c.deref.ensures.value) (c.in_ok-sectors.ensures.shown known));
      many = ap (λ (l : List Sector). length l) c.deref.ensures.value ∙ c.in_ok-sectors.ensures.many;
      as_many = search rules;
      long = c.have_their_bytes.ensures;
      encoded = c.write_map.ensures;
      free = free;
    } in
    right_from a.g.now image a.group k sectors others a.map.now compares low (c.in-None.ensures.none k (omega (arith, low, compares.many)))

pub returns-clause-fault : goal.returns-clause-fault
returns-clause-fault g c known free =
    let a = c.args in
    let image : List Sector = g.V.View.image a.view.now in
    let sectors : List Sector = c.deref.result.now in
    let others : List Sector = c.write_map.new.into in
    let compares : Compares a.g.now image a.group sectors others a.map.now = record {
      shows = subst (λ (s : ℕ). Shows image s sectors) c.sector_at-at.ensures.place (subst (Shows image c.sector_at-at.result) (sym c.deref.ensures.value) (c.in_ok-sectors.ensures.shown known));
      many = ap (λ (l : List Sector). length l) c.deref.ensures.value ∙ c.in_ok-sectors.ensures.many;
      as_many = search rules;
      long = c.have_their_bytes.ensures;
      encoded = c.write_map.ensures;
      free = free;
    } in
    let first = c.in-Some.ensures.some in
    let k : ℕ = c.in-Some.index in (
      refl,
      record {
        place = k;
        low = omega (arith, first.0, compares.many);
        at = ap (λ (n : ℕ). n + k) c.sector_at-at.ensures.place ∙ sym (sector_next a.g.now a.group 8 k);
        before = λ j lt. right_from a.g.now image a.group j sectors others a.map.now compares (omega (arith, lt, first.0, compares.many)) (first.2 j lt);
        wrong = λ right. first.1 (right_to a.g.now image a.group k sectors others a.map.now compares (omega (arith, first.0, compares.many)) right);
      },
    )
