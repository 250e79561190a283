use Rattle.std.proofs.Common.{◌≡◌, ℕ, [], inl, inr, sym, subst, ◌∙◌, arith}
use Rattle.std.proofs.lemmas.Bool.{cases_lt, false≢true}
use Rattle.life_bytes.specs.declared.sector.Sector.{Sector}
use Rattle.sound_image.specs.Places.{bytes_at}
use Rattle.image_rules.proofs.Gathering.{bytes_of_item}
use Rattle.image_rules.proofs.bitmaps.first_other.Goals as goal

abbrev blank : Sector
blank = record { bytes = [] }

pub returns-then-not-is_same-clause-some : goal.returns-then-not-is_same-clause-some
returns-then-not-is_same-clause-some c =
    let xs = c.args.sectors.now in
    let ys = c.args.others.now in
    let i : ℕ = c.loop-index.index in (
      c.loop-index-test.true,
      (λ same. false≢true (sym c.if-not-is_same.true ∙ c.is_same.ensures.1 (sym (bytes_of_item xs i blank c.loop-index-test.true) ∙ same ∙ bytes_of_item ys i blank (omega arith)))),
      c.loop-index.invariant,
    )

pub loop-index-preserved : goal.loop-index-preserved
loop-index-preserved c j lt =
    let xs = c.args.sectors.now in
    let ys = c.args.others.now in
    let i : ℕ = c.loop-index.index in
    elim (cases_lt j i) [
      | inl low ↦ c.loop-index.invariant j low
      | inr ge ↦
          let e : i ≡ j = omega arith in
          subst (λ (k : ℕ). bytes_at xs k ≡ bytes_at ys k) e
          (bytes_of_item xs i blank c.loop-index-test.true ∙ c.is_same.ensures.0 c.if-not-is_same.false ∙ sym (bytes_of_item ys i blank (omega arith)))
    ]
