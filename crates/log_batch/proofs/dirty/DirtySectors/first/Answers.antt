use Rattle.std.proofs.Common.{inl, inr, heap_len}
use Rattle.std.proofs.lemmas.Bool.{cases_lt, false≢true}
use Rattle.std.proofs.Common.{◌≡◌, List, ap, sym, ◌∙◌, arith}
use Rattle.std.specs.Prelude.{slice_get}
use Rattle.log_record.specs.declared.image.Image.{Image}
use Rattle.log_batch.specs.Dirty.{Dirty, held}
use Rattle.log_batch.proofs.Held.{held_first, least_held, none_without_homes}
use Rattle.log_batch.proofs.dirty.DirtySectors.first.Goals as goal

pub returns-in_err-home : goal.returns-in_err-home
returns-in_err-home c =
    let entries = c.self.inside.sectors.entries in
    let seen : held entries ≡ c.args.self.now.images = ap (λ (d : Dirty). d.images) c.self.view_is in
    let none = none_without_homes entries c.self.inside.homes.data.items c.self.invariant (elim (cases_lt 0 (heap_len c.self.inside.homes)) [ inl some ↦ absurd (false≢true (c.in_err-home.ensures.variant.1 some)) | inr none ↦ omega (arith, c.self.inside.homes.data.ok.0) ]) in
    c.from_residual.ensures ∙ ap (λ (l : List Image). slice_get l 0) (sym none ∙ seen)

pub returns : goal.returns
returns c =
    let entries = c.self.inside.sectors.entries in
    let seen : held entries ≡ c.args.self.now.images = ap (λ (d : Dirty). d.images) c.self.view_is in
    let least = least_held entries c.self.inside.homes.data.items c.in_ok-home.field-0.now c.self.invariant (c.in_ok-home.ensures.greatest c.self.invariant.ordered) in
    let first = held_first entries c.in_ok-home.field-0.now.0 c.in_ok-sector.field-0.now (sym c.in_ok-sector.ensures.value) least in
    ap (λ (l : List Image). slice_get l 0) (sym first.1 ∙ seen)
