use Rattle.std.proofs.Common.{inl, inr, heap_len}
use Rattle.std.proofs.lemmas.Bool.{cases_lt, false≢true}
use Rattle.std.proofs.Common.{◌≡◌, ℕ, None, drop, cond, ap, sym, ◌∙◌, arith}
use Rattle.std.specs.Prelude.{nat_eq}
use Rattle.std.specs.Map.{lookup}
use Rattle.log_batch.specs.Dirty.{Dirty, held}
use Rattle.log_batch.proofs.Held.{held_away_some, least_held, popped_held, none_without_homes, Matches_away}
use Rattle.log_batch.proofs.dirty.DirtySectors.remove_first.Goals as goal

pub invariant_of-self : goal.invariant_of-self
invariant_of-self c =
    let facts = c.in-Some.ensures in
    let up : (q : ℕ) → lookup (nat_eq q) c.remove.new.self.entries ≡ cond (nat_eq c.in-Some.field-0.0 q) None (lookup (nat_eq q) c.self.inside.sectors.entries) =
    c.remove.ensures.updates.0 in
    Matches_away c.self.inside.sectors.entries c.remove.new.self.entries c.self.inside.homes.data.items c.pop.new.self.data.items c.in-Some.field-0
    c.self.invariant up facts.permutation (facts.heap_order c.self.invariant.ordered).0

pub returns-in-Some-clause-images : goal.returns-in-Some-clause-images
returns-in-Some-clause-images c =
    let seen : held c.self.inside.sectors.entries ≡ c.args.self.now.images = ap (λ (d : Dirty). d.images) c.self.view_is in
    let facts = c.in-Some.ensures in
    let up : (q : ℕ) → lookup (nat_eq q) c.remove.new.self.entries ≡ cond (nat_eq c.in-Some.field-0.0 q) None (lookup (nat_eq q) c.self.inside.sectors.entries) =
    c.remove.ensures.updates.0 in
    let least = least_held c.self.inside.sectors.entries c.self.inside.homes.data.items c.in-Some.field-0 c.self.invariant (facts.heap_order c.self.invariant.ordered).1 in
    let there = popped_held c.self.inside.sectors.entries c.self.inside.homes.data.items c.pop.new.self.data.items c.in-Some.field-0 c.self.invariant facts.permutation in
    let some = held_away_some c.self.inside.sectors.entries c.remove.new.self.entries c.in-Some.field-0.0 there least up in
    some ∙ ap (drop 1) seen

pub returns-in_default-clause-images : goal.returns-in_default-clause-images
returns-in_default-clause-images c =
    let seen : held c.self.inside.sectors.entries ≡ c.args.self.now.images = ap (λ (d : Dirty). d.images) c.self.view_is in
    let none = none_without_homes c.self.inside.sectors.entries c.self.inside.homes.data.items c.self.invariant (elim (cases_lt 0 (heap_len c.self.inside.homes)) [ inl some ↦ absurd (false≢true (c.in_default.ensures.variant.1 some)) | inr none ↦ omega (arith, c.self.inside.homes.data.ok.0) ]) in
    none ∙ ap (drop 1) (sym none ∙ seen)
