use Rattle.std.proofs.Common.{◌≡◌, refl, ◌∙◌, arith}
use Rattle.std.proofs.lemmas.Nat.{same_from_place}
use Rattle.geometry.specs.Places.{group_of, agino_of, group_sectors, place_of}
use Rattle.geometry.proofs.places.sector_of.Goals as goal

pub returns-clause-alone : goal.returns-clause-alone
returns-clause-alone c = λ other is same.
    let number = c.args.number in
    let here : c.from.result ≡ place_of c.args.g.now number = rw (c.from.ensures, c.split-group.ensures.group, c.split-group.ensures.agino) refl in
    let both = same_from_place (group_of other) (agino_of other) (group_of number) (agino_of number) (group_sectors c.args.g.now) is.1 c.requires.inside.1 (same ∙ here) in
    omega (arith, both)
