use Rattle.std.proofs.Common.{ap, arith, rules}
use Rattle.version_table.specs.Ends.{VersionsState}
use Rattle.version_table.proofs.StepsKeep.{makes_reader}
use Rattle.version_table.proofs.make.make_reader.Goals as goal

pub split_seat-seat-requires : goal.split_seat-seat-requires
split_seat-seat-requires c =
    (search rules, omega (arith, c.versions.invariant, ap (λ (s : VersionsState). s.groups) c.versions.view_is, c.requires.groups, c.requires.some), makes_reader _ _ _)
