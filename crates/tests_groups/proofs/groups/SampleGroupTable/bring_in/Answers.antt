use Rattle.std.proofs.Common.{◌<◌, length, arith}
use Rattle.std.proofs.lemmas.Grind.{common_steps}
use Rattle.tests_groups.proofs.Sampled.{mark_in, number_low}
use Rattle.tests_groups.proofs.groups.SampleGroupTable.bring_in.Goals as goal

pub bounds-self-agino : goal.bounds-self-agino
bounds-self-agino c = number_low c.args.self.now.links c.args.agino c.requires.inside

pub returns-clause-cached : goal.returns-clause-cached
returns-clause-cached c number =
    let low = number_low c.args.self.now.links c.args.agino c.requires.inside in
    let within : c.args.agino < length c.args.self.now.marks = grind (arith, common_steps) in
    mark_in c.args.self.now.marks c.args.agino number within
