use Rattle.tests_groups.proofs.Sampled.{number_there}
use Rattle.tests_groups.proofs.groups.a_group_brings_inodes_in_and_lets_them_go.Goals as goal

pub bring_in-requires-clause-inside : goal.bring_in-requires-clause-inside
bring_in-requires-clause-inside g c = number_there c.in_ok-group.group.state.links
