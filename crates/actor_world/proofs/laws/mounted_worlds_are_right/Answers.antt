use Rattle.actor_world.proofs.Mounted.{mounted_is_right}
use Rattle.actor_world.proofs.laws.mounted_worlds_are_right.Goals as goal

pub returns : goal.returns
returns g c = λ start w mounted.
    mounted_is_right c.recovery_frees_once.ensures.none_left c.changes_pass_over_holds.ensures.rows g.T.Tells.tells start w mounted
