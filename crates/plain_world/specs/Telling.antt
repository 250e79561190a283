-- What the plain program tells of its commits: nothing.
use Rattle.std.specs.Prelude.{⊤}
use Rattle.actor_world.specs.Steps.{Telling}

-- any commit may stand for any change
abbrev pub any_telling : Telling
any_telling old new commit = ⊤
