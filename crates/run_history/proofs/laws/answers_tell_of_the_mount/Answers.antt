use Rattle.run_history.proofs.Answered.{mounted, stop, unmounted_released}
use Rattle.run_history.proofs.laws.answers_tell_of_the_mount.Goals as goal

pub returns-clause-stop : goal.returns-clause-stop
returns-clause-stop c = stop

pub returns-clause-unmounted : goal.returns-clause-unmounted
returns-clause-unmounted c = unmounted_released

pub returns-clause-mounted : goal.returns-clause-mounted
returns-clause-mounted c = mounted
