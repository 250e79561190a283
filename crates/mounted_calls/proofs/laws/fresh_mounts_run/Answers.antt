use Rattle.mounted_calls.proofs.Beginning.{Recovering, fresh_runs}
use Rattle.mounted_calls.proofs.laws.fresh_mounts_run.Goals as goal

pub returns : goal.returns
returns c =
    let laws : Recovering = record { linked = c.recovery_frees_once.ensures.none_left; all = c.changes_tell_the_table.ensures.all } in
    fresh_runs laws
