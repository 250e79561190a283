use Rattle.script_runs.proofs.Unmounts.{frees_nothing}
use Rattle.script_runs.proofs.unmounting.tables_without_orphans_free_nothing.Goals as goal

pub returns : goal.returns
returns g c = λ start t entries table legal none.
    frees_nothing c.frees_are_exact.ensures.shortage t (c.tables_stay_well_formed.ensures.history start t entries table legal.leads) none
