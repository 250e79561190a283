use Rattle.run_history.proofs.WellFormedStarts.{all_right}
use Rattle.run_history.proofs.laws.tables_of_mounts_are_well_formed.Goals as goal

pub returns : goal.returns
returns c = all_right (record {
  history = c.tables_stay_well_formed.ensures.history;
  without_holds = c.tables_stay_well_formed.ensures.without_holds;
  between = c.changes_tell_the_table.ensures.between;
})
