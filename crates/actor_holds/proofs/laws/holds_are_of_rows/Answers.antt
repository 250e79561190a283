use Rattle.actor_holds.proofs.Counted.{of_rows}
use Rattle.actor_holds.proofs.laws.holds_are_of_rows.Goals as goal

pub returns : goal.returns
returns c = of_rows c.lowest_keys_are_least.ensures.free c.tables_stay_well_formed.ensures.history c.holders_have_rows.ensures
