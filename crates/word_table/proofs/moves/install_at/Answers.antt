use Rattle.std.proofs.Common.{ap}
use Rattle.word_table.proofs.Calls.{installed_by, installed_stays, has_pin}
use Rattle.word_table.proofs.moves.install_at.Goals as goal

pub carry-requires-clause-pin : goal.carry-requires-clause-pin
carry-requires-clause-pin c = has_pin _ _ _ _ _ c.bring_in.ensures.held

pub returns-clause-installed : goal.returns-clause-installed
returns-clause-installed c = installed_by _ _ _ _ _ _ c.bring_in.ensures.held (ap (λ m. m.0) c.carry.ensures.from)

pub returns-clause-stays : goal.returns-clause-stays
returns-clause-stays c = installed_stays _ _ _ _ _ (installed_by _ _ _ _ _ _ c.bring_in.ensures.held (ap (λ m. m.0) c.carry.ensures.from))
