use Rattle.actor_world.proofs.laws.right_worlds_have_one_history.Goals as goal

pub returns-clause-legal : goal.returns-clause-legal
returns-clause-legal g c = λ start w inv. inv.legal

pub returns-clause-licensed : goal.returns-clause-licensed
returns-clause-licensed g c = λ start w inv. inv.licensed

pub returns-clause-intervals : goal.returns-clause-intervals
returns-clause-intervals g c = λ start w inv. inv.intervals
