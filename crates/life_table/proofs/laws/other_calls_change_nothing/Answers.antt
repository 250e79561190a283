use Rattle.std.proofs.Common.{◌≡◌, ◌⊎◌, inl, inr, refl}
use Rattle.life_table.specs.declared.table.Table.{Table}
use Rattle.life_table.specs.declared.types.Call.TheVariants as call
use Rattle.life_table.specs.declared.types.Reply.{Reply}
use Rattle.life_table.specs.declared.types.Reply.TheVariants as reply
use Rattle.life_table.specs.Legal.{IsDeviceFault, Permits}
use Rattle.life_table.proofs.laws.other_calls_change_nothing.Goals as goal

pub returns-clause-open : goal.returns-clause-open
returns-clause-open c = λ key answer. refl

pub returns-clause-close : goal.returns-clause-close
returns-clause-close c = λ key answer. refl

pub returns-clause-stat : goal.returns-clause-stat
returns-clause-stat c = λ key answer. refl

pub returns-clause-gc : goal.returns-clause-gc
returns-clause-gc c = λ answer. refl

pub returns-clause-flush : goal.returns-clause-flush
returns-clause-flush c = λ g answer. refl

pub returns-clause-reclaim : goal.returns-clause-reclaim
returns-clause-reclaim c = λ g answer. refl

pub returns-clause-sync : goal.returns-clause-sync
returns-clause-sync c = λ answer. refl

pub returns-clause-home : goal.returns-clause-home
returns-clause-home c = λ answer. refl

answers : (t : Table) (answer : Reply) → Permits t call.Home answer → (answer ≡ reply.Done) ⊎ IsDeviceFault answer
answers t reply.Done permits = inl refl
answers t answer permits = inr permits

pub returns-clause-home_answers : goal.returns-clause-home_answers
returns-clause-home_answers c = λ t u answer legal. answers t answer legal.0
