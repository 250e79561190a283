use Rattle.group_core.proofs.Changes.{PassOver, call_unheld, free_unheld, open_leaves, open_unheld}
use Rattle.group_core.proofs.laws.legal_events_happen_unheld.Goals as goal

pub returns-clause-call : goal.returns-clause-call
returns-clause-call c = λ t u called answer none legal.
    let e = c.changes_pass_over_holds.ensures in
    let laws : PassOver = record { change = e.change; no_change = e.no_change; twice = e.twice } in
    call_unheld laws t u called answer none ((e.permits t called answer none).1 legal.0) legal.1

pub returns-clause-free : goal.returns-clause-free
returns-clause-free c = λ t u key frees.
    let e = c.changes_pass_over_holds.ensures in
    let laws : PassOver = record { change = e.change; no_change = e.no_change; twice = e.twice } in
    free_unheld laws t u key (e.awaits t key frees.0) frees.1

pub returns-clause-open : goal.returns-clause-open
returns-clause-open c = λ t u key answer legal.
    let e = c.changes_pass_over_holds.ensures in
    let laws : PassOver = record { change = e.change; no_change = e.no_change; twice = e.twice } in
    open_unheld laws t u key answer (e.rows t key) legal.0 legal.1

pub returns-clause-open_leaves : goal.returns-clause-open_leaves
returns-clause-open_leaves c = λ t u key answer unheld happens.
    let e = c.changes_pass_over_holds.ensures in
    let laws : PassOver = record { change = e.change; no_change = e.no_change; twice = e.twice } in
    open_leaves laws t u key answer unheld happens.1
