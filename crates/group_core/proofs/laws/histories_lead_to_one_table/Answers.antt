use Rattle.group_core.proofs.Changes.{PassOver, StayWellFormed, one_end, unheld_end, changes_whole, changes_between, table_end}
use Rattle.group_core.proofs.laws.histories_lead_to_one_table.Goals as goal

pub returns-clause-one : goal.returns-clause-one
returns-clause-one c = λ g first last other entries legal also. one_end first last other entries legal.leads also.leads

pub returns-clause-unheld : goal.returns-clause-unheld
returns-clause-unheld c = λ g first last entries unheld legal.
    let e = c.changes_pass_over_holds.ensures in
    let laws : PassOver = record { change = e.change; no_change = e.no_change; twice = e.twice } in
    unheld_end laws first last entries unheld legal.leads

pub returns-clause-changes : goal.returns-clause-changes
returns-clause-changes c = λ g first last entries unheld legal.
    let e = c.changes_pass_over_holds.ensures in
    let laws : PassOver = record { change = e.change; no_change = e.no_change; twice = e.twice } in
    changes_whole laws first last entries unheld legal.leads

pub returns-clause-between : goal.returns-clause-between
returns-clause-between c = λ g first last entries n unheld legal.
    let e = c.changes_pass_over_holds.ensures in
    let laws : PassOver = record { change = e.change; no_change = e.no_change; twice = e.twice } in
    changes_between laws g first last entries n unheld legal

pub returns-clause-well_formed : goal.returns-clause-well_formed
returns-clause-well_formed c = λ g first last entries is legal.
    let e = c.changes_pass_over_holds.ensures in
    let f = c.tables_stay_well_formed.ensures in
    let laws : PassOver = record { change = e.change; no_change = e.no_change; twice = e.twice } in
    let stays : StayWellFormed = record { call = f.call; free = f.free; without_holds = f.without_holds } in
    table_end laws stays first last entries is legal.leads
