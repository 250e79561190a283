use Rattle.group_ops.proofs.Lawful.{FrameLaws, call_happens, free_happens}
use Rattle.group_ops.proofs.group_table.changes_are_events.Goals as goal

pub returns-clause-call : goal.returns-clause-call
returns-clause-call c =
    let laws : FrameLaws = record {
      agrees = c.groups_stand_apart.ensures.agrees;
      well_formed = c.groups_stand_apart.ensures.well_formed;
      back = c.groups_stand_apart.ensures.back;
      permits = c.calls_stay_in_their_group.ensures.permits;
      put_call = c.calls_stay_in_their_group.ensures.put_back;
      awaits = c.frees_stay_in_their_group.ensures.awaits;
      put_free = c.frees_stay_in_their_group.ensures.put_back;
      call = c.legal_events_happen_unheld.ensures.call;
      free = c.legal_events_happen_unheld.ensures.free;
      table = c.states_have_their_table.ensures;
    } in
    λ s d t layouts others called answer shape inside leads permitted unheld own. call_happens laws s d t layouts others called answer shape inside leads permitted unheld own

pub returns-clause-free : goal.returns-clause-free
returns-clause-free c =
    let laws : FrameLaws = record {
      agrees = c.groups_stand_apart.ensures.agrees;
      well_formed = c.groups_stand_apart.ensures.well_formed;
      back = c.groups_stand_apart.ensures.back;
      permits = c.calls_stay_in_their_group.ensures.permits;
      put_call = c.calls_stay_in_their_group.ensures.put_back;
      awaits = c.frees_stay_in_their_group.ensures.awaits;
      put_free = c.frees_stay_in_their_group.ensures.put_back;
      call = c.legal_events_happen_unheld.ensures.call;
      free = c.legal_events_happen_unheld.ensures.free;
      table = c.states_have_their_table.ensures;
    } in
    λ s d t layouts others key shape inside leads awaits own. free_happens laws s d t layouts others key shape inside leads awaits own
