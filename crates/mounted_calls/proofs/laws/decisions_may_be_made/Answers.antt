use Rattle.std.proofs.Common.{refl}
use Rattle.mounted_calls.proofs.Allowed.{Making, may_be_made}
use Rattle.mounted_calls.proofs.Closing.{Holdless}
use Rattle.mounted_calls.proofs.laws.decisions_may_be_made.Goals as goal

pub returns : goal.returns
returns c = λ known g start t layouts story groups s cells k actor made group d are asks at decides.
    let holdless : Holdless =
    record {
      metadata = c.encodings_pass_over_holds.ensures.metadata;
      layouts = λ u lists. (c.encodings_pass_over_holds.ensures.layouts u lists).0;
      tables = c.tables_stay_well_formed.ensures.without_holds;
    } in
    let laws : Making =
    record {
      own = c.states_have_their_table.ensures;
      events = c.changes_are_events.ensures.call;
      agrees = c.groups_stand_apart.ensures.agrees;
      permits = c.calls_stay_in_their_group.ensures.permits;
      unheld = c.legal_events_happen_unheld.ensures.call;
      holdless = holdless;
      fits = c.commits_fit_the_log.ensures.one;
      encodes = c.encodings_pass_over_holds.ensures.encodes;
    } in
    may_be_made c.holders_have_rows.ensures c.each_call_has_one_reply.ensures.computed laws known g start t layouts story groups s cells k actor made group _ d.change are asks at refl decides.comes
