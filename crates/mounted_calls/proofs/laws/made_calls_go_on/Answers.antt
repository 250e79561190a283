use Rattle.std.proofs.Common.{refl}
use Rattle.mounted_calls.proofs.Closing.{Holdless}
use Rattle.mounted_calls.proofs.GoOn.{made_on}
use Rattle.mounted_calls.proofs.laws.made_calls_go_on.Goals as goal

pub returns : goal.returns
returns c = λ known g start t layouts story groups new s cells k actor made group d are asks at decides settled.
    let holdless : Holdless =
    record {
      metadata = c.encodings_pass_over_holds.ensures.metadata;
      layouts = λ u lists. (c.encodings_pass_over_holds.ensures.layouts u lists).0;
      tables = c.tables_stay_well_formed.ensures.without_holds;
    } in
    made_on c.holders_have_rows.ensures c.each_call_has_one_reply.ensures.computed c.changes_tell_the_table.ensures.all holdless
    known g start t layouts story groups new s cells k actor made group _ d.change are asks at refl decides.comes settled
