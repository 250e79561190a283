use Rattle.std.proofs.Common.{refl, sym, subst}
use Rattle.recovery.specs.Broken.{BreaksLog}
use Rattle.recovery.specs.declared.fault.ScanFault.{ScanFault}
use Rattle.recovery.proofs.Breaks.{broken_below, broken_high, broken_both}
use Rattle.recovery.proofs.ring.read_log.Goals as goal

pub returns-in_default-clause-broken : goal.returns-in_default-clause-broken
returns-in_default-clause-broken c =
    broken_below c.args.ring.now c.args.anchor c.args.start.now.position c.in_ok-last.last c.end_of_log-end.result c.log_of-log.result
    c.whole_records.ensures.one c.in_ok-last.ensures c.end_of_log-end.ensures c.in_default.ensures c.log_of-log.ensures.broken

pub returns-in-Ok-clause-broken : goal.returns-in-Ok-clause-broken
returns-in-Ok-clause-broken c =
    let log = c.in-Ok.ensures.found in (
      refl,
      broken_high c.args.ring.now c.args.anchor c.args.start.now.position c.args.start.now.next_commit c.in_ok-last.last c.end_of_log-end.result
          c.in-Some.high log.0 c.whole_records.ensures.one c.in_ok-last.ensures c.end_of_log-end.ensures c.in-Some.ensures log.1,
    )

pub returns-clause-broken : goal.returns-clause-broken
returns-clause-broken c =
    subst (λ (fault : ScanFault). BreaksLog c.args.ring.now c.args.anchor c.args.start.now.position fault) (sym c.at_most.ensures)
    (broken_both c.args.ring.now c.args.anchor c.args.start.now.position c.in_ok-last.last c.end_of_log-end.result
    c.in-Some.high c.in-Err.fault c.whole_records.ensures.one c.in_ok-last.ensures c.end_of_log-end.ensures c.in-Some.ensures c.in-Err.ensures.broken)
