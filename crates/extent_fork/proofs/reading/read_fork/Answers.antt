use Rattle.std.proofs.Common.{◌≡◌, ap, sym, subst, ◌∙◌}
use Rattle.std.proofs.lemmas.Bool.{false≢true}
use Rattle.extent_fork.specs.Forks.{AreRuns, fork}
use Rattle.extent_fork.proofs.Records.{runs_read}
use Rattle.extent_fork.proofs.reading.read_fork.Goals as goal

pub returns-then-not-has_fork-clause-only : goal.returns-then-not-has_fork-clause-only
returns-then-not-has_fork-clause-only c = λ runs has.
    let items = c.deref.result.now in
    let group = c.args.group in
    let same : items ≡ runs =
    c.deref.ensures.value ∙ runs_read group runs c.in_ok-list.list.items c.args.sector.now.bytes c.args.extents c.requires.group_small c.requires.few has c.in_ok-list.ensures.count c.in_ok-list.ensures.each in
    absurd (false≢true (sym c.if-not-has_fork.true ∙ c.has_fork.ensures.1 (subst AreRuns (sym same) has.runs, has.encoded ∙ ap (fork group) (sym same))))

pub returns-clause-only : goal.returns-clause-only
returns-clause-only c = λ runs has.
    runs_read c.args.group runs c.in_ok-list.list.items c.args.sector.now.bytes c.args.extents c.requires.group_small c.requires.few has c.in_ok-list.ensures.count c.in_ok-list.ensures.each
