use Rattle.std.proofs.Common.{List, sym, subst, ◌∙◌}
use Rattle.std.specs.List.Sorted.{IsStrictlyIncreasing}
use Rattle.std.proofs.lemmas.Bool.{false≢true}
use Rattle.log_record.specs.declared.image.Image.{Image}
use Rattle.log_record.proofs.Whole.{homes_of, whole_as_read, whole_from_outline}
use Rattle.log_record.proofs.read.read_record.Goals as goal

pub returns-then-not-ascends : goal.returns-then-not-ascends
returns-then-not-ascends c = λ item is.
    let Rising : List Image → Type 0 = λ l. IsStrictlyIncreasing (homes_of l) in
    let same = whole_as_read c.args.ring.now c.args.position c.in-Some.header c.in_ok-images.images item c.in-Some.ensures.some
    c.in_ok-images.ensures.count c.in_ok-images.ensures.images c.in_ok-images.ensures.held is in
    false≢true (c.if-not-ascends.ensures.1 (subst Rising (sym (c.as_slice.ensures ∙ same)) is.form.homes))

pub returns : goal.returns
returns c =
    let Rising : List Image → Type 0 = λ l. IsStrictlyIncreasing (homes_of l) in
    whole_from_outline c.args.ring.now c.args.position c.in-Some.header c.in_ok-images.images c.in-Some.ensures.some
    c.in_ok-images.ensures.count c.in_ok-images.ensures.images c.in_ok-images.ensures.held
    (subst Rising c.as_slice.ensures (c.ascends.ensures.0 c.if-not-ascends.false))
