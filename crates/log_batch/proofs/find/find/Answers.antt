use Rattle.std.proofs.Common.{rules}
use Rattle.std.proofs.lemmas.List.Sorted.{answers_always}
use Rattle.log_batch.specs.declared.find.Pick.{Pick}
use Rattle.log_batch.specs.PutLaws.{searched}
use Rattle.log_batch.proofs.find.find.Goals as goal

pub returns : goal.returns
returns c =
    let facts = c.binary_search_by_key.ensures in
    let by_key = facts.position (λ (p : Pick). p.home) (answers_always _ _ _ (λ f a r g called. search rules)) in
    searched (λ (p : Pick). p.home) c.args.picks.now c.args.home _ c.requires facts.bound by_key
