use Rattle.std.proofs.Common.{List, [], ◌∷◌, ◌++◌, get_or, ap, sym, ◌∙◌, rules}
use Rattle.std.proofs.lemmas.List.{map_more}
use Rattle.log_record.specs.declared.image.Image.{Image}
use Rattle.log_batch.specs.declared.find.Pick.{Pick}
use Rattle.log_batch.specs.Picks.{picked_image, Names}
use Rattle.log_batch.proofs.Picks.{named}
use Rattle.log_batch.proofs.batch.copy_images.Goals as goal

pub bounds-as_slice-pick : goal.bounds-as_slice-pick
bounds-as_slice-pick c =
    let pick : Pick = get_or c.args.picks.now c.loop-pick.pick-index (record { home = 0; commit = 0; image = 0 }) in
    let is : Names c.args.commits.now.items pick = c.requires.picks.names c.loop-pick.pick-index (record { home = 0; commit = 0; image = 0 }) c.loop-pick-test.true in
    (named c.args.commits.now.items pick c.index.result.now c.as_slice.result.now is c.index.ensures c.as_slice.ensures).0

pub offset_bounds-as_slice-pick : goal.offset_bounds-as_slice-pick
offset_bounds-as_slice-pick c =
    let within = bounds-as_slice-pick c in
    search (rules, within)

pub loop-pick-preserved : goal.loop-pick-preserved
loop-pick-preserved c =
    let commits = c.args.commits.now.items in
    let pick : Pick = get_or c.args.picks.now c.loop-pick.pick-index (record { home = 0; commit = 0; image = 0 }) in
    let is : Names commits pick = c.requires.picks.names c.loop-pick.pick-index (record { home = 0; commit = 0; image = 0 }) c.loop-pick-test.true in
    let image = named commits pick c.index.result.now c.as_slice.result.now is c.index.ensures c.as_slice.ensures in
    let blank : Image = record { home = 0; sector = record { bytes = [] } } in record {
      images = c.push_reserved.ensures.items
          ∙ ap (λ (m : Image). c.loop-pick.into.items ++ m ∷ []) (image.1 blank)
          ∙ ap (λ (l : List Image). l ++ picked_image commits pick ∷ []) c.loop-pick.invariant.images
          ∙ sym (map_more (picked_image commits) c.args.picks.now c.loop-pick.pick-index (record { home = 0; commit = 0; image = 0 }) c.loop-pick-test.true);
      capacity = c.push_reserved.ensures.capacity ∙ c.loop-pick.invariant.capacity;
    }
