use Rattle.std.proofs.Common.{ℕ, ◌+◌, List, length, sym, subst, ap, ◌∙◌}
use Rattle.std.specs.List.{flat_map, All}
use Rattle.std.proofs.lemmas.List.{length_push}
use Rattle.std.proofs.lemmas.List.Elements.{All-push}
use Rattle.log_record.specs.declared.image.Image.{Image}
use Rattle.log_record.specs.Payload.{HoldsPayload}
use Rattle.log_record.specs.Encoding.{FitsImage, image_bytes}
use Rattle.log_record.proofs.Window.{more_held}
use Rattle.log_record.proofs.read.read_images.Goals as goal

pub loop-i-preserved : goal.loop-i-preserved
loop-i-preserved c =
    let before = c.loop-i.images.items in
    let image = c.read_image.result in
    let Held : List Image → Type 0 = λ l. HoldsPayload c.args.ring.now c.args.position 32 (flat_map image_bytes l) in
    let Are : List Image → Type 0 = λ l. All FitsImage l in
    let pushed = c.in_ok-push.ensures.items in
    record {
      count = ap (λ (l : List Image). length l) pushed ∙ length_push before image ∙ ap (λ (k : ℕ). k + 1) c.loop-i.invariant.count;
      images = subst Are (sym pushed) (All-push FitsImage before image c.loop-i.invariant.images c.read_image.ensures.image);
      held = subst Held (sym pushed) (more_held c.args.ring.now c.args.position c.loop-i.i before image c.loop-i.invariant.images
          c.loop-i.invariant.count c.loop-i.invariant.held c.read_image.ensures.held);
    }
