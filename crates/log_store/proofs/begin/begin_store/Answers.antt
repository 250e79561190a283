use Rattle.std.proofs.Common.{◌≡◌, ◌+◌, ◌≤◌, List, [], length, sym, ap, ◌∙◌, subst, arith}
use Rattle.std.specs.List.{All}
use Rattle.std.proofs.lemmas.List.Elements.{All-nil}
use Rattle.disk_model.specs.Disk.{as_read}
use Rattle.disk_model.specs.DiskLaws.{IsImage-one, length-as_read}
use Rattle.log_record.specs.declared.image.Image.{Image}
use Rattle.log_image.specs.Log.{IsGroupImage, empty_log, groups_part}
use Rattle.log_image.specs.Overlay.{newest, overlaid}
use Rattle.log_image.specs.OverlayLaws.{newest-none}
use Rattle.log_batch.specs.Newest.{IsCommit, commit_images}
use Rattle.log_batch.specs.Put.{KeysRise}
use Rattle.log_record.specs.declared.image.Commit.{Commit}
use Rattle.log_store.specs.OnDisk.{HasLogTo}
use Rattle.log_batch.specs.NewestLaws.{none_some}
use Rattle.log_store.proofs.begin.begin_store.Goals as goal

pub returns-clause-store : goal.returns-clause-store
returns-clause-store g c =
    let cells = g.D.Disk.cells c.args.disk in
    let reads = as_read cells in
    let items = c.new-3.ensures.items in
    let none = c.new-4.ensures in
    record {
      sound = record {
        place = c.requires.place;
        last = omega (arith, c.requires.place, c.sectors-sectors.ensures, c.sectors-sectors.type_inv);
        ring = c.new-2.ensures.ring;
        commits = subst (λ (l : List Commit). All IsCommit l) (sym items) (All-nil IsCommit);
        groups = subst (λ (l : List Commit). All (IsGroupImage c.args.anchor) (commit_images l)) (sym items) (All-nil (IsGroupImage c.args.anchor));
        numbers = omega (arith, c.requires.number.1, ap length items);
        rises = subst (λ (l : List Image). KeysRise (λ (i : Image). i.home) 0 l) (sym none) tt;
        homes = subst (λ (l : List Image). All (IsGroupImage c.args.anchor) l) (sym none) (All-nil (IsGroupImage c.args.anchor));
        room = record { counted = sym (ap (λ (l : List Commit). length (commit_images l)) items); within = omega arith; countable = omega arith };
        buffer = omega (arith, c.in-Ok-vec.ensures.len, c.in-Ok-vec.sectors.ok.0);
        stage = tt;
        job = tt;
        asks = tt;
      };
      holds = λ tells.
          let size : c.args.anchor + 1 + c.args.ring ≤ length reads = omega (arith, c.requires.place, length-as_read cells, g.met.D.Disk.cells_fit tells c.args.disk) in
          let says = c.logs.ensures.empty reads c.args.anchor c.args.ring c.args.position c.args.next_commit size (c.requires.anchor tells) (c.requires.below tells) in
          let base : overlaid (groups_part c.args.anchor reads) [] ≡ overlaid (groups_part c.args.anchor reads) c.new-4.result.images = ap (overlaid (groups_part c.args.anchor reads)) (sym none) in
          let right : HasLogTo c.args.anchor c.args.ring (empty_log c.args.position c.args.next_commit) (overlaid (groups_part c.args.anchor reads) c.new-4.result.images) reads =
          record { says = says; below = c.requires.below tells; groups = base } in
          record {
            log = empty_log c.args.position c.args.next_commit;
            tail = sym c.new-2.ensures.tail;
            end = sym c.new-2.ensures.head;
            next = omega (arith, c.requires.number.0);
            images = λ image is.
                subst (HasLogTo c.args.anchor c.args.ring (empty_log c.args.position c.args.next_commit) (overlaid (groups_part c.args.anchor reads) c.new-4.result.images))
                (sym (IsImage-one cells image (c.requires.one tells) is)) right;
            logged = λ home sector is. absurd (none_some (sym (ap (newest home) none ∙ newest-none home) ∙ is));
            home = λ home sector d below newer no. absurd (none_some (sym (newest-none home) ∙ newer));
            clean = λ no still image is. λ home sector d below newer. absurd (none_some (sym (newest-none home) ∙ newer));
          };
    }
