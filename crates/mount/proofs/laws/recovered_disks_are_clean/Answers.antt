use Rattle.std.proofs.Common.{sym, ◌∙◌}
use Rattle.mount.proofs.Clean.{OfTables, is_clean, same_is_on_the_way}
use Rattle.mount.proofs.laws.recovered_disks_are_clean.Goals as goal

pub returns-clause-clean : goal.returns-clause-clean
returns-clause-clean c =
    let laws : OfTables = record {
      ones = record {
        geometry = λ a b at p q. c.superblocks_tell_geometries.ensures a b p.shape q.shape (sym p.encoded ∙ q.encoded);
        log = c.logs.ensures.one;
      };
      table = c.images_represent_one_table.ensures;
      unheld = c.sound_images_represent_a_table.ensures.no_opens;
    } in
    is_clean laws

pub returns-clause-same : goal.returns-clause-same
returns-clause-same c =
    let laws : OfTables = record {
      ones = record {
        geometry = λ a b at p q. c.superblocks_tell_geometries.ensures a b p.shape q.shape (sym p.encoded ∙ q.encoded);
        log = c.logs.ensures.one;
      };
      table = c.images_represent_one_table.ensures;
      unheld = c.sound_images_represent_a_table.ensures.no_opens;
    } in
    same_is_on_the_way laws
