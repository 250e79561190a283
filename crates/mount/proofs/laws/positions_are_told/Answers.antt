use Rattle.std.proofs.Common.{sym, ◌∙◌}
use Rattle.mount.proofs.Used.{Ones, are_found, are_used}
use Rattle.mount.proofs.laws.positions_are_told.Goals as goal

pub returns : goal.returns
returns c g image found has log =
    let ones : Ones = record {
      geometry = λ a b at p q. c.superblocks_tell_geometries.ensures a b p.shape q.shape (sym p.encoded ∙ q.encoded);
      log = c.logs.ensures.one;
    } in
    (are_used ones g image found has log, are_found g image found has log)
