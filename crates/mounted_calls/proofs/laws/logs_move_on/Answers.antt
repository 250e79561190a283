use Rattle.mounted_calls.proofs.Left.{moved_on}
use Rattle.mounted_calls.proofs.laws.logs_move_on.Goals as goal

pub returns : goal.returns
returns c = λ known g start t layouts story s new cells after is log moves.
    moved_on (record { all = c.commits_lead_from_encoding_to_encoding.ensures.all; fits = c.commits_fit_the_log.ensures.all }) known g start t layouts story s new cells after log moves
