use Rattle.std.proofs.Common.{ap, ◌∙◌, ◌++◌, ◌∷◌, []}
use Rattle.word_table.specs.Ends.{SeatState}
use Rattle.word_table.proofs.Making.{all_made}
use Rattle.word_table.proofs.make.make_cache.Goals as goal

pub returns : goal.returns
returns c = record {
  shape = c.in_ok-cache.ensures.geometry;
  sessions_are = c.in_ok-sessions.ensures.sessions;
  groups = c.in_ok-keepers.keepers.items;
  groups_are = c.in_ok-keepers.ensures.keepers;
  keepers_are = c.in_ok-push.ensures.items ∙ ap (λ (m : SeatState). c.in_ok-keepers.keepers.items ++ m ∷ []) (all_made c.in_ok-cache.cache _ c.in_ok-keepers.ensures.maker);
}
