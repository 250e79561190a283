use Rattle.std.proofs.Common.{◌≡◌, replicate}
use Rattle.word_table.specs.Ends.{seat_state}
use Rattle.word_table.specs.Known.{nothing_known}
use Rattle.word_table.proofs.make.make_sessions.Given as goal

abbrev pub invariant-loop-session : goal.invariant-loop-session
invariant-loop-session l = record {
  maker : l.maker ≡ l.fn.maker;
  made : l.sessions.items ≡ replicate l._session (seat_state l.cache.name nothing_known);
}
