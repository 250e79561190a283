use Rattle.std.proofs.Common.{◌≡◌, codes, refl, rules, arith}
use Rattle.std.proofs.lemmas.Slice.Eq.{text_from_reads}
use Rattle.script.specs.Commands.{call_named}
use Rattle.script.proofs.commands.read_call.Goals as goal

pub returns-in-create : goal.returns-in-create
unfolding call_named
returns-in-create c = let e : c.args.word.now ≡ codes "create" = text_from_reads c.args.word.now (codes "create") (omega arith) (search rules) in rw e refl

pub returns-in-unlink : goal.returns-in-unlink
unfolding call_named
returns-in-unlink c = let e : c.args.word.now ≡ codes "unlink" = text_from_reads c.args.word.now (codes "unlink") (omega arith) (search rules) in rw e refl

pub returns-in-tmpfile : goal.returns-in-tmpfile
unfolding call_named
returns-in-tmpfile c = let e : c.args.word.now ≡ codes "tmpfile" = text_from_reads c.args.word.now (codes "tmpfile") (omega arith) (search rules) in rw e refl

pub returns-in-reclaim : goal.returns-in-reclaim
unfolding call_named
returns-in-reclaim c = let e : c.args.word.now ≡ codes "reclaim" = text_from_reads c.args.word.now (codes "reclaim") (omega arith) (search rules) in rw e refl
