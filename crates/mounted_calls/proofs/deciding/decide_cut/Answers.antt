use Rattle.std.proofs.Common.{refl}
use Rattle.life_table.specs.declared.types.Call.TheVariants as call
use Rattle.life_table.specs.declared.types.Reply.TheVariants as reply
use Rattle.mounted_calls.proofs.Comes.{made_so, refused_so}
use Rattle.mounted_calls.proofs.deciding.decide_cut.Goals as goal

pub returns-in-Ok : goal.returns-in-Ok
returns-in-Ok c = λ t layouts is. made_so c.args.state.now t layouts c.args.key (call.Cut c.args.key c.args.count) c.in-Ok.change refl (c.in-Ok.ensures t layouts is)

pub returns-in-Err-CutTooFar : goal.returns-in-Err-CutTooFar
returns-in-Err-CutTooFar c = λ t layouts is.
    let told = c.in-Err-CutTooFar.ensures t layouts is in
    let here = rw c.in-Err-CutTooFar.field-0-is at told in
    refused_so c.args.state.now t layouts (call.Cut c.args.key c.args.count) reply.CutTooFar refl here
