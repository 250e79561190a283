use Rattle.std.proofs.Common.{refl}
use Rattle.life_table.specs.declared.types.Call.TheVariants as call
use Rattle.life_table.specs.declared.types.Reply.TheVariants as reply
use Rattle.mounted_calls.proofs.Comes.{made_so, refused_so}
use Rattle.mounted_calls.proofs.deciding.decide_unlink.Goals as goal

pub returns-in-Ok : goal.returns-in-Ok
returns-in-Ok c = λ t layouts is. made_so c.args.state.now t layouts c.args.key (call.Unlink c.args.key) c.in-Ok.change refl (c.in-Ok.ensures t layouts is)

pub returns-in-Err-NoLinks : goal.returns-in-Err-NoLinks
returns-in-Err-NoLinks c = λ t layouts is.
    let told = c.in-Err-NoLinks.ensures t layouts is in
    let here = rw c.in-Err-NoLinks.field-0-is at told in
    refused_so c.args.state.now t layouts (call.Unlink c.args.key) reply.NoLinks refl here
