use Rattle.std.proofs.Common.{refl}
use Rattle.life_table.specs.declared.types.Call.TheVariants as call
use Rattle.life_table.specs.declared.types.Reply.TheVariants as reply
use Rattle.mounted_calls.proofs.Comes.{created_so, refused_so}
use Rattle.mounted_calls.proofs.deciding.decide_create.Goals as goal

pub returns-in-Ok : goal.returns-in-Ok
returns-in-Ok c = λ t layouts is. created_so c.args.state.now t layouts c.in-Ok.key (call.Create c.args.state.now.group) c.in-Ok.change refl (c.in-Ok.ensures t layouts is)

pub returns-in-Err-NoInodes : goal.returns-in-Err-NoInodes
returns-in-Err-NoInodes c = λ t layouts is.
    let told = c.in-Err-NoInodes.ensures t layouts is in
    let here = rw c.in-Err-NoInodes.field-0-is at told in
    refused_so c.args.state.now t layouts (call.Create c.args.state.now.group) reply.NoInodes refl here
