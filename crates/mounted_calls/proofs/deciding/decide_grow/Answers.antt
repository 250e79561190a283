use Rattle.std.proofs.Common.{refl}
use Rattle.life_table.specs.declared.types.Call.TheVariants as call
use Rattle.life_table.specs.declared.types.Reply.TheVariants as reply
use Rattle.mounted_calls.proofs.Comes.{made_so, refused_so}
use Rattle.mounted_calls.proofs.deciding.decide_grow.Goals as goal

pub returns-in-Ok : goal.returns-in-Ok
returns-in-Ok c = λ t layouts is. made_so c.args.state.now t layouts c.args.key (call.Grow c.args.key c.args.count) c.in-Ok.change refl (c.in-Ok.ensures t layouts is)

pub returns-in-Err-NoSpace : goal.returns-in-Err-NoSpace
returns-in-Err-NoSpace c = λ t layouts is.
    let told = c.in-Err-NoSpace.ensures t layouts is in
    let here = rw c.in-Err-NoSpace.field-0-is at told in
    refused_so c.args.state.now t layouts (call.Grow c.args.key c.args.count) reply.NoSpace refl here

pub returns-in-Err-TooManyExtents : goal.returns-in-Err-TooManyExtents
returns-in-Err-TooManyExtents c = λ t layouts is.
    let told = c.in-Err-TooManyExtents.ensures t layouts is in
    let here = rw c.in-Err-TooManyExtents.field-0-is at told in
    refused_so c.args.state.now t layouts (call.Grow c.args.key c.args.count) reply.TooManyExtents refl here
