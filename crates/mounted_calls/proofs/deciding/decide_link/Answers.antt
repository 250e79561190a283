use Rattle.std.proofs.Common.{refl}
use Rattle.life_table.specs.declared.types.Call.TheVariants as call
use Rattle.life_table.specs.declared.types.Reply.TheVariants as reply
use Rattle.mounted_calls.proofs.Comes.{made_so, refused_so}
use Rattle.mounted_calls.proofs.deciding.decide_link.Goals as goal

pub returns-in-Ok : goal.returns-in-Ok
returns-in-Ok c = λ t layouts is. made_so c.args.state.now t layouts c.args.key (call.Link c.args.key) c.in-Ok.change refl (c.in-Ok.ensures t layouts is)

pub returns-in-Err-TooManyLinks : goal.returns-in-Err-TooManyLinks
returns-in-Err-TooManyLinks c = λ t layouts is.
    let told = c.in-Err-TooManyLinks.ensures t layouts is in
    let here = rw c.in-Err-TooManyLinks.field-0-is at told in
    refused_so c.args.state.now t layouts (call.Link c.args.key) reply.TooManyLinks refl here
