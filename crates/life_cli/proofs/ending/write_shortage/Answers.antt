use Rattle.std.proofs.Common.{◌∙◌}
use Rattle.life_cli.proofs.Shortages.{written_of}
use Rattle.life_cli.proofs.ending.write_shortage.Goals as goal

pub returns-clause-output : goal.returns-clause-output
returns-clause-output g c told own =
    let early = c.ended_early.ensures in
    let run = c.write_run.ensures in
    let ended = c.write_run.result in
    written_of (g.K.Sink.bytes_held c.args.out.now) (g.K.Sink.bytes_held c.write_run.new.out) ended.mounts.items ended.groups.items ended.said.items told own ended.status
    (run.mounts ∙ early.mounts) (run.groups ∙ early.groups) (run.said ∙ early.said) (rw early.status at run.status) (rw early.status at run.output)
