use Rattle.std.proofs.Common.{subst, sym}
use Rattle.script.specs.declared.types.Command.{Command}
use Rattle.script_runs.specs.Running.{ComesTo, StaysUntouched}
use Rattle.script_runs.proofs.lines.answer_line.Goals as goal

pub returns-in-Mount-clause-run : goal.returns-in-Mount-clause-run
returns-in-Mount-clause-run g c = λ sure tells first number s run few stands.
    let d = g.D.Disk in
    subst (λ (x : Command). ComesTo d.known sure d.cells d.sector_count d.arming first number s x c.mount_line.result) (sym c.in-Mount.is) (c.mount_line.ensures.run sure tells first number s run few stands)

pub returns-in-Mount-clause-untouched : goal.returns-in-Mount-clause-untouched
returns-in-Mount-clause-untouched g c = λ told before is.
    subst (λ (x : Command). StaysUntouched g.D.Disk.cells before x c.mount_line.result) (sym c.in-Mount.is) (c.mount_line.ensures.untouched told before is)

pub returns-in-Stop-clause-run : goal.returns-in-Stop-clause-run
returns-in-Stop-clause-run g c = λ sure tells first number s run few stands.
    let d = g.D.Disk in
    subst (λ (x : Command). ComesTo d.known sure d.cells d.sector_count d.arming first number s x c.stop_line.result) (sym c.in-Stop.is) (c.stop_line.ensures.run sure tells first number s run few stands)

pub returns-in-Stop-clause-untouched : goal.returns-in-Stop-clause-untouched
returns-in-Stop-clause-untouched g c = λ told before is.
    subst (λ (x : Command). StaysUntouched g.D.Disk.cells before x c.stop_line.result) (sym c.in-Stop.is) (c.stop_line.ensures.untouched told before is)

pub returns-in-Arm-clause-run : goal.returns-in-Arm-clause-run
returns-in-Arm-clause-run g c = λ sure tells first number s run few stands.
    let d = g.D.Disk in
    subst (λ (x : Command). ComesTo d.known sure d.cells d.sector_count d.arming first number s x c.arm_line.result) (sym c.in-Arm.is) (c.arm_line.ensures.run sure tells first number s run few stands)

pub returns-in-Arm-clause-untouched : goal.returns-in-Arm-clause-untouched
returns-in-Arm-clause-untouched g c = λ told before is.
    subst (λ (x : Command). StaysUntouched g.D.Disk.cells before x c.arm_line.result) (sym c.in-Arm.is) (c.arm_line.ensures.untouched told before is)

pub returns-in-Whole-clause-run : goal.returns-in-Whole-clause-run
returns-in-Whole-clause-run g c = λ sure tells first number s run few stands.
    let d = g.D.Disk in
    subst (λ (x : Command). ComesTo d.known sure d.cells d.sector_count d.arming first number s x c.call_line.result) (sym c.in-Whole.is) (c.call_line.ensures.run sure tells first number s run few stands)

pub returns-in-Whole-clause-untouched : goal.returns-in-Whole-clause-untouched
returns-in-Whole-clause-untouched g c = λ told before is.
    subst (λ (x : Command). StaysUntouched g.D.Disk.cells before x c.call_line.result) (sym c.in-Whole.is) (c.call_line.ensures.untouched told before is)

pub returns-in-Unmount-clause-run : goal.returns-in-Unmount-clause-run
returns-in-Unmount-clause-run g c = λ sure tells first number s run few stands.
    let d = g.D.Disk in
    subst (λ (x : Command). ComesTo d.known sure d.cells d.sector_count d.arming first number s x c.unmount_line.result) (sym c.in-Unmount.is) (c.unmount_line.ensures.run sure tells first number s run few stands)

pub returns-in-Unmount-clause-untouched : goal.returns-in-Unmount-clause-untouched
returns-in-Unmount-clause-untouched g c = λ told before is.
    subst (λ (x : Command). StaysUntouched g.D.Disk.cells before x c.unmount_line.result) (sym c.in-Unmount.is) (c.unmount_line.ensures.untouched told before is)
