use Rattle.std.proofs.Common.{◌+◌, length, refl, ap, sym, ◌∙◌, arith}
use Rattle.script.specs.Scripts.{asking_lines}
use Rattle.script.proofs.Progress.{few_lines, first_fault, inside_all, read_more}
use Rattle.script.proofs.parser.parse.Goals as goal

pub overflow_add-number : goal.overflow_add-number
overflow_add-number c = omega (arith, few_lines c.args.bytes.now, c.loop-line.invariant.count, ap length c.in-Some.ensures)

pub loop-line-preserved : goal.loop-line-preserved
loop-line-preserved c =
    let asked = c.in-Ok.ensures in
    record {
      read = rw c.in_ok-push-in-Ok.ensures.items
          (read_more (asking_lines c.args.bytes.now) c.loop-line.read.items (c.loop-line.number + 1) c.in-Some.line.now c.next.new.self c.loop-line.lines
          (record { number = c.loop-line.number + 1; command = c.in-Ok.command }) c.loop-line.invariant.read c.in-Some.ensures
          (sym c.is_skipped.ensures ∙ c.if-is_skipped.false) (record { number = refl; inside = asked.0; denotes = asked.1; command = asked.2 }));
      count = omega (arith, c.loop-line.invariant.count, ap length c.in-Some.ensures);
    }

pub returns-clause-inside : goal.returns-clause-inside
returns-clause-inside c = inside_all (asking_lines c.args.bytes.now) c.loop-line.read.items (c.loop-line.number + 1) c.loop-line.lines c.loop-line.invariant.read c.in_default.ensures.0

pub returns-in-Err-clause-outside : goal.returns-in-Err-clause-outside
returns-in-Err-clause-outside c line rule is =
    first_fault (asking_lines c.args.bytes.now) c.loop-line.read.items (c.loop-line.number + 1) c.in-Some.line.now c.next.new.self c.loop-line.lines
    c.in-Err.fault line rule c.loop-line.invariant.read c.in-Some.ensures (sym c.is_skipped.ensures ∙ c.if-is_skipped.false) c.in-Err.ensures cc
