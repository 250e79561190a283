use Rattle.std.proofs.Common.{◌≡◌, ◌+◌, ◌++◌, List, length}
use Rattle.std.specs.List.{AllZip}
use Rattle.script.specs.Scripts.{Numbered, IsReadAs, asking_lines, lines_of, numbered_lines}
use Rattle.script.proofs.parser.parse.Given as goal

abbrev pub invariant-loop-line : goal.invariant-loop-line
invariant-loop-line l = record {
  read : (done : List Numbered) × (asking_lines l.bytes ≡ done ++ numbered_lines (l.number + 1) l.lines) × AllZip IsReadAs done l.read.items;
  count : l.number + length l.lines ≡ length (lines_of l.bytes);
}

abbrev pub decreases-loop-line : goal.decreases-loop-line
decreases-loop-line l = length l.lines
