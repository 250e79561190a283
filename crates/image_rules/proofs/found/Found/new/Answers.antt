use Rattle.std.proofs.Common.{sym, ◌∙◌, arith}
use Rattle.image_rules.proofs.Walking.{in_no_chunk, misses_all}
use Rattle.image_rules.proofs.found.Found.new.Goals as goal

pub returns-clause-found : goal.returns-clause-found
returns-clause-found c g image group size same =
    let from = c.data_blocks-map.ensures in
    let o = c.occupy_chunks.ensures in
    record {
      space = record {
        cores = λ a lt. absurd (omega arith);
        forks = λ a lt. absurd (omega arith);
        blocks = λ no a lt. absurd (omega arith);
        left = λ no single. record {
          long = o.long ∙ from.long ∙ sym size;
          free = λ b free.
              let was = o.free b free in
              let inside = from.free b was.0 in
              (inside.0, omega (arith, inside.1, size), in_no_chunk g image group b c.args.chunks.now same was.1, λ a lt. absurd (omega arith));
          kept = λ b low high chunks below. o.kept b (from.kept b low (omega (arith, high, size))) (misses_all g image group b c.args.chunks.now same chunks);
        };
      };
      links = c.new.ensures.noted g image group;
    }
