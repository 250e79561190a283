use Rattle.std.proofs.Common.{◌≡◌, sym, subst, arith}
use Rattle.ag_header.specs.Headers.{header_encoding}
use Rattle.group_ops.specs.Represents.{IsGroupOf}
use Rattle.group_ops.specs.Values.{StateValue}
use Rattle.group_ops.proofs.Parts.{agi_of, page_low}
use Rattle.group_ops.proofs.state.GroupState.header.Goals as goal

pub write_agi-requires : goal.write_agi-requires
write_agi-requires c =
    let w = c.requires in
    let is = subst (λ (v : StateValue). IsGroupOf v w.0 w.1) (sym c.self.view_is) w.2 in
    let low = page_low _ w.0 w.1 c.self.invariant.inside is in
    record { root = (omega (arith, low, is.page), omega (arith, low, is.page)); level = (omega arith, omega arith) }

pub returns : goal.returns
returns c =
    subst
    (λ (v : StateValue). c.write_agi.new.into.bytes ≡ header_encoding (agi_of v.group v.geometry.blocks c.args.counts.inodes v.page c.args.counts.free c.args.heads v.geometry.uuid))
    c.self.view_is c.write_agi.ensures.sector
