use Rattle.std.proofs.Common.{◌≡◌, List, All, map, sym, subst, ap, ◌∙◌}
use Rattle.life_bytes.specs.declared.sector.Sector.{Sector}
use Rattle.inobt_leaf.specs.declared.chunk.ChunkRec.{ChunkRec}
use Rattle.inobt_leaf.specs.Chunks.{RecordsAscend}
use Rattle.life_table.specs.Table.{group_at}
use Rattle.sound_image.specs.Encoding.{chunk_record}
use Rattle.sound_image.specs.Rules.{IsInData}
use Rattle.group_space.specs.Space.{Space}
use Rattle.group_ops.specs.Loading.{IsNoDamage, ShowChunks}
use Rattle.group_ops.specs.Represents.{IsGroupOf}
use Rattle.group_ops.specs.Values.{StateValue}
use Rattle.group_ops.proofs.Inodes.{in_data}
use Rattle.group_ops.proofs.Loaded.{chunks_ascend, loaded, root_is}
use Rattle.group_ops.proofs.Outcomes.{passed_up}
use Rattle.group_ops.proofs.load.load_group.Goals as goal

pub returns-in_err-leaf-clause-damaged : goal.returns-in_err-leaf-clause-damaged
returns-in_err-leaf-clause-damaged g c known t layouts rest can image =
    let a = c.args in
    let same = g.met.V.View.image_stays a.view.now c.load_header.new.view c.in_ok-header.ensures.only_read in
    let root = root_is a.g.now a.group (group_at t a.group) layouts c.in_ok-header.header (c.in_ok-header.ensures.header known t layouts rest can image) in
    passed_up c.from_residual-in_err-leaf.result c.in_err-leaf.field-0.0 IsNoDamage c.from_residual-in_err-leaf.ensures.1
    (c.in_err-leaf.ensures.damaged known t layouts rest can (same ∙ image) root)

pub returns-in_err-chunks-clause-damaged : goal.returns-in_err-chunks-clause-damaged
returns-in_err-chunks-clause-damaged g c known t layouts rest can image =
    let a = c.args in
    let same = g.met.V.View.image_stays a.view.now c.load_header.new.view c.in_ok-header.ensures.only_read in
    let root = root_is a.g.now a.group (group_at t a.group) layouts c.in_ok-header.header (c.in_ok-header.ensures.header known t layouts rest can image) in
    let records : c.in_ok-leaf.leaf ≡ map chunk_record (group_at t a.group) = c.in_ok-leaf.ensures.leaf known t layouts rest can (same ∙ image) root in
    let within : All (IsInData a.g.now.blocks) c.chunks.result.now =
    subst (All (IsInData a.g.now.blocks)) (sym (c.chunks.ensures.all ∙ records)) (in_data c.places_have_their_metadata.ensures.place a.g.now t layouts rest a.group can c.requires.inside) in
    passed_up c.from_residual-in_err-chunks.result c.in_err-chunks.field-0.0 IsNoDamage c.from_residual-in_err-chunks.ensures.1 (c.in_err-chunks.ensures.damaged within)

pub returns-in_err-chunks-clause-only_read : goal.returns-in_err-chunks-clause-only_read
returns-in_err-chunks-clause-only_read g c =
    let laws = g.met.V.View in
    let v = c.args.view.now in
    laws.both_read v c.load_map.new.view c.load_chunks.new.view
    (laws.both_read v c.load_leaf.new.view c.load_map.new.view
    (laws.both_read v c.load_header.new.view c.load_leaf.new.view c.in_ok-header.ensures.only_read c.in_ok-leaf.ensures.only_read) c.in_ok-free.ensures.only_read) c.in_err-chunks.ensures.only_read

pub of-requires-clause-ascends : goal.of-requires-clause-ascends
of-requires-clause-ascends g c =
    chunks_ascend c.in_ok-chunks.chunks.items c.chunks.result.now c.in_ok-chunks.ensures.starts
    (subst RecordsAscend (sym c.chunks.ensures.all) c.chunks.ensures.leaf.ascends)

pub returns-clause-represents : goal.returns-clause-represents
returns-clause-represents g c known t layouts rest can image =
    let a = c.args in
    let laws = g.met.V.View in
    let v = a.view.now in
    let first = c.in_ok-header.ensures.only_read in
    let second = laws.both_read v c.load_header.new.view c.load_leaf.new.view first c.in_ok-leaf.ensures.only_read in
    let third = laws.both_read v c.load_leaf.new.view c.load_map.new.view second c.in_ok-free.ensures.only_read in
    let header = c.in_ok-header.ensures.header known t layouts rest can image in
    let root = root_is a.g.now a.group (group_at t a.group) layouts c.in_ok-header.header header in
    let records : c.in_ok-leaf.leaf ≡ map chunk_record (group_at t a.group) =
    c.in_ok-leaf.ensures.leaf known t layouts rest can (laws.image_stays v c.load_header.new.view first ∙ image) root in
    let free = c.in_ok-free.ensures.map known t layouts rest can (laws.image_stays v c.load_leaf.new.view second ∙ image) in
    let starts = c.in_ok-chunks.ensures.starts ∙ ap (λ (l : List ChunkRec). map (λ (r : ChunkRec). r.start) l) c.chunks.ensures.all in
    let shown = subst (λ (l : List Sector). ShowChunks a.g.now l a.group c.in_ok-chunks.chunks.items) (laws.image_stays v c.load_map.new.view third ∙ image) (c.in_ok-chunks.ensures.shown known) in
    let parts =
    c.of.ensures.parts
    ∙ ap
    (λ (space : Space).
    let v : StateValue =
    record { geometry = a.g.now; group = a.group; page = c.in_ok-header.header.root; heads = c.in_ok-header.header.heads; space = space; buffers = c.in_ok-chunks.chunks.items; in_core = c.of.result.in_core; room = c.of.result.room } in
    v)
    c.new-space.ensures in
    subst (λ (s : StateValue). IsGroupOf s t layouts) (sym parts)
    (loaded c.encoded_places.ensures.inode a.g.now t layouts rest a.group c.in_ok-header.header c.in_ok-leaf.leaf c.in_ok-free.free c.in_ok-chunks.chunks.items c.of.result.in_core c.of.result.room can
    c.requires.inside header records free starts c.in_ok-chunks.ensures.whole shown c.of.ensures.nothing_in_core)

pub returns-clause-only_read : goal.returns-clause-only_read
returns-clause-only_read g c =
    let laws = g.met.V.View in
    let v = c.args.view.now in
    laws.both_read v c.load_map.new.view c.load_chunks.new.view
    (laws.both_read v c.load_leaf.new.view c.load_map.new.view
    (laws.both_read v c.load_header.new.view c.load_leaf.new.view c.in_ok-header.ensures.only_read c.in_ok-leaf.ensures.only_read) c.in_ok-free.ensures.only_read) c.in_ok-chunks.ensures.only_read
