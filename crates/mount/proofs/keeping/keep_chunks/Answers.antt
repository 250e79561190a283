use Rattle.std.proofs.Common.{◌≡◌, ◌+◌, ℕ, List, Some, slice_get, inl, inr, subst, arith}
use Rattle.std.proofs.lemmas.Bool.{cases_lt}
use Rattle.std.proofs.lemmas.Option.{get_or_from_slice_get}
use Rattle.life_bytes.specs.declared.sector.Sector.{Sector}
use Rattle.inobt_leaf.specs.declared.chunk.ChunkRec.{ChunkRec}
use Rattle.sound_image.specs.Places.{sector_in}
use Rattle.mount.specs.Kept.{HasChunk, StillAgrees}
use Rattle.mount.proofs.keeping.keep_chunks.Goals as goal

pub loop-record-preserved : goal.loop-record-preserved
loop-record-preserved g c =
    let a = c.args in
    let l = c.loop-record in
    let inv = l.invariant in
    let laws = g.met.V.View in
    let same = laws.image_stays a.view.now l.view inv.read in
    let i : ℕ = l.record-index in
    record {
      read = laws.both_read a.view.now l.view c.keep_chunk.new.view inv.read c.keep_chunk.ensures.only_read;
      agrees = λ known was. subst (λ (s : List Sector). StillAgrees s l.kept c.keep_chunk.new.kept) same (c.keep_chunk.ensures.agrees known) (inv.agrees known was);
      has = λ k r low is. elim (cases_lt k i) [
        | inl front ↦ λ j small inside. c.keep_chunk.ensures.grows (sector_in a.g.now a.group (r.start + j)) (inv.has k r front is j small inside)
        | inr past ↦
            let here : k ≡ i = omega (arith, low, past) in
            subst (λ (x : ChunkRec). HasChunk a.g.now c.keep_chunk.new.kept a.group x.start)
            (get_or_from_slice_get a.records.now i r _ (subst (λ (n : ℕ). slice_get a.records.now n ≡ Some r) here is)) c.in_ok-keep_chunk.ensures.has
      ];
      grows = λ s was. c.keep_chunk.ensures.grows s (inv.grows s was);
    }
