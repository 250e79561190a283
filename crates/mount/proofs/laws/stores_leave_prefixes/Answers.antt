use Rattle.mount.proofs.Prefixes.{Carries, is_prefix}
use Rattle.mount.proofs.laws.stores_leave_prefixes.Goals as goal

pub returns : goal.returns
returns c g t layouts most durable base image list is has left =
    let laws : Carries = record {
      first = c.logs.ensures.first;
      all = c.commits_lead_from_encoding_to_encoding.ensures.all;
      fits = c.commits_fit_the_log.ensures.all;
      represents = c.encoded_images_represent_their_table.ensures.replayed;
    } in
    is_prefix laws g t layouts most durable base image list is has left
