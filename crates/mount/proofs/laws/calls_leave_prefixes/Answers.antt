use Rattle.mount.proofs.Ending.{base_then, left_all, left_earlier, left_prefix}
use Rattle.mount.proofs.Prefixes.{Carries}
use Rattle.mount.proofs.laws.calls_leave_prefixes.Goals as goal

pub returns-clause-same : goal.returns-clause-same
returns-clause-same c =
    let laws : Carries = record {
      first = c.logs.ensures.first;
      all = c.commits_lead_from_encoding_to_encoding.ensures.all;
      fits = c.commits_fit_the_log.ensures.all;
      represents = c.encoded_images_represent_their_table.ensures.replayed;
    } in
    left_prefix laws

pub returns-clause-earlier : goal.returns-clause-earlier
returns-clause-earlier c =
    let laws : Carries = record {
      first = c.logs.ensures.first;
      all = c.commits_lead_from_encoding_to_encoding.ensures.all;
      fits = c.commits_fit_the_log.ensures.all;
      represents = c.encoded_images_represent_their_table.ensures.replayed;
    } in
    left_earlier laws

pub returns-clause-all : goal.returns-clause-all
returns-clause-all c =
    let laws : Carries = record {
      first = c.logs.ensures.first;
      all = c.commits_lead_from_encoding_to_encoding.ensures.all;
      fits = c.commits_fit_the_log.ensures.all;
      represents = c.encoded_images_represent_their_table.ensures.replayed;
    } in
    left_all laws

pub returns-clause-base : goal.returns-clause-base
returns-clause-base c =
    let laws : Carries = record {
      first = c.logs.ensures.first;
      all = c.commits_lead_from_encoding_to_encoding.ensures.all;
      fits = c.commits_fit_the_log.ensures.all;
      represents = c.encoded_images_represent_their_table.ensures.replayed;
    } in
    base_then laws
