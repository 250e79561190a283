use Rattle.commit_history.proofs.Fitting.{all_fit, one_fits}
use Rattle.commit_history.proofs.laws.commits_fit_the_log.Goals as goal

pub returns-clause-one : goal.returns-clause-one
returns-clause-one c = λ g t u layouts others sectors commit. one_fits g t u layouts others sectors commit c.places_have_their_metadata.ensures.place

pub returns-clause-all : goal.returns-clause-all
returns-clause-all c = λ g t u layouts others sectors commits. all_fit g t u layouts others sectors commits c.places_have_their_metadata.ensures.place
