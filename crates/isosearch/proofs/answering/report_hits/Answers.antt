use Rattle.isosearch.proofs.Reported.{searched_is}
use Rattle.isosearch.proofs.answering.report_hits.Goals as goal

pub search-requires-clause-library : goal.search-requires-clause-library
search-requires-clause-library c = c.valid_libraries_can_be_searched.ensures.law _ c.requires.valid

pub report-requires : goal.report-requires
report-requires c = record { members = c.hits_are_members.ensures.law _ _ _ _ c.in_ok-answer.ensures.hits }

pub returns-clause-hits : goal.returns-clause-hits
returns-clause-hits c = searched_is _ _ _ _ _ _ _ c.in_ok-answer.ensures.hits c.in_ok-text.ensures.value c.is_empty.ensures.value
