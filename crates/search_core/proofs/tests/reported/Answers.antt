use Rattle.search_core.proofs.tests.reported.Goals as goal

pub report-requires : goal.report-requires
report-requires c = record { members = c.hits_are_members.ensures.law _ _ _ _ c.in_ok-answer.ensures.hits }
