use Rattle.isosearch.proofs.loading.load.Goals as goal

pub returns-in-Index-clause-given : goal.returns-in-Index-clause-given
returns-in-Index-clause-given g c = rw c.in-Index.is c.load_from-in-Index.ensures.given

pub returns-in-Index-clause-told : goal.returns-in-Index-clause-told
returns-in-Index-clause-told g c = rw c.in-Index.is c.load_from-in-Index.ensures.told

pub returns-in-Gen-clause-given : goal.returns-in-Gen-clause-given
returns-in-Gen-clause-given g c = rw c.in-Gen.is (rw c.new.ensures.empty at c.load_from-in-Gen-2.ensures.given)

pub returns-in-Gen-clause-told : goal.returns-in-Gen-clause-told
returns-in-Gen-clause-told g c = rw c.in-Gen.is (rw c.new.ensures.empty at c.load_from-in-Gen-2.ensures.told)
