use Rattle.std.proofs.Common.{sym}
use Rattle.isosearch.proofs.Paths.{first_alone}
use Rattle.isosearch.proofs.loading.load_from.Goals as goal

pub returns-then-not-from_index-clause-given : goal.returns-then-not-from_index-clause-given
returns-then-not-from_index-clause-given g c = rw c.if-not-from_index.true c.load_files.ensures.given

pub returns-then-not-from_index-clause-told : goal.returns-then-not-from_index-clause-told
returns-then-not-from_index-clause-told g c = rw c.if-not-from_index.true c.load_files.ensures.told

pub returns-clause-given : goal.returns-clause-given
returns-clause-given g c =
    rw (c.if-not-from_index.false, first_alone c.args.paths.now _ (c.requires.one c.if-not-from_index.false) (sym c.in-Some.ensures.value), sym c.as_str.ensures.value) c.load_index.ensures.given

pub returns-clause-told : goal.returns-clause-told
returns-clause-told g c =
    rw (c.if-not-from_index.false, first_alone c.args.paths.now _ (c.requires.one c.if-not-from_index.false) (sym c.in-Some.ensures.value), sym c.as_str.ensures.value) c.load_index.ensures.told
