use Rattle.std.proofs.Common.{◌++◌, IsTrue, slice_get, sym, ap, ◌∙◌}
use Rattle.type_core.specs.Types.{takes}
use Rattle.elab_env.specs.Names.{arity_of}
use Rattle.elab_env.specs.Parameters.{name_function}
use Rattle.elab_env.specs.Table.{is_free}
use Rattle.elab_env.proofs.Joined.{joined, lesser_differs, name_is_function, name_is_over, of_lesser, other_avoided, still_free}
use Rattle.elab_env.proofs.Kept.{described_takes, free_described, free_not_realized}
use Rattle.elab_env.proofs.name_table.NameTable.join.Goals as goal

pub realize-requires-clause-function : goal.realize-requires-clause-function
realize-requires-clause-function c = name_is_function _ _ _ c.in_ok-fun.ensures.value

pub realize-requires-clause-body : goal.realize-requires-clause-body
realize-requires-clause-body c =
    let table = c.args.self.now in
    let free : IsTrue (is_free table c.min.result) = of_lesser (λ n. IsTrue (is_free table n)) c.args.a.0 c.args.b.0 c.min.result c.min.ensures c.requires.first c.requires.second in
    name_is_over table.names c.min.result _ _ c.in_ok-fun.ensures.value
    (ap (takes (slice_get table.names c.min.result)) (sym (ap arity_of c.name-3.ensures.value)) ∙ described_takes table.names c.min.result (free_described table c.min.result free))

pub realize-requires-clause-other : goal.realize-requires-clause-other
realize-requires-clause-other c =
    let table = c.args.self.now in
    let free : IsTrue (is_free table c.min.result) = of_lesser (λ n. IsTrue (is_free table n)) c.args.a.0 c.args.b.0 c.min.result c.min.ensures c.requires.first c.requires.second in
    other_avoided table.realizations c.min.result c.max.result _ _ c.in_ok-fun.ensures.value (free_not_realized table c.min.result free)
    (lesser_differs c.args.a.0 c.args.b.0 c.min.result c.max.result c.if-a-b.false c.min.ensures c.max.ensures)

pub settle-requires : goal.settle-requires
settle-requires c =
    let table = c.args.self.now in
    let free : IsTrue (is_free table c.min.result) = of_lesser (λ n. IsTrue (is_free table n)) c.args.a.0 c.args.b.0 c.min.result c.min.ensures c.requires.first c.requires.second in
    record {
      free = still_free table c.realize.new.self _ c.min.result c.in_ok-realize.ensures.names c.in_ok-realize.ensures.realizations
          (lesser_differs c.args.a.0 c.args.b.0 c.min.result c.max.result c.if-a-b.false c.min.ensures c.max.ensures) free;
    }

pub returns-clause-realizations : goal.returns-clause-realizations
returns-clause-realizations c =
    let table = c.args.self.now in
    let free : IsTrue (is_free table c.min.result) = of_lesser (λ n. IsTrue (is_free table n)) c.args.a.0 c.args.b.0 c.min.result c.min.ensures c.requires.first c.requires.second in
    c.settle.ensures.realizations ∙ c.in_ok-realize.ensures.realizations
    ∙ ap (λ more. table.realizations ++ more)
    (joined table.names table.realizations c.args.a.0 c.args.b.0 c.min.result c.max.result c.in_ok-fun.fun c.if-a-b.false c.min.ensures c.max.ensures
    (c.in_ok-fun.ensures.value ∙ ap (name_function c.min.result) (sym (ap arity_of c.name-3.ensures.value)))
    c.requires.arity (free_not_realized table c.min.result free))
