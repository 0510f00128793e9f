use Rattle.std.proofs.Common.{◌≡◌, ◌==◌, ◌≤◌, ◌∷◌, [], false, IsTrue, slice_get, Ok, sym, ap, ap₂, ◌∙◌, arith}
use Rattle.std.proofs.lemmas.Bool.{eq-eqb}
use Rattle.std.proofs.lemmas.Bool.Decides.{nat_tests}
use Rattle.std.proofs.lemmas.List.Elements.{All-cons, All-nil}
use Rattle.type_core.specs.declared.ty.NameId.{NameId}
use Rattle.elab_env.specs.Names.{arity_of}
use Rattle.elab_env.specs.Table.{is_free}
use Rattle.elab_rules.specs.Replacing.{flexible}
use Rattle.elab_rules.specs.Sharing.{same_function}
use Rattle.elab_rules.specs.Views.{body_at, number_of, state_of}
use Rattle.elab_realizing.proofs.NamesShared.{arities_differ, both_joined, first_rigid, same_shared, second_rigid}
use Rattle.elab_realizing.proofs.JoinedFunctions.{functions_joined}
use Rattle.elab_realizing.proofs.SameFunctions.{one_by_test}
use Rattle.elab_realizing.proofs.sharing.share_functions.Goals as goal

pub returns-then-is_same_function-clause-outcome : goal.returns-then-is_same_function-clause-outcome
returns-then-is_same_function-clause-outcome c = λ site entries same over.
    same_shared _ _ c.args.token site (body_at c.args.progress.now entries) (state_of c.args.progress.now)
    (sym (ap₂ same_function c.in_ok-f.ensures.value c.in_ok-g.ensures.value) ∙ sym c.is_same_function.ensures.value ∙ c.if-is_same_function.true)

pub returns-in_default-clause-outcome : goal.returns-in_default-clause-outcome
returns-in_default-clause-outcome c = λ site entries same over.
    let s = state_of c.args.progress.now in
    first_rigid _ _ c.args.token site (body_at c.args.progress.now entries) s
    (sym (ap₂ same_function c.in_ok-f.ensures.value c.in_ok-g.ensures.value) ∙ sym c.is_same_function.ensures.value ∙ c.if-is_same_function.false)
    (sym (ap number_of c.in_default.is) ∙ c.flexible_name.ensures.value ∙ ap₂ (λ b f. flexible b s f) (sym same) c.in_ok-f.ensures.value)

pub returns-in_default-flexible_name-clause-outcome : goal.returns-in_default-flexible_name-clause-outcome
returns-in_default-flexible_name-clause-outcome c = λ site entries same over.
    let s = state_of c.args.progress.now in
    second_rigid _ _ c.args.token site (body_at c.args.progress.now entries) s
    (sym (ap₂ same_function c.in_ok-f.ensures.value c.in_ok-g.ensures.value) ∙ sym c.is_same_function.ensures.value ∙ c.if-is_same_function.false)
    c.in-Some.n.0 (c.in-Some.ensures.value ∙ ap₂ (λ b f. flexible b s f) (sym same) c.in_ok-f.ensures.value)
    (sym (ap number_of c.in_default-flexible_name.is) ∙ c.flexible_name-2.ensures.value ∙ ap₂ (λ b f. flexible b s f) (sym same) c.in_ok-g.ensures.value)

pub returns-then-arity-clause-outcome : goal.returns-then-arity-clause-outcome
returns-then-arity-clause-outcome c = λ site entries same over.
    let s = state_of c.args.progress.now in
    let differ : (c.arity.result == c.arity-2.result) ≡ false = grind (arith, nat_tests) in
    arities_differ _ _ c.args.token site (body_at c.args.progress.now entries) s
    (sym (ap₂ same_function c.in_ok-f.ensures.value c.in_ok-g.ensures.value) ∙ sym c.is_same_function.ensures.value ∙ c.if-is_same_function.false)
    c.in-Some.n.0 (c.in-Some.ensures.value ∙ ap₂ (λ b f. flexible b s f) (sym same) c.in_ok-f.ensures.value)
    c.in-Some-flexible_name.m.0 (c.in-Some-flexible_name.ensures.value ∙ ap₂ (λ b f. flexible b s f) (sym same) c.in_ok-g.ensures.value)
    (ap₂ (λ a b. a == b) (sym c.arity.ensures.value) (sym c.arity-2.ensures.value) ∙ differ)

pub join-requires-clause-free : goal.join-requires-clause-free
join-requires-clause-free c =
    let IsFree = λ (k : NameId). IsTrue (is_free c.args.progress.now.table k.0) in
    All-cons IsFree c.in-Some.n (c.in-Some-flexible_name.m ∷ []) c.in-Some.ensures.free.0 (All-cons IsFree c.in-Some-flexible_name.m [] c.in-Some-flexible_name.ensures.free.0 (All-nil IsFree))

pub join-requires-clause-arity : goal.join-requires-clause-arity
join-requires-clause-arity c =
    let names = c.args.progress.now.table.names in
    let same : c.arity-2.result ≡ c.arity.result = omega arith in
    let IsAlike = λ (k : NameId). arity_of (slice_get names k.0) ≡ arity_of (slice_get names c.in-Some.n.0) in
    All-cons IsAlike c.in-Some-flexible_name.m [] (sym c.arity-2.ensures.value ∙ same ∙ c.arity.ensures.value) (All-nil IsAlike)

pub returns-clause-outcome : goal.returns-clause-outcome
returns-clause-outcome c = λ site entries same over.
    let s = state_of c.args.progress.now in
    let alike : c.arity.result ≡ c.arity-2.result = omega arith in
    both_joined _ _ c.args.token site (body_at c.args.progress.now entries) s
    (sym (ap₂ same_function c.in_ok-f.ensures.value c.in_ok-g.ensures.value) ∙ sym c.is_same_function.ensures.value ∙ c.if-is_same_function.false)
    c.in-Some.n.0 (c.in-Some.ensures.value ∙ ap₂ (λ b f. flexible b s f) (sym same) c.in_ok-f.ensures.value)
    c.in-Some-flexible_name.m.0 (c.in-Some-flexible_name.ensures.value ∙ ap₂ (λ b f. flexible b s f) (sym same) c.in_ok-g.ensures.value)
    (eq-eqb _ _ (sym c.arity.ensures.value ∙ alike ∙ c.arity-2.ensures.value))
    ∙ ap Ok (sym (c.in_ok-join.ensures.joined entries over))

pub returns-clause-grew : goal.returns-clause-grew
returns-clause-grew c =
    let IsLater = λ (k : NameId). c.args.base ≤ k.0 in
    c.in_ok-join.ensures.grew c.args.base (All-cons IsLater c.in-Some.n (c.in-Some-flexible_name.m ∷ []) c.in-Some.ensures.free.1 (All-cons IsLater c.in-Some-flexible_name.m [] c.in-Some-flexible_name.ensures.free.1 (All-nil IsLater)))

pub returns-then-is_same_function-clause-same : goal.returns-then-is_same_function-clause-same
returns-then-is_same_function-clause-same c =
    sym c.in_ok-f.ensures.value ∙ one_by_test _ _ (sym c.is_same_function.ensures.value ∙ c.if-is_same_function.true) ∙ c.in_ok-g.ensures.value

pub returns-clause-same : goal.returns-clause-same
returns-clause-same c =
    let p = c.args.progress.now in
    let alike : c.arity.result ≡ c.arity-2.result = omega arith in
    functions_joined c.args.base c.in-Some.n.0 c.in-Some-flexible_name.m.0 p.table _ (state_of p) c.args.f.now c.args.g.now _ _ c.in_ok-f.ensures.value c.in_ok-g.ensures.value
    c.in-Some.ensures.value c.in-Some-flexible_name.ensures.value c.in-Some.ensures.free.0 c.in-Some-flexible_name.ensures.free.0
    (sym c.arity.ensures.value ∙ alike ∙ c.arity-2.ensures.value) c.in_ok-f.ensures.settled.over c.in_ok-g.ensures.settled.over c.in_ok-join.ensures.turns
