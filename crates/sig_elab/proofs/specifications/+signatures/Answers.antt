use Rattle.std.proofs.Common.{◌≡◌, true, false, [], length, take, Ok, refl, sym, ap, ◌∙◌, subst, arith, rules}
use Rattle.std.proofs.lemmas.Result.{IfOk-weaker, on_ok_weaker}
use Rattle.sig_parser.specs.declared.tree.SigBase.TheViews as views
use Rattle.type_core.specs.Types.{IsOver}
use Rattle.elab_rules.specs.declared.site.Site.{Site}
use Rattle.elab_rules.specs.Bodies.{site_from, site_within}
use Rattle.elab_rules.specs.Distinct.{AreDistinct}
use Rattle.elab_rules.specs.Environments.{is_new_structure}
use Rattle.elab_types.specs.Sources.{text_at}
use Rattle.elab_rules.specs.Sharing.{shared, types_shared}
use Rattle.elab_rules.specs.Specifications.{are_new, binding_of, included, signature_of, specified, structure_described}
use Rattle.elab_rules.specs.Standing.{AreOver, Grew, StandsFrom}
use Rattle.elab_rules.specs.States.{within}
use Rattle.elab_rules.specs.Views.{body_at, site_at, site_of, state_of}
use Rattle.elab_types.specs.Views.{texts}
use Rattle.elab_rules.proofs.Entries.{all_types_appended}
use Rattle.elab_rules.proofs.Levels.{and_parts_applied, expression_is, expression_parts, name_elaborated}
use Rattle.elab_phrases.proofs.Sites.{site_stays}
use Rattle.sig_elab.proofs.SitesWithin.{begins_taken, begins_whole, begins_within, grew_at, inner_site, own_was, stands_around, stands_empty, stands_same, stands_without, stood_at, then_if_ok, within_by_now}
use Rattle.sig_elab.proofs.SpecLevels.{body_begun, datatypes_specified, eqtypes_specified, exceptions_specified, inclusions_specified, replica_specified, sharing_done, sharing_fails, sharing_specified, sharing_types_specified, spec_same, structures_specified, types_specified, values_specified}
use Rattle.sig_elab.proofs.SpecSteps.{all_new, and_added, and_included, appended_by_now, elaborated_same, ends_by, fails_same, included_added, included_refused, inner_described, structure_added, structure_goes_on, structure_new, structure_refused}
use Rattle.elab_phrases.proofs.Stands.{stands_later, stands_with}
use Rattle.elab_phrases.proofs.Staying.{grew_from, grew_itself, grew_twice, mentions_grew}
use Rattle.sig_elab.proofs.StructureTurns.{begins_itself, begins_more, grew_on, names_grew, none_grew, structure_now, turns_over}
use Rattle.elab_phrases.proofs.Turns.{body_same, ends, turn_ends, turn_goes_on, turn_moves_on}
use Rattle.sig_elab.proofs.specifications.+signatures.Goals as goal

-- ---- specifications in turn
pub describe_all-loop-spec-init : goal.describe_all-loop-spec-init
describe_all-loop-spec-init t c = record { turns = refl; stands = c.requires.stands; grew = grew_itself c.args.site.now.base _ }

pub describe_all-returns-in_err-body-clause-outcome : goal.describe_all-returns-in_err-body-clause-outcome
describe_all-returns-in_err-body-clause-outcome t c = turn_ends _ _ _ _ _ _ _ _ _ _ _ _ c.loop-spec-test.true c.spec-item.is c.loop-spec.invariant.turns c.from_residual.ensures.1 c.in_err-body.ensures.outcome

pub describe_all-loop-spec-preserved : goal.describe_all-loop-spec-preserved
describe_all-loop-spec-preserved t c = record {
  turns =
      turn_moves_on _ _ _ _ _ _ _ _ _ _ _ _ (site_stays c.args.site.now.base _ _ c.args.site.now _ c.is_sound.ensures.sound c.in_ok-body.ensures.grew c.loop-spec.invariant.stands)
      c.loop-spec-test.true c.spec-item.is c.loop-spec.invariant.turns c.in_ok-body.ensures.outcome;
  stands = c.in_ok-body.ensures.stands;
  grew = grew_twice c.args.site.now.base _ _ _ c.loop-spec.invariant.grew c.in_ok-body.ensures.grew;
}

-- ---- inclusions in turn
pub include_all-loop-signature-init : goal.include_all-loop-signature-init
include_all-loop-signature-init t c = record {
  turns = turns_over signature_of included c.args.signatures.now (site_at c.args.progress.now c.args.site.now) (body_at c.args.progress.now c.args.own.entries.items) (state_of c.args.progress.now);
  stands = c.requires.stands;
  grew = grew_itself c.args.site.now.base _;
}

pub include_all-returns-in_err-body-clause-outcome : goal.include_all-returns-in_err-body-clause-outcome
include_all-returns-in_err-body-clause-outcome t c = turn_ends _ _ _ _ _ _ _ _ _ _ _ _ c.loop-signature-test.true c.signature-item.is c.loop-signature.invariant.turns c.from_residual.ensures.1 c.in_err-body.ensures.outcome

pub include_all-loop-signature-preserved : goal.include_all-loop-signature-preserved
include_all-loop-signature-preserved t c = record {
  turns =
      turn_moves_on _ _ _ _ _ _ _ _ _ _ _ _ (site_stays c.args.site.now.base _ _ c.args.site.now _ c.is_sound.ensures.sound c.in_ok-body.ensures.grew c.loop-signature.invariant.stands)
      c.loop-signature-test.true c.signature-item.is c.loop-signature.invariant.turns c.in_ok-body.ensures.outcome;
  stands = c.in_ok-body.ensures.stands;
  grew = grew_twice c.args.site.now.base _ _ _ c.loop-signature.invariant.grew c.in_ok-body.ensures.grew;
}

-- ---- structures in turn
pub describe_structures-loop-bind-init : goal.describe_structures-loop-bind-init
describe_structures-loop-bind-init t c =
    let p = c.args.progress.now in
    let env = body_at p c.args.own.entries.items in
    record {
      turns = turns_over binding_of (structure_described env) c.args.binds.now (site_at p c.args.site.now) env (state_of p);
      stands = c.requires.stands;
      grew = none_grew p;
      begins = begins_itself c.args.own.entries.items;
    }

pub describe_structures-returns-in_err-body-clause-outcome : goal.describe_structures-returns-in_err-body-clause-outcome
describe_structures-returns-in_err-body-clause-outcome t c =
    turn_ends (λ bind. structure_described (body_at c.args.progress.now c.args.own.entries.items) (binding_of bind)) _ _ _ _ _ _ _ _ _ _ _ c.loop-bind-test.true c.bind-item.is c.loop-bind.invariant.turns c.from_residual.ensures.1
    (fails_same _ _ _ _ (structure_now (binding_of c.bind-item.result) c.args.progress.now c.loop-bind.progress c.args.site.now c.args.own.entries.items c.loop-bind.body.entries.items _ (state_of c.loop-bind.progress) c.is_sound.ensures.sound c.requires.stands c.loop-bind.invariant.grew (let e : c.len-before.result ≡ length c.args.own.entries.items = omega (arith, c.len-before.ensures, c.args.own.entries.ok.0) in e) c.loop-bind.invariant.begins) c.in_err-body.ensures.outcome)

pub describe_structures-loop-bind-preserved : goal.describe_structures-loop-bind-preserved
describe_structures-loop-bind-preserved t c = record {
  turns =
      turn_goes_on (λ bind. structure_described (body_at c.args.progress.now c.args.own.entries.items) (binding_of bind)) _ _ _ _ _ _ _ _ _ _ c.loop-bind-test.true c.bind-item.is c.loop-bind.invariant.turns
      (structure_now (binding_of c.bind-item.result) c.args.progress.now c.loop-bind.progress c.args.site.now c.args.own.entries.items c.loop-bind.body.entries.items _ (state_of c.loop-bind.progress) c.is_sound.ensures.sound c.requires.stands c.loop-bind.invariant.grew (let e : c.len-before.result ≡ length c.args.own.entries.items = omega (arith, c.len-before.ensures, c.args.own.entries.ok.0) in e) c.loop-bind.invariant.begins ∙ c.in_ok-body.ensures.outcome);
  stands = c.in_ok-body.ensures.stands;
  grew = grew_on (length c.args.progress.now.table.names) _ _ _ (names_grew _ _ _ c.loop-bind.invariant.grew) c.loop-bind.invariant.grew c.in_ok-body.ensures.grew;
  begins = begins_more _ _ _ c.loop-bind.invariant.begins c.in_ok-body.ensures.grown;
}

pub describe_structures-returns-clause-grew : goal.describe_structures-returns-clause-grew
describe_structures-returns-clause-grew t c = grew_from c.args.site.now.base (length c.args.progress.now.table.names) _ _ c.requires.stands.begun c.loop-bind.invariant.grew

-- ---- what stands in a body
pub elaborate_within-invariant_of-inner : goal.elaborate_within-invariant_of-inner
elaborate_within-invariant_of-inner t c = record { declared = c.args.site.now.declared; is_initial = c.args.site.now.is_initial }

pub elaborate_within-elaborate-requires : goal.elaborate_within-elaborate-requires
elaborate_within-elaborate-requires t c =
    let p = c.args.progress.now in
    let site = c.args.site.now in
    let inner : Site = record { source = c.args.site.now.source; path = c.args.path; around = c.as_slice.result; base = c.args.site.now.base; tops = c.args.site.now.tops; binds = c.args.site.now.binds; declaring = c.args.site.now.declaring; initial = c.args.site.now.initial; declared = c.args.site.now.declared; is_initial = c.args.site.now.is_initial } in
    let h = begins_within p site inner c.args.path.now c.args.own.entries.now refl (inner_site site inner c.args.own c.args.path.now _ refl refl c.as_slice.ensures.value c.in_ok-around.ensures.value refl refl refl) c.requires.begins in (
      search (rules, views.the_lemmas),
      stands_around (length p.table.names) p inner _ refl [] [] h.sees.around h.around h.sees.body h,
    )

pub elaborate_within-returns-clause-outcome : goal.elaborate_within-returns-clause-outcome
elaborate_within-returns-clause-outcome t c =
    let p = c.args.progress.now in
    let site = c.args.site.now in
    let inner : Site = record { source = c.args.site.now.source; path = c.args.path; around = c.as_slice.result; base = c.args.site.now.base; tops = c.args.site.now.tops; binds = c.args.site.now.binds; declaring = c.args.site.now.declaring; initial = c.args.site.now.initial; declared = c.args.site.now.declared; is_initial = c.args.site.now.is_initial } in
    body_same _ _ _ _
    (ap (λ at. (signature_of c.args.signature.now).elaborated at (state_of p))
    (sym (within_by_now p site inner c.args.path.now c.args.own.entries.now (inner_site site inner c.args.own c.args.path.now _ refl refl c.as_slice.ensures.value c.in_ok-around.ensures.value refl refl refl))))
    c.elaborate.ensures.outcome

pub elaborate_within-returns-clause-stands : goal.elaborate_within-returns-clause-stands
elaborate_within-returns-clause-stands t c =
    let base = length c.args.progress.now.table.names in
    let q = c.elaborate.new.progress in
    let site = c.args.site.now in
    let inner : Site = record { source = c.args.site.now.source; path = c.args.path; around = c.as_slice.result; base = c.args.site.now.base; tops = c.args.site.now.tops; binds = c.args.site.now.binds; declaring = c.args.site.now.declaring; initial = c.args.site.now.initial; declared = c.args.site.now.declared; is_initial = c.args.site.now.is_initial } in
    then_if_ok c.elaborate.result c.elaborate.ensures.stands
    (λ body h. stands_without base q site inner c.args.path.now c.args.own.entries.now body.entries.items refl
    (inner_site site inner c.args.own c.args.path.now _ refl refl c.as_slice.ensures.value c.in_ok-around.ensures.value refl refl refl)
    (stands_around base q _ inner refl body.entries.items body.entries.items h.sees.around h.around h.sees.body h))

-- ---- a structure
pub describe_structure-returns-then-not-is_new_structure-clause-outcome : goal.describe_structure-returns-then-not-is_new_structure-clause-outcome
describe_structure-returns-then-not-is_new_structure-clause-outcome t c =
    let id = text_at (texts c.args.site.now.source) c.args.bind.now.id in
    let known : is_new_structure id c.args.own.entries.items ≡ false = cc in
    structure_refused _ c.args.bind.now _ _ _ id refl (structure_new c.args.progress.now id c.args.own.entries.items false known)

pub describe_structure-elaborate_within-requires : goal.describe_structure-elaborate_within-requires
describe_structure-elaborate_within-requires t c = (search (rules, views.the_lemmas), begins_taken _ c.args.site.now c.args.own.entries.items _ _ c.scope_before-seen.ensures.value c.is_sound.ensures.sound c.requires.stands)

pub describe_structure-returns-in_err-inner-clause-outcome : goal.describe_structure-returns-in_err-inner-clause-outcome
describe_structure-returns-in_err-inner-clause-outcome t c =
    let p = c.args.progress.now in
    let site = site_at p c.args.site.now in
    let id = text_at (texts c.args.site.now.source) c.args.bind.now.id in
    let before = take c.args.before c.args.own.entries.items in
    let own = body_at p c.args.own.entries.items in
    let new : is_new_structure id c.args.own.entries.items ≡ true = cc in
    ends_by (inner_described (body_at p before) c.args.bind.now site own (state_of p) id refl)
    ((signature_of c.args.bind.now.rhs).elaborated (site_within c.as_slice.result.now (body_at p c.scope_before-seen.result.entries.now) site) (state_of p))
    (and_added (body_at p before) c.args.bind.now site own (state_of p) id refl)
    (structure_described (body_at p before) (binding_of c.args.bind.now) site own (state_of p)) _ _ c.elaborate_within.new.progress
    (sym (structure_goes_on (body_at p before) c.args.bind.now site own (state_of p) id refl (structure_new p id c.args.own.entries.items true new)))
    (elaborated_same (signature_of c.args.bind.now.rhs) p site (within c.args.site.now.path.now id) c.as_slice.result.now before c.scope_before-seen.result.entries.now (state_of p)
    (c.as_slice.ensures.value ∙ c.in_ok-path.ensures.value ∙ ap (within c.args.site.now.path.now) c.text-id.ensures.value) c.scope_before-seen.ensures.value)
    c.from_residual-in_err-inner.ensures.1
    c.in_err-inner.ensures.outcome

pub describe_structure-add_structure-requires-clause-stands : goal.describe_structure-add_structure-requires-clause-stands
describe_structure-add_structure-requires-clause-stands t c =
    stands_later c.args.site.now.base _ _ (grew_from c.args.site.now.base (length c.args.progress.now.table.names) _ _ c.requires.stands.begun c.in_ok-inner.ensures.grew) c.args.site.now c.args.own.entries.items c.requires.stands

pub describe_structure-add_structure-requires-clause-new : goal.describe_structure-add_structure-requires-clause-new
describe_structure-add_structure-requires-clause-new t c =
    let new : is_new_structure (text_at (texts c.args.site.now.source) c.args.bind.now.id) c.args.own.entries.items ≡ true = cc in
    new

pub describe_structure-add_structure-requires-clause-over : goal.describe_structure-add_structure-requires-clause-over
describe_structure-add_structure-requires-clause-over t c = c.in_ok-inner.ensures.stands.sees.body

pub describe_structure-returns-clause-outcome : goal.describe_structure-returns-clause-outcome
describe_structure-returns-clause-outcome t c =
    let p = c.args.progress.now in
    let site = c.args.site.now in
    let id = text_at (texts site.source) c.args.bind.now.id in
    let new : is_new_structure id c.args.own.entries.items ≡ true = cc in
    body_same _ _ _ _
    (structure_added _ c.args.bind.now _ _ _ id refl _ _ _ _ (structure_new p id c.args.own.entries.items true new)
    (elaborated_same (signature_of c.args.bind.now.rhs) p (site_at p site) (within site.path.now id) _ _ _ _
    (c.as_slice.ensures.value ∙ c.in_ok-path.ensures.value ∙ ap (within site.path.now) c.text-id.ensures.value) c.scope_before-seen.ensures.value
    ∙ c.in_ok-inner.ensures.outcome)
    (site_stays site.base p _ site c.args.own.entries.items c.is_sound.ensures.sound (grew_from site.base (length p.table.names) p _ c.requires.stands.begun c.in_ok-inner.ensures.grew) c.requires.stands)
    (own_was site.base p _ site c.args.own.entries.items c.is_sound.ensures.sound c.requires.stands c.in_ok-inner.ensures.grew))
    c.add_structure.ensures.outcome

pub describe_structure-returns-clause-grew : goal.describe_structure-returns-clause-grew
describe_structure-returns-clause-grew t c =
    on_ok_weaker c.add_structure.result
    (λ m. grew_twice (length c.args.progress.now.table.names) _ _ _ c.in_ok-inner.ensures.grew (mentions_grew (length c.args.progress.now.table.names) _ _ m))
    c.add_structure.ensures.mentions

pub describe_structure-returns-clause-grown : goal.describe_structure-returns-clause-grown
describe_structure-returns-clause-grown t c = IfOk-weaker c.add_structure.result _ _ (λ body pushed. (_, pushed)) c.add_structure.ensures.pushed

-- ---- an inclusion
pub include_one-elaborate_within-requires : goal.include_one-elaborate_within-requires
include_one-elaborate_within-requires t c = (search (rules, views.the_lemmas), begins_whole _ c.args.site.now c.args.own.entries.items _ c.scope.ensures.value c.is_sound.ensures.sound c.requires.stands)

pub include_one-returns-in_err-inner-clause-outcome : goal.include_one-returns-in_err-inner-clause-outcome
include_one-returns-in_err-inner-clause-outcome t c =
    let p = c.args.progress.now in
    let site = site_at p c.args.site.now in
    let own = body_at p c.args.own.entries.items in
    let e = c.args.signature.now in
    ends_by ((signature_of e).elaborated (site_within site.path own site) (state_of p)) ((signature_of e).elaborated (site_within site.path (body_at p c.scope.result.entries.now) site) (state_of p))
    (and_included e site own (state_of p)) (included (signature_of e) site own (state_of p)) _ _ c.elaborate_within.new.progress refl
    (elaborated_same (signature_of e) p site site.path site.path c.args.own.entries.items c.scope.result.entries.now (state_of p) refl c.scope.ensures.value)
    c.from_residual.ensures.1 c.in_err-inner.ensures.outcome

pub include_one-returns-then-not-are_new-clause-outcome : goal.include_one-returns-then-not-are_new-clause-outcome
include_one-returns-then-not-are_new-clause-outcome t c =
    let p = c.args.progress.now in
    let q = c.elaborate_within.new.progress in
    let site = site_at p c.args.site.now in
    let known : are_new c.in_ok-inner.inner.entries.items c.args.own.entries.items ≡ false = cc in
    included_refused c.args.signature.now site (body_at p c.args.own.entries.items) (state_of p) (body_at q c.in_ok-inner.inner.entries.items) (state_of q)
    (elaborated_same (signature_of c.args.signature.now) p site site.path site.path c.args.own.entries.items c.scope.result.entries.now (state_of p) refl c.scope.ensures.value ∙ c.in_ok-inner.ensures.outcome)
    (all_new p q c.in_ok-inner.inner.entries.items c.args.own.entries.items false
    (own_was c.args.site.now.base p q c.args.site.now c.args.own.entries.items c.is_sound.ensures.sound c.requires.stands c.in_ok-inner.ensures.grew) known)

pub include_one-with_all-requires : goal.include_one-with_all-requires
include_one-with_all-requires t c =
    let new : are_new c.in_ok-inner.inner.entries.items c.args.own.entries.items ≡ true = cc in
    record { new = new }

pub include_one-returns-clause-outcome : goal.include_one-returns-clause-outcome
include_one-returns-clause-outcome t c =
    let p = c.args.progress.now in
    let q = c.elaborate_within.new.progress in
    let site = site_at p c.args.site.now in
    let new : are_new c.in_ok-inner.inner.entries.items c.args.own.entries.items ≡ true = cc in
    let was = own_was c.args.site.now.base p q c.args.site.now c.args.own.entries.items c.is_sound.ensures.sound c.requires.stands c.in_ok-inner.ensures.grew in
    included_added c.args.signature.now site (body_at p c.args.own.entries.items) (state_of p) (body_at q c.in_ok-inner.inner.entries.items) (state_of q)
    (elaborated_same (signature_of c.args.signature.now) p site site.path site.path c.args.own.entries.items c.scope.result.entries.now (state_of p) refl c.scope.ensures.value ∙ c.in_ok-inner.ensures.outcome)
    (all_new p q c.in_ok-inner.inner.entries.items c.args.own.entries.items true was new)
    ∙ ap (λ env. Ok (env, state_of q)) (appended_by_now p q c.args.own.entries.items c.in_ok-inner.inner.entries.items _ was c.in_ok-with_all.ensures.pushed)

pub include_one-returns-clause-stands : goal.include_one-returns-clause-stands
include_one-returns-clause-stands t c =
    let p = c.args.progress.now in
    let base = c.args.site.now.base in
    let later = stands_later base p _ (grew_from base (length p.table.names) p _ c.requires.stands.begun c.in_ok-inner.ensures.grew) c.args.site.now c.args.own.entries.items c.requires.stands in
    stands_with base _ c.args.site.now c.args.own.entries.items _ later
    (subst (AreOver _) (sym c.in_ok-with_all.ensures.pushed) (all_types_appended (IsOver _) c.args.own.entries.items c.in_ok-inner.inner.entries.items later.sees.body c.in_ok-inner.ensures.stands.sees.body))

pub include_one-returns-clause-grew : goal.include_one-returns-clause-grew
include_one-returns-clause-grew t c = grew_from c.args.site.now.base (length c.args.progress.now.table.names) _ _ c.requires.stands.begun c.in_ok-inner.ensures.grew

-- ---- what stands before `where`
pub elaborate_base-describe_all-requires : goal.elaborate_base-describe_all-requires
elaborate_base-describe_all-requires t c = (search (rules, views.the_lemmas), stands_empty _ c.args.site.now _ _ _ c.len.ensures.value c.site_from-inner.ensures.value c.site_from-inner.ensures.tops c.new.ensures.empty c.requires.begins)

pub elaborate_base-returns-in-Body-clause-outcome : goal.elaborate_base-returns-in-Body-clause-outcome
elaborate_base-returns-in-Body-clause-outcome t c =
    let p = c.args.progress.now in
    body_same _ _ _ _
    (body_begun p c.args.site.now c.site_from-inner.result c.args.base.now _ _ _ _ c.len.ensures.value c.site_from-inner.ensures.value c.in-Body.is c.as_slice.ensures.value c.new.ensures.empty)
    c.describe_all.ensures.outcome

pub elaborate_base-returns-in-Body-clause-stands : goal.elaborate_base-returns-in-Body-clause-stands
elaborate_base-returns-in-Body-clause-stands t c =
    IfOk-weaker c.describe_all.result _ _
    (λ body. stood_at (length c.args.progress.now.table.names) _ c.args.site.now c.site_from-inner.result body.entries.items c.site_from-inner.ensures.tops (c.site_from-inner.ensures.value ∙ ap (λ n. site_from n (site_of c.args.site.now)) c.len.ensures.value))
    c.describe_all.ensures.stands

pub elaborate_base-returns-in-Body-clause-grew : goal.elaborate_base-returns-in-Body-clause-grew
elaborate_base-returns-in-Body-clause-grew t c =
    on_ok_weaker c.describe_all.result
    (grew_at (length c.args.progress.now.table.names) _ _ c.args.site.now c.site_from-inner.result (c.site_from-inner.ensures.value ∙ ap (λ n. site_from n (site_of c.args.site.now)) c.len.ensures.value))
    c.describe_all.ensures.grew

pub elaborate_base-returns-in-Name-clause-outcome : goal.elaborate_base-returns-in-Name-clause-outcome
elaborate_base-returns-in-Name-clause-outcome t c = body_same _ _ _ _ (name_elaborated c.args.base.now c.in-Name.token _ _ c.in-Name.is) c.named_signature.ensures.outcome

pub elaborate_base-returns-in-Name-clause-grew : goal.elaborate_base-returns-in-Name-clause-grew
elaborate_base-returns-in-Name-clause-grew t c = on_ok_weaker c.named_signature.result (mentions_grew (length c.args.progress.now.table.names) _ _) c.named_signature.ensures.mentions

-- ---- an expression
pub elaborate-returns-in_err-body-clause-outcome : goal.elaborate-returns-in_err-body-clause-outcome
elaborate-returns-in_err-body-clause-outcome t c =
    let p = c.args.progress.now in
    ends _ (and_parts_applied c.args.signature.now (site_at p c.args.site.now) (state_of p)) _ _ _ _ (sym (expression_is c.args.signature.now (site_at p c.args.site.now) (state_of p))) c.from_residual.ensures.1 c.in_err-body.ensures.outcome

pub elaborate-apply_parts-requires : goal.elaborate-apply_parts-requires
elaborate-apply_parts-requires t c = record { stands = subst (λ n. StandsFrom n c.elaborate_base.new.progress c.args.site.now c.in_ok-body.body.entries.items) (sym c.len-base.ensures.value) c.in_ok-body.ensures.stands }

pub elaborate-returns-clause-outcome : goal.elaborate-returns-clause-outcome
elaborate-returns-clause-outcome t c =
    let p = c.args.progress.now in
    body_same _ _ _ _
    (expression_parts c.args.signature.now (site_at p c.args.site.now) _ (state_of p) _ _ _ _ c.in_ok-body.ensures.outcome
    (site_stays (length p.table.names) p _ c.args.site.now [] c.is_sound.ensures.sound c.in_ok-body.ensures.grew c.requires.begins) c.as_slice.ensures.value c.len-base.ensures.value)
    c.apply_parts.ensures.outcome

pub elaborate-returns-clause-stands : goal.elaborate-returns-clause-stands
elaborate-returns-clause-stands t c = IfOk-weaker c.apply_parts.result _ _ (λ body. subst (λ n. StandsFrom n c.apply_parts.new.progress c.args.site.now body.entries.items) c.len-base.ensures.value) c.apply_parts.ensures.stands

pub elaborate-returns-clause-grew : goal.elaborate-returns-clause-grew
elaborate-returns-clause-grew t c =
    on_ok_weaker c.apply_parts.result (λ g. grew_twice (length c.args.progress.now.table.names) c.args.progress.now c.elaborate_base.new.progress c.apply_parts.new.progress c.in_ok-body.ensures.grew (subst (λ n. Grew n c.elaborate_base.new.progress c.apply_parts.new.progress) c.len-base.ensures.value g)) c.apply_parts.ensures.grew

-- ---- a specification
pub describe-returns-in-Val-clause-outcome : goal.describe-returns-in-Val-clause-outcome
describe-returns-in-Val-clause-outcome t c = spec_same _ _ _ _ _ _ _ (values_specified c.args.spec.now _ _ c.in-Val.is c.as_slice.ensures.value) c.describe_values.ensures.outcome

pub describe-returns-in-Val-clause-grew : goal.describe-returns-in-Val-clause-grew
describe-returns-in-Val-clause-grew t c = on_ok_weaker c.describe_values.result (mentions_grew c.args.site.now.base _ _) c.describe_values.ensures.mentions

pub describe-returns-in-Abbrev-clause-outcome : goal.describe-returns-in-Abbrev-clause-outcome
describe-returns-in-Abbrev-clause-outcome t c = spec_same _ _ _ _ _ _ _ (types_specified c.args.spec.now _ _ c.in-Abbrev.is c.as_slice-in-Abbrev.ensures.value) c.describe_types.ensures.outcome

pub describe-returns-in-Abbrev-clause-grew : goal.describe-returns-in-Abbrev-clause-grew
describe-returns-in-Abbrev-clause-grew t c = on_ok_weaker c.describe_types.result (mentions_grew c.args.site.now.base _ _) c.describe_types.ensures.mentions

pub describe-returns-in-Eqtype-clause-outcome : goal.describe-returns-in-Eqtype-clause-outcome
describe-returns-in-Eqtype-clause-outcome t c = spec_same _ _ _ _ _ _ _ (eqtypes_specified c.args.spec.now _ _ c.in-Eqtype.is c.as_slice-in-Eqtype.ensures.value) c.describe_types-in-Eqtype.ensures.outcome

pub describe-returns-in-Eqtype-clause-grew : goal.describe-returns-in-Eqtype-clause-grew
describe-returns-in-Eqtype-clause-grew t c = on_ok_weaker c.describe_types-in-Eqtype.result (mentions_grew c.args.site.now.base _ _) c.describe_types-in-Eqtype.ensures.mentions

pub describe-returns-in-Datatype-clause-outcome : goal.describe-returns-in-Datatype-clause-outcome
describe-returns-in-Datatype-clause-outcome t c = spec_same _ _ _ _ _ _ _ (datatypes_specified c.args.spec.now _ _ c.in-Datatype.is c.as_slice-in-Datatype.ensures.value) c.describe_datatypes.ensures.outcome

pub describe-returns-in-Datatype-clause-grew : goal.describe-returns-in-Datatype-clause-grew
describe-returns-in-Datatype-clause-grew t c = on_ok_weaker c.describe_datatypes.result (mentions_grew c.args.site.now.base _ _) c.describe_datatypes.ensures.mentions

pub describe-returns-in-Replica-clause-outcome : goal.describe-returns-in-Replica-clause-outcome
describe-returns-in-Replica-clause-outcome t c = spec_same _ _ _ _ _ _ _ (replica_specified c.args.spec.now _ _ c.in-Replica.is) c.describe_replica.ensures.outcome

pub describe-returns-in-Replica-clause-grew : goal.describe-returns-in-Replica-clause-grew
describe-returns-in-Replica-clause-grew t c = on_ok_weaker c.describe_replica.result (mentions_grew c.args.site.now.base _ _) c.describe_replica.ensures.mentions

pub describe-returns-in-Exception-clause-outcome : goal.describe-returns-in-Exception-clause-outcome
describe-returns-in-Exception-clause-outcome t c = spec_same _ _ _ _ _ _ _ (exceptions_specified c.args.spec.now _ _ c.in-Exception.is c.as_slice-in-Exception.ensures.value) c.describe_exceptions.ensures.outcome

pub describe-returns-in-Exception-clause-grew : goal.describe-returns-in-Exception-clause-grew
describe-returns-in-Exception-clause-grew t c = on_ok_weaker c.describe_exceptions.result (mentions_grew c.args.site.now.base _ _) c.describe_exceptions.ensures.mentions

pub describe-returns-in-Structure-clause-outcome : goal.describe-returns-in-Structure-clause-outcome
describe-returns-in-Structure-clause-outcome t c = spec_same _ _ _ _ _ _ _ (structures_specified c.args.spec.now _ _ c.in-Structure.is c.as_slice-in-Structure.ensures.value) c.describe_structures.ensures.outcome

pub describe-returns-in-Include-clause-outcome : goal.describe-returns-in-Include-clause-outcome
describe-returns-in-Include-clause-outcome t c = spec_same _ _ _ _ _ _ _ (inclusions_specified c.args.spec.now _ _ c.in-Include.is c.as_slice-in-Include.ensures.value) c.include_all.ensures.outcome

pub describe-share_types-requires : goal.describe-share_types-requires
describe-share_types-requires t c = record { stands = stands_same _ c.args.site.now _ _ (sym c.scope.ensures.value) c.requires.stands }

pub describe-returns-in_err-share_types-in-SharingType-clause-outcome : goal.describe-returns-in_err-share_types-in-SharingType-clause-outcome
describe-returns-in_err-share_types-in-SharingType-clause-outcome t c = sharing_fails (specified c.args.spec.now) (types_shared c.as_slice-in-SharingType.result.now) (site_at c.args.progress.now c.args.site.now) (state_of c.args.progress.now) c.args.progress.now c.share_types.new.progress c.args.own.entries.items c.scope.result.entries.now _ _ (sharing_types_specified c.args.spec.now _ _ c.in-SharingType.is c.as_slice-in-SharingType.ensures.value) c.scope.ensures.value c.from_residual.ensures.1 c.in_err-share_types-in-SharingType.ensures.outcome

pub describe-returns-in_ok-share_types-in-SharingType-clause-outcome : goal.describe-returns-in_ok-share_types-in-SharingType-clause-outcome
describe-returns-in_ok-share_types-in-SharingType-clause-outcome t c = sharing_done (specified c.args.spec.now) (types_shared c.as_slice-in-SharingType.result.now) (site_at c.args.progress.now c.args.site.now) (state_of c.args.progress.now) c.args.progress.now c.share_types.new.progress c.args.own.entries.items c.scope.result.entries.now (sharing_types_specified c.args.spec.now _ _ c.in-SharingType.is c.as_slice-in-SharingType.ensures.value) c.scope.ensures.value c.in_ok-share_types-in-SharingType.ensures.outcome

pub describe-returns-in_ok-share_types-in-SharingType-clause-stands : goal.describe-returns-in_ok-share_types-in-SharingType-clause-stands
describe-returns-in_ok-share_types-in-SharingType-clause-stands t c = stands_same _ c.args.site.now c.args.own.entries.items _ c.scope.ensures.value c.in_ok-share_types-in-SharingType.ensures.stands

pub describe-share_structures-requires-clause-stands : goal.describe-share_structures-requires-clause-stands
describe-share_structures-requires-clause-stands t c = stands_same _ c.args.site.now _ _ (sym c.scope-in-Sharing.ensures.value) c.requires.stands

pub describe-share_structures-requires-clause-distinct : goal.describe-share_structures-requires-clause-distinct
describe-share_structures-requires-clause-distinct t c = subst AreDistinct (sym c.scope-in-Sharing.ensures.value) c.args.own.distinct

pub describe-returns-in_err-share_structures-in-Sharing-clause-outcome : goal.describe-returns-in_err-share_structures-in-Sharing-clause-outcome
describe-returns-in_err-share_structures-in-Sharing-clause-outcome t c = sharing_fails (specified c.args.spec.now) (shared c.as_slice-in-Sharing.result.now) (site_at c.args.progress.now c.args.site.now) (state_of c.args.progress.now) c.args.progress.now c.share_structures.new.progress c.args.own.entries.items c.scope-in-Sharing.result.entries.now _ _ (sharing_specified c.args.spec.now _ _ c.in-Sharing.is c.as_slice-in-Sharing.ensures.value) c.scope-in-Sharing.ensures.value c.from_residual-in_err-share_structures-in-Sharing.ensures.1 c.in_err-share_structures-in-Sharing.ensures.outcome

pub describe-returns-in_ok-share_structures-in-Sharing-clause-outcome : goal.describe-returns-in_ok-share_structures-in-Sharing-clause-outcome
describe-returns-in_ok-share_structures-in-Sharing-clause-outcome t c = sharing_done (specified c.args.spec.now) (shared c.as_slice-in-Sharing.result.now) (site_at c.args.progress.now c.args.site.now) (state_of c.args.progress.now) c.args.progress.now c.share_structures.new.progress c.args.own.entries.items c.scope-in-Sharing.result.entries.now (sharing_specified c.args.spec.now _ _ c.in-Sharing.is c.as_slice-in-Sharing.ensures.value) c.scope-in-Sharing.ensures.value c.in_ok-share_structures-in-Sharing.ensures.outcome

pub describe-returns-in_ok-share_structures-in-Sharing-clause-stands : goal.describe-returns-in_ok-share_structures-in-Sharing-clause-stands
describe-returns-in_ok-share_structures-in-Sharing-clause-stands t c = stands_same _ c.args.site.now c.args.own.entries.items _ c.scope-in-Sharing.ensures.value c.in_ok-share_structures-in-Sharing.ensures.stands

pub describe-describe_structures-requires : goal.describe-describe_structures-requires
describe-describe_structures-requires t c = (search (rules, views.the_lemmas), c.requires.stands)

pub describe-include_all-requires : goal.describe-include_all-requires
describe-include_all-requires t c = (search (rules, views.the_lemmas), c.requires.stands)
