use Rattle.std.proofs.Common.{◌≡◌, ℕ, ◌+◌, ◌<◌, List, [], ◌∷◌, ◌++◌, length, drop, get_or, Option, Some, None, sym, ap, ◌∙◌, subst, append_assoc}
use Rattle.std.specs.List.{All}
use Rattle.std.proofs.lemmas.List.Elements.{All-append, All-cons, All-nil}
use Rattle.std.specs.Option.{option_map, option_to_list}
use Rattle.type_core.specs.declared.ty.Ty.{Ty}
use Rattle.type_core.specs.Types.{IsOver}
use Rattle.elab_env.specs.Realizations.{resolved}
use Rattle.elab_rules.specs.declared.entry.ValueEntry.{ValueEntry}
use Rattle.elab_rules.specs.Environments.{Environment, value_in, values_in}
use Rattle.elab_rules.specs.Replacing.{environment_with, value_with}
use Rattle.elab_rules.specs.Standing.{IsSettledScheme}
use Rattle.elab_rules.proofs.FoundOver.{value_in_over}
use Rattle.elab_rules.proofs.LookedUp.{value_in_with}
use Rattle.elab_types.proofs.Lists.{dropped}
use Rattle.elab_phrases.proofs.replicas.values_by_now.Goals as goal

-- the values of the identifiers from one on, of which the first is given by the environment as it was written
module _ (g : Ty → Ty) (env : Environment) (ids : List (List ℕ)) (i : ℕ) (id d : List ℕ) (within : i < length ids) (is : id ≡ get_or ids i d) where
  values_here : (o : Option ValueEntry) → value_in id env ≡ o → values_in (drop i ids) (environment_with g env) ≡ option_to_list (option_map (value_with g) o) ++ values_in (drop (i + 1) ids) (environment_with g env)
  values_here o found =
      ap (λ rest. values_in rest (environment_with g env)) (dropped ids i id d within is)
      ∙ ap (λ x. option_to_list x ++ values_in (drop (i + 1) ids) (environment_with g env)) (value_in_with g id env ∙ ap (option_map (value_with g)) found)

  none_more : (done whole : List ValueEntry) → value_in id env ≡ None → done ++ values_in (drop i ids) (environment_with g env) ≡ whole → done ++ values_in (drop (i + 1) ids) (environment_with g env) ≡ whole
  none_more done whole none so_far = ap (λ rest. done ++ rest) (sym (values_here None none)) ∙ so_far

  one_more : (done whole : List ValueEntry) (value new : ValueEntry) → value_in id env ≡ Some value → new ≡ value_with g value → done ++ values_in (drop i ids) (environment_with g env) ≡ whole
      → (done ++ new ∷ []) ++ values_in (drop (i + 1) ids) (environment_with g env) ≡ whole
  one_more done whole value new found same so_far =
      append_assoc done (new ∷ []) (values_in (drop (i + 1) ids) (environment_with g env))
      ∙ ap (λ v. done ++ v ∷ values_in (drop (i + 1) ids) (environment_with g env)) same
      ∙ ap (λ rest. done ++ rest) (sym (values_here (Some value) found))
      ∙ so_far

pub value_by_now-requires : goal.value_by_now-requires
value_by_now-requires c = record { over = value_in_over (IsOver c.args.table.now.names) _ c.in-Some.value.now c.args.env.entries.now c.requires.over (sym c.in-Some.ensures.value) }

pub loop-id-preserved-in-None : goal.loop-id-preserved-in-None
loop-id-preserved-in-None c =
    let env = c.args.env.entries.now in
    record {
      value =
          none_more (resolved c.args.table.now.realizations) env c.args.ids.now c.loop-id.id-index c.id-item.result c.id-item.result c.loop-id-test.true c.id-item.is _ _
          (ap (λ (id : List ℕ). value_in id env) (sym c.as_slice.ensures.value) ∙ sym c.in-None.ensures.value) c.loop-id.invariant.value;
      settled = c.loop-id.invariant.settled;
    }

pub loop-id-preserved : goal.loop-id-preserved
loop-id-preserved c =
    let g = resolved c.args.table.now.realizations in
    let env = c.args.env.entries.now in
    let new = c.in_ok-value_by_now-in-Some.field-0 in
    let by_now = c.in_ok-value_by_now-in-Some.ensures in
    let pushed : c.push.new.self ≡ c.loop-id.values ++ new ∷ [] = c.in_ok-push-in-Some.ensures.pushed in
    let P : ValueEntry → Type 0 = λ value. IsSettledScheme c.args.table.now value.scheme in
    record {
      value =
          ap (λ (values : List ValueEntry). values ++ values_in (drop (c.loop-id.id-index + 1) c.args.ids.now) (environment_with g env)) pushed
          ∙ one_more g env c.args.ids.now c.loop-id.id-index c.id-item.result c.id-item.result c.loop-id-test.true c.id-item.is c.loop-id.values _ c.in-Some.value.now new
          (ap (λ (id : List ℕ). value_in id env) (sym c.as_slice.ensures.value) ∙ sym c.in-Some.ensures.value) by_now.value c.loop-id.invariant.value;
      settled = subst (All P) (sym pushed) (All-append P c.loop-id.values (new ∷ []) c.loop-id.invariant.settled (All-cons P new [] by_now.settled (All-nil P)));
    }
