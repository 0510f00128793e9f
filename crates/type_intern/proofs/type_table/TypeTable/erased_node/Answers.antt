use Rattle.std.proofs.Common.{List, map, sym, ap, ◌∙◌, subst}
use Rattle.std.proofs.lemmas.Option.{slice_get_within}
use Rattle.type_intern.specs.declared.node.TyId.{TyId}
use Rattle.type_intern.specs.declared.node.FieldId.{FieldId}
use Rattle.type_intern.specs.declared.node.Node.{Node}
use Rattle.type_intern.specs.Erasure.{erase}
use Rattle.type_intern.specs.Tops.{tree_of, type_at}
use Rattle.type_intern.specs.TypeTables.{AreFieldsStored, AreStored, erased_at, erased_field_at}
use Rattle.type_intern.proofs.Storing.{fields_below, read_at, stored_below}
use Rattle.type_intern.proofs.Erasing.{erase_arrow, erase_con, erase_rec, erase_tup, erase_var}
use Rattle.type_intern.proofs.type_table.TypeTable.erased_node.Goals as goal

pub returns-in-Var-clause-value : goal.returns-in-Var-clause-value
returns-in-Var-clause-value c = erase_var c.in-Var.v ∙ ap (λ (n : Node). erase (tree_of c.args.self.now n))
    (sym c.in-Var.is)

pub returns-in_ok-erased_all-in-Con-clause-value : goal.returns-in_ok-erased_all-in-Con-clause-value
returns-in_ok-erased_all-in-Con-clause-value c =
    let stored : AreStored c.args.self.now c.in_ok-erased_all-in-Con.field-0
    (map (erased_at c.args.self.now) c.in-Con.ids) = subst (λ (ids : List TyId). AreStored c.args.self.now
    c.in_ok-erased_all-in-Con.field-0 (map (erased_at c.args.self.now)
    ids)) c.as_slice.ensures.value c.in_ok-erased_all-in-Con.ensures.value in
    erase_con c.args.self.now c.in-Con.name c.in_ok-erased_all-in-Con.field-0 c.in-Con.ids stored ∙ ap
    (λ (n : Node). erase (tree_of c.args.self.now n)) (sym c.in-Con.is)

pub returns-in_ok-erased_all-in-Con-clause-parts : goal.returns-in_ok-erased_all-in-Con-clause-parts
returns-in_ok-erased_all-in-Con-clause-parts c = stored_below c.args.self.now c.in_ok-erased_all-in-Con.field-0 _
    c.in_ok-erased_all-in-Con.ensures.value

pub returns-in_ok-erased_fields-in-Rec-clause-value : goal.returns-in_ok-erased_fields-in-Rec-clause-value
returns-in_ok-erased_fields-in-Rec-clause-value c =
    let stored : AreFieldsStored c.args.self.now c.in_ok-erased_fields-in-Rec.field-0
    (map (erased_field_at c.args.self.now) c.in-Rec.fields) = subst
    (λ (fs : List FieldId). AreFieldsStored c.args.self.now c.in_ok-erased_fields-in-Rec.field-0
    (map (erased_field_at c.args.self.now)
    fs)) c.as_slice-in-Rec.ensures.value c.in_ok-erased_fields-in-Rec.ensures.value in
    erase_rec c.args.self.now c.in_ok-erased_fields-in-Rec.field-0 c.in-Rec.fields stored ∙ ap
    (λ (n : Node). erase (tree_of c.args.self.now n)) (sym c.in-Rec.is)

pub returns-in_ok-erased_fields-in-Rec-clause-parts : goal.returns-in_ok-erased_fields-in-Rec-clause-parts
returns-in_ok-erased_fields-in-Rec-clause-parts c = fields_below c.args.self.now c.in_ok-erased_fields-in-Rec.field-0 _
    c.in_ok-erased_fields-in-Rec.ensures.value

pub returns-in_ok-erased_all-in-Tup-clause-value : goal.returns-in_ok-erased_all-in-Tup-clause-value
returns-in_ok-erased_all-in-Tup-clause-value c =
    let stored : AreStored c.args.self.now c.in_ok-erased_all-in-Tup.field-0
    (map (erased_at c.args.self.now) c.in-Tup.ids) = subst (λ (ids : List TyId). AreStored c.args.self.now
    c.in_ok-erased_all-in-Tup.field-0 (map (erased_at c.args.self.now)
    ids)) c.as_slice-in-Tup.ensures.value c.in_ok-erased_all-in-Tup.ensures.value in
    erase_tup c.args.self.now c.in_ok-erased_all-in-Tup.field-0 c.in-Tup.ids stored ∙ ap
    (λ (n : Node). erase (tree_of c.args.self.now n)) (sym c.in-Tup.is)

pub returns-in_ok-erased_all-in-Tup-clause-parts : goal.returns-in_ok-erased_all-in-Tup-clause-parts
returns-in_ok-erased_all-in-Tup-clause-parts c = stored_below c.args.self.now c.in_ok-erased_all-in-Tup.field-0 _
    c.in_ok-erased_all-in-Tup.ensures.value

pub returns-in-Arrow-clause-value : goal.returns-in-Arrow-clause-value
returns-in-Arrow-clause-value c =
    erase_arrow (type_at c.args.self.now c.in-Arrow.from) (type_at c.args.self.now c.in-Arrow.to)
    (type_at c.args.self.now c.erased.result) (type_at c.args.self.now c.erased-in-Arrow.result)
    (read_at c.args.self.now c.erased.result _ c.erased.ensures.value)
    (read_at c.args.self.now c.erased-in-Arrow.result _ c.erased-in-Arrow.ensures.value)
    ∙ ap (λ (n : Node). erase (tree_of c.args.self.now n)) (sym c.in-Arrow.is)

pub returns-in-Arrow-clause-parts : goal.returns-in-Arrow-clause-parts
returns-in-Arrow-clause-parts c = (
  slice_get_within _ _ _ c.erased.ensures.value,
  (slice_get_within _ _ _ c.erased-in-Arrow.ensures.value, tt),
)
