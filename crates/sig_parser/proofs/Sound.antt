-- What the machine reads, the grammar of files has.
use Rattle.std.proofs.Common.{◌≡◌, ℕ, Bool, true, false, List, [], ◌∷◌, ◌++◌, Option, Some, None, refl, ◌∙◌, subst}
use Rattle.std.specs.Prelude.{IsTrue, IfSome, if◌then◌else◌}
use Rattle.sig_base.specs.declared.word.Word.{Word}
use Rattle.sig_base.specs.declared.word.Word.TheVariants as w
use Rattle.ty_parser.specs.declared.sort.Sort.{Sort}
use Rattle.ty_parser.specs.declared.sort.Sort.TheVariants as s
use Rattle.ty_parser.specs.declared.tree.TyExp.{TyExp}
use Rattle.ty_parser.specs.declared.tree.TypeAt.{TypeAt}
use Rattle.ty_parser.specs.Grammar.{Numbered, Ty}
use Rattle.ty_parser.specs.Sorts.{is_vid, is_tycon, is_long_tycon, is_strid, is_long_strid}
use Rattle.ty_parser.specs.machine.Machine as types
use Rattle.ty_parser.specs.machine.Machine.{run}
use Rattle.sig_parser.specs.declared.tree.SourceFile.{SourceFile}
use Rattle.sig_parser.specs.declared.tree.TopDec.{TopDec}
use Rattle.sig_parser.specs.declared.tree.Bind.{Bind}
use Rattle.sig_parser.specs.declared.tree.SigExp.{SigExp}
use Rattle.sig_parser.specs.declared.tree.WherePart.{WherePart}
use Rattle.sig_parser.specs.declared.tree.Spec.{Spec}
use Rattle.sig_parser.specs.declared.tree.Spec.TheVariants as spec
use Rattle.sig_parser.specs.declared.tree.ValDesc.{ValDesc}
use Rattle.sig_parser.specs.declared.tree.TypeDesc.{TypeDesc}
use Rattle.sig_parser.specs.declared.tree.DataDesc.{DataDesc}
use Rattle.sig_parser.specs.declared.tree.ConDesc.{ConDesc}
use Rattle.sig_parser.specs.declared.point.Group.{Group}
use Rattle.sig_parser.specs.declared.point.Group.TheVariants as group
use Rattle.sig_parser.specs.machine.Goals.{Goal, Level, Open}
use Rattle.sig_parser.specs.machine.Goals as goal
use Rattle.sig_parser.specs.machine.Heads.{Headed}
use Rattle.sig_parser.specs.machine.Heads as headed
use Rattle.sig_parser.specs.machine.Constructors.{Cons}
use Rattle.sig_parser.specs.machine.Constructors as cons
use Rattle.sig_parser.specs.machine.Owners.{Owner}
use Rattle.sig_parser.specs.machine.Owners as owner
use Rattle.sig_parser.specs.declared.point.Shared.{Shared}
use Rattle.sig_parser.specs.declared.point.Shared.TheVariants as shared
use Rattle.sig_parser.specs.machine.Points.{Point}
use Rattle.sig_parser.specs.machine.Points as point
use Rattle.ty_parser.proofs.Runs.{if_some-and_then}
use Rattle.ty_parser.proofs.Sound as type_sound
use Rattle.sig_parser.specs.Grammar as grammar
use Rattle.sig_parser.specs.Grammar.{is_described_vid, Separated, Typed, typed, TyVar, tyvar, TyVarSeq, no_variables, variable, variables, ConstructorDescription, DatatypeDescription, TypeRealization, part, Realizations, SomeRealizations, name_of, SignatureExpression, Specifications, Specification, Bindings, binding, TopDeclaration, TopDeclarations, no_decs, more_decs, top_semicolon}
use Rattle.sig_parser.specs.machine.Machine as machine
use Rattle.sig_parser.specs.machine.Machine.{State, At, InType, start, bind, sig_of, open_name, open_body, description, datatype, con, level, shared_spec, is_between, is_name, is_shared, with_spec, top_item, begin_spec, spec_item, item, behind_group, bound, want_id, have_id, begin_body, want_sig, leave, have_sig, two_names, have_name, after_where, have_part, next_binding, after_and, want_val, have_val, vals, types_, eqtypes, datatypes, begin_params, want_tycon, want_params, want_param, have_param, where_tycon, type_tycon, datatype_tycon, have_tycon, replica, after_equals, want_replica, want_con, constructors, exceptions, have_cons, have_con, includes, sharing_type, after_sharing, after_sharing_type, one_shared, want_shared, have_shared, begin_type, step_at, owned, behind_type, in_type, step, ended_group, ended_sig, ended, ended_type, finish}
use Rattle.sig_parser.proofs.Leads.{parse}
use Rattle.sig_parser.proofs.States.{Before, none, some, joined, BindingsBefore, unbound, bound_before, bindings_joined, PartBegun, begun_by_where, begun_by_and, part_joined, BodyTo, in_body, GoalTo, for_binding, for_include, GroupTo, signatures_to, structures_to, members_to, ItemsTo, at_top, inside, OpenTo, has_more, wants_more, HeadedTo, DatatypeTo, SharedTo, SharedBefore, OwnerTo, PointTo, StateTo, spec_joined, in_items, open_sig}

pub if_either : {A : Type 0} (P : A → Type 0) (b : Bool) (o p : Option A) → (IsTrue b → IfSome o P) → IfSome p P → IfSome (if b then o else p) P
if_either P true o p h k = h refl
if_either P false o p h k = k

separated_some : {Tree : Type 0} {word : Word} {phrase : List Numbered → List Numbered → Tree → Type 0} {ts r : List Numbered} {xs : List Tree} → Separated word phrase ts r xs → xs ≡ [] → ⊥
separated_some (grammar.one p) e = cc
separated_some (grammar.more {xs = []} q p) e = cc
separated_some (grammar.more {xs = x ∷ xs} q p) e = cc

no_phrases : {Tree : Type 0} {word : Word} {phrase : List Numbered → List Numbered → Tree → Type 0} {ts r : List Numbered} {xs : List Tree} → Before word phrase ts r xs → xs ≡ [] → ts ≡ r
no_phrases none e = refl
no_phrases (some d) e = absurd (separated_some d e)

no_params : {ts r : List Numbered} {vs : List ℕ} → TyVarSeq ts r vs → vs ≡ [] → ts ≡ r
no_params no_variables e = refl
no_params variable e = cc
no_params (variables d) e = absurd (separated_some d e)

top_sound : (ts r : List Numbered) (i : ℕ) (so : Sort) (decs : List TopDec) → TopDeclarations ts ((i, so) ∷ r) decs → IfSome (top_item decs so) (StateTo ts r)
unfolding top_item
top_sound ts r i (s.Reserved w.KwSignature) decs d = (r, signatures_to d, unbound)
top_sound ts r i (s.Reserved w.KwStructure) decs d = (r, structures_to d, unbound)
top_sound ts r i (s.Reserved w.KwSemicolon) decs d = at_top (top_semicolon d)
top_sound ts r i _ decs d = tt

semicolon_sound : {ts r : List Numbered} {i : ℕ} {decs : List TopDec} {ls : List Level} → BodyTo ts ((i, s.Reserved w.KwSemicolon) ∷ r) decs ls → BodyTo ts r decs ls
semicolon_sound (in_body g d) = in_body g (grammar.semicolon d)

end_sound : (ts r : List Numbered) (i : ℕ) (decs : List TopDec) (l : Level) (ls : List Level) → BodyTo ts ((i, s.Reserved w.KwEnd) ∷ r) decs (l ∷ ls) → PointTo ts r decs ls (point.HaveSig (open_body l))
end_sound ts r i decs l ls (in_body g d) = (r, record { sort = s.Reserved w.KwSig; from = _; goal_to = g; base_to = grammar.body d }, grammar.no_parts)

spec_sound : (ts r : List Numbered) (i : ℕ) (so : Sort) (decs : List TopDec) (l : Level) (ls : List Level) → BodyTo ts ((i, so) ∷ r) decs (l ∷ ls) → IfSome (spec_item decs l ls so) (StateTo ts r)
unfolding spec_item begin_spec
spec_sound ts r i (s.Reserved w.KwVal) decs l ls to = record { at = i; from = r; body_to = to; before = none }
spec_sound ts r i (s.Reserved w.KwType) decs l ls to = record { at = i; from = r; body_to = to; before = none }
spec_sound ts r i (s.Reserved w.KwEqtype) decs l ls to = record { at = i; from = r; body_to = to; before = none }
spec_sound ts r i (s.Reserved w.KwDatatype) decs l ls to = record { at = i; from = r; body_to = to; before = none }
spec_sound ts r i (s.Reserved w.KwException) decs l ls to = (r, (i, to), none)
spec_sound ts r i (s.Reserved w.KwStructure) decs l ls to = (r, members_to to, unbound)
spec_sound ts r i (s.Reserved w.KwInclude) decs l ls to = for_include to
spec_sound ts r i (s.Reserved w.KwSharing) decs l ls to = (i, to)
spec_sound ts r i (s.Reserved w.KwSemicolon) decs l ls to = inside (semicolon_sound to)
spec_sound ts r i (s.Reserved w.KwEnd) decs l ls to = end_sound ts r i decs l ls to
spec_sound ts r i _ decs l ls to = tt

item_sound : (ts r : List Numbered) (i : ℕ) (so : Sort) (decs : List TopDec) (ls : List Level) → ItemsTo ts ((i, so) ∷ r) decs ls → IfSome (item decs ls so) (StateTo ts r)
item_sound ts r i so decs [] (at_top d) = top_sound ts r i so decs d
item_sound ts r i so decs (l ∷ ls) (inside to) = spec_sound ts r i so decs l ls to

-- behind a whole specification
behind_spec : (ts m r : List Numbered) (i : ℕ) (so : Sort) (decs : List TopDec) (ls : List Level) (x : Spec) → BodyTo ts m decs ls → Specification m ((i, so) ∷ r) x → IfSome (item decs (with_spec ls x) so) (StateTo ts r)
behind_spec ts m r i so decs ls x to d = item_sound ts r i so decs (with_spec ls x) (in_items (spec_joined to d))

group_sound : (ts m r : List Numbered) (i : ℕ) (so : Sort) (decs : List TopDec) (ls : List Level) (k : Group) (bs : List Bind) → GroupTo ts m decs ls k → Bindings (is_between k) m ((i, so) ∷ r) bs → IfSome (behind_group decs ls k bs so) (StateTo ts r)
group_sound ts m r i so decs ls group.Signatures bs (signatures_to to) d = top_sound ts r i so _ (more_decs to (grammar.signature d))
group_sound ts m r i so decs ls group.Structures bs (structures_to to) d = top_sound ts r i so _ (more_decs to (grammar.top_structure d))
group_sound ts m r i so decs ls group.Members bs (members_to to) d = behind_spec ts _ r i so decs ls _ to (grammar.structure d)

bound_sound : (ts m r : List Numbered) (i : ℕ) (so : Sort) (decs : List TopDec) (ls : List Level) (k : Group) (bs : List Bind) → GroupTo ts m decs ls k → Bindings (is_between k) m ((i, so) ∷ r) bs → IfSome (bound decs ls k bs so) (StateTo ts r)
unfolding bound
bound_sound ts m r i (s.Reserved w.KwAnd) decs ls k bs to d = (m, to, bound_before d)
bound_sound ts m r i so decs ls k bs to d = group_sound ts m r i so decs ls k bs to d

leave_sound : (ts m r : List Numbered) (i : ℕ) (so : Sort) (decs : List TopDec) (ls : List Level) (g : Goal) (x : SigExp) → GoalTo ts m decs ls g → SignatureExpression m ((i, so) ∷ r) x → IfSome (leave decs ls g x so) (StateTo ts r)
leave_sound ts m r i so decs ls (goal.Binding k bs j) x (for_binding to before named between) d = bound_sound ts _ r i so decs ls k _ to (bindings_joined before (binding named between d))
leave_sound ts m r i so decs ls goal.Including x (for_include to) d = behind_spec ts _ r i so decs ls _ to (grammar.include_one d)

have_sig_sound : (ts m r : List Numbered) (i : ℕ) (so : Sort) (decs : List TopDec) (ls : List Level) (o : Open) → OpenTo ts m decs ls o → Realizations m ((i, so) ∷ r) o.parts → IfSome (have_sig decs ls o i so) (StateTo ts r)
unfolding have_sig
have_sig_sound ts m r i (s.Reserved w.KwWhere) decs ls o to d = (m, to, d)
have_sig_sound ts m r i so decs ls o to d = let h = open_sig o to d in leave_sound ts h.0 r i so decs ls o.goal (sig_of o) h.1 h.2

have_part_sound : (ts m r : List Numbered) (i : ℕ) (so : Sort) (decs : List TopDec) (ls : List Level) (o : Open) → OpenTo ts m decs ls o → SomeRealizations m ((i, so) ∷ r) o.parts → IfSome (have_part decs ls o i so) (StateTo ts r)
unfolding have_part
have_part_sound ts m r i (s.Reserved w.KwAnd) decs ls o to d = (m, to, d)
have_part_sound ts m r i so decs ls o to d = have_sig_sound ts m r i so decs ls o to (grammar.parts d)

names_sound : (ts r : List Numbered) (i j : ℕ) (so ro : Sort) (decs : List TopDec) (ls : List Level) (g : Goal) → GoalTo ts ((j, so) ∷ (i, ro) ∷ r) decs ls g → IsTrue (is_strid so) → IsTrue (is_strid ro) → IfSome (two_names decs ls g j i) (StateTo ts r)
unfolding two_names
names_sound ts r i j so ro decs ls (goal.Binding k bs l) to one two = tt
names_sound ts r i j so ro decs ls goal.Including (for_include to) one two = (_, _, to, grammar.two_names one two)

have_name_sound : (ts r : List Numbered) (i j : ℕ) (so ro : Sort) (decs : List TopDec) (ls : List Level) (g : Goal) → GoalTo ts ((j, so) ∷ (i, ro) ∷ r) decs ls g → IsTrue (is_strid so) → IfSome (have_name decs ls g j i ro) (StateTo ts r)
unfolding have_name
have_name_sound ts r i j so ro decs ls g to named =
    if_either (StateTo ts r) (is_strid ro) (two_names decs ls g j i) (have_sig decs ls (open_name g j) i ro) (names_sound ts r i j so ro decs ls g to named)
    (have_sig_sound ts ((i, ro) ∷ r) r i ro decs ls (open_name g j) (record { sort = so; from = _; goal_to = to; base_to = grammar.name named }) grammar.no_parts)

after_where_sound : (ts m r : List Numbered) (i at : ℕ) (so : Sort) (decs : List TopDec) (ls : List Level) (o : Open) → OpenTo ts m decs ls o → PartBegun at m ((i, so) ∷ r) o.parts → IfSome (after_where decs ls o at so) (StateTo ts r)
unfolding after_where
after_where_sound ts m r i at (s.Reserved w.KwType) decs ls o to begun = (m, i, to, begun)
after_where_sound ts m r i at _ decs ls o to begun = tt

next_sound : (ts m r : List Numbered) (a i : ℕ) (so : Sort) (decs : List TopDec) (ls : List Level) (g : Goal) (x : SigExp) → GoalTo ts m decs ls g → SignatureExpression m ((a, s.Reserved w.KwAnd) ∷ (i, so) ∷ r) x → IsTrue (is_strid so) → IfSome (next_binding decs ls g x i) (StateTo ts r)
unfolding next_binding
next_sound ts m r a i so decs ls (goal.Binding k bs j) x (for_binding to before named between) d next = (_, so, to, bound_before (bindings_joined before (binding named between d)), next)
next_sound ts m r a i so decs ls goal.Including x to d next = tt

after_and_sound : (ts m r : List Numbered) (i at : ℕ) (so : Sort) (decs : List TopDec) (ls : List Level) (o : Open) → OpenTo ts m decs ls o → SomeRealizations m ((at, s.Reserved w.KwAnd) ∷ (i, so) ∷ r) o.parts → IfSome (after_and decs ls o at i so) (StateTo ts r)
unfolding after_and
after_and_sound ts m r i at so decs ls o to d =
    let h = open_sig o to (grammar.parts d) in
    if_either (StateTo ts r) (is_strid so) (next_binding decs ls o.goal (sig_of o) i) (after_where decs ls o at so) (next_sound ts h.0 r at i so decs ls o.goal (sig_of o) h.1 h.2) (after_where_sound ts m r i at so decs ls o to (begun_by_and d))

want_id_sound : (ts m r : List Numbered) (i : ℕ) (so : Sort) (decs : List TopDec) (ls : List Level) (k : Group) (bs : List Bind) → GroupTo ts m decs ls k → BindingsBefore (is_between k) m ((i, so) ∷ r) bs → IfSome (want_id decs ls k bs i so) (StateTo ts r)
unfolding want_id
want_id_sound ts m r i so decs ls k bs to before = if_either (StateTo ts r) (is_strid so) (Some (At decs ls (point.HaveId k bs i))) None (λ named. (m, so, to, before, named)) tt

have_id_sound : (ts m r : List Numbered) (i c : ℕ) (so co : Sort) (decs : List TopDec) (ls : List Level) (k : Group) (bs : List Bind) → GroupTo ts m decs ls k → BindingsBefore (is_between k) m ((i, so) ∷ (c, co) ∷ r) bs → IsTrue (is_strid so) → IfSome (have_id decs ls k bs i co) (StateTo ts r)
unfolding have_id
have_id_sound ts m r i c so co decs ls k bs to before named = if_either (StateTo ts r) (is_between k co) (Some (At decs ls (point.WantSig (goal.Binding k bs i)))) None (λ between. for_binding to before named between) tt

begin_body_sound : (ts r : List Numbered) (i : ℕ) (so : Sort) (decs : List TopDec) (ls : List Level) (g : Goal) → GoalTo ts ((i, so) ∷ r) decs ls g → IfSome (begin_body decs ls g i so) (StateTo ts r)
unfolding begin_body
begin_body_sound ts r i (s.Reserved w.KwSig) decs ls g to = inside (in_body to grammar.no_specs)
begin_body_sound ts r i _ decs ls g to = tt

want_sig_sound : (ts r : List Numbered) (i : ℕ) (so : Sort) (decs : List TopDec) (ls : List Level) (g : Goal) → GoalTo ts ((i, so) ∷ r) decs ls g → IfSome (want_sig decs ls g i so) (StateTo ts r)
unfolding want_sig
want_sig_sound ts r i so decs ls g to = if_either (StateTo ts r) (is_strid so) (Some (At decs ls (point.HaveName g i))) (begin_body decs ls g i so) (λ named. (so, to, named)) (begin_body_sound ts r i so decs ls g to)

want_val_sound : (ts r : List Numbered) (i : ℕ) (so : Sort) (decs : List TopDec) (ls : List Level) (ds : List ValDesc) → PointTo ts ((i, so) ∷ r) decs ls (point.WantVal ds) → IfSome (want_val decs ls ds i so) (StateTo ts r)
unfolding want_val
want_val_sound ts r i so decs ls ds to = if_either (StateTo ts r) (is_described_vid so) (Some (At decs ls (point.HaveVal ds i))) None (λ vid. (so, to, vid)) tt

have_val_sound : (ts r : List Numbered) (i c : ℕ) (co : Sort) (decs : List TopDec) (ls : List Level) (ds : List ValDesc) → PointTo ts ((c, co) ∷ r) decs ls (point.HaveVal ds i) → IfSome (have_val decs ls ds i co) (StateTo ts r)
unfolding have_val
have_val_sound ts r i c (s.Reserved w.KwColon) decs ls ds to = (c, to.0, to.1, to.2)
have_val_sound ts r i c _ decs ls ds to = tt

vals_sound : (ts r : List Numbered) (i : ℕ) (so : Sort) (decs : List TopDec) (ls : List Level) (ds : List ValDesc) → PointTo ts ((i, so) ∷ r) decs ls (point.Vals ds) → IfSome (vals decs ls ds so) (StateTo ts r)
unfolding vals
vals_sound ts r i (s.Reserved w.KwAnd) decs ls ds to = wants_more to
vals_sound ts r i so decs ls ds to = behind_spec ts _ r i so decs ls _ to.body_to (grammar.val to.all)

types_sound : (ts r : List Numbered) (i : ℕ) (so : Sort) (decs : List TopDec) (ls : List Level) (ds : List TypeDesc) → PointTo ts ((i, so) ∷ r) decs ls (point.Types ds) → IfSome (types_ decs ls ds so) (StateTo ts r)
unfolding types_
types_sound ts r i (s.Reserved w.KwAnd) decs ls ds to = wants_more to
types_sound ts r i so decs ls ds to = behind_spec ts _ r i so decs ls _ to.body_to (grammar.types to.all)

eqtypes_sound : (ts r : List Numbered) (i : ℕ) (so : Sort) (decs : List TopDec) (ls : List Level) (ds : List TypeDesc) → PointTo ts ((i, so) ∷ r) decs ls (point.Eqtypes ds) → IfSome (eqtypes decs ls ds so) (StateTo ts r)
unfolding eqtypes
eqtypes_sound ts r i (s.Reserved w.KwAnd) decs ls ds to = wants_more to
eqtypes_sound ts r i so decs ls ds to = behind_spec ts _ r i so decs ls _ to.body_to (grammar.eqtype to.all)

datatypes_sound : (ts r : List Numbered) (i : ℕ) (so : Sort) (decs : List TopDec) (ls : List Level) (ds : List DataDesc) → PointTo ts ((i, so) ∷ r) decs ls (point.Datatypes ds) → IfSome (datatypes decs ls ds so) (StateTo ts r)
unfolding datatypes
datatypes_sound ts r i (s.Reserved w.KwAnd) decs ls ds to = wants_more to
datatypes_sound ts r i so decs ls ds to = behind_spec ts _ r i so decs ls _ to.body_to (grammar.datatype to.all)

begin_params_sound : (ts r : List Numbered) (i : ℕ) (so : Sort) (decs : List TopDec) (ls : List Level) (h : Headed) → HeadedTo ts ((i, so) ∷ r) decs ls h → IfSome (begin_params decs ls h i so) (StateTo ts r)
unfolding begin_params
begin_params_sound ts r i s.Variable decs ls h to = (_, to, variable)
begin_params_sound ts r i (s.Reserved w.KwLParen) decs ls h to = (r, i, to, none)
begin_params_sound ts r i _ decs ls h to = tt

want_params_sound : (ts r : List Numbered) (i : ℕ) (so : Sort) (decs : List TopDec) (ls : List Level) (h : Headed) → HeadedTo ts ((i, so) ∷ r) decs ls h → IfSome (want_params decs ls h i so) (StateTo ts r)
unfolding want_params
want_params_sound ts r i so decs ls h to = if_either (StateTo ts r) (is_name h so) (Some (At decs ls (point.HaveTycon h [] i))) (begin_params decs ls h i so) (λ named. (_, so, to, no_variables, named)) (begin_params_sound ts r i so decs ls h to)

want_param_sound : (ts r : List Numbered) (i : ℕ) (so : Sort) (decs : List TopDec) (ls : List Level) (h : Headed) (vs : List ℕ) → PointTo ts ((i, so) ∷ r) decs ls (point.WantParam h vs) → IfSome (want_param decs ls h vs i so) (StateTo ts r)
unfolding want_param
want_param_sound ts r i s.Variable decs ls h vs to = (to.0, to.1, to.2, joined to.3 tyvar)
want_param_sound ts r i _ decs ls h vs to = tt

have_param_sound : (ts r : List Numbered) (i : ℕ) (so : Sort) (decs : List TopDec) (ls : List Level) (h : Headed) (vs : List ℕ) → PointTo ts ((i, so) ∷ r) decs ls (point.HaveParam h vs) → IfSome (have_param decs ls h vs so) (StateTo ts r)
unfolding have_param
have_param_sound ts r i (s.Reserved w.KwComma) decs ls h vs to = (to.0, to.1, to.2, some to.3)
have_param_sound ts r i (s.Reserved w.KwRParen) decs ls h vs to = (_, to.2, variables to.3)
have_param_sound ts r i _ decs ls h vs to = tt

want_tycon_sound : (ts r : List Numbered) (i : ℕ) (so : Sort) (decs : List TopDec) (ls : List Level) (h : Headed) (vs : List ℕ) → PointTo ts ((i, so) ∷ r) decs ls (point.WantTycon h vs) → IfSome (want_tycon decs ls h vs i so) (StateTo ts r)
unfolding want_tycon
want_tycon_sound ts r i so decs ls h vs to = if_either (StateTo ts r) (is_name h so) (Some (At decs ls (point.HaveTycon h vs i))) None (λ named. (to.0, so, to.1, to.2, named)) tt

where_tycon_sound : (ts r : List Numbered) (i at j : ℕ) (so : Sort) (decs : List TopDec) (ls : List Level) (o : Open) (vs : List ℕ) → PointTo ts ((i, so) ∷ r) decs ls (point.HaveTycon (headed.Where o at) vs j) → IfSome (where_tycon decs ls o at vs j so) (StateTo ts r)
unfolding where_tycon
where_tycon_sound ts r i at j (s.Reserved w.KwEquals) decs ls o vs to = (to.0, i, to.1, to.2, to.3, to.4)
where_tycon_sound ts r i at j _ decs ls o vs to = tt

type_tycon_sound : (ts r : List Numbered) (i j : ℕ) (so : Sort) (decs : List TopDec) (ls : List Level) (ds : List TypeDesc) (vs : List ℕ) → PointTo ts ((i, so) ∷ r) decs ls (point.HaveTycon (headed.Abbrev ds) vs j) → IfSome (type_tycon decs ls ds vs j so) (StateTo ts r)
unfolding type_tycon
type_tycon_sound ts r i j (s.Reserved w.KwEquals) decs ls ds vs to = (to.0, i, to.1, to.2, to.3, to.4)
type_tycon_sound ts r i j so decs ls ds vs to = types_sound ts r i so decs ls _ (has_more to.2 (grammar.without_type to.3 to.4))

datatype_tycon_sound : (ts r : List Numbered) (i j : ℕ) (so : Sort) (decs : List TopDec) (ls : List Level) (ds : List DataDesc) (vs : List ℕ) → PointTo ts ((i, so) ∷ r) decs ls (point.HaveTycon (headed.Datatype ds) vs j) → IfSome (datatype_tycon decs ls ds vs j so) (StateTo ts r)
unfolding datatype_tycon
datatype_tycon_sound ts r i j (s.Reserved w.KwEquals) decs ls ds vs to = record { equals = i; sort = to.1; from = to.0; wants = to.2; params = to.3; named = to.4 }
datatype_tycon_sound ts r i j _ decs ls ds vs to = tt

have_tycon_sound : (ts r : List Numbered) (i j : ℕ) (so : Sort) (decs : List TopDec) (ls : List Level) (h : Headed) (vs : List ℕ) → PointTo ts ((i, so) ∷ r) decs ls (point.HaveTycon h vs j) → IfSome (have_tycon decs ls h vs j so) (StateTo ts r)
have_tycon_sound ts r i j so decs ls (headed.Where o at) vs to = where_tycon_sound ts r i at j so decs ls o vs to
have_tycon_sound ts r i j so decs ls (headed.Abbrev ds) vs to = type_tycon_sound ts r i j so decs ls ds vs to
have_tycon_sound ts r i j so decs ls (headed.Eqtype ds) vs to = eqtypes_sound ts r i so decs ls _ (has_more to.2 (grammar.constructor to.3 to.4))
have_tycon_sound ts r i j so decs ls (headed.Datatype ds) vs to = datatype_tycon_sound ts r i j so decs ls ds vs to

-- a datatype without others before it and without parameters begins with its identifier
datatype_alone : {ts r : List Numbered} {decs : List TopDec} {ls : List Level} {j : ℕ} → DatatypeTo ts r decs ls [] [] j → (a e : ℕ) × (so : Sort) × BodyTo ts ((a, s.Reserved w.KwDatatype) ∷ (j, so) ∷ (e, s.Reserved w.KwEquals) ∷ r) decs ls × IsTrue (is_tycon so)
datatype_alone {ts = ts} {decs = decs} {ls = ls} to =
    let P : List Numbered → Type 0 = λ m. BodyTo ts ((to.wants.at, s.Reserved w.KwDatatype) ∷ m) decs ls in
    (to.wants.at, to.equals, to.sort, subst P (no_phrases to.wants.before refl ∙ no_params to.params refl) to.wants.body_to, to.named)

replica_sound : (ts r : List Numbered) (i j : ℕ) (so : Sort) (decs : List TopDec) (ls : List Level) (ds : List DataDesc) (vs : List ℕ) → DatatypeTo ts ((i, so) ∷ r) decs ls ds vs j → IfSome (replica decs ls ds vs j so) (StateTo ts r)
unfolding replica
replica_sound ts r i j (s.Reserved w.KwDatatype) decs ls [] [] to = let h = datatype_alone to in (h.0, h.1, i, h.2, h.3, h.4)
replica_sound ts r i j _ decs ls [] [] to = tt
replica_sound ts r i j so decs ls [] (v ∷ vs) to = tt
replica_sound ts r i j so decs ls (d ∷ ds) vs to = tt

after_equals_sound : (ts r : List Numbered) (i j : ℕ) (so : Sort) (decs : List TopDec) (ls : List Level) (ds : List DataDesc) (vs : List ℕ) → DatatypeTo ts ((i, so) ∷ r) decs ls ds vs j → IfSome (after_equals decs ls ds vs j i so) (StateTo ts r)
unfolding after_equals
after_equals_sound ts r i j so decs ls ds vs to =
    if_either (StateTo ts r) (is_vid so) (Some (At decs ls (point.HaveCon (cons.Datatype ds vs j) [] i))) (replica decs ls ds vs j so) (λ vid. (_, so, to, none, vid)) (replica_sound ts r i j so decs ls ds vs to)

want_replica_sound : (ts r : List Numbered) (i j : ℕ) (so : Sort) (decs : List TopDec) (ls : List Level) → PointTo ts ((i, so) ∷ r) decs ls (point.WantReplica j) → IfSome (want_replica decs ls j i so) (StateTo ts r)
unfolding want_replica
want_replica_sound ts r i j so decs ls to =
    if_either (StateTo ts r) (is_long_tycon so) (Some (At decs (with_spec ls (spec.Replica j i)) point.Items)) None (λ named. in_items (spec_joined to.4 (grammar.replica to.5 named))) tt

want_con_sound : (ts r : List Numbered) (i : ℕ) (so : Sort) (decs : List TopDec) (ls : List Level) (c : Cons) (cs : List ConDesc) → PointTo ts ((i, so) ∷ r) decs ls (point.WantCon c cs) → IfSome (want_con decs ls c cs i so) (StateTo ts r)
unfolding want_con
want_con_sound ts r i so decs ls c cs to = if_either (StateTo ts r) (is_vid so) (Some (At decs ls (point.HaveCon c cs i))) None (λ vid. (to.0, so, to.1, to.2, vid)) tt

have_cons_sound : (ts r : List Numbered) (i : ℕ) (so : Sort) (decs : List TopDec) (ls : List Level) (c : Cons) (cs : List ConDesc) → PointTo ts ((i, so) ∷ r) decs ls (point.HaveCons c cs) → IfSome (have_cons decs ls c cs so) (StateTo ts r)
unfolding constructors exceptions
have_cons_sound ts r i (s.Reserved w.KwBar) decs ls (cons.Datatype ds vs j) cs to = (to.0, to.1, some to.2)
have_cons_sound ts r i so decs ls (cons.Datatype ds vs j) cs to = datatypes_sound ts r i so decs ls _ (has_more to.1.wants (grammar.datdesc to.1.params to.1.named to.2))
have_cons_sound ts r i (s.Reserved w.KwAnd) decs ls cons.Exception cs to = (to.0, to.1, some to.2)
have_cons_sound ts r i so decs ls cons.Exception cs to = behind_spec ts _ r i so decs ls _ to.1.1 (grammar.exception to.2)

have_con_sound : (ts r : List Numbered) (i j : ℕ) (so : Sort) (decs : List TopDec) (ls : List Level) (c : Cons) (cs : List ConDesc) → PointTo ts ((i, so) ∷ r) decs ls (point.HaveCon c cs j) → IfSome (have_con decs ls c cs j so) (StateTo ts r)
unfolding have_con
have_con_sound ts r i j (s.Reserved w.KwOf) decs ls c cs to = (to.0, i, to.1, to.2, to.3, to.4)
have_con_sound ts r i j so decs ls c cs to = have_cons_sound ts r i so decs ls c _ (to.0, to.2, joined to.3 (grammar.constant to.4))

includes_sound : (ts r : List Numbered) (i : ℕ) (so : Sort) (decs : List TopDec) (ls : List Level) (gs : List SigExp) → PointTo ts ((i, so) ∷ r) decs ls (point.Includes gs) → IfSome (includes decs ls gs i so) (StateTo ts r)
unfolding includes
includes_sound ts r i so decs ls gs to =
    if_either (StateTo ts r) (is_strid so) (Some (At decs ls (point.Includes (gs ++ name_of i ∷ [])))) (item decs (with_spec ls (spec.Include gs)) so) (λ named. (to.0, to.1, to.2, grammar.more_names to.3 named)) (behind_spec ts _ r i so decs ls _ to.2 (grammar.include_names to.3))

sharing_type_sound : (ts r : List Numbered) (i : ℕ) (so : Sort) (decs : List TopDec) (ls : List Level) → PointTo ts ((i, so) ∷ r) decs ls point.AfterSharing → IfSome (sharing_type decs ls so) (StateTo ts r)
unfolding sharing_type
sharing_type_sound ts r i (s.Reserved w.KwType) decs ls to = (to.0, i, to.1)
sharing_type_sound ts r i _ decs ls to = tt

after_sharing_sound : (ts r : List Numbered) (i : ℕ) (so : Sort) (decs : List TopDec) (ls : List Level) → PointTo ts ((i, so) ∷ r) decs ls point.AfterSharing → IfSome (after_sharing decs ls i so) (StateTo ts r)
unfolding after_sharing
after_sharing_sound ts r i so decs ls to =
    if_either (StateTo ts r) (is_long_strid so) (Some (At decs ls (point.OneShared shared.Structures i))) (sharing_type decs ls so) (λ named. (so, to, named)) (sharing_type_sound ts r i so decs ls to)

after_sharing_type_sound : (ts r : List Numbered) (i : ℕ) (so : Sort) (decs : List TopDec) (ls : List Level) → PointTo ts ((i, so) ∷ r) decs ls point.AfterSharingType → IfSome (after_sharing_type decs ls i so) (StateTo ts r)
unfolding after_sharing_type
after_sharing_type_sound ts r i so decs ls to = if_either (StateTo ts r) (is_long_tycon so) (Some (At decs ls (point.OneShared shared.Types i))) None (λ named. (so, to, named)) tt

one_shared_sound : (ts r : List Numbered) (i j : ℕ) (so : Sort) (decs : List TopDec) (ls : List Level) (k : Shared) → PointTo ts ((i, so) ∷ r) decs ls (point.OneShared k j) → IfSome (one_shared decs ls k j so) (StateTo ts r)
unfolding one_shared
one_shared_sound ts r i j (s.Reserved w.KwEquals) decs ls k to = record { first = j; equals = i; sort = to.0; from = r; others = []; shared_to = to.1; named = to.2; before = none; all = refl }
one_shared_sound ts r i j _ decs ls k to = tt

want_shared_sound : (ts r : List Numbered) (i : ℕ) (so : Sort) (decs : List TopDec) (ls : List Level) (k : Shared) (is : List ℕ) → PointTo ts ((i, so) ∷ r) decs ls (point.WantShared k is) → IfSome (want_shared decs ls k is i so) (StateTo ts r)
unfolding want_shared
want_shared_sound ts r i so decs ls k is to =
    let m = (to.first, to.sort) ∷ (to.equals, s.Reserved w.KwEquals) ∷ to.from in
    let P : List ℕ → Type 0 = λ is. grammar.Equated (is_shared k) m r (is ++ i ∷ []) in
    if_either (StateTo ts r) (is_shared k so) (Some (At decs ls (point.HaveShared k (is ++ i ∷ [])))) None
    (λ named. (m, to.shared_to, subst P to.all (grammar.equated to.named (joined to.before (grammar.named named))))) tt

shared_item_sound : (ts m r : List Numbered) (i : ℕ) (so : Sort) (decs : List TopDec) (ls : List Level) (k : Shared) (is : List ℕ) → SharedTo ts m decs ls k → grammar.Equated (is_shared k) m ((i, so) ∷ r) is → IfSome (item decs (with_spec ls (shared_spec k is)) so) (StateTo ts r)
shared_item_sound ts m r i so decs ls shared.Types is to d = behind_spec ts _ r i so decs ls _ to.2 (grammar.sharing_type d)
shared_item_sound ts m r i so decs ls shared.Structures is to d = behind_spec ts _ r i so decs ls _ to.1 (grammar.sharing d)

equated_before : {ts m r : List Numbered} {i : ℕ} {is : List ℕ} (decs : List TopDec) (ls : List Level) (k : Shared) → SharedTo ts m decs ls k → grammar.Equated (is_shared k) m ((i, s.Reserved w.KwEquals) ∷ r) is → SharedBefore ts r decs ls k is
equated_before decs ls k to (grammar.equated named d) = record { first = _; equals = _; sort = _; from = _; others = _; shared_to = to; named = named; before = some d; all = refl }

have_shared_sound : (ts r : List Numbered) (i : ℕ) (so : Sort) (decs : List TopDec) (ls : List Level) (k : Shared) (is : List ℕ) → PointTo ts ((i, so) ∷ r) decs ls (point.HaveShared k is) → IfSome (have_shared decs ls k is so) (StateTo ts r)
unfolding have_shared
have_shared_sound ts r i (s.Reserved w.KwEquals) decs ls k is to = equated_before decs ls k to.1 to.2
have_shared_sound ts r i so decs ls k is to = shared_item_sound ts to.0 r i so decs ls k is to.1 to.2

begin_type_sound : (ts r : List Numbered) (i : ℕ) (so : Sort) (decs : List TopDec) (ls : List Level) (o : Owner) (st : Option types.State) → OwnerTo ts ((i, so) ∷ r) decs ls o → IfSome st (type_sound.StateTo ((i, so) ∷ r) r) → IfSome (begin_type decs ls o i st) (StateTo ts r)
unfolding begin_type
begin_type_sound ts r i so decs ls o None to further = tt
begin_type_sound ts r i so decs ls o (Some st) to further = (r, so, to, further)

step_at_sound : (ts r : List Numbered) (i : ℕ) (so : Sort) (decs : List TopDec) (ls : List Level) (p : Point) → PointTo ts ((i, so) ∷ r) decs ls p → IfSome (step_at decs ls p i so) (StateTo ts r)
step_at_sound ts r i so decs ls point.Items to = item_sound ts r i so decs ls to
step_at_sound ts r i so decs ls (point.WantId k bs) to = want_id_sound ts to.0 r i so decs ls k bs to.1 to.2
step_at_sound ts r i so decs ls (point.HaveId k bs j) to = have_id_sound ts to.0 r j i to.1 so decs ls k bs to.2 to.3 to.4
step_at_sound ts r i so decs ls (point.Bound k bs) to = bound_sound ts to.0 r i so decs ls k bs to.1 to.2
step_at_sound ts r i so decs ls (point.WantSig g) to = want_sig_sound ts r i so decs ls g to
step_at_sound ts r i so decs ls (point.HaveName g j) to = have_name_sound ts r i j to.0 so decs ls g to.1 to.2
step_at_sound ts r i so decs ls (point.HaveSig o) to = have_sig_sound ts to.0 r i so decs ls o to.1 to.2
step_at_sound ts r i so decs ls (point.AfterWhere o at) to = after_where_sound ts to.0 r i at so decs ls o to.1 (begun_by_where to.2)
step_at_sound ts r i so decs ls (point.HavePart o) to = have_part_sound ts to.0 r i so decs ls o to.1 to.2
step_at_sound ts r i so decs ls (point.AfterAnd o at) to = after_and_sound ts to.0 r i at so decs ls o to.1 to.2
step_at_sound ts r i so decs ls (point.WantVal ds) to = want_val_sound ts r i so decs ls ds to
step_at_sound ts r i so decs ls (point.HaveVal ds j) to = have_val_sound ts r j i so decs ls ds to
step_at_sound ts r i so decs ls (point.Vals ds) to = vals_sound ts r i so decs ls ds to
step_at_sound ts r i so decs ls (point.WantParams h) to = want_params_sound ts r i so decs ls h to
step_at_sound ts r i so decs ls (point.WantParam h vs) to = want_param_sound ts r i so decs ls h vs to
step_at_sound ts r i so decs ls (point.HaveParam h vs) to = have_param_sound ts r i so decs ls h vs to
step_at_sound ts r i so decs ls (point.WantTycon h vs) to = want_tycon_sound ts r i so decs ls h vs to
step_at_sound ts r i so decs ls (point.HaveTycon h vs j) to = have_tycon_sound ts r i j so decs ls h vs to
step_at_sound ts r i so decs ls (point.Types ds) to = types_sound ts r i so decs ls ds to
step_at_sound ts r i so decs ls (point.Eqtypes ds) to = eqtypes_sound ts r i so decs ls ds to
step_at_sound ts r i so decs ls (point.AfterEquals ds vs j) to = after_equals_sound ts r i j so decs ls ds vs to
step_at_sound ts r i so decs ls (point.WantReplica j) to = want_replica_sound ts r i j so decs ls to
step_at_sound ts r i so decs ls (point.WantCon c cs) to = want_con_sound ts r i so decs ls c cs to
step_at_sound ts r i so decs ls (point.HaveCon c cs j) to = have_con_sound ts r i j so decs ls c cs to
step_at_sound ts r i so decs ls (point.HaveCons c cs) to = have_cons_sound ts r i so decs ls c cs to
step_at_sound ts r i so decs ls (point.Datatypes ds) to = datatypes_sound ts r i so decs ls ds to
step_at_sound ts r i so decs ls (point.Includes gs) to = includes_sound ts r i so decs ls gs to
step_at_sound ts r i so decs ls point.AfterSharing to = after_sharing_sound ts r i so decs ls to
step_at_sound ts r i so decs ls point.AfterSharingType to = after_sharing_type_sound ts r i so decs ls to
step_at_sound ts r i so decs ls (point.OneShared k j) to = one_shared_sound ts r i j so decs ls k to
step_at_sound ts r i so decs ls (point.WantShared k is) to = want_shared_sound ts r i so decs ls k is to
step_at_sound ts r i so decs ls (point.HaveShared k is) to = have_shared_sound ts r i so decs ls k is to
step_at_sound ts r i so decs ls (point.WantType o) to = begin_type_sound ts r i so decs ls o _ to (type_sound.step_sound ((i, so) ∷ r) r types.start (i, so) (type_sound.start_to ((i, so) ∷ r)))

-- the same part of a `where` more
part_to : {ts m : List Numbered} (decs : List TopDec) (ls : List Level) (o : Open) (p : WherePart) → OpenTo ts m decs ls o → OpenTo ts m decs ls (machine.with_part o p)
part_to decs ls o p to = record { sort = to.sort; from = to.from; goal_to = to.goal_to; base_to = to.base_to }

-- behind a whole type
owned_sound : (ts m r : List Numbered) (decs : List TopDec) (ls : List Level) (o : Owner) (t : TypeAt) → OwnerTo ts m decs ls o → Typed m r t → PointTo ts r decs ls (owned o t)
owned_sound ts m r decs ls (owner.Val ds i) t to d = has_more to.2 (grammar.value to.3 d)
owned_sound ts m r decs ls (owner.Where o at vs i) t to d =
    let h = to.3 in
    (h.0, part_to decs ls o _ h.2, part_joined h.3 (part to.4 to.5 d))
owned_sound ts m r decs ls (owner.Abbrev ds vs i) t to d = has_more to.3 (grammar.with_type to.4 to.5 d)
owned_sound ts m r decs ls (owner.Con c cs i) t to d = (to.0, to.3, joined to.4 (grammar.carrying to.5 d))

in_type_sound : (ts m r : List Numbered) (first i : ℕ) (fo so : Sort) (decs : List TopDec) (ls : List Level) (o : Owner) → OwnerTo ts ((first, fo) ∷ m) decs ls o → (st : Option types.State) (e : Option TyExp) → IfSome st (type_sound.StateTo ((first, fo) ∷ m) r) → IfSome e (Ty ((first, fo) ∷ m) ((i, so) ∷ r))
    → IfSome (in_type decs ls o first st e i so) (StateTo ts r)
unfolding in_type behind_type
in_type_sound ts m r first i fo so decs ls o to (Some st) e further whole = (m, fo, to, further)
in_type_sound ts m r first i fo so decs ls o to None None further whole = tt
in_type_sound ts m r first i fo so decs ls o to None (Some e) further whole =
    step_at_sound ts r i so decs ls (owned o (record { first = first; ty = e })) (owned_sound ts _ _ decs ls o (record { first = first; ty = e }) to (typed whole))

pub step_sound : (ts r : List Numbered) (st : State) (t : Numbered) → StateTo ts (t ∷ r) st → IfSome (step st t) (StateTo ts r)
step_sound ts r (At decs ls p) t to = step_at_sound ts r t.0 t.1 decs ls p to
step_sound ts r (InType decs ls o first st) t to =
    in_type_sound ts to.0 r first t.0 to.1 t.1 decs ls o to.2 (types.step st t) (types.finish st) (type_sound.step_sound _ r st t to.3) (type_sound.finish_sound _ (t ∷ r) st to.3)

run_sound : (ts : List Numbered) (st : State) (r : List Numbered) → StateTo ts r st → IfSome (types.run step st r) (StateTo ts [])
run_sound ts st [] to = to
run_sound ts st (t ∷ r) to = if_some-and_then (λ st'. types.run step st' r) (step st t) (StateTo ts r) (StateTo ts []) (step_sound ts r st t to) (λ st' to'. run_sound ts st' r to')

-- a file may end there
abbrev Ends : List Numbered → Option SourceFile → Type 0
Ends ts o = IfSome o (λ f. TopDeclarations ts [] f.decs)

group_ends : (ts m : List Numbered) (decs : List TopDec) (k : Group) (bs : List Bind) → GroupTo ts m decs [] k → Bindings (is_between k) m [] bs → Ends ts (ended_group decs k bs)
group_ends ts m decs group.Signatures bs (signatures_to to) d = more_decs to (grammar.signature d)
group_ends ts m decs group.Structures bs (structures_to to) d = more_decs to (grammar.top_structure d)
group_ends ts m decs group.Members bs to d = tt

sig_ends : (ts m : List Numbered) (decs : List TopDec) (g : Goal) (x : SigExp) → GoalTo ts m decs [] g → SignatureExpression m [] x → Ends ts (ended_sig decs g x)
sig_ends ts m decs (goal.Binding k bs i) x (for_binding to before named between) d = group_ends ts _ decs k _ to (bindings_joined before (binding named between d))
sig_ends ts m decs goal.Including x to d = tt

items_end : (ts : List Numbered) (decs : List TopDec) → ItemsTo ts [] decs [] → TopDeclarations ts [] decs
items_end ts decs (at_top d) = d

point_ends : (ts : List Numbered) (decs : List TopDec) (p : Point) → PointTo ts [] decs [] p → Ends ts (ended decs p)
unfolding ended
point_ends ts decs point.Items to = items_end ts decs to
point_ends ts decs (point.Bound k bs) to = group_ends ts to.0 decs k bs to.1 to.2
point_ends ts decs (point.HaveName g i) to = sig_ends ts _ decs g (name_of i) to.1 (grammar.sigexp (grammar.name to.2) grammar.no_parts)
point_ends ts decs (point.HaveSig o) to = let h = open_sig o to.1 to.2 in sig_ends ts h.0 decs o.goal (sig_of o) h.1 h.2
point_ends ts decs (point.HavePart o) to = let h = open_sig o to.1 (grammar.parts to.2) in sig_ends ts h.0 decs o.goal (sig_of o) h.1 h.2
point_ends ts decs _ to = tt

type_ends : (ts m : List Numbered) (first : ℕ) (fo : Sort) (decs : List TopDec) (o : Owner) (e : Option TyExp) → OwnerTo ts ((first, fo) ∷ m) decs [] o → IfSome e (Ty ((first, fo) ∷ m) []) → Ends ts (ended_type decs o first e)
unfolding ended_type
type_ends ts m first fo decs o None to whole = tt
type_ends ts m first fo decs o (Some e) to whole = point_ends ts decs (owned o (record { first = first; ty = e })) (owned_sound ts _ [] decs [] o (record { first = first; ty = e }) to (typed whole))

finish_sound : (ts : List Numbered) (st : State) → StateTo ts [] st → Ends ts (finish st)
finish_sound ts (At decs [] p) to = point_ends ts decs p to
finish_sound ts (At decs (l ∷ ls) p) to = tt
finish_sound ts (InType decs [] o first st) to = type_ends ts to.0 first to.1 decs o (types.finish st) to.2 (type_sound.finish_sound _ [] st to.3)
finish_sound ts (InType decs (l ∷ ls) o first st) to = tt

pub parse_sound : (ts : List Numbered) → IfSome (parse start ts) (λ f. TopDeclarations ts [] f.decs)
parse_sound ts = if_some-and_then finish (types.run step start ts) (StateTo ts []) (λ f. TopDeclarations ts [] f.decs) (run_sound ts start ts (at_top no_decs)) (λ st to. finish_sound ts st to)
