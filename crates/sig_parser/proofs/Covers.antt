-- Behind a phrase that may be whole the machine can do all that it can where it is.
use Rattle.std.proofs.Common.{◌≡◌, ℕ, List, [], ◌∷◌, ◌++◌, None, refl}
use Rattle.sig_base.specs.declared.word.Word.TheVariants as w
use Rattle.ty_parser.specs.declared.sort.Sort.TheVariants as s
use Rattle.sig_parser.specs.declared.tree.TopDec.{TopDec}
use Rattle.sig_parser.specs.declared.tree.TopDec.TheVariants as topdec
use Rattle.sig_parser.specs.declared.tree.Bind.{Bind}
use Rattle.sig_parser.specs.declared.tree.SigExp.{SigExp}
use Rattle.sig_parser.specs.declared.tree.SigBase.{SigBase}
use Rattle.sig_parser.specs.declared.tree.WherePart.{WherePart}
use Rattle.sig_parser.specs.declared.tree.Spec.{Spec}
use Rattle.sig_parser.specs.declared.tree.Spec.TheVariants as spec
use Rattle.sig_parser.specs.declared.tree.ValDesc.{ValDesc}
use Rattle.sig_parser.specs.declared.tree.TypeDesc.{TypeDesc}
use Rattle.sig_parser.specs.declared.tree.DataDesc.{DataDesc}
use Rattle.sig_parser.specs.declared.tree.ConDesc.{ConDesc}
use Rattle.sig_parser.specs.declared.point.Group.{Group}
use Rattle.sig_parser.specs.declared.point.Group.TheVariants as group
use Rattle.sig_parser.specs.machine.Goals.{Goal, Level, Open}
use Rattle.sig_parser.specs.machine.Goals as goal
use Rattle.sig_parser.specs.machine.Heads.{Headed}
use Rattle.sig_parser.specs.machine.Heads as headed
use Rattle.sig_parser.specs.machine.Constructors.{Cons}
use Rattle.sig_parser.specs.machine.Constructors as cons
use Rattle.sig_parser.specs.declared.point.Shared.{Shared}
use Rattle.sig_parser.specs.machine.Points.{Point}
use Rattle.sig_parser.specs.machine.Points as point
use Rattle.sig_parser.specs.machine.Machine.{At, bind, open_name, description, datatype, con, shared_spec, with_spec, top_item, begin_spec, spec_item, item, bound, want_id, have_sig, have_name, have_part, next_binding, after_and, vals, types_, eqtypes, datatypes, type_tycon, after_equals, want_con, constructors, exceptions, have_con, includes, have_shared, ended}
use Rattle.sig_parser.proofs.Leads.{Covers, refused, have_sig_none}

-- a group of bindings
module _ (decs : List TopDec) (bs : List Bind) where
  pub signatures_cover : Covers (At decs [] (point.Bound group.Signatures bs)) (At (decs ++ topdec.Signature bs ∷ []) [] point.Items)
  unfolding bound top_item ended
  signatures_cover [] f h = h
  signatures_cover ((i, s.Reserved w.KwAnd) ∷ ts) f h = cc
  signatures_cover (_ ∷ ts) f h = h

  pub structures_cover : Covers (At decs [] (point.Bound group.Structures bs)) (At (decs ++ topdec.Structure bs ∷ []) [] point.Items)
  unfolding bound top_item ended
  structures_cover [] f h = h
  structures_cover ((i, s.Reserved w.KwAnd) ∷ ts) f h = cc
  structures_cover (_ ∷ ts) f h = h

-- specifications
module _ (decs : List TopDec) (l : Level) (ls : List Level) where
  pub members_cover : (bs : List Bind) → Covers (At decs (l ∷ ls) (point.Bound group.Members bs)) (At decs (with_spec (l ∷ ls) (spec.Structure bs)) point.Items)
  unfolding bound with_spec spec_item begin_spec
  members_cover bs [] f h = cc
  members_cover bs ((i, s.Reserved w.KwAnd) ∷ ts) f h = cc
  members_cover bs (_ ∷ ts) f h = h

  pub vals_cover : (ds : List ValDesc) → Covers (At decs (l ∷ ls) (point.Vals ds)) (At decs (with_spec (l ∷ ls) (spec.Val ds)) point.Items)
  unfolding vals with_spec spec_item begin_spec
  vals_cover ds [] f h = cc
  vals_cover ds ((i, s.Reserved w.KwAnd) ∷ ts) f h = cc
  vals_cover ds (_ ∷ ts) f h = h

  pub types_cover : (ds : List TypeDesc) → Covers (At decs (l ∷ ls) (point.Types ds)) (At decs (with_spec (l ∷ ls) (spec.Abbrev ds)) point.Items)
  unfolding types_ with_spec spec_item begin_spec
  types_cover ds [] f h = cc
  types_cover ds ((i, s.Reserved w.KwAnd) ∷ ts) f h = cc
  types_cover ds (_ ∷ ts) f h = h

  pub eqtypes_cover : (ds : List TypeDesc) → Covers (At decs (l ∷ ls) (point.Eqtypes ds)) (At decs (with_spec (l ∷ ls) (spec.Eqtype ds)) point.Items)
  unfolding eqtypes with_spec spec_item begin_spec
  eqtypes_cover ds [] f h = cc
  eqtypes_cover ds ((i, s.Reserved w.KwAnd) ∷ ts) f h = cc
  eqtypes_cover ds (_ ∷ ts) f h = h

  pub datatypes_cover : (ds : List DataDesc) → Covers (At decs (l ∷ ls) (point.Datatypes ds)) (At decs (with_spec (l ∷ ls) (spec.Datatype ds)) point.Items)
  unfolding datatypes with_spec spec_item begin_spec
  datatypes_cover ds [] f h = cc
  datatypes_cover ds ((i, s.Reserved w.KwAnd) ∷ ts) f h = cc
  datatypes_cover ds (_ ∷ ts) f h = h

  pub exceptions_cover : (cs : List ConDesc) → Covers (At decs (l ∷ ls) (point.HaveCons cons.Exception cs)) (At decs (with_spec (l ∷ ls) (spec.Exception cs)) point.Items)
  unfolding exceptions with_spec spec_item begin_spec
  exceptions_cover cs [] f h = cc
  exceptions_cover cs ((i, s.Reserved w.KwAnd) ∷ ts) f h = cc
  exceptions_cover cs (_ ∷ ts) f h = h

  pub includes_cover : (gs : List SigExp) → Covers (At decs (l ∷ ls) (point.Includes gs)) (At decs (with_spec (l ∷ ls) (spec.Include gs)) point.Items)
  unfolding includes with_spec spec_item begin_spec
  includes_cover gs [] f h = cc
  includes_cover gs ((i, s.Alphanumeric) ∷ ts) f h = cc
  includes_cover gs (_ ∷ ts) f h = h

  pub shared_cover : (k : Shared) (is : List ℕ) → Covers (At decs (l ∷ ls) (point.HaveShared k is)) (At decs (with_spec (l ∷ ls) (shared_spec k is)) point.Items)
  unfolding have_shared with_spec spec_item begin_spec
  shared_cover k is [] f h = cc
  shared_cover k is ((i, s.Reserved w.KwEquals) ∷ ts) f h = cc
  shared_cover k is (_ ∷ ts) f h = h

  -- an include of one signature expression
  pub include_covers : (first : ℕ) (b : SigBase) (ps : List WherePart)
      → Covers (At decs (l ∷ ls) (point.HaveSig (record { goal = goal.Including; first = first; base = b; parts = ps }))) (At decs (with_spec (l ∷ ls) (spec.Include (record { first = first; base = b; parts = ps } ∷ []))) point.Items)
  unfolding have_sig with_spec spec_item begin_spec
  include_covers first b ps [] f h = cc
  include_covers first b ps ((i, s.Reserved w.KwWhere) ∷ ts) f h = cc
  include_covers first b ps (_ ∷ ts) f h = h

  -- descriptions that may go on
  pub type_tycon_covers : (ds : List TypeDesc) (vs : List ℕ) (i : ℕ) → Covers (At decs (l ∷ ls) (point.HaveTycon (headed.Abbrev ds) vs i)) (At decs (l ∷ ls) (point.Types (ds ++ description vs i None ∷ [])))
  unfolding type_tycon types_ with_spec spec_item begin_spec
  type_tycon_covers ds vs i [] f h = h
  type_tycon_covers ds vs i ((j, s.Reserved w.KwEquals) ∷ ts) f h = cc
  type_tycon_covers ds vs i (_ ∷ ts) f h = h

  pub eqtype_tycon_covers : (ds : List TypeDesc) (vs : List ℕ) (i : ℕ) → Covers (At decs (l ∷ ls) (point.HaveTycon (headed.Eqtype ds) vs i)) (At decs (l ∷ ls) (point.Eqtypes (ds ++ description vs i None ∷ [])))
  eqtype_tycon_covers ds vs i [] f h = h
  eqtype_tycon_covers ds vs i (_ ∷ ts) f h = h

  pub equals_covers : (ds : List DataDesc) (vs : List ℕ) (j : ℕ) → Covers (At decs (l ∷ ls) (point.AfterEquals ds vs j)) (At decs (l ∷ ls) (point.WantCon (cons.Datatype ds vs j) []))
  unfolding after_equals want_con
  equals_covers ds vs j [] f h = h
  equals_covers ds vs j ((i, s.Alphanumeric) ∷ ts) f h = h
  equals_covers ds vs j ((i, s.Symbolic) ∷ ts) f h = h
  equals_covers ds vs j ((i, s.Star) ∷ ts) f h = h
  equals_covers ds vs j (_ ∷ ts) f h = cc

  pub con_covers : (c : Cons) (cs : List ConDesc) (i : ℕ) → Covers (At decs (l ∷ ls) (point.HaveCon c cs i)) (At decs (l ∷ ls) (point.HaveCons c (cs ++ con i None ∷ [])))
  unfolding have_con constructors datatypes exceptions with_spec spec_item begin_spec
  con_covers c cs i [] f h = h
  con_covers (cons.Datatype ds vs k) cs i ((j, s.Reserved w.KwOf) ∷ ts) f h = cc
  con_covers cons.Exception cs i ((j, s.Reserved w.KwOf) ∷ ts) f h = cc
  con_covers c cs i (_ ∷ ts) f h = h

  pub constructors_cover : (ds : List DataDesc) (vs : List ℕ) (j : ℕ) (cs : List ConDesc) → Covers (At decs (l ∷ ls) (point.HaveCons (cons.Datatype ds vs j) cs)) (At decs (l ∷ ls) (point.Datatypes (ds ++ datatype vs j cs ∷ [])))
  unfolding constructors datatypes with_spec spec_item begin_spec
  constructors_cover ds vs j cs [] f h = h
  constructors_cover ds vs j cs ((i, s.Reserved w.KwBar) ∷ ts) f h = cc
  constructors_cover ds vs j cs (_ ∷ ts) f h = h

-- no `where` stands behind a binding
where_none : (decs : List TopDec) (ls : List Level) (k : Group) (bs : List Bind) → bound decs ls k bs (s.Reserved w.KwWhere) ≡ None
unfolding bound with_spec top_item spec_item begin_spec
where_none decs [] group.Signatures bs = refl
where_none decs [] group.Structures bs = refl
where_none decs [] group.Members bs = refl
where_none decs (l ∷ ls) group.Signatures bs = refl
where_none decs (l ∷ ls) group.Structures bs = refl
where_none decs (l ∷ ls) group.Members bs = refl

-- no `and` stands behind an include
and_none : (decs : List TopDec) (ls : List Level) (x : Spec) → item decs (with_spec ls x) (s.Reserved w.KwAnd) ≡ None
unfolding with_spec top_item spec_item begin_spec
and_none decs [] x = refl
and_none decs (l ∷ ls) x = refl

module _ (first : ℕ) (b : SigBase) (ps : List WherePart) where
  abbrev pub with_goal : Goal → Open
  with_goal g = record { goal = g; first = first; base = b; parts = ps }

  pub binding_covers : (decs : List TopDec) (ls : List Level) (k : Group) (bs : List Bind) (i : ℕ)
      → Covers (At decs ls (point.HaveSig (with_goal (goal.Binding k bs i)))) (At decs ls (point.Bound k (bs ++ bind i (record { first = first; base = b; parts = ps }) ∷ [])))
  unfolding have_sig ended
  binding_covers decs [] k bs i [] f h = h
  binding_covers decs (l ∷ ls) k bs i [] f h = h
  binding_covers decs ls k bs i ((j, s.Reserved w.KwWhere) ∷ ts) f h = absurd (refused (At decs ls (point.Bound k _)) (j, s.Reserved w.KwWhere) ts f (where_none decs ls k _) h)
  binding_covers decs ls k bs i (_ ∷ ts) f h = h

  -- behind `and`, an identifier begins the next binding
  and_covers : (decs : List TopDec) (ls : List Level) (k : Group) (bs : List Bind) (i at : ℕ)
      → Covers (At decs ls (point.AfterAnd (with_goal (goal.Binding k bs i)) at)) (At decs ls (point.WantId k (bs ++ bind i (record { first = first; base = b; parts = ps }) ∷ [])))
  unfolding after_and next_binding want_id ended
  and_covers decs [] k bs i at [] f h = cc
  and_covers decs (l ∷ ls) k bs i at [] f h = cc
  and_covers decs ls k bs i at ((j, s.Alphanumeric) ∷ ts) f h = h
  and_covers decs ls k bs i at (_ ∷ ts) f h = cc

  pub part_covers : (decs : List TopDec) (ls : List Level) (g : Goal) → Covers (At decs ls (point.HavePart (with_goal g))) (At decs ls (point.HaveSig (with_goal g)))
  unfolding have_part have_sig bound ended
  part_covers decs [] g [] f h = h
  part_covers decs (l ∷ ls) g [] f h = h
  part_covers decs ls (goal.Binding k bs i) ((j, s.Reserved w.KwAnd) ∷ ts) f h = and_covers decs ls k bs i j ts f h
  part_covers decs ls goal.Including ((j, s.Reserved w.KwAnd) ∷ ts) f h = absurd (refused (At decs ls (point.HaveSig (with_goal goal.Including))) (j, s.Reserved w.KwAnd) ts f (and_none decs ls _) h)
  part_covers decs ls g (_ ∷ ts) f h = h

pub name_covers : (decs : List TopDec) (ls : List Level) (g : Goal) (i : ℕ) → Covers (At decs ls (point.HaveName g i)) (At decs ls (point.HaveSig (open_name g i)))
unfolding have_name ended
name_covers decs [] g i [] f h = h
name_covers decs (l ∷ ls) g i [] f h = h
name_covers decs ls g i ((j, s.Alphanumeric) ∷ ts) f h = absurd (refused (At decs ls (point.HaveSig (open_name g i))) (j, s.Alphanumeric) ts f (have_sig_none decs ls (open_name g i) j s.Alphanumeric refl) h)
name_covers decs ls g i (_ ∷ ts) f h = h
