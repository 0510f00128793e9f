-- What the grammar of files has, the machine reads.
use Rattle.std.proofs.Common.{◌≡◌, ℕ, Bool, List, [], ◌∷◌, ◌++◌, Option, Some, None, refl, ap, ◌∙◌}
use Rattle.std.specs.Prelude.{IsTrue, if◌then◌else◌}
use Rattle.sig_base.specs.declared.word.Word.TheVariants as w
use Rattle.ty_parser.specs.declared.sort.Sort.{Sort}
use Rattle.ty_parser.specs.declared.sort.Sort.TheVariants as s
use Rattle.ty_parser.specs.Grammar.{Numbered}
use Rattle.ty_parser.specs.Sorts.{is_vid, is_strid}
use Rattle.sig_parser.specs.declared.tree.TopDec.{TopDec}
use Rattle.sig_parser.specs.declared.tree.SigExp.{SigExp}
use Rattle.sig_parser.specs.declared.tree.SigBase.{SigBase}
use Rattle.sig_parser.specs.declared.tree.WherePart.{WherePart}
use Rattle.sig_parser.specs.declared.tree.ValDesc.{ValDesc}
use Rattle.sig_parser.specs.declared.tree.TypeDesc.{TypeDesc}
use Rattle.sig_parser.specs.declared.tree.DataDesc.{DataDesc}
use Rattle.sig_parser.specs.declared.tree.ConDesc.{ConDesc}
use Rattle.sig_parser.specs.machine.Goals.{Goal, Level, Open}
use Rattle.sig_parser.specs.machine.Goals as goal
use Rattle.sig_parser.specs.machine.Heads.{Headed}
use Rattle.sig_parser.specs.machine.Heads as headed
use Rattle.sig_parser.specs.machine.Constructors.{Cons}
use Rattle.sig_parser.specs.machine.Constructors as cons
use Rattle.sig_parser.specs.machine.Owners.{Owner}
use Rattle.sig_parser.specs.machine.Owners as owner
use Rattle.sig_parser.specs.declared.point.Shared.{Shared}
use Rattle.sig_parser.specs.machine.Points.{Point}
use Rattle.sig_parser.specs.machine.Points as point
use Rattle.sig_parser.specs.Grammar as grammar
use Rattle.sig_parser.specs.Grammar.{is_described_vid, Separated, Named, TyVar, tyvar, TyVarSeq, no_variables, variable, variables, ValueDescription, TypeDescription, constructor, TypeAbbreviation, without_type, with_type, ConstructorDescription, constant, carrying, DatatypeDescription, datdesc, TypeRealization, part, Realizations, no_parts, parts, SomeRealizations, by_where, by_and, name_of, SignatureNames, two_names, more_names, Equated, equated}
use Rattle.sig_parser.specs.machine.Machine as machine
use Rattle.sig_parser.specs.machine.Machine.{State, At, description, datatype, con, is_name, is_shared, begin_body, want_sig, have_sig, have_name, after_where, have_part, after_and, want_val, have_val, vals, types_, eqtypes, datatypes, begin_params, want_tycon, want_params, want_param, have_param, where_tycon, type_tycon, datatype_tycon, want_con, constructors, exceptions, have_con, includes, one_shared, want_shared, have_shared, step}
use Rattle.sig_parser.proofs.Leads.{Leads, step_leads, separated_leads, typed_leads}
use Rattle.sig_parser.proofs.Covers.{type_tycon_covers, eqtype_tycon_covers, equals_covers, con_covers, constructors_cover, with_goal, part_covers}

-- a test that holds leads on
pub accepted : (st st' : State) (b : Bool) (o : Option State) (t : Numbered) (ts : List Numbered) → step st t ≡ (if b then Some st' else o) → IsTrue b → Leads st (t ∷ ts) st' ts
accepted st st' b o t ts e holds = step_leads st st' t ts (e ∙ ap (λ b. if b then Some st' else o) holds)

module _ (decs : List TopDec) (ls : List Level) where
  -- parameters, and a type constructor after them

  begins_variable : (h : Headed) (i : ℕ) → want_params decs ls h i s.Variable ≡ Some (At decs ls (point.WantTycon h (i ∷ [])))
  unfolding want_params begin_params
  begins_variable (headed.Where o at) i = refl
  begins_variable (headed.Abbrev ds) i = refl
  begins_variable (headed.Eqtype ds) i = refl
  begins_variable (headed.Datatype ds) i = refl

  begins_paren : (h : Headed) (i : ℕ) → want_params decs ls h i (s.Reserved w.KwLParen) ≡ Some (At decs ls (point.WantParam h []))
  unfolding want_params begin_params
  begins_paren (headed.Where o at) i = refl
  begins_paren (headed.Abbrev ds) i = refl
  begins_paren (headed.Eqtype ds) i = refl
  begins_paren (headed.Datatype ds) i = refl

  tycon_leads : (h : Headed) (vs : List ℕ) (i : ℕ) (so : Sort) (ts : List Numbered) → IsTrue (is_name h so) → Leads (At decs ls (point.WantTycon h vs)) ((i, so) ∷ ts) (At decs ls (point.HaveTycon h vs i)) ts
  unfolding want_tycon
  tycon_leads h vs i so ts named = accepted (At decs ls (point.WantTycon h vs)) (At decs ls (point.HaveTycon h vs i)) (is_name h so) None (i, so) ts refl named

  variable_leads : (h : Headed) (vs : List ℕ) (ts r : List Numbered) (v : ℕ) → TyVar ts r v → Leads (At decs ls (point.WantParam h vs)) ts (At decs ls (point.HaveParam h (vs ++ v ∷ []))) r
  unfolding want_param
  variable_leads h vs ts r v tyvar f x = x

  params_leads : {i : ℕ} {so : Sort} {ts r : List Numbered} {vs : List ℕ} (h : Headed) → TyVarSeq ts ((i, so) ∷ r) vs → IsTrue (is_name h so) → Leads (At decs ls (point.WantParams h)) ts (At decs ls (point.HaveTycon h vs i)) r
  unfolding want_params have_param
  params_leads {i = i} {so = so} {r = r} h no_variables named f x = accepted (At decs ls (point.WantParams h)) (At decs ls (point.HaveTycon h [] i)) (is_name h so) (begin_params decs ls h i so) (i, so) r refl named f x
  params_leads {i = i} {so = so} {r = r} h (variable {i = v}) named f x =
      step_leads (At decs ls (point.WantParams h)) (At decs ls (point.WantTycon h (v ∷ []))) (v, s.Variable) ((i, so) ∷ r) (begins_variable h v) f (tycon_leads h (v ∷ []) i so r named f x)
  params_leads {i = i} {so = so} {r = r} {vs = vs} h (variables {i = a} {ts = ts} d) named f x =
      step_leads (At decs ls (point.WantParams h)) (At decs ls (point.WantParam h [])) (a, s.Reserved w.KwLParen) ts (begins_paren h a) f
      (separated_leads w.KwComma TyVar (λ vs. At decs ls (point.WantParam h vs)) (λ vs. At decs ls (point.HaveParam h vs)) (variable_leads h) (λ vs j m f x. x) d f
      (tycon_leads h vs i so r named f x))

  -- vid : ty
  pub value_leads : (ds : List ValDesc) (ts r : List Numbered) (d : ValDesc) → ValueDescription ts r d → Leads (At decs ls (point.WantVal ds)) ts (At decs ls (point.Vals (ds ++ d ∷ []))) r
  unfolding want_val have_val
  value_leads ds ts r d (grammar.value {i = i} {c = c} {so = so} {ts = m} vid t) f h =
      accepted (At decs ls (point.WantVal ds)) (At decs ls (point.HaveVal ds i)) (is_described_vid so) None (i, so) ((c, s.Reserved w.KwColon) ∷ m) refl vid f (typed_leads decs ls (owner.Val ds i) t f h)

  -- type tyvarseq longtycon = ty, behind `where` or `and`
  pub part_leads : {at : ℕ} {m r : List Numbered} {p : WherePart} (o : Open) → TypeRealization at m r p → Leads (At decs ls (point.AfterWhere o at)) m (At decs ls (point.HavePart (machine.with_part o p))) r
  unfolding after_where where_tycon
  part_leads o (part {at = at} {i = i} {vs = vs} d named t) f h = params_leads (headed.Where o at) d named f (typed_leads decs ls (owner.Where o at vs i) t f h)

  next_part_leads : {at : ℕ} {m r : List Numbered} {p : WherePart} (o : Open) → TypeRealization at m r p → Leads (At decs ls (point.AfterAnd o at)) m (At decs ls (point.HavePart (machine.with_part o p))) r
  unfolding after_and after_where where_tycon
  next_part_leads o (part {at = at} {i = i} {vs = vs} d named t) f h = params_leads (headed.Where o at) d named f (typed_leads decs ls (owner.Where o at vs i) t f h)

  mutual
    unfolding have_sig have_part

    -- {where part {and part}}
    pub wheres_lead : {ts r : List Numbered} {ps : List WherePart} (first : ℕ) (b : SigBase) (g : Goal) → Realizations ts r ps → Leads (At decs ls (point.HaveSig (with_goal first b [] g))) ts (At decs ls (point.HaveSig (with_goal first b ps g))) r
    wheres_lead first b g no_parts f h = h
    wheres_lead {r = r} {ps = ps} first b g (parts d) f h = parts_lead first b g d f (part_covers first b ps decs ls g r f h)

    pub parts_lead : {ts r : List Numbered} {ps : List WherePart} (first : ℕ) (b : SigBase) (g : Goal) → SomeRealizations ts r ps → Leads (At decs ls (point.HaveSig (with_goal first b [] g))) ts (At decs ls (point.HavePart (with_goal first b ps g))) r
    parts_lead first b g (by_where {ps = ps} d p) f h = wheres_lead first b g d f (part_leads (with_goal first b ps g) p f h)
    parts_lead first b g (by_and {ps = ps} d p) f h = parts_lead first b g d f (next_part_leads (with_goal first b ps g) p f h)

-- descriptions in a body
module _ (decs : List TopDec) (l : Level) (ls : List Level) where
  abbrev at : Point → State
  at p = At decs (l ∷ ls) p

  -- tyvarseq tycon [= ty]
  pub abbreviation_leads : (ds : List TypeDesc) (ts r : List Numbered) (d : TypeDesc) → TypeAbbreviation ts r d → Leads (at (point.WantParams (headed.Abbrev ds))) ts (at (point.Types (ds ++ d ∷ []))) r
  unfolding type_tycon
  abbreviation_leads ds ts r d (without_type {i = i} {vs = vs} p named) f h = params_leads decs (l ∷ ls) (headed.Abbrev ds) p named f (type_tycon_covers decs l ls ds vs i r f h)
  abbreviation_leads ds ts r d (with_type {i = i} {vs = vs} p named t) f h = params_leads decs (l ∷ ls) (headed.Abbrev ds) p named f (typed_leads decs (l ∷ ls) (owner.Abbrev ds vs i) t f h)

  -- tyvarseq tycon
  pub constructor_leads : (ds : List TypeDesc) (ts r : List Numbered) (d : TypeDesc) → TypeDescription ts r d → Leads (at (point.WantParams (headed.Eqtype ds))) ts (at (point.Eqtypes (ds ++ d ∷ []))) r
  constructor_leads ds ts r d (constructor {i = i} {vs = vs} p named) f h = params_leads decs (l ∷ ls) (headed.Eqtype ds) p named f (eqtype_tycon_covers decs l ls ds vs i r f h)

  -- vid [of ty]
  pub con_leads : (c : Cons) (cs : List ConDesc) (ts r : List Numbered) (d : ConDesc) → ConstructorDescription ts r d → Leads (at (point.WantCon c cs)) ts (at (point.HaveCons c (cs ++ d ∷ []))) r
  unfolding want_con have_con
  con_leads c cs ts r d (constant {i = i} {so = so} vid) f h =
      accepted (at (point.WantCon c cs)) (at (point.HaveCon c cs i)) (is_vid so) None (i, so) r refl vid f (con_covers decs l ls c cs i r f h)
  con_leads c cs ts r d (carrying {i = i} {o = o} {so = so} {ts = m} vid t) f h =
      accepted (at (point.WantCon c cs)) (at (point.HaveCon c cs i)) (is_vid so) None (i, so) ((o, s.Reserved w.KwOf) ∷ m) refl vid f (typed_leads decs (l ∷ ls) (owner.Con c cs i) t f h)

  -- tyvarseq tycon = vid [of ty] {| vid [of ty]}
  pub datdesc_leads : (ds : List DataDesc) (ts r : List Numbered) (d : DataDesc) → DatatypeDescription ts r d → Leads (at (point.WantParams (headed.Datatype ds))) ts (at (point.Datatypes (ds ++ d ∷ []))) r
  unfolding datatype_tycon constructors
  datdesc_leads ds ts r d (datdesc {i = i} {m = m} {vs = vs} {cs = cs} p named c) f h =
      params_leads decs (l ∷ ls) (headed.Datatype ds) p named f
      (equals_covers decs l ls ds vs i m f
      (separated_leads w.KwBar ConstructorDescription (λ cs. at (point.WantCon (cons.Datatype ds vs i) cs)) (λ cs. at (point.HaveCons (cons.Datatype ds vs i) cs)) (con_leads (cons.Datatype ds vs i)) (λ cs j m f h. h) c f
      (constructors_cover decs l ls ds vs i cs r f h)))

  -- sigid sigid {sigid}
  pub names_lead : {ts r : List Numbered} {gs : List SigExp} → SignatureNames ts r gs → Leads (at (point.WantSig goal.Including)) ts (at (point.Includes gs)) r
  unfolding want_sig have_name machine.two_names includes
  names_lead {r = r} (two_names {i = i} {j = j} {so = so} {ro = ro} one two) f h =
      accepted (at (point.WantSig goal.Including)) (at (point.HaveName goal.Including i)) (is_strid so) _ (i, so) ((j, ro) ∷ r) refl one f
      (accepted (at (point.HaveName goal.Including i)) (at (point.Includes (name_of i ∷ name_of j ∷ []))) (is_strid ro) _ (j, ro) r refl two f h)
  names_lead {r = r} (more_names {i = i} {so = so} {gs = gs} d named) f h =
      names_lead d f (accepted (at (point.Includes gs)) (at (point.Includes (gs ++ name_of i ∷ []))) (is_strid so) _ (i, so) r refl named f h)

  -- name {= name}
  pub shared_lead : {ts r : List Numbered} {is : List ℕ} (k : Shared) (i : ℕ) → Separated w.KwEquals (Named (is_shared k)) ts r is → Leads (at (point.WantShared k (i ∷ []))) ts (at (point.HaveShared k (i ∷ is))) r
  unfolding have_shared want_shared
  shared_lead k i d = separated_leads w.KwEquals (Named (is_shared k)) (λ is. at (point.WantShared k (i ∷ is))) (λ is. at (point.HaveShared k (i ∷ is))) each (λ is j m f h. h) d
    where
      each : (is : List ℕ) (ts r : List Numbered) (j : ℕ) → Named (is_shared k) ts r j → Leads (at (point.WantShared k (i ∷ is))) ts (at (point.HaveShared k (i ∷ is ++ j ∷ []))) r
      each is ts r j (grammar.named {so = so} n) = accepted (at (point.WantShared k (i ∷ is))) (at (point.HaveShared k (i ∷ is ++ j ∷ []))) (is_shared k so) None (j, so) r refl n
