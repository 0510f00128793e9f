-- What the grammar of files has, the machine reads.
use Rattle.std.proofs.Common.{◌≡◌, ℕ, Bool, List, [], ◌∷◌, ◌++◌, Some, None, refl, ap, ◌∙◌, subst}
use Rattle.std.specs.Prelude.{IsTrue}
use Rattle.sig_base.specs.declared.word.Word.TheVariants as w
use Rattle.ty_parser.specs.declared.sort.Sort.{Sort}
use Rattle.ty_parser.specs.declared.sort.Sort.TheVariants as s
use Rattle.ty_parser.specs.Grammar.{Numbered}
use Rattle.ty_parser.specs.Sorts.{is_tycon, is_long_tycon, is_strid, is_long_strid}
use Rattle.sig_parser.specs.declared.tree.TopDec.{TopDec}
use Rattle.sig_parser.specs.declared.tree.Bind.{Bind}
use Rattle.sig_parser.specs.declared.tree.SigExp.{SigExp}
use Rattle.sig_parser.specs.declared.tree.SigBase.{SigBase}
use Rattle.sig_parser.specs.declared.tree.WherePart.{WherePart}
use Rattle.sig_parser.specs.declared.tree.Spec.{Spec}
use Rattle.sig_parser.specs.declared.tree.Spec.TheVariants as spec
use Rattle.sig_parser.specs.declared.point.Group.{Group}
use Rattle.sig_parser.specs.declared.point.Group.TheVariants as group
use Rattle.sig_parser.specs.machine.Goals.{Goal, Level, Open}
use Rattle.sig_parser.specs.machine.Goals as goal
use Rattle.sig_parser.specs.machine.Heads.{Headed}
use Rattle.sig_parser.specs.machine.Heads as headed
use Rattle.sig_parser.specs.machine.Constructors.{Cons}
use Rattle.sig_parser.specs.machine.Constructors as cons
use Rattle.sig_parser.specs.declared.point.Shared.TheVariants as shared
use Rattle.sig_parser.specs.machine.Points.{Point}
use Rattle.sig_parser.specs.machine.Points as point
use Rattle.sig_parser.specs.Grammar as grammar
use Rattle.sig_parser.specs.Grammar.{Equated, equated, ValueDescription, TypeAbbreviation, TypeDescription, DatatypeDescription, ConstructorDescription, SignatureExpression, sigexp, SignatureBase, body, name, Specifications, no_specs, more_specs, semicolon, Specification, Bindings, one_binding, more_bindings, Binding, binding, TopDeclaration, signature, top_structure, TopDeclarations, no_decs, more_decs, top_semicolon}
use Rattle.sig_parser.specs.machine.Machine.{At, start, bind, level, is_between, with_spec, top_item, begin_spec, spec_item, bound, want_id, have_id, begin_body, want_sig, vals, types_, eqtypes, datatypes, want_params, datatype_tycon, replica, after_equals, want_replica, exceptions, sharing_type, after_sharing, after_sharing_type, one_shared, ended}
use Rattle.sig_parser.proofs.Leads.{parse, Leads, separated_leads}
use Rattle.sig_parser.proofs.Covers.{signatures_cover, structures_cover, members_cover, vals_cover, types_cover, eqtypes_cover, datatypes_cover, exceptions_cover, includes_cover, shared_cover, include_covers, with_goal, binding_covers, name_covers}
use Rattle.sig_parser.proofs.Described.{accepted, value_leads, abbreviation_leads, constructor_leads, datdesc_leads, con_leads, names_lead, shared_lead, wheres_lead}

-- a signature expression that may go on by `where`
pub record SigLeads (decs : List TopDec) (ls : List Level) (g : Goal) (ts r : List Numbered) (x : SigExp) : Type 0 where
  pub first : ℕ
  pub base : SigBase
  pub parts : List WherePart
  pub is : record { first = first; base = base; parts = parts } ≡ x
  pub leads : Leads (At decs ls (point.WantSig g)) ts (At decs ls (point.HaveSig (with_goal first base parts g))) r

-- datatype tycon = datatype longtycon
replica_leads : (decs : List TopDec) (l : Level) (ls : List Level) (i e d j : ℕ) (so ro : Sort) (r : List Numbered) → IsTrue (is_tycon so) → IsTrue (is_long_tycon ro)
    → Leads (At decs (l ∷ ls) (point.WantParams (headed.Datatype []))) ((i, so) ∷ (e, s.Reserved w.KwEquals) ∷ (d, s.Reserved w.KwDatatype) ∷ (j, ro) ∷ r) (At decs (with_spec (l ∷ ls) (spec.Replica i j)) point.Items) r
unfolding want_params datatype_tycon after_equals replica want_replica
replica_leads decs l ls i e d j so ro r described replicated f h =
    accepted (At decs (l ∷ ls) (point.WantParams (headed.Datatype []))) (At decs (l ∷ ls) (point.HaveTycon (headed.Datatype []) [] i)) (is_tycon so) _ (i, so) ((e, s.Reserved w.KwEquals) ∷ (d, s.Reserved w.KwDatatype) ∷ (j, ro) ∷ r) refl described f
    (accepted (At decs (l ∷ ls) (point.WantReplica i)) (At decs (with_spec (l ∷ ls) (spec.Replica i j)) point.Items) (is_long_tycon ro) None (j, ro) r refl replicated f h)

-- name = name {= name}
equated_types : (decs : List TopDec) (l : Level) (ls : List Level) (ts r : List Numbered) (is : List ℕ) → Equated is_long_tycon ts r is → Leads (At decs (l ∷ ls) point.AfterSharingType) ts (At decs (with_spec (l ∷ ls) (spec.SharingType is)) point.Items) r
unfolding after_sharing_type one_shared
equated_types decs l ls ts r is (equated {i = i} {e = e} {so = so} {ts = m} {is = js} n d) f h =
    accepted (At decs (l ∷ ls) point.AfterSharingType) (At decs (l ∷ ls) (point.OneShared shared.Types i)) (is_long_tycon so) None (i, so) ((e, s.Reserved w.KwEquals) ∷ m) refl n f
    (shared_lead decs l ls shared.Types i d f (shared_cover decs l ls shared.Types (i ∷ js) r f h))

equated_structures : (decs : List TopDec) (l : Level) (ls : List Level) (ts r : List Numbered) (is : List ℕ) → Equated is_long_strid ts r is → Leads (At decs (l ∷ ls) point.AfterSharing) ts (At decs (with_spec (l ∷ ls) (spec.Sharing is)) point.Items) r
unfolding after_sharing one_shared
equated_structures decs l ls ts r is (equated {i = i} {e = e} {so = so} {ts = m} {is = js} n d) f h =
    accepted (At decs (l ∷ ls) point.AfterSharing) (At decs (l ∷ ls) (point.OneShared shared.Structures i)) (is_long_strid so) _ (i, so) ((e, s.Reserved w.KwEquals) ∷ m) refl n f
    (shared_lead decs l ls shared.Structures i d f (shared_cover decs l ls shared.Structures (i ∷ js) r f h))

mutual
  unfolding with_spec spec_item begin_spec begin_body want_sig vals types_ eqtypes datatypes exceptions bound after_sharing sharing_type want_id have_id

  pub sig_leads : {ts r : List Numbered} {x : SigExp} (decs : List TopDec) (ls : List Level) (g : Goal) → SignatureExpression ts r x → SigLeads decs ls g ts r x
  sig_leads decs ls g (sigexp {i = i} {b = b} {ps = ps} d w) =
      record { first = i; base = b; parts = ps; is = refl; leads = λ f h. base_leads decs ls g d f (wheres_lead decs ls i b g w f h) }

  pub base_leads : {i : ℕ} {so : Sort} {ts r : List Numbered} {b : SigBase} (decs : List TopDec) (ls : List Level) (g : Goal) → SignatureBase ((i, so) ∷ ts) r b → Leads (At decs ls (point.WantSig g)) ((i, so) ∷ ts) (At decs ls (point.HaveSig (with_goal i b [] g))) r
  base_leads decs ls g (body {i = i} d) f h = specs_lead decs g i ls d f h
  base_leads {r = r} decs ls g (name {i = i} {so = so} n) f h =
      accepted (At decs ls (point.WantSig g)) (At decs ls (point.HaveName g i)) (is_strid so) _ (i, so) r refl n f (name_covers decs ls g i r f h)

  pub specs_lead : {ts r : List Numbered} {xs : List Spec} (decs : List TopDec) (g : Goal) (first : ℕ) (ls : List Level) → Specifications ts r xs → Leads (At decs (level g first [] ∷ ls) point.Items) ts (At decs (level g first xs ∷ ls) point.Items) r
  specs_lead decs g first ls no_specs f h = h
  specs_lead decs g first ls (more_specs {xs = xs} d x) f h = specs_lead decs g first ls d f (spec_leads decs (level g first xs) ls x f h)
  specs_lead decs g first ls (semicolon d) f h = specs_lead decs g first ls d f h

  pub spec_leads : {ts r : List Numbered} {x : Spec} (decs : List TopDec) (l : Level) (ls : List Level) → Specification ts r x → Leads (At decs (l ∷ ls) point.Items) ts (At decs (with_spec (l ∷ ls) x) point.Items) r
  spec_leads {r = r} decs l ls (grammar.val {ds = ds} d) f h =
      separated_leads w.KwAnd ValueDescription (λ ds. At decs (l ∷ ls) (point.WantVal ds)) (λ ds. At decs (l ∷ ls) (point.Vals ds)) (value_leads decs (l ∷ ls)) (λ ds i m f h. h) d f (vals_cover decs l ls ds r f h)
  spec_leads {r = r} decs l ls (grammar.types {ds = ds} d) f h =
      separated_leads w.KwAnd TypeAbbreviation (λ ds. At decs (l ∷ ls) (point.WantParams (headed.Abbrev ds))) (λ ds. At decs (l ∷ ls) (point.Types ds)) (abbreviation_leads decs l ls) (λ ds i m f h. h) d f (types_cover decs l ls ds r f h)
  spec_leads {r = r} decs l ls (grammar.eqtype {ds = ds} d) f h =
      separated_leads w.KwAnd TypeDescription (λ ds. At decs (l ∷ ls) (point.WantParams (headed.Eqtype ds))) (λ ds. At decs (l ∷ ls) (point.Eqtypes ds)) (constructor_leads decs l ls) (λ ds i m f h. h) d f (eqtypes_cover decs l ls ds r f h)
  spec_leads {r = r} decs l ls (grammar.datatype {ds = ds} d) f h =
      separated_leads w.KwAnd DatatypeDescription (λ ds. At decs (l ∷ ls) (point.WantParams (headed.Datatype ds))) (λ ds. At decs (l ∷ ls) (point.Datatypes ds)) (datdesc_leads decs l ls) (λ ds i m f h. h) d f (datatypes_cover decs l ls ds r f h)
  spec_leads {r = r} decs l ls (grammar.replica {i = i} {e = e} {d = d} {j = j} {so = so} {ro = ro} described replicated) f h = replica_leads decs l ls i e d j so ro r described replicated f h
  spec_leads {r = r} decs l ls (grammar.exception {cs = cs} d) f h =
      separated_leads w.KwAnd ConstructorDescription (λ cs. At decs (l ∷ ls) (point.WantCon cons.Exception cs)) (λ cs. At decs (l ∷ ls) (point.HaveCons cons.Exception cs)) (con_leads decs l ls cons.Exception) (λ cs i m f h. h) d f (exceptions_cover decs l ls cs r f h)
  spec_leads {r = r} decs l ls (grammar.structure {bs = bs} d) f h = bindings_lead decs (l ∷ ls) group.Members d refl f (members_cover decs l ls bs r f h)
  spec_leads {r = r} decs l ls (grammar.include_one d) f h =
      let w = sig_leads decs (l ∷ ls) goal.Including d in
      w.leads f (include_covers decs l ls w.first w.base w.parts r f (ap (λ x. parse (At decs (with_spec (l ∷ ls) (spec.Include (x ∷ []))) point.Items) r) w.is ∙ h))
  spec_leads {r = r} decs l ls (grammar.include_names {gs = gs} d) f h = names_lead decs l ls d f (includes_cover decs l ls gs r f h)
  spec_leads {r = r} decs l ls (grammar.sharing_type {ts = ts} {is = is} d) f h = equated_types decs l ls ts r is d f h
  spec_leads {r = r} decs l ls (grammar.sharing {ts = ts} {is = is} d) f h = equated_structures decs l ls ts r is d f h

  pub bindings_lead : {between : Sort → Bool} {ts r : List Numbered} {bs : List Bind} (decs : List TopDec) (ls : List Level) (k : Group) → Bindings between ts r bs → between ≡ is_between k → Leads (At decs ls (point.WantId k [])) ts (At decs ls (point.Bound k bs)) r
  bindings_lead decs ls k (one_binding d) same f h = binding_leads decs ls k [] d same f h
  bindings_lead decs ls k (more_bindings {bs = bs} q d) same f h = bindings_lead decs ls k q same f (binding_leads decs ls k bs d same f h)

  pub binding_leads : {between : Sort → Bool} {ts r : List Numbered} {b : Bind} (decs : List TopDec) (ls : List Level) (k : Group) (bs : List Bind) → Binding between ts r b → between ≡ is_between k → Leads (At decs ls (point.WantId k bs)) ts (At decs ls (point.Bound k (bs ++ b ∷ []))) r
  binding_leads {r = r} decs ls k bs (binding {i = i} {c = c} {so = so} {co = co} {ts = ts} named between d) same f h =
      let w = sig_leads decs ls (goal.Binding k bs i) d in
      let P : (Sort → Bool) → Type 0 = λ is. IsTrue (is co) in
      accepted (At decs ls (point.WantId k bs)) (At decs ls (point.HaveId k bs i)) (is_strid so) None (i, so) ((c, co) ∷ ts) refl named f
      (accepted (At decs ls (point.HaveId k bs i)) (At decs ls (point.WantSig (goal.Binding k bs i))) (is_between k co) None (c, co) ts refl (subst P same between) f
      (w.leads f (binding_covers w.first w.base w.parts decs ls k bs i r f (ap (λ x. parse (At decs ls (point.Bound k (bs ++ bind i x ∷ []))) r) w.is ∙ h))))

pub dec_leads : {ts r : List Numbered} {d : TopDec} (decs : List TopDec) → TopDeclaration ts r d → Leads (At decs [] point.Items) ts (At (decs ++ d ∷ []) [] point.Items) r
unfolding top_item
dec_leads {r = r} decs (signature {bs = bs} d) f h = bindings_lead decs [] group.Signatures d refl f (signatures_cover decs bs r f h)
dec_leads {r = r} decs (top_structure {bs = bs} d) f h = bindings_lead decs [] group.Structures d refl f (structures_cover decs bs r f h)

decs_lead : {ts r : List Numbered} {decs : List TopDec} → TopDeclarations ts r decs → Leads start ts (At decs [] point.Items) r
unfolding top_item
decs_lead no_decs f h = h
decs_lead (more_decs {ds = decs} d x) f h = decs_lead d f (dec_leads decs x f h)
decs_lead (top_semicolon d) f h = decs_lead d f h

pub parse_complete : {ts : List Numbered} {decs : List TopDec} → TopDeclarations ts [] decs → parse start ts ≡ Some (record { decs = decs })
unfolding ended
parse_complete d = decs_lead d _ refl
