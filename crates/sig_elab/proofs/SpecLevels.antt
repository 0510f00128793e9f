-- Specifications, by what they are.
use Rattle.std.proofs.Common.{◌≡◌, ℕ, List, [], length, map, Result, Ok, Err, IsErrAnd, sym, ap, ◌∙◌, subst}
use Rattle.sig_parser.specs.declared.tree.Bind.{Bind}
use Rattle.sig_parser.specs.declared.tree.ConDesc.{ConDesc}
use Rattle.sig_parser.specs.declared.tree.DataDesc.{DataDesc}
use Rattle.sig_parser.specs.declared.tree.SigBase.{SigBase}
use Rattle.sig_parser.specs.declared.tree.SigBase.TheVariants as base
use Rattle.sig_parser.specs.declared.tree.SigExp.{SigExp}
use Rattle.sig_parser.specs.declared.tree.Spec.{Spec}
use Rattle.sig_parser.specs.declared.tree.Spec.TheVariants as spec
use Rattle.sig_parser.specs.declared.tree.Spec.TheVariants.{rolls-Abbrev, rolls-Datatype, rolls-Eqtype, rolls-Exception, rolls-Include, rolls-Replica, rolls-Sharing, rolls-SharingType, rolls-Structure, rolls-Val}
use Rattle.sig_parser.specs.declared.tree.SigBase.TheFolds.{fold-roll-Spec}
use Rattle.sig_parser.specs.declared.tree.TypeDesc.{TypeDesc}
use Rattle.sig_parser.specs.declared.tree.ValDesc.{ValDesc}
use Rattle.type_core.specs.declared.names.Equality.TheVariants.{IfArgs, Never}
use Rattle.elab_rules.specs.declared.body.Body.{Body}
use Rattle.elab_rules.specs.declared.progress.Progress.{Progress}
use Rattle.elab_rules.specs.declared.site.Site.{Site as TheSite}
use Rattle.elab_rules.specs.declared.refusal.ElabRefusal.{ElabRefusal}
use Rattle.elab_rules.specs.declared.refusal.ElabRefusal.TheVariants.{Refused, NoMemory}
use Rattle.elab_rules.specs.Bodies.{Described, Site, Specified, in_turn, site_from}
use Rattle.elab_rules.specs.Datatypes.{datatypes_described}
use Rattle.elab_rules.specs.Environments.{Environment}
use Rattle.elab_rules.specs.Exceptions.{exceptions_described}
use Rattle.elab_rules.specs.Replications.{replica_described}
use Rattle.elab_rules.specs.Sharing.{shared, types_shared}
use Rattle.elab_rules.specs.Specifications.{Base, Signature, base_of, base_step, bind_step, binding_of, included, signature_of, signature_step, spec_step, specified, structures_described}
use Rattle.elab_rules.specs.States.{State}
use Rattle.elab_rules.specs.TypeDescriptions.{types_described}
use Rattle.elab_rules.specs.Values.{values_described}
use Rattle.elab_rules.specs.Views.{AgreesBody, GivesBody, body_at, site_at, site_of, state_of}
use Rattle.elab_rules.proofs.Levels.{body_elaborated}
use Rattle.elab_rules.proofs.Outcomes.{handed_on}
use Rattle.sig_elab.proofs.SitesWithin.{from_by_now}

pub values_specified : (x : Spec) (values items : List ValDesc) → x ≡ spec.Val values → items ≡ values → specified x ≡ values_described items
values_specified x values items is same = ap specified (is ∙ sym (rolls-Val values)) ∙ fold-roll-Spec Base Specified (ℕ × Signature) Signature base_step spec_step bind_step signature_step _ ∙ ap values_described (sym same)

pub types_specified : (x : Spec) (ds items : List TypeDesc) → x ≡ spec.Abbrev ds → items ≡ ds → specified x ≡ types_described Never items
types_specified x ds items is same = ap specified (is ∙ sym (rolls-Abbrev ds)) ∙ fold-roll-Spec Base Specified (ℕ × Signature) Signature base_step spec_step bind_step signature_step _ ∙ ap (types_described Never) (sym same)

pub eqtypes_specified : (x : Spec) (ds items : List TypeDesc) → x ≡ spec.Eqtype ds → items ≡ ds → specified x ≡ types_described IfArgs items
eqtypes_specified x ds items is same = ap specified (is ∙ sym (rolls-Eqtype ds)) ∙ fold-roll-Spec Base Specified (ℕ × Signature) Signature base_step spec_step bind_step signature_step _ ∙ ap (types_described IfArgs) (sym same)

pub datatypes_specified : (x : Spec) (ds items : List DataDesc) → x ≡ spec.Datatype ds → items ≡ ds → specified x ≡ datatypes_described items
datatypes_specified x ds items is same = ap specified (is ∙ sym (rolls-Datatype ds)) ∙ fold-roll-Spec Base Specified (ℕ × Signature) Signature base_step spec_step bind_step signature_step _ ∙ ap datatypes_described (sym same)

pub replica_specified : (x : Spec) (id other : ℕ) → x ≡ spec.Replica id other → specified x ≡ replica_described id other
replica_specified x id other is = ap specified (is ∙ sym (rolls-Replica id other)) ∙ fold-roll-Spec Base Specified (ℕ × Signature) Signature base_step spec_step bind_step signature_step _

pub exceptions_specified : (x : Spec) (cs items : List ConDesc) → x ≡ spec.Exception cs → items ≡ cs → specified x ≡ exceptions_described items
exceptions_specified x cs items is same = ap specified (is ∙ sym (rolls-Exception cs)) ∙ fold-roll-Spec Base Specified (ℕ × Signature) Signature base_step spec_step bind_step signature_step _ ∙ ap exceptions_described (sym same)

pub structures_specified : (x : Spec) (binds items : List Bind) → x ≡ spec.Structure binds → items ≡ binds → specified x ≡ structures_described (map binding_of items)
structures_specified x binds items is same =
    ap specified (is ∙ sym (rolls-Structure binds)) ∙ fold-roll-Spec Base Specified (ℕ × Signature) Signature base_step spec_step bind_step signature_step _
    ∙ ap (λ bs. structures_described (map binding_of bs)) (sym same)

pub inclusions_specified : (x : Spec) (es items : List SigExp) → x ≡ spec.Include es → items ≡ es → specified x ≡ in_turn included (map signature_of items)
inclusions_specified x es items is same =
    ap specified (is ∙ sym (rolls-Include es)) ∙ fold-roll-Spec Base Specified (ℕ × Signature) Signature base_step spec_step bind_step signature_step _
    ∙ ap (λ xs. in_turn included (map signature_of xs)) (sym same)

pub sharing_types_specified : (x : Spec) (tokens items : List ℕ) → x ≡ spec.SharingType tokens → items ≡ tokens → specified x ≡ types_shared items
sharing_types_specified x tokens items is same = ap specified (is ∙ sym (rolls-SharingType tokens)) ∙ fold-roll-Spec Base Specified (ℕ × Signature) Signature base_step spec_step bind_step signature_step _ ∙ ap types_shared (sym same)

pub sharing_specified : (x : Spec) (tokens items : List ℕ) → x ≡ spec.Sharing tokens → items ≡ tokens → specified x ≡ shared items
sharing_specified x tokens items is same = ap specified (is ∙ sym (rolls-Sharing tokens)) ∙ fold-roll-Spec Base Specified (ℕ × Signature) Signature base_step spec_step bind_step signature_step _ ∙ ap shared (sym same)

-- ---- answers for what is the same
pub spec_same : (f g : Specified) (site : Site) (env : Environment) (s : State) (result : Result Body ElabRefusal) (p : Progress) → f ≡ g → GivesBody (g site env s) result p → GivesBody (f site env s) result p
spec_same f g site env s result p same = subst (λ (h : Specified). GivesBody (h site env s) result p) (sym same)

-- ---- what is shared in a body
refused_so : (o : Described) (e : ElabRefusal) (entries : Environment) (p : Progress) → AgreesBody o (Err e) entries p → GivesBody o (Err e) p
refused_so o (Refused why token) entries p h = h
refused_so o NoMemory entries p h = tt

pub sharing_fails : (f g : Specified) (site : Site) (s : State) (p q : Progress) (own entries : Environment) (result : Result Body ElabRefusal) (e : ElabRefusal) → f ≡ g → entries ≡ own → IsErrAnd result (λ other. other ≡ e)
    → AgreesBody (g site (body_at p entries) s) (Err e) entries q → GivesBody (f site (body_at p own) s) result q
sharing_fails f g site s p q own entries result e same at handed h =
    subst (λ r. GivesBody (f site (body_at p own) s) r q) (sym (handed_on result e handed))
    (subst (λ (h : Specified). GivesBody (h site (body_at p own) s) (Err e) q) (sym same)
    (subst (λ env. GivesBody (g site (body_at p env) s) (Err e) q) at (refused_so (g site (body_at p entries) s) e entries q h)))

pub sharing_done : (f g : Specified) (site : Site) (s : State) (p q : Progress) (own entries : Environment) → f ≡ g → entries ≡ own → g site (body_at p entries) s ≡ Ok (body_at q entries, state_of q) → f site (body_at p own) s ≡ Ok (body_at q own, state_of q)
sharing_done f g site s p q own entries same at h =
    ap (λ (h : Specified). h site (body_at p own) s) same
    ∙ ap (λ env. g site (body_at p env) s) (sym at)
    ∙ h
    ∙ ap (λ env. Ok (body_at q env, state_of q)) at

-- ---- a body that begins
pub body_begun : (p : Progress) (site inner : TheSite) (b : SigBase) (specs items : List Spec) (own : Environment) (n : ℕ) → n ≡ length (state_of p).names → site_of inner ≡ site_from n (site_of site)
    → b ≡ base.Body specs → items ≡ specs → own ≡ [] → base_of b (site_at p site) (state_of p) ≡ in_turn specified items (site_at p inner) (body_at p own) (state_of p)
body_begun p site inner b specs items own n e is of same empty =
    body_elaborated b specs items (site_at p site) (state_of p) of same
    ∙ ap (λ m. in_turn specified items (site_from m (site_at p site)) [] (state_of p)) (sym e)
    ∙ ap (λ at. in_turn specified items at [] (state_of p)) (sym (from_by_now p site inner n is))
    ∙ ap (λ env. in_turn specified items (site_at p inner) (body_at p env) (state_of p)) (sym empty)
