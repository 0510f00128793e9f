-- Specifications keep a body sound, and signature expressions make sound ones.
use Rattle.std.proofs.Common.{◌≡◌, inl, inr, ℕ, Bool, List, [], ◌∷◌, ◌++◌, length, map, slice_get, append-nil, Ok, refl, sym, ap, ◌∙◌, subst, arith}
use Rattle.std.proofs.lemmas.List.{length-append}
use Rattle.std.proofs.lemmas.List.Elements.{All-cons, All-weaker}
use Rattle.sig_parser.specs.declared.tree.Bind.{Bind}
use Rattle.sig_parser.specs.declared.tree.ConDesc.{ConDesc}
use Rattle.sig_parser.specs.declared.tree.DataDesc.{DataDesc}
use Rattle.sig_parser.specs.declared.tree.SigBase.{SigBase}
use Rattle.sig_parser.specs.declared.tree.SigBase.TheVariants as base
use Rattle.sig_parser.specs.declared.tree.SigBase.TheVariants.{rolls-Body, rolls-Name}
use Rattle.sig_parser.specs.declared.tree.SigBase.TheFolds.{fold-roll-SigBase, fold-roll-SigExp, fold-roll-Spec}
use Rattle.sig_parser.specs.declared.tree.SigExp.{SigExp}
use Rattle.sig_parser.specs.declared.tree.Spec.{Spec}
use Rattle.sig_parser.specs.declared.tree.Spec.TheVariants as spec
use Rattle.sig_parser.specs.declared.tree.Spec.TheVariants.{rolls-Abbrev, rolls-Datatype, rolls-Eqtype, rolls-Exception, rolls-Include, rolls-Replica, rolls-Sharing, rolls-SharingType, rolls-Structure, rolls-Val}
use Rattle.sig_parser.specs.declared.tree.TypeDesc.{TypeDesc}
use Rattle.sig_parser.specs.declared.tree.ValDesc.{ValDesc}
use Rattle.type_core.specs.declared.names.Equality.TheVariants.{Never, IfArgs}
use Rattle.type_core.specs.declared.names.TypeName.{TypeName}
use Rattle.elab_env.specs.Names.{is_own}
use Rattle.elab_env.proofs.NameLists.{keeps_appended}
use Rattle.elab_rules.specs.declared.refusal.Why.TheVariants.{Duplicate}
use Rattle.elab_rules.specs.Bodies.{Described, Site, Specified, added, in_turn, site_from, site_within}
use Rattle.elab_rules.specs.Copies.{named_signature}
use Rattle.elab_rules.specs.Datatypes.{datatypes_described}
use Rattle.elab_rules.specs.Environments.{Environment, is_new_structure, the_structure}
use Rattle.elab_rules.specs.Exceptions.{exceptions_described}
use Rattle.elab_types.specs.Outcome.{checked}
use Rattle.elab_rules.specs.Replications.{replica_described}
use Rattle.elab_rules.specs.Sharing.{shared, types_shared}
use Rattle.elab_soundness.specs.Soundness.{AreNamed, HasSoundNames, IsSoundUnit, known_by, paths_within}
use Rattle.elab_types.specs.Sources.{text_at}
use Rattle.elab_rules.specs.Specifications.{Base, Signature, are_new, base_of, base_step, bind_step, binding_of, included, signature_of, signature_step, spec_step, specified, structure_described, structures_described, with_parts}
use Rattle.elab_soundness.specs.Spelling as spelling
use Rattle.elab_soundness.specs.Spelling.{AreSpelledBindings, AreSpelledSignatures, AreSpelledSpecs, IsSpelledBase, IsSpelledSignature, IsSpelledSpec, more_bindings, more_signatures, more_specs, no_bindings, no_signatures, no_specs}
use Rattle.elab_rules.specs.States.{State, within}
use Rattle.elab_rules.specs.TypeDescriptions.{types_described}
use Rattle.elab_rules.specs.Values.{values_described}
use Rattle.elab_rules.specs.Wheres.{parts_applied}
use Rattle.elab_soundness.proofs.valid.Body.{Extends, IsSoundBody, IsSoundSite, body_together, extends_none, known_extended, new_structure, no_environment, one_structure}
use Rattle.elab_soundness.proofs.valid.Copied.{named_sound}
use Rattle.elab_soundness.proofs.valid.Extended.{unit_extended}
use Rattle.elab_soundness.proofs.valid.Named.{named_none}
use Rattle.elab_types.proofs.Outcomes.{checked_parts, ok_is, then_parts}
use Rattle.elab_soundness.proofs.valid.Paths.{tycon_paths}
use Rattle.elab_soundness.proofs.valid.Realized.{parts_kept}
use Rattle.elab_soundness.proofs.valid.Replicas.{replica_kept}
use Rattle.elab_soundness.proofs.valid.Shared.{shared_kept, types_shared_kept}
use Rattle.elab_soundness.proofs.valid.States.{Keeps}
use Rattle.elab_soundness.proofs.valid.Tycons.{datatypes_kept, types_kept}
use Rattle.elab_soundness.proofs.valid.Values.{IsKept, entry_added, exceptions_kept, kept_itself, kept_then, values_kept}
use Rattle.elab_soundness.proofs.valid.Weaker.{AreSound, entries_still}
use Rattle.elab_rules.proofs.Levels.{binding_is}

-- ---- by the outermost form
module _ (site : Site) (own : Environment) (s : State) where
  abbrev made_by : Spec → Described
  made_by x = specified x site own s

  values_are : (ds : List ValDesc) → made_by (spec.Val ds) ≡ values_described ds site own s
  values_are ds = ap made_by (sym (rolls-Val ds)) ∙ ap (λ f. f site own s) (fold-roll-Spec _ _ _ _ base_step spec_step bind_step signature_step _)

  types_are : (ds : List TypeDesc) → made_by (spec.Abbrev ds) ≡ types_described Never ds site own s
  types_are ds = ap made_by (sym (rolls-Abbrev ds)) ∙ ap (λ f. f site own s) (fold-roll-Spec _ _ _ _ base_step spec_step bind_step signature_step _)

  eqtypes_are : (ds : List TypeDesc) → made_by (spec.Eqtype ds) ≡ types_described IfArgs ds site own s
  eqtypes_are ds = ap made_by (sym (rolls-Eqtype ds)) ∙ ap (λ f. f site own s) (fold-roll-Spec _ _ _ _ base_step spec_step bind_step signature_step _)

  datatypes_are : (ds : List DataDesc) → made_by (spec.Datatype ds) ≡ datatypes_described ds site own s
  datatypes_are ds = ap made_by (sym (rolls-Datatype ds)) ∙ ap (λ f. f site own s) (fold-roll-Spec _ _ _ _ base_step spec_step bind_step signature_step _)

  replica_is : (id other : ℕ) → made_by (spec.Replica id other) ≡ replica_described id other site own s
  replica_is id other = ap made_by (sym (rolls-Replica id other)) ∙ ap (λ f. f site own s) (fold-roll-Spec _ _ _ _ base_step spec_step bind_step signature_step _)

  exceptions_are : (cs : List ConDesc) → made_by (spec.Exception cs) ≡ exceptions_described cs site own s
  exceptions_are cs = ap made_by (sym (rolls-Exception cs)) ∙ ap (λ f. f site own s) (fold-roll-Spec _ _ _ _ base_step spec_step bind_step signature_step _)

  structures_are : (binds : List Bind) → made_by (spec.Structure binds) ≡ structures_described (map binding_of binds) site own s
  structures_are binds = ap made_by (sym (rolls-Structure binds)) ∙ ap (λ f. f site own s) (fold-roll-Spec _ _ _ _ base_step spec_step bind_step signature_step _)

  included_are : (es : List SigExp) → made_by (spec.Include es) ≡ in_turn included (map signature_of es) site own s
  included_are es = ap made_by (sym (rolls-Include es)) ∙ ap (λ f. f site own s) (fold-roll-Spec _ _ _ _ base_step spec_step bind_step signature_step _)

  sharing_types_are : (tokens : List ℕ) → made_by (spec.SharingType tokens) ≡ types_shared tokens site own s
  sharing_types_are tokens = ap made_by (sym (rolls-SharingType tokens)) ∙ ap (λ f. f site own s) (fold-roll-Spec _ _ _ _ base_step spec_step bind_step signature_step _)

  sharing_are : (tokens : List ℕ) → made_by (spec.Sharing tokens) ≡ shared tokens site own s
  sharing_are tokens = ap made_by (sym (rolls-Sharing tokens)) ∙ ap (λ f. f site own s) (fold-roll-Spec _ _ _ _ base_step spec_step bind_step signature_step _)

signature_is : (e : SigExp) → (signature_of e).elaborated ≡ with_parts e.parts (base_of e.base)
signature_is e = ap (λ (x : Signature). x.elaborated) (fold-roll-SigExp Base Specified (ℕ × Signature) Signature base_step spec_step bind_step signature_step (record { first = e.first; base = e.base; parts = e.parts }))

body_is : (specs : List Spec) (site : Site) (s : State) → base_of (base.Body specs) site s ≡ in_turn (λ (x : Specified). x) (map specified specs) (site_from (length s.names) site) [] s
body_is specs site s = ap (λ b. base_of b site s) (sym (rolls-Body specs)) ∙ ap (λ (f : Base). f site s) (fold-roll-SigBase Base Specified (ℕ × Signature) Signature base_step spec_step bind_step signature_step _)

name_is : (token : ℕ) (site : Site) (s : State) → base_of (base.Name token) site s ≡ named_signature token site s
name_is token site s = ap (λ b. base_of b site s) (sym (rolls-Name token)) ∙ ap (λ (f : Base). f site s) (fold-roll-SigBase Base Specified (ℕ × Signature) Signature base_step spec_step bind_step signature_step _)

module _ (tops : List (List ℕ)) where
  -- ---- where inner expressions stand
  keeps_extended : (s t : State) (more : List TypeName) (flags : List Bool) → length s.gone ≡ length s.names → Extends s t more flags → Keeps s t
  keeps_extended s t more flags counted x = record {
    known = known_extended s t more flags counted x;
    own = λ n e. ap (λ names. is_own (slice_get names n)) x.names ∙ (keeps_appended s.names more).own n e;
  }

  -- what is seen from within a body
  inner_site : (base : State) (site : Site) (path : List ℕ) (own before : Environment) (s : State) → IsSoundSite tops base site → IsSoundBody tops base site.path own s → AreSound (known_by s) before → IsSoundSite tops s (site_within path before site)
  inner_site base site path own before s seen h earlier =
      let known = known_extended base s h.more h.flags seen.counted h.extends in
      record {
        around = All-cons (AreSound (known_by s)) before site.around earlier (All-weaker (AreSound (known_by base)) (AreSound (known_by s)) (entries_still (known_by base) (known_by s) known) site.around seen.around);
        units = All-weaker (IsSoundUnit base) (IsSoundUnit s) (unit_extended base s h.more h.flags seen.counted h.extends) site.units seen.units;
        outside = seen.outside;
        initial = λ n count e. known n count (seen.initial n count e);
        counted = (h.sound).counted;
        later = omega (arith, seen.later, ap length (h.extends).names, length-append base.names h.more);
      }

  empty_body : (path : List ℕ) (s : State) → HasSoundNames tops s → IsSoundBody tops s path [] s
  empty_body path s sound = record { more = []; flags = []; extends = extends_none s; sound = sound; env = no_environment (known_by s); named = named_none (paths_within path []) }

  -- the names of a structure have its type constructors
  structure_named : (path id : List ℕ) (inner : Environment) (more : List TypeName) (flags : List Bool) → AreNamed (paths_within (within path id) inner) more flags → AreNamed (paths_within path (the_structure id inner ∷ [])) more flags
  structure_named path id inner more flags h =
      subst (λ ps. AreNamed ps more flags) (sym (tycon_paths.structure path id inner [] ∙ append-nil (paths_within (within path id) inner))) h

  -- ---- one structure, one inclusion
  structure_kept : (base : State) (site : Site) (seen : IsSoundSite tops base site) (before : Environment) (bind : ℕ × Signature) (own : Environment) (s : State) (r : Environment × State) → spelling.NamesUnit site.texts bind.0 → IsSoundBody tops base site.path own s
      → ((q : Environment × State) → bind.1.elaborated (site_within (within site.path (text_at site.texts bind.0)) before site) s ≡ Ok q → IsSoundBody tops s (within site.path (text_at site.texts bind.0)) q.0 q.1)
      → structure_described before bind site own s ≡ Ok r → IsKept tops base site seen s r
  structure_kept base site seen before bind own s r named h inner e =
      let id = text_at site.texts bind.0 in
      let last : Environment × State → Described = λ q. added site (the_structure id q.0) bind.0 own q.1 in
      let a = checked_parts (is_new_structure id own) _ bind.0 _ r e in
      let b = then_parts (bind.1.elaborated (site_within (within site.path id) before site) s) last r a.1 in
      let k = inner b.0 b.1 in
      let body = body_together tops base site.path own (the_structure id b.0.0 ∷ []) s b.0.1 k.more k.flags h k.extends k.sound
      (one_structure (known_by b.0.1) id b.0.0 (record { alphanumeric = named.0; short = named.1 }) k.env) (new_structure id b.0.0 own a.0) (structure_named site.path id b.0.0 k.more k.flags k.named) in
      kept_then tops base site seen s b.0.1 r (keeps_extended s b.0.1 k.more k.flags (h.sound).counted k.extends) (entry_added tops base site seen (the_structure id b.0.0) bind.0 own b.0.1 r body b.2)

  included_kept : (base : State) (site : Site) (signature : Signature) (own : Environment) (s : State) (r : Environment × State) → IsSoundBody tops base site.path own s
      → ((q : Environment × State) → signature.elaborated (site_within site.path own site) s ≡ Ok q → IsSoundBody tops s site.path q.0 q.1)
      → included signature site own s ≡ Ok r → IsSoundBody tops base site.path r.0 r.1
  included_kept base site signature own s r h inner e =
      let last : Environment × State → Described = λ q. checked (are_new q.0 own) Duplicate signature.first (Ok (own ++ q.0, q.1)) in
      let a = then_parts (signature.elaborated (site_within site.path own site) s) last r e in
      let b = checked_parts (are_new a.0.0 own) Duplicate signature.first (Ok (own ++ a.0.0, a.0.1)) r a.2 in
      let k = inner a.0 a.1 in
      subst (λ (q : Environment × State). IsSoundBody tops base site.path q.0 q.1) (ok_is (own ++ a.0.0, a.0.1) r b.1)
      (body_together tops base site.path own a.0.0 s a.0.1 k.more k.flags h k.extends k.sound k.env b.0 k.named)

-- ---- all forms
module _ (tops texts : List (List ℕ)) where
  -- the site in the file of these texts
  abbrev at : Site → Site
  at site = record { texts = texts; path = site.path; around = site.around; base = site.base; units = site.units; declaring = site.declaring }

  mutual
    spec_kept : (base : State) (site : Site) (seen : IsSoundSite tops base (at site)) → site.base ≡ length base.names → (x : Spec) → IsSpelledSpec texts x → (own : Environment) (s : State) (r : Environment × State) → IsSoundBody tops base site.path own s
        → specified x (at site) own s ≡ Ok r → IsSoundBody tops base site.path r.0 r.1
    spec_kept base site seen begun x (spelling.values {ds = ds} k) own s r h e = (values_kept tops base (at site) seen ds own s r k h (sym (values_are (at site) own s ds) ∙ e)).body
    spec_kept base site seen begun x (spelling.types {ds = ds} k) own s r h e = (types_kept tops base (at site) seen Never ds own s r (inl refl) k h (sym (types_are (at site) own s ds) ∙ e)).body
    spec_kept base site seen begun x (spelling.eqtypes {ds = ds} k) own s r h e = (types_kept tops base (at site) seen IfArgs ds own s r (inr refl) k h (sym (eqtypes_are (at site) own s ds) ∙ e)).body
    spec_kept base site seen begun x (spelling.datatypes {ds = ds} k) own s r h e = (datatypes_kept tops base (at site) seen ds own s r k h (sym (datatypes_are (at site) own s ds) ∙ e)).body
    spec_kept base site seen begun x (spelling.replica {token = id} {other = other} k) own s r h e = (replica_kept tops base (at site) seen id other own s r k h (sym (replica_is (at site) own s id other) ∙ e)).body
    spec_kept base site seen begun x (spelling.exceptions {ds = ds} k) own s r h e = (exceptions_kept tops base (at site) seen ds own s r k h (sym (exceptions_are (at site) own s ds) ∙ e)).body
    spec_kept base site seen begun x (spelling.structures {bindings = binds} k) own s r h e = (bindings_kept base site seen own binds k own s r (h.env).entries h (sym (structures_are (at site) own s binds) ∙ e)).body
    spec_kept base site seen begun x (spelling.included {signatures = es} k) own s r h e = signatures_kept base site seen es k own s r h (sym (included_are (at site) own s es) ∙ e)
    spec_kept base site seen begun x (spelling.sharing_type {tokens = tokens}) own s r h e = types_shared_kept tops base (at site) seen begun tokens own s r h (sym (sharing_types_are (at site) own s tokens) ∙ e)
    spec_kept base site seen begun x (spelling.sharing {tokens = tokens}) own s r h e = shared_kept tops base (at site) seen begun tokens own s r h (sym (sharing_are (at site) own s tokens) ∙ e)

    bindings_kept : (base : State) (site : Site) (seen : IsSoundSite tops base (at site)) (before : Environment) (binds : List Bind) → AreSpelledBindings texts binds → (own : Environment) (s : State) (r : Environment × State) → AreSound (known_by s) before → IsSoundBody tops base site.path own s
        → in_turn (structure_described before) (map binding_of binds) (at site) own s ≡ Ok r → IsKept tops base (at site) seen s r
    bindings_kept base site seen before binds no_bindings own s r earlier h e = subst (IsKept tops base (at site) seen s) (ok_is (own, s) r e) (kept_itself tops base (at site) seen own s h)
    bindings_kept base site seen before binds (more_bindings {bind = bind} {bindings = rest} named spelled k) own s r earlier h e =
        let path = within site.path (text_at texts bind.id) in
        let next : Environment × State → Described = λ q. in_turn (structure_described before) (map binding_of rest) (at site) q.0 q.1 in
        let a = then_parts (structure_described before (binding_of bind) (at site) own s) next r e in
        let first = structure_kept tops base (at site) seen before (bind.id, signature_of bind.rhs) own s a.0 named h
        (λ q f. signature_kept (site_within path before site) bind.rhs spelled s q (inner_site tops base (at site) path own before s seen h earlier) h.sound f)
        (ap (λ b. structure_described before b (at site) own s) (sym (binding_is bind)) ∙ a.1) in
        kept_then tops base (at site) seen s a.0.1 r first.grows
        (bindings_kept base site seen before rest k a.0.0 a.0.1 r (entries_still (known_by s) (known_by a.0.1) (first.grows).known before earlier) first.body a.2)

    signatures_kept : (base : State) (site : Site) (seen : IsSoundSite tops base (at site)) (es : List SigExp) → AreSpelledSignatures texts es → (own : Environment) (s : State) (r : Environment × State) → IsSoundBody tops base site.path own s
        → in_turn included (map signature_of es) (at site) own s ≡ Ok r → IsSoundBody tops base site.path r.0 r.1
    signatures_kept base site seen es no_signatures own s r h e = subst (λ (q : Environment × State). IsSoundBody tops base site.path q.0 q.1) (ok_is (own, s) r e) h
    signatures_kept base site seen es (more_signatures {e = x} {es = rest} spelled k) own s r h e =
        let next : Environment × State → Described = λ q. in_turn included (map signature_of rest) (at site) q.0 q.1 in
        let a = then_parts (included (signature_of x) (at site) own s) next r e in
        let first = included_kept tops base (at site) (signature_of x) own s a.0 h
        (λ q f. signature_kept (site_within site.path own site) x spelled s q (inner_site tops base (at site) site.path own own s seen h (h.env).entries) h.sound f) a.1 in
        signatures_kept base site seen rest k a.0.0 a.0.1 r first a.2

    specs_kept : (base : State) (site : Site) (seen : IsSoundSite tops base (at site)) → site.base ≡ length base.names → (xs : List Spec) → AreSpelledSpecs texts xs → (own : Environment) (s : State) (r : Environment × State) → IsSoundBody tops base site.path own s
        → in_turn (λ (x : Specified). x) (map specified xs) (at site) own s ≡ Ok r → IsSoundBody tops base site.path r.0 r.1
    specs_kept base site seen begun xs no_specs own s r h e = subst (λ (q : Environment × State). IsSoundBody tops base site.path q.0 q.1) (ok_is (own, s) r e) h
    specs_kept base site seen begun xs (more_specs {x = x} {xs = rest} k l) own s r h e =
        let next : Environment × State → Described = λ q. in_turn (λ (f : Specified). f) (map specified rest) (at site) q.0 q.1 in
        let a = then_parts (specified x (at site) own s) next r e in
        specs_kept base site seen begun rest l a.0.0 a.0.1 r (spec_kept base site seen begun x k own s a.0 h a.1) a.2

    base_kept : (site : Site) (b : SigBase) → IsSpelledBase texts b → (s : State) (r : Environment × State) → IsSoundSite tops s (at site) → HasSoundNames tops s → base_of b (at site) s ≡ Ok r → IsSoundBody tops s site.path r.0 r.1
    base_kept site b (spelling.body {specs = specs} k) s r seen sound e =
        specs_kept s (site_from (length s.names) site) (record { around = seen.around; units = seen.units; outside = seen.outside; initial = seen.initial; counted = seen.counted; later = seen.later }) refl specs k [] s r
        (empty_body tops site.path s sound) (sym (body_is specs (at site) s) ∙ e)
    base_kept site b (spelling.name {token = token}) s r seen sound e = named_sound tops s (at site) token r seen sound (sym (name_is token (at site) s) ∙ e)

    pub signature_kept : (site : Site) (x : SigExp) → IsSpelledSignature texts x → (s : State) (r : Environment × State) → IsSoundSite tops s (at site) → HasSoundNames tops s → (signature_of x).elaborated (at site) s ≡ Ok r → IsSoundBody tops s site.path r.0 r.1
    signature_kept site x (spelling.sigexp {e = y} k l) s r seen sound e =
        let next : Environment × State → Described = λ q. parts_applied y.parts (length s.names) (at site) q.0 q.1 in
        let a = then_parts (base_of y.base (at site) s) next r (sym (ap (λ (f : Base). f (at site) s) (signature_is y)) ∙ e) in
        parts_kept tops s (at site) seen y.parts a.0.0 a.0.1 r l (base_kept site y.base k s a.0 seen sound a.1) a.2
