-- Signature expressions, by their outermost form.
use Rattle.std.proofs.Common.{◌≡◌, ℕ, List, [], ◌∷◌, length, map, Ok, Err, refl, sym, ap, ◌∙◌}
use Rattle.sig_parser.specs.declared.tree.Bind.{Bind}
use Rattle.sig_parser.specs.declared.tree.Spec.{Spec}
use Rattle.sig_parser.specs.declared.tree.SigExp.{SigExp}
use Rattle.sig_parser.specs.declared.tree.SigBase.{SigBase}
use Rattle.sig_parser.specs.declared.tree.SigBase.TheVariants as base
use Rattle.sig_parser.specs.declared.tree.SigBase.TheVariants.{rolls-Body, rolls-Name}
use Rattle.sig_parser.specs.declared.tree.WherePart.{WherePart}
use Rattle.sig_parser.specs.declared.tree.SigBase.TheFolds.{fold-roll-Bind, fold-roll-SigBase, fold-roll-SigExp}
use Rattle.elab_rules.specs.Bodies.{Described, Site, Specified, in_turn, site_from}
use Rattle.elab_rules.specs.Copies.{named_signature}
use Rattle.elab_rules.specs.Environments.{Environment}
use Rattle.elab_types.specs.Outcome.{and_then}
use Rattle.elab_rules.specs.Specifications.{Base, Signature, base_of, base_step, bind_step, binding_of, signature_of, signature_step, spec_step, specified, with_parts}
use Rattle.elab_rules.specs.States.{State}
use Rattle.elab_rules.specs.Wheres.{parts_applied}

-- ---- phrases in turn, by what they are
then_same : (o : Described) (f g : Environment × State → Described) → ((r : Environment × State) → f r ≡ g r) → and_then o f ≡ and_then o g
then_same (Ok r) f g same = same r
then_same (Err failure) f g same = refl

pub turns_mapped : {A : Type 0} (step : A → Specified) (xs : List A) (site : Site) (env : Environment) (s : State) → in_turn (λ (spec : Specified). spec) (map step xs) site env s ≡ in_turn step xs site env s
turns_mapped step [] site env s = refl
turns_mapped step (x ∷ xs) site env s = then_same (step x site env s) _ _ (λ r. turns_mapped step xs site r.0 r.1)

-- ---- one level
pub signature_is : (e : SigExp) → (signature_of e).elaborated ≡ with_parts e.parts (base_of e.base)
signature_is e = ap (λ (x : Signature). x.elaborated) (fold-roll-SigExp Base Specified (ℕ × Signature) Signature base_step spec_step bind_step signature_step (record { first = e.first; base = e.base; parts = e.parts }))

pub first_is : (e : SigExp) → (signature_of e).first ≡ e.first
first_is e = ap (λ (x : Signature). x.first) (fold-roll-SigExp Base Specified (ℕ × Signature) Signature base_step spec_step bind_step signature_step (record { first = e.first; base = e.base; parts = e.parts }))

-- a binding
pub binding_is : (b : Bind) → binding_of b ≡ (b.id, signature_of b.rhs)
binding_is b = fold-roll-Bind Base Specified (ℕ × Signature) Signature base_step spec_step bind_step signature_step (record { id = b.id; rhs = b.rhs })

body_is : (specs : List Spec) → base_of (base.Body specs) ≡ (λ site s. in_turn (λ (spec : Specified). spec) (map specified specs) (site_from (length s.names) site) [] s)
body_is specs = ap base_of (sym (rolls-Body specs)) ∙ fold-roll-SigBase Base Specified (ℕ × Signature) Signature base_step spec_step bind_step signature_step _

-- a body
pub body_elaborated : (b : SigBase) (specs items : List Spec) (site : Site) (s : State) → b ≡ base.Body specs → items ≡ specs → base_of b site s ≡ in_turn specified items (site_from (length s.names) site) [] s
body_elaborated b specs items site s is same =
    ap (λ x. base_of x site s) is
    ∙ ap (λ f. f site s) (body_is specs)
    ∙ turns_mapped specified specs (site_from (length s.names) site) [] s
    ∙ ap (λ xs. in_turn specified xs (site_from (length s.names) site) [] s) (sym same)

-- a copy of a signature
pub name_elaborated : (b : SigBase) (token : ℕ) (site : Site) (s : State) → b ≡ base.Name token → base_of b site s ≡ named_signature token site s
name_elaborated b token site s is =
    ap (λ x. base_of x site s) (is ∙ sym (rolls-Name token))
    ∙ ap (λ f. f site s) (fold-roll-SigBase Base Specified (ℕ × Signature) Signature base_step spec_step bind_step signature_step _)

-- ---- an expression, and the parts of its `where`
abbrev pub and_parts_applied : SigExp → Site → State → Environment × State → Described
and_parts_applied e site s r = parts_applied e.parts (length s.names) site r.0 r.1

pub expression_is : (e : SigExp) (site : Site) (s : State) → (signature_of e).elaborated site s ≡ and_then (base_of e.base site s) (and_parts_applied e site s)
expression_is e site s = ap (λ (f : Base). f site s) (signature_is e)

pub expression_parts : (e : SigExp) (site later : Site) (s : State) (env : Environment) (t : State) (items : List WherePart) (base : ℕ) → base_of e.base site s ≡ Ok (env, t) → later ≡ site → items ≡ e.parts → base ≡ length s.names
    → (signature_of e).elaborated site s ≡ parts_applied items base later env t
expression_parts e site later s env t items base ok same parts from =
    expression_is e site s
    ∙ ap (λ o. and_then o (and_parts_applied e site s)) ok
    ∙ ap (λ ps. parts_applied ps (length s.names) site env t) (sym parts)
    ∙ ap (λ n. parts_applied items n site env t) (sym from)
    ∙ ap (λ at. parts_applied items base at env t) (sym same)
