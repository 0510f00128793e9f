-- Descriptions of types.
use Rattle.std.proofs.Common.{◌≡◌, ℕ, ◌+◌, ◌<◌, ◌≤◌, Bool, true, List, [], ◌∷◌, ◌++◌, length, take, Ok, refl, sym, ap, ◌∙◌, arith, append-nil}
use Rattle.std.proofs.lemmas.Bool.{le-leb}
use Rattle.std.proofs.lemmas.List.{length-append, take-append-le}
use Rattle.std.proofs.Math.Seq.{take-append_seam}
use Rattle.sig_parser.specs.declared.tree.TypeDesc.{TypeDesc}
use Rattle.type_core.specs.declared.names.Equality.{Equality}
use Rattle.type_core.specs.declared.ty.VarId.{VarId}
use Rattle.type_core.specs.declared.type_fn.TypeFn.{TypeFn}
use Rattle.elab_rules.specs.declared.entry.Entry.{Entry}
use Rattle.elab_rules.specs.Bodies.{Site, added}
use Rattle.elab_rules.specs.Environments.{Environment, is_new_type, the_type}
use Rattle.elab_rules.specs.Parameters.{parameters_checked, variables_at}
use Rattle.elab_types.specs.Sources.{text_at}
use Rattle.elab_rules.specs.States.{State}
use Rattle.elab_rules.specs.TypeDescriptions.{plain_type, right_side, type_described}

pub type_is : (equality : Equality) (d : TypeDesc) (before : Environment) (site : Site) (own : Environment) (s t : State) (params items : List ℕ) (vs given : List VarId) (text : List ℕ) (is_new : Bool) (count : ℕ) (fun : TypeFn) (done : Unit {0})
    → params ≡ d.params → parameters_checked site.texts [] params ≡ Ok done → text ≡ text_at site.texts d.id → is_new ≡ is_new_type text own → is_new ≡ true → count ≡ length d.params → count < 2000
    → items ≡ d.params → vs ≡ variables_at site.texts items → given ≡ vs → right_side d.rhs text equality given site before s ≡ Ok (fun, t)
    → type_described equality d before site own s ≡ added site (the_type (plain_type (text_at site.texts d.id) fun)) d.id own t
type_is equality d before site own s t params items vs given text is_new count fun done p ok named n new c few i v g right =
    let fits : 1 + length d.params ≤ 2000 = omega (arith, c, few) in
    let checked_all : parameters_checked site.texts [] d.params ≡ Ok done = ap (parameters_checked site.texts []) (sym p) ∙ ok in
    let is : is_new_type (text_at site.texts d.id) own ≡ true = ap (λ x. is_new_type x own) (sym named) ∙ sym n ∙ new in
    let right_is : right_side d.rhs (text_at site.texts d.id) equality (variables_at site.texts d.params) site before s ≡ Ok (fun, t) =
    ap (λ x. right_side d.rhs x equality (variables_at site.texts d.params) site before s) (sym named)
    ∙ ap (λ x. right_side d.rhs text equality x site before s) (sym (g ∙ v ∙ ap (variables_at site.texts) i))
    ∙ right in
    rw (checked_all, is, le-leb (1 + length d.params) 2000 fits, right_is) refl

-- the front of a body that grows
pub front_grown : (own body more : Environment) (entry : Entry) (n : ℕ) → take n body ≡ own → n ≤ length body → more ≡ body ++ entry ∷ [] → (take n more ≡ own) × (n ≤ length more)
front_grown own body more entry n front within grown =
    (ap (take n) grown ∙ take-append-le n body (entry ∷ []) within ∙ front, (let longer : n ≤ length more = omega (arith, within, ap length grown ∙ length-append body (entry ∷ [])) in longer))

pub whole_front : (own : Environment) (n : ℕ) → n ≡ length own → take n own ≡ own
whole_front own n e = ap (λ k. take k own) e ∙ ap (take (length own)) (sym (append-nil own)) ∙ take-append_seam own []
