-- Groups of datatypes.
use Rattle.std.proofs.Common.{◌≡◌, ℕ, ◌+◌, ◌<◌, ◌≤◌, Bool, true, List, [], length, drop, get_or, Result, Ok, Err, IsErrAnd, sym, ap, ◌∙◌, arith}
use Rattle.std.proofs.lemmas.Bool.{le-leb}
use Rattle.std.proofs.lemmas.List.{length-map}
use Rattle.sig_parser.specs.declared.tree.ConDesc.{ConDesc}
use Rattle.sig_parser.specs.declared.tree.DataDesc.{DataDesc}
use Rattle.type_core.specs.declared.names.Equality.TheVariants.{IfArgs}
use Rattle.type_core.specs.declared.member.Kind.TheVariants.{Con}
use Rattle.type_core.specs.declared.ty.Ty.{Ty}
use Rattle.type_core.specs.declared.ty.VarId.{VarId}
use Rattle.elab_rules.specs.declared.body.Body.{Body}
use Rattle.elab_rules.specs.declared.progress.Progress.{Progress}
use Rattle.elab_rules.specs.declared.refusal.ElabRefusal.{ElabRefusal}
use Rattle.elab_rules.specs.declared.entry.TypeEntry.{TypeEntry}
use Rattle.elab_rules.specs.Bodies.{Described, Site, added}
use Rattle.elab_rules.specs.Constructors.{constructors_described}
use Rattle.elab_rules.specs.Datatypes.{datatype_entry, datatype_family, datatype_head, group_constructed, identifiers}
use Rattle.elab_rules.specs.Environments.{Environment, is_new_type, the_type}
use Rattle.elab_types.specs.Outcome.{and_then}
use Rattle.elab_rules.specs.Parameters.{marked, parameters_checked, variables_at}
use Rattle.elab_types.specs.Sources.{text_at, variable}
use Rattle.elab_rules.specs.States.{State, with_name, within}
use Rattle.elab_rules.specs.Types.{Parameters}
use Rattle.elab_rules.specs.Views.{GivesBody}
use Rattle.elab_types.proofs.Lists.{dropped}
use Rattle.elab_phrases.proofs.Turns.{ends}

-- ---- the constructors of the datatype whose turn it is
next : (ds : List DataDesc) (i : ℕ) (d e : DataDesc) (n : ℕ) (site : Site) (env : Environment) (s : State) → i < length ds → d ≡ get_or ds i e
    → group_constructed (drop i ds) n site env s
    ≡ and_then (constructors_described d.cons (datatype_family n (variables_at site.texts d.params)) site env s) (λ r. group_constructed (drop (i + 1) ds) (n + 1) site r.0 r.1)
next ds i d e n site env s within is = ap (λ rest. group_constructed rest n site env s) (dropped ds i d e within is)

pub group_ends : (ds : List DataDesc) (i : ℕ) (d e : DataDesc) (n : ℕ) (site : Site) (env : Environment) (s : State) (t : Progress) (whole : Described) (result : Result Body ElabRefusal) (x : ElabRefusal) → i < length ds → d ≡ get_or ds i e
    → group_constructed (drop i ds) n site env s ≡ whole → IsErrAnd result (λ other. other ≡ x)
    → GivesBody (constructors_described d.cons (datatype_family n (variables_at site.texts d.params)) site env s) (Err x) t → GivesBody whole result t
group_ends ds i d e n site env s t whole result x within is so_far handed gives =
    ends (constructors_described d.cons (datatype_family n (variables_at site.texts d.params)) site env s) _ whole result x t (sym (next ds i d e n site env s within is) ∙ so_far) handed gives

pub group_goes_on : (ds : List DataDesc) (i : ℕ) (d e : DataDesc) (n m : ℕ) (site : Site) (env more : Environment) (s t : State) (whole : Described) → i < length ds → d ≡ get_or ds i e
    → group_constructed (drop i ds) n site env s ≡ whole → constructors_described d.cons (datatype_family n (variables_at site.texts d.params)) site env s ≡ Ok (more, t) → m ≡ n + 1
    → group_constructed (drop (i + 1) ds) m site more t ≡ whole
group_goes_on ds i d e n m site env more s t whole within is so_far ok one =
    ap (λ k. group_constructed (drop (i + 1) ds) k site more t) one
    ∙ sym (ap (λ o. and_then o (λ r. group_constructed (drop (i + 1) ds) (n + 1) site r.0 r.1)) ok)
    ∙ sym (next ds i d e n site env s within is) ∙ so_far

-- ---- the head of a datatype
pub head_is : (d : DataDesc) (site : Site) (own : Environment) (s t : State) (params : List ℕ) (text : List ℕ) (is_new : Bool) (count arity n : ℕ) (entry : TypeEntry) (done : Unit {0})
    → params ≡ d.params → parameters_checked site.texts [] params ≡ Ok done → text ≡ text_at site.texts d.id → is_new ≡ is_new_type text own → is_new ≡ true → count ≡ length d.params → count < 2000 → arity ≡ length d.params
    → n ≡ length s.names → t ≡ with_name (within site.path text) arity IfArgs s → entry ≡ datatype_entry (text_at site.texts d.id) n arity (identifiers site.texts d.cons)
    → datatype_head d site own s ≡ added site (the_type entry) d.id own t
head_is d site own s t params text is_new count arity n entry done p ok named i new c few a number state e =
    let fits : 1 + length d.params ≤ 2000 = omega (arith, c, few) in
    let checked_all : parameters_checked site.texts [] d.params ≡ Ok done = ap (parameters_checked site.texts []) (sym p) ∙ ok in
    let is : is_new_type (text_at site.texts d.id) own ≡ true = ap (λ x. is_new_type x own) (sym named) ∙ sym i ∙ new in
    let ids = identifiers site.texts d.cons in
    let is_entry : entry ≡ datatype_entry (text_at site.texts d.id) (length s.names) (length d.params) ids =
    e ∙ ap (λ k. datatype_entry (text_at site.texts d.id) k arity ids) number ∙ ap (λ k. datatype_entry (text_at site.texts d.id) (length s.names) k ids) a in
    let is_state : t ≡ with_name (within site.path (text_at site.texts d.id)) (length d.params) IfArgs s =
    state ∙ ap (λ x. with_name (within site.path x) arity IfArgs s) named ∙ ap (λ k. with_name (within site.path (text_at site.texts d.id)) k IfArgs s) a in
    rw (checked_all, is, le-leb (1 + length d.params) 2000 fits, length-map d.params (variable site.texts))
    (sym (ap (λ x. added site (the_type x) d.id own t) is_entry ∙ ap (added site (the_type (datatype_entry (text_at site.texts d.id) (length s.names) (length d.params) ids)) d.id own) is_state))

-- ---- the constructors of a datatype
pub constructed_family : (d : DataDesc) (cs : List ConDesc) (tokens : List ℕ) (vs makers given : List VarId) (made : Ty) (n : ℕ) (site : Site) (env : Environment) (s : State)
    → tokens ≡ d.params → vs ≡ variables_at site.texts tokens → makers ≡ vs → made ≡ marked n makers → given ≡ vs → cs ≡ d.cons
    → constructors_described d.cons (datatype_family n (variables_at site.texts d.params)) site env s ≡ constructors_described cs (record { kind = Con; made = made; variables = Parameters true given }) site env s
constructed_family d cs tokens vs makers given made n site env s t v k m g c =
    let vs_are : vs ≡ variables_at site.texts d.params = v ∙ ap (variables_at site.texts) t in
    sym (ap (λ xs. constructors_described xs (record { kind = Con; made = made; variables = Parameters true given }) site env s) c
    ∙ ap (λ made. constructors_described d.cons (record { kind = Con; made = made; variables = Parameters true given }) site env s) (m ∙ ap (marked n) (k ∙ vs_are))
    ∙ ap (λ given. constructors_described d.cons (record { kind = Con; made = marked n (variables_at site.texts d.params); variables = Parameters true given }) site env s) (g ∙ vs_are))
