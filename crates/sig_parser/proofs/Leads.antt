-- What one state makes of tokens, another makes of more of them.
use Rattle.std.proofs.Common.{◌≡◌, ℕ, Bool, true, false, List, [], ◌∷◌, ◌++◌, Option, Some, None, refl, ap, ◌∙◌}
use Rattle.std.specs.Prelude.{option_and_then}
use Rattle.sig_base.specs.declared.word.Word.{Word}
use Rattle.sig_base.specs.declared.word.Word.TheVariants as w
use Rattle.ty_parser.specs.declared.sort.Sort.{Sort}
use Rattle.ty_parser.specs.declared.sort.Sort.TheVariants as s
use Rattle.ty_parser.specs.declared.tree.TyExp.{TyExp}
use Rattle.ty_parser.specs.declared.tree.TypeAt.{TypeAt}
use Rattle.ty_parser.specs.Grammar.{Numbered}
use Rattle.ty_parser.specs.machine.Machine as types
use Rattle.ty_parser.specs.machine.Machine.{run}
use Rattle.sig_parser.specs.declared.tree.SourceFile.{SourceFile}
use Rattle.sig_parser.specs.declared.tree.TopDec.{TopDec}
use Rattle.sig_parser.specs.declared.tree.Bind.{Bind}
use Rattle.sig_parser.specs.declared.tree.SigExp.{SigExp}
use Rattle.sig_parser.specs.declared.tree.ValDesc.{ValDesc}
use Rattle.sig_parser.specs.declared.tree.TypeDesc.{TypeDesc}
use Rattle.sig_parser.specs.declared.tree.DataDesc.{DataDesc}
use Rattle.sig_parser.specs.declared.tree.ConDesc.{ConDesc}
use Rattle.sig_parser.specs.declared.point.Group.{Group}
use Rattle.sig_parser.specs.declared.point.Group.TheVariants as group
use Rattle.sig_parser.specs.machine.Goals.{Goal, Level, Open}
use Rattle.sig_parser.specs.machine.Goals as goal
use Rattle.sig_parser.specs.machine.Constructors.{Cons}
use Rattle.sig_parser.specs.machine.Constructors as cons
use Rattle.sig_parser.specs.machine.Owners.{Owner}
use Rattle.sig_parser.specs.machine.Owners as owner
use Rattle.sig_parser.specs.machine.Points.{Point}
use Rattle.sig_parser.specs.machine.Points as point
use Rattle.sig_parser.specs.machine.Machine.{State, At, InType, sig_of, top_item, begin_spec, spec_item, item, behind_group, bound, leave, have_sig, have_part, vals, types_, datatypes, constructors, exceptions, have_cons, step_at, owned, begin_type, behind_type, in_type, step, ended_type, finish}
use Rattle.sig_parser.specs.Grammar.{Typed, typed, Separated, one, more}
use Rattle.ty_parser.proofs.Complete as type_steps
use Rattle.ty_parser.proofs.Complete.{Steps, here, steps-run_within, type_read}
use Rattle.ty_parser.proofs.Refused.{is_type_sort, other_refused}

-- the file that the tokens make after a state
abbrev pub parse : State → List Numbered → Option SourceFile
parse st ts = option_and_then finish (run step st ts)

-- the first state makes of all the tokens each file that the second makes of the rest
abbrev pub Leads : State → List Numbered → State → List Numbered → Type 0
Leads st ts st' r = (f : SourceFile) → parse st' r ≡ Some f → parse st ts ≡ Some f

-- the first state can do all that the second can
abbrev pub Covers : State → State → Type 0
Covers st st' = (ts : List Numbered) → Leads st ts st' ts

-- one step leads on
pub step_leads : (st st' : State) (t : Numbered) (ts : List Numbered) → step st t ≡ Some st' → Leads st (t ∷ ts) st' ts
step_leads st st' t ts e f h = ap (λ o. option_and_then finish (option_and_then (λ x. run step x ts) o)) e ∙ h

-- a token that is refused leads nowhere
pub refused : (st : State) (t : Numbered) (ts : List Numbered) (f : SourceFile) → step st t ≡ None → parse st (t ∷ ts) ≡ Some f → ⊥
refused st t ts f e h =
    let none = ap (λ o. option_and_then finish (option_and_then (λ x. run step x ts) o)) e in
    cc

-- phrases with a word between them, where each leads from one state to another, and the word leads back
module _ {D : Type 0} (word : Word) (phrase : List Numbered → List Numbered → D → Type 0) (want have : List D → State)
    (each : (ds : List D) (ts r : List Numbered) (d : D) → phrase ts r d → Leads (want ds) ts (have (ds ++ d ∷ [])) r)
    (next : (ds : List D) (i : ℕ) (m : List Numbered) → Leads (have ds) ((i, s.Reserved word) ∷ m) (want ds) m) where
  pub separated_leads : {ts r : List Numbered} {ds : List D} → Separated word phrase ts r ds → Leads (want []) ts (have ds) r
  separated_leads (one {ts = ts} {r = r} {x = d} p) f h = each [] ts r d p f h
  separated_leads (more {i = i} {m = m} {r = r} {xs = xs} {x = d} q p) f h = separated_leads q f (next xs i m f (each xs m r d p f h))

-- where a type may end, no token of a type can stand

item_none : (decs : List TopDec) (ls : List Level) (so : Sort) → is_type_sort so ≡ true → item decs ls so ≡ None
unfolding top_item spec_item begin_spec
item_none decs [] (s.Reserved w.KwSignature) e = cc
item_none decs [] (s.Reserved w.KwStructure) e = cc
item_none decs [] (s.Reserved w.KwSemicolon) e = cc
item_none decs [] _ e = refl
item_none decs (l ∷ ls) (s.Reserved w.KwVal) e = cc
item_none decs (l ∷ ls) (s.Reserved w.KwType) e = cc
item_none decs (l ∷ ls) (s.Reserved w.KwEqtype) e = cc
item_none decs (l ∷ ls) (s.Reserved w.KwDatatype) e = cc
item_none decs (l ∷ ls) (s.Reserved w.KwException) e = cc
item_none decs (l ∷ ls) (s.Reserved w.KwStructure) e = cc
item_none decs (l ∷ ls) (s.Reserved w.KwInclude) e = cc
item_none decs (l ∷ ls) (s.Reserved w.KwSharing) e = cc
item_none decs (l ∷ ls) (s.Reserved w.KwSemicolon) e = cc
item_none decs (l ∷ ls) (s.Reserved w.KwEnd) e = cc
item_none decs (l ∷ ls) _ e = refl

group_none : (decs : List TopDec) (ls : List Level) (k : Group) (bs : List Bind) (so : Sort) → is_type_sort so ≡ true → behind_group decs ls k bs so ≡ None
group_none decs ls group.Signatures bs so e = item_none _ ls so e
group_none decs ls group.Structures bs so e = item_none _ ls so e
group_none decs ls group.Members bs so e = item_none decs _ so e

bound_none : (decs : List TopDec) (ls : List Level) (k : Group) (bs : List Bind) (so : Sort) → is_type_sort so ≡ true → bound decs ls k bs so ≡ None
unfolding bound
bound_none decs ls k bs (s.Reserved w.KwAnd) e = cc
bound_none decs ls k bs so e = group_none decs ls k bs so e

leave_none : (decs : List TopDec) (ls : List Level) (g : Goal) (x : SigExp) (so : Sort) → is_type_sort so ≡ true → leave decs ls g x so ≡ None
leave_none decs ls (goal.Binding k bs i) x so e = bound_none decs ls k _ so e
leave_none decs ls goal.Including x so e = item_none decs _ so e

pub have_sig_none : (decs : List TopDec) (ls : List Level) (o : Open) (i : ℕ) (so : Sort) → is_type_sort so ≡ true → have_sig decs ls o i so ≡ None
unfolding have_sig
have_sig_none decs ls o i (s.Reserved w.KwWhere) e = cc
have_sig_none decs ls o i so e = leave_none decs ls o.goal (sig_of o) so e

have_part_none : (decs : List TopDec) (ls : List Level) (o : Open) (i : ℕ) (so : Sort) → is_type_sort so ≡ true → have_part decs ls o i so ≡ None
unfolding have_part
have_part_none decs ls o i (s.Reserved w.KwAnd) e = cc
have_part_none decs ls o i so e = have_sig_none decs ls o i so e

vals_none : (decs : List TopDec) (ls : List Level) (ds : List ValDesc) (so : Sort) → is_type_sort so ≡ true → vals decs ls ds so ≡ None
unfolding vals
vals_none decs ls ds (s.Reserved w.KwAnd) e = cc
vals_none decs ls ds so e = item_none decs _ so e

types_none : (decs : List TopDec) (ls : List Level) (ds : List TypeDesc) (so : Sort) → is_type_sort so ≡ true → types_ decs ls ds so ≡ None
unfolding types_
types_none decs ls ds (s.Reserved w.KwAnd) e = cc
types_none decs ls ds so e = item_none decs _ so e

datatypes_none : (decs : List TopDec) (ls : List Level) (ds : List DataDesc) (so : Sort) → is_type_sort so ≡ true → datatypes decs ls ds so ≡ None
unfolding datatypes
datatypes_none decs ls ds (s.Reserved w.KwAnd) e = cc
datatypes_none decs ls ds so e = item_none decs _ so e

cons_none : (decs : List TopDec) (ls : List Level) (c : Cons) (cs : List ConDesc) (so : Sort) → is_type_sort so ≡ true → have_cons decs ls c cs so ≡ None
unfolding constructors exceptions
cons_none decs ls (cons.Datatype ds vs j) cs (s.Reserved w.KwBar) e = cc
cons_none decs ls (cons.Datatype ds vs j) cs so e = datatypes_none decs ls _ so e
cons_none decs ls cons.Exception cs (s.Reserved w.KwAnd) e = cc
cons_none decs ls cons.Exception cs so e = item_none decs _ so e

owned_none : (decs : List TopDec) (ls : List Level) (o : Owner) (t : TypeAt) (i : ℕ) (so : Sort) → is_type_sort so ≡ true → step_at decs ls (owned o t) i so ≡ None
owned_none decs ls (owner.Val ds j) t i so e = vals_none decs ls _ so e
owned_none decs ls (owner.Where o at vs j) t i so e = have_part_none decs ls _ i so e
owned_none decs ls (owner.Abbrev ds vs j) t i so e = types_none decs ls _ so e
owned_none decs ls (owner.Con c cs j) t i so e = cons_none decs ls c _ so e

module _ (decs : List TopDec) (ls : List Level) (o : Owner) (first : ℕ) where
  -- inside a type the machine goes on as that of types does
  pub type_follows : (st st' : types.State) (t : Numbered) → types.step st t ≡ Some st' → step (InType decs ls o first st) t ≡ Some (InType decs ls o first st')
  unfolding in_type
  type_follows st st' t e = ap (λ n. in_type decs ls o first n (types.finish st) t.0 t.1) e

  -- any other token ends the type
  type_leaves : (st : types.State) (e : TyExp) (t : Numbered) → types.finish st ≡ Some e → is_type_sort t.1 ≡ false → step (InType decs ls o first st) t ≡ step_at decs ls (owned o (record { first = first; ty = e })) t.0 t.1
  unfolding in_type behind_type
  type_leaves st e t done other =
      ap (λ n. in_type decs ls o first n (types.finish st) t.0 t.1) (other_refused st t.0 t.1 other) ∙ ap (λ n. behind_type decs ls o first n t.0 t.1) done

-- where a type may end, the machine does what it does behind it
pub type_covers : (decs : List TopDec) (ls : List Level) (o : Owner) (first : ℕ) (st : types.State) (e : TyExp) → types.finish st ≡ Some e → Covers (InType decs ls o first st) (At decs ls (owned o (record { first = first; ty = e })))
unfolding ended_type
type_covers decs [] o first st e done [] f h = ap (ended_type decs o first) done ∙ h
type_covers decs (l ∷ ls) o first st e done [] f h = h
type_covers decs ls o first st e done (t ∷ r) f h = by_sort (is_type_sort t.1) refl
  where
    by_sort : (b : Bool) → is_type_sort t.1 ≡ b → parse (InType decs ls o first st) (t ∷ r) ≡ Some f
    by_sort true of_type = absurd (refused (At decs ls (owned o (record { first = first; ty = e }))) t r f (owned_none decs ls o (record { first = first; ty = e }) t.0 t.1 of_type) h)
    by_sort false other = ap (λ n. option_and_then finish (option_and_then (λ x. run step x r) n)) (type_leaves decs ls o first st e t done other) ∙ h

type_leads : {i : ℕ} {so : Sort} {ts r : List Numbered} {st : types.State} (decs : List TopDec) (ls : List Level) (o : Owner) (e : TyExp) → Steps types.start ((i, so) ∷ ts) st r → types.finish st ≡ Some e
    → Leads (At decs ls (point.WantType o)) ((i, so) ∷ ts) (At decs ls (owned o (record { first = i; ty = e }))) r
unfolding begin_type
type_leads decs ls o e here done f h = cc
type_leads {i = i} {so = so} {ts = ts} {r = r} {st = st} decs ls o e (type_steps.next {st' = st'} s d) done f h =
    let inside = steps-run_within step (InType decs ls o i) (type_follows decs ls o i) d in
    step_leads (At decs ls (point.WantType o)) (InType decs ls o i st') (i, so) ts (ap (begin_type decs ls o i) s) f
    (ap (option_and_then finish) inside ∙ type_covers decs ls o i st e done r f h)

-- a type leads behind it
pub typed_leads : {ts r : List Numbered} {t : TypeAt} (decs : List TopDec) (ls : List Level) (o : Owner) → Typed ts r t → Leads (At decs ls (point.WantType o)) ts (At decs ls (owned o t)) r
typed_leads decs ls o (typed {e = e} d) = let h = type_read d in type_leads decs ls o e h.1 h.2
