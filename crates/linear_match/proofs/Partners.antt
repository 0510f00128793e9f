-- What a component has in the end: no pattern takes what it can't split, and of one variable two take lists that agree.
use Rattle.std.proofs.Common.{◌≡◌, ℕ, zero, suc, ◌+◌, ◌%◌, ◌<◌, ◌⊎◌, inl, inr, List, [], ◌∷◌, ◌++◌, drop, length, replicate, Some, slice_get, get_or, refl, sym, ap, ◌∙◌, subst, arith}
use Rattle.std.proofs.Math.Nat.{mod-lt}
use Rattle.std.proofs.lemmas.Option.{slice_get-get_or, slice_get_within}
use Rattle.type_core.specs.declared.names.TypeName.{TypeName}
use Rattle.type_core.specs.declared.ty.Ty.{Ty}
use Rattle.type_core.specs.declared.ty.Ty.TheVariants as ty
use Rattle.type_core.specs.declared.ty.Ty.TheVariants.{outs-Var}
use Rattle.type_core.specs.declared.ty.Ty.TheViews.{out-Ty}
use Rattle.type_core.specs.declared.ty.VarId.{VarId}
use Rattle.iso_normal.specs.declared.factor.Factor.{Factor}
use Rattle.iso_normal.specs.declared.factor.Factor.TheViews.{out-Factor}
use Rattle.iso_normal.specs.Agreement.{Agree, AreAlike, Takes, first, later, more, none}
use Rattle.linear_match.specs.declared.search.Dealing.{Dealing}
use Rattle.linear_match.specs.declared.search.Task.{Task}
use Rattle.linear_match.specs.Meetings.{Meeting, loosely}
use Rattle.linear_match.specs.Splits.{Dealt, SplitEach, Splits, dealt_more, dealt_none, put_at, split_more}
use Rattle.linear_match.specs.search.Cutting.{IsLackingPartner, IsTakenByNone}
use Rattle.linear_match.specs.search.Needs.{IsShort}
use Rattle.linear_match.specs.search.Tasks.{Beginning, DealingFrom, DealsOn, HasNone, each_before, patterns_of, pieces_of}
use Rattle.linear_match.proofs.Bound.{In, all_fit, here, some_is}
use Rattle.linear_match.proofs.Cut.{at_out}
use Rattle.linear_match.proofs.Dealing.{dealt_length}
use Rattle.linear_match.proofs.Good.{in_back, in_front}
use Rattle.linear_match.proofs.Inverted.{of_variable}
use Rattle.linear_match.proofs.Likeness.{at_slice}
use Rattle.linear_match.proofs.NeededAtoms.{got_held, held_append, needed_held}
use Rattle.linear_match.proofs.Steps.{added_at, deal_from}

-- a factor stands in a list
abbrev Stands : Factor → List Factor → Type 0
Stands g xs = (k : ℕ) × (slice_get xs k ≡ Some g)

nothing_stands : {A : Type 0} (k : ℕ) (x : A) → slice_get [] k ≡ Some x → ⊥
nothing_stands k x e = omega (arith, slice_get_within [] k x e)

either : {g : Factor} (xs ys : List Factor) → Stands g (xs ++ ys) → Stands g xs ⊎ Stands g ys
either [] ys s = inr s
either (x ∷ xs) ys (zero, e) = inl (zero, e)
either (x ∷ xs) ys (suc k, e) = elim (either xs ys (k, e)) [ inl s ↦ inl (suc s.0, s.1) | inr s ↦ inr s ]

stands_there : (held : List Factor) (f : Factor) (rest : List Factor) → Stands f ((held ++ f ∷ []) ++ rest)
stands_there [] f rest = (zero, refl)
stands_there (h ∷ held) f rest = let r = stands_there held f rest in (suc r.0, r.1)

taken : {g : Factor} {gs rest : List Factor} → Takes g gs rest → Stands g gs
taken (first rest) = (zero, refl)
taken (later h t) = let r = taken t in (suc r.0, r.1)

still : {g h : Factor} {gs rest : List Factor} → Takes g gs rest → Stands h rest → Stands h gs
still (first rest) s = (suc s.0, s.1)
still (later k t) (zero, e) = (zero, e)
still (later k t) (suc n, e) = let r = still t (n, e) in (suc r.0, r.1)

partner : {fs gs : List Factor} → Agree fs gs → {f : Factor} → Stands f fs
    → (g : Factor) × Stands g gs × AreAlike (out-Factor f) (out-Factor g)
partner none {f} s = absurd (nothing_stands s.0 f s.1)
partner (more {g} t alike rest) {f} (zero, e) =
    (g, taken t, subst (λ f. AreAlike (out-Factor f) (out-Factor g)) (some_is e) alike)
partner (more t alike rest) (suc k, e) = let r = partner rest (k, e) in (r.0, still t r.1, r.2)

-- what is dealt to a component is there to be dealt
in_none : (n k : ℕ) {x : List Factor} → slice_get (replicate n []) k ≡ Some x → x ≡ []
in_none zero k {x} e = absurd (nothing_stands k x e)
in_none (suc n) zero e = sym (some_is e)
in_none (suc n) (suc k) e = in_none n k e

stands_first : {f g : Factor} (x : List Factor) → Stands g (f ∷ x) → (g ≡ f) ⊎ Stands g x
stands_first x (zero, e) = inl (sym (some_is e))
stands_first x (suc k, e) = inr (k, e)

put_stands : (m : ℕ) (f : Factor) (pieces : List (List Factor)) (k : ℕ) {g : Factor} {x : List Factor}
    → slice_get (put_at m f pieces) k ≡ Some x → Stands g x
    → (g ≡ f) ⊎ ((y : List Factor) × (slice_get pieces k ≡ Some y) × Stands g y)
put_stands m f [] k {x} e s = absurd (nothing_stands k x e)
put_stands zero f (piece ∷ pieces) zero {g} e s = go (stands_first piece (subst (Stands g) (sym (some_is e)) s)) where
  go : (g ≡ f) ⊎ Stands g piece → (g ≡ f) ⊎ ((y : List Factor) × (Some piece ≡ Some y) × Stands g y)
  go (inl same) = inl same
  go (inr there) = inr (piece, refl, there)
put_stands zero f (piece ∷ pieces) (suc k) {x} e s = inr (x, e, s)
put_stands (suc m) f (piece ∷ pieces) zero {x} e s = inr (x, e, s)
put_stands (suc m) f (piece ∷ pieces) (suc k) e s = put_stands m f pieces k e s

dealt_stands : {n j : ℕ} {letters : List ℕ} {fs : List Factor} {pieces : List (List Factor)}
    → Dealt n j letters fs pieces → (k : ℕ) {g : Factor} {x : List Factor} → slice_get pieces k ≡ Some x → Stands g x
    → Stands g fs
dealt_stands {n} (dealt_none j) k {g} e s =
    let r = subst (Stands g) (in_none n k e) s in absurd (nothing_stands r.0 g r.1)
dealt_stands {n} {j} (dealt_more {fs} {pieces} l f b d) k {g} e s =
    go fs (put_stands ((j + l) % n) f pieces k e s) (λ y i t. dealt_stands d k i t) where
      go : (fs : List Factor) → (g ≡ f) ⊎ ((y : List Factor) × (slice_get pieces k ≡ Some y) × Stands g y)
          → ((y : List Factor) → slice_get pieces k ≡ Some y → Stands g y → Stands g fs) → Stands g (f ∷ fs)
      go fs (inl same) others = (zero, ap Some (sym same))
      go fs (inr there) others = let r = others there.0 there.1 there.2 in (suc r.0, r.1)

-- a component is split at last with what it has and what it gets
record Part (p : Ty) (piece : List Factor) (gets : List (List Factor)) (k : ℕ) (ns : List Meeting) : Type 0 where
  got : List Factor
  stands : slice_get gets k ≡ Some got
  word : List ℕ
  meetings : List Meeting
  splits : Splits (out-Ty p) (piece ++ got) word meetings
  within : (m : Meeting) → In m meetings → In m ns

part_at : (ps qs : List Ty) (pieces gets others : List (List Factor)) (k : ℕ) {p : Ty} {piece : List Factor}
    {w : List ℕ} {ns : List Meeting}
    → SplitEach (ps ++ qs) (each_before pieces gets ++ others) w ns → slice_get ps k ≡ Some p
    → slice_get pieces k ≡ Some piece → length gets ≡ length ps → Part p piece gets k ns
part_at [] qs pieces gets others k {p} s e f l = absurd (nothing_stands k p e)
part_at (q ∷ ps) qs [] gets others k {piece} s e f l = absurd (nothing_stands k piece f)
part_at (q ∷ ps) qs (y ∷ pieces) [] others k s e f l = absurd (omega (arith, l))
part_at (q ∷ ps) qs (y ∷ pieces) (x ∷ gets) others zero {p} {piece} (split_more {word} {ms} {ns} s each) e f l = record {
  got = x;
  stands = refl;
  word = word;
  meetings = ms;
  splits = subst (λ p. Splits (out-Ty p) (piece ++ x) word ms) (some_is e)
      (subst (λ y. Splits (out-Ty q) (y ++ x) word ms) (some_is f) s);
  within = λ m i. in_front ns i;
}
part_at (q ∷ ps) qs (y ∷ pieces) (x ∷ gets) others (suc k) (split_more {word} {ms} {ns} s each) e f l =
    let r = part_at ps qs pieces gets others k each e f (omega (arith, l)) in
    record {
      got = r.got;
      stands = r.stands;
      word = r.word;
      meetings = r.meetings;
      splits = r.splits;
      within = λ m i. in_back ms (r.within m i);
    }

-- one factor more
added_here : (k : ℕ) (f : Factor) (pieces : List (List Factor)) {piece : List Factor}
    → slice_get pieces k ≡ Some piece → slice_get (added_at k f pieces) k ≡ Some (piece ++ f ∷ [])
added_here k f [] {piece} e = absurd (nothing_stands k piece e)
added_here zero f (x ∷ pieces) e = ap Some (ap (λ y. y ++ f ∷ []) (some_is e))
added_here (suc k) f (x ∷ pieces) e = added_here k f pieces e

added_there : (k j : ℕ) (f : Factor) (pieces : List (List Factor)) {piece : List Factor} → (j ≡ k → ⊥)
    → slice_get pieces j ≡ Some piece → slice_get (added_at k f pieces) j ≡ Some piece
added_there k j f [] {piece} d e = absurd (nothing_stands j piece e)
added_there zero zero f (x ∷ pieces) d e = absurd (d refl)
added_there zero (suc j) f (x ∷ pieces) d e = e
added_there (suc k) zero f (x ∷ pieces) d e = e
added_there (suc k) (suc j) f (x ∷ pieces) d e = added_there k j f pieces (λ s. d (ap suc s)) e

behind : (n : ℕ) (fs : List Factor) (k : ℕ) {g : Factor} → slice_get (drop n fs) k ≡ Some g
    → slice_get fs (n + k) ≡ Some g
behind zero fs k {g} e = subst (λ m. slice_get fs m ≡ Some g) (omega arith) e
behind (suc n) [] k {g} e = absurd (nothing_stands k g e)
behind (suc n) (f ∷ fs) k {g} e =
    let one : suc (n + k) ≡ suc n + k = omega arith in
    subst (λ m. slice_get (f ∷ fs) m ≡ Some g) one (behind n fs k e)

-- the component of a letter
module _ (dealing : Dealing) (at letter : ℕ) (below : letter < length dealing.parts.now) where
  pub place_below : (at + letter) % length dealing.parts.now < length dealing.parts.now
  place_below = let some : 0 < length dealing.parts.now = omega (arith, below) in mod-lt (at + letter) some

  pub place_held : length dealing.pieces.items ≡ length dealing.parts.now → (d piece : List Factor)
      → piece ≡ get_or dealing.pieces.items ((at + letter) % length dealing.parts.now) d
      → slice_get dealing.pieces.items ((at + letter) % length dealing.parts.now) ≡ Some piece
  place_held long d piece e =
      slice_get-get_or dealing.pieces.items ((at + letter) % length dealing.parts.now) d
      (subst (λ n. (at + letter) % length dealing.parts.now < n) (sym long) place_below) ∙ ap Some (sym e)

-- the next factor goes to a component
module _ (dealing : Dealing) (at letter : ℕ) (f : Factor) (is : slice_get dealing.factors.now at ≡ Some f) where
  abbrev place : ℕ
  place = (at + letter) % length dealing.parts.now

  abbrev left : List Factor
  left = drop (at + 1) dealing.factors.now

  abbrev Later : List Task → List ℕ → List Meeting → Type 0
  Later tasks w ns = DealsOn dealing.parts.now (suc at) left (added_at place f dealing.pieces.items) tasks w ns

  dealt : {tasks : List Task} {w : List ℕ} {ns : List Meeting} (x : Beginning letter (DealingFrom dealing at tasks) w ns)
      → Later tasks x.0 ns
  dealt {tasks} {ns} x = deal_from dealing.parts.now at f left dealing.pieces.items tasks letter x.0 ns
      (subst (λ fs. DealsOn dealing.parts.now at fs dealing.pieces.items tasks (letter ∷ x.0) ns)
      (at_slice dealing.factors.now at f is) (subst (λ w. DealingFrom dealing at tasks w ns) x.1 x.2))

  part_of : {tasks : List Task} {w : List ℕ} {ns : List Meeting} (d : Later tasks w ns) (k : ℕ) {p : Ty}
      {piece : List Factor} → slice_get dealing.parts.now k ≡ Some p
      → slice_get (added_at place f dealing.pieces.items) k ≡ Some piece → Part p piece d.more k ns
  part_of {tasks} d k e g =
      part_at dealing.parts.now (patterns_of tasks) (added_at place f dealing.pieces.items) d.more (pieces_of tasks) k
      d.split e g (dealt_length d.dealt)

  pub taken_by_none : (p : Ty) (piece : List Factor) → slice_get dealing.parts.now place ≡ Some p
      → slice_get dealing.pieces.items place ≡ Some piece → IsTakenByNone p (piece ++ f ∷ [])
      → (names : List TypeName) (ms : List Meeting) (tasks : List Task)
      → HasNone names ms (Beginning letter (DealingFrom dealing at tasks))
  taken_by_none p piece e g never names ms tasks w ns x good =
      let r = part_of (dealt x) place e (added_here place f dealing.pieces.items g) in
      never r.got r.word r.meetings r.splits

  pub short_of_atoms : (there : ℕ) → (there ≡ place → ⊥) → IsShort dealing at there
      → (names : List TypeName) (ms : List Meeting) (tasks : List Task)
      → HasNone names ms (Beginning letter (DealingFrom dealing at tasks))
  short_of_atoms there apart short names ms tasks w ns x good =
      let d = dealt x in
      let r = part_of d there short.stands (added_there place there f dealing.pieces.items apart short.has) in
      omega (
        arith,
        short.more,
        needed_held short.head short.part r.splits,
        held_append short.head short.piece r.got,
        got_held short.head there d.dealt r.stands,
      )

  met : {v : VarId} {piece : List Factor} {gets : List (List Factor)} {k : ℕ} {ns : List Meeting}
      (r : Part (ty.Var v) piece gets k ns) → In (loosely v (piece ++ r.got)) ns
  met {v} {piece} r =
      r.within (loosely v (piece ++ r.got))
      (subst (In (loosely v (piece ++ r.got))) (sym (of_variable (at_out (ty.Var v) (outs-Var v) r.splits)).meetings)
      (here []))

  pub lacking : (piece : List Factor) → slice_get dealing.pieces.items place ≡ Some piece
      → IsLackingPartner dealing at place → (names : List TypeName) (ms : List Meeting) (tasks : List Task)
      → HasNone names ms (Beginning letter (DealingFrom dealing at tasks))
  lacking piece g lack names ms tasks w ns x good =
      let d = dealt x in
      let one = part_of d place lack.stands (added_here place f dealing.pieces.items g) in
      let two = part_of d lack.there lack.also (added_there place lack.there f dealing.pieces.items lack.apart lack.has) in
      let agreed : Agree ((piece ++ f ∷ []) ++ one.got) (lack.piece ++ two.got) =
      all_fit good.consistent (in_back ms (met one)) (in_back ms (met two)) (sym lack.same) in
      let other = partner agreed (stands_there piece f one.got) in
      by_place other.0 other.2 two.got (λ s. dealt_stands d.dealt lack.there two.stands s) (either lack.piece two.got other.1)
    where
      by_place : (h : Factor) → AreAlike (out-Factor f) (out-Factor h) → (got : List Factor)
          → (Stands h got → Stands h left) → Stands h lack.piece ⊎ Stands h got → ⊥
      by_place h alike got leaves (inl s) = lack.unlike s.0 f h is s.1 (omega arith) alike
      by_place h alike got leaves (inr s) =
          let r = leaves s in
          lack.none_left ((at + 1) + r.0) f h is (behind (at + 1) dealing.factors.now r.0 r.1) (omega arith) alike
