-- Lists of factors of which some are taken, and when they still agree.
use Rattle.std.proofs.Common.{◌≡◌, ◌↔◌, ℕ, ◌+◌, ◌<◌, ◌≤◌, inl, inr, zero, suc, Bool, true, false, true≢false, IsTrue, List, [], ◌∷◌, drop, length, Option, Some, IfSome, Result, Ok, Err, IfOk, get_or, replicate, slice_get, slice_index_or, slice_set, refl, sym, ap, ◌∙◌, subst, subst₂, arith}
use Rattle.std.proofs.lemmas.Bool.{cases_lt}
use Rattle.std.proofs.lemmas.List.{drop_all, drop_more, length-replicate}
use Rattle.std.proofs.lemmas.Option.{get_or_from_slice_get, slice_get-get_or, slice_get_within}
use Rattle.sig_base.specs.declared.no_memory.NoMemory.{NoMemory}
use Rattle.type_core.specs.declared.ty.Ty.{Ty}
use Rattle.iso_normal.specs.declared.factor.Factor.{Factor}
use Rattle.iso_normal.specs.declared.factor.Factor.TheVariants as factor
use Rattle.iso_normal.specs.declared.factor.Factor.TheVariants.{outs-Atom, outs-Arr}
use Rattle.iso_normal.specs.declared.factor.Factor.TheOpen.{Atom, Arr}
use Rattle.iso_normal.specs.declared.factor.Factor.TheViews.{out-Factor}
use Rattle.iso_normal.specs.Agreement.{Agree, AreAlike, Takes, first, later, none, more, atoms, arrows}
use Rattle.iso_normal.proofs.Agreeing.{agree_refl, agree_sym, agree_trans, alike_trans, partner_of}

-- those without a mark
abbrev pub untaken : List Bool → List Factor → List Factor
untaken [] gs = []
untaken (m ∷ ms) [] = []
untaken (true ∷ ms) (g ∷ gs) = untaken ms gs
untaken (false ∷ ms) (g ∷ gs) = g ∷ untaken ms gs

none_taken : (gs : List Factor) → untaken (replicate (length gs) false) gs ≡ gs
none_taken [] = refl
none_taken (g ∷ gs) = ap (λ hs. g ∷ hs) (none_taken gs)

-- a factor that isn't taken can be
taken_at : (ms : List Bool) (gs : List Factor) (k : ℕ) (g : Factor) → slice_get ms k ≡ Some false → slice_get gs k ≡ Some g → Takes g (untaken ms gs) (untaken (slice_set ms k true) gs)
taken_at [] gs k g e f = absurd (cc e)
taken_at (m ∷ ms) [] k g e f = absurd (cc f)
taken_at (true ∷ ms) (h ∷ gs) zero g e f = absurd (cc e)
taken_at (false ∷ ms) (h ∷ gs) zero g e f = subst (λ x. Takes x (h ∷ untaken ms gs) (untaken ms gs)) (cc f) (first (untaken ms gs))
taken_at (true ∷ ms) (h ∷ gs) (suc k) g e f = taken_at ms gs k g e f
taken_at (false ∷ ms) (h ∷ gs) (suc k) g e f = later h (taken_at ms gs k g e f)

-- the factor at this place isn't taken, and is like f
abbrev pub IsLike : Factor → List Factor → List Bool → ℕ → Type 0
IsLike f gs taken k = (g : Factor) × (slice_get taken k ≡ Some false) × (slice_get gs k ≡ Some g) × AreAlike (out-Factor f) (out-Factor g)

-- one that can be taken stands somewhere
record Stands (ms : List Bool) (gs : List Factor) (g : Factor) : Type 0 where
  place : ℕ
  free : slice_get ms place ≡ Some false
  at : slice_get gs place ≡ Some g

stands_next : {ms : List Bool} {gs : List Factor} {g : Factor} (m : Bool) (h : Factor) → Stands ms gs g → Stands (m ∷ ms) (h ∷ gs) g
stands_next m h s = record { place = suc s.place; free = s.free; at = s.at }

stands_at : (ms : List Bool) (gs : List Factor) {g : Factor} {all rest : List Factor} → all ≡ untaken ms gs → Takes g all rest → Stands ms gs g
stands_at [] gs e (first _) = absurd (cc e)
stands_at [] gs e (later _ t) = absurd (cc e)
stands_at (m ∷ ms) [] e (first _) = absurd (cc e)
stands_at (m ∷ ms) [] e (later _ t) = absurd (cc e)
stands_at (true ∷ ms) (h ∷ gs) e (first r) = stands_next true h (stands_at ms gs e (first r))
stands_at (true ∷ ms) (h ∷ gs) e (later g t) = stands_next true h (stands_at ms gs e (later g t))
stands_at (false ∷ ms) (h ∷ gs) e (first _) = record { place = 0; free = refl; at = ap Some (cc (sym e)) }
stands_at (false ∷ ms) (h ∷ gs) e (later _ t) = stands_next false h (stands_at ms gs (cc e) t)

length_marked : (ms : List Bool) (k : ℕ) → length (slice_set ms k true) ≡ length ms
length_marked [] k = refl
length_marked (m ∷ ms) zero = refl
length_marked (m ∷ ms) (suc k) = ap suc (length_marked ms k)

takes_length : {g : Factor} {all rest : List Factor} → Takes g all rest → length all ≡ suc (length rest)
takes_length (first rest) = refl
takes_length (later g t) = ap suc (takes_length t)

pub agree_length : {fs gs : List Factor} → Agree fs gs → length fs ≡ length gs
agree_length none = refl
agree_length (more t s others) = ap suc (agree_length others) ∙ sym (takes_length t)

-- of two that are alike, each in its list, either list goes on without
without : {f p : Factor} {fs rest left : List Factor} → Takes p (f ∷ fs) left → AreAlike (out-Factor f) (out-Factor p) → Agree rest left → Agree rest fs
without (first _) s q = q
without (later _ t) s q = agree_trans q (more t s (agree_refl _))

agree_without : {f g : Factor} {fs all rest : List Factor} → Takes g all rest → AreAlike (out-Factor f) (out-Factor g) → Agree (f ∷ fs) all → Agree fs rest
agree_without t s e = let p = partner_of t (agree_sym e) in agree_sym (without p.taken (alike_trans s p.like) p.others)

-- whether all agree is whether those agree that are still to be looked at
pub record IsLeft (fs gs : List Factor) (i : ℕ) (taken : List Bool) : Type 0 where
  pub marks : length taken ≡ length gs
  pub count : length (untaken taken gs) + i ≡ length gs
  pub still : Agree fs gs ↔ Agree (drop i fs) (untaken taken gs)

pub left_first : (fs gs : List Factor) (taken : List Bool) → taken ≡ replicate (length gs) false → IsLeft fs gs 0 taken
left_first fs gs taken e =
    let all : untaken taken gs ≡ gs = ap (λ ms. untaken ms gs) e ∙ none_taken gs in
    record {
      marks = ap length e ∙ length-replicate (length gs) false;
      count = omega (arith, ap length all);
      still = (λ a. subst (Agree fs) (sym all) a, λ a. subst (Agree fs) all a);
    }

module _ (fs gs : List Factor) (i : ℕ) (taken : List Bool) (left : IsLeft fs gs i taken) (f : Factor) (l : i < length fs) (item : f ≡ slice_index_or fs i f) where
  opened : drop i fs ≡ f ∷ drop (i + 1) fs
  opened = drop_more fs i f l ∙ ap (λ g. g ∷ drop (i + 1) fs) (sym item)

  pub left_next : (k : ℕ) (now : List Bool) → IsLike f gs taken k → now ≡ slice_set taken k true → IsLeft fs gs (i + 1) now
  left_next k now is e =
      let t : Takes is.0 (untaken taken gs) (untaken now gs) =
      subst (λ ms. Takes is.0 (untaken taken gs) (untaken ms gs)) (sym e) (taken_at taken gs k is.0 is.1 is.2) in
      record {
        marks = ap length e ∙ length_marked taken k ∙ left.marks;
        count = omega (arith, left.count, takes_length t);
        still = (
          λ a. agree_without t is.3 (subst (λ hs. Agree hs (untaken taken gs)) opened (left.still.0 a)),
          λ a. left.still.1 (subst (λ hs. Agree hs (untaken taken gs)) (sym opened) (more t is.3 a)),
        );
      }

  like_of : {hs all : List Factor} → hs ≡ f ∷ drop (i + 1) fs → all ≡ untaken taken gs → Agree hs all → (k : ℕ) × IsLike f gs taken k
  like_of e same none = absurd (cc e)
  like_of e same (more {f = h} {g} t s others) =
      let at = stands_at taken gs same t in
      (at.place, (g, at.free, at.at, subst (λ x. AreAlike (out-Factor x) (out-Factor g)) (cc e) s))

  pub none_left : ((k : ℕ) → IsLike f gs taken k → ⊥) → Agree fs gs → ⊥
  none_left h a = let found = like_of opened refl (left.still.0 a) in h found.0 found.1

pub all_left : (fs gs : List Factor) (i : ℕ) (taken : List Bool) → IsLeft fs gs i taken → length fs ≡ length gs → length fs ≤ i → Agree fs gs
all_left fs gs i taken left e l =
    left.still.1 (subst₂ Agree (sym (drop_all i fs l)) (sym (no_factors (untaken taken gs) (omega (arith, left.count, e, l)))) none)
  where
    no_factors : (hs : List Factor) → length hs ≡ 0 → hs ≡ []
    no_factors [] e = refl
    no_factors (h ∷ hs) e = absurd (omega (arith, e))

-- the places before j were looked at
pub like_next : (f : Factor) (gs : List Factor) (taken : List Bool) (j : ℕ) → ((k : ℕ) → k < j → IsLike f gs taken k → ⊥) → (IsLike f gs taken j → ⊥) → (k : ℕ) → k < j + 1 → IsLike f gs taken k → ⊥
like_next f gs taken j before here k l is = elim (cases_lt k j) [ inl m ↦ before k m is | inr m ↦ here (subst (IsLike f gs taken) (omega (arith, l, m)) is) ]

pub like_none : (f : Factor) (gs : List Factor) (taken : List Bool) (j : ℕ) → ((k : ℕ) → k < j → IsLike f gs taken k → ⊥) → length gs ≤ j → (k : ℕ) → IsLike f gs taken k → ⊥
like_none f gs taken j before l k is = before k (omega (arith, l, slice_get_within gs k is.0 is.2)) is

-- as the loops have it
pub some_like : (f : Factor) (gs : List Factor) {taken slice : List Bool} {o : Option ℕ} {k : ℕ} → o ≡ Some k → slice ≡ taken → IfSome o (IsLike f gs slice) → IsLike f gs taken k
some_like f gs {taken} {slice} {o} {k} e same is = subst (λ ms. IsLike f gs ms k) same (subst (λ o. IfSome o (IsLike f gs slice)) e is)

pub free_at : (ms : List Bool) (j : ℕ) (d : Bool) → j < length ms → get_or ms j d ≡ false → slice_get ms j ≡ Some false
free_at ms j d l e = slice_get-get_or ms j d l ∙ ap Some e

pub none_if_taken : (f : Factor) (gs : List Factor) (taken : List Bool) (j : ℕ) (d : Bool) → get_or taken j d ≡ true → IsLike f gs taken j → ⊥
none_if_taken f gs taken j d e is = true≢false (sym e ∙ get_or_from_slice_get taken j false d is.1)

pub none_if_unlike : (f : Factor) (gs : List Factor) (taken : List Bool) (j : ℕ) (h : Factor) (b : Bool) → h ≡ get_or gs j h → (IsTrue b ↔ AreAlike (out-Factor f) (out-Factor h)) → b ≡ false → IsLike f gs taken j → ⊥
none_if_unlike f gs taken j h b item is_like e is =
    let same : is.0 ≡ h = sym (get_or_from_slice_get gs j is.0 h is.2) ∙ sym item in
    true≢false (sym (is_like.1 (subst (λ g. AreAlike (out-Factor f) (out-Factor g)) same is.3)) ∙ e)

-- alike, by their layers
one_atom : {t u : Ty} → AreAlike (Atom t) (Atom u) → t ≡ u
one_atom (atoms t) = refl

arrows_agree : {xs ys ps qs : List Factor} → AreAlike (Arr xs ps) (Arr ys qs) → Agree xs ys × Agree ps qs
arrows_agree (arrows a r) = (a, r)

pub atoms_alike : {f g : Factor} {t u : Ty} (b : Bool) → f ≡ factor.Atom t → g ≡ factor.Atom u → (IsTrue b ↔ (t ≡ u)) → IsTrue b ↔ AreAlike (out-Factor f) (out-Factor g)
atoms_alike {f} {g} {t} {u} b e h same =
    let first : out-Factor f ≡ Atom t = ap out-Factor e ∙ outs-Atom t in
    let second : out-Factor g ≡ Atom u = ap out-Factor h ∙ outs-Atom u in (
      λ yes. subst₂ AreAlike (sym first) (sym second) (subst (λ u. AreAlike (Atom t) (Atom u)) (same.0 yes) (atoms t)),
      λ alike. same.1 (one_atom (subst₂ AreAlike first second alike)),
    )

pub arrows_alike : {f g : Factor} (xs ys ps qs : List Factor) → f ≡ factor.Arr xs ps → g ≡ factor.Arr ys qs → Agree xs ys
    → (r : Result Bool NoMemory) → IfOk r (λ b. IsTrue b ↔ Agree ps qs) → IfOk r (λ b. IsTrue b ↔ AreAlike (out-Factor f) (out-Factor g))
arrows_alike xs ys ps qs e h a (Err n) same = tt
arrows_alike {f} {g} xs ys ps qs e h a (Ok b) same =
    let first : out-Factor f ≡ Arr xs ps = ap out-Factor e ∙ outs-Arr xs ps in
    let second : out-Factor g ≡ Arr ys qs = ap out-Factor h ∙ outs-Arr ys qs in (
      λ yes. subst₂ AreAlike (sym first) (sym second) (arrows a (same.0 yes)),
      λ alike. same.1 (arrows_agree (subst₂ AreAlike first second alike)).1,
    )
