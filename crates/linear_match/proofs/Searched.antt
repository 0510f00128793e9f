-- What is found for a task, by the form of its pattern.
use Rattle.std.proofs.Common.{◌≡◌, ℕ, ◌≤◌, List, [], ◌∷◌, ◌++◌, drop, drop_of_length-le, length, replicate, refl, sym, ap, ap₂, ◌∙◌, subst, append_assoc}
use Rattle.type_core.specs.declared.names.TypeName.{TypeName}
use Rattle.type_core.specs.declared.ty.VarId.{VarId}
use Rattle.type_core.specs.declared.ty.Ty.{Ty}
use Rattle.type_core.specs.declared.ty.Ty.TheVariants as ty
use Rattle.type_core.specs.declared.ty.Ty.TheVariants.{outs-Var, outs-Tup, outs-Arrow}
use Rattle.type_core.specs.declared.ty.Ty.TheOpen.{Var, Tup, Arrow}
use Rattle.type_core.specs.declared.ty.Ty.TheViews.{out-Ty}
use Rattle.iso_normal.specs.declared.factor.Factor.{Factor}
use Rattle.iso_normal.specs.declared.factor.Factor.TheOpen.{Factor-F, Atom, Arr}
use Rattle.iso_normal.specs.declared.factor.Factor.TheViews.{out-Factor}
use Rattle.iso_normal.specs.Factors.{IsNotOneArrow, factors_of_arrow}
use Rattle.linear_match.specs.declared.bindings.Met.{Met}
use Rattle.linear_match.specs.declared.search.Dealing.{Dealing}
use Rattle.linear_match.specs.declared.search.Sorting.{Sorting}
use Rattle.linear_match.specs.declared.search.Task.{Task}
use Rattle.linear_match.specs.Meetings.{Meeting, Meets, loosely}
use Rattle.linear_match.specs.Splits.{SplitEach}
use Rattle.linear_match.specs.search.Bindings.{AreGood, Leads, LeadsBy, LeadsNowhere, meetings_of}
use Rattle.linear_match.specs.search.Cutting.{IsEndedByNone}
use Rattle.linear_match.specs.search.Tasks.{DealingFrom, DealsOn, Finds, HasNone, IsRigid, Matching, MatchingBoth, MatchingFirst, MatchingPieces, SortingFrom, SortsOn, patterns_of, pieces_of}
use Rattle.linear_match.proofs.Best.{After, Within, finds_after, finds_iff, none_after_leads, none_apart, none_iff}
use Rattle.linear_match.proofs.Cut.{second}
use Rattle.linear_match.proofs.Good.{good_front}
use Rattle.linear_match.proofs.Prefixes.{met_once}
use Rattle.linear_match.proofs.Steps.{arrow_first, atom_first, deal_ends, ends_deal, ends_sort, first_arrow, first_atom, first_other, first_tuple, first_variable, other_first, sort_ends, tuple_first, variable_first}
use Rattle.linear_match.proofs.Tasked.{split_moved}

-- a variable
module _ (top : Task) (tasks : List Task) (v : VarId) (e : top.pattern.now ≡ ty.Var v) (fs : List Factor)
    (same : fs ≡ top.factors) where
  variable_out : out-Ty top.pattern.now ≡ Var v
  variable_out = ap out-Ty e ∙ outs-Var v

  to_first : Within (After (loosely v fs ∷ []) (Matching tasks)) (MatchingFirst top tasks)
  to_first = subst (λ fs. Within (After (loosely v fs ∷ []) (Matching tasks)) (MatchingFirst top tasks)) (sym same)
      (variable_first top.pattern.now (patterns_of tasks) top.factors (pieces_of tasks) v variable_out)

  of_first : Within (MatchingFirst top tasks) (After (loosely v fs ∷ []) (Matching tasks))
  of_first = subst (λ fs. Within (MatchingFirst top tasks) (After (loosely v fs ∷ []) (Matching tasks))) (sym same)
      (first_variable top.pattern.now (patterns_of tasks) top.factors (pieces_of tasks) v variable_out)

  pub variable_found : {names : List TypeName} {old mid new : List Met} {before after : List ℕ}
      → Leads names old mid (loosely v fs ∷ []) → Finds names mid new before after (Matching tasks)
      → Finds names old new before after (MatchingFirst top tasks)
  variable_found l f = finds_iff to_first of_first (finds_after l f)

  pub variable_none : {names : List TypeName} (old : List Met) {mid : List Met}
      → Leads names old mid (loosely v fs ∷ []) → HasNone names (meetings_of mid) (Matching tasks)
      → HasNone names (meetings_of old) (MatchingFirst top tasks)
  variable_none old l none = none_iff (meetings_of old) of_first (none_after_leads l none)

  pub variable_refused : {names : List TypeName} (old : List Met)
      → (AreGood names (meetings_of old ++ loosely v fs ∷ []) → ⊥)
      → HasNone names (meetings_of old) (MatchingFirst top tasks)
  variable_refused old bad =
      none_iff (meetings_of old) of_first (none_apart (meetings_of old) (loosely v fs ∷ []) bad)

-- an application or a record
one_factor : {f g : Factor} {fs : List Factor} → fs ≡ f ∷ [] → fs ≡ g ∷ [] → f ≡ g
one_factor e i = same (sym e ∙ i) where
  same : {f g : Factor} → f ∷ [] ≡ g ∷ [] → f ≡ g
  same e = cc e

one_type : (f : Factor) {t u : Ty} → out-Factor f ≡ Atom t → out-Factor f ≡ Atom u → t ≡ u
one_type f e i = same (sym e ∙ i) where
  same : {t u : Ty} → ◌≡◌ {A = Factor-F Factor} (Atom t) (Atom u) → t ≡ u
  same e = cc e

module _ (top : Task) (tasks : List Task) (rigid : IsRigid (out-Ty top.pattern.now)) where
  pub atom_needed : {names : List TypeName} (old : List Met)
      → ((f : Factor) (t : Ty) → top.factors ≡ f ∷ [] → out-Factor f ≡ Atom t → ⊥)
      → HasNone names (meetings_of old) (MatchingFirst top tasks)
  atom_needed old none w ns s good =
      let r = first_atom top.pattern.now (patterns_of tasks) top.factors (pieces_of tasks) rigid s in
      none r.0 r.1 r.2 r.3

  module _ (f : Factor) (t : Ty) (i : top.factors ≡ f ∷ []) (a : out-Factor f ≡ Atom t) where
    met_at : {g : Factor} {u : Ty} {ks : List Meeting} → top.factors ≡ g ∷ [] → out-Factor g ≡ Atom u
        → Meets (out-Ty top.pattern.now) u ks → Meets (out-Ty top.pattern.now) t ks
    met_at {g} {u} {ks} e b m =
        let same : u ≡ t = one_type g b (ap out-Factor (one_factor e i) ∙ a) in
        subst (λ t. Meets (out-Ty top.pattern.now) t ks) same m

    atom_after : (ks : List Meeting) → Meets (out-Ty top.pattern.now) t ks
        → Within (MatchingFirst top tasks) (After ks (Matching tasks))
    atom_after ks m w ns s =
        let r = first_atom top.pattern.now (patterns_of tasks) top.factors (pieces_of tasks) rigid s in
        subst (λ ks. After ks (Matching tasks) w ns) (met_once (met_at r.2 r.3 r.5) m) r.6

    pub atom_found : {names : List TypeName} {old mid new : List Met} {before after : List ℕ}
        → LeadsBy names old mid (Meets (out-Ty top.pattern.now) t) → Finds names mid new before after (Matching tasks)
        → Finds names old new before after (MatchingFirst top tasks)
    atom_found l found = finds_iff
        (atom_first top.pattern.now (patterns_of tasks) top.factors (pieces_of tasks) rigid i a l.1)
        (atom_after l.0 l.1) (finds_after l.2 found)

    pub atom_none : {names : List TypeName} (old : List Met) {mid : List Met}
        → LeadsBy names old mid (Meets (out-Ty top.pattern.now) t) → HasNone names (meetings_of mid) (Matching tasks)
        → HasNone names (meetings_of old) (MatchingFirst top tasks)
    atom_none old l none = none_iff (meetings_of old) (atom_after l.0 l.1) (none_after_leads l.2 none)

    pub atom_refused : {names : List TypeName} (old : List Met)
        → LeadsNowhere names old (Meets (out-Ty top.pattern.now) t)
        → HasNone names (meetings_of old) (MatchingFirst top tasks)
    atom_refused {names} old none w ns s good =
        let r = first_atom top.pattern.now (patterns_of tasks) top.factors (pieces_of tasks) rigid s in
        none r.4 (met_at r.2 r.3 r.5)
        (good_front (meetings_of old ++ r.4) r.6.rest
        (subst (AreGood names) (ap (λ x. meetings_of old ++ x) r.6.is
        ∙ sym (append_assoc (meetings_of old) r.4 r.6.rest)) good))

-- a tuple
pub deals_moved : (ps qs : List Ty) (j : ℕ) (fs gs : List Factor) (xs ys : List (List Factor)) (tasks : List Task)
    → ps ≡ qs → fs ≡ gs → xs ≡ ys → Within (DealsOn ps j fs xs tasks) (DealsOn qs j gs ys tasks)
deals_moved ps qs j fs gs xs ys tasks e f g w ns d =
    subst (λ ys. DealsOn qs j gs ys tasks w ns) g
    (subst (λ gs. DealsOn qs j gs xs tasks w ns) f (subst (λ qs. DealsOn qs j fs xs tasks w ns) e d))

module _ (top : Task) (tasks : List Task) (ps : List Ty) (e : top.pattern.now ≡ ty.Tup ps) (dealing : Dealing)
    (a : dealing.parts.now ≡ ps) (b : dealing.factors.now ≡ top.factors)
    (none : dealing.pieces.items ≡ replicate (length ps) []) where
  tuple_out : out-Ty top.pattern.now ≡ Tup ps
  tuple_out = ap out-Ty e ∙ outs-Tup ps

  pub dealt_first : Within (DealingFrom dealing 0 tasks) (MatchingFirst top tasks)
  dealt_first w ns d = tuple_first tasks top.pattern.now ps top.factors tuple_out w ns
      (deals_moved dealing.parts.now ps 0 dealing.factors.now top.factors dealing.pieces.items
      (replicate (length ps) []) tasks a b none w ns d)

  pub first_dealt : Within (MatchingFirst top tasks) (DealingFrom dealing 0 tasks)
  first_dealt w ns s =
      deals_moved ps dealing.parts.now 0 top.factors dealing.factors.now (replicate (length ps) [])
      dealing.pieces.items tasks (sym a) (sym b) (sym none) w ns
      (first_tuple tasks top.pattern.now ps top.factors tuple_out w ns s)

-- an arrow
pub sorts_moved : (p q r s : Ty) (fs gs xs ys sent send kept keep : List Factor) (tasks : List Task) → p ≡ r → q ≡ s
    → fs ≡ gs → xs ≡ ys → sent ≡ send → kept ≡ keep
    → Within (SortsOn p q fs xs sent kept tasks) (SortsOn r s gs ys send keep tasks)
sorts_moved p q r s fs gs xs ys sent send kept keep tasks a b c d e f w ns x =
    subst (λ keep. SortsOn r s gs ys send keep tasks w ns) f
    (subst (λ send. SortsOn r s gs ys send kept tasks w ns) e
    (subst (λ ys. SortsOn r s gs ys sent kept tasks w ns) d
    (subst (λ gs. SortsOn r s gs xs sent kept tasks w ns) c
    (subst (λ s. SortsOn r s fs xs sent kept tasks w ns) b
    (subst (λ r. SortsOn r q fs xs sent kept tasks w ns) a x)))))

first_moved : {p : Ty} (tasks : List Task) (fs gs : List Factor) → fs ≡ gs → {w : List ℕ} {ns : List Meeting}
    → SplitEach (p ∷ patterns_of tasks) (fs ∷ pieces_of tasks) w ns
    → SplitEach (p ∷ patterns_of tasks) (gs ∷ pieces_of tasks) w ns
first_moved tasks fs gs e s = split_moved refl (ap (λ fs. fs ∷ pieces_of tasks) e) s

module _ (top : Task) (tasks : List Task) (p q : Ty) (e : top.pattern.now ≡ ty.Arrow p q) where
  arrow_out : out-Ty top.pattern.now ≡ Arrow p q
  arrow_out = ap out-Ty e ∙ outs-Arrow p q

  module _ (f : Factor) (xs ys : List Factor) (i : top.factors ≡ f ∷ []) (o : out-Factor f ≡ Arr xs ys) where
    pub none_ends : {names : List TypeName} (old : List Met) → IsEndedByNone q ys
        → HasNone names (meetings_of old) (MatchingFirst top tasks)
    none_ends old ended w ns s good =
        let d = first_arrow tasks top.pattern.now p q arrow_out f xs ys o w ns
        (first_moved tasks top.factors (f ∷ []) i s) in
        let r = second d.split in ended d.keeps r.0 r.1 r.2

  module _ (f : Factor) (xs ys : List Factor) (i : top.factors ≡ f ∷ []) (o : out-Factor f ≡ Arr xs ys)
      (sorting : Sorting) (a : sorting.from.now ≡ p) (b : sorting.to.now ≡ q)
      (c : sorting.arguments.now ≡ xs) (d : sorting.results.now ≡ ys) (sent : sorting.sent ≡ [])
      (kept : sorting.kept ≡ []) where
    pub sorted_first : Within (SortingFrom sorting 0 tasks) (MatchingFirst top tasks)
    sorted_first w ns s =
        first_moved tasks (f ∷ []) top.factors (sym i)
        (arrow_first tasks top.pattern.now p q arrow_out f xs ys o w ns
        (sorts_moved sorting.from.now sorting.to.now p q sorting.arguments.now xs sorting.results.now ys sorting.sent
        [] sorting.kept [] tasks a b c d sent kept w ns s))

    pub first_sorted : Within (MatchingFirst top tasks) (SortingFrom sorting 0 tasks)
    first_sorted w ns s =
        sorts_moved p q sorting.from.now sorting.to.now xs sorting.arguments.now ys sorting.results.now []
        sorting.sent [] sorting.kept tasks (sym a) (sym b) (sym c) (sym d) (sym sent) (sym kept) w ns
        (first_arrow tasks top.pattern.now p q arrow_out f xs ys o w ns (first_moved tasks top.factors (f ∷ []) i s))

  module _ (i : IsNotOneArrow top.factors) (left right : Task) (a : left.pattern.now ≡ p) (b : right.pattern.now ≡ q)
      (c : left.factors ≡ []) (d : right.factors ≡ top.factors) where
    pub both_first : Within (MatchingBoth left right tasks) (MatchingFirst top tasks)
    both_first w ns s = other_first tasks top.pattern.now p q arrow_out top.factors i w ns
        (split_moved (ap₂ (λ a b. a ∷ b ∷ patterns_of tasks) a b) (ap₂ (λ c d. c ∷ d ∷ pieces_of tasks) c d) s)

    pub first_both : Within (MatchingFirst top tasks) (MatchingBoth left right tasks)
    first_both w ns s =
        split_moved (ap₂ (λ a b. a ∷ b ∷ patterns_of tasks) (sym a) (sym b))
        (ap₂ (λ c d. c ∷ d ∷ pieces_of tasks) (sym c) (sym d))
        (first_other tasks top.pattern.now p q arrow_out top.factors i w ns s)

-- all factors are dealt
module _ (dealing : Dealing) (at : ℕ) (tasks : List Task) (past : length dealing.factors.now ≤ at)
    (long : length dealing.pieces.items ≡ length dealing.parts.now) where
  pub pieces_dealt : Within (MatchingPieces dealing tasks) (DealingFrom dealing at tasks)
  pieces_dealt w ns s =
      deals_moved dealing.parts.now dealing.parts.now at [] (drop at dealing.factors.now) dealing.pieces.items
      dealing.pieces.items tasks refl (sym (drop_of_length-le dealing.factors.now past)) refl w ns
      (ends_deal dealing.parts.now at dealing.pieces.items tasks long w ns s)

  pub dealt_pieces : Within (DealingFrom dealing at tasks) (MatchingPieces dealing tasks)
  dealt_pieces w ns d =
      deal_ends dealing.parts.now at dealing.pieces.items tasks long w ns
      (deals_moved dealing.parts.now dealing.parts.now at (drop at dealing.factors.now) [] dealing.pieces.items
      dealing.pieces.items tasks refl (drop_of_length-le dealing.factors.now past) refl w ns d)

-- all arguments are sorted
module _ (sorting : Sorting) (at : ℕ) (tasks : List Task) (past : length sorting.arguments.now ≤ at)
    (left right : Task) (a : left.pattern.now ≡ sorting.from.now) (b : right.pattern.now ≡ sorting.to.now)
    (c : left.factors ≡ sorting.sent) (d : right.factors ≡ factors_of_arrow sorting.kept sorting.results.now) where
  pub both_sorted : Within (MatchingBoth left right tasks) (SortingFrom sorting at tasks)
  both_sorted w ns s =
      sorts_moved sorting.from.now sorting.to.now sorting.from.now sorting.to.now [] (drop at sorting.arguments.now)
      sorting.results.now sorting.results.now sorting.sent sorting.sent sorting.kept sorting.kept tasks
      refl refl (sym (drop_of_length-le sorting.arguments.now past)) refl refl refl w ns
      (ends_sort sorting.from.now sorting.to.now sorting.results.now tasks sorting.sent sorting.kept w ns
      (split_moved (ap₂ (λ a b. a ∷ b ∷ patterns_of tasks) a b) (ap₂ (λ c d. c ∷ d ∷ pieces_of tasks) c d) s))

  pub sorted_both : Within (SortingFrom sorting at tasks) (MatchingBoth left right tasks)
  sorted_both w ns s =
      split_moved (ap₂ (λ a b. a ∷ b ∷ patterns_of tasks) (sym a) (sym b))
      (ap₂ (λ c d. c ∷ d ∷ pieces_of tasks) (sym c) (sym d))
      (sort_ends sorting.from.now sorting.to.now sorting.results.now tasks sorting.sent sorting.kept w ns
      (sorts_moved sorting.from.now sorting.to.now sorting.from.now sorting.to.now [] [] sorting.results.now
      sorting.results.now sorting.sent sorting.sent sorting.kept sorting.kept tasks refl refl refl refl refl refl
      w ns
      (sorts_moved sorting.from.now sorting.to.now sorting.from.now sorting.to.now (drop at sorting.arguments.now) []
      sorting.results.now sorting.results.now sorting.sent sorting.sent sorting.kept sorting.kept tasks
      refl refl (drop_of_length-le sorting.arguments.now past) refl refl refl w ns s)))
