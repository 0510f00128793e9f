-- What is joined from terms that act as holes comes to what is joined from the holes.
use Rattle.std.proofs.Common.{◌≡◌, ℕ, ◌+◌, List, [], ◌∷◌, map, length, take, drop, sym, subst, subst₂, arith}
use Rattle.type_core.specs.declared.ty.Ty.{Ty}
use Rattle.type_core.specs.Coordinates.{atom, coordinates}
use Rattle.type_core.specs.Lists.{concatenated}
use Rattle.type_core.proofs.Trees.{coordinates_tup, coordinates_arrow}
use Rattle.iso_normal.proofs.Taking.{arguments_made}
use Rattle.conv_terms.specs.declared.term.Term.{Term}
use Rattle.conv_terms.specs.declared.term.Term.TheVariants as term
use Rattle.conv_terms.specs.Shifting.{shifted}
use Rattle.conv_terms.proofs.Moving.{shifted_by_none}
use Rattle.conv_plain.specs.Functions.{first_of}
use Rattle.conv_plain.specs.SplitJoin.{applied_each, join, join_all, split}
use Rattle.conv_plain.proofs.Equations.{join_atom, join_tup, join_arrow}
use Rattle.conv_build.specs.direct.References.{Hole, first_filled, given, references}
use Rattle.conv_build.specs.direct.LongSides.{joined}
use Rattle.conv_build.proofs.Reduction.{Reduces, ReduceEach}
use Rattle.conv_build.proofs.Equations.{Form, Forms, count_of_types, joined_all, joined_atom, joined_tup, joined_arrow}
use Rattle.conv_build.proofs.Reading.{ActEach, Reads, act_each_given, drop_acts, take_acts}

at_atom : (n : ℕ) (t : Ty) {es : List Term} {holes : List Hole} → ActEach n (atom t) es holes → Reduces n (first_of es) (first_filled holes n)
at_atom n t (ActEach.more {t = e} {hole = hole} k ks) =
    let p : n + 0 ≡ n = omega arith in
    subst (λ x. Reduces n x (hole n [])) (shifted_by_none e n) (subst (λ m. Reduces m (shifted n 0 e) (hole m [])) p (k 0 [] [] (subst (λ cs. Reads (n + 0) cs [] []) (sym (arguments_made [] t)) Reads.none)))

mutual
  pub joins : {t : Ty} → Form t → (n : ℕ) (es : List Term) (holes : List Hole) → ActEach n (coordinates t) es holes → Reduces n (join t n es) (joined t n holes)
  joins (Form.atom t is _) n es holes k =
      subst₂ (Reduces n) (sym (join_atom t is.plain n es)) (sym (joined_atom t is n holes)) (at_atom n t (subst (λ cs. ActEach n cs es holes) is.plain.coordinates_are k))
  joins (Form.tup ts l fs) n es holes k =
      subst₂ (Reduces n) (sym (join_tup ts n es)) (sym (joined_tup ts n holes)) (Reduces.tup (join_each fs n es holes (subst (λ cs. ActEach n cs es holes) (coordinates_tup ts) k)))
  joins (Form.arrow a b fa fb) n es holes k = subst₂ (Reduces n) (sym (join_arrow a b n es)) (sym (joined_arrow a b n holes))
      (Reduces.lam a (joins fb (n + 1) (applied_each n (split a (n + 1) (term.Var n)) es) (map (given (references n a)) holes) (act_each_given n a fa (coordinates b) (subst (λ cs. ActEach n cs es holes) (coordinates_arrow a b) k))))

  join_each : {ts : List Ty} → Forms ts → (n : ℕ) (es : List Term) (holes : List Hole) → ActEach n (concatenated (map coordinates ts)) es holes → ReduceEach n (join_all ts n es) (joined_all ts n holes)
  join_each Forms.none n es holes k = ReduceEach.none
  join_each (Forms.more t ts f fs) n es holes k =
      subst (λ count. ReduceEach n (join t n (take count es) ∷ join_all ts n (drop count es)) (joined_all (t ∷ ts) n holes)) (sym (count_of_types t)) (ReduceEach.more
      (joins f n (take (length (coordinates t)) es) (take (length (coordinates t)) holes) (take_acts n (coordinates t) (concatenated (map coordinates ts)) k))
      (join_each fs n (drop (length (coordinates t)) es) (drop (length (coordinates t)) holes) (drop_acts n (coordinates t) (concatenated (map coordinates ts)) k)))
