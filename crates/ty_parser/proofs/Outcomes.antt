-- What reading gives is the one thing that it can give.
use Rattle.std.proofs.Common.{◌≡◌, ℕ, ◌+◌, ◌<◌, ◌≤◌, List, length, take, Result, Ok, Err, refl, ap, sym, ◌∙◌, subst, arith, inl, inr}
use Rattle.std.specs.Prelude.{◌⊎◌, IfOk, IfErr}
use Rattle.std.proofs.Math.Seq.{take-length}
use Rattle.std.proofs.lemmas.List.{length-map}
use Rattle.sml_lexer.specs.declared.token.Token.{Token}
use Rattle.ty_parser.specs.Sorts.{sort_of, sorts_of}
use Rattle.ty_parser.specs.declared.sort.Sort.{Sort}
use Rattle.ty_parser.specs.declared.tree.TyExp.{TyExp}
use Rattle.ty_parser.specs.declared.tree.TypeAt.{TypeAt}
use Rattle.ty_parser.specs.declared.tree.TypePart.{TypePart}
use Rattle.ty_parser.specs.declared.tree.ParseRefusal.{ParseRefusal}
use Rattle.ty_parser.specs.declared.tree.ParseRefusal.TheVariants as refusal
use Rattle.ty_parser.specs.Phrases.{PhraseFrom, Phrase, Reaches, StopsAt, TooDeepAt, IsShallow, Refuses, Tells}
use Rattle.ty_parser.specs.Parts.{Takes, PartIs, NoPartAt, DeepPartAt, RefusesPart, TellsPart}
use Rattle.ty_parser.proofs.Stops.{one_reach, one_stop, one_depth, no_depth, deep_within}
use Rattle.ty_parser.proofs.Viable.{one_tree, phrase_begins}
use Rattle.ty_parser.proofs.Types.{types}

-- a part
module _ (outside first : ℕ) (ss : List Sort) where
  taken_same : (j k : ℕ) (e : TyExp) → Takes outside first ss j → Takes outside first ss k → PhraseFrom first (take j ss) e → PhraseFrom first (take k ss) e
  taken_same j k e at_j at_k d = subst (λ n. PhraseFrom first (take n ss) e) (one_reach (PhraseFrom first) ss j k at_j.reaches at_k.reaches) d

  module _ (n : ℕ) (e : TyExp) (takes : Takes outside first ss n) (d : PhraseFrom first (take n ss) e) where
    pub only_part : (r : Result TypePart ParseRefusal) → IfOk r (PartIs outside first ss) → IfOk r (λ part. part.ty.first ≡ first) → IfErr r (TellsPart outside first ss)
        → (r ≡ Ok (record { ty = record { first = first; ty = e }; next = first + n })) ⊎ (r ≡ Err refusal.NoMemory)
    only_part (Ok part) tree at h =
        let one = one_tree (types first) (take n ss) part.ty.ty e (taken_same tree.taken n part.ty.ty tree.takes takes tree.tree) d in
        let same = one_reach (PhraseFrom first) ss tree.taken n tree.takes.reaches takes.reaches in
        let next : part.next ≡ first + n = omega (arith, tree.next, same) in
        inl (λ i. Ok (record { ty = record { first = at i; ty = one i }; next = next i }))
    only_part (Err (refusal.Syntax k)) tree at stops = absurd (stops.no_type e (taken_same n stops.taken e takes stops.takes d))
    only_part (Err (refusal.TooDeep k)) tree at deep = absurd (no_depth (PhraseFrom first) ss outside n deep.taken takes.reaches takes.shallow deep.deep)
    only_part (Err refusal.NoMemory) tree at h = inr refl

  module _ (k : ℕ) (stops : NoPartAt outside first ss k) where
    only_no_part : (r : Result TypePart ParseRefusal) → IfOk r (PartIs outside first ss) → IfErr r (TellsPart outside first ss) → (r ≡ Err (refusal.Syntax k)) ⊎ (r ≡ Err refusal.NoMemory)
    only_no_part (Ok part) tree h = absurd (stops.no_type part.ty.ty (taken_same tree.taken stops.taken part.ty.ty tree.takes stops.takes tree.tree))
    only_no_part (Err (refusal.Syntax j)) tree other =
        let same = one_reach (PhraseFrom first) ss other.taken stops.taken other.takes.reaches stops.takes.reaches in
        let at : j ≡ k = omega (arith, same, other.next, stops.next) in
        inl (ap (λ k. Err (refusal.Syntax k)) at)
    only_no_part (Err (refusal.TooDeep j)) tree deep = absurd (no_depth (PhraseFrom first) ss outside stops.taken deep.taken stops.takes.reaches stops.takes.shallow deep.deep)
    only_no_part (Err refusal.NoMemory) tree h = inr refl

  module _ (k : ℕ) (deep : DeepPartAt outside first ss k) where
    not_reached : (n : ℕ) → Takes outside first ss n → ⊥
    not_reached n takes = no_depth (PhraseFrom first) ss outside n deep.taken takes.reaches takes.shallow deep.deep

    only_deep_part : (r : Result TypePart ParseRefusal) → IfOk r (PartIs outside first ss) → IfErr r (TellsPart outside first ss) → (r ≡ Err (refusal.TooDeep k)) ⊎ (r ≡ Err refusal.NoMemory)
    only_deep_part (Ok part) tree h = absurd (not_reached tree.taken tree.takes)
    only_deep_part (Err (refusal.Syntax j)) tree stops = absurd (not_reached stops.taken stops.takes)
    only_deep_part (Err (refusal.TooDeep j)) tree other =
        let same = one_depth (PhraseFrom first) ss outside other.taken deep.taken other.deep other.shallow deep.deep deep.shallow in
        let at : j ≡ k = omega (arith, same, other.next, deep.next) in
        inl (ap (λ k. Err (refusal.TooDeep k)) at)
    only_deep_part (Err refusal.NoMemory) tree h = inr refl

  pub only_part_refusal : (r : Result TypePart ParseRefusal) → IfOk r (PartIs outside first ss) → IfErr r (TellsPart outside first ss)
      → (due : ParseRefusal) → RefusesPart outside first ss due → (r ≡ Err due) ⊎ (r ≡ Err refusal.NoMemory)
  only_part_refusal r tree h (refusal.Syntax k) stops = only_no_part k stops r tree h
  only_part_refusal r tree h (refusal.TooDeep k) deep = only_deep_part k deep r tree h
  only_part_refusal r tree h refusal.NoMemory none = absurd none

-- what reading all the sorts gives, where an answer has a tree
pub record Gives {A Tree : Type 0} (phrase : List Sort → Tree → Type 0) (tree_of : A → Tree) (ss : List Sort) (r : Result A ParseRefusal) : Type 0 where
  pub tree : IfOk r (λ a. phrase ss (tree_of a))
  pub shallow : IfOk r (λ a. IsShallow phrase 0 ss (length ss))
  pub refusal : IfErr r (Tells phrase ss)

-- the same, counted by tokens
pub gives_tokens : {A Tree : Type 0} (phrase : List Sort → Tree → Type 0) (tree_of : A → Tree) (bytes : List ℕ) (ts : List Token) (r : Result A ParseRefusal)
    → IfOk r (λ a. phrase (sorts_of bytes ts) (tree_of a)) → IfOk r (λ a. IsShallow phrase 0 (sorts_of bytes ts) (length ts)) → IfErr r (Tells phrase (sorts_of bytes ts)) → Gives phrase tree_of (sorts_of bytes ts) r
gives_tokens phrase tree_of bytes ts r tree shallow refusal = record {
  tree = tree;
  shallow = subst (λ n. IfOk r (λ a. IsShallow phrase 0 (sorts_of bytes ts) n)) (sym (length-map ts (sort_of bytes))) shallow;
  refusal = refusal;
}

module _ {A Tree : Type 0} (phrase : List Sort → Tree → Type 0) (tree_of : A → Tree) (ss : List Sort) where
  pub only_tree : (one : (e f : Tree) → phrase ss e → phrase ss f → e ≡ f) (made : Tree → A) (r : Result A ParseRefusal) → IfOk r (λ a. a ≡ made (tree_of a)) → Gives phrase tree_of ss r
      → (e : Tree) → phrase ss e → IsShallow phrase 0 ss (length ss) → (r ≡ Ok (made e)) ⊎ (r ≡ Err refusal.NoMemory)
  only_tree one made (Ok a) is h e d shallow = inl (ap Ok (is ∙ ap made (one (tree_of a) e h.tree d)))
  only_tree one made (Err (refusal.Syntax k)) is h e d shallow = absurd (h.refusal.0.no_phrase e d)
  only_tree one made (Err (refusal.TooDeep k)) is h e d shallow = absurd (shallow k (deep_within phrase ss 0 k h.refusal.0) h.refusal.0)
  only_tree one made (Err refusal.NoMemory) is h e d shallow = inr refl

  only_syntax : (r : Result A ParseRefusal) → Gives phrase tree_of ss r → (k : ℕ) → StopsAt phrase ss k → IsShallow phrase 0 ss k → (r ≡ Err (refusal.Syntax k)) ⊎ (r ≡ Err refusal.NoMemory)
  only_syntax (Ok a) h k stops shallow = absurd (stops.no_phrase (tree_of a) h.tree)
  only_syntax (Err (refusal.Syntax j)) h k stops shallow = inl (ap (λ k. Err (refusal.Syntax k)) (one_stop phrase ss j k h.refusal.0 stops))
  only_syntax (Err (refusal.TooDeep j)) h k stops shallow = absurd (no_depth phrase ss 0 k j stops.reaches shallow h.refusal.0)
  only_syntax (Err refusal.NoMemory) h k stops shallow = inr refl

  only_too_deep : (r : Result A ParseRefusal) → Gives phrase tree_of ss r → (k : ℕ) → TooDeepAt phrase 0 ss k → IsShallow phrase 0 ss k → (r ≡ Err (refusal.TooDeep k)) ⊎ (r ≡ Err refusal.NoMemory)
  only_too_deep (Ok a) h k deep shallow = absurd (h.shallow k (deep_within phrase ss 0 k deep) deep)
  only_too_deep (Err (refusal.Syntax j)) h k deep shallow = absurd (no_depth phrase ss 0 j k h.refusal.0.reaches h.refusal.1 deep)
  only_too_deep (Err (refusal.TooDeep j)) h k deep shallow = inl (ap (λ k. Err (refusal.TooDeep k)) (one_depth phrase ss 0 j k h.refusal.0 h.refusal.1 deep shallow))
  only_too_deep (Err refusal.NoMemory) h k deep shallow = inr refl

  pub only_refusal : (r : Result A ParseRefusal) → Gives phrase tree_of ss r
      → (due : ParseRefusal) → Refuses phrase ss due → (r ≡ Err due) ⊎ (r ≡ Err refusal.NoMemory)
  only_refusal r h (refusal.Syntax k) (stops, shallow) = only_syntax r h k stops shallow
  only_refusal r h (refusal.TooDeep k) (deep, shallow) = only_too_deep r h k deep shallow
  only_refusal r h refusal.NoMemory none = absurd none

-- a type with the number of its first token
abbrev pub GivesType : List Sort → Result TypeAt ParseRefusal → Type 0
GivesType ss r = Gives Phrase (λ (t : TypeAt). t.ty) ss r

abbrev pub type_at : TyExp → TypeAt
type_at e = record { first = 0; ty = e }

module _ (ss : List Sort) where
  no_whole : (k : ℕ) (stops : NoPartAt 0 0 ss k) (f : TyExp) → Phrase ss f → ⊥
  no_whole k stops f d =
      let end : stops.taken < length ss → ⊥ = λ lt. stops.takes.reaches.next lt (phrase_begins (types 0) ss (stops.taken + 1) f d) in
      let all : length ss ≡ stops.taken = omega (arith, end, stops.takes.reaches.within) in
      stops.no_type f (subst (λ (xs : List Sort). Phrase xs f) (sym (take-length ss) ∙ ap (λ n. take n ss) all) d)

  refused : (r : ParseRefusal) → TellsPart 0 0 ss r → Tells Phrase ss r
  refused (refusal.Syntax k) stops =
      let at : stops.taken ≡ k = omega (arith, stops.next) in
      (record { reaches = subst (Reaches Phrase ss) at stops.takes.reaches; no_phrase = no_whole k stops }, subst (IsShallow Phrase 0 ss) at stops.takes.shallow)
  refused (refusal.TooDeep k) deep =
      let at : deep.taken ≡ k = omega (arith, deep.next) in
      (subst (TooDeepAt Phrase 0 ss) at deep.deep, subst (IsShallow Phrase 0 ss) at deep.shallow)
  refused refusal.NoMemory h = tt

  pub gives_refusal : (r : Result TypeAt ParseRefusal) (e f : ParseRefusal) → TellsPart 0 0 ss e → r ≡ Err f → f ≡ e → GivesType ss r
  gives_refusal r e f h is same = subst (GivesType ss) (sym (is ∙ ap Err same)) (record { tree = tt; shallow = tt; refusal = refused e h })

  module _ (part : TypePart) (is : PartIs 0 0 ss part) where
    -- more tokens stand behind the type
    pub gives_stop : part.next < length ss → GivesType ss (Err (refusal.Syntax part.next))
    gives_stop lt =
        let at : is.taken ≡ part.next = omega (arith, is.next) in
        let none : (f : TyExp) → Phrase ss f → ⊥ = λ f d. is.takes.reaches.next (omega (arith, lt, is.next)) (phrase_begins (types 0) ss (is.taken + 1) f d) in
        record {
          tree = tt;
          shallow = tt;
          refusal = (record { reaches = subst (Reaches Phrase ss) at is.takes.reaches; no_phrase = none }, subst (IsShallow Phrase 0 ss) at is.takes.shallow);
        }

    pub gives_type : length ss ≤ part.next → GivesType ss (Ok part.ty)
    gives_type le =
        let all : is.taken ≡ length ss = omega (arith, le, is.next, is.takes.reaches.within) in
        record {
          tree = subst (λ (xs : List Sort). Phrase xs part.ty.ty) (ap (λ n. take n ss) all ∙ take-length ss) is.tree;
          shallow = subst (IsShallow Phrase 0 ss) all is.takes.shallow;
          refusal = tt;
        }

  pub only_type : (r : Result TypeAt ParseRefusal) → IfOk r (λ t. t.first ≡ 0) → GivesType ss r → (e : TyExp) → Phrase ss e → IsShallow Phrase 0 ss (length ss) → (r ≡ Ok (type_at e)) ⊎ (r ≡ Err refusal.NoMemory)
  only_type r first h = only_tree Phrase (λ (t : TypeAt). t.ty) ss (one_tree (types 0) ss) type_at r (made r first) h
    where
      made : (r : Result TypeAt ParseRefusal) → IfOk r (λ t. t.first ≡ 0) → IfOk r (λ t. t ≡ type_at t.ty)
      made (Ok t) first = λ i. record { first = first i; ty = t.ty }
      made (Err f) first = tt

-- no token of a text is too deep, counted by its sorts or by itself
module _ {Tree : Type 0} (phrase : List Sort → Tree → Type 0) (bytes : List ℕ) (ts : List Token) where
  pub shallow_sorts : IsShallow phrase 0 (sorts_of bytes ts) (length ts) → IsShallow phrase 0 (sorts_of bytes ts) (length (sorts_of bytes ts))
  shallow_sorts h = subst (IsShallow phrase 0 (sorts_of bytes ts)) (sym (length-map ts (sort_of bytes))) h

  pub shallow_tokens : IsShallow phrase 0 (sorts_of bytes ts) (length (sorts_of bytes ts)) → IsShallow phrase 0 (sorts_of bytes ts) (length ts)
  shallow_tokens h = subst (IsShallow phrase 0 (sorts_of bytes ts)) (length-map ts (sort_of bytes)) h
