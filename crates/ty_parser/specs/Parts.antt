-- What reading one type among other tokens gives: it takes tokens for as long as those taken begin a type.
use Rattle.std.specs.Prelude.{◌≡◌, ℕ, ◌+◌, ⊤, List, take}
use Rattle.ty_parser.specs.declared.sort.Sort.{Sort}
use Rattle.ty_parser.specs.declared.tree.TyExp.{TyExp}
use Rattle.ty_parser.specs.declared.tree.TypePart.{TypePart}
use Rattle.ty_parser.specs.declared.tree.ParseRefusal.{ParseRefusal}
use Rattle.ty_parser.specs.declared.tree.ParseRefusal.TheVariants as refusal
use Rattle.ty_parser.specs.Phrases.{PhraseFrom, Reaches, IsShallow, TooDeepAt}

-- the first n sorts begin a type and no more of them do, and none of them is too deep, where the first sort has this
-- number, with so many open outside
pub record Takes (outside first : ℕ) (ss : List Sort) (n : ℕ) : Type 0 where
  pub reaches : Reaches (PhraseFrom first) ss n
  pub shallow : IsShallow (PhraseFrom first) outside ss n

-- the sorts that are taken are the type, and `next` is the number of the token after them
pub record PartIs (outside first : ℕ) (ss : List Sort) (part : TypePart) : Type 0 where
  pub taken : ℕ
  pub takes : Takes outside first ss taken
  pub tree : PhraseFrom first (take taken ss) part.ty.ty
  pub next : part.next ≡ first + taken

-- the sorts that are taken are no type, and k is the number of the token after them
pub record NoPartAt (outside first : ℕ) (ss : List Sort) (k : ℕ) : Type 0 where
  pub taken : ℕ
  pub takes : Takes outside first ss taken
  pub no_type : (e : TyExp) → PhraseFrom first (take taken ss) e → ⊥
  pub next : k ≡ first + taken

-- k is the number of the first token that is too deep
pub record DeepPartAt (outside first : ℕ) (ss : List Sort) (k : ℕ) : Type 0 where
  pub taken : ℕ
  pub deep : TooDeepAt (PhraseFrom first) outside ss taken
  pub shallow : IsShallow (PhraseFrom first) outside ss taken
  pub next : k ≡ first + taken

-- reading one type is refused for this; want of memory is nothing in the sorts
abbrev pub RefusesPart : ℕ → ℕ → List Sort → ParseRefusal → Type 0
RefusesPart outside first ss (refusal.Syntax k) = NoPartAt outside first ss k
RefusesPart outside first ss (refusal.TooDeep k) = DeepPartAt outside first ss k
RefusesPart outside first ss refusal.NoMemory = ⊥

-- what an answer tells of the sorts: that reading one type is refused for this, or, where memory was wanted, nothing
abbrev pub TellsPart : ℕ → ℕ → List Sort → ParseRefusal → Type 0
TellsPart outside first ss refusal.NoMemory = ⊤
TellsPart outside first ss refusal = RefusesPart outside first ss refusal
