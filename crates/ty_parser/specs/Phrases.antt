-- Which lists of sorts are phrases, where a list of sorts that is none goes wrong, and where it nests too deep.
use Rattle.std.specs.Prelude.{◌≡◌, ℕ, ◌+◌, ◌<◌, ◌≤◌, ⊤, List, [], ◌++◌, Some, length, take, slice_get, sum_by}
use Rattle.std.specs.List.{enumerate_from}
use Rattle.sig_base.specs.declared.word.Word.TheVariants as w
use Rattle.ty_parser.specs.declared.sort.Sort.{Sort}
use Rattle.ty_parser.specs.declared.sort.Sort.TheVariants as s
use Rattle.ty_parser.specs.declared.tree.TyExp.{TyExp}
use Rattle.ty_parser.specs.declared.tree.ParseRefusal.{ParseRefusal}
use Rattle.ty_parser.specs.declared.tree.ParseRefusal.TheVariants as refusal
use Rattle.ty_parser.specs.Grammar.{Ty}

-- the sorts are the type, all of them, where the first has this number
abbrev pub PhraseFrom : ℕ → List Sort → TyExp → Type 0
PhraseFrom first ss e = Ty (enumerate_from first ss) [] e

-- the sorts are the type, all of them
abbrev pub Phrase : List Sort → TyExp → Type 0
Phrase ss e = PhraseFrom 0 ss e

-- the sorts begin a phrase
abbrev pub Begins : {Tree : Type 0} → (List Sort → Tree → Type 0) → List Sort → Type 0
Begins {Tree = Tree} phrase ss = (more : List Sort) × (e : Tree) × phrase (ss ++ more) e

-- the first k sorts begin a phrase and no more of them do
pub record Reaches {Tree : Type 0} (phrase : List Sort → Tree → Type 0) (ss : List Sort) (k : ℕ) : Type 0 where
  pub within : k ≤ length ss
  pub front : Begins phrase (take k ss)
  pub next : k < length ss → Begins phrase (take (k + 1) ss) → ⊥

-- the same, and the sorts are no phrase: the next one cannot stand there, or the end is wrong
pub record StopsAt {Tree : Type 0} (phrase : List Sort → Tree → Type 0) (ss : List Sort) (k : ℕ) : Type 0 where
  pub reaches : Reaches phrase ss k
  pub no_phrase : (e : Tree) → phrase ss e → ⊥

-- so many tokens may be open
abbrev pub most_open : ℕ
most_open = 200

-- how many tokens this one opens: (, { and sig open one
abbrev pub opens : Sort → ℕ
opens (s.Reserved w.KwLParen) = 1
opens (s.Reserved w.KwLBrace) = 1
opens (s.Reserved w.KwSig) = 1
opens _ = 0

-- how many tokens this one closes: ), } and end close one
abbrev pub closes : Sort → ℕ
closes (s.Reserved w.KwRParen) = 1
closes (s.Reserved w.KwRBrace) = 1
closes (s.Reserved w.KwEnd) = 1
closes _ = 0

-- token k opens one more and can stand there, and as many as may be are open before it: those outside, which are open
-- before the first token, and those that the tokens before it opened and didn't close
pub record TooDeepAt {Tree : Type 0} (phrase : List Sort → Tree → Type 0) (outside : ℕ) (ss : List Sort) (k : ℕ) : Type 0 where
  pub sort : Sort
  pub there : slice_get ss k ≡ Some sort
  pub opening : opens sort ≡ 1
  pub allowed : Begins phrase (take (k + 1) ss)
  pub open_before : outside + sum_by opens (take k ss) ≡ sum_by closes (take k ss) + most_open

-- none of the first k tokens is too deep
abbrev pub IsShallow : {Tree : Type 0} → (List Sort → Tree → Type 0) → ℕ → List Sort → ℕ → Type 0
IsShallow phrase outside ss k = (i : ℕ) → i < k → TooDeepAt phrase outside ss i → ⊥

-- the sorts are refused for this; want of memory is nothing in the sorts
abbrev pub Refuses : {Tree : Type 0} → (List Sort → Tree → Type 0) → List Sort → ParseRefusal → Type 0
Refuses phrase ss (refusal.Syntax k) = StopsAt phrase ss k × IsShallow phrase 0 ss k
Refuses phrase ss (refusal.TooDeep k) = TooDeepAt phrase 0 ss k × IsShallow phrase 0 ss k
Refuses phrase ss refusal.NoMemory = ⊥

-- what an answer tells of the sorts: that they are refused for this, or, where memory was wanted, nothing
abbrev pub Tells : {Tree : Type 0} → (List Sort → Tree → Type 0) → List Sort → ParseRefusal → Type 0
Tells phrase ss refusal.NoMemory = ⊤
Tells phrase ss refusal = Refuses phrase ss refusal
