-- How equality is settled: names lose it as long as a constructor doesn't fit.
use Rattle.std.specs.Prelude.{◌≡◌, ℕ, ◌+◌, ◌||◌, Bool, true, false, if◌then◌else◌, List, [], ◌∷◌, length}
use Rattle.elab_env.specs.Names.{equality_at}
use Rattle.type_core.specs.declared.names.TypeName.{TypeName}
use Rattle.type_core.specs.declared.ty.Ty.{Ty}
use Rattle.elab_rules.specs.declared.entry.Entry.{Entry, out-Entry}
use Rattle.elab_rules.specs.Environments.{Environment}
use Rattle.elab_rules.specs.Equality.{admits, all_fit, entry_fits, is_never, with_choice}

-- the entry is a constructor that doesn't fit: the name that it makes, with this number, admits equality, and its
-- argument doesn't
pub record IsMisfit (names : List TypeName) (n : ℕ) (entry : Entry) : Type 0 where
  pub argument : Ty
  pub made : (others : List TypeName) → entry_fits others (out-Entry entry) ≡ (is_never (equality_at others n) || admits others argument)
  pub live : is_never (equality_at names n) ≡ false
  pub refused : admits names argument ≡ false

-- one of two choices has no more than the other
abbrev pub IsWithin : List Bool → List Bool → Type 0
IsWithin [] [] = Unit {0}
IsWithin [] (d ∷ ds) = ⊥
IsWithin (c ∷ cs) [] = ⊥
IsWithin (c ∷ cs) (d ∷ ds) = (c ≡ true → d ≡ true) × IsWithin cs ds

-- by now so many names from n on are settled by a choice that has no less than any for which all constructors fit
pub record IsBound (n count : ℕ) (entries : Environment) (names now : List TypeName) : Type 0 where
  pub choice : List Bool
  pub whole : length choice ≡ count
  pub settled : now ≡ with_choice n choice names
  pub above : (other : List Bool) → length other ≡ count → all_fit (with_choice n other names) entries ≡ true → IsWithin other choice

-- how many names admit equality
abbrev pub live_count : List TypeName → ℕ
live_count [] = 0
live_count (name ∷ names) = (if is_never name.equality then 0 else 1) + live_count names
