-- Lists of names that were added to or settled keep each name, but for its equality.
use Rattle.std.proofs.Common.{◌≡◌, ℕ, zero, suc, ◌+◌, Bool, List, [], ◌∷◌, ◌++◌, slice_get, Some, refl, ap, ◌∙◌}
use Rattle.type_core.specs.declared.names.Equality.{Equality}
use Rattle.type_core.specs.declared.names.TypeName.{TypeName}
use Rattle.elab_env.specs.Names.{with_equality}
use Rattle.elab_rules.specs.Equality.{by_choice, greatest, with_choice, with_greatest}
use Rattle.elab_rules.specs.Environments.{Environment}
use Rattle.elab_rules.specs.Standing.{IsSameName}

-- each name of the first list stands in the second one
abbrev pub Keeps : List TypeName → List TypeName → Type 0
Keeps names more = (n : ℕ) (name : TypeName) → slice_get names n ≡ Some name → (later : TypeName) × ((slice_get more n ≡ Some later) × IsSameName name later)

same_name : (name : TypeName) → IsSameName name name
same_name name = record { path = refl; arity = refl; external = refl }

pub keeps_same : (names : List TypeName) → Keeps names names
keeps_same names n name at = (name, (at, same_name name))

pub keeps_through : (names more most : List TypeName) → Keeps names more → Keeps more most → Keeps names most
keeps_through names more most h k n name at =
    let first = h n name at in
    let second = k n first.0 first.1.0 in (
      second.0,
      (
        second.1.0,
        record {
          path = second.1.1.path ∙ first.1.1.path;
          arity = second.1.1.arity ∙ first.1.1.arity;
          external = second.1.1.external ∙ first.1.1.external;
        },
      ),
    )

-- ---- names added at the end
pub keeps_added : (names more : List TypeName) → Keeps names (names ++ more)
keeps_added [] more n name at = cc
keeps_added (x ∷ names) more zero name at = (name, (at, same_name name))
keeps_added (x ∷ names) more (suc n) name at = keeps_added names more n name at

-- ---- another equality
pub keeps_settled : (at : ℕ) (equality : Equality) (names : List TypeName) → Keeps names (with_equality at equality names)
keeps_settled at equality [] n name e = cc
keeps_settled zero equality (x ∷ names) zero name e =
    let same : x ≡ name = cc in (
      record { path = x.path; arity = x.arity; equality = equality; external = x.external },
      (refl, record { path = ap (λ (y : TypeName). y.path) same; arity = ap (λ (y : TypeName). y.arity) same; external = ap (λ (y : TypeName). y.external) same }),
    )
keeps_settled zero equality (x ∷ names) (suc n) name e = (name, (e, same_name name))
keeps_settled (suc at) equality (x ∷ names) zero name e = (name, (e, same_name name))
keeps_settled (suc at) equality (x ∷ names) (suc n) name e = keeps_settled at equality names n name e

pub keeps_choice : (first : ℕ) (choice : List Bool) (names : List TypeName) → Keeps names (with_choice first choice names)
keeps_choice first [] names = keeps_same names
keeps_choice first (b ∷ choice) names =
    keeps_through names (with_equality first (by_choice b) names) (with_choice (first + 1) choice (with_equality first (by_choice b) names))
    (keeps_settled first (by_choice b) names) (keeps_choice (first + 1) choice (with_equality first (by_choice b) names))

pub keeps_greatest : (first count : ℕ) (entries : Environment) (names : List TypeName) → Keeps names (with_greatest first count entries names)
keeps_greatest first count entries names = keeps_choice first (greatest first count entries names) names
