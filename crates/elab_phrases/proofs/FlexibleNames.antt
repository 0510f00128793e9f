-- Flexible names.
use Rattle.std.proofs.Common.{◌≡◌, ℕ, ◌≤◌, ◌&&◌, Bool, true, false, if◌then◌else◌, nat_le, Some, None, refl, ap, ◌∙◌}
use Rattle.std.proofs.lemmas.Bool.{and_from, le-leb}
use Rattle.elab_env.specs.Table.{is_free}
use Rattle.elab_rules.specs.declared.progress.Progress.{Progress}
use Rattle.elab_rules.specs.Replacing.{if_flexible}
use Rattle.elab_rules.specs.States.{is_free as is_free_in}
use Rattle.elab_rules.specs.Views.{state_of}
use Rattle.elab_rules.proofs.Gone.{free_is}

-- a free name from the base on is flexible
pub flexible_is : (base n : ℕ) (p : Progress) → base ≤ n → is_free p.table n ≡ true → if_flexible base (state_of p) n ≡ Some n
flexible_is base n p l free = ap (λ b. if b then Some n else None) (and_from (nat_le base n) _ (le-leb base n l) (free_is p n ∙ free))

-- one that isn't free isn't
pub not_free : (base n : ℕ) (p : Progress) → is_free p.table n ≡ false → if_flexible base (state_of p) n ≡ None
not_free base n p gone = ap (λ b. if nat_le base n && b then Some n else None) (free_is p n ∙ gone) ∙ none_at (nat_le base n)
  where
    none_at : (b : Bool) → (if b && false then Some n else None) ≡ None
    none_at true = refl
    none_at false = refl

-- an earlier one isn't
pub not_later : (base n : ℕ) (p : Progress) → nat_le base n ≡ false → if_flexible base (state_of p) n ≡ None
not_later base n p early = ap (λ b. if b && is_free_in (state_of p) n then Some n else None) early
