-- What environments weigh with all that is in their structures, by entries.
use Rattle.std.proofs.Common.{◌≡◌, ℕ, ◌+◌, List, [], ◌∷◌, length, min, sym, ap, ◌∙◌, arith}
use Rattle.type_core.specs.Lists.{sum_of}
use Rattle.elab_env.proofs.Parts.{map_map}
use Rattle.elab_rules.specs.declared.entry.Entry.{Entry}
use Rattle.elab_rules.specs.declared.entry.Entry.TheFolds.{fold-Entry, fold-roll-Entry}
use Rattle.elab_rules.specs.declared.entry.Entry.TheVariants as entry
use Rattle.elab_rules.specs.declared.entry.Entry.TheVariants.{rolls-Tycon, rolls-Value, rolls-Structure}
use Rattle.elab_rules.specs.Copies.{environment_weight, weights_step}
use Rattle.elab_rules.specs.Environments.{Environment}
use Rattle.elab_rules.specs.States.{within}
use Rattle.elab_phrases.proofs.Added.{length_within}

-- what an entry weighs with all that is in it
abbrev whole : List ℕ → Entry → ℕ
whole path e = fold-Entry (List ℕ → ℕ) weights_step e path

whole_structure : (path id : List ℕ) (entries : Environment) → whole path (entry.Structure id entries) ≡ (length path + (length id + 2)) + environment_weight (within path id) entries
whole_structure path id entries =
    ap (whole path) (sym (rolls-Structure id entries))
    ∙ ap (λ f. f path) (fold-roll-Entry (List ℕ → ℕ) weights_step _)
    ∙ (let e = length_within path id in let m = ap sum_of (map_map (λ (f : List ℕ → ℕ). f (within path id)) (fold-Entry (List ℕ → ℕ) weights_step) entries) in omega (arith, e, m))

-- ---- an entry by itself
pub weight_structure : (path id : List ℕ) (entries : Environment) → environment_weight path (entry.Structure id entries ∷ []) ≡ (length path + (length id + 2)) + environment_weight (within path id) entries
weight_structure path id entries = let e = whole_structure path id entries in omega (arith, e)

-- each part is the greatest number where it is more
pub structure_weighs : (most length_of_text path own inside own_weight inside_weight total : ℕ) → path ≡ min length_of_text most → own_weight ≡ min (path + own) most → inside_weight ≡ min inside most
    → total ≡ min (own_weight + inside_weight) most → total ≡ min ((length_of_text + own) + inside) most
structure_weighs most length_of_text path own inside own_weight inside_weight total p o i t = omega (arith, p, o, i, t)
