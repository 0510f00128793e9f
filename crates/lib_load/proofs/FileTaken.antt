-- What comes of one signature file.
use Rattle.std.proofs.Common.{◌≡◌, ℕ, List, [], ◌∷◌, sym, subst, arith}
use Rattle.std.specs.Prelude.{Result, Ok, Err}
use Rattle.sml_lexer.specs.Places.{line_at, column_at}
use Rattle.type_core.specs.declared.library.Library.{Library}
use Rattle.elab_types.specs.Stages.{Reads}
use Rattle.elab_rules.specs.Library.{Basis, empty_basis}
use Rattle.lib_load.specs.declared.refusals.Fault.{Fault}
use Rattle.lib_load.specs.declared.refusals.LoadRefusal.{LoadRefusal}
use Rattle.lib_load.specs.declared.refusals.LoadRefusal.TheVariants as refusal
use Rattle.lib_load.specs.Files.{files_over}
use Rattle.lib_load.specs.Given.{Given, text, too_much, unread}
use Rattle.lib_load.specs.Loading.{Loads, TakesFiles, accepted, failed, in_turn, library_of, long, none, refused, whole}

module _ (before : ℕ) (basis : Basis) where
  pub unread_refused : TakesFiles before basis 1 (Err (refusal.ReadFault before)) (unread ∷ [])
  unread_refused = refused failed

  pub long_refused : TakesFiles before basis 1 (Err (refusal.TooLong before)) (too_much ∷ [])
  long_refused = refused long

  pub text_accepted : (bytes : List ℕ) (after : Basis) → Reads (files_over basis) bytes (Ok after) → TakesFiles before basis 1 (Ok after) (text bytes ∷ [])
  text_accepted bytes after reads = accepted (whole reads) none

  pub text_refused : (bytes : List ℕ) (fault : Fault) (place line col : ℕ) → Reads (files_over basis) bytes (Err (record { why = fault; place = place }))
      → line ≡ line_at bytes place → col ≡ column_at bytes place → TakesFiles before basis 1 (Err (refusal.Bad before line col fault)) (text bytes ∷ [])
  text_refused bytes fault place line col reads line_is col_is = rw (line_is, col_is) (refused (whole reads))

-- what comes of the one file comes of all files
pub text_loaded : (basis : Basis) (outcome : Result Basis LoadRefusal) (answer : Result Library LoadRefusal) (givens : List Given) → basis ≡ empty_basis → answer ≡ library_of outcome → TakesFiles 0 basis 1 outcome givens → Loads 1 answer givens
text_loaded basis outcome answer givens empty is taken =
    subst (λ o. Loads 1 o givens) (sym is) (in_turn (omega arith) (subst (λ b. TakesFiles 0 b 1 outcome givens) empty taken))
