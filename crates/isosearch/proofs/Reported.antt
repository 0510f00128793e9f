-- The outcomes of reports.
use Rattle.std.proofs.Common.{◌≡◌, ℕ, Bool, true, false, List, [], ◌∷◌, if◌then◌else◌, refl, ap, arith}
use Rattle.std.specs.Prelude.{◌↔◌, IsTrue}
use Rattle.type_core.specs.declared.library.Library.{Library}
use Rattle.type_core.specs.declared.ty.Scheme.{Scheme}
use Rattle.query_cli.specs.declared.command.Command.{Command}
use Rattle.search_core.specs.declared.answer.Hit.{Hit}
use Rattle.search_core.specs.declared.answer.Mode.{Mode}
use Rattle.search_core.specs.Report.{report_text}
use Rattle.search_core.specs.Search.{AreHits}
use Rattle.isosearch.specs.declared.answering.Answer.TheVariants as answer
use Rattle.isosearch.specs.Answering.{answered}
use Rattle.isosearch.specs.Outcome.{printed, searched, status_of}

status_is : (hits : List Hit) (none : Bool) → (IsTrue none ↔ (hits ≡ [])) → (if none then 1 else 0) ≡ status_of hits
status_is [] none empty = ap (λ b. if b then 1 else 0) (empty.1 refl)
status_is (first ∷ others) false empty = refl
status_is (first ∷ others) true empty = grind (arith, empty.0 refl)

pub searched_is : (library : Library) (mode : Mode) (scheme : Scheme) (hits : List Hit) (text : List ℕ) (none names_only : Bool) → AreHits library mode scheme hits → text ≡ report_text library hits names_only → (IsTrue none ↔ (hits ≡ []))
    → (hits : List Hit) × AreHits library mode scheme hits × ((asked : Command) → answered asked (answer.Report text none) ≡ searched library hits names_only)
searched_is library mode scheme hits text none names_only are is empty =
    let status : (if none then 1 else 0) ≡ status_of hits = status_is hits none empty in
    (hits, are, λ asked. λ k. printed (status k) (is k))
