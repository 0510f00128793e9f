-- A run that prints a report ends with what is due.
use Rattle.std.proofs.Common.{◌≡◌, ◌⊎◌, ◌<◌, inl, inr, ℕ, Bool, true, false, List, length, refl, sym, ◌∙◌, arith, if◌then◌else◌}
use Rattle.std.specs.Prelude.{Ok}
use Rattle.std.specs.Io.KnownBytes.{Appends}
use Rattle.sig_base.specs.Faults.{Rose}
use Rattle.sig_base.specs.Writing.{AppendsPart}
use Rattle.sig_base.specs.declared.files.Files.{Ghosts as AreFiles}
use Rattle.query_cli.specs.declared.command.Command.{Command}
use Rattle.lib_load.specs.Given.{Given}
use Rattle.lib_load.specs.Loading.{most_files}
use Rattle.isosearch.specs.declared.answering.Answer.TheVariants as answer
use Rattle.isosearch.specs.Answering.{Fails, IsDueGiven, IsDueTold, answered}
use Rattle.isosearch.specs.Asked.{paths_of}
use Rattle.isosearch.specs.Ending.{Completes, Ends, EndsAsDue, EndsShort, IsAnswered}
use Rattle.isosearch.specs.Lines.{Says, not_written_line, output_name}
use Rattle.isosearch.specs.Outcome.{Due, Outcome, printed, written}
use Rattle.isosearch.specs.Outside.{Outside}
use Rattle.isosearch.proofs.Saying.{Appends-none}
use Rattle.isosearch.proofs.DueEnds.{NoByteChanges, OneOutcome, answered_not, as_due, completes, decided_not, from_held, read_only, stays, stays_part}

-- a report's status
report_answers : (none : Bool) (text : List ℕ) → IsAnswered (printed (if none then 1 else 0) text).status
report_answers true text = inr refl
report_answers false text = inl refl

-- a report was due, and is printed
module _ (F : Type 0) (files : AreFiles F) (asked : Command) (status : ℕ) (before now : Outside F) (one : OneOutcome) (unchanged : NoByteChanges) (text : List ℕ) (none : Bool)
    (statuses : (status ≡ (if none then 1 else 0)) ⊎ (status ≡ 6))
    (all : (status ≡ 6 → ⊥) → Appends before.out.bytes now.out.bytes text × (now.err.bytes ≡ before.err.bytes))
    (part : status ≡ 6 → AppendsPart before.out.bytes now.out.bytes text)
    (fault : status ≡ 6 → Rose before.out.faults now.out.faults)
    (line : status ≡ 6 → Says before.err now.err (not_written_line output_name))
    (told_is : now.told ≡ before.told) (write_is : now.write_faults ≡ before.write_faults) (read_is : now.read_faults ≡ files.read_faults now.files) where
  abbrev report : Outcome
  report = answered asked (answer.Report text none)

  abbrev DueReport : List Given → Type 0
  DueReport givens = Due asked givens report

  status_is : (status ≡ 6 → ⊥) → status ≡ report.status
  status_is written = by statuses
    where
      by : (status ≡ (if none then 1 else 0)) ⊎ (status ≡ 6) → status ≡ report.status
      by (inl is) = is
      by (inr is) = absurd (written is)

  printed_whole : (status ≡ 6 → ⊥) → (givens : List Given) → DueReport givens → EndsAsDue asked status before now givens
  printed_whole written = as_due F asked status before now one unchanged report (record {
    status_is = status_is written;
    printed = (all written).0;
    said = inl (rw (all written).1 (Appends-none before.err.bytes));
    wrote = stays before.told now.told report.write told_is refl;
  })

  printed_short : status ≡ 6 → (givens : List Given) → DueReport givens → EndsShort asked before now givens
  printed_short six givens due = record {
    outcome = report;
    due = due;
    answered = report_answers none text;
    failed = inl (record { rose = fault six; part = part six; said = line six });
    wrote = stays_part before.told now.told report.write told_is refl;
  }

  not_other : (n : ℕ) → (n ≡ 5) ⊎ (n ≡ 7) → status ≡ n → ⊥
  not_other n which is = by statuses which
    where
      by : (status ≡ (if none then 1 else 0)) ⊎ (status ≡ 6) → (n ≡ 5) ⊎ (n ≡ 7) → ⊥
      by (inl e) (inl five) = answered_not report.status n (report_answers none text) (sym e ∙ is) (omega (arith, five))
      by (inl e) (inr seven) = answered_not report.status n (report_answers none text) (sym e ∙ is) (omega (arith, seven))
      by (inr e) (inl five) = omega (arith, e, is, five)
      by (inr e) (inr seven) = omega (arith, e, is, seven)

  pub printed_ends : IsDueGiven files.gives files.read_faults before.files now.files asked (Ok (answer.Report text none)) → IsDueTold before.told asked (Ok (answer.Report text none))
      → (most_files < length (paths_of asked) → now.files ≡ before.files) → Ends files asked status before now
  printed_ends given told few =
      let kept : report.status ≡ 7 → ⊥ = λ seven. answered_not report.status 7 (report_answers none text) seven (omega arith) in
      let sound : Fails report → ⊥ = report_sound in
      record {
        decided = λ decided. read_only F files asked status before now DueReport (EndsAsDue asked status before now) read_is (printed_whole (decided_not status 6 decided (inl refl))) (given kept);
        told = λ ended. from_held before.told asked DueReport (EndsAsDue asked status before now) (printed_whole (λ six. ended (inr (inl six)))) (told sound);
        complete = λ read written. from_held before.told asked DueReport (Completes asked status before now)
            (λ givens due. completes F asked status before now givens (printed_whole (λ six. written (fault six)) givens due)) (told sound);
        read_fault = λ five. absurd (not_other 5 (inl refl) five);
        short = λ six. read_only F files asked status before now DueReport (EndsShort asked before now) read_is (printed_short six) (given kept);
        short_told = λ six. from_held before.told asked DueReport (EndsShort asked before now) (printed_short six) (told sound);
        wanting = λ seven. absurd (not_other 7 (inr refl) seven);
        too_many = few;
        kept = λ not. told_is;
        no_write = λ not. write_is;
      }
    where
      report_sound : Fails report → ⊥
      report_sound (inl five) = answered_not report.status 5 (report_answers none text) five (omega arith)
      report_sound (inr seven) = answered_not report.status 7 (report_answers none text) seven (omega arith)
