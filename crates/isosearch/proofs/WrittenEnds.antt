-- A run that writes an index ends with what is due.
use Rattle.std.proofs.Common.{◌≡◌, ◌⊎◌, ◌≤◌, inl, inr, ℕ, List, length, refl, sym, subst, arith}
use Rattle.std.specs.Prelude.{Ok, IfSome}
use Rattle.sig_base.specs.Faults.{Rose}
use Rattle.sig_base.specs.FileWrites.{Changes}
use Rattle.sig_base.specs.declared.files.Files.{Ghosts as AreFiles}
use Rattle.query_cli.specs.declared.command.Command.{Command}
use Rattle.query_cli.specs.declared.command.Command.TheVariants as command
use Rattle.lib_load.specs.Given.{FromGiven, Given, held}
use Rattle.lib_load.specs.Loading.{most_files}
use Rattle.isosearch.specs.declared.answering.Answer.TheVariants as answer
use Rattle.isosearch.specs.Answering.{Fails, IsDueGiven, IsDueTold, WritesIndex, answered, out_of}
use Rattle.isosearch.specs.Asked.{limit_of, paths_of}
use Rattle.isosearch.specs.Ending.{Completes, Ends, EndsAsDue, EndsShort, EndsWith, IsDecided, LeavesPart, OfGiven, Writes, WritesPart}
use Rattle.isosearch.specs.Lines.{Says, not_written_line}
use Rattle.isosearch.specs.Outcome.{Due, Outcome, printed, written}
use Rattle.isosearch.specs.Outside.{Outside}
use Rattle.isosearch.proofs.Saying.{Appends-none}
use Rattle.isosearch.proofs.DueEnds.{NoByteChanges, OneOutcome, as_due, decided_not, from_held}

-- an index was due, and is written
module _ (F : Type 0) (files : AreFiles F) (path : List ℕ) (paths : List (List ℕ)) (status : ℕ) (before now : Outside F) (read : F) (one : OneOutcome) (unchanged : NoByteChanges) (text : List ℕ)
    (statuses : (status ≡ 0) ⊎ ((status ≡ 6) ⊎ (status ≡ 7)))
    (whole : status ≡ 0 → Changes before.told now.told (Writes (written path text).write) × (now.err.bytes ≡ before.err.bytes))
    (part : (status ≡ 0 → ⊥) → Changes before.told now.told (WritesPart (written path text).write))
    (fault : status ≡ 6 → Rose (before.write_faults path) (now.write_faults path))
    (line : status ≡ 6 → Says before.err now.err (not_written_line path))
    (out_is : now.out.bytes ≡ before.out.bytes) (read_is : now.read_faults ≡ files.read_faults read) where
  abbrev asked : Command
  asked = command.Index path paths

  abbrev index : Outcome
  index = written path text

  abbrev DueIndex : List Given → Type 0
  DueIndex givens = Due asked givens index

  read_before : (P Q : List Given → Type 0) → ((givens : List Given) → P givens → Q givens) → FromGiven (limit_of asked) files.gives files.read_faults (paths_of asked) before.files read P → OfGiven files asked status before now Q
  read_before P Q step found = record {
    read = read;
    given = record { givens = found.givens; gave = found.gave; follows = step found.givens found.follows };
    no_read = read_is;
    kept = λ not. absurd (not statuses);
  }

  ends_written : status ≡ 0 → EndsWith index status before now
  ends_written zero = record {
    status_is = zero;
    printed = rw out_is (Appends-none before.out.bytes);
    said = inl (rw (whole zero).1 (Appends-none before.err.bytes));
    wrote = (whole zero).0;
  }

  written_whole : status ≡ 0 → (givens : List Given) → DueIndex givens → EndsAsDue asked status before now givens
  written_whole zero = as_due F asked status before now one unchanged index (ends_written zero)

  written_short : status ≡ 6 → (givens : List Given) → DueIndex givens → EndsShort asked before now givens
  written_short six givens due = record {
    outcome = index;
    due = due;
    answered = inl refl;
    failed = inr (record { rose = fault six; nothing = out_is; said = line six });
    wrote = part (λ zero. omega (arith, six, zero));
  }

  done : ((status ≡ 6) ⊎ (status ≡ 7) → ⊥) → status ≡ 0
  done not = by statuses
    where
      by : (status ≡ 0) ⊎ ((status ≡ 6) ⊎ (status ≡ 7)) → status ≡ 0
      by (inl zero) = zero
      by (inr other) = absurd (not other)

  not_five : status ≡ 5 → ⊥
  not_five five = by statuses
    where
      by : (status ≡ 0) ⊎ ((status ≡ 6) ⊎ (status ≡ 7)) → ⊥
      by (inl is) = omega (arith, is, five)
      by (inr (inl is)) = omega (arith, is, five)
      by (inr (inr is)) = omega (arith, is, five)

  -- where no call that writes failed, the file is written, or memory was wanted
  written_complete : (givens : List Given) → DueIndex givens → Completes asked status before now givens
  written_complete givens due = λ outcome also done sound. by statuses outcome also (subst (λ o. IfSome o.write (λ write. Rose (before.write_faults write.path) (now.write_faults write.path) → ⊥)) (one asked givens outcome index also due) sound)
    where
      by : (status ≡ 0) ⊎ ((status ≡ 6) ⊎ (status ≡ 7)) → (outcome : Outcome) → Due asked givens outcome
          → (Rose (before.write_faults path) (now.write_faults path) → ⊥) → EndsWith outcome status before now ⊎ (status ≡ 7)
      by (inl zero) outcome also sound = inl (subst (λ o. EndsWith o status before now) (sym (one asked givens outcome index also due)) (ends_written zero))
      by (inr (inl six)) outcome also sound = absurd (sound (fault six))
      by (inr (inr seven)) outcome also sound = inr seven

  index_ends : IsDueGiven files.gives files.read_faults before.files read asked (Ok (answer.Index text)) → IsDueTold before.told asked (Ok (answer.Index text))
      → length paths ≤ most_files → Ends files asked status before now
  index_ends given told few =
      let due = given (λ seven. omega (arith, seven)) in
      let held = told index_sound in
      record {
        decided = λ decided. read_before DueIndex (EndsAsDue asked status before now) (written_whole (done (decided_none decided))) due;
        told = λ ended. from_held before.told asked DueIndex (EndsAsDue asked status before now) (written_whole (done (λ cut. ended (inr cut)))) held;
        complete = λ read written. from_held before.told asked DueIndex (Completes asked status before now) written_complete held;
        read_fault = λ five. absurd (not_five five);
        short = λ six. read_before DueIndex (EndsShort asked before now) (written_short six) due;
        short_told = λ six. from_held before.told asked DueIndex (EndsShort asked before now) (written_short six) held;
        wanting = λ seven. from_held before.told asked DueIndex (LeavesPart asked before now)
            (λ givens due. inr (index, due, part (λ zero. omega (arith, seven, zero)))) held;
        too_many = λ many. absurd (omega (arith, many, few));
        kept = λ not. absurd (not statuses);
        no_write = λ not. absurd (not statuses);
      }
    where
      index_sound : Fails index → ⊥
      index_sound (inl five) = omega (arith, five)
      index_sound (inr seven) = omega (arith, seven)

      decided_none : IsDecided status → (status ≡ 6) ⊎ (status ≡ 7) → ⊥
      decided_none decided (inl six) = decided_not status 6 decided (inl refl) six
      decided_none decided (inr seven) = decided_not status 7 decided (inr refl) seven

-- the same of any command that writes an index
pub indexed_ends : (F : Type 0) (files : AreFiles F) (asked : Command) (status : ℕ) (before now : Outside F) (read : F) (one : OneOutcome) (unchanged : NoByteChanges) (text : List ℕ) → WritesIndex asked
    → (status ≡ 0) ⊎ ((status ≡ 6) ⊎ (status ≡ 7))
    → (status ≡ 0 → Changes before.told now.told (Writes (written (out_of asked) text).write) × (now.err.bytes ≡ before.err.bytes))
    → ((status ≡ 0 → ⊥) → Changes before.told now.told (WritesPart (written (out_of asked) text).write))
    → (status ≡ 6 → Rose (before.write_faults (out_of asked)) (now.write_faults (out_of asked)))
    → (status ≡ 6 → Says before.err now.err (not_written_line (out_of asked)))
    → now.out.bytes ≡ before.out.bytes → now.read_faults ≡ files.read_faults read
    → IsDueGiven files.gives files.read_faults before.files read asked (Ok (answer.Index text)) → IsDueTold before.told asked (Ok (answer.Index text))
    → length (paths_of asked) ≤ most_files → Ends files asked status before now
indexed_ends F files (command.Index path paths) status before now read one unchanged text writes statuses whole part fault line out_is read_is given told few =
    index_ends F files path paths status before now read one unchanged text statuses whole part fault line out_is read_is given told few
indexed_ends F files (command.Listing paths from_index) status before now read one unchanged text writes statuses whole part fault line out_is read_is given told few = absurd writes
indexed_ends F files (command.Find mode query paths names from_index) status before now read one unchanged text writes statuses whole part fault line out_is read_is given told few = absurd writes
indexed_ends F files (command.Gen n) status before now read one unchanged text writes statuses whole part fault line out_is read_is given told few = absurd writes
