-- A run that is refused ends with what is due.
use Rattle.std.proofs.Common.{◌≡◌, ◌⊎◌, ◌<◌, inl, inr, ℕ, List, [], length, refl, sym, ◌∙◌, subst, arith}
use Rattle.std.specs.Prelude.{None, Err}
use Rattle.std.specs.List.{All}
use Rattle.std.proofs.lemmas.Option.{get_or_from_slice_get, slice_get_within}
use Rattle.sig_base.specs.Faults.{Rose}
use Rattle.sig_base.specs.declared.files.Files.{Ghosts as AreFiles}
use Rattle.query_cli.specs.declared.command.Command.{Command}
use Rattle.lib_load.specs.declared.refusals.LoadRefusal.TheVariants as load
use Rattle.lib_load.specs.Given.{Given}
use Rattle.lib_load.specs.Loading.{FailsAt, most_files}
use Rattle.isosearch.specs.declared.answering.Refusal.{Refusal}
use Rattle.isosearch.specs.declared.answering.Refusal.TheVariants as refusal
use Rattle.isosearch.specs.Answering.{Fails, IfUnread, IsDueGiven, IsDueTold, StopsAt, refusal_of}
use Rattle.isosearch.specs.Asked.{OfHeld, paths_of}
use Rattle.isosearch.specs.Ending.{Completes, Ends, EndsAsDue, EndsUnread, IsCutShort, LeavesPart, NoneRose}
use Rattle.isosearch.specs.Lines.{Says}
use Rattle.isosearch.specs.Outcome.{Due, Outcome, printed, written}
use Rattle.isosearch.specs.Outside.{Outside}
use Rattle.isosearch.proofs.Saying.{Appends-none}
use Rattle.isosearch.proofs.DueEnds.{NoByteChanges, OneOutcome, as_due, completes, decided_not, from_held, of_held, read_only, stays}

-- how a refusal ends the run: what was read or the query decides it, or a fault of reading, or want of memory
data Ended (paths : List (List ℕ)) : Refusal → Type 0 where
  decides : {r : Refusal} → (Fails (refusal_of paths r) → ⊥) → Ended paths r
  unread : (place : ℕ) → Ended paths (refusal.Files (load.ReadFault place))
  wanted : {r : Refusal} → (refusal_of paths r).status ≡ 7 → Ended paths r

sound : (status : ℕ) → (status ≡ 3) ⊎ ((status ≡ 4) ⊎ (status ≡ 8)) → (status ≡ 5) ⊎ (status ≡ 7) → ⊥
sound status (inl is) (inl also) = omega arith
sound status (inl is) (inr also) = omega arith
sound status (inr (inl is)) (inl also) = omega arith
sound status (inr (inl is)) (inr also) = omega arith
sound status (inr (inr is)) (inl also) = omega arith
sound status (inr (inr is)) (inr also) = omega arith

how_refused : (paths : List (List ℕ)) (r : Refusal) → Ended paths r
how_refused paths (refusal.Files load.TooManyFiles) = decides (sound 3 (inl refl))
how_refused paths (refusal.Files (load.ReadFault place)) = unread place
how_refused paths (refusal.Files (load.TooLong place)) = decides (sound 3 (inl refl))
how_refused paths (refusal.Files (load.Bad place line column fault)) = decides (sound 3 (inl refl))
how_refused paths (refusal.Files load.NotAnIndex) = decides (sound 8 (inr (inr refl)))
how_refused paths (refusal.Files load.NoMemory) = wanted refl
how_refused paths (refusal.Query why at) = decides (sound 4 (inr (inl refl)))
how_refused paths refusal.NoMemory = wanted refl

-- it has nothing for the output and no file, and isn't for a fault of writing
record IsBare (outcome : Outcome) : Type 0 where
  nothing : outcome.out ≡ []
  no_file : outcome.write ≡ None
  not_six : outcome.status ≡ 6 → ⊥

bare : (paths : List (List ℕ)) (r : Refusal) → IsBare (refusal_of paths r)
bare paths (refusal.Files load.TooManyFiles) = record { nothing = refl; no_file = refl; not_six = λ six. omega (arith, six) }
bare paths (refusal.Files (load.ReadFault place)) = record { nothing = refl; no_file = refl; not_six = λ six. omega (arith, six) }
bare paths (refusal.Files (load.TooLong place)) = record { nothing = refl; no_file = refl; not_six = λ six. omega (arith, six) }
bare paths (refusal.Files (load.Bad place line column fault)) = record { nothing = refl; no_file = refl; not_six = λ six. omega (arith, six) }
bare paths (refusal.Files load.NotAnIndex) = record { nothing = refl; no_file = refl; not_six = λ six. omega (arith, six) }
bare paths (refusal.Files load.NoMemory) = record { nothing = refl; no_file = refl; not_six = λ six. omega (arith, six) }
bare paths (refusal.Query why at) = record { nothing = refl; no_file = refl; not_six = λ six. omega (arith, six) }
bare paths refusal.NoMemory = record { nothing = refl; no_file = refl; not_six = λ six. omega (arith, six) }

-- where no count rose, reading failed at no path
none_failed : (paths : List (List ℕ)) (before now : List ℕ → ℕ) (place : ℕ) → FailsAt paths before now place → All (λ path. Rose (before path) (now path) → ⊥) paths → ⊥
none_failed paths before now place fails none =
    let within = slice_get_within paths place fails.path fails.there in
    let here = none place fails.path within in
    let P : List ℕ → Type 0 = λ path. Rose (before path) (now path) in
    here (subst P (sym (get_or_from_slice_get paths place fails.path fails.path fails.there)) fails.rose)

-- a refusal was due, and is said
module _ (F : Type 0) (files : AreFiles F) (asked : Command) (status : ℕ) (before now : Outside F) (one : OneOutcome) (unchanged : NoByteChanges) (r : Refusal)
    (is : status ≡ (refusal_of (paths_of asked) r).status) (says : Says before.err now.err (refusal_of (paths_of asked) r).err)
    (out_is : now.out.bytes ≡ before.out.bytes) (told_is : now.told ≡ before.told) (write_is : now.write_faults ≡ before.write_faults) (read_is : now.read_faults ≡ files.read_faults now.files) where
  abbrev outcome : Outcome
  outcome = refusal_of (paths_of asked) r

  abbrev DueRefusal : List Given → Type 0
  DueRefusal givens = Due asked givens outcome

  refused : (givens : List Given) → DueRefusal givens → EndsAsDue asked status before now givens
  refused = as_due F asked status before now one unchanged outcome (record {
    status_is = is;
    printed = rw (out_is, (bare (paths_of asked) r).nothing) (Appends-none before.out.bytes);
    said = says;
    wrote = stays before.told now.told outcome.write told_is (bare (paths_of asked) r).no_file;
  })

  -- 5 is said of the file that couldn't be read, and those before it are accepted
  unread_said : (x : Refusal) → IfUnread (Err x) (FailsAt (paths_of asked) before.read_faults now.read_faults)
      → IfUnread (Err x) (StopsAt files.gives files.read_faults asked before.files now.files)
      → status ≡ (refusal_of (paths_of asked) x).status → Says before.err now.err (refusal_of (paths_of asked) x).err → status ≡ 5 → EndsUnread files asked status before now
  unread_said (refusal.Files load.TooManyFiles) fails stops three said five = absurd (omega arith)
  unread_said (refusal.Files (load.ReadFault place)) fails stops same said five = record {
    place = place;
    failed = fails;
    stopped = record { read = now.files; given = stops; no_read = read_is; kept = λ not. refl };
    said = said;
  }
  unread_said (refusal.Files (load.TooLong place)) fails stops three said five = absurd (omega arith)
  unread_said (refusal.Files (load.Bad place line column fault)) fails stops three said five = absurd (omega arith)
  unread_said (refusal.Files load.NotAnIndex) fails stops eight said five = absurd (omega arith)
  unread_said (refusal.Files load.NoMemory) fails stops seven said five = absurd (omega arith)
  unread_said (refusal.Query why at) fails stops four said five = absurd (omega arith)
  unread_said refusal.NoMemory fails stops seven said five = absurd (omega arith)

  not_six : status ≡ 6 → ⊥
  not_six six = (bare (paths_of asked) r).not_six (sym is ∙ six)

  sound_where : (IsCutShort status → ⊥) → Fails outcome → ⊥
  sound_where ended (inl five) = ended (inl (is ∙ five))
  sound_where ended (inr seven) = ended (inr (inr (is ∙ seven)))

  refused_completely : IsDueTold before.told asked (Err r) → IfUnread (Err r) (FailsAt (paths_of asked) before.read_faults now.read_faults)
      → NoneRose (paths_of asked) before now → OfHeld before.told asked (Completes asked status before now)
  refused_completely told fails none = by r (how_refused (paths_of asked) r) is fails
      (λ sound. from_held before.told asked DueRefusal (Completes asked status before now)
      (λ givens due. completes F asked status before now givens (refused givens due)) (told sound))
    where
      by : (x : Refusal) → Ended (paths_of asked) x → status ≡ (refusal_of (paths_of asked) x).status → IfUnread (Err x) (FailsAt (paths_of asked) before.read_faults now.read_faults)
          → ((Fails (refusal_of (paths_of asked) x) → ⊥) → OfHeld before.told asked (Completes asked status before now)) → OfHeld before.told asked (Completes asked status before now)
      by x (decides sound) same fails completely = completely sound
      by x (unread place) same fails completely = absurd (none_failed (paths_of asked) before.read_faults now.read_faults place fails none)
      by x (wanted seven) same fails completely = of_held before.told asked (Completes asked status before now) (λ givens outcome due done sound. inr (same ∙ seven))

  refused_by : IsDueGiven files.gives files.read_faults before.files now.files asked (Err r) → IsDueTold before.told asked (Err r)
      → IfUnread (Err r) (FailsAt (paths_of asked) before.read_faults now.read_faults)
      → IfUnread (Err r) (StopsAt files.gives files.read_faults asked before.files now.files)
      → (most_files < length (paths_of asked) → now.files ≡ before.files) → Ends files asked status before now
  refused_by given told fails stops few = record {
    decided = λ decided. read_only F files asked status before now DueRefusal (EndsAsDue asked status before now) read_is refused (given (λ seven. decided_not status 7 decided (inr refl) (is ∙ seven)));
    told = λ ended. from_held before.told asked DueRefusal (EndsAsDue asked status before now) refused (told (sound_where ended));
    complete = λ read written. refused_completely told fails read;
    read_fault = λ five. unread_said r fails stops is says five;
    short = λ six. absurd (not_six six);
    short_told = λ six. absurd (not_six six);
    wanting = λ seven. of_held before.told asked (LeavesPart asked before now) (λ givens. inl told_is);
    too_many = few;
    kept = λ not. told_is;
    no_write = λ not. write_is;
  }

-- the same, where the paths are named otherwise
pub refused_ends : (F : Type 0) (files : AreFiles F) (asked : Command) (status : ℕ) (before now : Outside F) (one : OneOutcome) (unchanged : NoByteChanges) (r : Refusal) (paths : List (List ℕ)) → paths ≡ paths_of asked
    → status ≡ (refusal_of paths r).status → Says before.err now.err (refusal_of paths r).err → now.out.bytes ≡ before.out.bytes
    → now.told ≡ before.told → now.write_faults ≡ before.write_faults → now.read_faults ≡ files.read_faults now.files
    → IsDueGiven files.gives files.read_faults before.files now.files asked (Err r) → IsDueTold before.told asked (Err r)
    → IfUnread (Err r) (FailsAt (paths_of asked) before.read_faults now.read_faults)
    → IfUnread (Err r) (StopsAt files.gives files.read_faults asked before.files now.files)
    → (most_files < length (paths_of asked) → now.files ≡ before.files) → Ends files asked status before now
refused_ends F files asked status before now one unchanged r paths same is says kept told_is write_is read_is given told fails stops few =
    let I : List (List ℕ) → Type 0 = λ p. status ≡ (refusal_of p r).status in
    let L : List (List ℕ) → Type 0 = λ p. Says before.err now.err (refusal_of p r).err in
    refused_by F files asked status before now one unchanged r (subst I same is) (subst L same says) kept told_is write_is read_is given told fails stops few
