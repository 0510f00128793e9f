-- What entries and units list, by their outermost form.
use Rattle.std.proofs.Common.{◌≡◌, ℕ, ◌+◌, ◌<◌, List, [], ◌∷◌, ◌++◌, length, map, drop, get_or, sym, ap, ◌∙◌}
use Rattle.std.proofs.lemmas.List.{append_assoc}
use Rattle.std.proofs.lemmas.Simd.{map-map}
use Rattle.type_core.specs.declared.library.Tycon.{Tycon}
use Rattle.type_core.specs.declared.member.Member.{Member}
use Rattle.type_core.specs.Lists.{concatenated}
use Rattle.elab_rules.specs.declared.entry.Entry.{Entry}
use Rattle.elab_rules.specs.declared.entry.Entry.TheFolds.{fold-roll-Entry}
use Rattle.elab_rules.specs.declared.entry.Entry.TheVariants as entry
use Rattle.elab_rules.specs.declared.entry.Entry.TheVariants.{rolls-Tycon, rolls-Value, rolls-Structure}
use Rattle.elab_rules.specs.declared.entry.TypeEntry.{TypeEntry}
use Rattle.elab_rules.specs.declared.entry.UnitEntry.{UnitEntry}
use Rattle.elab_rules.specs.declared.entry.ValueEntry.{ValueEntry}
use Rattle.elab_rules.specs.Library.{entry_members, entry_tycons, members_step, tycons_step, unit_members, unit_tycons}
use Rattle.elab_rules.specs.States.{member_of, tycon_of, within}
use Rattle.elab_types.proofs.Lists.{dropped}

-- ---- type constructors
pub tycons_type : (x : Entry) (type : TypeEntry) (path : List ℕ) → x ≡ entry.Tycon type → entry_tycons x path ≡ tycon_of path type ∷ []
tycons_type x type path is = ap (λ y. entry_tycons y path) (is ∙ sym (rolls-Tycon type)) ∙ ap (λ f. f path) (fold-roll-Entry _ tycons_step _)

pub tycons_value : (x : Entry) (value : ValueEntry) (path : List ℕ) → x ≡ entry.Value value → entry_tycons x path ≡ []
tycons_value x value path is = ap (λ y. entry_tycons y path) (is ∙ sym (rolls-Value value)) ∙ ap (λ f. f path) (fold-roll-Entry _ tycons_step _)

pub tycons_structure : (x : Entry) (id : List ℕ) (entries : List Entry) (path : List ℕ) → x ≡ entry.Structure id entries → entry_tycons x path ≡ concatenated (map (λ e. entry_tycons e (within path id)) entries)
tycons_structure x id entries path is =
    ap (λ y. entry_tycons y path) (is ∙ sym (rolls-Structure id entries))
    ∙ ap (λ f. f path) (fold-roll-Entry _ tycons_step _)
    ∙ ap concatenated (map-map (λ (f : List ℕ → List Tycon). f (within path id)) entry_tycons entries)

-- ---- members
pub members_type : (x : Entry) (type : TypeEntry) (path : List ℕ) → x ≡ entry.Tycon type → entry_members x path ≡ []
members_type x type path is = ap (λ y. entry_members y path) (is ∙ sym (rolls-Tycon type)) ∙ ap (λ f. f path) (fold-roll-Entry _ members_step _)

pub members_value : (x : Entry) (value : ValueEntry) (path : List ℕ) → x ≡ entry.Value value → entry_members x path ≡ member_of path value ∷ []
members_value x value path is = ap (λ y. entry_members y path) (is ∙ sym (rolls-Value value)) ∙ ap (λ f. f path) (fold-roll-Entry _ members_step _)

pub members_structure : (x : Entry) (id : List ℕ) (entries : List Entry) (path : List ℕ) → x ≡ entry.Structure id entries → entry_members x path ≡ concatenated (map (λ e. entry_members e (within path id)) entries)
members_structure x id entries path is =
    ap (λ y. entry_members y path) (is ∙ sym (rolls-Structure id entries))
    ∙ ap (λ f. f path) (fold-roll-Entry _ members_step _)
    ∙ ap concatenated (map-map (λ (f : List ℕ → List Member). f (within path id)) entry_members entries)

pub tycons_within : (x : Entry) (id text : List ℕ) (entries items : List Entry) (path whole given : List ℕ) → x ≡ entry.Structure id entries → text ≡ id → whole ≡ within path text → items ≡ entries → given ≡ whole
    → concatenated (map (λ e. entry_tycons e given) items) ≡ entry_tycons x path
tycons_within x id text entries items path whole given is t w i g =
    ap (λ es. concatenated (map (λ e. entry_tycons e given) es)) i
    ∙ ap (λ p. concatenated (map (λ e. entry_tycons e p) entries)) (g ∙ w ∙ ap (within path) t)
    ∙ sym (tycons_structure x id entries path is)

pub members_within : (x : Entry) (id text : List ℕ) (entries items : List Entry) (path whole given : List ℕ) → x ≡ entry.Structure id entries → text ≡ id → whole ≡ within path text → items ≡ entries → given ≡ whole
    → concatenated (map (λ e. entry_members e given) items) ≡ entry_members x path
members_within x id text entries items path whole given is t w i g =
    ap (λ es. concatenated (map (λ e. entry_members e given) es)) i
    ∙ ap (λ p. concatenated (map (λ e. entry_members e p) entries)) (g ∙ w ∙ ap (within path) t)
    ∙ sym (members_structure x id entries path is)

-- ---- units in turn
pub listed_more : {A B : Type 0} (f : A → List B) (xs : List A) (i : ℕ) (x d : A) (old new whole : List B) → i < length xs → x ≡ get_or xs i d → new ≡ old ++ f x → old ++ concatenated (map f (drop i xs)) ≡ whole
    → new ++ concatenated (map f (drop (i + 1) xs)) ≡ whole
listed_more f xs i x d old new whole within is n so_far =
    ap (λ ys. ys ++ concatenated (map f (drop (i + 1) xs))) n
    ∙ append_assoc old (f x) (concatenated (map f (drop (i + 1) xs)))
    ∙ sym (ap (λ ys. old ++ concatenated (map f ys)) (dropped xs i x d within is))
    ∙ so_far

pub unit_tycons_listed : (unit : UnitEntry) (entries : List Entry) (text : List ℕ) (old new : List Tycon) → entries ≡ unit.entries → text ≡ unit.id → new ≡ old ++ concatenated (map (λ e. entry_tycons e text) entries) → new ≡ old ++ unit_tycons unit
unit_tycons_listed unit entries text old new e t n =
    n
    ∙ ap (λ es. old ++ concatenated (map (λ e. entry_tycons e text) es)) e
    ∙ ap (λ x. old ++ concatenated (map (λ e. entry_tycons e x) unit.entries)) t

pub unit_members_listed : (unit : UnitEntry) (entries : List Entry) (text : List ℕ) (old new : List Member) → entries ≡ unit.entries → text ≡ unit.id → new ≡ old ++ concatenated (map (λ e. entry_members e text) entries) → new ≡ old ++ unit_members unit
unit_members_listed unit entries text old new e t n =
    n
    ∙ ap (λ es. old ++ concatenated (map (λ e. entry_members e text) es)) e
    ∙ ap (λ x. old ++ concatenated (map (λ e. entry_members e x) unit.entries)) t
