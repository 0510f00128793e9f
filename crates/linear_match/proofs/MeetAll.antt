-- Meetings of values side by side, one after the other.
use Rattle.std.proofs.Common.{◌≡◌, Bool, true, false, true≢false, not, ℕ, zero, suc, ◌+◌, ◌<◌, List, [], ◌∷◌, ◌++◌, get_or, length, take, drop, refl, sym, ap, ap₂, ◌∙◌, subst, append-nil, append_assoc, arith}
use Rattle.std.specs.Str.{bytes_eq}
use Rattle.std.proofs.lemmas.Slice.Eq.{bytes_eq-Decides}
use Rattle.std.proofs.Math.Seq.{take-append_seam}
use Rattle.std.proofs.lemmas.List.{take-append-drop, take_more}
use Rattle.type_core.specs.declared.names.TypeName.{TypeName}
use Rattle.type_core.specs.declared.ty.Ty.{Ty}
use Rattle.type_core.specs.declared.ty.Field.{Field}
use Rattle.type_core.specs.declared.ty.Ty.TheViews.{out-Ty}
use Rattle.linear_match.specs.declared.bindings.Met.{Met}
use Rattle.linear_match.specs.Meetings.{MeetEach, MeetFields, Meeting, Meets, fields_more, fields_none, meet_more, meet_none}
use Rattle.linear_match.specs.search.Bindings.{AreGood, Leads, LeadsBy, LeadsNowhere, meetings_of}
use Rattle.linear_match.proofs.Good.{good_front}
use Rattle.linear_match.proofs.Prefixes.{met_once}

-- each value meets the one at its place
pub data AllMeet {A : Type 0} (R : A → A → List Meeting → Type 0) : List A → List A → List Meeting → Type 0 where
  all_none : AllMeet R [] [] []
  all_more : {p t : A} {ps ts : List A} {ms ns : List Meeting} → R p t ms → AllMeet R ps ts ns
      → AllMeet R (p ∷ ps) (t ∷ ts) (ms ++ ns)

abbrev pub TypesMeet : Ty → Ty → List Meeting → Type 0
TypesMeet p t ms = Meets (out-Ty p) t ms

abbrev pub FieldsMeet : Field → Field → List Meeting → Type 0
FieldsMeet p t ms = (p.label ≡ t.label) × Meets (out-Ty p.ty) t.ty ms

pub all_types : {ps ts : List Ty} {ms : List Meeting} → MeetEach ps ts ms → AllMeet TypesMeet ps ts ms
all_types meet_none = all_none
all_types (meet_more m each) = all_more m (all_types each)

pub types_all : {ps ts : List Ty} {ms : List Meeting} → AllMeet TypesMeet ps ts ms → MeetEach ps ts ms
types_all all_none = meet_none
types_all (all_more m each) = meet_more m (types_all each)

pub all_fields : {ps ts : List Field} {ms : List Meeting} → MeetFields ps ts ms → AllMeet FieldsMeet ps ts ms
all_fields fields_none = all_none
all_fields (fields_more l m each) = all_more (l, m) (all_fields each)

pub fields_all : {ps ts : List Field} {ms : List Meeting} → AllMeet FieldsMeet ps ts ms → MeetFields ps ts ms
fields_all all_none = fields_none
fields_all (all_more m each) = fields_more m.0 m.1 (fields_all each)

-- what leads somewhere, and nowhere
pub leads_iff : {names : List TypeName} {old new : List Met} {P Q : List Meeting → Type 0}
    → ((ms : List Meeting) → P ms → Q ms) → LeadsBy names old new P → LeadsBy names old new Q
leads_iff f l = (l.0, f l.0 l.1, l.2)

pub nowhere_iff : {names : List TypeName} (old : List Met) {P Q : List Meeting → Type 0}
    → ((ms : List Meeting) → Q ms → P ms) → LeadsNowhere names old P → LeadsNowhere names old Q
nowhere_iff old f l ms q g = l ms (f ms q) g

pub leads_then : {names : List TypeName} {old mid new : List Met} {ms ns : List Meeting} → Leads names old mid ms
    → Leads names mid new ns → Leads names old new (ms ++ ns)
leads_then {old} {ms} {ns} l k =
    record { noted = k.noted ∙ ap (λ x. x ++ ns) l.noted ∙ append_assoc (meetings_of old) ms ns; good = k.good }

-- meetings that go on from what is good, but not with these next
module _ {names : List TypeName} {old mid : List Met} {ms : List Meeting} (l : Leads names old mid ms) where
  pub no_further : (ns more : List Meeting) → (AreGood names (meetings_of mid ++ ns) → ⊥)
      → AreGood names (meetings_of old ++ (ms ++ (ns ++ more))) → ⊥
  no_further ns more bad good =
      bad (good_front (meetings_of mid ++ ns) more
      (subst (AreGood names) (ap (λ x. meetings_of old ++ x) (sym (append_assoc ms ns more))
      ∙ sym (append_assoc (meetings_of old) (ms ++ ns) more)
      ∙ ap (λ x. x ++ more) (sym (append_assoc (meetings_of old) ms ns) ∙ ap (λ x. x ++ ns) (sym l.noted))) good))

module _ {A : Type 0} (R : A → A → List Meeting → Type 0) where
  pub all_same_length : {ps ts : List A} {ms : List Meeting} → AllMeet R ps ts ms → length ps ≡ length ts
  all_same_length all_none = refl
  all_same_length (all_more m each) = ap suc (all_same_length each)

  all_last : {ps ts : List A} {p t : A} {ms ns : List Meeting} → AllMeet R ps ts ms → R p t ns
      → AllMeet R (ps ++ p ∷ []) (ts ++ t ∷ []) (ms ++ ns)
  all_last {p} {t} {ns} all_none r = subst (AllMeet R (p ∷ []) (t ∷ [])) (append-nil ns) (all_more r all_none)
  all_last {p} {t} {ns} (all_more {p = q} {t = u} {ps} {ts} {ms} {ns = ks} m each) r =
      subst (AllMeet R (q ∷ (ps ++ p ∷ [])) (u ∷ (ts ++ t ∷ []))) (sym (append_assoc ms ks ns))
      (all_more m (all_last each r))

  module _ (once : (p t : A) (ms ns : List Meeting) → R p t ms → R p t ns → ms ≡ ns) where
    all_once : {ps ts : List A} {ms ns : List Meeting} → AllMeet R ps ts ms → AllMeet R ps ts ns → ms ≡ ns
    all_once all_none all_none = refl
    all_once (all_more {p} {t} {ms} m each) (all_more {ms = ns} n all) =
        ap₂ ◌++◌ (once p t ms ns m n) (all_once each all)

    -- the meetings before a place, at it and after it
    record Around (ps ts : List A) (i : ℕ) (d e : A) (ms : List Meeting) : Type 0 where
      before : List Meeting
      here : List Meeting
      after : List Meeting
      is : ms ≡ before ++ (here ++ after)
      all : AllMeet R (take i ps) (take i ts) before
      one : R (get_or ps i d) (get_or ts i e) here

    around : (i : ℕ) {ps ts : List A} (d e : A) {ms : List Meeting} → i < length ps → AllMeet R ps ts ms
        → Around ps ts i d e ms
    around i d e b all_none = absurd (omega (b, arith))
    around zero d e b (all_more {ms} {ns} m each) =
        record { before = []; here = ms; after = ns; is = refl; all = all_none; one = m }
    around (suc i) d e b (all_more {ms} {ns} m each) =
        let r = around i d e (omega (b, arith)) each in
        record {
          before = ms ++ r.before;
          here = r.here;
          after = r.after;
          is = ap (λ x. ms ++ x) r.is
              ∙ sym (append_assoc ms r.before (r.here ++ r.after));
          all = all_more m r.all;
          one = r.one;
        }

    -- a place at which nothing leads on
    pub nowhere_at : {names : List TypeName} {old mid : List Met} (ps ts : List A) (i : ℕ) (d e : A) → i < length ps
        → LeadsBy names old mid (AllMeet R (take i ps) (take i ts))
        → LeadsNowhere names mid (R (get_or ps i d) (get_or ts i e)) → LeadsNowhere names old (AllMeet R ps ts)
    nowhere_at {names} {old} ps ts i d e b l none ms all good =
        let r = around i d e b all in
        let same : r.before ≡ l.0 = all_once r.all l.1 in
        no_further l.2 r.here r.after (none r.here r.one)
        (subst (λ x. AreGood names (meetings_of old ++ x)) (r.is ∙ ap (λ x. x ++ (r.here ++ r.after)) same) good)

  pub leads_on : {names : List TypeName} {old mid new : List Met} (ps ts : List A) (i : ℕ) (d e : A) → i < length ps
      → length ps ≡ length ts → LeadsBy names old mid (AllMeet R (take i ps) (take i ts))
      → LeadsBy names mid new (R (get_or ps i d) (get_or ts i e))
      → LeadsBy names old new (AllMeet R (take (i + 1) ps) (take (i + 1) ts))
  leads_on ps ts i d e b same l k = (
    l.0 ++ k.0,
    subst (λ xs. AllMeet R xs (take (i + 1) ts) (l.0 ++ k.0)) (sym (take_more ps i d b))
        (subst (λ xs. AllMeet R (take i ps ++ get_or ps i d ∷ []) xs (l.0 ++ k.0))
        (sym (take_more ts i e (omega (b, same, arith))))
        (all_last l.1 k.1)),
    leads_then l.2 k.2,
  )

-- lists that begin with others
pub before_then : {A : Type 0} (old mid new : List A) → take (length old) mid ≡ old → take (length mid) new ≡ mid
    → take (length old) new ≡ old
before_then old mid new a b =
    let one : mid ≡ old ++ drop (length old) mid = sym (take-append-drop (length old) mid)
    ∙ ap (λ x. x ++ drop (length old) mid) a in
    let two : new ≡ mid ++ drop (length mid) new = sym (take-append-drop (length mid) new)
    ∙ ap (λ x. x ++ drop (length mid) new) b in
    ap (take (length old)) (two ∙ ap (λ x. x ++ drop (length mid) new) one
    ∙ append_assoc old (drop (length old) mid) (drop (length mid) new))
    ∙ take-append_seam old (drop (length old) mid ++ drop (length mid) new)

pub none_yet : {names : List TypeName} (old : List Met) {Kind : List Meeting → Type 0} → Kind []
    → AreGood names (meetings_of old) → LeadsBy names old old Kind
none_yet old k good = ([], k, record { noted = sym (append-nil (meetings_of old)); good = good })

-- types
types_once : (p t : Ty) (ms ns : List Meeting) → TypesMeet p t ms → TypesMeet p t ns → ms ≡ ns
types_once p t ms ns a b = met_once a b

module _ {names : List TypeName} (old mid : List Met) (ps ts : List Ty) (i : ℕ) (p t : Ty) (b : i < length ps)
    (same : length ps ≡ length ts) (at : p ≡ get_or ps i p) (to : t ≡ get_or ts i t)
    (l : LeadsBy names old mid (MeetEach (take i ps) (take i ts))) where
  pub each_nowhere : LeadsNowhere names mid (Meets (out-Ty p) t) → LeadsNowhere names old (MeetEach ps ts)
  each_nowhere none =
      nowhere_iff old (λ ms x. all_types x)
      (nowhere_at TypesMeet types_once ps ts i p t b (leads_iff (λ ms x. all_types x) l)
      (nowhere_iff mid (λ ms r. subst (λ x. TypesMeet x t ms) (sym at)
      (subst (λ y. TypesMeet (get_or ps i p) y ms) (sym to) r)) none))

  pub each_on : {new : List Met} → LeadsBy names mid new (Meets (out-Ty p) t)
      → LeadsBy names old new (MeetEach (take (i + 1) ps) (take (i + 1) ts))
  each_on k =
      leads_iff (λ ms x. types_all x)
      (leads_on TypesMeet ps ts i p t b same (leads_iff (λ ms x. all_types x) l)
      (leads_iff (λ ms r. subst (λ x. TypesMeet x (get_or ts i t) ms) at (subst (λ y. TypesMeet p y ms) to r)) k))

-- labels
pub labels_apart : (a b xs ys : List ℕ) (r : Bool) → xs ≡ a → ys ≡ b → r ≡ not (bytes_eq xs ys) → r ≡ true → a ≡ b → ⊥
labels_apart a b xs ys r e f is t same =
    true≢false (sym t ∙ is ∙ ap not ((bytes_eq-Decides xs ys).1 (e ∙ same ∙ sym f)))

not_false : (b : Bool) → not b ≡ false → b ≡ true
not_false true e = refl
not_false false e = absurd (true≢false e)

pub labels_same : (a b xs ys : List ℕ) (r : Bool) → xs ≡ a → ys ≡ b → r ≡ not (bytes_eq xs ys) → r ≡ false → a ≡ b
labels_same a b xs ys r e f is t = sym e ∙ (bytes_eq-Decides xs ys).0 (not_false (bytes_eq xs ys) (sym is ∙ t)) ∙ f

-- fields
fields_once : (p t : Field) (ms ns : List Meeting) → FieldsMeet p t ms → FieldsMeet p t ns → ms ≡ ns
fields_once p t ms ns a b = met_once a.1 b.1

module _ {names : List TypeName} (old mid : List Met) (ps ts : List Field) (i : ℕ) (p t : Field) (b : i < length ps)
    (same : length ps ≡ length ts) (at : p ≡ get_or ps i p) (to : t ≡ get_or ts i t)
    (l : LeadsBy names old mid (MeetFields (take i ps) (take i ts))) where
  pub fields_apart : LeadsNowhere names mid (FieldsMeet p t) → LeadsNowhere names old (MeetFields ps ts)
  fields_apart none =
      nowhere_iff old (λ ms x. all_fields x)
      (nowhere_at FieldsMeet fields_once ps ts i p t b (leads_iff (λ ms x. all_fields x) l)
      (nowhere_iff mid (λ ms r. subst (λ x. FieldsMeet x t ms) (sym at)
      (subst (λ y. FieldsMeet (get_or ps i p) y ms) (sym to) r)) none))

  pub fields_nowhere : LeadsNowhere names mid (Meets (out-Ty p.ty) t.ty) → LeadsNowhere names old (MeetFields ps ts)
  fields_nowhere none = fields_apart (nowhere_iff mid (λ ms r. r.1) none)

  pub no_label : (p.label ≡ t.label → ⊥) → LeadsNowhere names old (MeetFields ps ts)
  no_label d = fields_apart (λ ms r good. d r.0)

  pub fields_on : {new : List Met} → p.label ≡ t.label → LeadsBy names mid new (Meets (out-Ty p.ty) t.ty)
      → LeadsBy names old new (MeetFields (take (i + 1) ps) (take (i + 1) ts))
  fields_on e k =
      leads_iff (λ ms x. fields_all x)
      (leads_on FieldsMeet ps ts i p t b same (leads_iff (λ ms x. all_fields x) l)
      (leads_iff (λ ms r. subst (λ x. FieldsMeet x (get_or ts i t) ms) at (subst (λ y. FieldsMeet p y ms) to (e, r)))
      k))
