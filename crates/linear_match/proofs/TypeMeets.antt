-- What a pattern of one form meets.
use Rattle.std.proofs.Common.{◌≡◌, List, [], ◌∷◌, ◌++◌, refl, sym, ap, ◌∙◌, subst, append-nil, append_assoc}
use Rattle.type_core.specs.declared.names.TypeName.{TypeName}
use Rattle.type_core.specs.declared.ty.NameId.{NameId}
use Rattle.type_core.specs.declared.ty.VarId.{VarId}
use Rattle.type_core.specs.declared.ty.Ty.{Ty}
use Rattle.type_core.specs.declared.ty.Field.{Field}
use Rattle.type_core.specs.declared.ty.Ty.TheVariants as ty
use Rattle.type_core.specs.declared.ty.Ty.TheVariants.{outs-Var, outs-Con, outs-Rec, outs-Tup, outs-Arrow}
use Rattle.type_core.specs.declared.ty.Ty.TheOpen.{Ty-F, Var, Con, Rec, Tup, Arrow}
use Rattle.type_core.specs.declared.ty.Ty.TheViews.{out-Ty}
use Rattle.linear_match.specs.declared.bindings.Met.{Met}
use Rattle.linear_match.specs.Meetings.{MeetEach, MeetFields, Meeting, Meets, exactly, meets_application, meets_arrow, meets_record, meets_tuple, meets_variable}
use Rattle.linear_match.specs.search.Bindings.{AreGood, Leads, LeadsBy, LeadsNowhere, meetings_of}
use Rattle.linear_match.proofs.MeetAll.{leads_then, no_further}
use Rattle.linear_match.proofs.Good.{good_front}
use Rattle.linear_match.proofs.Prefixes.{met_once}

pub name_eq : (n m : NameId) → n.0 ≡ m.0 → n ≡ m
name_eq n m e = λ i. record { 0 = e i }

module _ (p t : Ty) where
  -- a variable
  module _ (v : VarId) (e : p ≡ ty.Var v) where
    var_out : out-Ty p ≡ Var v
    var_out = ap out-Ty e ∙ outs-Var v

    pub leads_variable : {names : List TypeName} {old new : List Met} → Leads names old new (exactly v t ∷ [])
        → LeadsBy names old new (Meets (out-Ty p) t)
    leads_variable l = (
      exactly v t ∷ [],
      subst (λ x. Meets x t (exactly v t ∷ [])) (sym var_out)
          (meets_variable v t),
      l,
    )

    of_var : {x : Ty-F Ty Field} {ms : List Meeting} → x ≡ Var v → Meets x t ms → ms ≡ exactly v t ∷ []
    of_var {ms} f m = go (subst (λ x. Meets x t ms) f m) where
      go : {ms : List Meeting} → Meets (Var v) t ms → ms ≡ exactly v t ∷ []
      go (meets_variable _ _) = refl

  -- an application
  module _ (n m : NameId) (ps ts : List Ty) (e : p ≡ ty.Con n ps) (f : t ≡ ty.Con m ts) where
    con_parts : {n m : NameId} {ts us : List Ty} → ◌≡◌ {A = Ty-F Ty Field} (Con n ts) (Con m us) → (n ≡ m) × (ts ≡ us)
    con_parts e = (cc e, cc e)

    of_con : {ms : List Meeting} → Meets (Con n ps) t ms → (n ≡ m) × MeetEach ps ts ms
    of_con {ms} (meets_application _ g each) = let s = con_parts (sym (ap out-Ty f ∙ outs-Con m ts) ∙ g) in
        (sym s.0, subst (λ us. MeetEach ps us ms) (sym s.1) each)

    at_con : {ms : List Meeting} → Meets (out-Ty p) t ms → Meets (Con n ps) t ms
    at_con {ms} x = subst (λ y. Meets y t ms) (ap out-Ty e ∙ outs-Con n ps) x

    pub con_of_parts : n ≡ m → (ms : List Meeting) → MeetEach ps ts ms → Meets (out-Ty p) t ms
    con_of_parts d ms each = subst (λ y. Meets y t ms) (sym (ap out-Ty e ∙ outs-Con n ps))
        (meets_application n (ap out-Ty f ∙ outs-Con m ts ∙ ap (λ k. Con k ts) (sym d)) each)

  -- a record
  module _ (ps ts : List Field) (e : p ≡ ty.Rec ps) (f : t ≡ ty.Rec ts) where
    rec_parts : {ts us : List Field} → ◌≡◌ {A = Ty-F Ty Field} (Rec ts) (Rec us) → ts ≡ us
    rec_parts e = cc e

    of_rec : {ms : List Meeting} → Meets (Rec ps) t ms → MeetFields ps ts ms
    of_rec {ms} (meets_record g each) =
        subst (λ us. MeetFields ps us ms) (rec_parts (sym g ∙ ap out-Ty f ∙ outs-Rec ts)) each

    pub rec_of_fields : (ms : List Meeting) → MeetFields ps ts ms → Meets (out-Ty p) t ms
    rec_of_fields ms each = subst (λ y. Meets y t ms) (sym (ap out-Ty e ∙ outs-Rec ps))
        (meets_record (ap out-Ty f ∙ outs-Rec ts) each)

  -- a tuple
  module _ (ps ts : List Ty) (e : p ≡ ty.Tup ps) (f : t ≡ ty.Tup ts) where
    tup_parts : {ts us : List Ty} → ◌≡◌ {A = Ty-F Ty Field} (Tup ts) (Tup us) → ts ≡ us
    tup_parts e = cc e

    of_tup : {ms : List Meeting} → Meets (Tup ps) t ms → MeetEach ps ts ms
    of_tup {ms} (meets_tuple g each) = subst (λ us. MeetEach ps us ms) (tup_parts (sym g ∙ ap out-Ty f ∙ outs-Tup ts))
        each

    pub tup_of_parts : (ms : List Meeting) → MeetEach ps ts ms → Meets (out-Ty p) t ms
    tup_of_parts ms each = subst (λ y. Meets y t ms) (sym (ap out-Ty e ∙ outs-Tup ps))
        (meets_tuple (ap out-Ty f ∙ outs-Tup ts) each)

  -- an arrow
  module _ (a b c d : Ty) (e : p ≡ ty.Arrow a b) (f : t ≡ ty.Arrow c d) where
    record BothMeet (ms : List Meeting) : Type 0 where
      left : List Meeting
      right : List Meeting
      is : ms ≡ left ++ right
      from : Meets (out-Ty a) c left
      to : Meets (out-Ty b) d right

    arrow_parts : {a b c d : Ty} → ◌≡◌ {A = Ty-F Ty Field} (Arrow a b) (Arrow c d) → (a ≡ c) × (b ≡ d)
    arrow_parts e = (cc e, cc e)

    of_arrow : {ms : List Meeting} → Meets (Arrow a b) t ms → BothMeet ms
    of_arrow (meets_arrow {ms} {ns} g m n) =
        let s = arrow_parts (sym g ∙ ap out-Ty f ∙ outs-Arrow c d) in
        record {
          left = ms;
          right = ns;
          is = refl;
          from = subst (λ u. Meets (out-Ty a) u ms) s.0 m;
          to =
              subst (λ u. Meets (out-Ty b) u ns) s.1 n;
        }

    at_arrow : {ms : List Meeting} → Meets (out-Ty p) t ms → BothMeet ms
    at_arrow {ms} x = of_arrow (subst (λ y. Meets y t ms) (ap out-Ty e ∙ outs-Arrow a b) x)

    pub leads_arrow : {names : List TypeName} {old mid new : List Met} → LeadsBy names old mid (Meets (out-Ty a) c)
        → LeadsBy names mid new (Meets (out-Ty b) d) → LeadsBy names old new (Meets (out-Ty p) t)
    leads_arrow l k = (
      l.0 ++ k.0,
      subst (λ y. Meets y t (l.0 ++ k.0)) (sym (ap out-Ty e ∙ outs-Arrow a b))
          (meets_arrow (ap out-Ty f ∙ outs-Arrow c d) l.1 k.1),
      leads_then l.2 k.2,
    )

    pub left_nowhere : {names : List TypeName} (old : List Met) → LeadsNowhere names old (Meets (out-Ty a) c)
        → LeadsNowhere names old (Meets (out-Ty p) t)
    left_nowhere {names} old none ms x good =
        let r = at_arrow x in
        none r.left r.from (good_front (meetings_of old ++ r.left) r.right
        (subst (AreGood names) (ap (λ y. meetings_of old ++ y) r.is
        ∙ sym (append_assoc (meetings_of old) r.left r.right)) good))

    pub right_nowhere : {names : List TypeName} {old mid : List Met} → LeadsBy names old mid (Meets (out-Ty a) c)
        → LeadsNowhere names mid (Meets (out-Ty b) d) → LeadsNowhere names old (Meets (out-Ty p) t)
    right_nowhere {names} {old} l none ms x good =
        let r = at_arrow x in
        no_further l.2 r.right [] (none r.right r.to)
        (subst (λ y. AreGood names (meetings_of old ++ y)) (r.is ∙ ap (λ y. y ++ r.right) (met_once r.from l.1)
        ∙ ap (λ y. l.0 ++ y) (sym (append-nil r.right))) good)
