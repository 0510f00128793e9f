-- What is read is spelled so, and what is spelled so is read: units, names, type constructors and members.
use Rattle.std.proofs.Common.{◌≡◌, ℕ, zero, suc, ◌+◌, ◌^◌, ◌<◌, ◌≤◌, Bool, true, false, List, [], ◌∷◌, ◌++◌, length, map, Some, None, refl, sym, ap, subst, ◌∙◌, append_assoc, arith}
use Rattle.lib_index.specs.IndexText.{bytes_text, equality_byte, flag, kind_byte, list_text, marks, member_text, name_text, number_text, scheme_text, tycon_text, type_text, unit_byte, unit_text}
use Rattle.lib_index.specs.Reading.{Rest, bytes_at, coded, equality_of, flag_of, kind_of, many, member_at, name_at, number_at, scheme_at, tycon_at, unit_at, unit_of, whole_type_at}
use Rattle.lib_index.proofs.Fields.{ahead, Anything, IsSound, Takes, appended, bind_some, bytes_complete, bytes_sound, coded_complete, coded_sound, number_complete, number_sound, some_is}
use Rattle.lib_index.proofs.Lists.{many_complete, many_sound, texts}
use Rattle.lib_index.proofs.SchemeMarks.{marks_are, marks_length}
use Rattle.lib_index.proofs.TypesComplete.{Fits, HasLength, whole_type_complete}
use Rattle.lib_index.proofs.TypesSound.{whole_type_sound}
use Rattle.type_core.specs.declared.library.Tycon.{Tycon}
use Rattle.type_core.specs.declared.library.Unit as declared
use Rattle.type_core.specs.declared.library.UnitKind.{UnitKind}
use Rattle.type_core.specs.declared.library.UnitKind.TheVariants as unit
use Rattle.type_core.specs.declared.member.Kind.{Kind}
use Rattle.type_core.specs.declared.member.Kind.TheVariants as kind
use Rattle.type_core.specs.declared.member.Member.{Member}
use Rattle.type_core.specs.declared.names.Equality.{Equality}
use Rattle.type_core.specs.declared.names.Equality.TheVariants as equality
use Rattle.type_core.specs.declared.names.TypeName.{TypeName}
use Rattle.type_core.specs.declared.ty.Scheme.{Scheme}
use Rattle.type_core.specs.Lists.{sum_of}
use Rattle.type_core.specs.Schemes.{IsScheme}
use Rattle.type_core.specs.Size.{size_of}
use Rattle.type_core.proofs.Trees.{EachOf}

-- ---- bytes that stand for values

flag_is : (b : ℕ) (x : Bool) → flag_of b ≡ Some x → b ≡ flag x
flag_is zero x e = ap flag (some_is false x e)
flag_is (suc zero) x e = ap flag (some_is true x e)
flag_is (suc (suc b)) x e = absurd cc

flag_again : (x : Bool) → flag_of (flag x) ≡ Some x
flag_again true = refl
flag_again false = refl

unit_is : (b : ℕ) (x : UnitKind) → unit_of b ≡ Some x → b ≡ unit_byte x
unit_is zero x e = ap unit_byte (some_is unit.Sig x e)
unit_is (suc zero) x e = ap unit_byte (some_is unit.Str x e)
unit_is (suc (suc b)) x e = absurd cc

unit_again : (x : UnitKind) → unit_of (unit_byte x) ≡ Some x
unit_again unit.Sig = refl
unit_again unit.Str = refl

equality_is : (b : ℕ) (x : Equality) → equality_of b ≡ Some x → b ≡ equality_byte x
equality_is zero x e = ap equality_byte (some_is equality.Never x e)
equality_is (suc zero) x e = ap equality_byte (some_is equality.IfArgs x e)
equality_is (suc (suc b)) x e = absurd cc

kind_is : (b : ℕ) (x : Kind) → kind_of b ≡ Some x → b ≡ kind_byte x
kind_is zero x e = ap kind_byte (some_is kind.Val x e)
kind_is (suc zero) x e = ap kind_byte (some_is kind.Con x e)
kind_is (suc (suc zero)) x e = ap kind_byte (some_is kind.Exn x e)
kind_is (suc (suc (suc b))) x e = absurd cc

kind_again : (x : Kind) → kind_of (kind_byte x) ≡ Some x
kind_again kind.Val = refl
kind_again kind.Con = refl
kind_again kind.Exn = refl

-- ---- units

pub unit_sound : IsSound unit_at unit_text Anything Anything
unfolding unit_at
unit_sound from u to fits e =
    let b = bind_some (coded unit_of from) (u, to) e in
    let c = bind_some (bytes_at b.0.1) (u, to) b.2 in
    let s = coded_sound unit_of unit_byte unit_is from b.0.0 b.0.1 fits b.1 in
    let t = bytes_sound b.0.1 c.0.0 c.0.1 s.rest c.1 in
    let made : declared.Unit = record { kind = b.0.0; id = c.0.0 } in
    let taken : Takes unit_text Anything Anything from.bytes c.0.1.bytes made = record {
      rest = t.rest;
      fact = tt;
      spelled = λ _. appended from.bytes (unit_byte b.0.0 ∷ []) b.0.1.bytes (bytes_text c.0.0) c.0.1.bytes
          (s.spelled tt) (t.spelled tt);
    } in
    subst (λ (p : declared.Unit × Rest). Takes unit_text Anything Anything from.bytes p.1.bytes p.0)
    (some_is (made, c.0.1) (u, to) c.2) taken

pub unit_complete : (u : declared.Unit) (left : ℕ) (bytes : List ℕ) → HasLength u.id
    → unit_at (ahead left (unit_text u ++ bytes)) ≡ Some (u, ahead left bytes)
unfolding unit_at
unit_complete u left bytes fits = rw (
  coded_complete unit_of unit_byte u.kind left (bytes_text u.id ++ bytes)
      (unit_again u.kind),
  bytes_complete u.id left bytes fits,
) refl

-- ---- names

pub name_sound : IsSound name_at name_text Anything Anything
unfolding name_at
name_sound from name to fits e =
    let b = bind_some (bytes_at from) (name, to) e in
    let c = bind_some (number_at b.0.1) (name, to) b.2 in
    let d = bind_some (coded equality_of c.0.1) (name, to) c.2 in
    let f = bind_some (coded flag_of d.0.1) (name, to) d.2 in
    let s = bytes_sound from b.0.0 b.0.1 fits b.1 in
    let t = number_sound b.0.1 c.0.0 c.0.1 s.rest c.1 in
    let u = coded_sound equality_of equality_byte equality_is c.0.1 d.0.0 d.0.1 t.rest d.1 in
    let v = coded_sound flag_of flag flag_is d.0.1 f.0.0 f.0.1 u.rest f.1 in
    let made : TypeName = record { path = b.0.0; arity = c.0.0; equality = d.0.0; external = f.0.0 } in
    let last = appended c.0.1.bytes (equality_byte d.0.0 ∷ []) d.0.1.bytes (flag f.0.0 ∷ []) f.0.1.bytes
    (u.spelled tt) (v.spelled tt) in
    let numbers = appended b.0.1.bytes (number_text c.0.0) c.0.1.bytes
    (equality_byte d.0.0 ∷ flag f.0.0 ∷ []) f.0.1.bytes (t.spelled tt) last in
    let taken : Takes name_text Anything Anything from.bytes f.0.1.bytes made = record {
      rest = v.rest;
      fact = tt;
      spelled = λ _. appended from.bytes (bytes_text b.0.0) b.0.1.bytes (number_text c.0.0
          ++ equality_byte d.0.0 ∷ flag f.0.0 ∷ []) f.0.1.bytes (s.spelled tt) numbers;
    } in
    subst (λ (p : TypeName × Rest). Takes name_text Anything Anything from.bytes p.1.bytes p.0) (some_is (made, f.0.1)
    (name, to) f.2) taken

-- a name that has a text
pub record FitsName (name : TypeName) : Type 0 where
  pub path : HasLength name.path
  pub arity : name.arity < 2 ^ 32
  pub equality : equality_of (equality_byte name.equality) ≡ Some name.equality

pub name_complete : (name : TypeName) (left : ℕ) (bytes : List ℕ) → FitsName name
    → name_at (ahead left (name_text name ++ bytes)) ≡ Some (name, ahead left bytes)
unfolding name_at
name_complete name left bytes fits =
    let flags = equality_byte name.equality ∷ flag name.external ∷ [] in
    let regrouped : name_text name ++ bytes ≡ bytes_text name.path ++ (number_text name.arity ++ (flags ++ bytes)) =
    append_assoc (bytes_text name.path) (number_text name.arity ++ flags) bytes ∙ ap (λ t. bytes_text name.path ++ t)
    (append_assoc (number_text name.arity) flags bytes) in
    ap (λ t. name_at (ahead left t)) regrouped
    ∙ rw (
      bytes_complete name.path left (number_text name.arity ++ (flags ++ bytes)) fits.path,
      number_complete name.arity left (flags ++ bytes) fits.arity,
      coded_complete equality_of equality_byte name.equality left (flag name.external ∷ bytes) fits.equality,
      coded_complete flag_of flag name.external left bytes (flag_again name.external),
    ) refl

-- ---- type constructors

module _ (names : List TypeName) where
  pub tycon_sound : IsSound (tycon_at names) tycon_text Anything Anything
  unfolding tycon_at
  tycon_sound from tycon to fits e =
      let b = bind_some (bytes_at from) (tycon, to) e in
      let c = bind_some (number_at b.0.1) (tycon, to) b.2 in
      let d = bind_some (whole_type_at names None c.0.1) (tycon, to) c.2 in
      let s = bytes_sound from b.0.0 b.0.1 fits b.1 in
      let t = number_sound b.0.1 c.0.0 c.0.1 s.rest c.1 in
      let u = whole_type_sound names None c.0.1 d.0.0 d.0.1 t.rest d.1 in
      let made : Tycon = record { path = b.0.0; fun = record { arity = c.0.0; body = d.0.0 } } in
      let function = appended b.0.1.bytes (number_text c.0.0) c.0.1.bytes (type_text d.0.0) d.0.1.bytes (t.spelled tt)
      (u.spelled tt) in
      let taken : Takes tycon_text Anything Anything from.bytes d.0.1.bytes made = record {
        rest = u.rest;
        fact = tt;
        spelled = λ _. appended from.bytes (bytes_text b.0.0) b.0.1.bytes (number_text c.0.0
            ++ type_text d.0.0) d.0.1.bytes (s.spelled tt) function;
      } in
      subst (λ (p : Tycon × Rest). Takes tycon_text Anything Anything from.bytes p.1.bytes p.0) (some_is (made, d.0.1)
      (tycon, to) d.2) taken

  -- a type constructor that has a text
  pub record FitsTycon (tycon : Tycon) : Type 0 where
    pub path : HasLength tycon.path
    pub arity : tycon.fun.arity < 2 ^ 32
    pub body : Fits names None 200 tycon.fun.body
    pub nodes : size_of tycon.fun.body ≤ 2000

  pub tycon_complete : length names < 2 ^ 32 → (tycon : Tycon) (left : ℕ) (bytes : List ℕ) → FitsTycon tycon
      → tycon_at names (ahead left (tycon_text tycon ++ bytes)) ≡ Some (tycon, ahead left bytes)
  unfolding tycon_at
  tycon_complete few tycon left bytes fits =
      let body = tycon.fun.body in
      let regrouped : tycon_text tycon ++ bytes ≡ bytes_text tycon.path ++ (number_text tycon.fun.arity ++
      (type_text body ++ bytes)) =
      append_assoc (bytes_text tycon.path) (number_text tycon.fun.arity ++ type_text body) bytes
      ∙ ap (λ t. bytes_text tycon.path ++ t) (append_assoc (number_text tycon.fun.arity) (type_text body) bytes) in
      ap (λ t. tycon_at names (ahead left t)) regrouped
      ∙ rw (
        bytes_complete tycon.path left (number_text tycon.fun.arity ++ (type_text body ++ bytes)) fits.path,
        number_complete tycon.fun.arity left (type_text body ++ bytes) fits.arity,
        whole_type_complete names None few body left bytes fits.body fits.nodes,
      ) refl

-- ---- schemes

good_marks : (ms : List Bool) → EachOf Anything ms
good_marks [] = tt
good_marks (m ∷ ms) = (tt, good_marks ms)

no_cost : (ms : List Bool) (left : ℕ) → left ≡ sum_of (map (λ mark. 0) ms) + left
no_cost [] left = omega arith
no_cost (m ∷ ms) left = omega (arith, no_cost ms left)

module _ (names : List TypeName) where
  scheme_sound : IsSound (scheme_at names) scheme_text Anything IsScheme
  unfolding scheme_at
  scheme_sound from scheme to fits e =
      let b = bind_some (number_at from) (scheme, to) e in
      let c = bind_some (many (coded flag_of) b.0.0 b.0.1) (scheme, to) b.2 in
      let d = bind_some (whole_type_at names (Some c.0.0) c.0.1) (scheme, to) c.2 in
      let s = number_sound from b.0.0 b.0.1 fits b.1 in
      let t = many_sound (coded flag_of) (λ mark. flag mark ∷ []) Anything Anything
      (coded_sound flag_of flag flag_is) b.0.0 b.0.1 c.0.0 c.0.1 s.rest c.1 in
      let u = whole_type_sound names (Some c.0.0) c.0.1 d.0.0 d.0.1 t.rest d.1 in
      let made : Scheme = record { vars = b.0.0; body = d.0.0 } in
      let taken : Takes scheme_text Anything IsScheme from.bytes d.0.1.bytes made = record {
        rest = u.rest;
        fact = tt;
        spelled = λ good.
            let first = appended from.bytes (number_text b.0.0) b.0.1.bytes
            (texts (λ mark. flag mark ∷ []) c.0.0) c.0.1.bytes (s.spelled tt) (t.spelled (good_marks c.0.0)) in
            let counted : from.bytes ≡ list_text (λ mark. flag mark ∷ []) c.0.0 ++ c.0.1.bytes = first
            ∙ ap (λ n. (number_text n ++ texts (λ mark. flag mark ∷ []) c.0.0) ++ c.0.1.bytes) (sym t.fact.0) in
            let ms-are = marks_are made c.0.0 good t.fact.0 u.fact in
            appended from.bytes (list_text (λ mark. flag mark ∷ []) (marks made)) c.0.1.bytes
            (type_text d.0.0) d.0.1.bytes (counted ∙ ap (λ ms. list_text (λ mark. flag mark ∷ []) ms
            ++ c.0.1.bytes) ms-are) (u.spelled tt);
      } in
      subst (λ (p : Scheme × Rest). Takes scheme_text Anything IsScheme from.bytes p.1.bytes p.0)
      (some_is (made, d.0.1) (scheme, to) d.2) taken

  -- a scheme that has a text
  pub record FitsScheme (scheme : Scheme) : Type 0 where
    pub is_scheme : IsScheme scheme
    pub few : scheme.vars < 2 ^ 32
    pub body : Fits names (Some (marks scheme)) 200 scheme.body
    pub nodes : size_of scheme.body ≤ 2000

  pub scheme_complete : length names < 2 ^ 32 → (scheme : Scheme) (left : ℕ) (bytes : List ℕ) → FitsScheme scheme
      → scheme_at names (ahead left (scheme_text scheme ++ bytes)) ≡ Some (scheme, ahead left bytes)
  unfolding scheme_at
  scheme_complete few scheme left bytes fits =
      let ms = marks scheme in
      let count : length ms ≡ scheme.vars = marks_length scheme fits.is_scheme in
      let behind = type_text scheme.body ++ bytes in
      let regrouped : scheme_text scheme ++ bytes ≡ number_text scheme.vars ++ (texts (λ mark. flag mark ∷ []) ms
      ++ behind) =
      append_assoc (list_text (λ mark. flag mark ∷ []) ms) (type_text scheme.body) bytes ∙ append_assoc (number_text
      (length ms)) (texts (λ mark. flag mark ∷ []) ms) behind ∙ ap (λ n. number_text n ++
      (texts (λ mark. flag mark ∷ []) ms ++ behind)) count in
      let read = many_complete (coded flag_of) (λ mark. flag mark ∷ []) (λ mark. 0) Anything (λ mark l after t _ e.
      coded_complete flag_of flag mark l t (flag_again mark)
      ∙ ap (λ k. Some (mark, ahead k t)) (let same : l ≡ after = omega (
        arith,
        e,
      ) in same)) ms left left behind (good_marks ms) (no_cost ms left) in
      let marks_read : many (coded flag_of) scheme.vars
      (ahead left (texts (λ mark. flag mark ∷ []) ms ++ behind)) ≡ Some
      (ms, ahead left behind) =
      ap (λ n. many (coded flag_of) n (ahead left (texts (λ mark. flag mark ∷ []) ms ++ behind)))
      (sym count) ∙ read in
      ap (λ t. scheme_at names (ahead left t)) regrouped
      ∙ rw (
        number_complete scheme.vars left (texts (λ mark. flag mark ∷ []) ms ++ behind) fits.few,
        marks_read,
        whole_type_complete names (Some ms) few scheme.body left bytes fits.body fits.nodes,
      ) refl

  -- ---- members

  pub member_sound : IsSound (member_at names) member_text Anything (λ member. IsScheme member.scheme)
  unfolding member_at
  member_sound from member to fits e =
      let b = bind_some (coded kind_of from) (member, to) e in
      let c = bind_some (bytes_at b.0.1) (member, to) b.2 in
      let d = bind_some (scheme_at names c.0.1) (member, to) c.2 in
      let s = coded_sound kind_of kind_byte kind_is from b.0.0 b.0.1 fits b.1 in
      let t = bytes_sound b.0.1 c.0.0 c.0.1 s.rest c.1 in
      let u = scheme_sound c.0.1 d.0.0 d.0.1 t.rest d.1 in
      let made : Member = record { kind = b.0.0; path = c.0.0; scheme = d.0.0 } in
      let taken : Takes member_text Anything (λ member. IsScheme member.scheme) from.bytes d.0.1.bytes made = record {
        rest = u.rest;
        fact = tt;
        spelled = λ good. appended from.bytes (kind_byte b.0.0 ∷ []) b.0.1.bytes
            (bytes_text c.0.0 ++ scheme_text d.0.0) d.0.1.bytes (s.spelled tt)
            (appended b.0.1.bytes (bytes_text c.0.0) c.0.1.bytes (scheme_text d.0.0) d.0.1.bytes (t.spelled tt)
            (u.spelled good));
      } in
      subst (λ (p : Member × Rest). Takes member_text Anything (λ member.
      IsScheme member.scheme) from.bytes p.1.bytes p.0) (some_is (made, d.0.1) (member, to) d.2) taken

  -- a member that has a text
  pub record FitsMember (member : Member) : Type 0 where
    pub path : HasLength member.path
    pub scheme : FitsScheme member.scheme

  pub member_complete : length names < 2 ^ 32 → (member : Member) (left : ℕ) (bytes : List ℕ) → FitsMember member
      → member_at names (ahead left (member_text member ++ bytes)) ≡ Some (member, ahead left bytes)
  unfolding member_at
  member_complete few member left bytes fits =
      let regrouped : member_text member ++ bytes ≡ kind_byte member.kind ∷ (bytes_text member.path ++
      (scheme_text member.scheme ++ bytes)) =
      ap (λ t. kind_byte member.kind ∷ t) (append_assoc (bytes_text member.path) (scheme_text member.scheme) bytes) in
      ap (λ t. member_at names (ahead left t)) regrouped
      ∙ rw (
        coded_complete kind_of kind_byte member.kind left (bytes_text member.path ++ (scheme_text member.scheme
            ++ bytes)) (kind_again member.kind),
        bytes_complete member.path left (scheme_text member.scheme ++ bytes) fits.path,
        scheme_complete few member.scheme left bytes fits.scheme,
      ) refl
