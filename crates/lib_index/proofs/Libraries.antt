-- What is read is spelled so, and what is spelled so is read: the parts of a library.
use Rattle.std.proofs.Common.{◌≡◌, ℕ, ◌+◌, ◌-◌, ◌^◌, ◌<◌, ◌≤◌, Bool, true, false, eqb, nat_lt, if◌then◌else◌, List, [], ◌∷◌, ◌++◌, drop, length, map, Option, Some, None, refl, sym, ap, subst, ◌∙◌, append_assoc, arith}
use Rattle.std.proofs.lemmas.Bool.{eqb-true, le-ltb}
use Rattle.std.proofs.lemmas.List.{append-nil, nil_from_length}
use Rattle.lib_index.specs.IndexText.{list_text, member_text, name_text, number_text, tycon_text, unit_text}
use Rattle.lib_index.specs.Reading.{Rest, charged, library_at, list_at, many, member_at, members_at, name_at, names_at, number_at, tycon_at, unit_at, with_front}
use Rattle.lib_index.proofs.Fields.{ahead, Anything, IsBytes, IsSound, appended, bind_some, charged_complete, charged_sound, number_complete, number_sound, some_is}
use Rattle.lib_index.proofs.Items.{FitsMember, FitsName, FitsTycon, member_complete, member_sound, name_complete, name_sound, tycon_complete, tycon_sound, unit_complete, unit_sound}
use Rattle.lib_index.proofs.Lists.{list_complete, list_sound, many_complete, many_sound, texts}
use Rattle.lib_index.proofs.TypesComplete.{HasLength}
use Rattle.type_core.specs.declared.library.Library.{Library}
use Rattle.type_core.specs.declared.member.Member.{Member}
use Rattle.type_core.specs.declared.names.TypeName.{TypeName}
use Rattle.type_core.specs.InitialNames.{initial_names}
use Rattle.type_core.specs.Lists.{sum_of}
use Rattle.type_core.specs.Schemes.{IsScheme}
use Rattle.type_core.specs.ValidLibrary.{own_names}
use Rattle.type_core.specs.Weight.{member_weight, name_weight, tycon_weight, unit_weight}
use Rattle.type_core.proofs.Trees.{EachOf}

-- the text behind the heading
abbrev pub parts_text : Library → List ℕ
parts_text library =
    list_text unit_text library.units ++ (list_text name_text (own_names library)
    ++ (list_text tycon_text library.tycons ++ list_text member_text library.members))

anything_of : {A : Type 0} (xs : List A) → EachOf Anything xs
anything_of [] = tt
anything_of (x ∷ xs) = (tt, anything_of xs)

-- the scheme of the member is one
abbrev pub HasScheme : Member → Type 0
HasScheme member = IsScheme member.scheme

members_sound : (names : List TypeName) → IsSound (members_at names) (list_text member_text) Anything (EachOf HasScheme)
unfolding members_at
members_sound names from members to fits e =
    let read = charged member_weight (member_at names) in
    let b = bind_some (number_at from) (members, to) e in
    let s = number_sound from b.0.0 b.0.1 fits b.1 in
    let within = kept (nat_lt 100000 b.0.0) (many read b.0.0 b.0.1) (members, to) b.2 in
    let t = many_sound read member_text Anything HasScheme (charged_sound member_weight
    (member_at names) member_text Anything HasScheme (member_sound names)) b.0.0 b.0.1 members to s.rest within in
    record {
      rest = t.rest;
      fact = tt;
      spelled = λ good. appended from.bytes (number_text (length members)) b.0.1.bytes
          (texts member_text members) to.bytes (s.spelled tt ∙ ap (λ k. number_text k ++ b.0.1.bytes) (sym t.fact.0))
          (t.spelled good);
    }
  where
    kept : (b : Bool) (o : Option (List Member × Rest)) (y : List Member × Rest) → (if b then None else o) ≡ Some y
        → o ≡ Some y
    kept true o y e = absurd cc
    kept false o y e = e

ended : (bytes : List ℕ) (x y : Library × Rest) → (if eqb (length bytes) 0 then Some x else None) ≡ Some y
    → (bytes ≡ []) × (x ≡ y)
ended bytes x y e = let g = passed (eqb (length bytes) 0) e in (nil_from_length bytes (eqb-true _ _ g.0), g.1)
  where
    passed : (b : Bool) → (if b then Some x else None) ≡ Some y → (b ≡ true) × (x ≡ y)
    passed true e = (refl, some_is x y e)
    passed false e = absurd cc

-- a library that is read, whose members have schemes, is spelled by all of the bytes
pub library_sound : (from : Rest) (library : Library) (to : Rest) → IsBytes from.bytes → library_at from ≡ Some
    (library, to) → EachOf HasScheme library.members → from.bytes ≡ parts_text library
unfolding library_at names_at
library_sound from library to fits e good =
    let b = bind_some (list_at (charged unit_weight unit_at) from) (library, to) e in
    let c = bind_some (with_front initial_names (list_at (charged name_weight name_at) b.0.1)) (library, to) b.2 in
    let n = bind_some (list_at (charged name_weight name_at) b.0.1) c.0 c.1 in
    let names-are = some_is (initial_names ++ n.0.0, n.0.1) c.0 n.2 in
    let d = bind_some (list_at (charged tycon_weight (tycon_at c.0.0)) c.0.1) (library, to) c.2 in
    let f = bind_some (members_at c.0.0 d.0.1) (library, to) d.2 in
    let made : Library = record { units = b.0.0; names = c.0.0; tycons = d.0.0; members = f.0.0 } in
    let g = ended f.0.1.bytes (made, f.0.1) (library, to) f.2 in
    let s = list_sound (charged unit_weight unit_at) unit_text Anything Anything
    (charged_sound unit_weight unit_at unit_text Anything Anything unit_sound) from b.0.0 b.0.1 fits b.1 in
    let t = list_sound (charged name_weight name_at) name_text Anything Anything
    (charged_sound name_weight name_at name_text Anything Anything name_sound) b.0.1 n.0.0 n.0.1 s.rest n.1 in
    let rest-is : n.0.1.bytes ≡ c.0.1.bytes = ap (λ (p : List TypeName × Rest). p.1.bytes) names-are in
    let own-are : n.0.0 ≡ own_names made = ap (λ (p : List TypeName × Rest). drop 14 p.0) names-are in
    let u = list_sound (charged tycon_weight (tycon_at c.0.0)) tycon_text Anything Anything
    (charged_sound tycon_weight (tycon_at c.0.0) tycon_text Anything Anything
    (tycon_sound c.0.0)) c.0.1 d.0.0 d.0.1 (subst IsBytes rest-is t.rest) d.1 in
    let members-are : f.0.0 ≡ library.members = ap (λ (p : Library × Rest). p.0.members) g.1 in
    let v = members_sound c.0.0 d.0.1 f.0.0 f.0.1 u.rest f.1 in
    let last : d.0.1.bytes ≡ list_text member_text f.0.0 = v.spelled (subst (EachOf HasScheme) (sym members-are) good)
    ∙ ap (λ r. list_text member_text f.0.0 ++ r) g.0 ∙ append-nil (list_text member_text f.0.0) in
    let whole : from.bytes ≡ parts_text made =
    s.spelled (anything_of b.0.0) ∙ ap (λ r. list_text unit_text b.0.0 ++ r) (t.spelled (anything_of n.0.0)
    ∙ (λ i. list_text name_text (own-are i) ++ rest-is i) ∙ ap (λ r. list_text name_text (own_names made) ++ r)
    (u.spelled (anything_of d.0.0) ∙ ap (λ r. list_text tycon_text d.0.0 ++ r) last)) in
    whole ∙ ap (λ (p : Library × Rest). parts_text p.0) g.1

-- a library of which all parts have texts
pub record FitsLibrary (library : Library) : Type 0 where
  pub initial : library.names ≡ initial_names ++ own_names library
  pub few_units : length library.units < 2 ^ 32
  pub units : EachOf (λ u. HasLength u.id) library.units
  pub few_own : length (own_names library) < 2 ^ 32
  pub few_names : length library.names < 2 ^ 32
  pub names : EachOf FitsName (own_names library)
  pub few_tycons : length library.tycons < 2 ^ 32
  pub tycons : EachOf (FitsTycon library.names) library.tycons
  pub few_members : length library.members ≤ 100000
  pub members : EachOf (FitsMember library.names) library.members
  pub weight : sum_of (map unit_weight library.units) + (sum_of (map name_weight (own_names library)) +
      (sum_of (map tycon_weight library.tycons) + sum_of (map member_weight library.members))) ≤ 8000000

members_complete : (names : List TypeName) → length names < 2 ^ 32 → (members : List Member) (left after : ℕ)
    (bytes : List ℕ) → length members ≤ 100000 → EachOf (FitsMember names) members → left ≡ sum_of
    (map member_weight members) + after
    → members_at names (ahead left (list_text member_text members ++ bytes)) ≡ Some (members, ahead after bytes)
unfolding members_at
members_complete names few members left after bytes most fits e =
    let first = number_complete (length members) left (texts member_text members ++ bytes) (omega (arith, most)) in
    let enough : nat_lt 100000 (length members) ≡ false = le-ltb 100000 (length members) most in
    let read = many_complete (charged member_weight (member_at names)) member_text member_weight (FitsMember names)
    (charged_complete member_weight (member_at names) member_text (FitsMember names)
    (member_complete names few)) members left after bytes fits e in
    ap (λ t. members_at names (ahead left t)) (append_assoc (number_text (length members))
    (texts member_text members) bytes) ∙ rw (first, enough, read) refl

pub library_complete : (library : Library) → FitsLibrary library → (after : Rest)
    × (library_at (ahead 8000000 (parts_text library)) ≡ Some (library, after))
unfolding library_at names_at
library_complete library fits =
    let own = own_names library in
    let names = library.names in
    let wu = sum_of (map unit_weight library.units) in
    let wn = sum_of (map name_weight own) in
    let wt = sum_of (map tycon_weight library.tycons) in
    let wm = sum_of (map member_weight library.members) in
    let left = 8000000 - (wu + (wn + (wt + wm))) in
    let members_bytes = list_text member_text library.members in
    let tycons_bytes = list_text tycon_text library.tycons ++ members_bytes in
    let names_bytes = list_text name_text own ++ tycons_bytes in
    let units = list_complete (charged unit_weight unit_at) unit_text unit_weight (λ u. HasLength u.id)
    (charged_complete unit_weight unit_at unit_text (λ u. HasLength u.id) unit_complete) library.units 8000000
    (wn + (wt + (wm + left))) names_bytes fits.few_units fits.units (omega (arith, fits.weight)) in
    let named = list_complete (charged name_weight name_at) name_text name_weight FitsName
    (charged_complete name_weight name_at name_text FitsName name_complete) own (wn + (wt + (wm + left)))
    (wt + (wm + left)) tycons_bytes fits.few_own fits.names refl in
    let all_named : with_front initial_names (list_at (charged name_weight name_at)
    (ahead (wn + (wt + (wm + left))) names_bytes)) ≡ Some (names, ahead (wt + (wm + left)) tycons_bytes) =
    ap (with_front initial_names) named
    ∙ ap (λ ns. Some (ns, ahead (wt + (wm + left)) tycons_bytes)) (sym fits.initial) in
    let tycons = list_complete (charged tycon_weight (tycon_at names)) tycon_text tycon_weight (FitsTycon names)
    (charged_complete tycon_weight (tycon_at names) tycon_text (FitsTycon names)
    (tycon_complete names fits.few_names)) library.tycons (wt + (wm + left))
    (wm + left) members_bytes fits.few_tycons fits.tycons refl in
    let members : members_at names (ahead (wm + left) members_bytes) ≡ Some (library.members, ahead left []) =
    ap (λ t. members_at names (ahead (wm + left) t)) (sym (append-nil members_bytes))
    ∙ members_complete names fits.few_names library.members
    (wm + left) left [] fits.few_members fits.members refl in
    (ahead left [], rw (units, all_named, tycons, members) refl)
