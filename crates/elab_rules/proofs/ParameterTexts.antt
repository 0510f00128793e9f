-- Parameters that are looked at in turn.
use Rattle.std.proofs.Common.{◌≡◌, ℕ, ◌+◌, ◌<◌, Bool, true, false, not, ◌&&◌, is_some, if◌then◌else◌, List, [], ◌∷◌, ◌++◌, map, length, take, drop, get_or, bytes_eq, Option, Some, refl, sym, ap, ◌∙◌}
use Rattle.std.proofs.lemmas.List.{map-append, take_more}
use Rattle.elab_rules.specs.declared.refusal.Why.TheVariants.{RepeatedParameter}
use Rattle.elab_types.specs.Finding.{none_of}
use Rattle.elab_rules.specs.Outcome.{Outcome}
use Rattle.elab_types.specs.Outcome.{checked, failed}
use Rattle.elab_rules.specs.Parameters.{parameters_checked}
use Rattle.elab_types.specs.Sources.{text_at}
use Rattle.elab_types.proofs.Lists.{dropped}

-- ---- one more that was seen
and_more : (a b c : Bool) → (a && (b && c)) ≡ ((a && b) && c)
and_more true b c = refl
and_more false b c = refl

pub none_more : {A : Type 0} (test : A → Bool) (xs : List A) (x : A) → none_of test (xs ++ x ∷ []) ≡ (none_of test xs && not (test x))
none_more test [] x = and_true (not (test x))
  where
    and_true : (b : Bool) → (b && true) ≡ b
    and_true true = refl
    and_true false = refl
none_more test (y ∷ ys) x = ap (λ b. not (test y) && b) (none_more test ys x) ∙ and_more (not (test y)) (none_of test ys) (not (test x))

pub held_more : (same : Bool) (old : Option ℕ) (none : Bool) → is_some old ≡ not none → is_some (if same then Some 0 else old) ≡ not (none && not same)
held_more true old true h = refl
held_more true old false h = refl
held_more false old true h = h
held_more false old false h = h

texts_more : (texts : List (List ℕ)) (tokens : List ℕ) (n token d : ℕ) → n < length tokens → token ≡ get_or tokens n d → map (text_at texts) (take (n + 1) tokens) ≡ map (text_at texts) (take n tokens) ++ text_at texts token ∷ []
texts_more texts tokens n token d within is =
    ap (map (text_at texts)) (take_more tokens n d within)
    ∙ map-append (text_at texts) (take n tokens) (get_or tokens n d ∷ [])
    ∙ ap (λ t. map (text_at texts) (take n tokens) ++ text_at texts t ∷ []) (sym is)

pub seen_more : (texts : List (List ℕ)) (tokens : List ℕ) (n token d : ℕ) (text other : List ℕ) (old new : Option ℕ) → n < length tokens → token ≡ get_or tokens n d → text ≡ text_at texts token
    → is_some old ≡ not (none_of (bytes_eq other) (map (text_at texts) (take n tokens))) → new ≡ (if bytes_eq other text then Some 0 else old)
    → is_some new ≡ not (none_of (bytes_eq other) (map (text_at texts) (take (n + 1) tokens)))
seen_more texts tokens n token d text other old new within is t was now =
    ap is_some now
    ∙ held_more (bytes_eq other text) old (none_of (bytes_eq other) (map (text_at texts) (take n tokens))) was
    ∙ ap not (sym (none_more (bytes_eq other) (map (text_at texts) (take n tokens)) text)
    ∙ ap (λ x. none_of (bytes_eq other) (map (text_at texts) (take n tokens) ++ x ∷ [])) t
    ∙ ap (none_of (bytes_eq other)) (sym (texts_more texts tokens n token d within is)))

-- ---- the parameter whose turn it is
turn : (texts seen : List (List ℕ)) (tokens : List ℕ) (n token d : ℕ) → n < length tokens → token ≡ get_or tokens n d
    → parameters_checked texts seen (drop n tokens) ≡ checked (none_of (bytes_eq (text_at texts token)) seen) RepeatedParameter token (parameters_checked texts (seen ++ text_at texts token ∷ []) (drop (n + 1) tokens))
turn texts seen tokens n token d within is = ap (parameters_checked texts seen) (dropped tokens n token d within is)

pub none_is : (has none : Bool) (place : Option ℕ) (expected : Bool) → has ≡ is_some place → is_some place ≡ not none → has ≡ not expected → none ≡ expected
none_is has true place true a b c = refl
none_is has true place false a b c = cc
none_is has false place true a b c = cc
none_is has false place false a b c = refl

pub repeated : (texts : List (List ℕ)) (tokens : List ℕ) (n token d : ℕ) (text : List ℕ) (has : Bool) (place : Option ℕ) (whole : Outcome (Unit {0})) → n < length tokens → token ≡ get_or tokens n d → text ≡ text_at texts token
    → has ≡ is_some place → is_some place ≡ not (none_of (bytes_eq text) (map (text_at texts) (take n tokens))) → has ≡ true
    → parameters_checked texts (map (text_at texts) (take n tokens)) (drop n tokens) ≡ whole → whole ≡ failed RepeatedParameter token
repeated texts tokens n token d text has place whole within is t h p found so_far =
    sym so_far ∙ turn texts _ tokens n token d within is
    ∙ ap (λ b. checked b RepeatedParameter token (parameters_checked texts (map (text_at texts) (take n tokens) ++ text_at texts token ∷ []) (drop (n + 1) tokens)))
    (ap (λ x. none_of (bytes_eq x) (map (text_at texts) (take n tokens))) (sym t) ∙ none_is has _ place false h p found)

pub not_repeated : (texts : List (List ℕ)) (tokens : List ℕ) (n token d : ℕ) (text : List ℕ) (has : Bool) (place : Option ℕ) (whole : Outcome (Unit {0})) → n < length tokens → token ≡ get_or tokens n d → text ≡ text_at texts token
    → has ≡ is_some place → is_some place ≡ not (none_of (bytes_eq text) (map (text_at texts) (take n tokens))) → has ≡ false
    → parameters_checked texts (map (text_at texts) (take n tokens)) (drop n tokens) ≡ whole → parameters_checked texts (map (text_at texts) (take (n + 1) tokens)) (drop (n + 1) tokens) ≡ whole
not_repeated texts tokens n token d text has place whole within is t h p fresh so_far =
    ap (λ seen. parameters_checked texts seen (drop (n + 1) tokens)) (texts_more texts tokens n token d within is)
    ∙ sym (turn texts (map (text_at texts) (take n tokens)) tokens n token d within is
    ∙ ap (λ b. checked b RepeatedParameter token (parameters_checked texts (map (text_at texts) (take n tokens) ++ text_at texts token ∷ []) (drop (n + 1) tokens)))
    (ap (λ x. none_of (bytes_eq x) (map (text_at texts) (take n tokens))) (sym t) ∙ none_is has _ place true h p fresh))
    ∙ so_far
