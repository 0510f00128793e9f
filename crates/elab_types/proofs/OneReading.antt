-- One thing comes of a text.
use Rattle.std.proofs.Common.{◌≡◌, ℕ, ◌+◌, ◌<◌, ◌≤◌, List, ◌++◌, length, take, drop, sym, ap, subst, ◌∙◌, arith, append_assoc}
use Rattle.std.specs.Prelude.{Result}
use Rattle.std.proofs.lemmas.List.{length-map, take-append-drop, take-take}
use Rattle.std.proofs.lemmas.Option.{slice_get_within}
use Rattle.elab_types.specs.Sources.{texts_of}
use Rattle.sml_lexer.specs.declared.token.LexRefusal.{LexRefusal}
use Rattle.sml_lexer.specs.declared.token.Token.{Token}
use Rattle.sml_lexer.specs.Refusals.{Refuses as RefusesText}
use Rattle.sml_lexer.specs.Tokens.{tokens as tokens_of}
use Rattle.ty_parser.specs.declared.sort.Sort.{Sort}
use Rattle.ty_parser.specs.declared.tree.ParseRefusal.{ParseRefusal}
use Rattle.ty_parser.specs.declared.tree.ParseRefusal.TheVariants as parsing
use Rattle.ty_parser.specs.Phrases.{Begins, IsShallow, StopsAt, TooDeepAt, Refuses as RefusesSorts}
use Rattle.ty_parser.specs.Sorts.{sort_of, sorts_of}
use Rattle.elab_types.specs.declared.fault.TextFault.{TextFault}
use Rattle.elab_types.specs.declared.fault.TextRefusal.{TextRefusal}
use Rattle.elab_types.specs.declared.fault.TextRefusal.TheVariants as text
use Rattle.elab_types.specs.Stages.{Flaw, Language, Reads, by_tokens, by_phrase, by_meaning, of_lexer, of_parser, placed, refused}

-- what the lexer says of every text
pub record Lexing : Type 0 where
  pub one_list : (bytes : List ℕ) (ts us : List Token) → tokens_of bytes ts → tokens_of bytes us → ts ≡ us
  pub no_refusal : (bytes : List ℕ) (ts : List Token) (refusal : LexRefusal) → tokens_of bytes ts → RefusesText bytes refusal → ⊥
  pub one_refusal : (bytes : List ℕ) (refusal other : LexRefusal) → RefusesText bytes refusal → RefusesText bytes other → refusal ≡ other

-- what a grammar says of every list of sorts
abbrev pub OneTree : {Tree : Type 0} → (List Sort → Tree → Type 0) → Type 0
OneTree {Tree = Tree} phrase = (ss : List Sort) (e f : Tree) → phrase ss e → phrase ss f → e ≡ f

-- want of memory is no fault of a text
wanted_not : (w : TextFault) (k : ℕ) → text.NoMemory ≡ text.Refused w k → ⊥
wanted_not w k e = cc

module _ {Tree : Type 0} (phrase : List Sort → Tree → Type 0) where
  -- fewer sorts begin a phrase where more do
  begins_fewer : (ss : List Sort) (j k : ℕ) → j ≤ k → Begins phrase (take k ss) → Begins phrase (take j ss)
  begins_fewer ss j k le (more, e, whole) =
      let front : take k ss ≡ take j ss ++ drop j (take k ss) = sym (take-append-drop j (take k ss)) ∙ ap (λ xs. xs ++ drop j (take k ss)) (take-take j k ss le) in
      (drop j (take k ss) ++ more, e, subst (λ xs. phrase xs e) (ap (λ xs. xs ++ more) front ∙ append_assoc (take j ss) (drop j (take k ss)) more) whole)

  stop_before_not : (ss : List Sort) (j k : ℕ) → StopsAt phrase ss j → Begins phrase (take k ss) → k ≤ length ss → j < k → ⊥
  stop_before_not ss j k stops begins within lt = stops.reaches.next (omega (arith, lt, within)) (begins_fewer ss (j + 1) k (omega (arith, lt)) begins)

  one_stop : (ss : List Sort) (j k : ℕ) → StopsAt phrase ss j → StopsAt phrase ss k → j ≡ k
  one_stop ss j k a b =
      let below = stop_before_not ss j k a b.reaches.front b.reaches.within in
      let above = stop_before_not ss k j b a.reaches.front a.reaches.within in
      omega (arith, below, above)

  -- a token that is too deep stands among the sorts
  deep_within : (ss : List Sort) (k : ℕ) → TooDeepAt phrase 0 ss k → k < length ss
  deep_within ss k deep = slice_get_within ss k deep.sort deep.there

  one_depth : (ss : List Sort) (j k : ℕ) → RefusesSorts phrase ss (parsing.TooDeep j) → RefusesSorts phrase ss (parsing.TooDeep k) → j ≡ k
  one_depth ss j k a b =
      let below : j < k → ⊥ = λ lt. b.1 j lt a.0 in
      let above : k < j → ⊥ = λ lt. a.1 k lt b.0 in
      omega (arith, below, above)

  stop_deep_not : (ss : List Sort) (j k : ℕ) → RefusesSorts phrase ss (parsing.Syntax j) → RefusesSorts phrase ss (parsing.TooDeep k) → ⊥
  stop_deep_not ss j k (stops, shallow) (deep, front) =
      let before : k < j → ⊥ = λ lt. shallow k lt deep in
      let within = deep_within ss k deep in
      stop_before_not ss j (k + 1) stops deep.allowed (omega (arith, within)) (omega (arith, before))

  -- the sorts are no phrase for one reason, want of memory aside
  one_phrase_refusal : (bytes : List ℕ) (ts : List Token) (a b : ParseRefusal) (v w : TextFault) (j k : ℕ) → RefusesSorts phrase (sorts_of bytes ts) a → RefusesSorts phrase (sorts_of bytes ts) b
      → of_parser bytes ts a ≡ text.Refused v j → of_parser bytes ts b ≡ text.Refused w k → a ≡ b
  one_phrase_refusal bytes ts (parsing.Syntax j) (parsing.Syntax k) v w m n a b e f = ap parsing.Syntax (one_stop (sorts_of bytes ts) j k a.0 b.0)
  one_phrase_refusal bytes ts (parsing.Syntax j) (parsing.TooDeep k) v w m n a b e f = absurd (stop_deep_not (sorts_of bytes ts) j k a b)
  one_phrase_refusal bytes ts (parsing.TooDeep j) (parsing.Syntax k) v w m n a b e f = absurd (stop_deep_not (sorts_of bytes ts) k j b a)
  one_phrase_refusal bytes ts (parsing.TooDeep j) (parsing.TooDeep k) v w m n a b e f = ap parsing.TooDeep (one_depth (sorts_of bytes ts) j k a b)
  one_phrase_refusal bytes ts (parsing.Syntax j) parsing.NoMemory v w m n a b e f = absurd (wanted_not w n f)
  one_phrase_refusal bytes ts (parsing.TooDeep j) parsing.NoMemory v w m n a b e f = absurd (wanted_not w n f)
  one_phrase_refusal bytes ts parsing.NoMemory b v w m n a c e f = absurd (wanted_not v m e)

  -- sorts that are a phrase without a token that is too deep aren't refused
  phrase_refused_not : (bytes : List ℕ) (ts : List Token) (e : Tree) (r : ParseRefusal) (w : TextFault) (k : ℕ) → phrase (sorts_of bytes ts) e → IsShallow phrase 0 (sorts_of bytes ts) (length (sorts_of bytes ts))
      → RefusesSorts phrase (sorts_of bytes ts) r → of_parser bytes ts r ≡ text.Refused w k → ⊥
  phrase_refused_not bytes ts e (parsing.Syntax k) w n is shallow refused f = refused.0.no_phrase e is
  phrase_refused_not bytes ts e (parsing.TooDeep k) w n is shallow refused f = shallow k (deep_within (sorts_of bytes ts) k refused.0) refused.0
  phrase_refused_not bytes ts e parsing.NoMemory w n is shallow refused f = wanted_not w n f

-- the fault and the place of a refusal
told : (r : TextRefusal) (v w : TextFault) (j k : ℕ) → r ≡ text.Refused v j → r ≡ text.Refused w k → (v ≡ w) × (j ≡ k)
told r v w j k e f = let same : text.Refused v j ≡ text.Refused w k = sym e ∙ f in (cc, cc)

module _ {Why Tree Meaning : Type 0} (language : Language Why Tree Meaning) (lexing : Lexing) (one_tree : OneTree language.phrase) (bytes : List ℕ) where
  phrase_fault_not : (ts us : List Token) (e : Tree) (r : ParseRefusal) (w : TextFault) (k : ℕ) → tokens_of bytes ts → tokens_of bytes us → language.phrase (sorts_of bytes ts) e
      → IsShallow language.phrase 0 (sorts_of bytes ts) (length ts) → RefusesSorts language.phrase (sorts_of bytes us) r → of_parser bytes us r ≡ text.Refused w k → ⊥
  phrase_fault_not ts us e r w k x y is shallow refused f =
      let long : length ts ≡ length (sorts_of bytes ts) = sym (length-map ts (sort_of bytes)) in
      let same : us ≡ ts = lexing.one_list bytes us ts y x in
      phrase_refused_not language.phrase bytes ts e r w k is (subst (λ n. IsShallow language.phrase 0 (sorts_of bytes ts) n) long shallow)
      (subst (λ xs. RefusesSorts language.phrase (sorts_of bytes xs) r) same refused)
      (ap (λ xs. of_parser bytes xs r) (sym same) ∙ f)

  same_flaw : (v w : TextFault) (j k : ℕ) → (v ≡ w) × (j ≡ k) → refused {Meaning = Meaning} (language.of_text v) j ≡ refused (language.of_text w) k
  same_flaw v w j k (e, f) = λ i. refused (language.of_text (e i)) (f i)

  -- one thing comes of a text
  pub one_reading : (a b : Result Meaning (Flaw Why)) → Reads language bytes a → Reads language bytes b → a ≡ b
  one_reading a b (by_tokens r {wrong = v} {place = j} x e) (by_tokens s {wrong = w} {place = k} y f) =
      same_flaw v w j k (told (of_lexer s) v w j k (ap of_lexer (lexing.one_refusal bytes s r y x) ∙ e) f)
  one_reading a b (by_tokens r x e) (by_phrase us s y reason f) = absurd (lexing.no_refusal bytes us r y x)
  one_reading a b (by_tokens r x e) (by_meaning us t y is shallow) = absurd (lexing.no_refusal bytes us r y x)
  one_reading a b (by_phrase ts r x reason e) (by_tokens s y f) = absurd (lexing.no_refusal bytes ts s x y)
  one_reading a b (by_phrase ts r {wrong = v} {place = j} x reason e) (by_phrase us s {wrong = w} {place = k} y other f) =
      let same : us ≡ ts = lexing.one_list bytes us ts y x in
      let f' : of_parser bytes ts s ≡ text.Refused w k = ap (λ xs. of_parser bytes xs s) (sym same) ∙ f in
      let one : s ≡ r = one_phrase_refusal language.phrase bytes ts s r w v k j (subst (λ xs. RefusesSorts language.phrase (sorts_of bytes xs) s) same other) reason f' e in
      same_flaw v w j k (told (of_parser bytes ts s) v w j k (ap (of_parser bytes ts) one ∙ e) f')
  one_reading a b (by_phrase ts r {wrong = v} {place = j} x reason e) (by_meaning us t y is shallow) = absurd (phrase_fault_not us ts t r v j y x is shallow reason e)
  one_reading a b (by_meaning ts t x is shallow) (by_tokens s y f) = absurd (lexing.no_refusal bytes ts s x y)
  one_reading a b (by_meaning ts t x is shallow) (by_phrase us s {wrong = w} {place = k} y reason f) = absurd (phrase_fault_not ts us t s w k x y is shallow reason f)
  one_reading a b (by_meaning ts t x is shallow) (by_meaning us u y also deep) =
      let same : ts ≡ us = lexing.one_list bytes ts us x y in
      let tree : t ≡ u = one_tree (sorts_of bytes ts) t u is (subst (λ xs. language.phrase (sorts_of bytes xs) u) (sym same) also) in
      λ i. placed bytes (same i) (language.meaning (texts_of bytes (same i)) (tree i))
