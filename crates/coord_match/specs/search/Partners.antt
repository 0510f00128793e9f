-- The partner of a variable among bindings, and variables bound to themselves.
use Rattle.std.specs.Prelude.{ℕ, ◌==◌, if◌then◌else◌, List, [], ◌∷◌, ◌++◌, Option, Some, None}
use Rattle.type_core.specs.declared.ty.VarId.{VarId}
use Rattle.type_core.specs.Variables.{same_variable}
use Rattle.coord_match.specs.search.Bindings.{Bindings}

-- the variable to which v is bound
abbrev pub partner : VarId → Bindings → Option VarId
partner v [] = None
partner v (b ∷ s) = if same_variable b.from v then Some b.to else partner v s

-- the variable to which the one of this number is bound
abbrev pub partner_of_number : ℕ → List VarId → Bindings → Option VarId
partner_of_number n [] s = None
partner_of_number n (v ∷ vs) s = if v.n == n then partner v s else partner_of_number n vs s

-- the bindings, with v bound to itself where it has no partner
abbrev pub or_itself : Bindings → VarId → Option VarId → Bindings
or_itself s v (Some w) = s
or_itself s v None = s ++ record { from = v; to = v } ∷ []

-- the bindings, and each of the variables that they don't bind bound to itself
abbrev pub with_themselves : Bindings → List VarId → Bindings
with_themselves s [] = s
with_themselves s (v ∷ vs) = with_themselves (or_itself s v (partner v s)) vs
