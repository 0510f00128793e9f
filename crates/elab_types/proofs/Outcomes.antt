-- The parts of an outcome that is no failure.
use Rattle.std.proofs.Common.{◌≡◌, ℕ, Bool, true, false, Option, Some, None, Ok, Err, refl}
use Rattle.elab_types.specs.Outcome.{Failure, Outcome, and_then, checked, required}

pub ok_is : {Why A : Type 0} (a b : A) → let o : Outcome Why A = Ok a in o ≡ Ok b → a ≡ b
ok_is a b e = cc

pub no_failure : {Why A : Type 0} (f : Failure Why) (a : A) → let o : Outcome Why A = Err f in o ≡ Ok a → ⊥
no_failure f a e = cc

pub then_parts : {Why A B : Type 0} (o : Outcome Why A) (next : A → Outcome Why B) (b : B) → and_then o next ≡ Ok b → (a : A) × (o ≡ Ok a) × (next a ≡ Ok b)
then_parts (Ok a) next b e = (a, refl, e)
then_parts (Err f) next b e = absurd (no_failure f b e)

pub checked_parts : {Why A : Type 0} (test : Bool) (why : Why) (token : ℕ) (rest : Outcome Why A) (a : A) → checked test why token rest ≡ Ok a → (test ≡ true) × (rest ≡ Ok a)
checked_parts true why token rest a e = (refl, e)
checked_parts false why token rest a e = absurd (no_failure _ a e)

pub required_parts : {Why A B : Type 0} (o : Option A) (why : Why) (token : ℕ) (next : A → Outcome Why B) (b : B) → required o why token next ≡ Ok b → (a : A) × (o ≡ Some a) × (next a ≡ Ok b)
required_parts None why token next b e = absurd (no_failure _ b e)
required_parts (Some a) why token next b e = (a, refl, e)
