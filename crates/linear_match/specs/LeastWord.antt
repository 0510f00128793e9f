-- Words that succeed, and the instance of the least of them.
use Rattle.std.specs.Prelude.{◌≡◌, ℕ, List}
use Rattle.type_core.specs.declared.names.TypeName.{TypeName}
use Rattle.type_core.specs.declared.ty.Scheme.{Scheme}
use Rattle.type_core.specs.declared.ty.Ty.{Ty}
use Rattle.type_core.specs.declared.ty.Ty.TheViews.{out-Ty}
use Rattle.type_core.specs.Substitution.{substituted}
use Rattle.iso_normal.specs.Factors.{factors}
use Rattle.iso_normal.specs.WordOrder.{IsNotAfter}
use Rattle.linear_match.specs.Instances.{RespectsMarks}
use Rattle.linear_match.specs.Meetings.{AreConsistent, Meeting, bindings}
use Rattle.linear_match.specs.Splits.{Splits}

-- the word succeeds with these meetings: it splits the factors of the type along the scheme's body, its meetings are
-- consistent, and what each variable with the mark is bound to admits equality
pub record Succeeds (names : List TypeName) (pattern : Scheme) (subject : Ty) (word : List ℕ)
    (ms : List Meeting) : Type 0 where
  pub splits : Splits (out-Ty pattern.body) (factors subject) word ms
  pub consistent : AreConsistent ms
  pub marks : RespectsMarks names pattern.body (bindings pattern.vars ms)

-- the word succeeds and isn't after any other that does; the types are what it binds the scheme's variables to, and the
-- body is that of the scheme with these types
pub record IsFirst (names : List TypeName) (pattern : Scheme) (subject : Ty) (word : List ℕ) (by : List Ty)
    (body : Ty) : Type 0 where
  pub meetings : List Meeting
  pub succeeds : Succeeds names pattern subject word meetings
  pub least : (other : List ℕ) (ms : List Meeting) → Succeeds names pattern subject other ms → IsNotAfter word other
  pub bound : by ≡ bindings pattern.vars meetings
  pub filled : body ≡ substituted by pattern.body
