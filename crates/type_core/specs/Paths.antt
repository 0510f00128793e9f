-- Paths, by which names, type constructors and members are known.
use Rattle.std.specs.Prelude.{◌≡◌, ℕ, ◌⊎◌, List, ◌++◌, codes}
use Rattle.sig_base.specs.Identifiers.{IsIdentifier}
use Rattle.sig_base.specs.LongIdentifiers.{HasShortParts, IsLong, IsPath}

-- the last part of the path of a member: an identifier or `=`
abbrev pub IsMemberIdentifier : List ℕ → Type 0
IsMemberIdentifier text = IsIdentifier text ⊎ (text ≡ codes "=")

-- the last part of the path of a name or a type constructor: an identifier other than `*`
abbrev pub IsTypeIdentifier : List ℕ → Type 0
IsTypeIdentifier text = IsIdentifier text × ¬ (text ≡ codes "*")

-- what may stand for a type constructor in a type: an identifier, long or not, whose last part isn't `*`, each part of at most 255 bytes
abbrev pub IsLongTypeIdentifier : List ℕ → Type 0
IsLongTypeIdentifier text = IsLong IsTypeIdentifier text × HasShortParts text

-- the path of a member: at least two parts, each of at most 255 bytes
abbrev pub IsMemberPath : List ℕ → Type 0
IsMemberPath path = IsPath IsMemberIdentifier path × HasShortParts path

-- the path of a name or a type constructor: the same
abbrev pub IsTypePath : List ℕ → Type 0
IsTypePath path = IsPath IsTypeIdentifier path × HasShortParts path

-- the path begins with this identifier, which is its first part where the identifier is alphanumeric
abbrev pub BeginsWith : List ℕ → List ℕ → Type 0
BeginsWith identifier path = (rest : List ℕ) × (path ≡ identifier ++ codes "." ++ rest)
