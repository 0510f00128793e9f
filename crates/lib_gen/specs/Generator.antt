-- The text of a signature of so many values.
use Rattle.std.specs.Prelude.{ℕ, zero, suc, ◌%◌, ◌/◌, nat_eq, if◌then◌else◌, List, [], ◌++◌, codes, decimal}

-- the atoms of the numbers 0 to 4
abbrev pub atom : ℕ → List ℕ
atom n =
    if nat_eq n 0 then codes "int"
    else if nat_eq n 1 then codes "string"
    else if nat_eq n 2 then codes "bool"
    else if nat_eq n 3 then codes "char"
    else codes "word"

-- the functions of the numbers 0 to 3, which take x, y and a variable and give z
abbrev pub function : ℕ → List ℕ → List ℕ → List ℕ → List ℕ
function n x y z =
    if nat_eq n 0 then x ++ codes " -> 'a -> " ++ y ++ codes " -> " ++ z
    else if nat_eq n 1 then codes "'a * " ++ x ++ codes " * " ++ y ++ codes " -> " ++ z
    else if nat_eq n 2 then y ++ codes " * 'a -> " ++ x ++ codes " -> " ++ z
    else y ++ codes " * " ++ x ++ codes " -> 'a -> " ++ z

-- the type of the value of this number
abbrev pub value_type : ℕ → List ℕ
value_type i = function (i / 125 % 4) (atom (i % 5)) (atom (i / 5 % 5)) (atom (i / 25 % 5))

-- the line of the value of this number
abbrev pub value_line : ℕ → List ℕ
value_line i = codes "  val v" ++ decimal i ++ codes " : " ++ value_type i ++ codes "\n"

-- the lines of the values of the numbers below n
abbrev pub value_lines : ℕ → List ℕ
value_lines zero = []
value_lines (suc n) = value_lines n ++ value_line n

-- the signature of n values
abbrev pub generated : ℕ → List ℕ
generated n = codes "signature G = sig\n" ++ value_lines n ++ codes "end\n"
