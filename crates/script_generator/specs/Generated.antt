-- The generated script: constructors of which each gives its two objects an origin and a property of their own.
use Rattle.std.specs.Prelude.{◌++◌, ℕ, zero, suc, List, [], codes}
use Rattle.std.specs.Fmt.{decimal}

-- `function Fk(x){this.a=x;this.bk=x;}`, with the number in decimal digits for each `k`
abbrev pub declaration : ℕ → List ℕ
declaration k = codes "function F" ++ decimal k ++ codes "(x){this.a=x;this.b" ++ decimal k ++ codes "=x;}\n"

-- `t=t+new Fk(k).a+new Fk(k).a;`
abbrev pub addition : ℕ → List ℕ
addition k =
    codes "t=t+new F" ++ decimal k ++ codes "(" ++ decimal k ++ codes ").a+new F" ++ decimal k ++ codes "(" ++ decimal k ++ codes ").a;\n"

abbrev pub lines_of : ℕ → List ℕ
lines_of k = declaration k ++ addition k

-- the lines of so many numbers, from k on
abbrev pub lines_from : ℕ → ℕ → List ℕ
lines_from k zero = []
lines_from k (suc count) = lines_of k ++ lines_from (suc k) count

-- a sum that starts at 0, the lines of each number from 1 to n, and the print of the sum
abbrev pub generated_script : ℕ → List ℕ
generated_script n = codes "let t=0;\n" ++ lines_from 1 n ++ codes "print(t);\n"
