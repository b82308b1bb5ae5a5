-- A list of names that grows by a name at its end.
use Rattle.std.specs.Prelude.{ℕ, nat_eq, Bool, cond, codes, List, [], ◌++◌, length}

-- what stands between a list and a name behind it
abbrev pub between : List ℕ → List ℕ
between list = cond (nat_eq (length list) 0) [] (codes "; ")

-- a list with a name behind it
abbrev pub with_member : List ℕ → List ℕ → List ℕ
with_member list name = list ++ (between list ++ name)

-- the same where it is wanted
abbrev pub member_if : List ℕ → Bool → List ℕ → List ℕ
member_if list wanted name = cond wanted (with_member list name) list
