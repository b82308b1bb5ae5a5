-- Words of the command line: settings and names.
use Rattle.std.specs.Prelude.{ℕ, Bool, true, false, ◌&&◌, cond, nat_eq, nat_le, List, [], ◌∷◌, Option, Some, None, map}
use Rattle.std.specs.Prelude.{string_bytes}
use Rattle.std.specs.Str.{bytes_eq}
use Rattle.std.specs.declared.string.String.{String}
use Rattle.std.specs.declared.alloc.Global.{Global}

-- words are lists of bytes
abbrev pub Text : Type 0
Text = List ℕ

-- the texts of the words
abbrev pub texts : List (String Global) → List Text
texts words = map string_bytes words

-- a byte is one of the letters a to z
abbrev pub is_letter : ℕ → Bool
is_letter b = nat_le 97 b && nat_le b 122

-- each byte is a letter
abbrev pub all_letters : Text → Bool
all_letters [] = true
all_letters (b ∷ bytes) = is_letter b && all_letters bytes

-- a key is one or more letters
abbrev pub is_key : Text → Bool
is_key [] = false
is_key (b ∷ bytes) = all_letters (b ∷ bytes)

-- a byte in front of what stands before the first `=`
abbrev pub onto_front : ℕ → Option (Text × Text) → Option (Text × Text)
onto_front b None = None
onto_front b (Some p) = Some (b ∷ p.0, p.1)

-- what stands before the first `=` of a word, and what stands behind it
abbrev pub equals_split : Text → Option (Text × Text)
equals_split [] = None
equals_split (b ∷ bytes) = cond (nat_eq b 61) (Some ([], bytes)) (onto_front b (equals_split bytes))

-- two parts are a key and a value where the first one is a key
abbrev pub keyed : Option (Text × Text) → Option (Text × Text)
keyed None = None
keyed (Some p) = cond (is_key p.0) (Some p) None

-- the key and the value of a word that is a setting; a word that isn't is a name
abbrev pub setting : Text → Option (Text × Text)
setting word = keyed (equals_split word)

-- there are no two such parts
abbrev pub is_absent : Option (Text × Text) → Bool
is_absent None = true
is_absent (Some p) = false

-- a word that isn't a setting is a name
abbrev pub is_name : Text → Bool
is_name word = is_absent (setting word)

-- the names among the words, in their order
abbrev pub names_of : List Text → List Text
names_of [] = []
names_of (word ∷ words) = cond (is_name word) (word ∷ names_of words) (names_of words)

-- the value that goes with the key, where the two parts have that key
abbrev pub value_by : Text → Option (Text × Text) → Option Text
value_by key None = None
value_by key (Some p) = cond (bytes_eq p.0 key) (Some p.1) None

-- the first of two values that is there
abbrev pub or_else : Option Text → Option Text → Option Text
or_else None more = more
or_else (Some value) more = Some value

-- the value of the first setting among the words that has this key
abbrev pub value_of : List Text → Text → Option Text
value_of [] key = None
value_of (word ∷ words) key = or_else (value_by key (setting word)) (value_of words key)

-- there is one
abbrev pub is_there : Option Text → Bool
is_there None = false
is_there (Some value) = true

-- a setting with this key stands among the words
abbrev pub sets : List Text → Text → Bool
sets words key = is_there (value_of words key)
