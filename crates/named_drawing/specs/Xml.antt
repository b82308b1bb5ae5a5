-- Texts of XML: elements with attributes, and texts between them.
use Rattle.std.specs.Prelude.{◌≡◌, ℕ, Bool, true, false, ◌&&◌, ◌||◌, not, nat_eq, nat_le, List, [], ◌∷◌, ◌++◌, bytes_eq}
use Rattle.std.specs.Prelude.{codes}
use Rattle.std.specs.List.{list_all, list_any}
use Rattle.std.specs.Str.{encode_utf8_all}
use Rattle.named_drawing.specs.Escapes.{escaped}

-- an attribute of an element
pub record Attribute : Type 0 where
  pub name : List ℕ
  pub value : List ℕ

-- What stands in an element: nothing more; words, and what stands behind them; or an element, by its name, its
-- attributes and what stands in it, and what stands behind it.
pub data Content : Type 0 where
  Nothing : Content
  Words : (text : List ℕ) → (behind : Content) → Content
  Element : (name : List ℕ) → (attributes : List Attribute) → (inside behind : Content) → Content

-- attributes as they are written
abbrev pub written_attributes : List Attribute → List ℕ
written_attributes [] = []
written_attributes (a ∷ more) = codes " " ++ a.name ++ codes "=\"" ++ a.value ++ codes "\"" ++ written_attributes more

-- whether nothing stands there
abbrev pub is_empty : Content → Bool
is_empty Nothing = true
is_empty (Words text behind) = false
is_empty (Element name attributes inside behind) = false

-- the end of an element's first tag, what stands in it, and its last tag; without content one tag is enough
abbrev pub closed : List ℕ → Bool → List ℕ → List ℕ
closed name true inside = codes "/>"
closed name false inside = codes ">" ++ inside ++ codes "</" ++ name ++ codes ">"

-- The text of what stands in an element: words with the three signs that XML keeps for itself by their own words.
abbrev pub written : Content → List ℕ
written Nothing = []
written (Words text behind) = escaped text ++ written behind
written (Element name attributes inside behind) =
    codes "<" ++ name ++ written_attributes attributes ++ closed name (is_empty inside) (written inside)
    ++ written behind

-- a name of XML, of letters, digits, hyphens and colons, that begins with a letter
abbrev pub is_letter : ℕ → Bool
is_letter b = (nat_le 97 b && nat_le b 122) || (nat_le 65 b && nat_le b 90)

abbrev pub is_name_byte : ℕ → Bool
is_name_byte b = is_letter b || (nat_le 48 b && nat_le b 58) || nat_eq b 45

abbrev pub is_xml_name : List ℕ → Bool
is_xml_name [] = false
is_xml_name (b ∷ bs) = is_letter b && list_all is_name_byte bs

-- a byte that may stand in the value of an attribute: a sign of ASCII that XML doesn't keep for itself
abbrev pub is_value_byte : ℕ → Bool
is_value_byte b =
    (nat_le 32 b && nat_le b 126) && (not (nat_eq b 34) && (not (nat_eq b 38) && not (nat_eq b 60)))

abbrev pub is_attribute : Attribute → Bool
is_attribute a = is_xml_name a.name && list_all is_value_byte a.value

-- whether no two attributes have the same name
abbrev pub are_distinct : List Attribute → Bool
are_distinct [] = true
are_distinct (a ∷ more) = not (list_any (λ b. bytes_eq b.name a.name) more) && are_distinct more

-- a character that XML allows
abbrev pub is_xml_char : ℕ → Bool
is_xml_char c = nat_eq c 9 || (nat_eq c 10 || (nat_eq c 13 || ((nat_le 32 c && nat_le c 55295)
    || ((nat_le 57344 c && nat_le c 65533) || (nat_le 65536 c && nat_le c 1114111)))))

-- a text of such characters, in UTF-8
abbrev pub IsText : List ℕ → Type 0
IsText text = (characters : List ℕ) × ((encode_utf8_all characters ≡ text) × (list_all is_xml_char characters ≡ true))

-- a tag that is well formed
pub record IsTag (name : List ℕ) (attributes : List Attribute) : Type 0 where
  pub named : is_xml_name name ≡ true
  pub each : list_all is_attribute attributes ≡ true
  pub distinct : are_distinct attributes ≡ true

-- what stands in an element is well formed
abbrev pub IsContent : Content → Type 0
IsContent Nothing = Unit {0}
IsContent (Words text behind) = IsText text × IsContent behind
IsContent (Element name attributes inside behind) = IsTag name attributes × (IsContent inside × IsContent behind)

-- A text is well-formed XML where it is what is written of one element that is well formed, and the end of its line.
pub record IsWellFormed (text : List ℕ) : Type 0 where
  pub name : List ℕ
  pub attributes : List Attribute
  pub inside : Content
  pub tag : IsTag name attributes
  pub content : IsContent inside
  pub whole : text ≡ written (Element name attributes inside (Words (codes "\n") Nothing))
