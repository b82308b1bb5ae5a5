-- Names of models are ASCII, so they are text.
use Rattle.std.proofs.Common.{◌≡◌, ◌<◌, ℕ, zero, suc, Bool, true, false, List, [], ◌∷◌, refl, arith, get_or}
use Rattle.std.specs.Prelude.{◌&&◌, IsUtf8}
use Rattle.std.specs.Str.{IsAscii}
use Rattle.std.specs.List.{list_all}
use Rattle.std.proofs.lemmas.Bool.Decides.{nat_tests}
use Rattle.std.proofs.lemmas.Str.{IsUtf8-from_ascii}
use Rattle.combined_graph.specs.Mixes.{is_name_byte, is_name}

name_byte : (b : ℕ) → is_name_byte b ≡ true → b < 128
name_byte b h = grind (arith, nat_tests, h)

ascii_bytes : (name : List ℕ) → list_all is_name_byte name ≡ true → IsAscii name
ascii_bytes [] h i = omega arith
ascii_bytes (b ∷ name) h i = by (is_name_byte b) refl h (ascii_bytes name) i
  where
    by : (t : Bool) → is_name_byte b ≡ t → (t && list_all is_name_byte name) ≡ true
        → (list_all is_name_byte name ≡ true → IsAscii name) → (i : ℕ) → get_or (b ∷ name) i 0 < 128
    by true e rest go zero = name_byte b e
    by true e rest go (suc i) = go rest i
    by false e rest go i = cc rest

-- three truths joined
last_of : (a b c : Bool) → (a && (b && c)) ≡ true → c ≡ true
last_of true true c h = h
last_of true false c h = cc h
last_of false b c h = cc h

pub name_text : (name : List ℕ) → is_name name ≡ true → IsUtf8 name
name_text name h = IsUtf8-from_ascii name (ascii_bytes name (last_of _ _ _ h))
