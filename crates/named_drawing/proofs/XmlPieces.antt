-- Texts that are written of some content, part by part.
use Rattle.std.proofs.Common.{◌≡◌, ℕ, Bool, true, false, cond, ◌&&◌, List, [], ◌∷◌, ◌++◌, append_assoc, append-nil}
use Rattle.std.proofs.Common.{refl, sym}
use Rattle.std.proofs.Common.{ap, ◌∙◌, subst, codes}
use Rattle.std.specs.List.{list_all}
use Rattle.std.proofs.lemmas.Bool.{and_from}
use Rattle.line_drawing.specs.Parts.{text_of}
use Rattle.named_drawing.specs.Escapes.{escaped}
use Rattle.named_drawing.specs.Xml.{Attribute, Content, IsContent, IsTag, IsWellFormed, are_distinct, is_attribute}
use Rattle.named_drawing.specs.Xml.{is_value_byte, is_xml_name, written, written_attributes}
use Rattle.named_drawing.specs.Xml.Content.{Nothing, Words, Element}
use Rattle.named_drawing.proofs.XmlTexts.{AreShown, AreValues, Shown, value_of, words_of}

-- parts behind parts
pub text_of-append : (a b : List (List ℕ)) → text_of a ++ text_of b ≡ text_of (a ++ b)
text_of-append [] b = refl
text_of-append (p ∷ a) b = append_assoc p (text_of a) (text_of b) ∙ ap (λ t. p ++ t) (text_of-append a b)

-- a text as it is put together, and its parts one behind the other
pub data Shape : Type 0 where
  Single : (text : List ℕ) → Shape
  Several : (parts : List (List ℕ)) → Shape
  Joined : (first then : Shape) → Shape

abbrev pub shape_text : Shape → List ℕ
shape_text (Single t) = t
shape_text (Several ps) = text_of ps
shape_text (Joined a b) = shape_text a ++ shape_text b

abbrev pub flat : Shape → List (List ℕ)
flat (Single t) = t ∷ []
flat (Several ps) = ps
flat (Joined a b) = flat a ++ flat b

pub shape_flat : (s : Shape) → shape_text s ≡ text_of (flat s)
shape_flat (Single t) = sym (append-nil t)
shape_flat (Several ps) = refl
shape_flat (Joined a b) = ap (λ t. t ++ shape_text b) (shape_flat a) ∙ ap (λ t. text_of (flat a) ++ t) (shape_flat b)
    ∙ text_of-append (flat a) (flat b)

-- a text is written of some content, whatever stands behind it
pub record IsPiece (text : List ℕ) : Type 0 where
  pub make : Content → Content
  pub writes : (rest : Content) → written (make rest) ≡ text ++ written rest
  pub proper : (rest : Content) → IsContent rest → IsContent (make rest)

-- parts that are written of some content
abbrev pub ArePieces : List (List ℕ) → Type 0
ArePieces parts = IsPiece (text_of parts)

-- a text of this shape is such a piece where its parts are
pub piece_of : (s : Shape) (parts : List (List ℕ)) → text_of parts ≡ text_of (flat s) → ArePieces parts
    → IsPiece (shape_text s)
piece_of s parts e x = subst IsPiece (e ∙ sym (shape_flat s)) x

pub none : ArePieces []
none = record { make = λ c. c; writes = λ c. refl; proper = λ c h. h }

pub words : (text : List ℕ) → Shown text → IsPiece text
words text x = record {
  make = λ c. Words x.raw c;
  writes = λ c. ap (λ t. t ++ written c) x.same;
  proper = λ c k. (x.proper, k);
}

pub both : (a b : List ℕ) → IsPiece a → IsPiece b → IsPiece (a ++ b)
both a b x y = record {
  make = λ c. x.make (y.make c);
  writes = λ c. x.writes (y.make c) ∙ ap (λ t. a ++ t) (y.writes c) ∙ sym (append_assoc a b (written c));
  proper = λ c h. x.proper (y.make c) (y.proper c h);
}

pub either : (c : Bool) (a b : List ℕ) → IsPiece a → IsPiece b → IsPiece (cond c a b)
either true a b x y = x
either false a b x y = y

-- one piece, and more of them
pub one : (a : List ℕ) → IsPiece a → ArePieces (a ∷ [])
one a x = subst IsPiece (sym (append-nil a)) x

pub more : (a b : List (List ℕ)) → ArePieces a → ArePieces b → ArePieces (a ++ b)
more a b x y = subst IsPiece (text_of-append a b) (both (text_of a) (text_of b) x y)

-- an attribute by its name and the parts of its value
pub record Field : Type 0 where
  pub name : List ℕ
  pub parts : List (List ℕ)

abbrev pub attributes_of : List Field → List Attribute
attributes_of [] = []
attributes_of (f ∷ fs) = record { name = f.name; value = text_of f.parts } ∷ attributes_of fs

abbrev pub field_parts : List Field → List (List ℕ)
field_parts [] = []
field_parts (f ∷ fs) = codes " " ∷ f.name ∷ codes "=\"" ∷ (f.parts ++ (codes "\"" ∷ field_parts fs))

-- fields with names and values
abbrev pub AreFields : List Field → Type 0
AreFields [] = Unit {0}
AreFields (f ∷ fs) = ((is_xml_name f.name ≡ true) × AreValues f.parts) × AreFields fs

group_field : (b n e v q r : List ℕ) → ((((b ++ n) ++ e) ++ v) ++ q) ++ r ≡ b ++ (n ++ (e ++ (v ++ (q ++ r))))
group_field b n e v q r = simp append_assoc

written_fields : (fs : List Field) → written_attributes (attributes_of fs) ≡ text_of (field_parts fs)
written_fields [] = refl
written_fields (f ∷ fs) =
    let b : List ℕ = codes " " in
    let e : List ℕ = codes "=\"" in
    let q : List ℕ = codes "\"" in
    ap (λ t. ((((b ++ f.name) ++ e) ++ text_of f.parts) ++ q) ++ t) (written_fields fs)
    ∙ group_field b f.name e (text_of f.parts) q (text_of (field_parts fs))
    ∙ ap (λ t. b ++ (f.name ++ (e ++ t))) (text_of-append f.parts (q ∷ field_parts fs))

each_field : (fs : List Field) → AreFields fs → list_all is_attribute (attributes_of fs) ≡ true
each_field [] h = refl
each_field (f ∷ fs) h = and_from (is_xml_name f.name && list_all is_value_byte (text_of f.parts))
    (list_all is_attribute (attributes_of fs))
    (and_from (is_xml_name f.name) (list_all is_value_byte (text_of f.parts)) h.0.0 (value_of f.parts h.0.1))
    (each_field fs h.1)

-- a tag with these fields is well formed
pub tag_of : (name : List ℕ) (fs : List Field) → is_xml_name name ≡ true → AreFields fs
    → are_distinct (attributes_of fs) ≡ true → IsTag name (attributes_of fs)
tag_of name fs n h d = record { named = n; each = each_field fs h; distinct = d }

-- the parts of an element with words, and pieces behind them
abbrev pub element_parts : List ℕ → List Field → List (List ℕ) → List (List ℕ) → List (List ℕ)
element_parts name fs shown inside =
    codes "<" ∷ name ∷ (field_parts fs ++ (codes ">" ∷ (shown ++ (inside ++ (codes "</" ∷ name ∷ codes ">" ∷ [])))))

abbrev pub alone_parts : List ℕ → List Field → List (List ℕ)
alone_parts name fs = codes "<" ∷ name ∷ (field_parts fs ++ (codes "/>" ∷ []))

group_element : (l n w g s i e c z : List ℕ) → (((l ++ n) ++ w) ++ ((((g ++ (s ++ (i ++ []))) ++ e) ++ n) ++ c)) ++ z
    ≡ (l ++ (n ++ (w ++ (g ++ (s ++ (i ++ (e ++ (n ++ (c ++ []))))))))) ++ z
group_element l n w g s i e c z = simp (append_assoc, append-nil) refl

pub element : (name : List ℕ) (fs : List Field) (shown inside : List (List ℕ)) → is_xml_name name ≡ true → AreFields fs
    → are_distinct (attributes_of fs) ≡ true → AreShown shown → ArePieces inside
    → ArePieces (element_parts name fs shown inside)
element name fs shown inside n h d s x =
    let w : Shown (text_of shown) = words_of shown s in
    let l : List ℕ = codes "<" in
    let g : List ℕ = codes ">" in
    let e : List ℕ = codes "</" in
    let last : List (List ℕ) = e ∷ name ∷ g ∷ [] in
    let content : List ℕ → List ℕ = λ t. l ++ (name ++ t) in
    let parts : (l ++ (name
    ++ (text_of (field_parts fs) ++ (g ++ (text_of shown ++ (text_of inside ++ text_of last))))))
    ≡ text_of (element_parts name fs shown inside) =
    ap (λ t. l ++ (name ++ (text_of (field_parts fs) ++ (g ++ (text_of shown ++ t))))) (text_of-append inside last)
    ∙ ap (λ t. l ++ (name ++ (text_of (field_parts fs) ++ (g ++ t)))) (text_of-append shown (inside ++ last))
    ∙ ap content (text_of-append (field_parts fs) (g ∷ (shown ++ (inside ++ last)))) in
    record {
      make = λ c. Element name (attributes_of fs) (Words w.raw (x.make Nothing)) c;
      writes = λ c.
          ap (λ t. (((l ++ name) ++ t) ++ ((((g ++ (escaped w.raw ++ written (x.make Nothing))) ++ e) ++ name) ++ g))
          ++ written c) (written_fields fs)
          ∙ ap (λ t. (((l ++ name) ++ text_of (field_parts fs))
          ++ ((((g ++ (t ++ written (x.make Nothing))) ++ e) ++ name) ++ g)) ++ written c) w.same
          ∙ ap (λ t. (((l ++ name) ++ text_of (field_parts fs)) ++ ((((g ++ (text_of shown ++ t)) ++ e) ++ name) ++ g))
          ++ written c) (x.writes Nothing)
          ∙ group_element l name (text_of (field_parts fs)) g (text_of shown) (text_of inside) e g (written c)
          ∙ ap (λ t. t ++ written c) parts;
      proper = λ c k. (tag_of name fs n h d, ((w.proper, x.proper Nothing tt), k));
    }

-- a text that is one element, and the end of its line, is well-formed
pub root : (name : List ℕ) (fs : List Field) (shown inside : List (List ℕ)) → is_xml_name name ≡ true → AreFields fs
    → are_distinct (attributes_of fs) ≡ true → AreShown shown → ArePieces inside → (text : List ℕ)
    → text ≡ text_of (element_parts name fs shown inside ++ (codes "\n" ∷ []))
    → IsWellFormed text
unfolding element
root name fs shown inside n h d s x text e = record {
  name = name;
  attributes = attributes_of fs;
  inside = Words (words_of shown s).raw (x.make Nothing);
  tag = tag_of name fs n h d;
  content = ((words_of shown s).proper, x.proper Nothing tt);
  whole = e ∙ sym (text_of-append (element_parts name fs shown inside) (codes "\n" ∷ []))
      ∙ sym ((element name fs shown inside n h d s x).writes (Words (codes "\n") Nothing));
}

group_alone : (l n w c z : List ℕ) → (((l ++ n) ++ w) ++ c) ++ z ≡ (l ++ (n ++ (w ++ (c ++ [])))) ++ z
group_alone l n w c z = simp (append_assoc, append-nil) refl

-- an element without content
pub alone : (name : List ℕ) (fs : List Field) → is_xml_name name ≡ true → AreFields fs
    → are_distinct (attributes_of fs) ≡ true → ArePieces (alone_parts name fs)
alone name fs n h d =
    let l : List ℕ = codes "<" in
    let c : List ℕ = codes "/>" in
    record {
      make = λ r. Element name (attributes_of fs) Nothing r;
      writes = λ r.
          ap (λ t. (((l ++ name) ++ t) ++ c) ++ written r) (written_fields fs)
          ∙ group_alone l name (text_of (field_parts fs)) c (written r)
          ∙ ap (λ t. (l ++ (name ++ t)) ++ written r) (text_of-append (field_parts fs) (c ∷ []));
      proper = λ r k. (tag_of name fs n h d, (tt, k));
    }
