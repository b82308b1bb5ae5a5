-- What the reading answers, from what it has read.
use Rattle.std.proofs.Common.{◌≡◌, ℕ, List, length, Ok, inl, inr, subst, sym}
use Rattle.line_instance.specs.Walks.{AreArcs}
use Rattle.line_instance.specs.Made.{AreTimes}
use Rattle.in2_reader.specs.Contents.{contents_from, lines_in}
use Rattle.in2_reader.specs.inner.Draft.{text_said, Fails}
use Rattle.in2_reader.specs.Grammar.{In2, IsIn2}
use Rattle.in2_reader.specs.Instance.{IsIn2Read, IsReadingOf, refusal}
use Rattle.in2_reader.specs.declared.fault.ReadError.{ReadError}
use Rattle.in2_reader.specs.declared.fault.ReadError.TheVariants as errors
use Rattle.in2_reader.specs.declared.instance.In2Read.{In2Read}
use Rattle.in2_reader.specs.declared.instance.In2Read.TheVariants.{Good, Fault, NoMemory}
use Rattle.in2_reader.proofs.GrammarFacts.{read_is_spelled}
use Rattle.in2_reader.proofs.FaultFacts.{fault_is_first}
use Rattle.in2_reader.proofs.Ranges.{times_in_range, arcs_in_range}

pub said_is_spelled : (bytes : List ℕ) (x : In2) → text_said bytes ≡ Ok x → IsIn2 bytes x
said_is_spelled bytes x e = read_is_spelled (lines_in 1 bytes) (contents_from 1 bytes) x e

pub times_right : (bytes : List ℕ) (x : In2) → text_said bytes ≡ Ok x → AreTimes x.times
times_right bytes x e = times_in_range (contents_from 1 bytes) x (said_is_spelled bytes x e)

pub arcs_right : (bytes : List ℕ) (x : In2) → text_said bytes ≡ Ok x → AreArcs (length x.times) x.arcs
arcs_right bytes x e = arcs_in_range (contents_from 1 bytes) x (said_is_spelled bytes x e)

pub answered : (bytes : List ℕ) (x : In2) (r : In2Read) → text_said bytes ≡ Ok x → IsReadingOf x r → IsIn2Read bytes r
answered bytes x (Good line) e h = record { x = x; reads = said_is_spelled bytes x e; is = h }
answered bytes x (Fault f) e h = inr (record {
  x = x;
  reads = said_is_spelled bytes x e;
  line = h.0;
  ring = h.1;
  kind = h.2;
  is_ring = h.3;
})
answered bytes x NoMemory e h = tt

pub not_read : (bytes : List ℕ) (e : ReadError) (r : In2Read) → Fails e (text_said bytes) → r ≡ refusal e
    → IsIn2Read bytes r
not_read bytes errors.Memory r h w = subst (IsIn2Read bytes) (sym w) tt
not_read bytes (errors.Fault f) r h w = subst (IsIn2Read bytes) (sym w)
    (inl (fault_is_first (lines_in 1 bytes) (contents_from 1 bytes) f h))
