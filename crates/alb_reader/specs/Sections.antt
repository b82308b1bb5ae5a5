-- The sections of an ALB text: headings, and the lines that stand under each.
use Rattle.std.specs.Prelude.{ℕ, Bool, true, false, ◌||◌, cond, nat_eq, List, [], ◌∷◌, map, Option, Some, None, codes}
use Rattle.std.specs.Str.{bytes_eq}
use Rattle.std.specs.Char.{to_ascii_lowercase}
use Rattle.in2_reader.specs.Contents.{Lines}
use Rattle.alb_reader.specs.declared.mark.Section.{Section}
use Rattle.alb_reader.specs.declared.mark.Section.TheVariants.{Tasks, Cycle, Strength, Times, Pairs}
use Rattle.alb_reader.specs.declared.mark.Mark.{Mark}
use Rattle.alb_reader.specs.declared.mark.Mark.TheVariants.{Heading, End, Unknown, Body}

-- a content begins with `<`
abbrev pub begins_heading : List ℕ → Bool
begins_heading [] = false
begins_heading (b ∷ bytes) = nat_eq b 60

-- what a heading, its letters in lower case, names
abbrev pub named : List ℕ → Mark
named heading =
    cond (bytes_eq heading (codes "<number of tasks>")) (Heading Tasks)
    (cond (bytes_eq heading (codes "<cycle time>")) (Heading Cycle)
    (cond (bytes_eq heading (codes "<order strength>")) (Heading Strength)
    (cond (bytes_eq heading (codes "<task times>")) (Heading Times)
    (cond (bytes_eq heading (codes "<precedence relations>")) (Heading Pairs)
    (cond (bytes_eq heading (codes "<end>")) End Unknown)))))

-- what a content is: a heading that begins with `<`, whose letters A to Z are read as a to z, or a line of a section
abbrev pub mark_of : List ℕ → Mark
mark_of content = cond (begins_heading content) (named (map to_ascii_lowercase content)) Body

-- a section is this one
abbrev pub is_same : Section → Section → Bool
is_same Tasks Tasks = true
is_same Cycle Cycle = true
is_same Strength Strength = true
is_same Times Times = true
is_same Pairs Pairs = true
is_same s t = false

abbrev pub is_in : Section → Option Section → Bool
is_in s None = false
is_in s (Some t) = is_same s t

-- the section that stands behind a mark, where lines stood in a section before it
abbrev pub section_by : Option Section → Mark → Option Section
section_by now (Heading s) = Some s
section_by now End = now
section_by now Unknown = now
section_by now Body = now

-- the section in which a line behind these lines stands, where the first of them stands in `now`: that of the last
-- heading
abbrev pub section_after : Option Section → Lines → Option Section
section_after now [] = now
section_after now (l ∷ lines) = section_after (section_by now (mark_of l.1)) lines

-- a line of a section, in front of others
abbrev pub kept : Bool → ℕ × List ℕ → Mark → Lines → Lines
kept here l (Heading s) lines = lines
kept here l End lines = lines
kept here l Unknown lines = lines
kept here l Body lines = cond here (l ∷ lines) lines

-- the lines of a section, where the first line stands in `now`
abbrev pub filed : Section → Option Section → Lines → Lines
filed s now [] = []
filed s now (l ∷ lines) = kept (is_in s now) l (mark_of l.1) (filed s (section_by now (mark_of l.1)) lines)

-- the lines that stand under the heading of a section
abbrev pub under : Section → Lines → Lines
under s lines = filed s None lines

-- a mark is the heading of this section
abbrev pub is_heading : Section → Mark → Bool
is_heading s (Heading t) = is_same s t
is_heading s End = false
is_heading s Unknown = false
is_heading s Body = false

-- the heading of a section stands among the lines
abbrev pub has_heading : Section → Lines → Bool
has_heading s [] = false
has_heading s (l ∷ lines) = is_heading s (mark_of l.1) || has_heading s lines

-- a content is the end mark
abbrev pub is_end_mark : Mark → Bool
is_end_mark (Heading s) = false
is_end_mark End = true
is_end_mark Unknown = false
is_end_mark Body = false

abbrev pub is_end : List ℕ → Bool
is_end content = is_end_mark (mark_of content)

-- the lines before the first end mark, and the number of its line, where there is one
abbrev pub before_end : Lines → Lines
before_end [] = []
before_end (l ∷ lines) = cond (is_end l.1) [] (l ∷ before_end lines)

abbrev pub end_line : Lines → Option ℕ
end_line [] = None
end_line (l ∷ lines) = cond (is_end l.1) (Some l.0) (end_line lines)
